-- The tests of a character or a pending operation on its numbers are those of the rules on what they stand for.
use Prim.Native.Nat.{ℕ, ◌+◌, ◌*◌, ◌/◌, ◌%◌, ◌≤◌, zero-le}
use native.Mathlib.Omega.{arith}
use mathlib.Core.Path.{◌≡◌, sym, ap, ap₂, ◌∙◌}
use mathlib.Core.Bool.{true, false, ◌&&◌, ◌||◌, not, and-true}
use borrow.Author.Tests.{leb-true, le-leb, eqb-true, eqb-false, eq-eqb, ne_eqb, not-true, ltb-true, lt-ltb}
use lib.Dec.{leb, ltb, eqb}
use Rattle.lists.proofs.Tests.{agree, and_left_lem, and_right, and_intro, not-intro, three}
use Rattle.woot.specs.Identifiers.{begin, end, same}
use Rattle.woot.specs.Operations.{origin}
use Rattle.woot.specs.Ranges.{within, site_number, is_code_point, character_id, previous_id, next_id, insert_in_range, toggle_in_range, in_range, character_in_range}
use Rattle.convergence.proofs.Ranges.{within_low, within-high, to-within}
use Rattle.ranges.proofs.Laws.{within_first}
use Rattle.index.proofs.Keys.{key-begin, key-end, key-same}
use Rattle.woot.specs.Memory.{identifier, character_of, operation_of}
use Rattle.memory.proofs.Characters.{key-identifier, identifier-small}

pub key_ranged : (k : ℕ) → (leb 65536 k && leb k 1114111) && not (eqb (k % 65536) 0) ≡ character_id (identifier k)
unfolding character_id site_number identifier
key_ranged k = agree _ _ there back
  where
    there : (leb 65536 k && leb k 1114111) && not (eqb (k % 65536) 0) ≡ true → within 1 16 (k / 65536) && within 1 65535 (k % 65536) ≡ true
    there h =
        let a = and_left_lem (leb 65536 k && leb k 1114111) (not (eqb (k % 65536) 0)) h in
        let low = leb-true 65536 k (and_left_lem (leb 65536 k) (leb k 1114111) a) in
        let high = leb-true k 1114111 (and_right (leb 65536 k) (leb k 1114111) a) in
        let some = eqb-false (k % 65536) 0 (not-true (eqb (k % 65536) 0) (and_right (leb 65536 k && leb k 1114111) (not (eqb (k % 65536) 0)) h)) in
        and_intro (to-within 1 16 (k / 65536) (omega (arith, low)) (omega (arith, high))) (to-within 1 65535 (k % 65536) (omega (arith, some)) (omega arith))

    back : within 1 16 (k / 65536) && within 1 65535 (k % 65536) ≡ true → (leb 65536 k && leb k 1114111) && not (eqb (k % 65536) 0) ≡ true
    back h =
        let a = and_left_lem (within 1 16 (k / 65536)) (within 1 65535 (k % 65536)) h in
        let low = within_low 1 16 (k / 65536) a in
        let high = within-high 1 16 (k / 65536) a in
        let some = within_low 1 65535 (k % 65536) (and_right (within 1 16 (k / 65536)) (within 1 65535 (k % 65536)) h) in
        and_intro (and_intro (le-leb 65536 k (omega (arith, low))) (le-leb k 1114111 (omega (arith, high))))
        (not-intro (ne_eqb (k % 65536) 0 (λ e. omega (arith, some, e))))

pub code_ranged : (n : ℕ) → leb n 1114111 && not (leb 55296 n && leb n 57343) ≡ is_code_point n
unfolding is_code_point within
code_ranged n = rw (le-leb 0 n zero-le)

begin-same : (k : ℕ) → eqb k 0 ≡ same (identifier k) begin
begin-same k =
    ap₂ eqb (sym (key-identifier k)) (sym key-begin) ∙ key-same (identifier k) begin (identifier-small k) (omega arith)

end_same : (k : ℕ) → eqb k 1 ≡ same (identifier k) end
end_same k = ap₂ eqb (sym (key-identifier k)) (sym key-end) ∙ key-same (identifier k) end (identifier-small k) (omega arith)

pub previous_ranged : (k : ℕ) → (eqb k 0 || character_id (identifier k)) ≡ previous_id (identifier k)
unfolding previous_id
previous_ranged k = rw (begin-same k)

pub next_ranged : (k : ℕ) → (eqb k 1 || character_id (identifier k)) ≡ next_id (identifier k)
unfolding next_id
next_ranged k = rw (end_same k)

pub keys-same : (j k : ℕ) → eqb j k ≡ same (identifier j) (identifier k)
keys-same j k =
    ap₂ eqb (sym (key-identifier j)) (sym (key-identifier k)) ∙ key-same (identifier j) (identifier k) (identifier-small j) (identifier-small k)

pub row_ranged : (i p n c : ℕ)
    → character_id (identifier i) && is_code_point c && previous_id (identifier p) && next_id (identifier n) && not (eqb i p) && not (eqb i n)
    ≡ insert_in_range (origin (character_of i p n c 0))
unfolding insert_in_range origin character_of
row_ranged i p n c = rw (keys-same i p, keys-same i n)

-- every count of toggles that a byte holds is in range
pub row-toggled : (i p n c t : ℕ) → t ≤ 255 → insert_in_range (origin (character_of i p n c 0)) ≡ character_in_range (character_of i p n c t)
unfolding character_in_range origin character_of
row-toggled i p n c t h = sym (rw (within_first 255 t h) (and-true _))

-- ---- pending operations

pub toggle_ranged : (f s v : ℕ)
    → (eqb s 0 && (leb 256 v && ltb v 4352)) && (character_id (identifier f) && not (eqb (v % 256) 0))
    ≡ in_range (operation_of 0 f s v)
unfolding operation_of in_range toggle_in_range site_number
toggle_ranged f s v = agree _ _ there back
  where
    there : (eqb s 0 && (leb 256 v && ltb v 4352)) && (character_id (identifier f) && not (eqb (v % 256) 0)) ≡ true
        → within 1 16 (s * 256 + v / 256) && character_id (identifier f) && within 1 255 (v % 256) ≡ true
    there h =
        let sent = and_left_lem (eqb s 0 && (leb 256 v && ltb v 4352)) _ h in
        let none : s ≡ 0 = eqb-true s 0 (and_left_lem (eqb s 0) _ sent) in
        let bounds = and_right (eqb s 0) _ sent in
        let low = leb-true 256 v (and_left_lem (leb 256 v) _ bounds) in
        let high = ltb-true v 4352 (and_right (leb 256 v) _ bounds) in
        let rest = and_right (eqb s 0 && (leb 256 v && ltb v 4352)) _ h in
        let some = eqb-false (v % 256) 0 (not-true (eqb (v % 256) 0) (and_right (character_id (identifier f)) _ rest)) in
        and_intro
        (and_intro (to-within 1 16 (s * 256 + v / 256) (omega (arith, none, low)) (omega (arith, none, high))) (and_left_lem (character_id (identifier f)) _ rest))
        (to-within 1 255 (v % 256) (omega (arith, some)) (omega arith))

    back : within 1 16 (s * 256 + v / 256) && character_id (identifier f) && within 1 255 (v % 256) ≡ true
        → (eqb s 0 && (leb 256 v && ltb v 4352)) && (character_id (identifier f) && not (eqb (v % 256) 0)) ≡ true
    back h =
        let parts = three (within 1 16 (s * 256 + v / 256)) (character_id (identifier f)) (within 1 255 (v % 256)) h in
        let low = within_low 1 16 (s * 256 + v / 256) parts.0 in
        let high = within-high 1 16 (s * 256 + v / 256) parts.0 in
        let some = within_low 1 255 (v % 256) parts.2 in
        let none : s ≡ 0 = omega (arith, high) in
        and_intro (and_intro (eq-eqb s 0 none) (and_intro (le-leb 256 v (omega (arith, low, none))) (lt-ltb v 4352 (omega (arith, high, none)))))
        (and_intro parts.1 (not-intro (ne_eqb (v % 256) 0 (λ e. omega (arith, some, e)))))

pub insert_ranged : (o f s v : ℕ) → eqb o 0 ≡ false → insert_in_range (origin (character_of o f s v 0)) ≡ in_range (operation_of o f s v)
unfolding operation_of in_range origin character_of
insert_ranged o f s v e = rw e

pub none_ranged : (o f s v : ℕ) → o ≡ 0 → in_range (operation_of 0 f s v) ≡ in_range (operation_of o f s v)
none_ranged o f s v e = ap (λ (n : ℕ). in_range (operation_of n f s v)) (sym e)
