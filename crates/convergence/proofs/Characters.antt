-- Where identifiers are distinct and no mark's, a character's place is where it stands in the list, and each place
-- between the marks is a character's.
use Prim.Native.Nat.{ℕ, zero, suc, ◌+◌, ◌≤◌, ◌<◌, ◌-◌}
use native.Mathlib.Omega.{arith}
use mathlib.Core.Path.{◌≡◌, refl, ap, sym, ◌∙◌, subst}
use mathlib.Core.Bool.{Bool, true, false, ◌&&◌, not}
use mathlib.Core.List.Memᴰ
use mathlib.Core.List.{List, [], ◌∷◌, ◌++◌, Memᴰ}
use mathlib.Core.Logic.{⊎_elim}
use borrow.Author.Tests.{not-true}
use lib.ListN.{length, get_or}
use Rattle.woot.specs.declared.Identifier.{Identifier}
use Rattle.woot.specs.declared.Insert.{Insert}
use Rattle.woot.specs.declared.Character.{Character}
use Rattle.woot.specs.Identifiers.{begin, end, same}
use Rattle.woot.specs.Operations.{origin}
use Rattle.woot.specs.Ranges.{character_id, is_code_point, previous_id, next_id, insert_in_range, character_in_range}
use Rattle.woot.specs.State.{blank_character}
use Rattle.lists.specs.Lists.{any, distinct}
use Rattle.woot.specs.Placing.{identifiers, sequence, index_of, place_of, held, Located, located}
use Rattle.convergence.specs.Agreement.{Standing}
use Rattle.lists.proofs.Tests.{clash, and_left_lem, and_right}
use Rattle.lists.proofs.Members.{any_none}
use Rattle.convergence.proofs.Identifiers.{eq-same, same_sym}
use Rattle.convergence.proofs.Places.{Holding, is-begin, is-character, is-end, holding, index-here, index-later, not-begin, not_end, held-id, held-end, held_place, place-later, place-injective}
use Rattle.lists.proofs.Tests.{side}
use Rattle.convergence.proofs.Ranges.{origin_ranged}

-- c at place k
abbrev pub spot : ℕ → Character → Located
spot k c = record { place = k; at = c }

pub located_member : (k : ℕ) (cs : List Character) {l : Located} → Memᴰ l (located k cs) → Memᴰ l.at cs
located_member k [] m = absurd (Memᴰ.not-nil m)
located_member k (c ∷ cs) m =
    ⊎_elim (λ e. Memᴰ.head (ap (λ (l : Located). l.at) e)) (λ n. Memᴰ.tail (located_member (suc k) cs n)) (Memᴰ.cases_cons m)

pub located-bound : (k : ℕ) (cs : List Character) {l : Located} → Memᴰ l (located k cs) → (k ≤ l.place) × (l.place < k + length cs)
located-bound k [] m = absurd (Memᴰ.not-nil m)
located-bound k (c ∷ cs) {l} m =
    ⊎_elim (λ e. here (ap (λ (l : Located). l.place) e)) (λ n. later (located-bound (suc k) cs n)) (Memᴰ.cases_cons m)
  where
    here : l.place ≡ k → (k ≤ l.place) × (l.place < k + suc (length cs))
    here e = (omega arith, omega arith)

    later : (suc k ≤ l.place) × (l.place < suc k + length cs) → (k ≤ l.place) × (l.place < k + suc (length cs))
    later r = (omega arith, omega arith)

pub located-at : (k i : ℕ) (z : Character) (cs : List Character) → i < length cs → Memᴰ (spot (k + i) (get_or cs i z)) (located k cs)
located-at k i z [] h = absurd (omega arith)
located-at k zero z (c ∷ cs) h = let e : k + zero ≡ k = omega arith in Memᴰ.head (ap (λ (j : ℕ). spot j c) e)
located-at k (suc i) z (c ∷ cs) h =
    let e : suc k + i ≡ k + suc i = omega arith in
    Memᴰ.tail (subst (λ (j : ℕ). Memᴰ (spot j (get_or cs i z)) (located (suc k) cs)) e (located-at (suc k) i z cs (omega arith)))

pub located_get_d : (k : ℕ) (z : Character) (cs : List Character) {l : Located} → Memᴰ l (located k cs) → (i : ℕ) × (l.place ≡ k + i) × (get_or cs i z ≡ l.at)
located_get_d k z [] m = absurd (Memᴰ.not-nil m)
located_get_d k z (c ∷ cs) {l} m = ⊎_elim here (λ n. later (located_get_d (suc k) z cs n)) (Memᴰ.cases_cons m)
  where
    here : l ≡ spot k c → (i : ℕ) × (l.place ≡ k + i) × (get_or (c ∷ cs) i z ≡ l.at)
    here e = (zero, omega (arith, ap (λ (j : Located). j.place) e), sym (ap (λ (j : Located). j.at) e))

    later : ((i : ℕ) × (l.place ≡ suc k + i) × (get_or cs i z ≡ l.at)) → (i : ℕ) × (l.place ≡ k + i) × (get_or (c ∷ cs) i z ≡ l.at)
    later r = (suc r.0, omega (arith, r.1), r.2)

somewhere : (k : ℕ) (cs : List Character) {c : Character} → Memᴰ c cs → (j : ℕ) × Memᴰ (spot j c) (located k cs)
somewhere k [] m = absurd (Memᴰ.not-nil m)
somewhere k (d ∷ cs) {c} m = ⊎_elim (λ e. (k, Memᴰ.head (ap (spot k) e))) (λ n. later (somewhere (suc k) cs n)) (Memᴰ.cases_cons m)
  where
    later : ((j : ℕ) × Memᴰ (spot j c) (located (suc k) cs)) → (j : ℕ) × Memᴰ (spot j c) (located k (d ∷ cs))
    later r = (r.0, Memᴰ.tail r.1)

-- the index of an identifier, where they are distinct
pub located-index : (k : ℕ) (cs : List Character) (ys : List Identifier) {l : Located} → distinct same (identifiers cs) ≡ true → Memᴰ l (located k cs)
    → k + index_of l.at.id (identifiers cs ++ ys) ≡ l.place
located-index k [] ys d m = absurd (Memᴰ.not-nil m)
located-index k (c ∷ cs) ys {l} d m = ⊎_elim here (λ n. later n (located-index (suc k) cs ys rest n)) (Memᴰ.cases_cons m)
  where
    rest : distinct same (identifiers cs) ≡ true
    rest = and_right (not (any (same c.id) (identifiers cs))) (distinct same (identifiers cs)) d

    once : any (same c.id) (identifiers cs) ≡ false
    once = not-true _ (and_left_lem (not (any (same c.id) (identifiers cs))) (distinct same (identifiers cs)) d)

    behind : List Identifier
    behind = identifiers cs ++ ys

    here : l ≡ spot k c → k + index_of l.at.id (c.id ∷ behind) ≡ l.place
    here e =
        let f = index-here l.at.id c.id behind (eq-same (ap (λ (j : Located). j.at.id) e)) in
        omega (arith, f, ap (λ (j : Located). j.place) e)

    other : Memᴰ l (located (suc k) cs) → same l.at.id c.id ≡ false
    other n = same_sym l.at.id c.id ∙ any_none (same c.id) once (Memᴰ.map (λ (e : Character). e.id) (located_member (suc k) cs n))

    later : Memᴰ l (located (suc k) cs) → suc k + index_of l.at.id behind ≡ l.place → k + index_of l.at.id (c.id ∷ behind) ≡ l.place
    later n r = omega (arith, r, index-later l.at.id c.id behind (other n))

first-of-six : (a b c d e f : Bool) → (a && b && c && d && e && f) ≡ true → a ≡ true
first-of-six a b c d e f h =
    let four = and_left_lem (a && b && c && d) e (and_left_lem (a && b && c && d && e) f h) in
    and_left_lem a b (and_left_lem (a && b) c (and_left_lem (a && b && c) d four))

pub insert-id_in_range : (i : Insert) → insert_in_range i ≡ true → character_id i.id ≡ true
unfolding insert_in_range
insert-id_in_range i h =
    first-of-six (character_id i.id) (is_code_point i.code_point) (previous_id i.previous) (next_id i.next) (not (same i.id i.previous))
    (not (same i.id i.next))
    h

module _ (cs : List Character) (s : Standing cs) where
  pub id_in_range : {c : Character} → Memᴰ c cs → character_id c.id ≡ true
  unfolding origin
  id_in_range {c} m = insert-id_in_range (origin c) (origin_ranged c (s.ranges c m))

  pub located-place : {l : Located} → Memᴰ l (located 1 cs) → place_of cs l.at.id ≡ l.place
  unfolding place_of sequence
  located-place {l} m =
      let b = not-begin l.at.id (id_in_range (located_member 1 cs m)) in
      omega (arith, index-later l.at.id begin (identifiers cs ++ end ∷ []) b, located-index 1 cs (end ∷ []) s.apart m)

  pub member_located : {c : Character} → Memᴰ c cs → Memᴰ (spot (place_of cs c.id) c) (located 1 cs)
  member_located {c} m = let r = somewhere 1 cs m in subst (λ (k : ℕ). Memᴰ (spot k c) (located 1 cs)) (sym (located-place r.1)) r.1

  pub member_place : {c : Character} → Memᴰ c cs → (0 < place_of cs c.id) × (place_of cs c.id ≤ length cs)
  member_place m = let r = located-bound 1 cs (member_located m) in (r.0, omega arith)

  -- the character at an index, and its place
  pub at-index : (i : ℕ) (z : Character) → i < length cs → Memᴰ (get_or cs i z) cs × (place_of cs (get_or cs i z).id ≡ suc i)
  at-index i z h = let m = located-at 1 i z cs h in (located_member 1 cs m, omega (arith, located-place m))

  -- what is held between the marks is a character's identifier
  pub between-marks : (x : Identifier) → held cs x ≡ true → 0 < place_of cs x → place_of cs x ≤ length cs
      → (c : Character) × Memᴰ c cs × (x ≡ c.id)
  between-marks x h p q = (c, r.0, place-injective cs x c.id (omega (arith, r.1)) h (held-id cs r.0))
    where
      i : ℕ
      i = place_of cs x - 1

      c : Character
      c = get_or cs i blank_character

      r : Memᴰ c cs × (place_of cs c.id ≡ suc i)
      r = at-index i blank_character (omega arith)

  pub place_end : place_of cs end ≡ suc (length cs)
  unfolding same
  place_end =
      ⊎_elim (λ h. absurd (inner (between-marks end (held-end cs) (place-later cs end refl) h))) (λ h. omega (arith, held_place cs end (held-end cs)))
      (side (place_of cs end) (length cs))
    where
      inner : ((c : Character) × Memᴰ c cs × (end ≡ c.id)) → ⊥
      inner w = clash (eq-same (sym w.2)) (not_end w.0.id (id_in_range w.1))

  -- an identifier in range that is held is a character's
  pub held-is-character : (x : Identifier) → character_id x ≡ true → held cs x ≡ true → (c : Character) × Memᴰ c cs × (x ≡ c.id)
  held-is-character x r h = go (holding cs x h)
    where
      go : Holding cs x → (c : Character) × Memᴰ c cs × (x ≡ c.id)
      go (is-begin e) = clash (eq-same e) (not-begin x r)
      go (is-character c m e) = (c, m, e)
      go (is-end e) = clash (eq-same e) (not_end x r)

  -- a character's index
  pub own-index : {c : Character} (z : Character) → Memᴰ c cs → (i : ℕ) × (place_of cs c.id ≡ suc i) × (get_or cs i z ≡ c)
  own-index z m = let r = located_get_d 1 z cs (member_located m) in (r.0, omega (arith, r.1), r.2)

  -- one identifier, one character
  pub same-character : {c d : Character} → Memᴰ c cs → Memᴰ d cs → c.id ≡ d.id → c ≡ d
  same-character {c} {d} m n e =
      let i = own-index c m in
      let j = own-index c n in
      let k : i.0 ≡ j.0 = omega (arith, i.1, j.1, ap (place_of cs) e) in
      sym i.2 ∙ ap (λ (k : ℕ). get_or cs k c) k ∙ j.2
