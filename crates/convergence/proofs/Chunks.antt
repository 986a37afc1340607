-- For the proofs of the code too: chunks in sequence and in range are known by what they mark, and `chunks_of` are those
-- that mark the identifiers it is given. A chunk's heading, its site and index, is compared as an identifier is.
use Prim.Native.Nat.{ℕ, suc, ◌+◌, ◌*◌, ◌/◌, ◌%◌, ◌^◌, ◌≤◌, ◌<◌}
use native.Mathlib.Omega.{arith}
use native.Mathlib.Nat.{zero-add}
use mathlib.Core.Path.{◌≡◌, refl, ap, ap₂, sym, ◌∙◌, subst}
use mathlib.Core.Bool.{Bool, true, false, ◌&&◌, ◌||◌, not, cond, and-false, or-false, or_assoc}
use mathlib.Core.Logic.{◌⊎◌, inl, inr, ⊎_elim}
use mathlib.Core.List.Memᴰ
use mathlib.Core.List.{List, [], ◌∷◌, Memᴰ}
use lib.Count.{ones}
use lib.Dec.{eqb}
use lib.ListN.{length}
use lib.Pow.{pow_pos, pow-lt}
use borrow.Author.Tests.{eqb-true, eq-eqb, not-true}
use Rattle.lists.specs.Lists.{any, every, distinct}
use Rattle.lists.proofs.Tests.{either, clash, and_intro, and_left_lem, and_right, or_left, or_right, or_cases, agree, fails}
use Rattle.lists.proofs.Tests.{or-false-left, or-false-right, three}
use Rattle.lists.proofs.Members.{none_any}
use Rattle.woot.specs.declared.Identifier.{Identifier}
use Rattle.woot.specs.Limits.{last_clock}
use Rattle.woot.specs.Identifiers.{same, below}
use Rattle.woot.specs.Ranges.{within, site_number, character_id}
use Rattle.bulk.specs.Catching.{Chunk, last_index, last_word, word_bits, bit_of, speaks_of, marks, listed_in, ones_in}
use Rattle.bulk.specs.Catching.{precedes, in_sequence, chunk_of, also_marking, with_marked, chunks_of, chunk_in_range}
use Rattle.convergence.proofs.Identifiers.{identifier-path, same-eq, eq-same, same-ne, below_irrefl}
use Rattle.convergence.proofs.Identifiers.{below-trans, below_total}
use Rattle.convergence.proofs.Ranges.{within_low, within-high, to-within}
use Rattle.convergence.proofs.Words.{same_bits, some_bit, bit_of-zero, bit_added, added_below, ones_added}

-- ---- headings

-- what a chunk stands in the sequence by
abbrev pub heading : Chunk → Identifier
heading k = record { site = k.site; clock = k.index }

-- the heading of the chunk that speaks of x
abbrev pub heading_of : Identifier → Identifier
heading_of x = record { site = x.site; clock = x.clock / word_bits }

pub precedes-below : (k l : Chunk) → precedes k l ≡ below (heading k) (heading l)
unfolding precedes below
precedes-below k l = refl

pub speaks_same : (k : Chunk) (x : Identifier) → speaks_of k x ≡ same (heading k) (heading_of x)
unfolding speaks_of same
speaks_same k x = refl

pub speaks_heading : (k : Chunk) (x : Identifier) → speaks_of k x ≡ true → heading k ≡ heading_of x
speaks_heading k x h = same-eq (heading k) (heading_of x) (sym (speaks_same k x) ∙ h)

pub heading_speaks : (k : Chunk) (x : Identifier) → heading k ≡ heading_of x → speaks_of k x ≡ true
heading_speaks k x e = speaks_same k x ∙ eq-same e

-- every chunk of the list stands behind k
abbrev pub After : Chunk → List Chunk → Type 0
After k ks = (l : Chunk) → Memᴰ l ks → below (heading k) (heading l) ≡ true

pub sequence-after : (k : Chunk) (ks : List Chunk) → in_sequence (k ∷ ks) ≡ true → After k ks × (in_sequence ks ≡ true)
unfolding in_sequence
sequence-after k [] h = (λ l m. absurd (Memᴰ.not-nil m), refl)
sequence-after k (l ∷ ls) h =
    let r = sequence-after l ls (and_right (precedes k l) (in_sequence (l ∷ ls)) h) in
    let first = sym (precedes-below k l) ∙ and_left_lem (precedes k l) (in_sequence (l ∷ ls)) h in (
      λ c m. ⊎_elim (λ e. subst (λ (d : Chunk). below (heading k) (heading d) ≡ true) (sym e) first)
          (λ n. below-trans (heading k) (heading l) (heading c) first (r.0 c n)) (Memᴰ.cases_cons m),
      and_right (precedes k l) (in_sequence (l ∷ ls)) h,
    )

pub after-sequence : (k : Chunk) (ks : List Chunk) → After k ks → in_sequence ks ≡ true → in_sequence (k ∷ ks) ≡ true
unfolding in_sequence
after-sequence k [] a h = refl
after-sequence k (l ∷ ls) a h = and_intro (precedes-below k l ∙ a l (Memᴰ.head refl)) h

-- ---- what is marked

pub marks_speaks : (k : Chunk) (x : Identifier) → marks k x ≡ true → speaks_of k x ≡ true
unfolding marks
marks_speaks k x h = and_left_lem (speaks_of k x) (bit_of (x.clock % word_bits) k.word) h

pub marks-when : (k : Chunk) (x : Identifier) → speaks_of k x ≡ true → marks k x ≡ bit_of (x.clock % word_bits) k.word
unfolding marks
marks-when k x h = rw h

pub unmarked : (k : Chunk) (x : Identifier) → speaks_of k x ≡ false → marks k x ≡ false
unfolding marks
unmarked k x h = rw h

-- chunks behind one that would speak of x do not mark it
pub silent : (k : Chunk) (ks : List Chunk) (x : Identifier) → After k ks → heading k ≡ heading_of x
    → listed_in ks x ≡ false
unfolding listed_in
silent k ks x a e =
    none_any (λ l. marks l x) ks
    (λ l m. fails (marks l x) (λ h.
    let level : heading k ≡ heading l = e ∙ sym (speaks_heading l x (marks_speaks l x h)) in
    below_irrefl (heading l) (subst (λ (y : Identifier). below y (heading l) ≡ true) level (a l m))))

-- ---- the parts of a chunk in range

pub word_low : (k : Chunk) → chunk_in_range k ≡ true → 1 ≤ k.word
unfolding chunk_in_range
word_low k h =
    within_low 1 last_word k.word
    (three (site_number k.site) (within 0 last_index k.index) (within 1 last_word k.word) h).2

pub word-high : (k : Chunk) → chunk_in_range k ≡ true → k.word < 2 ^ word_bits
unfolding chunk_in_range
word-high k h =
    let w = within-high 1 last_word k.word
    (three (site_number k.site) (within 0 last_index k.index) (within 1 last_word k.word) h).2 in
    omega (arith, w)

-- the identifier that bit j of the chunk stands for
abbrev pub bit_for : Chunk → ℕ → Identifier
bit_for k j = record { site = k.site; clock = word_bits * k.index + j }

pub bit_heading : (k : Chunk) (j : ℕ) → j < word_bits → heading k ≡ heading_of (bit_for k j)
bit_heading k j l = identifier-path refl (omega arith)

pub bit_marked : (k : Chunk) (j : ℕ) → j < word_bits → marks k (bit_for k j) ≡ bit_of j k.word
bit_marked k j l =
    let e : (word_bits * k.index + j) % word_bits ≡ j = omega arith in
    marks-when k (bit_for k j) (heading_speaks k (bit_for k j) (bit_heading k j l)) ∙ ap (λ (i : ℕ). bit_of i k.word) e

-- a chunk in range marks something
some-marked : (k : Chunk) → chunk_in_range k ≡ true → (x : Identifier) × (heading k ≡ heading_of x) × (marks k x ≡ true)
some-marked k h =
    let r = some_bit word_bits k.word (word-high k h) (word_low k h) in
    (bit_for k r.0, bit_heading k r.0 r.1, bit_marked k r.0 r.1 ∙ r.2)

-- ---- chunks in sequence are known by what they mark

pub record Ranked (ks : List Chunk) : Type 0 where
  pub in-sequence : in_sequence ks ≡ true
  pub in-range : every chunk_in_range ks ≡ true

pub behind : (k : Chunk) (ks : List Chunk) → Ranked (k ∷ ks) → After k ks
behind k ks r = (sequence-after k ks r.in-sequence).0

pub rest-ranked : (k : Chunk) (ks : List Chunk) → Ranked (k ∷ ks) → Ranked ks
rest-ranked k ks r =
    record {
      in-sequence = (sequence-after k ks r.in-sequence).1;
      in-range = and_right (chunk_in_range k) (every chunk_in_range ks) r.in-range;
    }

pub first_ranged : (k : Chunk) (ks : List Chunk) → Ranked (k ∷ ks) → chunk_in_range k ≡ true
first_ranged k ks r = and_left_lem (chunk_in_range k) (every chunk_in_range ks) r.in-range

-- the first chunk marks something, and so what is listed in none of the others
first-listed : (k : Chunk) (ks ls : List Chunk) → Ranked (k ∷ ks)
    → ((x : Identifier) → heading k ≡ heading_of x → listed_in ls x ≡ false)
    → ((x : Identifier) → listed_in (k ∷ ks) x ≡ listed_in ls x) → ⊥
unfolding listed_in
first-listed k ks ls r none same-listed =
    let w = some-marked k (first_ranged k ks r) in
    clash (sym (same-listed w.0) ∙ or_left (marks k w.0) (listed_in ks w.0) w.2) (none w.0 w.1)

chunk-path : {k l : Chunk} → heading k ≡ heading l → k.word ≡ l.word → k ≡ l
chunk-path p q = λ i. record { site = (p i).site; index = (p i).clock; word = q i }

module _ (k l : Chunk) (ks ls : List Chunk) (r : Ranked (k ∷ ks)) (q : Ranked (l ∷ ls)) (level : heading k ≡ heading l)
    (alike : (x : Identifier) → listed_in (k ∷ ks) x ≡ listed_in (l ∷ ls) x) where
  -- what k speaks of is listed in k alone
  of-first : (x : Identifier) → heading k ≡ heading_of x → marks k x ≡ marks l x
  unfolding listed_in
  of-first x e =
      sym (or-false (marks k x))
      ∙ ap (λ (b : Bool). marks k x || b) (sym (silent k ks x (behind k ks r) e))
      ∙ alike x
      ∙ ap (λ (b : Bool). marks l x || b) (silent l ls x (behind l ls q) (sym level ∙ e))
      ∙ or-false (marks l x)

  first-same : k ≡ l
  first-same =
      chunk-path level
      (same_bits word_bits k.word l.word (word-high k (first_ranged k ks r)) (word-high l (first_ranged l ls q))
      (λ j h. sym (bit_marked k j h) ∙ of-first (bit_for k j) (bit_heading k j h)
      ∙ ap (λ (x : Identifier). marks l x) (for j) ∙ bit_marked l j h))
    where
      for : (j : ℕ) → bit_for k j ≡ bit_for l j
      for j = ap (λ (y : Identifier). record { site = y.site; clock = word_bits * y.clock + j }) level

  rest-alike : (x : Identifier) → listed_in ks x ≡ listed_in ls x
  unfolding listed_in
  rest-alike x = go (either (speaks_of k x))
    where
      go : (speaks_of k x ≡ true) ⊎ (speaks_of k x ≡ false) → listed_in ks x ≡ listed_in ls x
      go (inl h) =
          let e = speaks_heading k x h in
          silent k ks x (behind k ks r) e ∙ sym (silent l ls x (behind l ls q) (sym level ∙ e))
      go (inr h) =
          let a = unmarked k x h in
          let b = unmarked l x (subst (λ (c : Chunk). speaks_of c x ≡ false) first-same h) in
          ap (λ (t : Bool). t || listed_in ks x) (sym a) ∙ alike x ∙ ap (λ (t : Bool). t || listed_in ls x) b

pub known-by-marks : (ks ls : List Chunk) → Ranked ks → Ranked ls
    → ((x : Identifier) → listed_in ks x ≡ listed_in ls x) → ks ≡ ls
unfolding listed_in
known-by-marks [] [] r q f = refl
known-by-marks [] (l ∷ ls) r q f = absurd (first-listed l ls [] q (λ x e. refl) (λ x. sym (f x)))
known-by-marks (k ∷ ks) [] r q f = absurd (first-listed k ks [] r (λ x e. refl) f)
known-by-marks (k ∷ ks) (l ∷ ls) r q f =
    go (either (below (heading k) (heading l))) (either (same (heading k) (heading l)))
    (λ level. known-by-marks ks ls (rest-ranked k ks r) (rest-ranked l ls q) (rest-alike k l ks ls r q level f))
  where
    -- nor does a list that begins further on say anything of what c speaks of
    further : (c d : Chunk) (ds : List Chunk) → Ranked (d ∷ ds) → below (heading c) (heading d) ≡ true
        → (x : Identifier) → heading c ≡ heading_of x → listed_in (d ∷ ds) x ≡ false
    further c d ds z b x e =
        silent c (d ∷ ds) x
        (λ a m. ⊎_elim (λ i. subst (λ (y : Chunk). below (heading c) (heading y) ≡ true) (sym i) b)
        (λ n. below-trans (heading c) (heading d) (heading a) b (behind d ds z a n)) (Memᴰ.cases_cons m)) e

    go : (below (heading k) (heading l) ≡ true) ⊎ (below (heading k) (heading l) ≡ false)
        → (same (heading k) (heading l) ≡ true) ⊎ (same (heading k) (heading l) ≡ false)
        → (heading k ≡ heading l → ks ≡ ls) → k ∷ ks ≡ l ∷ ls
    go (inl b) w s = absurd (first-listed k ks (l ∷ ls) r (further k l ls q b) f)
    go (inr b) (inl w) s =
        let level = same-eq (heading k) (heading l) w in
        ap₂ ◌∷◌ (first-same k l ks ls r q level f) (s level)
    go (inr b) (inr w) s =
        let b = below_total (heading k) (heading l) (same-ne (heading k) (heading l) w) b in
        absurd (first-listed l ls (k ∷ ks) q (further l k ks r b) (λ x. sym (f x)))

-- ---- one more marked

-- one identifier, told by its heading and its bit
same_parts : (x y : Identifier) → heading_of x ≡ heading_of y → x.clock % word_bits ≡ y.clock % word_bits → x ≡ y
same_parts x y e m =
    identifier-path (ap (λ (z : Identifier). z.site) e) (omega (arith, ap (λ (z : Identifier). z.clock) e, m))

-- a word with the bit of x in it besides those of another
also_marks : (k l : Chunk) (x : Identifier) → heading k ≡ heading_of x → heading l ≡ heading k
    → ((i : ℕ) → bit_of i l.word ≡ (eqb i (x.clock % word_bits) || bit_of i k.word))
    → (y : Identifier) → marks l y ≡ (same y x || marks k y)
also_marks k l x e level bits y = agree (marks l y) (same y x || marks k y) to from
  where
    to : marks l y ≡ true → same y x || marks k y ≡ true
    to h =
        let s = marks_speaks l y h in
        let d : heading k ≡ heading_of y = sym level ∙ speaks_heading l y s in
        ⊎_elim (λ b. or_left (same y x) (marks k y)
        (eq-same (same_parts y x (sym d ∙ e) (eqb-true (y.clock % word_bits) (x.clock % word_bits) b))))
        (λ b. or_right (same y x) (marks k y) (marks-when k y (heading_speaks k y d) ∙ b))
        (or_cases (eqb (y.clock % word_bits) (x.clock % word_bits)) (bit_of (y.clock % word_bits) k.word)
        (sym (bits (y.clock % word_bits)) ∙ sym (marks-when l y s) ∙ h))

    from : same y x || marks k y ≡ true → marks l y ≡ true
    from h =
        ⊎_elim (λ b. subst (λ (z : Identifier). marks l z ≡ true) (sym (same-eq y x b))
        (marks-when l x (heading_speaks l x (level ∙ e)) ∙ bits (x.clock % word_bits)
        ∙ or_left (eqb (x.clock % word_bits) (x.clock % word_bits)) (bit_of (x.clock % word_bits) k.word)
        (eq-eqb (x.clock % word_bits) (x.clock % word_bits) refl)))
        (λ b. let s = marks_speaks k y b in
        marks-when l y (heading_speaks l y (level ∙ speaks_heading k y s)) ∙ bits (y.clock % word_bits)
        ∙ or_right (eqb (y.clock % word_bits) (x.clock % word_bits)) (bit_of (y.clock % word_bits) k.word)
        (sym (marks-when k y s) ∙ b))
        (or_cases (same y x) (marks k y) h)

-- the place of an identifier's bit in its word
bit_place : (x : Identifier) → x.clock % word_bits < word_bits
bit_place x = omega arith

-- a chunk in which x is marked besides what another marks
record Also (x : Identifier) (k l : Chunk) : Type 0 where
  level : heading l ≡ heading k
  ranged : chunk_in_range l ≡ true
  marked : (y : Identifier) → marks l y ≡ (same y x || marks k y)
  more : marks k x ≡ false → ones l.word ≡ suc (ones k.word)

also : (k : Chunk) (x : Identifier) → speaks_of k x ≡ true → chunk_in_range k ≡ true → Also x k (also_marking x k)
unfolding also_marking chunk_in_range
also k x s h = go (marks k x) refl
  where
    j : ℕ
    j = x.clock % word_bits

    parts : (site_number k.site ≡ true) × (within 0 last_index k.index ≡ true)
        × (within 1 last_word k.word ≡ true)
    parts = three (site_number k.site) (within 0 last_index k.index) (within 1 last_word k.word) h

    there : marks k x ≡ true → (y : Identifier) → marks k y ≡ (same y x || marks k y)
    there m y =
        agree (marks k y) (same y x || marks k y) (or_right (same y x) (marks k y))
        (λ e. ⊎_elim (λ b. subst (λ (z : Identifier). marks k z ≡ true) (sym (same-eq y x b)) m) (λ b. b)
        (or_cases (same y x) (marks k y) e))

    go : (b : Bool) → marks k x ≡ b
        → Also x k (record { site = k.site; index = k.index; word = cond b k.word (k.word + 2 ^ j) })
    go true m = record { level = refl; ranged = h; marked = there m; more = λ n. clash m n }
    go false m =
        let clear : bit_of j k.word ≡ false = sym (marks-when k x s) ∙ m in
        let l : Chunk = record { site = k.site; index = k.index; word = k.word + 2 ^ j } in
        record {
          level = refl;
          ranged =
              and_intro (and_intro parts.0 parts.1)
              (to-within 1 last_word (k.word + 2 ^ j) (omega (arith, word_low k h))
              (omega (arith, added_below word_bits j k.word (bit_place x) (word-high k h) clear)));
          marked = also_marks k l x (speaks_heading k x s) refl (λ i. bit_added i j k.word clear);
          more = λ n. ones_added j k.word clear;
        }

-- the chunk of one identifier
module _ (x : Identifier) where
  alone_ranged : character_id x ≡ true → chunk_in_range (chunk_of x) ≡ true
  unfolding chunk_in_range chunk_of character_id
  alone_ranged c =
      let site = and_left_lem (site_number x.site) (within 1 last_clock x.clock) c in
      let clock =
      within-high 1 last_clock x.clock (and_right (site_number x.site) (within 1 last_clock x.clock) c) in
      let j = x.clock % word_bits in
      and_intro (and_intro site (to-within 0 last_index (x.clock / word_bits) (omega arith) (omega (arith, clock))))
      (to-within 1 last_word (2 ^ j) (pow_pos j) (omega (arith, pow-lt (bit_place x))))

  alone_marks : (y : Identifier) → marks (chunk_of x) y ≡ same y x
  unfolding chunk_of marks
  alone_marks y =
      let j = x.clock % word_bits in
      let none : Chunk = record { site = x.site; index = x.clock / word_bits; word = 0 } in
      also_marks none (chunk_of x) x refl refl
      (λ i. ap (bit_of i) (sym (zero-add (2 ^ j))) ∙ bit_added i j 0 (bit_of-zero j)) y
      ∙ ap (λ (b : Bool). same y x || (speaks_of none y && b)) (bit_of-zero (y.clock % word_bits))
      ∙ ap (λ (b : Bool). same y x || b) (and-false (speaks_of none y)) ∙ or-false (same y x)

  alone_ones : ones (chunk_of x).word ≡ 1
  unfolding chunk_of ones
  alone_ones =
      let j = x.clock % word_bits in
      ap ones (sym (zero-add (2 ^ j))) ∙ ones_added j 0 (bit_of-zero j)

-- what marking x too comes to
record Marked (x : Identifier) (ks ls : List Chunk) : Type 0 where
  ranked : Ranked ls
  listed : (y : Identifier) → listed_in ls y ≡ (same y x || listed_in ks y)
  further : (k : Chunk) → below (heading k) (heading_of x) ≡ true → After k ks → After k ls
  counted : listed_in ks x ≡ false → ones_in ls ≡ suc (ones_in ks)

-- in front of all of them
module _ (x : Identifier) (c : character_id x ≡ true) (ks : List Chunk) (r : Ranked ks) where
  in_front : After (chunk_of x) ks → Marked x ks (chunk_of x ∷ ks)
  unfolding listed_in ones_in chunk_of
  in_front a =
      record {
        ranked =
            record {
              in-sequence = after-sequence (chunk_of x) ks a r.in-sequence;
              in-range = and_intro (alone_ranged x c) r.in-range;
            };
        listed = λ y. ap (λ (b : Bool). b || listed_in ks y) (alone_marks x y);
        further =
            λ k b f l m. ⊎_elim (λ e. subst (λ (d : Chunk). below (heading k) (heading d) ≡ true) (sym e) b)
            (λ n. f l n) (Memᴰ.cases_cons m);
        counted = λ e. omega (arith, alone_ones x);
      }

-- in the first of them
in_first : (x : Identifier) (k : Chunk) (ks : List Chunk) → Ranked (k ∷ ks) → speaks_of k x ≡ true
    → Marked x (k ∷ ks) (also_marking x k ∷ ks)
unfolding listed_in ones_in
in_first x k ks r s =
    let l = also_marking x k in
    let a = also k x s (first_ranged k ks r) in
    record {
      ranked =
          record {
            in-sequence =
                after-sequence l ks
                (subst (λ (y : Identifier). (d : Chunk) → Memᴰ d ks → below y (heading d) ≡ true) (sym a.level)
                (behind k ks r)) (rest-ranked k ks r).in-sequence;
            in-range = and_intro a.ranged (rest-ranked k ks r).in-range;
          };
      listed =
          λ y. ap (λ (b : Bool). b || listed_in ks y) (a.marked y) ∙ or_assoc (same y x) (marks k y) (listed_in ks y);
      further =
          λ c b f d m. ⊎_elim (λ e. subst (λ (y : Identifier). below (heading c) y ≡ true)
          (sym a.level ∙ ap heading (sym e)) (f k (Memᴰ.head refl)))
          (λ n. f d (Memᴰ.tail n)) (Memᴰ.cases_cons m);
      counted = λ e. omega (arith, a.more (or-false-left (marks k x) (listed_in ks x) e));
    }

-- behind the first
behind-first : (x : Identifier) (k : Chunk) (ks ls : List Chunk) → Ranked (k ∷ ks)
    → below (heading k) (heading_of x) ≡ true → Marked x ks ls → Marked x (k ∷ ks) (k ∷ ls)
unfolding listed_in ones_in
behind-first x k ks ls r b w =
    record {
      ranked =
          record {
            in-sequence = after-sequence k ls (w.further k b (behind k ks r)) w.ranked.in-sequence;
            in-range = and_intro (first_ranged k ks r) w.ranked.in-range;
          };
      listed =
          λ y. ap (λ (t : Bool). marks k y || t) (w.listed y) ∙ swap (marks k y) (same y x) (listed_in ks y);
      further =
          λ c e f d m. ⊎_elim (λ q. subst (λ (y : Chunk). below (heading c) (heading y) ≡ true) (sym q)
          (f k (Memᴰ.head refl))) (λ n. w.further c e (λ y v. f y (Memᴰ.tail v)) d n)
          (Memᴰ.cases_cons m);
      counted = λ e. omega (arith, w.counted (or-false-right (marks k x) (listed_in ks x) e));
    }
  where
    swap : (a b c : Bool) → a || (b || c) ≡ b || (a || c)
    swap true true c = refl
    swap true false c = refl
    swap false b c = refl

marked : (x : Identifier) → character_id x ≡ true → (ks : List Chunk) → Ranked ks → Marked x ks (with_marked x ks)
unfolding with_marked chunk_of
marked x c [] r = in_front x c [] r (λ l m. absurd (Memᴰ.not-nil m))
marked x c (k ∷ ks) r =
    go (speaks_of k x) refl (precedes (chunk_of x) k) refl (marked x c ks (rest-ranked k ks r))
  where
    go : (b : Bool) → speaks_of k x ≡ b → (p : Bool) → precedes (chunk_of x) k ≡ p → Marked x ks (with_marked x ks)
        → Marked x (k ∷ ks)
        (cond b (also_marking x k ∷ ks) (cond p (chunk_of x ∷ k ∷ ks) (k ∷ with_marked x ks)))
    go true s p e w = in_first x k ks r s
    go false s true e w = in_front x c (k ∷ ks) r after
      where
        before : below (heading (chunk_of x)) (heading k) ≡ true
        before = sym (precedes-below (chunk_of x) k) ∙ e

        after : After (chunk_of x) (k ∷ ks)
        after d m =
            ⊎_elim (λ q. subst (λ (y : Chunk). below (heading (chunk_of x)) (heading y) ≡ true) (sym q) before)
            (λ n. below-trans (heading (chunk_of x)) (heading k) (heading d) before (behind k ks r d n))
            (Memᴰ.cases_cons m)
    go false s false e w =
        let apart : heading_of x ≡ heading k → ⊥ = λ q. clash (heading_speaks k x (sym q)) s in
        let later : below (heading_of x) (heading k) ≡ false = sym (precedes-below (chunk_of x) k) ∙ e in
        behind-first x k ks (with_marked x ks) r (below_total (heading_of x) (heading k) apart later) w

-- ---- the chunks of identifiers

pub record Listed (xs : List Identifier) (ks : List Chunk) : Type 0 where
  pub ranked : Ranked ks
  pub exactly : (x : Identifier) → listed_in ks x ≡ any (same x) xs

pub chunks-listed : (xs : List Identifier) → every character_id xs ≡ true → Listed xs (chunks_of xs)
unfolding chunks_of listed_in in_sequence
chunks-listed [] h = record { ranked = record { in-sequence = refl; in-range = refl }; exactly = λ x. refl }
chunks-listed (x ∷ xs) h =
    let r = chunks-listed xs (and_right (character_id x) (every character_id xs) h) in
    let w = marked x (and_left_lem (character_id x) (every character_id xs) h) (chunks_of xs) r.ranked in
    record { ranked = w.ranked; exactly = λ y. w.listed y ∙ ap (λ (b : Bool). same y x || b) (r.exactly y) }

-- no other chunks mark just these
pub chunks_alone : (xs : List Identifier) (ks : List Chunk) → in_sequence ks ≡ true → every chunk_in_range ks ≡ true
    → ((x : Identifier) → listed_in ks x ≡ any (same x) xs) → every character_id xs ≡ true → ks ≡ chunks_of xs
chunks_alone xs ks s r f h =
    let w = chunks-listed xs h in
    known-by-marks ks (chunks_of xs) (record { in-sequence = s; in-range = r }) w.ranked
    (λ x. f x ∙ sym (w.exactly x))

-- the ones in their words are as many as they
pub chunks-ones : (xs : List Identifier) → every character_id xs ≡ true → distinct same xs ≡ true
    → ones_in (chunks_of xs) ≡ length xs
unfolding chunks_of ones_in
chunks-ones [] h d = refl
chunks-ones (x ∷ xs) h d =
    let valid = and_right (character_id x) (every character_id xs) h in
    let r = chunks-listed xs valid in
    let w = marked x (and_left_lem (character_id x) (every character_id xs) h) (chunks_of xs) r.ranked in
    let new = not-true (any (same x) xs) (and_left_lem (not (any (same x) xs)) (distinct same xs) d) in
    w.counted (r.exactly x ∙ new)
    ∙ ap suc (chunks-ones xs valid (and_right (not (any (same x) xs)) (distinct same xs) d))
