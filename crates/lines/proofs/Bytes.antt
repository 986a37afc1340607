-- A list of bytes is taken apart at the first byte of a kind, a tab or a line feed, and put together again.
use mathlib.Core.Path.{◌≡◌, refl, ap}
use mathlib.Core.List.{List, [], ◌∷◌, ◌++◌}
use mathlib.Core.Bool.{Bool, true, false, cond}
use Rattle.std.specs.Prelude.{Option, None, Some, MatchOption}
use Rattle.std.specs.Option.{unwrap_or}
use Prim.Native.Nat.{ℕ, zero, suc, ◌+◌, ◌-◌, ◌<◌, ◌≤◌}
use native.Mathlib.Numerals.{add-one}
use native.Mathlib.Omega.{arith}
use lib.Dec.{eqb}
use lib.ListN.{length, take, drop, get_or, length-drop, length-append, drop_of_length-le}
use lib.Seq.{take-nil, take_all}
use borrow.Author.Tests.{eq-eqb, ne_eqb, eqb-true}
use Rattle.lists.proofs.Tests.{passes, fails, or_right}
use mathlib.Core.Logic.{◌⊎◌, inl, inr}
use Rattle.lines.specs.Lines.{line_feed, has, before, after, ended, first_line, rest}
use Rattle.lines.specs.Fields.{tab}

module _ (b : ℕ) where
  -- the bytes before it are a front of the whole
  pub take-before : (s : List ℕ) → take (length (before b s)) s ≡ before b s
  take-before [] = refl
  take-before (x ∷ s) = go (eqb x b) refl (take-before s)
    where
      go : (t : Bool) → eqb x b ≡ t → take (length (before b s)) s ≡ before b s → take (length (before b (x ∷ s))) (x ∷ s) ≡ before b (x ∷ s)
      go true e rest = rw e
      go false e rest = rw e (ap (λ (l : List ℕ). x ∷ l) rest)

  pub before-le : (s : List ℕ) → length (before b s) ≤ length s
  before-le [] = omega arith
  before-le (x ∷ s) = go (eqb x b) refl (before-le s)
    where
      go : (t : Bool) → eqb x b ≡ t → length (before b s) ≤ length s → length (before b (x ∷ s)) ≤ length (x ∷ s)
      go true e h = rw e (omega arith)
      go false e h = rw e (omega arith)

  -- what `find` answers is at most the length of the bytes, and cuts the bytes before it out
  module _ (s : List ℕ) (end : ℕ) (e : end ≡ length (before b s)) where
    pub found-le : end ≤ length s
    found-le = omega (arith, before-le s)

    pub found_front : take end s ≡ before b s
    found_front = rw e (take-before s)

  -- the first index at which it stands, or the length where it stands nowhere
  first-index : (s : List ℕ) (i : ℕ) → i < length s → get_or s i 0 ≡ b → ((k : ℕ) → k < i → get_or s k 0 ≡ b → ⊥) → i ≡ length (before b s)
  first-index [] i h e f = absurd (omega arith)
  first-index (x ∷ s) zero h e f = rw (eq-eqb x b e)
  first-index (x ∷ s) (suc i) h e f =
      rw (ne_eqb x b (f 0 (omega arith))) (ap suc (first-index s i (omega arith) e (λ k g. f (suc k) (omega arith))))

  no-index : (s : List ℕ) → ((k : ℕ) → k < length s → get_or s k 0 ≡ b → ⊥) → length s ≡ length (before b s)
  no-index [] f = refl
  no-index (x ∷ s) f = rw (ne_eqb x b (f 0 (omega arith))) (ap suc (no-index s (λ k g. f (suc k) (omega arith))))

  abbrev pub FirstIndex : List ℕ → Option ℕ → Type 0
  FirstIndex s r =
      MatchOption r ((k : ℕ) → k < length s → get_or s k 0 ≡ b → ⊥)
      (λ i. (i < length s) × (get_or s i 0 ≡ b) × ((k : ℕ) → k < i → get_or s k 0 ≡ b → ⊥))

  pub index-before : (s : List ℕ) (r : Option ℕ) → FirstIndex s r → unwrap_or r (length s) ≡ length (before b s)
  index-before s None m = no-index s m
  index-before s (Some i) m = first-index s i m.0 m.1 m.2

  -- where it is there, the whole is the bytes before it, itself and the bytes after it
  pub split : (s : List ℕ) → has b s ≡ true → s ≡ before b s ++ b ∷ after b s
  split [] h = cc
  split (x ∷ s) h = go (eqb x b) refl (split s)
    where
      go : (t : Bool) → eqb x b ≡ t → (has b s ≡ true → s ≡ before b s ++ b ∷ after b s) → x ∷ s ≡ before b (x ∷ s) ++ b ∷ after b (x ∷ s)
      go true e rest = rw (e, eqb-true x b e)
      go false e rest = rw e (ap (λ (l : List ℕ). x ∷ l) (rest (rw e at h)))

  -- where it is not, every byte is before it
  pub whole : (s : List ℕ) → has b s ≡ false → before b s ≡ s
  whole [] h = refl
  whole (x ∷ s) h = go (eqb x b) refl (whole s)
    where
      go : (t : Bool) → eqb x b ≡ t → (has b s ≡ false → before b s ≡ s) → before b (x ∷ s) ≡ x ∷ s
      go true e rest = cc
      go false e rest = rw e (ap (λ (l : List ℕ). x ∷ l) (rest (rw e at h)))

  -- it is there exactly where the bytes before it are not all
  pub is-there : (s : List ℕ) → length (before b s) < length s → has b s ≡ true
  is-there s h = passes (has b s) (λ e. omega (arith, ap length (whole s e)))

  pub is-absent : (s : List ℕ) → length s ≤ length (before b s) → has b s ≡ false
  is-absent s h =
      fails (has b s) (λ e. omega (arith, ap length (split s e), length-append (before b s) (b ∷ after b s)))

  -- the bytes after it, by the number of those before it
  pub drop-before : (s : List ℕ) → drop (suc (length (before b s))) s ≡ after b s
  drop-before [] = refl
  drop-before (x ∷ s) = go (eqb x b) refl (drop-before s)
    where
      go : (t : Bool) → eqb x b ≡ t → drop (suc (length (before b s))) s ≡ after b s → drop (suc (length (before b (x ∷ s)))) (x ∷ s) ≡ after b (x ∷ s)
      go true e rest = rw e
      go false e rest = rw e rest

  -- bytes in front among which it is not
  pub before-append : (p s : List ℕ) → has b p ≡ false → before b (p ++ b ∷ s) ≡ p
  before-append [] s h = rw (eq-eqb b b refl)
  before-append (x ∷ p) s h = go (eqb x b) refl (before-append p s)
    where
      go : (t : Bool) → eqb x b ≡ t → (has b p ≡ false → before b (p ++ b ∷ s) ≡ p) → before b (x ∷ p ++ b ∷ s) ≡ x ∷ p
      go true e rest = cc
      go false e rest = rw e (ap (λ (l : List ℕ). x ∷ l) (rest (rw e at h)))

  pub after-append : (p s : List ℕ) → has b p ≡ false → after b (p ++ b ∷ s) ≡ s
  after-append [] s h = rw (eq-eqb b b refl)
  after-append (x ∷ p) s h = go (eqb x b) refl (after-append p s)
    where
      go : (t : Bool) → eqb x b ≡ t → (has b p ≡ false → after b (p ++ b ∷ s) ≡ s) → after b (x ∷ p ++ b ∷ s) ≡ s
      go true e rest = cc
      go false e rest = rw e (rest (rw e at h))

  pub has-append_seam : (p s : List ℕ) → has b (p ++ b ∷ s) ≡ true
  has-append_seam [] s = rw (eq-eqb b b refl)
  has-append_seam (x ∷ p) s = or_right (eqb x b) (has b (p ++ b ∷ s)) (has-append_seam p s)

-- ---- the first line, by the place of the line feed

module _ (s : List ℕ) (end : ℕ) (e : end ≡ length (before line_feed s)) where
  pub front-none : length s ≤ end → [] ≡ cond (ended s) (first_line s) []
  unfolding ended
  front-none h = rw (is-absent line_feed s (omega (arith, e)))

  pub front-some : end < length s → take end s ≡ cond (ended s) (first_line s) []
  unfolding ended first_line
  front-some h = rw (found_front line_feed s end e, is-there line_feed s (omega (arith, e)))

  pub rest-none : length s ≤ end → take (length s - end) (drop end s) ≡ rest s
  unfolding rest
  rest-none h = rw (drop_of_length-le s h, ← drop-before line_feed s, ← e, drop_of_length-le s {i = suc end} (omega arith)) (take-nil (length s - end))

  pub rest_some : end < length s → take (length s - (end + 1)) (drop (end + 1) s) ≡ rest s
  unfolding rest
  rest_some h =
      rw (take_all (length s - (end + 1)) (drop (end + 1) s) (omega (arith, length-drop (end + 1) s)), add-one end, e) (drop-before line_feed s)

-- ---- the first field of the first line, by the first tab or line feed

abbrev Ends : ℕ → Type 0
Ends x = (x ≡ tab) ⊎ (x ≡ line_feed)

abbrev Inner : ℕ → Type 0
Inner x = (x ≡ tab → ⊥) × (x ≡ line_feed → ⊥)

first-end : (s : List ℕ) (i : ℕ) → i < length s → Ends (get_or s i 0) → ((k : ℕ) → k < i → Inner (get_or s k 0))
    → i ≡ length (before tab (before line_feed s))
first-end [] i h e f = absurd (omega arith)
first-end (x ∷ s) zero h (inl e) f =
    let other : x ≡ line_feed → ⊥ = λ g. omega (arith, e, g) in
    rw (ne_eqb x line_feed other, eq-eqb x tab e)
first-end (x ∷ s) zero h (inr e) f = rw (eq-eqb x line_feed e)
first-end (x ∷ s) (suc i) h e f =
    rw (ne_eqb x line_feed (f 0 (omega arith)).1, ne_eqb x tab (f 0 (omega arith)).0)
    (ap suc (first-end s i (omega arith) e (λ k g. f (suc k) (omega arith))))

no-end : (s : List ℕ) → ((k : ℕ) → k < length s → Inner (get_or s k 0)) → length s ≡ length (before tab (before line_feed s))
no-end [] f = refl
no-end (x ∷ s) f =
    rw (ne_eqb x line_feed (f 0 (omega arith)).1, ne_eqb x tab (f 0 (omega arith)).0)
    (ap suc (no-end s (λ k g. f (suc k) (omega arith))))

abbrev pub FirstEnd : List ℕ → Option ℕ → Type 0
FirstEnd s r =
    MatchOption r ((k : ℕ) → k < length s → Inner (get_or s k 0))
    (λ i. (i < length s) × Ends (get_or s i 0) × ((k : ℕ) → k < i → Inner (get_or s k 0)))

pub end-before : (s : List ℕ) (r : Option ℕ) → FirstEnd s r → unwrap_or r (length s) ≡ length (before tab (first_line s))
unfolding first_line
end-before s None m = no-end s m
end-before s (Some i) m = first-end s i m.0 m.1 m.2
