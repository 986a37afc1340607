-- The full state is in form: its rows stand between the marks and have rising clocks, so that each is found at a place
-- of its own.
use Prim.Native.Nat.{ℕ, zero, suc, ◌+◌, ◌≤◌, ◌<◌}
use native.Mathlib.Omega.{arith}
use mathlib.Core.Path.{◌≡◌, refl, ap, ◌∙◌}
use mathlib.Core.Bool.{true, false}
use mathlib.Core.List.{List, [], ◌∷◌, ◌++◌, map}
use mathlib.Core.Logic.{⊎_elim}
use lib.ListN.{length}
use borrow.Author.Tests.{leb-true}
use Rattle.woot.specs.declared.Identifier.{Identifier}
use Rattle.woot.specs.declared.Character.{Character}
use Rattle.woot.specs.Limits.{capacity}
use Rattle.woot.specs.Identifiers.{begin, end, same}
use Rattle.woot.specs.Operations.{sender, character, origin, same_toggle}
use Rattle.woot.specs.Ranges.{within, site_number, is_code_point, character_id, previous_id, next_id, site_in_range, insert_in_range, in_range, character_in_range}
use Rattle.woot.specs.Placing.{identifiers, sequence, index_of, place_of, held}
use Rattle.woot.specs.Pending.{executable, pending_from}
use Rattle.woot.specs.Form.{ordered}
use Rattle.woot.specs.Clock.{own_insert}
use Rattle.woot.specs.Situations.{◌at◌, rows_from, full}
use Rattle.lists.specs.Lists.{any, every, distinct}
use Rattle.lists.proofs.Tests.{side, and_intro, or-false, not-intro}
use Rattle.convergence.specs.Theorems.{FullFormed}
use Rattle.convergence.proofs.Identifiers.{eq-same, ne_same}
use Rattle.convergence.proofs.Places.{index-here, index-later, place-above, place-held, place-begin}
use Rattle.convergence.proofs.Forms.{reformed}

-- the characters of m rows from the clock n on
abbrev standing_from : ℕ → ℕ → List Character
standing_from n m = map character (rows_from n m)

other_clock : (t n : ℕ) → (t ≡ n → ⊥) → same (1 at t) (1 at n) ≡ false
other_clock t n h = ne_same (1 at t) (1 at n) (λ e. h (ap (λ (y : Identifier). y.clock) e))

other-site : (x y : Identifier) → (x.site ≡ y.site → ⊥) → same x y ≡ false
other-site x y h = ne_same x y (λ e. h (ap (λ (y : Identifier). y.site) e))

-- the row of the clock t is found behind those of lower clocks, and the end mark behind all
row-index : (n m t : ℕ) → n ≤ t → t < n + m → n + index_of (1 at t) (identifiers (standing_from n m) ++ end ∷ []) ≡ t
unfolding character
row-index n zero t low high = absurd (omega arith)
row-index n (suc m) t low high = ⊎_elim here (λ h. later h (row-index (suc n) m t (omega arith) (omega arith))) (side t n)
  where
    rest : List Identifier
    rest = identifiers (standing_from (suc n) m) ++ end ∷ []

    here : t ≤ n → n + index_of (1 at t) (1 at n ∷ rest) ≡ t
    here h = omega (arith, index-here (1 at t) (1 at n) rest (eq-same (ap (λ (k : ℕ). 1 at k) (omega arith))))

    later : n < t → suc n + index_of (1 at t) rest ≡ t → n + index_of (1 at t) (1 at n ∷ rest) ≡ t
    later h e = omega (arith, index-later (1 at t) (1 at n) rest (other_clock t n (λ f. omega arith)))

end-index : (n m : ℕ) → index_of end (identifiers (standing_from n m) ++ end ∷ []) ≡ m
unfolding character
end-index n zero = index-here end end [] (eq-same refl)
end-index n (suc m) =
    index-later end (1 at n) (identifiers (standing_from (suc n) m) ++ end ∷ []) (other-site end (1 at n) (λ e. omega arith))
    ∙ ap suc (end-index (suc n) m)

rows-length : (n m : ℕ) → length (standing_from n m) ≡ m
rows-length n zero = refl
rows-length n (suc m) = ap suc (rows-length (suc n) m)

module _ (n m : ℕ) where
  below-begin : List Identifier
  below-begin = identifiers (standing_from n m) ++ end ∷ []

  row-place : (t : ℕ) → n ≤ t → t < n + m → n + place_of (standing_from n m) (1 at t) ≡ suc t
  unfolding place_of sequence below-begin
  row-place t low high = omega (arith, index-later (1 at t) begin below-begin (other-site (1 at t) begin (λ e. omega arith)), row-index n m t low high)

  end-place : place_of (standing_from n m) end ≡ suc m
  unfolding place_of sequence below-begin same
  end-place = index-later end begin below-begin refl ∙ ap suc (end-index n m)

  rows-ordered : (a b : ℕ) → n ≤ a → a + b ≤ n + m → every (ordered (standing_from n m)) (standing_from a b) ≡ true
  unfolding ordered character
  rows-ordered a zero low high = refl
  rows-ordered a (suc b) low high =
      let cs = standing_from n m in
      let here = row-place a low (omega arith) in
      let bottom = end-place in
      let many = rows-length n m in
      and_intro
      (and_intro (place-above cs begin (1 at a) (omega (arith, place-begin cs)) (place-held cs (1 at a) (omega arith)))
      (place-above cs (1 at a) end (omega arith) (place-held cs end (omega arith))))
      (rows-ordered (suc a) b (omega arith) (omega arith))

-- no later row has an earlier clock, and what waits is another site's
earlier_clock : (n m t : ℕ) → t < n → any (same (1 at t)) (identifiers (standing_from n m) ++ 2 at 1 ∷ []) ≡ false
unfolding character
earlier_clock n zero t h = or-false (other-site (1 at t) (2 at 1) (λ e. omega arith)) refl
earlier_clock n (suc m) t h = or-false (other_clock t n (λ e. omega arith)) (earlier_clock (suc n) m t (omega arith))

rows_apart : (n m : ℕ) → distinct same (identifiers (standing_from n m) ++ 2 at 1 ∷ []) ≡ true
unfolding character
rows_apart n zero = refl
rows_apart n (suc m) = and_intro (not-intro (earlier_clock (suc n) m n (omega arith))) (rows_apart (suc n) m)

pub full-formed : FullFormed
unfolding full same sender character origin same_toggle within site_number is_code_point character_id previous_id next_id site_in_range insert_in_range in_range character_in_range sequence index_of place_of held executable pending_from own_insert
full-formed =
    reformed full
    (record {
      site = refl;
      sound =
          record {
            ranges = refl;
            ordered-all = rows-ordered 1 1023 1 1023 (omega arith) (omega arith);
            pending-ranges = refl;
            shares = refl;
            room = leb-true _ capacity refl;
            apart = rows_apart 1 1023;
            toggles-apart = refl;
          };
      unready = refl;
      reached = refl;
    })
