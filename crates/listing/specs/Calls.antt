-- Reading a list: its conditions in checking order, and what is read where none holds.
use Rattle.std.specs.Prelude.{ℕ, List, [], ◌∷◌, not, length, Result, Ok, Err}
use Rattle.answers.specs.declared.Refusal.{Refusal}
use Rattle.answers.specs.declared.Refusal.TheVariants.{Layout, Range, Mislisted}
use Rattle.answers.specs.Answers.{Check, ◌⇒◌, first, decided, number}
use Rattle.bulk.specs.Catching.{listing_in_range, mislisted}
use Rattle.listing.specs.Format.{list_laid_out, list_said}

-- conditions 1, 2 and 18, which comes "after 2"
unfoldable pub list_read_checks : List ℕ → List (Check Refusal)
list_read_checks s =
    (not (list_laid_out s) ⇒ Layout) ∷ (not (listing_in_range (list_said s)) ⇒ Range)
    ∷ (mislisted (list_said s) ⇒ Mislisted)
    ∷ []

-- how many chunks there are, or the refusal
unfoldable pub list_read : List ℕ → Result ℕ Refusal
list_read s = decided Err (first (list_read_checks s)) (Ok (length (list_said s).chunks))

-- the refusal's number, or 0
unfoldable pub list_number : Result ℕ Refusal → ℕ
list_number (Ok n) = 0
list_number (Err r) = number r
