-- Which number is answered to bytes, by the conditions in their order; and some lists, computed.
use Prim.Native.Nat.{ℕ}
use native.Mathlib.Omega.{arith}
use mathlib.Core.Path.{◌≡◌, refl, sym, ap, ◌∙◌}
use mathlib.Core.List.{[], ◌∷◌}
use mathlib.Core.Logic.{◌↔◌}
use mathlib.Core.Bool.{Bool, true, false}
use lib.Count.{ones, ones-ones}
use lib.ListN.{length}
use Rattle.lists.proofs.Tests.{clash}
use Rattle.answers.specs.Answers.{decided}
use Rattle.woot.specs.Ranges.{within, site_number}
use Rattle.bulk.specs.Catching.{Listing, bit_of, ones_in, precedes, in_sequence, chunk_in_range, listing_in_range, marks_zero}
use Rattle.bulk.specs.Catching.{last_word, mislisted}
use Rattle.decimal.specs.Numeral.{is_digit, leading_zero, is_numeral, value_of, digits, digits_in}
use Rattle.lines.specs.Lines.{closed}
use Rattle.lines.specs.Fields.{has_layout, numerals, values_of, line_of}
use Rattle.std.proofs.Common.{Ok}
use Rattle.listing.specs.Format.{list_numbers, chunk_numbers, chunk_line, list_bytes, is_chunk, are_list_lines}
use Rattle.listing.specs.Format.{list_laid_out, chunk_said, said_by_lines, list_said}
use Rattle.listing.specs.Calls.{list_read_checks, list_read, list_number}
use Rattle.listing.specs.Theorems.{ListNumbers, ListExample, LayoutExamples, RangeExamples, WholeWord}
use Rattle.listing.specs.Theorems.{MislistedExamples}
use Rattle.listing.proofs.Summaries.{listed-layout, listed-range, listed_wrong, listed-done, done-told}
use Rattle.listing.proofs.Trips.{list-accepted}

pub list-numbers : ListNumbers
unfolding list_number
list-numbers s = go (list_laid_out s) (listing_in_range (list_said s)) (mislisted (list_said s)) refl refl refl
  where
    counted : (n : ℕ)
        → (list_read s ≡ Ok n)
        ↔ ((list_laid_out s ≡ true) × (listing_in_range (list_said s) ≡ true) × (mislisted (list_said s) ≡ false)
        × (length (list_said s).chunks ≡ n))
    counted n = (
      λ d. let w = done-told s n d in (w.0, w.1, w.2, sym w.3),
      λ w. listed-done s w.0 w.1 w.2 ∙ ap Ok w.3,
    )

    go : (a b d : Bool) → list_laid_out s ≡ a → listing_in_range (list_said s) ≡ b → mislisted (list_said s) ≡ d
        → ((list_number (list_read s) ≡ 1) ↔ (list_laid_out s ≡ false))
        × ((list_number (list_read s) ≡ 2) ↔ ((list_laid_out s ≡ true) × (listing_in_range (list_said s) ≡ false)))
        × ((list_number (list_read s) ≡ 18)
        ↔ ((list_laid_out s ≡ true) × (listing_in_range (list_said s) ≡ true) × (mislisted (list_said s) ≡ true)))
        × ((list_number (list_read s) ≡ 0)
        ↔ ((list_laid_out s ≡ true) × (listing_in_range (list_said s) ≡ true) × (mislisted (list_said s) ≡ false)))
        × ((n : ℕ) →
        (list_read s ≡ Ok n)
        ↔ ((list_laid_out s ≡ true) × (listing_in_range (list_said s) ≡ true) × (mislisted (list_said s) ≡ false)
        × (length (list_said s).chunks ≡ n)))
    go false b d p q r =
        let num : list_number (list_read s) ≡ 1 = ap list_number (listed-layout s p) in (
          (λ e. p, λ e. num),
          (λ e. absurd (omega arith), λ w. clash w.0 p),
          (λ e. absurd (omega arith), λ w. clash w.0 p),
          (λ e. absurd (omega arith), λ w. clash w.0 p),
          counted,
        )
    go true false d p q r =
        let num : list_number (list_read s) ≡ 2 = ap list_number (listed-range s p q) in (
          (λ e. absurd (omega arith), λ e. clash p e),
          (λ e. (p, q), λ w. num),
          (λ e. absurd (omega arith), λ w. clash w.1 q),
          (λ e. absurd (omega arith), λ w. clash w.1 q),
          counted,
        )
    go true true true p q r =
        let num : list_number (list_read s) ≡ 18 = ap list_number (listed_wrong s p q r) in (
          (λ e. absurd (omega arith), λ e. clash p e),
          (λ e. absurd (omega arith), λ w. clash q w.1),
          (λ e. (p, q, r), λ w. num),
          (λ e. absurd (omega arith), λ w. clash r w.2),
          counted,
        )
    go true true false p q r =
        let num : list_number (list_read s) ≡ 0 = ap list_number (listed-done s p q r) in (
          (λ e. absurd (omega arith), λ e. clash p e),
          (λ e. absurd (omega arith), λ w. clash q w.1),
          (λ e. absurd (omega arith), λ w. clash w.2 r),
          (λ e. (p, q, r), λ w. num),
          counted,
        )

-- ---- some lists

pub list-example : ListExample
unfolding list_bytes line_of list_numbers chunk_line chunk_numbers digits digits_in list_read list_read_checks decided list_laid_out are_list_lines closed is_chunk has_layout numerals is_numeral is_digit leading_zero list_said said_by_lines chunk_said values_of value_of listing_in_range chunk_in_range site_number within mislisted ones_in ones marks_zero bit_of in_sequence precedes
list-example = (refl, refl)

pub layout_examples : LayoutExamples
unfolding list_number list_read list_read_checks decided list_laid_out are_list_lines closed is_chunk has_layout numerals is_numeral is_digit leading_zero
layout_examples = (refl, refl, refl, refl)

pub range_examples : RangeExamples
unfolding list_number list_read list_read_checks decided list_laid_out are_list_lines closed is_chunk has_layout numerals is_numeral is_digit leading_zero list_said said_by_lines chunk_said values_of value_of listing_in_range chunk_in_range site_number within
range_examples = (refl, refl, refl, refl, refl, refl, refl)

pub mislisted_examples : MislistedExamples
unfolding list_number list_read list_read_checks decided list_laid_out are_list_lines closed is_chunk has_layout numerals is_numeral is_digit leading_zero list_said said_by_lines chunk_said values_of value_of listing_in_range chunk_in_range site_number within mislisted ones_in ones marks_zero bit_of in_sequence precedes
mislisted_examples = (refl, refl, refl, refl, refl)

-- a word of 64 ones
abbrev wide : Listing
wide = record { site = 1; total = 64; chunks = record { site = 1; index = 1; word = last_word } ∷ [] }

wide_right : mislisted wide ≡ false
unfolding mislisted ones_in marks_zero bit_of in_sequence
wide_right = rw (ones-ones 64)

pub whole_word : WholeWord
unfolding listing_in_range chunk_in_range site_number within
whole_word = (list-accepted wide refl wide_right, refl)
