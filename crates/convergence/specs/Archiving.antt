-- The promises about archives (document 02, Req 10), each proved in proofs/Archiving.antt under its name in small
-- letters.
use Rattle.std.specs.Prelude.{ℕ, ◌≤◌, ◌≡◌, Bool, true, false, ◌↔◌, length}
use mathlib.Core.List.{List, Memᴰ}
use Rattle.std.proofs.Math.Option.{some, none}
use Rattle.lists.specs.Lists.{keep, every, distinct}
use Rattle.answers.specs.declared.Refusal.TheVariants.{Misarranged}
use Rattle.answers.specs.Answers.{first}
use Rattle.woot.specs.declared.Character.{Character}
use Rattle.woot.specs.Identifiers.{same}
use Rattle.woot.specs.Limits.{capacity}
use Rattle.woot.specs.State.{State}
use Rattle.woot.specs.Form.{all_in_range}
use Rattle.woot.specs.Placing.{identifiers}
use Rattle.bulk.specs.Archiving.{Placed, Archive, placed_from, places_of, characters_of, archived, archive_of, unarchived}
use Rattle.bulk.specs.Archiving.{state_from, place_in_range, archive_in_range, places_kept, identifiers_rise, arranged}
use Rattle.bulk.specs.Archiving.{archive_checks, unarchive_checks}

-- ---- the characters alone, whatever they are

-- no identifier occurs twice
abbrev pub Distinct : List Character → Type 0
Distinct cs = distinct same (identifiers cs) ≡ true

-- "the way back gives exactly the saved sheet that was rearranged, whatever its rows"
abbrev pub BackAfterForth : Type 0
BackAfterForth = (cs : List Character) → unarchived (archived cs) ≡ cs

-- what characters are rearranged to passes 19 where no identifier occurs twice, and nowhere else
abbrev pub ForthArranged : Type 0
ForthArranged = (cs : List Character) → (arranged (archived cs) ≡ true) ↔ Distinct cs

-- "an accepted archive is the rearrangement of just one saved sheet"
abbrev pub ForthAfterBack : Type 0
ForthAfterBack =
    (ps : List Placed) → arranged ps ≡ true →
    (archived (unarchived ps) ≡ ps) × Distinct (unarchived ps)
    × ((cs : List Character) → archived cs ≡ ps → cs ≡ unarchived ps)

-- 19 exactly: what passes is what some characters without a repeated identifier are rearranged to, and nothing else
abbrev pub ArrangedExactly : Type 0
ArrangedExactly =
    (ps : List Placed) → (arranged ps ≡ true) ↔ ((cs : List Character) × Distinct cs × (archived cs ≡ ps))

-- each as often, whatever is asked of them
abbrev pub Permuted : {A : Type 0} → List A → List A → Type 0
Permuted {A} xs ys = (p : A → Bool) → length (keep p xs) ≡ length (keep p ys)

-- the rows of an archive are the characters, each with its place, and the characters brought back are the archive's
abbrev pub RowsPermuted : Type 0
RowsPermuted =
    ((cs : List Character) → Permuted (archived cs) (placed_from 1 cs) × Permuted (characters_of (archived cs)) cs)
    × ((ps : List Placed) → Permuted (unarchived ps) (characters_of ps))

-- "by rising identifier"
abbrev pub ArchiveRises : Type 0
ArchiveRises = (cs : List Character) → Distinct cs → identifiers_rise (archived cs) ≡ true

-- "1 to the number of rows, each once": each of these numbers is a place, and no other
abbrev pub PlacesExactly : Type 0
PlacesExactly =
    (ps : List Placed) → places_kept ps ≡ true → (k : ℕ) →
    Memᴰ k (places_of ps) ↔ ((1 ≤ k) × (k ≤ length ps))

-- with places in range, more than 1,024 rows are 19, and never 3
abbrev pub PlacesBound : Type 0
PlacesBound = (ps : List Placed) → every place_in_range ps ≡ true → places_kept ps ≡ true → length ps ≤ capacity

-- ---- replicas

-- the archive of a state is brought back to it, whatever the state
abbrev pub ArchiveReturns : Type 0
ArchiveReturns = (s : State) → state_from (archive_of s) ≡ s

-- the archive of a state that archiving accepts is accepted on the way back
abbrev pub ArchiveAccepted : Type 0
ArchiveAccepted =
    (s : State) → first (archive_checks (all_in_range s) s) ≡ none → first (unarchive_checks (archive_of s)) ≡ none

-- what is accepted on the way back is the archive of just one state, which archiving accepts
abbrev pub UnarchivedOnce : Type 0
UnarchivedOnce =
    (a : Archive) → first (unarchive_checks a) ≡ none →
    (archive_of (state_from a) ≡ a)
    × (first (archive_checks (all_in_range (state_from a)) (state_from a)) ≡ none)
    × ((s : State) → archive_of s ≡ a → s ≡ state_from a)

-- 19 is met exactly where the ranges hold and some place or the identifiers fail, whatever the form
abbrev pub MisarrangedWhen : Type 0
MisarrangedWhen =
    (a : Archive) →
    (first (unarchive_checks a) ≡ some Misarranged)
    ↔ ((archive_in_range a ≡ true) × (arranged a.rows ≡ false))
