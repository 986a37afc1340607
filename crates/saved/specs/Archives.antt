-- The promises about archives as bytes (document 02, Req 10), each proved in proofs/ under its name in small letters.
use Rattle.std.specs.Prelude.{ℕ, ◌≤◌, ◌<◌, ◌≡◌, ◌↔◌, ◌⊎◌, true, false, List, [], ◌∷◌, map, length, Err}
use Rattle.answers.specs.declared.Refusal.{Refusal}
use Rattle.answers.specs.Answers.{number, rank, Reported}
use Rattle.answers.specs.Order.{rises}
use Rattle.woot.specs.Limits.{capacity}
use Rattle.woot.specs.State.{State}
use Rattle.woot.specs.Form.{clock_kept, well_formed}
use Rattle.woot.specs.Writing.{writing_checks, written_number, written_length}
use Rattle.bulk.specs.Archiving.{Archive, archive_of, state_from, archive_in_range, arranged}
use Rattle.saved.specs.Format.{is_character, row_lines, saved_laid_out, saved_state, saved_in_range}
use Rattle.saved.specs.Calls.{needs_raising}
use Rattle.saved.specs.Archive.{is_placed, archive_laid_out, archive_said, archive_bytes, archiving, archiving_refusals}
use Rattle.saved.specs.Archive.{archiving_checks, archive_written, archive_out, unarchiving, unarchiving_refusals}
use Rattle.saved.specs.Archive.{unarchiving_checks, unarchive_written, unarchive_out}

-- ---- the trips

-- none of the conditions of archiving holds
abbrev pub Archives : List ℕ → Type 0
Archives s = (saved_laid_out s ≡ true) × (saved_in_range s ≡ true) × (well_formed (saved_state s) ≡ true)

-- none of those of the way back
abbrev pub Unarchives : List ℕ → Type 0
Unarchives b =
    (archive_laid_out b ≡ true) × (archive_in_range (archive_said b) ≡ true) × (arranged (archive_said b).rows ≡ true)
    × (well_formed (state_from (archive_said b)) ≡ true)

-- "The way back gives exactly the saved sheet that was rearranged, whatever its rows"
abbrev pub BackAfterArchive : Type 0
BackAfterArchive = (s : List ℕ) → Archives s → Unarchives (archiving s) × (unarchiving (archiving s) ≡ s)

-- "an accepted archive is the rearrangement of just one saved sheet"
abbrev pub ArchiveAfterBack : Type 0
ArchiveAfterBack =
    (b : List ℕ) → Unarchives b →
    Archives (unarchiving b) × (archiving (unarchiving b) ≡ b)
    × ((s : List ℕ) → Archives s → archiving s ≡ b → s ≡ unarchiving b)

-- an archive is read back from its bytes, whatever it says, and bytes with the layout are those of what they say
abbrev pub ArchiveReadsBack : Type 0
ArchiveReadsBack =
    ((a : Archive) → (archive_laid_out (archive_bytes a) ≡ true) × (archive_said (archive_bytes a) ≡ a))
    × ((b : List ℕ) → archive_laid_out b ≡ true → archive_bytes (archive_said b) ≡ b)

-- a saved replica with a row is no archive, and an archive with one no saved replica; without rows each is the other
abbrev pub ArchivesApart : Type 0
ArchivesApart =
    ((s : List ℕ) → saved_laid_out s ≡ true → (archive_laid_out s ≡ true) ↔ (row_lines is_character s ≡ []))
    × ((b : List ℕ) → archive_laid_out b ≡ true → (saved_laid_out b ≡ true) ↔ (row_lines is_placed b ≡ []))

-- ---- refusals: any bytes, any slice

-- in the checking order; 12 is put after these by `writingChecks`
abbrev pub ArchivingOrder : Type 0
ArchivingOrder =
    (s : List ℕ) →
    (map (λ c. number c.answer) (archiving_refusals s) ≡ 1 ∷ 2 ∷ 3 ∷ [])
    × (rises (map (λ c. rank c.answer) (archiving_refusals s)) ≡ true)
    × (map (λ c. number c.answer) (unarchiving_refusals s) ≡ 1 ∷ 2 ∷ 19 ∷ 3 ∷ [])
    × (rises (map (λ c. rank c.answer) (unarchiving_refusals s)) ≡ true)

-- refusal q is answered exactly when its condition holds and none before it, and no byte is changed then
abbrev pub ArchivingRefuses : Type 0
ArchivingRefuses =
    (s out : List ℕ) (q : Refusal) →
    ((archive_written s out ≡ Err q) ↔ Reported (Err q) (writing_checks (archiving_checks s) (archiving s) out))
    × (archive_written s out ≡ Err q → archive_out s out ≡ out)

abbrev pub UnarchivingRefuses : Type 0
UnarchivingRefuses =
    (b out : List ℕ) (q : Refusal) →
    ((unarchive_written b out ≡ Err q)
    ↔ Reported (Err q) (writing_checks (unarchiving_checks b) (unarchiving b) out))
    × (unarchive_written b out ≡ Err q → unarchive_out b out ≡ out)

-- by number, in the order 1, 2, 3, 12; else 0 and how many bytes there are
abbrev pub ArchivingNumbers : Type 0
ArchivingNumbers =
    (s out : List ℕ) →
    ((written_number (archive_written s out) ≡ 1) ↔ (saved_laid_out s ≡ false))
    × ((written_number (archive_written s out) ≡ 2) ↔ ((saved_laid_out s ≡ true) × (saved_in_range s ≡ false)))
    × ((written_number (archive_written s out) ≡ 3)
    ↔ ((saved_laid_out s ≡ true) × (saved_in_range s ≡ true) × (well_formed (saved_state s) ≡ false)))
    × ((written_number (archive_written s out) ≡ 12) ↔ (Archives s × (length out < length (archiving s))))
    × ((written_number (archive_written s out) ≡ 0) ↔ (Archives s × (length (archiving s) ≤ length out)))
    × ((written_length (archive_written s out) ≡ length (archiving s))
    ↔ (Archives s × (length (archiving s) ≤ length out)))

-- in the order 1, 2, 19, 3, 12: 19 "after 2", where some place or the identifiers fail, whatever the form
abbrev pub UnarchivingNumbers : Type 0
UnarchivingNumbers =
    (b out : List ℕ) →
    ((written_number (unarchive_written b out) ≡ 1) ↔ (archive_laid_out b ≡ false))
    × ((written_number (unarchive_written b out) ≡ 2)
    ↔ ((archive_laid_out b ≡ true) × (archive_in_range (archive_said b) ≡ false)))
    × ((written_number (unarchive_written b out) ≡ 19)
    ↔ ((archive_laid_out b ≡ true) × (archive_in_range (archive_said b) ≡ true) × (arranged (archive_said b).rows ≡ false)))
    × ((written_number (unarchive_written b out) ≡ 3)
    ↔ ((archive_laid_out b ≡ true) × (archive_in_range (archive_said b) ≡ true) × (arranged (archive_said b).rows ≡ true)
    × (well_formed (state_from (archive_said b)) ≡ false)))
    × ((written_number (unarchive_written b out) ≡ 12) ↔ (Unarchives b × (length out < length (unarchiving b))))
    × ((written_number (unarchive_written b out) ≡ 0) ↔ (Unarchives b × (length (unarchiving b) ≤ length out)))
    × ((written_length (unarchive_written b out) ≡ length (unarchiving b))
    ↔ (Unarchives b × (length (unarchiving b) ≤ length out)))

-- "A saved sheet or archive whose clock Req 04 would raise is refused with 3 on either trip"
abbrev pub LowClockRefused : Type 0
LowClockRefused =
    ((s out : List ℕ) → saved_laid_out s ≡ true → saved_in_range s ≡ true → needs_raising s ≡ true →
    written_number (archive_written s out) ≡ 3)
    × ((b out : List ℕ) → archive_laid_out b ≡ true → archive_in_range (archive_said b) ≡ true →
    arranged (archive_said b).rows ≡ true → clock_kept (state_from (archive_said b)) ≡ false →
    written_number (unarchive_written b out) ≡ 3)

-- more than 1,024 `P` lines are 1, 2 or 19, and never 3
abbrev pub ManyRowsRefused : Type 0
ManyRowsRefused =
    (b out : List ℕ) → capacity < length (row_lines is_placed b) →
    (written_number (unarchive_written b out) ≡ 1)
    ⊎ ((written_number (unarchive_written b out) ≡ 2) ⊎ (written_number (unarchive_written b out) ≡ 19))

-- ---- sizes

-- the first line, 1,024 rows of 46 bytes and 512 waiting lines of 18: an insert that waits takes a row's room
abbrev pub archive_most : ℕ
archive_most = 56332

abbrev pub ArchiveLength : Type 0
ArchiveLength = (s : State) → well_formed s ≡ true → length (archive_bytes (archive_of s)) ≤ archive_most
