-- For the proofs of the code alone: what the bodies of the calls leave, of the refusals over what was handed and then
-- of the rule.
use Rattle.std.specs.Prelude.{ℕ, true, not, cond, List, [], ◌∷◌}
use Rattle.answers.specs.declared.Refusal.TheVariants.{Layout, Range, Unreachable}
use Rattle.answers.specs.declared.Answer.TheVariants.{Done, Refused}
use Rattle.woot.specs.declared.Replica.{Replica}
use Rattle.woot.specs.Ranges.{site_number, is_code_point, character_id, in_range}
use Rattle.woot.specs.State.{State, initial}
use Rattle.answers.specs.Answers.{changes, ◌⇒◌, first, decided}
use Rattle.woot.specs.Calls.{receive, local_insert, local_delete, local_restore}
use Rattle.woot.specs.Cursor.{receive_at, shift_at}
use Rattle.bulk.specs.Pasting.{paste}
use Rattle.bulk.specs.Loading.{loadable}
use Rattle.bulk.specs.Catching.{listing, answer_for}
use Rattle.woot.specs.Text.{text}
use Rattle.admission.specs.Calls.{admitted_by}
use Rattle.lines.specs.Lines.{concatenated}
use Rattle.codec.specs.Operations.{operation_line}
use Rattle.codec.specs.Calls.{said_by}
use Rattle.building.specs.Calls.{built_outcome}
use Rattle.listing.specs.Format.{list_bytes, list_said}
use Rattle.saved.specs.declared.Version.{Version}
use Rattle.saved.specs.declared.Version.TheVariants.{First, Second}
use Rattle.saved.specs.Format.{saved_laid_out, saved_in_range, saved_bytes}
use Rattle.saved.specs.Calls.{loaded_state, bytes_of}
use Rattle.saved.specs.Conversion.{conversion, conversion_refusals}
use Rattle.saved.specs.Archive.{archiving, archiving_refusals, unarchiving, unarchiving_refusals}
use Rattle.effects.specs.Results.{Result, silent}
use Rattle.effects.specs.Effects.{Effect, quiet, turned, writing, after_receiving, after_receiving_at}
use Rattle.effects.specs.Effects.{after_sending, after_pasting}
use Rattle.effects.specs.Counts.{counts_of}
use Rattle.c_calls.specs.Calls.{wimtaze_answer, input_checks, one_line, named, handed_checks}

-- `wimtaze_empty`
unfoldable pub beginning : ℕ → List ℕ → Effect
beginning number out =
    decided (turned out []) (first ((not (site_number number) ⇒ Range) ∷ []))
    (writing (Done 0 0) (saved_bytes (initial number)) out)

-- `wimtaze_build`: document 02, Req 08
unfoldable pub building_here : ℕ → List ℕ → List ℕ → Effect
building_here number heap out =
    cond (changes (built_outcome number heap).answer)
    (writing (built_outcome number heap).answer (saved_bytes (built_outcome number heap).state) out)
    (quiet out [] (built_outcome number heap).answer)

-- a state in form: "refused with 16, after 3", or saved as it is
unfoldable pub used_here : State → List ℕ → Effect
used_here s out =
    decided (turned out []) (first ((not (loadable s.characters) ⇒ Unreachable) ∷ []))
    (writing (Done 0 0) (saved_bytes s) out)

-- `wimtaze_load`: document 02, Req 07
unfoldable pub loading_here : List ℕ → List ℕ → Effect
loading_here bytes out =
    decided (turned out []) (first (input_checks bytes true true)) (used_here (loaded_state bytes) out)

-- the same of a replica that was read, whose form is still to be checked
unfoldable pub replica_used : Replica → List ℕ → Effect
replica_used r out =
    cond (changes (admitted_by r).answer) (writing (admitted_by r).answer (bytes_of (admitted_by r).replica) out)
    (quiet out [] (admitted_by r).answer)

-- `wimtaze_receive`
unfoldable pub receiving_line : List ℕ → List ℕ → List ℕ → Effect
receiving_line bytes line out =
    decided (turned out []) (first (input_checks bytes (one_line line) (in_range (said_by line))))
    (after_receiving (receive (loaded_state bytes) (said_by line)) out)

-- `wimtaze_receive_at`: document 02, Req 02
unfoldable pub receiving_line_at : List ℕ → List ℕ → ℕ → List ℕ → Effect
receiving_line_at bytes line gap out =
    decided (turned out []) (first (input_checks bytes (one_line line) (in_range (said_by line))))
    (after_receiving_at (receive_at (loaded_state bytes) (said_by line) gap)
    (shift_at (loaded_state bytes) (said_by line) gap) out)

-- `wimtaze_type`
unfoldable pub inserting_here : List ℕ → ℕ → ℕ → List ℕ → List ℕ → Effect
inserting_here bytes point n out line =
    decided (turned out line) (first (input_checks bytes true (is_code_point n)))
    (after_sending (local_insert (loaded_state bytes) point n) out line)

-- `wimtaze_erase`
unfoldable pub deleting_here : List ℕ → ℕ → List ℕ → List ℕ → Effect
deleting_here bytes index out line =
    decided (turned out line) (first (input_checks bytes true true))
    (after_sending (local_delete (loaded_state bytes) index) out line)

-- `wimtaze_restore`
unfoldable pub restoring_here : List ℕ → ℕ → ℕ → List ℕ → List ℕ → Effect
restoring_here bytes site clock out line =
    decided (turned out line) (first (input_checks bytes true (character_id (named site clock))))
    (after_sending (local_restore (loaded_state bytes) (named site clock)) out line)

-- `wimtaze_paste`: document 02, Req 11. Its reader answers 1 and 2, and pasting all that comes after
unfoldable pub pasting_here : List ℕ → ℕ → List ℕ → List ℕ → List ℕ → Effect
pasting_here bytes point block out line =
    decided (turned out line)
    (first ((not (saved_laid_out bytes) ⇒ Layout) ∷ (not (saved_in_range bytes) ⇒ Range) ∷ []))
    (after_pasting (paste (loaded_state bytes) point block) out line)

-- `wimtaze_text`
unfoldable pub showing_text : List ℕ → List ℕ → Effect
showing_text bytes out =
    decided (turned out []) (first (input_checks bytes true true))
    (writing (Done 0 0) (text (loaded_state bytes).characters) out)

-- `wimtaze_list`: document 02, Req 09
unfoldable pub listing_here : List ℕ → List ℕ → Effect
listing_here bytes out =
    decided (turned out []) (first (input_checks bytes true true))
    (writing (Done 0 0) (list_bytes (listing (loaded_state bytes))) out)

-- `wimtaze_answer`: document 02, Req 09
unfoldable pub answering_here : List ℕ → List ℕ → List ℕ → Effect
answering_here bytes list out =
    decided (turned out []) (first (handed_checks (wimtaze_answer list) bytes))
    (writing (Done 0 0) (concatenated operation_line (answer_for (loaded_state bytes) (list_said list))) out)

-- between the two forms
unfoldable pub converting : Version → Version → List ℕ → List ℕ → Effect
converting v w bytes out =
    decided (turned out []) (first (conversion_refusals v w bytes)) (writing (Done 0 0) (conversion v w bytes) out)

-- `wimtaze_upgrade`
abbrev pub upgrading : List ℕ → List ℕ → Effect
upgrading bytes out = converting First Second bytes out

-- `wimtaze_downgrade`
abbrev pub downgrading : List ℕ → List ℕ → Effect
downgrading bytes out = converting Second First bytes out

-- `wimtaze_archive`: document 02, Req 10
unfoldable pub archiving_here : List ℕ → List ℕ → Effect
archiving_here bytes out =
    decided (turned out []) (first (archiving_refusals bytes)) (writing (Done 0 0) (archiving bytes) out)

-- `wimtaze_unarchive`: document 02, Req 10
unfoldable pub unarchiving_here : List ℕ → List ℕ → Effect
unarchiving_here archive out =
    decided (turned out []) (first (unarchiving_refusals archive)) (writing (Done 0 0) (unarchiving archive) out)

-- `wimtaze_counts`
unfoldable pub counting : List ℕ → Result
counting bytes =
    decided (λ q. silent (Refused q)) (first (input_checks bytes true true)) (counts_of (loaded_state bytes))
