-- The calls for programs in C, in one list: what each is handed, the conditions that turn it away in checking order,
-- and what it returns and writes where none of them holds.
use Rattle.std.specs.Prelude.{ℕ, Bool, true, ◌&&◌, ◌||◌, not, List, [], ◌∷◌, ◌++◌, map, eqb, ltb, length, drop}
use Rattle.lists.specs.Lists.{every, missing}
use Rattle.output.specs.Output.{placed}
use Rattle.decoding.specs.Decoding.{decoded}
use Rattle.woot.specs.declared.Identifier.{Identifier}
use Rattle.woot.specs.declared.Operation.{Operation}
use Rattle.woot.specs.declared.Operation.TheVariants.{Insert as insert, Toggle as toggle}
use Rattle.answers.specs.declared.Refusal.{Refusal}
use Rattle.answers.specs.declared.Refusal.TheVariants.{Layout, Range, NotUtf8, Mislisted, Form, Output}
use Rattle.answers.specs.declared.Answer.{Answer}
use Rattle.answers.specs.declared.Answer.TheVariants.{Done, Refused}
use Rattle.woot.specs.Ranges.{site_number, is_code_point, character_id, in_range}
use Rattle.woot.specs.State.{State, initial}
use Rattle.woot.specs.Form.{well_formed}
use Rattle.answers.specs.Answers.{Check, ◌⇒◌, first, decided}
use Rattle.woot.specs.Sending.{answer_of}
use Rattle.woot.specs.Calls.{Outcome, receive_checks, receive, insert_checks, generated_insert, local_insert}
use Rattle.woot.specs.Calls.{delete_checks, generated_delete, local_delete, restore_checks, generated_toggle, local_restore}
use Rattle.woot.specs.Cursor.{receive_at_checks, receive_at, shift_at}
use Rattle.bulk.specs.Pasting.{PasteOutcome, paste_checks, paste}
use Rattle.bulk.specs.Building.{BuildOutcome, build_checks, build}
use Rattle.bulk.specs.Loading.{use_checks}
use Rattle.bulk.specs.Catching.{listing, answer_for, listing_in_range, mislisted}
use Rattle.woot.specs.Text.{text}
use Rattle.lines.specs.Lines.{rest, concatenated}
use Rattle.cursor.specs.Bits.{shift_bits}
use Rattle.codec.specs.Operations.{operation_line}
use Rattle.codec.specs.Calls.{laid_out, said_by}
use Rattle.heap.specs.Format.{heap_laid_out, heap_said}
use Rattle.listing.specs.Format.{list_bytes, list_laid_out, list_said}
use Rattle.saved.specs.declared.Version.TheVariants.{First, Second}
use Rattle.saved.specs.Format.{saved_laid_out, saved_in_range, saved_bytes}
use Rattle.saved.specs.Calls.{loaded_state}
use Rattle.saved.specs.Conversion.{conversion, conversion_refusals}
use Rattle.saved.specs.Archive.{archiving, archiving_refusals, unarchiving, unarchiving_refusals}
use Rattle.effects.specs.Results.{Result, result}
use Rattle.effects.specs.Effects.{Effect, quiet}
use Rattle.effects.specs.Counts.{counts_of}
use Rattle.woot.specs.Sent.{Sending}

-- each call under its name in C, with the numbers and the line that it is handed beside a saved replica
pub data CCall : Type 0 where
  -- a site's number; it takes no saved replica
  wimtaze_empty : ℕ → CCall
  -- a site's number and a heap; it takes no saved replica either
  wimtaze_build : ℕ → List ℕ → CCall
  -- the saved replica alone, which is loaded for use
  wimtaze_load : CCall
  -- a line
  wimtaze_receive : List ℕ → CCall
  -- a line and a gap
  wimtaze_receive_at : List ℕ → ℕ → CCall
  -- a gap and a code point
  wimtaze_type : ℕ → ℕ → CCall
  -- a place
  wimtaze_erase : ℕ → CCall
  -- the laptop and the clock of an identifier
  wimtaze_restore : ℕ → ℕ → CCall
  -- a gap and a block of text
  wimtaze_paste : ℕ → List ℕ → CCall
  wimtaze_text : CCall
  wimtaze_counts : CCall
  -- the saved replica alone, whose characters are listed
  wimtaze_list : CCall
  -- a list, which is answered
  wimtaze_answer : List ℕ → CCall
  -- what is saved in the first form
  wimtaze_upgrade : CCall
  wimtaze_downgrade : CCall
  -- the saved replica alone, which is archived
  wimtaze_archive : CCall
  -- an archive, in place of a saved replica
  wimtaze_unarchive : CCall

-- ---- conditions on what is handed

-- conditions 1, 2 and 3 over a saved replica and what else was handed, of which the two Bools say whether it has its
-- layout and is in range; what a call asks besides stands between 2 and 3
abbrev pub input_checks_with : List ℕ → Bool → Bool → List (Check Refusal) → List (Check Refusal)
input_checks_with bytes laid ranged besides =
    (not (saved_laid_out bytes && laid) ⇒ Layout) ∷ (not (saved_in_range bytes && ranged) ⇒ Range)
    ∷ besides ++ (not (well_formed (loaded_state bytes)) ⇒ Form)
    ∷ []

-- nothing besides
unfoldable pub input_checks : List ℕ → Bool → Bool → List (Check Refusal)
input_checks bytes laid ranged = input_checks_with bytes laid ranged []

-- one line that has its layout: "bytes after the line's line feed are refusal 1"
unfoldable pub one_line : List ℕ → Bool
one_line line = eqb (length (rest line)) 0 && laid_out line

-- the identifier that two numbers name
abbrev pub named : ℕ → ℕ → Identifier
named site clock = record { site = site; clock = clock }

-- what is turned away before any rule is asked
unfoldable pub handed_checks : CCall → List ℕ → List (Check Refusal)
handed_checks (wimtaze_empty n) bytes = (not (site_number n) ⇒ Range) ∷ []
handed_checks (wimtaze_build n heap) bytes =
    (not (heap_laid_out heap) ⇒ Layout) ∷ (not (site_number n && every in_range (heap_said heap)) ⇒ Range) ∷ []
handed_checks wimtaze_load bytes = input_checks bytes true true
handed_checks (wimtaze_receive line) bytes = input_checks bytes (one_line line) (in_range (said_by line))
handed_checks (wimtaze_receive_at line gap) bytes = input_checks bytes (one_line line) (in_range (said_by line))
handed_checks (wimtaze_type gap n) bytes = input_checks bytes true (is_code_point n)
handed_checks (wimtaze_erase place) bytes = input_checks bytes true true
handed_checks (wimtaze_restore site clock) bytes = input_checks bytes true (character_id (named site clock))
handed_checks (wimtaze_paste gap block) bytes =
    input_checks_with bytes true true ((missing (decoded block) ⇒ NotUtf8) ∷ [])
handed_checks wimtaze_text bytes = input_checks bytes true true
handed_checks wimtaze_counts bytes = input_checks bytes true true
handed_checks wimtaze_list bytes = input_checks bytes true true
handed_checks (wimtaze_answer list) bytes =
    input_checks_with bytes (list_laid_out list) (listing_in_range (list_said list))
    ((mislisted (list_said list) ⇒ Mislisted) ∷ [])
handed_checks wimtaze_upgrade bytes = conversion_refusals First Second bytes
handed_checks wimtaze_downgrade bytes = conversion_refusals Second First bytes
handed_checks wimtaze_archive bytes = archiving_refusals bytes
handed_checks wimtaze_unarchive bytes = unarchiving_refusals bytes

-- ---- conditions of the rules

-- those of a call that sends, by their answers
abbrev pub answering : List (Check Sending) → List (Check Answer)
answering cs = map (λ c. c.holds ⇒ answer_of c.answer) cs

-- what the rule turns away, or knows, on the state that loading makes of the saved bytes: all its conditions but 2, 18,
-- 20 and 3, which begin its list and were looked at over all that was handed
unfoldable pub rule_checks : CCall → State → List (Check Answer)
rule_checks (wimtaze_empty n) s = []
rule_checks (wimtaze_build n heap) s = drop 1 (build_checks n (heap_said heap))
rule_checks wimtaze_load s = drop 1 (use_checks true s)
rule_checks (wimtaze_receive line) s = drop 2 (receive_checks true s (said_by line))
rule_checks (wimtaze_receive_at line gap) s = drop 2 (receive_at_checks true s (said_by line) gap)
rule_checks (wimtaze_type gap n) s = answering (drop 2 (insert_checks true s gap n))
rule_checks (wimtaze_erase place) s = answering (drop 1 (delete_checks true s place))
rule_checks (wimtaze_restore site clock) s = answering (drop 2 (restore_checks true s (named site clock)))
rule_checks (wimtaze_paste gap block) s = drop 2 (paste_checks true s gap block)
rule_checks wimtaze_text s = []
rule_checks wimtaze_counts s = []
rule_checks wimtaze_list s = []
rule_checks (wimtaze_answer list) s = []
rule_checks wimtaze_upgrade s = []
rule_checks wimtaze_downgrade s = []
rule_checks wimtaze_archive s = []
rule_checks wimtaze_unarchive s = []

-- ---- what is made

-- what a call returns, and the bytes for its first output and for its second, none where it has none
pub record Product : Type 0 where
  pub result : Result
  pub output : List ℕ
  pub line : List ℕ

-- bytes, and nothing else to tell
abbrev pub bytes_alone : List ℕ → Product
bytes_alone bytes = record { result = result (Done 0 0) (length bytes) 0; output = bytes; line = [] }

-- an answer and the saved replica of a state, with a note where the length of the second output stands
abbrev pub replica_noted : Answer → State → ℕ → Product
replica_noted a s note =
    record { result = result a (length (saved_bytes s)) note; output = saved_bytes s; line = [] }

-- the one that receiving leaves
abbrev pub replica_after : Outcome Answer → ℕ → Product
replica_after w note = replica_noted w.answer w.state note

-- document 02, Req 08: the one that is built
abbrev pub replica_built : BuildOutcome → Product
replica_built w = replica_noted w.answer w.state 0

-- the saved replica that typing, erasing or restoring leaves, and the line of the operation to be sent
abbrev pub replica_and_line : Outcome Sending → Operation → Product
replica_and_line w o =
    record {
      result = result (answer_of w.answer) (length (saved_bytes w.state)) (length (operation_line o));
      output = saved_bytes w.state;
      line = operation_line o;
    }

-- document 02, Req 11: the saved replica that pasting leaves, and the "insert lines in sequence"; of an empty block,
-- which "writes nothing", no bytes
abbrev pub replica_and_lines : PasteOutcome → List ℕ → Product
replica_and_lines w [] = bytes_alone []
replica_and_lines w (b ∷ block) =
    record {
      result = result w.answer (length (saved_bytes w.state)) (length (concatenated operation_line w.own));
      output = saved_bytes w.state;
      line = concatenated operation_line w.own;
    }

-- where no condition holds
unfoldable pub product_of : CCall → List ℕ → Product
product_of (wimtaze_empty n) bytes = bytes_alone (saved_bytes (initial n))
product_of (wimtaze_build n heap) bytes = replica_built (build n (heap_said heap))
product_of wimtaze_load bytes = bytes_alone (saved_bytes (loaded_state bytes))
product_of (wimtaze_receive line) bytes = replica_after (receive (loaded_state bytes) (said_by line)) 0
product_of (wimtaze_receive_at line gap) bytes =
    replica_after (receive_at (loaded_state bytes) (said_by line) gap)
    (shift_bits (shift_at (loaded_state bytes) (said_by line) gap))
product_of (wimtaze_type gap n) bytes =
    replica_and_line (local_insert (loaded_state bytes) gap n) (insert (generated_insert (loaded_state bytes) gap n))
product_of (wimtaze_erase place) bytes =
    replica_and_line (local_delete (loaded_state bytes) place) (toggle (generated_delete (loaded_state bytes) place))
product_of (wimtaze_restore site clock) bytes =
    replica_and_line (local_restore (loaded_state bytes) (named site clock))
    (toggle (generated_toggle (loaded_state bytes) (named site clock)))
product_of (wimtaze_paste gap block) bytes = replica_and_lines (paste (loaded_state bytes) gap block) block
product_of wimtaze_text bytes = bytes_alone (text (loaded_state bytes).characters)
product_of wimtaze_counts bytes = record { result = counts_of (loaded_state bytes); output = []; line = [] }
product_of wimtaze_list bytes = bytes_alone (list_bytes (listing (loaded_state bytes)))
product_of (wimtaze_answer list) bytes =
    bytes_alone (concatenated operation_line (answer_for (loaded_state bytes) (list_said list)))
product_of wimtaze_upgrade bytes = bytes_alone (conversion First Second bytes)
product_of wimtaze_downgrade bytes = bytes_alone (conversion Second First bytes)
product_of wimtaze_archive bytes = bytes_alone (archiving bytes)
product_of wimtaze_unarchive bytes = bytes_alone (unarchiving bytes)

-- ---- what a call does

-- condition 12: "the lent output is shorter than the result"; "refusal 12 if either output is short"
abbrev pub short : Product → List ℕ → List ℕ → Bool
short p out line = ltb (length out) (length p.output) || ltb (length line) (length p.line)

-- the conditions on what is handed, and then those of the rule
abbrev pub earlier_checks : CCall → List ℕ → List (Check Answer)
earlier_checks c bytes =
    map (λ q. q.holds ⇒ Refused q.answer) (handed_checks c bytes) ++ rule_checks c (loaded_state bytes)

-- every condition of a call, in checking order: 12 is the last
unfoldable pub call_checks : CCall → List ℕ → List ℕ → List ℕ → List (Check Answer)
call_checks c bytes out line = earlier_checks c bytes ++ (short (product_of c bytes) out line ⇒ Refused Output) ∷ []

-- the bytes at the front of the outputs; "an output longer than the result has its further bytes unchanged"
abbrev pub delivered : Product → List ℕ → List ℕ → Effect
delivered p out line =
    record { result = p.result; output = placed out 0 p.output; line = placed line 0 p.line }

-- what a call returns and leaves in its outputs: at the first condition that holds its answer, and "every output byte
-- as before"; where none does, what is made
unfoldable pub effect_of : CCall → List ℕ → List ℕ → List ℕ → Effect
effect_of c bytes out line =
    decided (quiet out line) (first (call_checks c bytes out line)) (delivered (product_of c bytes) out line)
