-- The promises about what the calls return and leave, over the one list of calls, each proved in proofs/ under its name
-- in small letters.
use Rattle.std.specs.Prelude.{ℕ, ◌+◌, ◌%◌, ◌/◌, ◌^◌, ◌≤◌, ◌≡◌, Bool, true, false, cond, ◌↔◌, List, [], ◌∷◌, ◌++◌, Ok}
use Rattle.std.specs.Prelude.{map, eqb, length, take, ℤ, pos, negsuc, ◌≤ℤ◌}
use Rattle.woot.specs.declared.Operation.{Operation}
use Rattle.woot.specs.Writing.{Written}
use Rattle.answers.specs.declared.Refusal.{Refusal}
use Rattle.answers.specs.declared.Refusal.TheVariants.{Taken, Unplaceable, DocumentFull}
use Rattle.answers.specs.declared.Answer.{Answer}
use Rattle.answers.specs.declared.Answer.TheVariants.{Done, Deferred, Duplicate, Refused}
use Rattle.woot.specs.Limits.{capacity}
use Rattle.woot.specs.State.{State}
use Rattle.woot.specs.Ranges.{site_number}
use Rattle.woot.specs.Form.{clock_kept, well_formed}
use Rattle.answers.specs.Answers.{number, highest_refusal, Word, done, waits, known, refused, Reported}
use Rattle.woot.specs.Calls.{next_identifier, beyond_visible}
use Rattle.woot.specs.Cursor.{cursor_after, shift_at, last_number, moved_by}
use Rattle.bulk.specs.Pasting.{gap_below}
use Rattle.bulk.specs.Building.{left_out, build}
use Rattle.bulk.specs.Loading.{loadable}
use Rattle.bulk.specs.Catching.{listing, answer_for, listing_in_range, mislisted}
use Rattle.bulk.specs.Archiving.{archive_of, state_from, archive_in_range, arranged}
use Rattle.convergence.specs.Loading.{Made}
use Rattle.woot.specs.Text.{text}
use Rattle.woot.specs.Memory.{pending_slots}
use Rattle.answers.specs.Order.{numbers_of, ranks_of, rises}
use Rattle.woot.specs.Writing.{written_number, written_length}
use Rattle.lists.specs.Lists.{any}
use Rattle.decoding.specs.Theorems.{Encodes}
use Rattle.lines.specs.Lines.{rest, concatenated}
use Rattle.cursor.specs.Bits.{shift_read}
use Rattle.codec.specs.Operations.{operation_line}
use Rattle.codec.specs.Calls.{said_by}
use Rattle.codec.specs.Theorems.{insert_most, toggle_most}
use Rattle.heap.specs.Format.{heap_laid_out, heap_said}
use Rattle.listing.specs.Format.{list_bytes, list_laid_out, list_said}
use Rattle.listing.specs.Theorems.{list_most}
use Rattle.building.specs.Calls.{built_by}
use Rattle.saved.specs.declared.Version.{Version}
use Rattle.saved.specs.declared.Version.TheVariants.{First, Second}
use Rattle.saved.specs.Format.{site_line, saved_laid_out, saved_in_range, saved_state, saved_bytes}
use Rattle.saved.specs.Calls.{loaded_as, raising_as, needs_raising, loaded, loaded_state}
use Rattle.saved.specs.Conversion.{converted, converted_out, first_most}
use Rattle.saved.specs.Archive.{archive_laid_out, archive_said, archive_bytes, archive_written, archive_out}
use Rattle.saved.specs.Archive.{unarchive_written, unarchive_out}
use Rattle.saved.specs.Archives.{Archives, Unarchives, archive_most}
use Rattle.saved.specs.Theorems.{saved_most}
use Rattle.effects.specs.Results.{Result, word_number, in_bits, number_of}
use Rattle.effects.specs.Effects.{Effect}
use Rattle.c_calls.specs.Calls.{CCall, wimtaze_empty, wimtaze_receive, wimtaze_receive_at, wimtaze_type}
use Rattle.c_calls.specs.Calls.{wimtaze_erase, wimtaze_restore, wimtaze_text, wimtaze_counts}
use Rattle.c_calls.specs.Calls.{wimtaze_upgrade, wimtaze_downgrade, call_checks, effect_of}
use Rattle.c_calls.specs.Calls.{wimtaze_paste, wimtaze_build, wimtaze_load, wimtaze_list}
use Rattle.c_calls.specs.Calls.{wimtaze_answer, wimtaze_archive, wimtaze_unarchive}
use Rattle.effects.specs.Effects.{quiet}

-- ---- refusals: any call, any bytes, numbers and slices

-- the conditions that a call has, by number and in checking order, with 0 where known is answered. Three of them never
-- hold: 6 of typing (`CallsNeverTaken`), 15 of upgrading, and 12 of counting, which has no output (`BuffersSuffice`)
abbrev pub meets : CCall → List ℕ
meets (wimtaze_empty n) = 2 ∷ 12 ∷ []
meets (wimtaze_build n heap) = 1 ∷ 2 ∷ 17 ∷ 7 ∷ 12 ∷ []
meets wimtaze_load = 1 ∷ 2 ∷ 3 ∷ 16 ∷ 12 ∷ []
meets (wimtaze_receive line) = 1 ∷ 2 ∷ 3 ∷ 0 ∷ 7 ∷ 8 ∷ 9 ∷ 10 ∷ 11 ∷ 12 ∷ []
meets (wimtaze_receive_at line gap) = 1 ∷ 2 ∷ 3 ∷ 0 ∷ 4 ∷ 7 ∷ 8 ∷ 9 ∷ 10 ∷ 11 ∷ 12 ∷ []
meets (wimtaze_type gap n) = 1 ∷ 2 ∷ 3 ∷ 4 ∷ 5 ∷ 6 ∷ 9 ∷ 11 ∷ 12 ∷ []
meets (wimtaze_erase place) = 1 ∷ 2 ∷ 3 ∷ 4 ∷ 12 ∷ []
meets (wimtaze_restore site clock) = 1 ∷ 2 ∷ 3 ∷ 13 ∷ 14 ∷ 12 ∷ []
meets (wimtaze_paste gap block) = 1 ∷ 2 ∷ 20 ∷ 3 ∷ 4 ∷ 5 ∷ 11 ∷ 9 ∷ 12 ∷ []
meets wimtaze_text = 1 ∷ 2 ∷ 3 ∷ 12 ∷ []
meets wimtaze_counts = 1 ∷ 2 ∷ 3 ∷ 12 ∷ []
meets wimtaze_list = 1 ∷ 2 ∷ 3 ∷ 12 ∷ []
meets (wimtaze_answer list) = 1 ∷ 2 ∷ 18 ∷ 3 ∷ 12 ∷ []
meets wimtaze_upgrade = 1 ∷ 2 ∷ 3 ∷ 15 ∷ 12 ∷ []
meets wimtaze_downgrade = 1 ∷ 2 ∷ 3 ∷ 15 ∷ 12 ∷ []
meets wimtaze_archive = 1 ∷ 2 ∷ 3 ∷ 12 ∷ []
meets wimtaze_unarchive = 1 ∷ 2 ∷ 19 ∷ 3 ∷ 12 ∷ []

abbrev pub CallsMeet : Type 0
CallsMeet = (c : CCall) (bytes out line : List ℕ) → numbers_of (call_checks c bytes out line) ≡ meets c

-- 11 and 9 in each other's place
abbrev pub exchanged : Answer → Answer
exchanged (Done n m) = Done n m
exchanged Deferred = Deferred
exchanged Duplicate = Duplicate
exchanged (Refused q) = Refused (cond (eqb (number q) 9) DocumentFull (cond (eqb (number q) 11) Unplaceable q))

-- the answer whose rank an answer has in a call: its own, but in pasting 11 is "here before 9"
abbrev pub ranked_as : CCall → Answer → Answer
ranked_as (wimtaze_empty n) a = a
ranked_as (wimtaze_build n heap) a = a
ranked_as wimtaze_load a = a
ranked_as (wimtaze_receive line) a = a
ranked_as (wimtaze_receive_at line gap) a = a
ranked_as (wimtaze_type gap n) a = a
ranked_as (wimtaze_erase place) a = a
ranked_as (wimtaze_restore site clock) a = a
ranked_as (wimtaze_paste gap block) a = exchanged a
ranked_as wimtaze_text a = a
ranked_as wimtaze_counts a = a
ranked_as wimtaze_list a = a
ranked_as (wimtaze_answer list) a = a
ranked_as wimtaze_upgrade a = a
ranked_as wimtaze_downgrade a = a
ranked_as wimtaze_archive a = a
ranked_as wimtaze_unarchive a = a

-- "in checking order": the ranks rise, so that the first condition that holds is the lowest
abbrev pub CallsRise : Type 0
CallsRise =
    (c : CCall) (bytes out line : List ℕ) →
    rises (ranks_of (map (λ q. ranked_as c q.answer) (call_checks c bytes out line))) ≡ true

-- refusal q is answered, by its number, exactly when its condition holds and none before it
abbrev pub CallsRefuse : Type 0
CallsRefuse =
    (c : CCall) (bytes out line : List ℕ) (q : Refusal) →
    ((effect_of c bytes out line).result.reply.refusal ≡ number q) ↔ Reported (Refused q) (call_checks c bytes out line)

-- so no other number is answered: 0, or one that the call has
abbrev pub RefusalsMet : Type 0
RefusalsMet =
    (c : CCall) (bytes out line : List ℕ) →
    any (eqb (effect_of c bytes out line).result.reply.refusal) (0 ∷ meets c) ≡ true

-- and known exactly when the operation is known and no condition before that holds
abbrev pub CallsKnow : Type 0
CallsKnow =
    (c : CCall) (bytes out line : List ℕ) →
    ((effect_of c bytes out line).result.reply.word ≡ known) ↔ Reported Duplicate (call_checks c bytes out line)

-- an effect that writes nothing
pub record Untouched (e : Effect) (out line : List ℕ) : Type 0 where
  pub output-kept : e.output ≡ out
  pub line_kept : e.line ≡ line

-- with either, "every output byte is as before"
abbrev pub TurnedUntouched : Type 0
TurnedUntouched =
    (c : CCall) (bytes out line : List ℕ) →
    ((effect_of c bytes out line).result.reply.word ≡ known → Untouched (effect_of c bytes out line) out line)
    × ((effect_of c bytes out line).result.reply.word ≡ refused → Untouched (effect_of c bytes out line) out line)

-- document 02, Req 04: refusal 6 is never answered, though typing has it in its list; so the header has it as reserved
abbrev pub CallsNeverTaken : Type 0
CallsNeverTaken =
    (c : CCall) (bytes out line : List ℕ) → (effect_of c bytes out line).result.reply.refusal ≡ number Taken → ⊥

-- ---- the parts of what is returned

-- the most that the parts of a result can be
pub record Bounds : Type 0 where
  pub integrated : ℕ
  pub discarded : ℕ
  pub written : ℕ
  pub line : ℕ

-- a text: 1,024 characters of 4 bytes each
abbrev pub text_most : ℕ
text_most = 4096

-- the lines of a block: 1,024 inserts of 37 bytes each
abbrev pub lines_most : ℕ
lines_most = 37888

-- the lines of a heap: 1,024 inserts, and 1,024 erase or restore lines
abbrev pub heap_lines : ℕ
heap_lines = 2048

-- the lines of an answer: 1,024 inserts of 37 bytes each, and 1,024 `E` lines of 18
abbrev pub answer_most : ℕ
answer_most = 56320

-- what a call that writes these many bytes at most, and nothing else, returns at most
abbrev pub bounds_of_bytes : ℕ → Bounds
bounds_of_bytes most = record { integrated = 0; discarded = 0; written = most; line = 0 }

-- carried is at most 513 and thrown 512: an insert with all that waits; of a block carried is at most 1,536: 1,024
-- inserts with all that waits. Building from a heap tells what it left out as thrown, and none as carried. The last is
-- the length of what is sent, or the bits of a shift. A call that counts gives counts in their place
abbrev pub bounds_of : CCall → Bounds
bounds_of (wimtaze_empty n) = bounds_of_bytes saved_most
bounds_of (wimtaze_build n heap) =
    record { integrated = 0; discarded = heap_lines; written = saved_most; line = 0 }
bounds_of wimtaze_load = bounds_of_bytes saved_most
bounds_of (wimtaze_receive line) =
    record { integrated = 513; discarded = pending_slots; written = saved_most; line = 0 }
bounds_of (wimtaze_receive_at line gap) =
    record { integrated = 513; discarded = pending_slots; written = saved_most; line = 65535 }
bounds_of (wimtaze_type gap n) =
    record { integrated = 513; discarded = pending_slots; written = saved_most; line = insert_most }
bounds_of (wimtaze_erase place) = record { integrated = 1; discarded = 0; written = saved_most; line = toggle_most }
bounds_of (wimtaze_restore site clock) =
    record { integrated = 1; discarded = 0; written = saved_most; line = toggle_most }
bounds_of (wimtaze_paste gap block) =
    record { integrated = 1536; discarded = pending_slots; written = saved_most; line = lines_most }
bounds_of wimtaze_text = bounds_of_bytes text_most
bounds_of wimtaze_counts =
    record { integrated = capacity; discarded = pending_slots; written = capacity; line = capacity }
bounds_of wimtaze_list = bounds_of_bytes list_most
bounds_of (wimtaze_answer list) = bounds_of_bytes answer_most
bounds_of wimtaze_upgrade = bounds_of_bytes saved_most
bounds_of wimtaze_downgrade = bounds_of_bytes first_most
bounds_of wimtaze_archive = bounds_of_bytes archive_most
bounds_of wimtaze_unarchive = bounds_of_bytes saved_most

-- a result is within its bounds
pub record Fits (b : Bounds) (x : Result) : Type 0 where
  pub refusal-fits : x.reply.refusal ≤ highest_refusal
  pub integrated-fits : x.reply.integrated ≤ b.integrated
  pub discarded-fits : x.reply.discarded ≤ b.discarded
  pub written-fits : x.written ≤ b.written
  pub line-fits : x.line ≤ b.line

-- every call's is
abbrev pub ResultsFit : Type 0
ResultsFit = (c : CCall) (bytes out line : List ℕ) → Fits (bounds_of c) (effect_of c bytes out line).result

-- each part is read back from its bits, whatever the parts are
pub record PartsBack (w q n m a b : ℕ) : Type 0 where
  pub word_back : in_bits w q n m a b % 4 ≡ w % 4
  pub refusal-back : in_bits w q n m a b / 4 % 64 ≡ q % 64
  pub integrated-back : in_bits w q n m a b / 256 % 4096 ≡ n % 4096
  pub discarded-back : in_bits w q n m a b / 2 ^ 20 % 4096 ≡ m % 4096
  pub written_back : in_bits w q n m a b / 2 ^ 32 % 65536 ≡ a % 65536
  pub line-back : in_bits w q n m a b / 2 ^ 48 ≡ b % 65536

abbrev pub PartsReadBack : Type 0
PartsReadBack = (w q n m a b : ℕ) → PartsBack w q n m a b

-- no part of a result is cut: each is read back as it is
pub record ReadsBack (x : Result) : Type 0 where
  pub word_read : number_of x % 4 ≡ word_number x.reply.word
  pub refusal-read : number_of x / 4 % 64 ≡ x.reply.refusal
  pub integrated-read : number_of x / 256 % 4096 ≡ x.reply.integrated
  pub discarded-read : number_of x / 2 ^ 20 % 4096 ≡ x.reply.discarded
  pub written_read : number_of x / 2 ^ 32 % 65536 ≡ x.written
  pub line_read : number_of x / 2 ^ 48 ≡ x.line

abbrev pub ReturnedReadsBack : Type 0
ReturnedReadsBack = (c : CCall) (bytes out line : List ℕ) → ReadsBack (effect_of c bytes out line).result

-- the counts besides: the visible characters are as many as all of them at most, and those with the room at most 1,024
pub record CountsWithin (x : Result) : Type 0 where
  pub visible-fits : x.reply.integrated ≤ x.written
  pub full-fits : x.written + x.line ≤ capacity

abbrev pub CountsFit : Type 0
CountsFit = (bytes : List ℕ) → CountsWithin (effect_of wimtaze_counts bytes [] []).result

-- ---- sizes: the header's WIMTAZE_SHEET_MAX, WIMTAZE_OLD_SHEET_MAX, WIMTAZE_INSERT_MAX, WIMTAZE_LINES_MAX,
-- WIMTAZE_ERASE_MAX, WIMTAZE_TEXT_MAX, WIMTAZE_LIST_MAX, WIMTAZE_ANSWER_MAX and WIMTAZE_ARCHIVE_MAX

-- the visible text of a state in form is no longer than a text
abbrev pub TextLength : Type 0
TextLength = (s : State) → well_formed s ≡ true → length (text s.characters) ≤ text_most

-- the lengths that are enough for a call's outputs, 0 where it has none
pub record Room : Type 0 where
  pub output : ℕ
  pub line : ℕ

abbrev pub room_of : CCall → Room
room_of (wimtaze_empty n) = record { output = saved_most; line = 0 }
room_of (wimtaze_build n heap) = record { output = saved_most; line = 0 }
room_of wimtaze_load = record { output = saved_most; line = 0 }
room_of (wimtaze_receive line) = record { output = saved_most; line = 0 }
room_of (wimtaze_receive_at line gap) = record { output = saved_most; line = 0 }
room_of (wimtaze_type gap n) = record { output = saved_most; line = insert_most }
room_of (wimtaze_erase place) = record { output = saved_most; line = toggle_most }
room_of (wimtaze_restore site clock) = record { output = saved_most; line = toggle_most }
room_of (wimtaze_paste gap block) = record { output = saved_most; line = lines_most }
room_of wimtaze_text = record { output = text_most; line = 0 }
room_of wimtaze_counts = record { output = 0; line = 0 }
room_of wimtaze_list = record { output = list_most; line = 0 }
room_of (wimtaze_answer list) = record { output = answer_most; line = 0 }
room_of wimtaze_upgrade = record { output = saved_most; line = 0 }
room_of wimtaze_downgrade = record { output = first_most; line = 0 }
room_of wimtaze_archive = record { output = archive_most; line = 0 }
room_of wimtaze_unarchive = record { output = saved_most; line = 0 }

-- with outputs of these lengths no call answers 12, whatever else is handed
abbrev pub BuffersSuffice : Type 0
BuffersSuffice =
    (c : CCall) (bytes out line : List ℕ) → (room_of c).output ≤ length out → (room_of c).line ≤ length line →
    (effect_of c bytes out line).result.reply.refusal ≡ 12 → ⊥

-- ---- the form is kept

-- the bytes that a call wrote to its first output
abbrev pub bytes_written : Effect → List ℕ
bytes_written e = take e.result.written e.output

-- these bytes are a saved replica in form: they are loaded, and their clock needs no raising
pub record Formed (bytes : List ℕ) : Type 0 where
  pub loads : (loaded bytes).answer ≡ Ok tt
  pub unraised : needs_raising bytes ≡ false

-- whether the first output is a saved replica; pasting an empty block "writes nothing"
abbrev pub saves : CCall → Bool
saves (wimtaze_empty n) = true
saves (wimtaze_build n heap) = true
saves wimtaze_load = true
saves (wimtaze_receive line) = true
saves (wimtaze_receive_at line gap) = true
saves (wimtaze_type gap n) = true
saves (wimtaze_erase place) = true
saves (wimtaze_restore site clock) = true
saves (wimtaze_paste gap []) = false
saves (wimtaze_paste gap (b ∷ block)) = true
saves wimtaze_text = false
saves wimtaze_counts = false
saves wimtaze_list = false
saves (wimtaze_answer list) = false
saves wimtaze_upgrade = true
saves wimtaze_downgrade = false
saves wimtaze_archive = false
saves wimtaze_unarchive = true

-- "every call keeps the form", of the bytes that it writes where the word is done or waits, whatever was handed
abbrev pub Loads : Effect → Type 0
Loads e =
    (e.result.reply.word ≡ known → ⊥) → (e.result.reply.word ≡ refused → ⊥) → Formed (bytes_written e)

abbrev pub WrittenLoads : Type 0
WrittenLoads = (c : CCall) (bytes out line : List ℕ) → saves c ≡ true → Loads (effect_of c bytes out line)

-- ---- document 02, Req 02

-- the shift that a call gives with a word: 0 with all but done
abbrev pub shift_given : State → Operation → ℕ → Word → ℤ
shift_given s o g done = shift_at s o g
shift_given s o g waits = pos 0
shift_given s o g known = pos 0
shift_given s o g refused = pos 0

-- what the last sixteen bits say of the number that a call returns
abbrev pub shift_returned : Effect → ℤ
shift_returned e = shift_read (number_of e.result / 2 ^ 48)

-- what `wimtaze_receive_at` returns and leaves
abbrev pub received_at_by : List ℕ → List ℕ → ℕ → List ℕ → Effect
received_at_by bytes line gap out = effect_of (wimtaze_receive_at line gap) bytes out []

-- the shift is read back from its bits
abbrev pub ShiftReadsBack : Type 0
ShiftReadsBack =
    (bytes line : List ℕ) (gap : ℕ) (out : List ℕ) →
    shift_returned (received_at_by bytes line gap out)
    ≡ shift_given (loaded_state bytes) (said_by line) gap (received_at_by bytes line gap out).result.reply.word

-- "the shift lies between -1 and 513"
pub record ShiftWithin (z : ℤ) : Type 0 where
  pub lowest : negsuc 0 ≤ℤ z
  pub highest : z ≤ℤ pos 513

abbrev pub ReturnedShiftBounds : Type 0
ReturnedShiftBounds =
    (bytes line : List ℕ) (gap : ℕ) (out : List ℕ) → ShiftWithin (shift_returned (received_at_by bytes line gap out))

-- "gap plus shift is the new gap", on the bytes that were written
abbrev pub CursorReturned : Type 0
CursorReturned =
    (bytes line : List ℕ) (gap : ℕ) (out : List ℕ) → gap ≤ last_number →
    (received_at_by bytes line gap out).result.reply.word ≡ done →
    moved_by gap (shift_returned (received_at_by bytes line gap out))
    ≡ cursor_after (loaded_state bytes).characters
    (loaded_state (bytes_written (received_at_by bytes line gap out))).characters
    gap

-- the line that a call wrote to its second output
abbrev pub line_written : Effect → List ℕ
line_written e = take e.result.line e.line

-- whether a call makes one edit here, and writes its line
abbrev pub sends : CCall → Bool
sends (wimtaze_empty n) = false
sends (wimtaze_build n heap) = false
sends wimtaze_load = false
sends (wimtaze_receive line) = false
sends (wimtaze_receive_at line gap) = false
sends (wimtaze_type gap n) = true
sends (wimtaze_erase place) = true
sends (wimtaze_restore site clock) = true
sends (wimtaze_paste gap block) = false
sends wimtaze_text = false
sends wimtaze_counts = false
sends wimtaze_list = false
sends (wimtaze_answer list) = false
sends wimtaze_upgrade = false
sends wimtaze_downgrade = false
sends wimtaze_archive = false
sends wimtaze_unarchive = false

-- an effect replies and saves as another does
pub record SavesAs (e f : Effect) : Type 0 where
  pub same-reply : f.result.reply ≡ e.result.reply
  pub same_bytes : bytes_written f ≡ bytes_written e

-- the line of an edit made here, received with any cursor on the saved replica from before, does as the edit did: so
-- the header tells programs to learn how far their own edits move a cursor
abbrev pub OwnLineReceived : Type 0
OwnLineReceived =
    (c : CCall) (bytes out line : List ℕ) (gap : ℕ) (again : List ℕ) → sends c ≡ true →
    (effect_of c bytes out line).result.reply.word ≡ done → beyond_visible (loaded_state bytes) gap ≡ false →
    (effect_of c bytes out line).result.written ≤ length again →
    SavesAs (effect_of c bytes out line) (received_at_by bytes (line_written (effect_of c bytes out line)) gap again)

-- with the gap at the top `wimtaze_receive_at` is `wimtaze_receive`
abbrev pub TopReceives : Type 0
TopReceives =
    (bytes line out : List ℕ) → received_at_by bytes line 0 out ≡ effect_of (wimtaze_receive line) bytes out []

-- ---- document 02, Req 06

-- the call that takes what is saved in a form to the other form, and what it leaves
abbrev pub conversion_from : Version → CCall
conversion_from First = wimtaze_upgrade
conversion_from Second = wimtaze_downgrade

abbrev pub converted_from : Version → List ℕ → List ℕ → Effect
converted_from v bytes out = effect_of (conversion_from v) bytes out []

abbrev pub other : Version → Version
other First = Second
other Second = First

-- what a way returns and writes is what the conversion does, whose refusals `ConversionNumbers` has by number
pub record Converting (v : Version) (bytes out : List ℕ) : Type 0 where
  pub refusal-told :
      (converted_from v bytes out).result.reply.refusal ≡ written_number (converted v (other v) bytes out)
  pub written-told : (converted_from v bytes out).result.written ≡ written_length (converted v (other v) bytes out)
  pub output-told : (converted_from v bytes out).output ≡ converted_out v (other v) bytes out

abbrev pub TripsTell : Type 0
TripsTell = (v : Version) (bytes out : List ℕ) → Converting v bytes out

-- where the one way wrote its bytes, they say the same state and need no raising, and the other way writes of them
-- those that were handed, with the raised clock in their first line, if its output is long enough
pub record ReturnsBytes (v : Version) (bytes out back : List ℕ) : Type 0 where
  pub same-state : loaded_as (other v) (bytes_written (converted_from v bytes out)) ≡ loaded_as v bytes
  pub unraised : raising_as (other v) (bytes_written (converted_from v bytes out)) ≡ false
  pub way_back :
      (converted_from (other v) (bytes_written (converted_from v bytes out)) back).result.reply.word ≡ done
  pub line-raised :
      bytes_written (converted_from (other v) (bytes_written (converted_from v bytes out)) back)
      ≡ site_line v (loaded_as v bytes).site ++ rest bytes
  pub same_bytes :
      raising_as v bytes ≡ false →
      bytes_written (converted_from (other v) (bytes_written (converted_from v bytes out)) back) ≡ bytes

-- the way back after the way forward, and the way forward after the way back
abbrev pub TripsReturn : Type 0
TripsReturn =
    (v : Version) (bytes out back : List ℕ) → (converted_from v bytes out).result.reply.word ≡ done →
    length (site_line v (loaded_as v bytes).site ++ rest bytes) ≤ length back → ReturnsBytes v bytes out back

-- ---- document 02, Req 11

-- what `wimtaze_type` leaves of each code point, with these outputs: "the first at the gap and each other at the gap
-- just below the row of the one before", which has the identifier that was next, on the bytes that the one before wrote
abbrev pub typed_in_c : List ℕ → ℕ → List ℕ → List ℕ → List ℕ → List Effect
typed_in_c bytes gap out line [] = []
typed_in_c bytes gap out line (n ∷ ns) =
    let e : Effect = effect_of (wimtaze_type gap n) bytes out line in
    let t : State = loaded_state (bytes_written e) in
    e ∷ typed_in_c (bytes_written e) (gap_below t (next_identifier (loaded_state bytes).site)) out line ns

-- each of these is done
abbrev pub AllDone : List Effect → Type 0
AllDone [] = Unit
AllDone (e ∷ es) = (e.result.reply.word ≡ done) × AllDone es

-- a count of theirs added up, and the bytes that the last of them wrote
abbrev pub total : (Effect → ℕ) → List Effect → ℕ
total f [] = 0
total f (e ∷ es) = f e + total f es

abbrev pub last_bytes : List ℕ → List Effect → List ℕ
last_bytes bytes [] = bytes
last_bytes bytes (e ∷ es) = last_bytes (bytes_written e) es

-- an effect counts and writes what these do together, begun on the bytes
pub record WritesAs (e : Effect) (bytes : List ℕ) (es : List Effect) : Type 0 where
  pub all_done : AllDone es
  pub same-integrated : e.result.reply.integrated ≡ total (λ x. x.result.reply.integrated) es
  pub same-discarded : e.result.reply.discarded ≡ total (λ x. x.result.reply.discarded) es
  pub same_bytes : bytes_written e ≡ last_bytes bytes es
  pub same_lines : line_written e ≡ concatenated line_written es

-- "It equals typing the characters one after another", "and gives their insert lines in sequence": where a block was
-- pasted, its characters can be typed, and what was returned and written is what that comes to
abbrev pub PasteTypes : Type 0
PasteTypes =
    (bytes out line : List ℕ) (gap b : ℕ) (block ns : List ℕ) → Encodes (b ∷ block) ns →
    (effect_of (wimtaze_paste gap (b ∷ block)) bytes out line).result.reply.word ≡ done →
    (eachOut eachLine : List ℕ) → saved_most ≤ length eachOut → insert_most ≤ length eachLine →
    WritesAs (effect_of (wimtaze_paste gap (b ∷ block)) bytes out line) bytes (typed_in_c bytes gap eachOut eachLine ns)

-- "An empty block that meets none of refusals 1 to 4 changes nothing and writes nothing", whatever the clock, the space
-- and the outputs
abbrev pub PasteEmptyWrites : Type 0
PasteEmptyWrites =
    (bytes out line : List ℕ) (gap : ℕ) → saved_laid_out bytes ≡ true → saved_in_range bytes ≡ true →
    well_formed (loaded_state bytes) ≡ true → beyond_visible (loaded_state bytes) gap ≡ false →
    effect_of (wimtaze_paste gap []) bytes out line ≡ quiet out line (Done 0 0)

-- ---- document 02, Req 08

-- what `wimtaze_build` returns and leaves
abbrev pub built_in_c : ℕ → List ℕ → List ℕ → Effect
built_in_c n heap out = effect_of (wimtaze_build n heap) [] out []

-- the effect of a building that is done: what was written is the saved replica of what the rule builds, and loaded it
-- is the replica that `building::build` returns; "their count is given" where other calls tell what they threw out, and
-- none is told as carried out
pub record BuildWritten (n : ℕ) (heap : List ℕ) (e : Effect) : Type 0 where
  pub state-written : loaded_state (bytes_written e) ≡ (build n (heap_said heap)).state
  pub replica-written : (loaded (bytes_written e)).replica ≡ (built_by n heap).replica
  pub length-told : e.result.written ≡ length (saved_bytes (build n (heap_said heap)).state)
  pub left-out-told : e.result.reply.discarded ≡ length (left_out (heap_said heap))
  pub none-carried : e.result.reply.integrated ≡ 0

abbrev pub BuildWrites : Type 0
BuildWrites =
    (n : ℕ) (heap out : List ℕ) → (built_in_c n heap out).result.reply.word ≡ done →
    BuildWritten n heap (built_in_c n heap out)

-- a heap of no lines is an empty replica, with every answer and every byte as `wimtaze_empty` gives them
abbrev pub BuildEmptyHeap : Type 0
BuildEmptyHeap = (n : ℕ) (out : List ℕ) → built_in_c n [] out ≡ effect_of (wimtaze_empty n) [] out []

-- ---- document 02, Req 07

-- what `wimtaze_load` returns and leaves
abbrev pub loaded_in_c : List ℕ → List ℕ → Effect
loaded_in_c bytes out = effect_of wimtaze_load bytes out []

-- the saved replica is in form, its clock raised
pub record InForm (bytes : List ℕ) : Type 0 where
  pub laid_out : saved_laid_out bytes ≡ true
  pub in-range : saved_in_range bytes ≡ true
  pub formed : well_formed (loaded_state bytes) ≡ true

-- "accept a sheet in form exactly when some sequence of received operations, begun from an empty sheet, leaves those
-- rows with those neighbours, order and turns": begun from one of any number, into an output of the header's size
abbrev pub LoadAccepts : Type 0
LoadAccepts =
    (bytes out : List ℕ) (n : ℕ) → site_number n ≡ true → saved_most ≤ length out →
    ((loaded_in_c bytes out).result.reply.word ≡ done) ↔ (InForm bytes × Made n (loaded_state bytes).characters)

-- "A sheet in form that can't be made so is refused with 16, after 3": where 1, 2 and 3 do not hold and the rows are
-- not loadable, whatever waits and however short the output is
abbrev pub LoadExactly : Type 0
LoadExactly =
    (bytes out : List ℕ) →
    ((loaded_in_c bytes out).result.reply.refusal ≡ 16)
    ↔ (InForm bytes × (loadable (loaded_state bytes).characters ≡ false))

-- a saved replica that is accepted is written as it was handed: what is written says the same state, the first line
-- alone may differ, which has the raised clock, and where the clock needs no raising not one byte does
pub record LoadWritten (bytes : List ℕ) (e : Effect) : Type 0 where
  pub same-state : loaded_state (bytes_written e) ≡ loaded_state bytes
  pub line-raised : bytes_written e ≡ site_line Second (loaded_state bytes).site ++ rest bytes
  pub same_bytes : needs_raising bytes ≡ false → bytes_written e ≡ bytes

abbrev pub LoadSame : Type 0
LoadSame =
    (bytes out : List ℕ) → (loaded_in_c bytes out).result.reply.word ≡ done →
    LoadWritten bytes (loaded_in_c bytes out)

-- ---- document 02, Req 09

-- what `wimtaze_list` and `wimtaze_answer` return and leave
abbrev pub listed_in_c : List ℕ → List ℕ → Effect
listed_in_c bytes out = effect_of wimtaze_list bytes out []

abbrev pub answered_in_c : List ℕ → List ℕ → List ℕ → Effect
answered_in_c bytes list out = effect_of (wimtaze_answer list) bytes out []

-- the effect of a listing that is done: what was written is a list, and says what the rule lists
pub record ListGiven (bytes : List ℕ) (e : Effect) : Type 0 where
  pub list_written : bytes_written e ≡ list_bytes (listing (loaded_state bytes))
  pub list-laid-out : list_laid_out (bytes_written e) ≡ true
  pub list-says : list_said (bytes_written e) ≡ listing (loaded_state bytes)

abbrev pub ListWrites : Type 0
ListWrites =
    (bytes out : List ℕ) → (listed_in_c bytes out).result.reply.word ≡ done → ListGiven bytes (listed_in_c bytes out)

-- into an output of the header's size every saved replica in form is listed, and no other
abbrev pub ListDone : Type 0
ListDone =
    (bytes out : List ℕ) → list_most ≤ length out →
    ((listed_in_c bytes out).result.reply.word ≡ done) ↔ InForm bytes

-- the effect of an answer that is given: what was written is a heap, whose lines say the operations of the rule in
-- their sequence
pub record AnswerGiven (bytes list : List ℕ) (e : Effect) : Type 0 where
  pub lines-written : bytes_written e ≡ concatenated operation_line (answer_for (loaded_state bytes) (list_said list))
  pub lines-laid-out : heap_laid_out (bytes_written e) ≡ true
  pub lines-say : heap_said (bytes_written e) ≡ answer_for (loaded_state bytes) (list_said list)

abbrev pub AnswerWrites : Type 0
AnswerWrites =
    (bytes list out : List ℕ) → (answered_in_c bytes list out).result.reply.word ≡ done →
    AnswerGiven bytes list (answered_in_c bytes list out)

-- the list of any state in form is answered by every saved replica in form, into an output of the header's size
abbrev pub ListAnswered : Type 0
ListAnswered =
    (s : State) (bytes out : List ℕ) → well_formed s ≡ true → InForm bytes → answer_most ≤ length out →
    (answered_in_c bytes (list_bytes (listing s)) out).result.reply.word ≡ done

-- a list and a saved replica, both with their layout and in range
pub record BothInRange (bytes list : List ℕ) : Type 0 where
  pub laid_out : saved_laid_out bytes ≡ true
  pub list-laid-out : list_laid_out list ≡ true
  pub in-range : saved_in_range bytes ≡ true
  pub list-in-range : listing_in_range (list_said list) ≡ true

-- "is refused with 18, after 2": where neither 1 nor 2 holds of either and the list is wrong, in form or not and
-- however short the output is
abbrev pub MislistedExactly : Type 0
MislistedExactly =
    (bytes list out : List ℕ) →
    ((answered_in_c bytes list out).result.reply.refusal ≡ 18)
    ↔ (BothInRange bytes list × (mislisted (list_said list) ≡ true))

-- ---- document 02, Req 10

-- what `wimtaze_archive` and `wimtaze_unarchive` return and leave
abbrev pub archived_in_c : List ℕ → List ℕ → Effect
archived_in_c bytes out = effect_of wimtaze_archive bytes out []

abbrev pub unarchived_in_c : List ℕ → List ℕ → Effect
unarchived_in_c archive out = effect_of wimtaze_unarchive archive out []

-- an effect tells what a writer answers, and leaves what it leaves in the slice
pub record Tells (e : Effect) (answer : Written) (after : List ℕ) : Type 0 where
  pub refusal-told : e.result.reply.refusal ≡ written_number answer
  pub written-told : e.result.written ≡ written_length answer
  pub output-told : e.output ≡ after

-- what both return and write is what the trips do, whose refusals `ArchivingNumbers` and `UnarchivingNumbers` have by
-- number
abbrev pub ArchivesTell : Type 0
ArchivesTell =
    (bytes out : List ℕ) →
    Tells (archived_in_c bytes out) (archive_written bytes out) (archive_out bytes out)
    × Tells (unarchived_in_c bytes out) (unarchive_written bytes out) (unarchive_out bytes out)

-- the effect of an archiving that is done: what was written is an archive, and says the rows of what was handed by
-- rising identifier
pub record ArchiveGiven (bytes : List ℕ) (e : Effect) : Type 0 where
  pub archive-written : bytes_written e ≡ archive_bytes (archive_of (saved_state bytes))
  pub archive-laid-out : archive_laid_out (bytes_written e) ≡ true
  pub archive-says : archive_said (bytes_written e) ≡ archive_of (saved_state bytes)

abbrev pub ArchiveWrites : Type 0
ArchiveWrites =
    (bytes out : List ℕ) → (archived_in_c bytes out).result.reply.word ≡ done →
    ArchiveGiven bytes (archived_in_c bytes out)

-- the effect of a way back that is done: what was written is a saved replica, and says the rows of the archive at their
-- places
pub record SheetGiven (archive : List ℕ) (e : Effect) : Type 0 where
  pub sheet-written : bytes_written e ≡ saved_bytes (state_from (archive_said archive))
  pub sheet-says : loaded_state (bytes_written e) ≡ state_from (archive_said archive)

abbrev pub UnarchiveWrites : Type 0
UnarchiveWrites =
    (archive out : List ℕ) → (unarchived_in_c archive out).result.reply.word ≡ done →
    SheetGiven archive (unarchived_in_c archive out)

-- into an output of the header's size every saved replica in form is archived, whose clock needs no raising, and no
-- other
abbrev pub ArchiveDone : Type 0
ArchiveDone =
    (bytes out : List ℕ) → archive_most ≤ length out →
    ((archived_in_c bytes out).result.reply.word ≡ done) ↔ Archives bytes

-- and every archive that is arranged, and in form at its places, is brought back, and no other
abbrev pub UnarchiveDone : Type 0
UnarchiveDone =
    (archive out : List ℕ) → saved_most ≤ length out →
    ((unarchived_in_c archive out).result.reply.word ≡ done) ↔ Unarchives archive

-- "The way back gives exactly the saved sheet that was rearranged, whatever its rows": the one call after the other
abbrev pub ArchiveBack : Type 0
ArchiveBack =
    (bytes out back : List ℕ) → (archived_in_c bytes out).result.reply.word ≡ done → length bytes ≤ length back →
    let again : Effect = unarchived_in_c (bytes_written (archived_in_c bytes out)) back in
    (again.result.reply.word ≡ done) × (bytes_written again ≡ bytes)

-- of what was brought back the archive is written again, byte for byte, and every saved replica that it was ever
-- written of is the one that was brought back
pub record OfOneSheet (archive sheet : List ℕ) : Type 0 where
  pub archived-again :
      (out : List ℕ) → length archive ≤ length out →
      ((archived_in_c sheet out).result.reply.word ≡ done) × (bytes_written (archived_in_c sheet out) ≡ archive)
  pub no_other :
      (bytes out : List ℕ) → (archived_in_c bytes out).result.reply.word ≡ done →
      bytes_written (archived_in_c bytes out) ≡ archive → bytes ≡ sheet

-- "an accepted archive is the rearrangement of just one saved sheet"
abbrev pub ArchiveOfOne : Type 0
ArchiveOfOne =
    (archive out : List ℕ) → (unarchived_in_c archive out).result.reply.word ≡ done →
    OfOneSheet archive (bytes_written (unarchived_in_c archive out))

-- "A saved sheet or archive whose clock Req 04 would raise is refused with 3 on either trip", however short the output
-- is
abbrev pub LowClockTurned : Type 0
LowClockTurned =
    ((bytes out : List ℕ) → saved_laid_out bytes ≡ true → saved_in_range bytes ≡ true → needs_raising bytes ≡ true →
    (archived_in_c bytes out).result.reply.refusal ≡ 3)
    × ((archive out : List ℕ) → archive_laid_out archive ≡ true → archive_in_range (archive_said archive) ≡ true →
    arranged (archive_said archive).rows ≡ true → clock_kept (state_from (archive_said archive)) ≡ false →
    (unarchived_in_c archive out).result.reply.refusal ≡ 3)

-- "are refused with 19, after 2": where neither 1 nor 2 holds and the archive is not arranged, in form or not and
-- however short the output is
abbrev pub MisarrangedExactly : Type 0
MisarrangedExactly =
    (archive out : List ℕ) →
    ((unarchived_in_c archive out).result.reply.refusal ≡ 19)
    ↔ ((archive_laid_out archive ≡ true) × (archive_in_range (archive_said archive) ≡ true)
    × (arranged (archive_said archive).rows ≡ false))
