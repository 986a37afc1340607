-- A copy of the document as a program holds it, in memory or saved as bytes, and every kind of call that may change it:
-- the copy that the next call gets, and the calls of the rules that were made on it.
use Rattle.std.specs.Prelude.{ℕ, ◌/◌, ◌%◌, ◌^◌, Bool, true, false, cond, List, [], ◌∷◌, ◌++◌, eqb, take, Ok, Err}
use Rattle.woot.specs.declared.Operation.{Operation}
use Rattle.woot.specs.declared.Character.{Character}
use Rattle.woot.specs.declared.Replica.{Replica}
use Rattle.woot.specs.Writing.{Written}
use Rattle.woot.specs.State.{State, initial}
use Rattle.woot.specs.Memory.{meaning, stored}
use Rattle.answers.specs.Answers.{Word, done, waits, known, refused, reply, changes}
use Rattle.woot.specs.Sending.{answer_of}
use Rattle.woot.specs.Writing.{written_number}
use Rattle.woot.specs.Text.{text}
use Rattle.woot.specs.Histories.{inserting, deleting, restoring, receiving, receiving_at, integrated_by}
use Rattle.bulk.specs.Beginnings.{Begun, empty, heaped, loaded as loadedForUse}
use Rattle.woot.specs.Histories.{Call as RuleCall}
use Rattle.bulk.specs.Pasting.{code_points_of, typings}
use Rattle.bulk.specs.Building.{build}
use Rattle.bulk.specs.Loading.{arrivals, turnings}
use Rattle.replica.specs.Theorems.{called, answer_to}
use Rattle.admission.specs.Calls.{admitted_by}
use Rattle.pasting.specs.Replicas.{pasted_by}
use Rattle.lent.specs.declared.Returned.{Returned}
use Rattle.lent.specs.Lent.{together, returned, site_after}
use Rattle.codec.specs.Calls.{said_by}
use Rattle.heap.specs.Format.{heap_said}
use Rattle.building.specs.Calls.{built_outcome, built_by}
use Rattle.transcript.specs.Calls.{received_line}
use Rattle.saved.specs.LoadAnswer.{LoadAnswer}
use Rattle.saved.specs.Format.{saved_state}
use Rattle.saved.specs.Calls.{loaded_state, loaded, load_number, saved, saved_out}
use Rattle.effects.specs.Results.{number_of}
use Rattle.effects.specs.Effects.{Effect}
use Rattle.c_calls.specs.Calls.{CCall, wimtaze_empty, wimtaze_receive, wimtaze_receive_at, wimtaze_type}
use Rattle.c_calls.specs.Calls.{wimtaze_erase, wimtaze_restore, wimtaze_text, wimtaze_counts, wimtaze_upgrade}
use Rattle.c_calls.specs.Calls.{wimtaze_downgrade, named, effect_of}
use Rattle.c_calls.specs.Calls.{wimtaze_paste, wimtaze_build, wimtaze_load, wimtaze_list, wimtaze_answer}
use Rattle.c_calls.specs.Calls.{wimtaze_archive, wimtaze_unarchive}

-- a replica in memory, or the bytes of a saved one
pub data Copy : Type 0 where
  in_memory : Replica → Copy
  as_bytes : List ℕ → Copy

-- the calls on a replica in memory, with any arguments, and with whatever the lent slices hold before the call
pub data MemoryCall : Type 0 where
  -- `replica::insert`, `replica::delete`, `replica::restore`, `replica::receive`, `cursor::receive_at`
  on_replica : RuleCall → MemoryCall
  -- `site_record::insert_on`: an insertion point and a code point
  on_record : ℕ → ℕ → MemoryCall
  -- `pasting::paste`: an insertion point and a block of text
  on_block : ℕ → List ℕ → MemoryCall
  -- `transcript::answer_line`: the first line of these bytes is read and received
  on_line : List ℕ → MemoryCall
  -- `admission::admit`, loading for use
  admit : MemoryCall
  -- `saving::save` into a lent slice
  save : List ℕ → MemoryCall

-- the calls on saved bytes
pub data BytesCall : Type 0 where
  -- `loading::load`
  load : BytesCall
  -- a call for C, with whatever its two outputs hold before it
  for_c : CCall → List ℕ → List ℕ → BytesCall

-- every kind of call
pub data Call : Type 0 where
  memory_call : MemoryCall → Call
  bytes_call : BytesCall → Call

-- what a call comes to: the copy that the next call gets, and the calls of the rules that it made
pub record Stepped : Type 0 where
  pub copy : Copy
  pub rules : List RuleCall

-- ---- what a call leaves

-- "as the call before returned or left it": the bytes written with done and waits, else those that were handed
unfoldable pub bytes_after : Word → List ℕ → List ℕ → List ℕ
bytes_after done handed new = new
bytes_after waits handed new = new
bytes_after known handed new = handed
bytes_after refused handed new = handed

-- the word and the length of the first output, as a C program reads them off the returned number
unfoldable pub word_read : ℕ → Word
word_read r = cond (eqb (r % 4) 0) done (cond (eqb (r % 4) 1) waits (cond (eqb (r % 4) 2) known refused))

unfoldable pub written_read : ℕ → ℕ
written_read r = r / 2 ^ 32 % 65536

-- and the refusal's number
abbrev pub refusal_read : ℕ → ℕ
refusal_read r = r / 4 % 64

-- the word that a call on bytes replies with
unfoldable pub word_of : Effect → Word
word_of e = word_read (number_of e.result)

-- the bytes that a C program has then
unfoldable pub kept_bytes : List ℕ → Effect → List ℕ
kept_bytes bytes e = bytes_after (word_of e) bytes (take (written_read (number_of e.result)) e.output)

-- inserting on the lent record: the record as it is left, and the document that came back
unfoldable pub after_record : Replica → Returned → Replica
after_record r x = together (site_after r.site x.answer) x.document

-- loading for use: the replica that came back, and with a refusal, beside which none does, the one that was handed
unfoldable pub after_admitting : Replica → Replica
after_admitting r = cond (changes (admitted_by r).answer) (admitted_by r).replica r

-- saved, the copy is the bytes at the front of the slice
unfoldable pub after_saving : Replica → List ℕ → Written → Copy
after_saving r out (Ok n) = as_bytes (take n out)
after_saving r out (Err q) = in_memory r

unfoldable pub after_loading : List ℕ → Replica → LoadAnswer → Copy
after_loading bytes r (Ok _) = in_memory r
after_loading bytes r (Err q) = as_bytes bytes

-- what a copy says, and what a call on it works with: of saved bytes the state that loading makes of them
unfoldable pub state_of : Copy → State
state_of (in_memory r) = meaning r
state_of (as_bytes b) = saved_state b

unfoldable pub works_on : Copy → State
works_on (in_memory r) = meaning r
works_on (as_bytes b) = loaded_state b

-- ---- the calls of the rules

-- they are made where the reply is done or waits; a call that is known or refused makes none
unfoldable pub when_made : Word → List RuleCall → List RuleCall
when_made done rs = rs
when_made waits rs = rs
when_made known rs = []
when_made refused rs = []

-- the calls of the rules that a call for C makes on a state; document 02, Req 11: pasting "equals typing the characters
-- one after another"
unfoldable pub rules_of : State → CCall → List RuleCall
rules_of s (wimtaze_empty n) = []
rules_of s (wimtaze_build n heap) = []
rules_of s wimtaze_load = []
rules_of s (wimtaze_receive line) = receiving (said_by line) ∷ []
rules_of s (wimtaze_receive_at line gap) = receiving_at (said_by line) gap ∷ []
rules_of s (wimtaze_type gap n) = inserting gap n ∷ []
rules_of s (wimtaze_erase place) = deleting place ∷ []
rules_of s (wimtaze_restore site clock) = restoring (named site clock) ∷ []
rules_of s (wimtaze_paste gap block) = typings s gap (code_points_of block)
rules_of s wimtaze_text = []
rules_of s wimtaze_counts = []
rules_of s wimtaze_list = []
rules_of s (wimtaze_answer list) = []
rules_of s wimtaze_upgrade = []
rules_of s wimtaze_downgrade = []
rules_of s wimtaze_archive = []
rules_of s wimtaze_unarchive = []

-- whether its first output is the copy as the call leaves it; pasting an empty block "writes nothing"
unfoldable pub renews : CCall → Bool
renews (wimtaze_empty n) = false
renews (wimtaze_build n heap) = false
renews wimtaze_load = true
renews (wimtaze_receive line) = true
renews (wimtaze_receive_at line gap) = true
renews (wimtaze_type gap n) = true
renews (wimtaze_erase place) = true
renews (wimtaze_restore site clock) = true
renews (wimtaze_paste gap []) = false
renews (wimtaze_paste gap (b ∷ block)) = true
renews wimtaze_text = false
renews wimtaze_counts = false
renews wimtaze_list = false
renews (wimtaze_answer list) = false
renews wimtaze_upgrade = false
renews wimtaze_downgrade = false
renews wimtaze_archive = false
renews wimtaze_unarchive = false

-- ---- one step

-- on a replica in memory
unfoldable pub on_memory : Replica → MemoryCall → Stepped
on_memory r (on_replica c) =
    record { copy = in_memory (called r c); rules = when_made (reply (answer_to r c)).word (c ∷ []) }
on_memory r (on_record g n) =
    let x : Returned = returned r.site r.document g n in
    record {
      copy = in_memory (after_record r x);
      rules = when_made (reply (answer_of x.answer)).word (inserting g n ∷ []);
    }
on_memory r (on_block g block) =
    record {
      copy = in_memory (pasted_by r g block).replica;
      rules = when_made (reply (pasted_by r g block).answer).word (typings (meaning r) g (code_points_of block));
    }
on_memory r (on_line s) =
    record {
      copy = in_memory (received_line r s).replica;
      rules = when_made (reply (received_line r s).answer).word (receiving (said_by s) ∷ []);
    }
on_memory r admit = record { copy = in_memory (after_admitting r); rules = [] }
on_memory r (save out) = record { copy = after_saving r (saved_out r out) (saved r out); rules = [] }

-- on saved bytes
unfoldable pub on_bytes : List ℕ → BytesCall → Stepped
on_bytes b load = record { copy = after_loading b (loaded b).replica (loaded b).answer; rules = [] }
on_bytes b (for_c c out line) =
    let e : Effect = effect_of c b out line in
    record {
      copy = as_bytes (cond (renews c) (kept_bytes b e) b);
      rules = when_made (word_of e) (rules_of (loaded_state b) c);
    }

-- a call that takes the other kind of copy is not made on it
unfoldable pub step_on : Copy → Call → Stepped
step_on (in_memory r) (memory_call c) = on_memory r c
step_on (in_memory r) (bytes_call c) = record { copy = in_memory r; rules = [] }
step_on (as_bytes b) (memory_call c) = record { copy = as_bytes b; rules = [] }
step_on (as_bytes b) (bytes_call c) = on_bytes b c

-- ---- what a call answers

-- the number of the refusal on a replica in memory, 0 where there is none
unfoldable pub refusal_in_memory : Replica → MemoryCall → ℕ
refusal_in_memory r (on_replica c) = (reply (answer_to r c)).refusal
refusal_in_memory r (on_record g n) = (reply (answer_of (returned r.site r.document g n).answer)).refusal
refusal_in_memory r (on_block g block) = (reply (pasted_by r g block).answer).refusal
refusal_in_memory r (on_line s) = (reply (received_line r s).answer).refusal
refusal_in_memory r admit = (reply (admitted_by r).answer).refusal
refusal_in_memory r (save out) = written_number (saved r out)

-- on saved bytes
unfoldable pub refusal_on_bytes : List ℕ → BytesCall → ℕ
refusal_on_bytes b load = load_number (loaded b).answer
refusal_on_bytes b (for_c c out line) = refusal_read (number_of (effect_of c b out line).result)

-- a call that is not made is not refused
unfoldable pub refusal_on : Copy → Call → ℕ
refusal_on (in_memory r) (memory_call c) = refusal_in_memory r c
refusal_on (in_memory r) (bytes_call c) = 0
refusal_on (as_bytes b) (memory_call c) = 0
refusal_on (as_bytes b) (bytes_call c) = refusal_on_bytes b c

-- ---- lists of calls

-- "every call gets the sheet, record included, as the call before returned or left it"
abbrev pub ran : Copy → List Call → Copy
ran p [] = p
ran p (c ∷ cs) = ran (step_on p c).copy cs

-- the calls of the rules that were made over them, in order
abbrev pub rules_by : Copy → List Call → List RuleCall
rules_by p [] = []
rules_by p (c ∷ cs) = (step_on p c).rules ++ rules_by (step_on p c).copy cs

-- the operations carried out over them, in order: what the rules carried out, each call on what the copy was then
abbrev pub carried_by : Copy → List Call → List Operation
carried_by p [] = []
carried_by p (c ∷ cs) = integrated_by (works_on p) (step_on p c).rules ++ carried_by (step_on p c).copy cs

-- ---- where a list of calls starts

-- an empty copy of any number: `Replica::empty`, or what `wimtaze_empty` writes into a lent slice; document 02, Req 08:
-- or one that is built of a number and a heap, by `building::build`, or as `wimtaze_build` writes it; Req 07: or what
-- `admission::admit` returns of any replica, or `wimtaze_load` writes of any bytes. Where a call for C refuses there
-- are no bytes
pub data Start : Type 0 where
  empty_replica : ℕ → Start
  empty_bytes : ℕ → List ℕ → Start
  built_replica : ℕ → List ℕ → Start
  built_bytes : ℕ → List ℕ → List ℕ → Start
  loaded_replica : Replica → Start
  loaded_bytes : List ℕ → List ℕ → Start

-- what the calls for C leave that begin a copy in this slice
abbrev pub emptied_into : ℕ → List ℕ → Effect
emptied_into n out = effect_of (wimtaze_empty n) [] out []

abbrev pub built_into : ℕ → List ℕ → List ℕ → Effect
built_into n heap out = effect_of (wimtaze_build n heap) [] out []

abbrev pub loaded_into : List ℕ → List ℕ → Effect
loaded_into bytes out = effect_of wimtaze_load bytes out []

unfoldable pub begun : Start → Copy
begun (empty_replica n) = in_memory (stored (initial n))
begun (empty_bytes n out) = as_bytes (kept_bytes [] (emptied_into n out))
begun (built_replica n heap) = in_memory (built_by n heap).replica
begun (built_bytes n heap out) = as_bytes (kept_bytes [] (built_into n heap out))
begun (loaded_replica r) = in_memory (admitted_by r).replica
begun (loaded_bytes bytes out) = as_bytes (kept_bytes [] (loaded_into bytes out))

-- what the rules begin with where the word is done; else the empty state of number 0, which no site has
abbrev pub begun_as : Word → Begun → Begun
begun_as done b = b
begun_as waits b = empty 0
begun_as known b = empty 0
begun_as refused b = empty 0

unfoldable pub beginning_of : Start → Begun
beginning_of (empty_replica n) = empty n
beginning_of (empty_bytes n out) = begun_as (word_of (emptied_into n out)) (empty n)
beginning_of (built_replica n heap) = begun_as (reply (built_by n heap).answer).word (heaped n (heap_said heap))
beginning_of (built_bytes n heap out) = begun_as (word_of (built_into n heap out)) (heaped n (heap_said heap))
beginning_of (loaded_replica r) = begun_as (reply (admitted_by r).answer).word (loadedForUse (meaning r))
beginning_of (loaded_bytes bytes out) = begun_as (word_of (loaded_into bytes out)) (loadedForUse (loaded_state bytes))

-- the operations that were carried out to make the start, in order: none where the word is not done
abbrev pub carried_with : Word → List Operation → List Operation
carried_with done os = os
carried_with waits os = []
carried_with known os = []
carried_with refused os = []

-- nobody knows what was carried out to make characters that are loaded: it is taken to be their inserts, and a toggle
-- of each that has been toggled
abbrev pub carried_for : List Character → List Operation
carried_for cs = arrivals cs ++ turnings 1 cs

unfoldable pub carried_before : Start → List Operation
carried_before (empty_replica n) = []
carried_before (empty_bytes n out) = []
carried_before (built_replica n heap) = (built_outcome n heap).integrated
carried_before (built_bytes n heap out) =
    carried_with (word_of (built_into n heap out)) (build n (heap_said heap)).integrated
carried_before (loaded_replica r) =
    carried_with (reply (admitted_by r).answer).word (carried_for (meaning r).characters)
carried_before (loaded_bytes bytes out) =
    carried_with (word_of (loaded_into bytes out)) (carried_for (loaded_state bytes).characters)

-- all that was carried out on a copy: to make the start, and over the calls
abbrev pub carried_since : Start → List Call → List Operation
carried_since a cs = carried_before a ++ carried_by (begun a) cs

-- the characters of a copy, and the bytes of its visible text
unfoldable pub characters_of : Copy → List Character
characters_of p = (state_of p).characters

unfoldable pub text_of : Copy → List ℕ
text_of p = text (characters_of p)
