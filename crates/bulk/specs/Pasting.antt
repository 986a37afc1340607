-- Document 02, Req 11: pasting a block of text at a gap. "It equals typing the characters one after another", so the
-- rule is the list of those typing calls, and what is asked of the whole block before them.
use Rattle.std.specs.Prelude.{ℕ, ◌+◌, Bool, false, ◌||◌, not, List, [], ◌∷◌, ◌++◌, eqb, ltb, length}
use Rattle.std.proofs.Math.Option.{Option, none, some}
use Rattle.lists.specs.Lists.{missing}
use Rattle.decoding.specs.Decoding.{decoded}
use Rattle.woot.specs.declared.Identifier.{Identifier}
use Rattle.woot.specs.declared.Operation.{Operation}
use Rattle.answers.specs.declared.Refusal.TheVariants.{NotUtf8, Form, Position, Clock, Unplaceable, DocumentFull}
use Rattle.answers.specs.declared.Answer.{Answer}
use Rattle.answers.specs.declared.Answer.TheVariants.{Done, Refused}
use Rattle.woot.specs.Limits.{last_clock, capacity}
use Rattle.woot.specs.State.{State}
use Rattle.woot.specs.Form.{present_inserts, well_formed}
use Rattle.answers.specs.Answers.{number, reply, Check, ◌⇒◌, first, decided}
use Rattle.woot.specs.Calls.{next_identifier, beyond_visible}
use Rattle.woot.specs.Cursor.{visible_through}
use Rattle.woot.specs.Histories.{Call, inserting, outcome, run, integrated_by, discarded_by}

-- ---- the typing calls

-- what was read, nothing where nothing could be
abbrev pub or_nothing : Option (List ℕ) → List ℕ
or_nothing none = []
or_nothing (some ns) = ns

-- the characters of a block in UTF-8
unfoldable pub code_points_of : List ℕ → List ℕ
code_points_of block = or_nothing (decoded block)

-- "the gap just below the row", and where that is hidden "the gap below the nearest shown row above it", "or gap 0":
-- below as many visible characters as stand from the top through it
unfoldable pub gap_below : State → Identifier → ℕ
gap_below s x = visible_through s.characters x

-- "typing the characters one after another, the first at the gap and each other at the gap just below the row of the
-- one before": that row has the identifier which was next when it was typed
abbrev pub typings : State → ℕ → List ℕ → List Call
typings s g [] = []
typings s g (n ∷ ns) =
    let t = (outcome s (inserting g n)).state in
    inserting g n ∷ typings t (gap_below t (next_identifier s.site)) ns

-- the operations that calls made themselves and carried out, in order
abbrev pub own_by : State → List Call → List Operation
own_by s [] = []
own_by s (c ∷ cs) = (outcome s c).own ++ own_by (outcome s c).state cs

-- "refusal 9 at any character": one of the calls is answered so
unfoldable pub stopped : State → List Call → Bool
stopped s [] = false
stopped s (c ∷ cs) =
    eqb (reply (outcome s c).answer).refusal (number Unplaceable) || stopped (outcome s c).state cs

-- ---- pasting

-- what it answers and leaves: the state, the inserts to be sent "in sequence", all that was carried out, its own
-- inserts and what they released in the order of the calls, and what was thrown out
pub record PasteOutcome : Type 0 where
  pub answer : Answer
  pub state : State
  pub own : List Operation
  pub integrated : List Operation
  pub discarded : List Operation

-- "It is all or none": none
unfoldable pub unpasted : State → Answer → PasteOutcome
unpasted s a = record { answer = a; state = s; own = []; integrated = []; discarded = [] }

-- and all: what the calls come to
unfoldable pub pasted : State → List Call → PasteOutcome
pasted s cs =
    record {
      answer = Done (length (integrated_by s cs)) (length (discarded_by s cs));
      state = run s cs;
      own = own_by s cs;
      integrated = integrated_by s cs;
      discarded = discarded_by s cs;
    }

-- condition 5: "if the clock can't reach the last one"
unfoldable pub clock_short : State → ℕ → Bool
clock_short s count = ltb last_clock (s.site.clock + count)

-- condition 11: "if rows, waiting inserts and new characters exceed 1,024", whatever the calls would throw out
unfoldable pub overfull : State → ℕ → Bool
overfull s count = ltb capacity (length (present_inserts s) + count)

-- what is asked of the whole block before a character of it is typed; "bytes that aren't UTF-8 are refused with 20,
-- after 2"
abbrev pub block_checks : Bool → State → ℕ → List ℕ → List (Check Answer) → List (Check Answer)
block_checks formed s g block later =
    (missing (decoded block) ⇒ Refused NotUtf8) ∷ (not formed ⇒ Refused Form) ∷ (beyond_visible s g ⇒ Refused Position)
    ∷ (clock_short s (length (code_points_of block)) ⇒ Refused Clock)
    ∷ (overfull s (length (code_points_of block)) ⇒ Refused DocumentFull)
    ∷ later

-- in checking order: 11 is "here before 9"
unfoldable pub paste_checks : Bool → State → ℕ → List ℕ → List (Check Answer)
paste_checks formed s g block =
    block_checks formed s g block ((stopped s (typings s g (code_points_of block)) ⇒ Refused Unplaceable) ∷ [])

unfoldable pub paste_when : Bool → State → ℕ → List ℕ → PasteOutcome
paste_when formed s g block =
    decided (unpasted s) (first (paste_checks formed s g block)) (pasted s (typings s g (code_points_of block)))

-- pasting the bytes of a block at gap g
unfoldable pub paste : State → ℕ → List ℕ → PasteOutcome
paste s g block = paste_when (well_formed s) s g block
