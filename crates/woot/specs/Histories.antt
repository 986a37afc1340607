-- Lists of calls, each given the state that the one before left, and what was carried out over them.
use Rattle.std.specs.Prelude.{ℕ, ◌+◌, max, cond, ◌≡◌, ◌↔◌}
use mathlib.Core.List.{List, [], ◌∷◌, ◌++◌, Memᴰ}
use Rattle.woot.specs.declared.Identifier.{Identifier}
use Rattle.woot.specs.declared.Insert.{Insert}
use Rattle.woot.specs.declared.Operation.{Operation}
use Rattle.woot.specs.declared.Operation.TheVariants.{Insert as insert, Toggle as toggle}
use Rattle.answers.specs.declared.Answer.{Answer}
use Rattle.answers.specs.declared.Answer.TheVariants.{Done, Deferred, Duplicate, Refused}
use Rattle.woot.specs.Identifiers.{same}
use Rattle.woot.specs.State.{State}
use Rattle.woot.specs.Sending.{answer_of}
use Rattle.woot.specs.Calls.{Outcome, all_integrated, receive, local_insert, local_delete, local_restore}
use Rattle.woot.specs.Cursor.{receive_at}

-- the kinds of call, with any arguments: typing at a gap, erasing at a place, receiving; document 02, Req 05,
-- "restoring calls, with any identifier, stand in its lists too"; Req 02, receiving with a cursor at a gap
pub data Call : Type 0 where
  inserting : ℕ → ℕ → Call
  deleting : ℕ → Call
  restoring : Identifier → Call
  receiving : Operation → Call
  receiving_at : Operation → ℕ → Call

abbrev pub with_answer : {A B : Type 0} → (A → B) → Outcome A → Outcome B
with_answer f r =
    record { answer = f r.answer; state = r.state; own = r.own; drained = r.drained; discarded = r.discarded }

-- what a call answers and leaves
unfoldable pub outcome : State → Call → Outcome Answer
outcome s (inserting g n) = with_answer answer_of (local_insert s g n)
outcome s (deleting p) = with_answer answer_of (local_delete s p)
outcome s (restoring x) = with_answer answer_of (local_restore s x)
outcome s (receiving o) = receive s o
outcome s (receiving_at o g) = receive_at s o g

-- "every call gets the sheet, record included, as the call before returned or left it"
abbrev pub run : State → List Call → State
run s [] = s
run s (c ∷ cs) = run (outcome s c).state cs

-- the operations carried out over the calls, in order
abbrev pub integrated_by : State → List Call → List Operation
integrated_by s [] = []
integrated_by s (c ∷ cs) = all_integrated (outcome s c) ++ integrated_by (outcome s c).state cs

-- those of them that were carried out from the pending operations
abbrev pub drained_by : State → List Call → List Operation
drained_by s [] = []
drained_by s (c ∷ cs) = (outcome s c).drained ++ drained_by (outcome s c).state cs

-- the operations thrown out over the calls
abbrev pub discarded_by : State → List Call → List Operation
discarded_by s [] = []
discarded_by s (c ∷ cs) = (outcome s c).discarded ++ discarded_by (outcome s c).state cs

-- 1 where the answer is waits
abbrev pub is_deferred : Answer → ℕ
is_deferred (Done n m) = 0
is_deferred Deferred = 1
is_deferred Duplicate = 0
is_deferred (Refused r) = 0

-- how many calls were answered waits
abbrev pub deferred_by : State → List Call → ℕ
deferred_by s [] = 0
deferred_by s (c ∷ cs) = is_deferred (outcome s c).answer + deferred_by (outcome s c).state cs

-- "the characters held are the inserts carried out, every field counted"
abbrev pub InsertedIn : Insert → List Operation → Type 0
InsertedIn i os = Memᴰ (insert i) os

-- document 02, Req 05, of a character: "the same largest turn carried out, 0 if none was", whoever sent it
abbrev pub largest_in : Identifier → List Operation → ℕ
largest_in x [] = 0
largest_in x (insert i ∷ os) = largest_in x os
largest_in x (toggle t ∷ os) = cond (same t.target x) (max t.toggles (largest_in x os)) (largest_in x os)

-- the same characters held
abbrev pub SameInserted : List Operation → List Operation → Type 0
SameInserted os ps = (i : Insert) → InsertedIn i os ↔ InsertedIn i ps

-- "and, for each, the same largest turn carried out"
abbrev pub SameToggled : List Operation → List Operation → Type 0
SameToggled os ps = (i : Insert) → InsertedIn i os → largest_in i.id os ≡ largest_in i.id ps
