-- Document 02, Req 11: the promises about pasting, of replicas in memory, each proved in proofs/ under its name in
-- small letters. Those of the rule are in `convergence`'s Pasting.
use Rattle.std.specs.Prelude.{ℕ, ◌≡◌, true, false, List, [], ◌++◌, map, length}
use Rattle.std.proofs.Math.Option.{some}
use Rattle.decoding.specs.Theorems.{Encodes}
use Rattle.woot.specs.declared.Operation.{Operation}
use Rattle.answers.specs.declared.Refusal.{Refusal}
use Rattle.answers.specs.declared.Refusal.TheVariants.{Unplaceable}
use Rattle.answers.specs.declared.Answer.{Answer}
use Rattle.answers.specs.declared.Answer.TheVariants.{Done, Refused}
use Rattle.woot.specs.declared.Replica.{Replica}
use Rattle.woot.specs.Memory.{meaning, stored, replica_well_formed}
use Rattle.answers.specs.Answers.{done, reply}
use Rattle.woot.specs.Calls.{beyond_visible}
use Rattle.woot.specs.Histories.{Call, run}
use Rattle.bulk.specs.Beginnings.{Begun, start_of}
use Rattle.bulk.specs.Pasting.{typings}
use Rattle.convergence.specs.Pasting.{sent_typing}
use Rattle.replica.specs.Theorems.{ran}
use Rattle.replica.specs.Tables.{Searches}
use Rattle.typing.specs.Columns.{typed_columns}
use Rattle.pasting.specs.declared.Pasted.{Pasted}
use Rattle.pasting.specs.Replicas.{pasted_by}

-- ---- all or none

-- an answer with the very replica and no character
abbrev pub answered_alone : Replica → Answer → Pasted
answered_alone r a = record { answer = a; replica = r; typed = typed_columns []; count = 0 }

-- "It is all or none": with a refusal none
abbrev pub PastedAllOrNone : Type 0
PastedAllOrNone =
    (r : Replica) (g : ℕ) (block : List ℕ) (q : Refusal) → (pasted_by r g block).answer ≡ Refused q →
    pasted_by r g block ≡ answered_alone r (Refused q)

-- "An empty block that meets none of refusals 1 to 4 changes nothing and writes nothing"
abbrev pub PastedNothing : Type 0
PastedNothing =
    (r : Replica) (g : ℕ) → replica_well_formed r ≡ true → beyond_visible (meaning r) g ≡ false →
    pasted_by r g [] ≡ answered_alone r (Done 0 0)

-- ---- typing

-- "It equals typing the characters one after another": the calls of `replica::insert`
abbrev pub PastedIsTyping : Type 0
PastedIsTyping =
    (r : Replica) (g : ℕ) (block ns : List ℕ) → Encodes block ns → (reply (pasted_by r g block).answer).word ≡ done →
    (pasted_by r g block).replica ≡ ran r (typings (meaning r) g ns)

-- it "gives their insert lines in sequence": the characters are those that the calls send
abbrev pub PastedSends : Type 0
PastedSends =
    (r : Replica) (g : ℕ) (block ns : List ℕ) → Encodes block ns → (reply (pasted_by r g block).answer).word ≡ done →
    (os : List Operation) × (map some os ≡ sent_typing (meaning r) g ns) × ((pasted_by r g block).typed ≡ typed_columns os)
    × ((pasted_by r g block).count ≡ length ns)

-- replicas from any beginning, after a list of calls and a pasting, are those after a list of calls: what is
-- said of lists of calls, demand 3 too, is said of pasting
abbrev pub PastedFollows : Type 0
PastedFollows =
    (b : Begun) (cs : List Call) (g : ℕ) (block ns : List ℕ) → Encodes block ns →
    let r = ran (stored (start_of b)) cs in
    (reply (pasted_by r g block).answer).word ≡ done →
    (pasted_by r g block).replica ≡ ran (stored (start_of b)) (cs ++ typings (run (start_of b) cs) g ns)

-- and on them no character meets 9
abbrev pub PastedNeverUnplaceable : Type 0
PastedNeverUnplaceable =
    (b : Begun) (cs : List Call) (g : ℕ) (block : List ℕ) →
    (pasted_by (ran (stored (start_of b)) cs) g block).answer ≡ Refused Unplaceable → ⊥

-- ---- the form and the table

-- "every call keeps the form", of what runs
abbrev pub PastedFormed : Type 0
PastedFormed =
    (r : Replica) (g : ℕ) (block : List ℕ) → replica_well_formed r ≡ true →
    replica_well_formed (pasted_by r g block).replica ≡ true

-- Req 12: its table agrees with a plain search "after every call on a sheet in form"
abbrev pub PastedSearches : Type 0
PastedSearches =
    (r : Replica) (g : ℕ) (block : List ℕ) → replica_well_formed r ≡ true → Searches (pasted_by r g block).replica
