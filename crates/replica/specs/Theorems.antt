-- Demand 3 for replicas in memory: lists of the calls whose contracts cite `received`, `receivedAt`, `inserted`,
-- `deleted` and `restored`.
use Rattle.std.specs.Prelude.{ℕ, ◌≡◌, true, List, [], ◌∷◌, Err}
use Rattle.woot.specs.declared.Replica.{Replica}
use Rattle.answers.specs.declared.Answer.{Answer}
use Rattle.answers.specs.declared.Refusal.TheVariants.{Taken}
use Rattle.woot.specs.State.{initial}
use Rattle.woot.specs.Memory.{meaning, stored, replica_well_formed}
use Rattle.woot.specs.Ranges.{site_number}
use Rattle.answers.specs.Answers.{changes}
use Rattle.woot.specs.Sending.{answer_of}
use Rattle.woot.specs.Histories.{Call, inserting, deleting, restoring, receiving, receiving_at, run}
use Rattle.bulk.specs.Beginnings.{Begun, start_of}
use Rattle.woot.specs.Histories.{SameInserted, SameToggled}
use Rattle.bulk.specs.Beginnings.{history_of}
use Rattle.woot.specs.Replicas.{received, received_at, inserted, deleted, restored}
use Rattle.replica.specs.Texts.{text_of}

-- the replica that a call returns: `replica::insert`, `replica::delete`, `replica::restore`, `replica::receive` and
-- `cursor::receive_at`
unfoldable pub called : Replica → Call → Replica
called r (inserting g n) = (inserted r g n).replica
called r (deleting p) = (deleted r p).replica
called r (restoring x) = (restored r x).replica
called r (receiving o) = (received r o).replica
called r (receiving_at o g) = (received_at r o g).replica

-- "every call gets the sheet, record included, as the call before returned or left it"
abbrev pub ran : Replica → List Call → Replica
ran r [] = r
ran r (c ∷ cs) = ran (called r c) cs

-- what it answers
unfoldable pub answer_to : Replica → Call → Answer
answer_to r (inserting g n) = answer_of (inserted r g n).answer
answer_to r (deleting p) = answer_of (deleted r p).answer
answer_to r (restoring x) = answer_of (restored r x).answer
answer_to r (receiving o) = (received r o).answer
answer_to r (receiving_at o g) = (received_at r o g).answer

-- "every call keeps the form", of what runs: a replica in form comes back in form
abbrev pub ReplicasFormed : Type 0
ReplicasFormed = (r : Replica) (c : Call) → replica_well_formed r ≡ true → replica_well_formed (called r c) ≡ true

-- and so does what comes back with done or waits, whatever was handed
abbrev pub AcceptedFormed : Type 0
AcceptedFormed = (r : Replica) (c : Call) → changes (answer_to r c) ≡ true → replica_well_formed (called r c) ≡ true

-- what `Replica::empty` begins is in form when its number is one of a site
abbrev pub EmptyReplicaFormed : Type 0
EmptyReplicaFormed = (n : ℕ) → replica_well_formed (stored (initial n)) ≡ site_number n

-- replicas in memory, from any beginning, are at every moment the states of the rules as they are stored
abbrev pub ReplicasFollow : Type 0
ReplicasFollow = (b : Begun) (cs : List Call) → ran (stored (start_of b)) cs ≡ stored (run (start_of b) cs)

-- document 02, Req 04: `replica::insert` never answers refusal 6, whatever replica it is handed
abbrev pub InsertNeverTaken : Type 0
InsertNeverTaken = (r : Replica) (g n : ℕ) → (inserted r g n).answer ≡ Err Taken → ⊥

-- demand 3: the same inserts carried out and for each the same largest count of toggles give equal characters and equal
-- visible bytes
abbrev pub ReplicasConverge : Type 0
ReplicasConverge =
    (a b : Begun) (cs ds : List Call) →
    SameInserted (history_of a cs) (history_of b ds) → SameToggled (history_of a cs) (history_of b ds) →
    ((meaning (ran (stored (start_of a)) cs)).characters ≡ (meaning (ran (stored (start_of b)) ds)).characters)
    × (text_of (ran (stored (start_of a)) cs) ≡ text_of (ran (stored (start_of b)) ds))
