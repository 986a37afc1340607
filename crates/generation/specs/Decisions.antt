-- For the proofs of the code alone: what is made here before anything is changed, and what the calls then know.
use Rattle.std.specs.Prelude.{ℕ, ◌≡◌, cond, List, Ok, Err}
use Rattle.woot.specs.declared.Identifier.{Identifier}
use Rattle.woot.specs.declared.Insert.{Insert}
use Rattle.woot.specs.declared.Operation.TheVariants.{Insert as insert}
use Rattle.answers.specs.declared.Refusal.TheVariants.{Unplaceable, DocumentFull}
use Rattle.woot.specs.Calls.{Outcome, unchanged, carry_out, local_insert_when, local_delete_when, local_restore_when}
use Rattle.memory.specs.Columns.{Replica, meaning, replica_well_formed}
use Rattle.integration.specs.declared.Placement.{Placement}
use Rattle.integration.specs.declared.Placement.TheVariants.{Missing, Crossed, Unplaceable as placeless, Below}
use Rattle.reception.specs.declared.Decision.TheVariants.{Place}
use Rattle.reception.specs.Decisions.{full_in, Executed}
use Rattle.woot.specs.Sent.{Sending, sends}
use Rattle.generation.specs.Made.{Made}

-- an insert that was made here, with its place: conditions 9 and 11
unfoldable pub sent_in : ℕ → List ℕ → Insert → Placement → Made
sent_in n own i Missing = Err Unplaceable
sent_in n own i Crossed = Err Unplaceable
sent_in n own i placeless = Err Unplaceable
sent_in n own i (Below k) = cond (full_in n own) (Err DocumentFull) (Ok (insert i, Place k))

-- the rules refuse, or the operation is carried out where it goes, on a replica in form
unfoldable pub MadeFor : Replica → Outcome Sending → Made → Type 0
MadeFor r w (Err q) = w ≡ unchanged (meaning r) (Err q)
MadeFor r w (Ok (o, d)) = (w ≡ carry_out (sends o) (meaning r) o) × Executed r o d

-- of the three calls, whether or not the replica is in form
abbrev pub InsertMade : Replica → ℕ → ℕ → Made → Type 0
InsertMade r g n m = MadeFor r (local_insert_when (replica_well_formed r) (meaning r) g n) m

abbrev pub DeleteMade : Replica → ℕ → Made → Type 0
DeleteMade r p m = MadeFor r (local_delete_when (replica_well_formed r) (meaning r) p) m

abbrev pub RestoreMade : Replica → Identifier → Made → Type 0
RestoreMade r x m = MadeFor r (local_restore_when (replica_well_formed r) (meaning r) x) m
