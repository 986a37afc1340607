-- Document 02, Req 08: the promises about building, of what runs, each proved in proofs/ under its name in small
-- letters. Those of the rule are in `convergence`'s Building.
use Rattle.std.specs.Prelude.{ℕ, ◌≡◌, true, List, map}
use Rattle.woot.specs.declared.Operation.{Operation}
use Rattle.answers.specs.declared.Refusal.{Refusal}
use Rattle.answers.specs.declared.Answer.TheVariants.{Refused}
use Rattle.woot.specs.State.{initial}
use Rattle.woot.specs.Ranges.{site_number}
use Rattle.woot.specs.Memory.{meaning, stored, replica_well_formed}
use Rattle.answers.specs.Answers.{done, reply}
use Rattle.woot.specs.Histories.{receiving}
use Rattle.bulk.specs.Beginnings.{heaped, start_of}
use Rattle.convergence.specs.Building.{each_ready, FromHeap, AllOfHeap}
use Rattle.replica.specs.Theorems.{ran}
use Rattle.replica.specs.Tables.{Searches}
use Rattle.heap.specs.Format.{heap_laid_out, heap_said}
use Rattle.building.specs.Calls.{built_by}

-- "Its rows equal those got by receiving the operations one by one, each after all it needs, in any such sequence":
-- the calls of `replica::receive` on what `Replica::empty` begins, whatever its number
abbrev pub BuiltReceives : Type 0
BuiltReceives =
    (n m : ℕ) (heap : List ℕ) (os : List Operation) → (reply (built_by n heap).answer).word ≡ done →
    site_number m ≡ true → FromHeap (heap_said heap) os → each_ready (initial m) os ≡ true →
    AllOfHeap (heap_said heap) os →
    (meaning (built_by n heap).replica).characters ≡ (meaning (ran (stored (initial m)) (map receiving os))).characters

-- what is built is a replica that histories begin with: what is said of lists of calls, demand 3 too, is said of it
abbrev pub BuiltBegins : Type 0
BuiltBegins =
    (n : ℕ) (heap : List ℕ) → heap_laid_out heap ≡ true →
    (built_by n heap).replica ≡ stored (start_of (heaped n (heap_said heap)))

-- with a refusal nothing is built: the empty replica of number 0, which no site has, stands beside it
abbrev pub BuiltRefusedEmpty : Type 0
BuiltRefusedEmpty =
    (n : ℕ) (heap : List ℕ) (r : Refusal) → (built_by n heap).answer ≡ Refused r →
    built_by n heap ≡ record { answer = Refused r; replica = stored (initial 0) }

-- "every call keeps the form", of what runs
abbrev pub BuiltWellFormed : Type 0
BuiltWellFormed =
    (n : ℕ) (heap : List ℕ) → (reply (built_by n heap).answer).word ≡ done →
    replica_well_formed (built_by n heap).replica ≡ true

-- Req 12: its table agrees with a plain search "in every sheet begun"
abbrev pub BuiltSearches : Type 0
BuiltSearches = (n : ℕ) (heap : List ℕ) → Searches (built_by n heap).replica
