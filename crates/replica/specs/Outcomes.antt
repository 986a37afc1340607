-- For the proofs of the code alone: the replica of lent arrays, what is made here, and the answer to it.
use Rattle.std.specs.Prelude.{ℕ, List, Ok, Err}
use Rattle.woot.specs.declared.Site.{Site}
use Rattle.woot.specs.declared.Generated.{Generated}
use Rattle.woot.specs.declared.Replica.{Replica as InMemory}
use Rattle.woot.specs.Memory as memory
use Rattle.woot.specs.Replicas.{generated}
use Rattle.woot.specs.Calls.{carry_out}
use Rattle.memory.specs.Columns.{Replica}
use Rattle.reception.specs.Decisions.{Executed}
use Rattle.woot.specs.Sent.{sends}
use Rattle.generation.specs.Made.{Made}

-- the replica in memory that a site, lent arrays and counts make
abbrev pub replica_lent : Site → List ℕ → List ℕ → ℕ → List ℕ → ℕ → List ℕ → List ℕ → InMemory
replica_lent site characters toggles n pending w heads links =
    record {
      site = site;
      document = record {
        characters = characters;
        toggles = toggles;
        length = n;
        pending = pending;
        waiting = w;
        table = record { heads = heads; links = links };
      };
    }

-- it can be carried out where it goes
unfoldable pub Sendable : Replica → Made → Type 0
Sendable r (Err q) = Unit
Sendable r (Ok (o, d)) = Executed r o d

-- the answer to what is made, with the replica that is left
unfoldable pub sent_by : InMemory → Made → Generated
sent_by r (Err q) = record { answer = Err q; replica = r }
sent_by r (Ok (o, d)) = generated r (carry_out (sends o) (memory.meaning r) o)
