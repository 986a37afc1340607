-- Inserting on a lent record: what comes back by value, what is left in the record, and that the two together are the
-- replica that the call on replicas returns.
use Rattle.std.specs.Prelude.{ℕ, ◌+◌, ◌≡◌, true, Ok, Err}
use Rattle.woot.specs.declared.Site.{Site}
use Rattle.woot.specs.declared.Document.{Document}
use Rattle.woot.specs.declared.Replica.{Replica}
use Rattle.woot.specs.Memory.{replica_well_formed}
use Rattle.woot.specs.Histories.{inserting}
use Rattle.woot.specs.Replicas.{inserted}
use Rattle.replica.specs.Theorems.{called}
use Rattle.lent.specs.declared.Returned.{Returned}
use Rattle.woot.specs.Sent.{Sending}

-- "the record counts as part of the sheet"
abbrev pub together : Site → Document → Replica
together s d = record { site = s; document = d }

-- the answer and the document of the call on replicas
unfoldable pub returned : Site → Document → ℕ → ℕ → Returned
returned s d g n =
    record { answer = (inserted (together s d) g n).answer; document = (inserted (together s d) g n).replica.document }

-- a record with another clock
abbrev pub with_clock : Site → ℕ → Site
with_clock s k = record { number = s.number; clock = k }

-- "which advances the clock by one in it"; on a refusal the record is as it was
unfoldable pub site_after : Site → Sending → Site
site_after s (Ok x) = with_clock s (s.clock + 1)
site_after s (Err q) = s

-- "every call keeps the form": record and document together come back in form where they were
abbrev pub RecordFormed : Type 0
RecordFormed =
    (s : Site) (d : Document) (g n : ℕ) → replica_well_formed (together s d) ≡ true →
    replica_well_formed (together (site_after s (returned s d g n).answer) (returned s d g n).document) ≡ true

-- record and document together are what the call returns, so that inserting on a lent record is a call of demand 3's
-- lists
abbrev pub LentFollows : Type 0
LentFollows =
    (s : Site) (d : Document) (g n : ℕ) →
    together (site_after s (returned s d g n).answer) (returned s d g n).document
    ≡ called (together s d) (inserting g n)
