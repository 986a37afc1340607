-- Document 02, Req 07, on replicas as they lie in memory: the rule applied to their meaning, and what comes back.
use Rattle.woot.specs.declared.Replica.{Replica}
use Rattle.answers.specs.declared.Answer.{Answer}
use Rattle.answers.specs.declared.Answer.TheVariants.{Done, Deferred, Duplicate, Refused}
use Rattle.woot.specs.State.{initial}
use Rattle.woot.specs.Memory.{meaning, stored, replica_well_formed}
use Rattle.bulk.specs.Loading.{use_when}
use Rattle.admission.specs.declared.Admitted.{Admitted}

-- the very replica that was passed, or beside a refusal the empty one of number 0, which no site has
unfoldable pub used_after : Replica → Answer → Replica
used_after r (Done n m) = r
used_after r Deferred = r
used_after r Duplicate = r
used_after r (Refused q) = stored (initial 0)

unfoldable pub admitted_as : Replica → Answer → Admitted
admitted_as r a = record { answer = a; replica = used_after r a }

-- loading for use on a replica
unfoldable pub admitted_by : Replica → Admitted
admitted_by r = admitted_as r (use_when (replica_well_formed r) (meaning r)).answer
