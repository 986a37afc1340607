-- Document 02, Req 07: what is promised of loading for use on replicas in memory, each proved in proofs/ under its name
-- in small letters.
use Rattle.std.specs.Prelude.{◌≡◌, true, false, ◌↔◌}
use Rattle.woot.specs.declared.Replica.{Replica}
use Rattle.answers.specs.declared.Refusal.TheVariants.{Form, Unreachable}
use Rattle.answers.specs.declared.Answer.TheVariants.{Done, Refused}
use Rattle.woot.specs.Memory.{meaning, replica_well_formed}
use Rattle.bulk.specs.Loading.{loadable}
use Rattle.admission.specs.declared.Admitted.{Admitted}
use Rattle.admission.specs.Calls.{admitted_by}

-- "accept a sheet in form": done gives back the very replica, and it is in form and loadable
abbrev pub AdmittedSame : Type 0
AdmittedSame =
    (r : Replica) →
    ((admitted_by r).answer ≡ Done 0 0)
    ↔ ((replica_well_formed r ≡ true) × (loadable (meaning r).characters ≡ true)
    × (admitted_by r ≡ record { answer = Done 0 0; replica = r }))

-- "A sheet in form that can't be made so is refused with 16"
abbrev pub AdmittedExactly : Type 0
AdmittedExactly =
    (r : Replica) →
    ((admitted_by r).answer ≡ Refused Unreachable)
    ↔ ((replica_well_formed r ≡ true) × (loadable (meaning r).characters ≡ false))

-- "after 3": whatever is out of form is refused with 3
abbrev pub AdmittedFormed : Type 0
AdmittedFormed = (r : Replica) → ((admitted_by r).answer ≡ Refused Form) ↔ (replica_well_formed r ≡ false)
