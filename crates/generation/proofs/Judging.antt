-- What is looked at in the calls' order is what the rules answer, whether or not the replica is in form.
use Prim.Native.Nat.{ℕ}
use mathlib.Core.Path.{◌≡◌}
use mathlib.Core.Bool.{true, false}
use Rattle.woot.specs.declared.Identifier.{Identifier}
use Rattle.answers.specs.declared.Refusal.TheVariants.{Range, Form}
use Rattle.woot.specs.Ranges.{is_code_point, character_id}
use Rattle.answers.specs.Answers.{decided}
use Rattle.woot.specs.Calls.{insert_checks, local_insert_when, delete_checks, local_delete_when, restore_checks, local_restore_when}
use Rattle.memory.specs.Columns.{Replica, replica_well_formed}
use Rattle.generation.specs.Decisions.{MadeFor, InsertMade, DeleteMade, RestoreMade}
use Rattle.std.proofs.Common.{Err}

module _ (r : Replica) where
  module _ (g n : ℕ) where
    pub unranged_insert : is_code_point n ≡ false → InsertMade r g n (Err Range)
    unfolding MadeFor local_insert_when insert_checks decided
    unranged_insert e = rw e

    pub unformed_insert : is_code_point n ≡ true → replica_well_formed r ≡ false → InsertMade r g n (Err Form)
    unfolding MadeFor local_insert_when insert_checks decided
    unformed_insert ranged e = rw (ranged, e)

  pub unformed_delete : (p : ℕ) → replica_well_formed r ≡ false → DeleteMade r p (Err Form)
  unfolding MadeFor local_delete_when delete_checks decided
  unformed_delete p e = rw e

  module _ (x : Identifier) where
    pub unranged_restore : character_id x ≡ false → RestoreMade r x (Err Range)
    unfolding MadeFor local_restore_when restore_checks decided
    unranged_restore e = rw e

    pub unformed_restore : character_id x ≡ true → replica_well_formed r ≡ false → RestoreMade r x (Err Form)
    unfolding MadeFor local_restore_when restore_checks decided
    unformed_restore ranged e = rw (ranged, e)
