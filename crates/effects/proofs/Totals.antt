-- The counts of a replica in form: each is the length of a list that is meant, and what it knows is within the capacity.
use Prim.Native.Nat.{◌≤◌}
use native.Mathlib.Omega.{arith}
use mathlib.Core.Path.{◌≡◌, sym}
use mathlib.Core.Bool.{true, false}
use lib.ListN.{length, take}
use lib.Seq.{take-take}
use Rattle.woot.specs.declared.Replica.{Replica}
use Rattle.answers.specs.declared.Refusal.TheVariants.{Form}
use Rattle.answers.specs.declared.Answer.TheVariants.{Refused}
use Rattle.woot.specs.Limits.{capacity}
use Rattle.woot.specs.Operations.{inserts}
use Rattle.woot.specs.State.{State}
use Rattle.woot.specs.Memory.{meaning, replica_well_formed}
use Rattle.woot.specs.Form.{present_inserts, well_formed}
use Rattle.answers.specs.Answers.{decided}
use Rattle.convergence.proofs.Forms.{formed, known-length}
use Rattle.memory.specs.Columns as columns
use Rattle.memory.specs.Lent.{viewed}
use Rattle.memory.proofs.Views.{meaning-view}
use Rattle.pending.proofs.Pending.{count-own}
use Rattle.well_formed.specs.Examined.{Examined}
use Rattle.well_formed.proofs.Examining.{few, form, keyed, characters-counted, pending-counted, own_used}
use Rattle.effects.specs.Results.{silent}
use Rattle.effects.specs.Counts.{counts_of}
use Rattle.effects.specs.Counting.{present_by, counts_in, counts_left}

pub known-few : (s : State) → well_formed s ≡ true → length (present_inserts s) ≤ capacity
known-few s h = omega (arith, known-length s, (formed s h).sound.room)

module _ (r : Replica) where
  pub counts_unformed : replica_well_formed r ≡ false → counts_left r ≡ silent (Refused Form)
  unfolding counts_left decided
  counts_unformed f = rw f

  pub counts_formed : replica_well_formed r ≡ true → counts_left r ≡ counts_of (meaning r)
  unfolding counts_left decided
  counts_formed f = rw f

  -- the characters and the inserts among the keys are all that it knows
  module _ (x : Examined (viewed r)) where
    -- the column of their own keys is the first
    own-taken : take r.document.waiting r.document.pending ≡ take r.document.waiting (viewed r).document.own
    own-taken = sym (take-take r.document.waiting 512 r.document.pending (few (viewed r) x).pending)

    present-known : present_by r.document.length (take r.document.waiting r.document.pending) ≡ length (present_inserts (columns.meaning (viewed r)))
    present-known =
        rw (own-taken, own_used (viewed r) x, count-own (columns.meaning (viewed r)).pending (keyed (viewed r) x))
        (omega (arith, characters-counted (viewed r) x, known-length (columns.meaning (viewed r))))

    pub present-few : present_by r.document.length (take r.document.waiting r.document.pending) ≤ 1024
    present-few = omega (arith, present-known, known-length (columns.meaning (viewed r)), (form (viewed r) x).sound.room)

    pub counts_told : counts_in (columns.meaning (viewed r)).characters r.document.length (take r.document.waiting r.document.pending) r.document.waiting
        ≡ counts_of (meaning r)
    unfolding counts_in counts_of
    counts_told = rw (meaning-view r, present-known, characters-counted (viewed r) x, pending-counted (viewed r) x)
