-- `execution::carry_out` goes by the decision: each change leaves what the rules leave.
use Rattle.std.proofs.Common.{refl}
use native.Mathlib.Omega.{arith}
use Rattle.woot.specs.declared.Operation.TheVariants.{Insert as insert, Toggle as toggle}
use Rattle.memory.specs.Lent.{viewed, Full}
use Rattle.reception.specs.declared.Decision.TheVariants.{Defer, Place, Toggle as toggleAt}
use Rattle.reception.specs.Decisions.{Feasible}
use Rattle.execution.proofs.Changing.{same_lengths, full_lent, told, defer-lent, defer-slot, placeable, targeted, no_place, no_target}
use Rattle.execution.proofs.Changing.{answered_left, deferred_left, integrated_left, toggled-left}
use Rattle.execution.proofs.carry_out.Goals.{In-Defer, In-Insert, In-Toggle-operation-2}
use Rattle.execution.proofs.carry_out.Goals as goal

-- what the branch knows
defers : (c : In-Defer) → Feasible (viewed c.args.replica.now) c.args.operation Defer
defers c = told (viewed c.args.replica.now) c.requires.feasible refl c.in-Defer.is

places : (c : In-Insert) → Feasible (viewed c.args.replica.now) (insert c.in-Insert.i) (Place c.in-Place.k)
places c = told (viewed c.args.replica.now) c.requires.feasible c.in-Insert.is c.in-Place.is

toggles : (c : In-Toggle-operation-2) → Feasible (viewed c.args.replica.now) (toggle c.in-Toggle-operation-2.t) (toggleAt c.in-Toggle.k)
toggles c =
    told (viewed c.args.replica.now) c.requires.feasible c.in-Toggle-operation-2.is c.in-Toggle.is

-- the arrays have their lengths wherever one of them is changed
deferred-full : (c : In-Defer) → Full c.args.replica.now
deferred-full c = full_lent c.requires.characters_len c.requires.pending_len (defer-lent (viewed c.args.replica.now) _ (defers c))

placed-full : (c : In-Insert) → Full c.args.replica.now
placed-full c = full_lent c.requires.characters_len c.requires.pending_len (placeable (viewed c.args.replica.now) _ _ (places c)).lent

toggled-full : (c : In-Toggle-operation-2) → Full c.args.replica.now
toggled-full c = full_lent c.requires.characters_len c.requires.pending_len (targeted (viewed c.args.replica.now) _ _ (toggles c)).lent

pub defer-requires : goal.defer-requires
defer-requires c =
    let b = (goal.at.defer-requires c).In-Defer in
    let r = viewed c.args.replica.now in
    record {
      full = deferred-full b;
      lent = defer-lent r _ (defers b);
      waiting_lt_pending_slots = defer-slot r _ (defers b);
    }

pub integrate-done-requires : goal.integrate-done-requires
integrate-done-requires c =
    let b = (goal.at.integrate-done-requires c).In-Insert in
    record { full = placed-full b; placed = placeable (viewed c.args.replica.now) _ _ (places b) }

pub toggle-requires : goal.toggle-requires
toggle-requires c =
    let b = (goal.at.toggle-requires c).In-Toggle-operation-2 in
    record { full = toggled-full b; targeted = targeted (viewed c.args.replica.now) _ _ (toggles b) }

pub returns-in-Answered-clause-value : goal.returns-in-Answered-clause-value
returns-in-Answered-clause-value c = rw c.in-Answered.is (answered_left (viewed c.args.replica.now) _ _)

pub returns-in-Defer-clause-lengths : goal.returns-in-Defer-clause-lengths
returns-in-Defer-clause-lengths c =
    same_lengths c.defer.ensures.full_after (deferred-full (goal.at.returns-in-Defer-clause-lengths c).In-Defer)

pub returns-in-Defer-clause-value : goal.returns-in-Defer-clause-value
returns-in-Defer-clause-value c =
    rw c.in-Defer.is
    (deferred_left (viewed c.args.replica.now) _ _ _ _ c.heard_operation-replica.ensures c.defer.ensures.value (omega arith))

pub returns-in-Insert-clause-lengths : goal.returns-in-Insert-clause-lengths
returns-in-Insert-clause-lengths c =
    same_lengths c.integrate-done.ensures.full_after (placed-full (goal.at.returns-in-Insert-clause-lengths c).In-Insert)

pub returns-in-Insert-clause-value : goal.returns-in-Insert-clause-value
returns-in-Insert-clause-value c =
    rw (c.in-Insert.is, c.in-Place.is)
    (integrated_left (viewed c.args.replica.now) _ _ _ _ _ _ (places (goal.at.returns-in-Insert-clause-value c).In-Insert) c.heard-replica.ensures c.integrate-done.ensures.value)

pub returns-in-Toggle-operation-clause-value : goal.returns-in-Toggle-operation-clause-value
returns-in-Toggle-operation-clause-value c =
    let r = viewed c.args.replica.now in
    no_place r _ _ (told r c.requires.feasible c.in-Toggle-operation.is c.in-Place.is)

pub returns-in-Insert-operation-clause-value : goal.returns-in-Insert-operation-clause-value
returns-in-Insert-operation-clause-value c =
    let r = viewed c.args.replica.now in
    no_target r _ _ (told r c.requires.feasible c.in-Insert-operation.is c.in-Toggle.is)

pub returns-in-Toggle-operation-2-clause-lengths : goal.returns-in-Toggle-operation-2-clause-lengths
returns-in-Toggle-operation-2-clause-lengths c =
    same_lengths c.toggle.ensures.full_after (toggled-full (goal.at.returns-in-Toggle-operation-2-clause-lengths c).In-Toggle-operation-2)

pub returns-in-Toggle-operation-2-clause-value : goal.returns-in-Toggle-operation-2-clause-value
returns-in-Toggle-operation-2-clause-value c =
    rw (c.in-Toggle-operation-2.is, c.in-Toggle.is) (toggled-left (viewed c.args.replica.now) _ _ _ c.toggle.ensures.value)
