-- `delivery::drain` meets its contract. The loop's invariant: the lists are sound, and draining them ends as draining the first ones does.
use Rattle.std.proofs.Common.{◌≡◌, sym, ◌∙◌, Some}
use Rattle.delivery.specs.Work.{work_in, due_in}
use Rattle.delivery.proofs.Stepping.{Nearer, workable_few, workable_tabled, workable_due, done_unready, step_nearer}
use Rattle.delivery.proofs.drain.Goals.{After-due, In-Some, After-step-done}
use Rattle.delivery.proofs.drain.Goals as goal

-- what is due on the document
due : (c : In-Some) → due_in (work_in c.loop-j.document c.loop-j.done) ≡ Some c.in-Some.j
due c = sym (workable_due c.loop-j.invariant.1) ∙ sym c.due.ensures ∙ c.in-Some.is

-- the step is one towards the end
nearer : (c : After-step-done) → Nearer (work_in c.loop-j.document c.loop-j.done) (work_in c.step-done.new.document c.step-done.result)
nearer c =
    step_nearer c.loop-j.invariant.1 _ (sym (workable_due c.loop-j.invariant.1) ∙ sym c.due.ensures ∙ c.in-Some.is) _ c.step-done.ensures.value

pub due-requires-clause-length_le_character_slots : goal.due-requires-clause-length_le_character_slots
due-requires-clause-length_le_character_slots c = (workable_few c.loop-j.invariant.1).0

pub due-requires-clause-waiting_le_pending_slots : goal.due-requires-clause-waiting_le_pending_slots
due-requires-clause-waiting_le_pending_slots c = (workable_few c.loop-j.invariant.1).1

pub due-requires-clause-tabled : goal.due-requires-clause-tabled
due-requires-clause-tabled c = workable_tabled c.loop-j.invariant.1

pub step-done-requires-clause-j_value : goal.step-done-requires-clause-j_value
step-done-requires-clause-j_value c = due (goal.at.step-done-requires-clause-j_value c).In-Some

pub loop-j-smaller : goal.loop-j-smaller
loop-j-smaller c = (nearer (goal.at.loop-j-smaller c).After-step-done).fewer

pub loop-j-preserved : goal.loop-j-preserved
loop-j-preserved c =
    let n = nearer (goal.at.loop-j-preserved c).After-step-done in
    (c.step-done.ensures.full_after, n.workable, n.same ∙ c.loop-j.invariant.2)

pub returns-clause-value : goal.returns-clause-value
returns-clause-value c =
    let v = c.loop-j.invariant in
    done_unready v.1 (sym (workable_due v.1) ∙ sym c.due.ensures ∙ c.in_default.is) ∙ v.2
