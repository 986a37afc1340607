-- `transcript::report::list` meets its contract, by the invariant of `proofs/Listings.antt`: it holds of any characters
-- that have these code points and counts of toggles.
use mathlib.Core.Path.{◌≡◌, ap, ◌∙◌}
use mathlib.Core.Logic.{⊎_elim}
use mathlib.Core.List.{List}
use Prim.Native.Nat.{◌≤◌}
use native.Mathlib.Omega.{arith}
use borrow.Author.Rules.{rules}
use lib.ListN.{length, take, length-set}
use Rattle.woot.specs.declared.Character.{Character}
use Rattle.woot.specs.Memory.{code_points_of, toggle_counts}
use Rattle.transcript.proofs.Listings.{Gathered, gathered_none, gathered-shown, gathered-not, gathered-whole}
use Rattle.transcript.proofs.report.list.Goals.{then-toggles-i-eq0, else-toggles-i-eq0}
use Rattle.transcript.proofs.report.list.Goals as goal

pub loop-i-init : goal.loop-i-init
loop-i-init c = (omega arith, omega arith, search rules, λ cs p t. gathered_none cs)

pub loop-i-preserved : goal.loop-i-preserved
loop-i-preserved c =
    let a = c.args in
    let l = c.loop-i in
    let s = c.requires in
    elim c.if-toggles-i-eq0.branch [
      | then-toggles-i-eq0 w ↦ (
        omega arith,
        omega arith,
        ap length w.values-is ∙ length-set l.values _ _ ∙ l.invariant.2,
        λ cs p t.
            rw (w.values-is, w.count-is, w.wide.ensures)
            (gathered-shown cs a.«code_points».now a.toggles.now a.n l.i p t (omega arith) (omega (arith, s.n_in_bounds)) (omega (arith, s.n_in_bounds_2)) _ _ (l.invariant.3 cs p t) (omega arith) w.if-toggles-i-eq0.true),
      )
      | else-toggles-i-eq0 w ↦ (
        omega arith,
        omega arith,
        ap length w.values-is ∙ l.invariant.2,
        λ cs p t.
            rw (w.values-is, w.count-is)
            (gathered-not cs a.«code_points».now a.toggles.now a.n l.i p t (omega arith) (omega (arith, s.n_in_bounds)) (omega (arith, s.n_in_bounds_2)) _ _ (l.invariant.3 cs p t) w.if-toggles-i-eq0.false),
      )
    ]

pub returns : goal.returns
returns c =
    let a = c.args in
    let s = c.requires in
    record {
      value = λ cs p t. gathered-whole cs a.«code_points».now a.n p (omega (arith, s.n_in_bounds)) _ _ _ (omega arith) (c.loop-i.invariant.3 cs p t);
      count_le_character_slots = omega (arith, s.n_le_character_slots);
      values_len = length-set c.loop-i.values _ _ ∙ c.loop-i.invariant.2;
    }
