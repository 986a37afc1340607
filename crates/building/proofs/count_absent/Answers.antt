-- `building::count_absent` counts one after another. The loop's invariant: the count, with what is left to count, is
-- all.
use Prim.Native.Nat.{◌+◌, ◌≤◌}
use native.Mathlib.Omega.{arith}
use mathlib.Core.Path.{◌≡◌, sym, ap, ◌∙◌}
use mathlib.Core.Logic.{⊎_elim}
use mathlib.Core.List.{List}
use lib.ListN.{take, drop}
use Rattle.woot.specs.declared.Toggle.{Toggle}
use Rattle.woot.specs.declared.Character.{Character}
use Rattle.woot.specs.Table.{keys}
use Rattle.woot.specs.Memory.{key_column}
use Rattle.convergence.specs.Passes.{absentees}
use Rattle.index.specs.Keys.{AllSmall}
use Rattle.building.specs.Steps.{Among, toggle_at}
use Rattle.building.proofs.Counting.{none-behind, absent-counted, absent-passed, no-absentees, not-false}
use borrow.Author.Tests.{not-true}
use borrow.Author.Rules.{rules}
use Rattle.building.proofs.count_absent.Goals.{then-is_absent, else-is_absent}
use Rattle.building.proofs.count_absent.Goals as goal

pub loop-j-init : goal.loop-j-init
loop-j-init c = (omega arith, omega arith, λ cs ts k small g. omega arith)

pub is_absent-requires : goal.is_absent-requires
is_absent-requires c =
    let p = c.requires in
    record {
      n_le_character_slots = p.n_le_character_slots;
      characters_len = p.characters_len;
      tabled = p.tabled;
      changes_len = p.changes_len;
      m_le_character_slots = p.m_le_character_slots;
      j_lt_m = c.loop-j-test.true;
    }

pub loop-j-preserved : goal.loop-j-preserved
loop-j-preserved c =
    let a = c.args in
    let l = c.loop-j in
    let low = c.loop-j-test.true in
    let told = c.is_absent.ensures in
    let z = toggle_at a.changes.now l.j in
    elim c.if-is_absent.branch [
      | then-is_absent w ↦ (
        omega (arith, l.invariant.0),
        omega arith,
        λ cs ts k small g.
            omega (arith, l.invariant.2 cs ts k small g, absent-counted g cs small l.j z low (not-true _ (sym (told cs ts z k small g) ∙ w.if-is_absent.true))),
      )
      | else-is_absent w ↦ (
        omega (arith, l.invariant.0),
        omega arith,
        λ cs ts k small g.
            omega (arith, l.invariant.2 cs ts k small g, absent-passed g cs small l.j z low (not-false _ (sym (told cs ts z k small g) ∙ w.if-is_absent.false))),
      )
    ]

pub returns : goal.returns
returns c =
    let l = c.loop-j in
    record {
      value = λ cs ts k small g. omega (arith, l.invariant.2 cs ts k small g, ap (absentees cs) (none-behind g l.j c.loop-j-test.false), no-absentees cs);
      upper_bound = omega (arith, l.invariant.0, l.invariant.1);
    }
