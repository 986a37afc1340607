-- `decide_delete` looks at the form; the character is the visible one that is counted.
use native.Mathlib.Omega.{arith}
use Rattle.lists.proofs.Tests.{failed, passed}
use Rattle.memory.specs.Columns.{Replica}
use Rattle.memory.specs.Lent.{viewed}
use Rattle.well_formed.specs.Examined.{Examined}
use Rattle.well_formed.proofs.Examining.{lent_examined, few, fits}
use Rattle.generation.proofs.Judging.{unformed_delete}
use Rattle.generation.proofs.Toggling.{delete_zero, delete_beyond, delete_within, delete_bits, delete_below, delete_decided}
use borrow.Author.Rules.{rules}
use Rattle.generation.proofs.decide_delete.Goals.{Else-not-is_well_formed, Start}
use Rattle.generation.proofs.decide_delete.Goals as goal

-- the replica with the arrays
abbrev made : Start → Replica
made s =
    let a = s.args in
    viewed a.replica.now

examined : (c : Else-not-is_well_formed) → Examined (let a = c.args in
    viewed a.replica.now)
examined c = lent_examined _ _ _ c.requires (passed c.is_well_formed.ensures c.if-not-is_well_formed.false-raw)

pub returns-then-not-is_well_formed : goal.returns-then-not-is_well_formed
returns-then-not-is_well_formed c =
    unformed_delete (made (goal.at.returns-then-not-is_well_formed c).Start) _ (failed c.is_well_formed.ensures c.if-not-is_well_formed.true-raw)

pub returns-then-place-eq0 : goal.returns-then-place-eq0
returns-then-place-eq0 c =
    delete_zero _ (examined (goal.at.returns-then-place-eq0 c).Else-not-is_well_formed) _ c.if-place-eq0.true

pub nth-requires : goal.nth-requires
nth-requires c = (fits _ (examined (goal.at.nth-requires c).Else-not-is_well_formed)).toggles

pub offset_bounds-ids-k : goal.offset_bounds-ids-k
offset_bounds-ids-k c =
    let x = examined (goal.at.offset_bounds-ids-k c).Else-not-is_well_formed in
    let n = few _ x in
    omega (arith, delete_within _ x _ c.if-place-eq0.false c.nth.ensures _ c.in-Some.is)

pub bounds-ids-k : goal.bounds-ids-k
bounds-ids-k c =
    let x = examined (goal.at.bounds-ids-k c).Else-not-is_well_formed in
    let n = few _ x in
    omega (arith, delete_within _ x _ c.if-place-eq0.false c.nth.ensures _ c.in-Some.is, x.slots.ids)

pub identifier-target-requires : goal.identifier-target-requires
identifier-target-requires c =
    delete_bits _ (examined (goal.at.identifier-target-requires c).Else-not-is_well_formed) _ c.if-place-eq0.false c.nth.ensures _ c.in-Some.is

pub bounds-document-k : goal.bounds-document-k
bounds-document-k c =
    let x = examined (goal.at.bounds-document-k c).Else-not-is_well_formed in
    let n = few _ x in
    let within = delete_within _ x _ c.if-place-eq0.false c.nth.ensures _ c.in-Some.is in
    omega (arith, within, x.slots.toggles)

pub next_toggle-toggle-requires : goal.next_toggle-toggle-requires
next_toggle-toggle-requires c =
    let at = c.in-Some.is in
    delete_below _ (examined (goal.at.next_toggle-toggle-requires c).Else-not-is_well_formed) _ c.if-place-eq0.false c.nth.ensures _ at

pub returns-in-Some : goal.returns-in-Some
returns-in-Some c =
    let is = rw c.identifier-target.ensures at c.next_toggle-toggle.ensures in
    let at = c.in-Some.is in
    delete_decided _ (examined (goal.at.returns-in-Some c).Else-not-is_well_formed) _ c.if-place-eq0.false c.nth.ensures _ at _ is

pub returns-in-None : goal.returns-in-None
returns-in-None c =
    delete_beyond _ (examined (goal.at.returns-in-None c).Else-not-is_well_formed) _ c.if-place-eq0.false c.nth.ensures c.in-None.is

pub is_well_formed-requires : goal.is_well_formed-requires
is_well_formed-requires c = c.requires
