-- `decide_restore` looks at the identifier and at the form; then it goes by the character that has the identifier.
use native.Mathlib.Omega.{arith}
use mathlib.Core.Path.{◌≡◌, sym, ◌∙◌}
use mathlib.Core.Bool.{true}
use lib.ListN.{take}
use Rattle.lists.proofs.Tests.{failed, passed}
use Rattle.woot.specs.Ranges.{character_id}
use Rattle.woot.specs.Table.{key}
use Rattle.woot.specs.Memory.{key_column}
use Rattle.std.proofs.Common.{ℕ, Option}
use Rattle.index.specs.Keys.{found}
use Rattle.memory.specs.Columns.{Replica}
use Rattle.memory.specs.Lent.{viewed}
use Rattle.well_formed.specs.Examined.{Examined}
use Rattle.well_formed.proofs.Examining.{lent_examined, few, fits, examined_tabled}
use Rattle.holder.proofs.Having.{StandsAt, stands_at, found_first, character-within}
use Rattle.generation.proofs.Judging.{unranged_restore, unformed_restore}
use Rattle.generation.proofs.Toggling.{restore_nowhere, restore_visible, restore_last, restore_below, restore_decided}
use borrow.Author.Rules.{rules}
use Rattle.generation.proofs.decide_restore.Goals.{After-find_among, Else-not-character_id, Else-not-is_well_formed, Start}
use Rattle.generation.proofs.decide_restore.Goals as goal

-- the replica with the arrays
abbrev made : Start → Replica
made s =
    let a = s.args in
    viewed a.replica.now

-- the tests that are passed
ranged : (c : Else-not-character_id) → character_id c.args.id ≡ true
ranged c = passed c.character_id.ensures c.if-not-character_id.false-raw

examined : (c : Else-not-is_well_formed) → Examined (let a = c.args in
    viewed a.replica.now)
examined c = lent_examined _ _ _ c.requires (passed c.is_well_formed.ensures c.if-not-is_well_formed.false-raw)

-- what is found is what is sought
sought : (c : After-find_among) → let a = c.args in
    c.find_among.result ≡ found (key a.id) (take a.replica.now.document.length (key_column a.replica.now.document.characters))
sought c = rw c.key.ensures.value at c.find_among.ensures

-- what it says of the characters
standing : (c : After-find_among) {f : Option ℕ} → c.find_among.result ≡ f → StandsAt _ (lent_examined _ _ _ c.requires (passed c.is_well_formed.ensures c.if-not-is_well_formed.false-raw)) _ (passed c.character_id.ensures c.if-not-character_id.false-raw) f
standing c e = stands_at _ (lent_examined _ _ _ c.requires (passed c.is_well_formed.ensures c.if-not-is_well_formed.false-raw)) _ (passed c.character_id.ensures c.if-not-character_id.false-raw) (sought c) e

pub returns-then-not-character_id : goal.returns-then-not-character_id
returns-then-not-character_id c =
    unranged_restore (made (goal.at.returns-then-not-character_id c).Start) _ (failed c.character_id.ensures c.if-not-character_id.true-raw)

pub returns-then-not-is_well_formed : goal.returns-then-not-is_well_formed
returns-then-not-is_well_formed c =
    let r = made (goal.at.returns-then-not-is_well_formed c).Start in
    unformed_restore r _ (ranged (goal.at.returns-then-not-is_well_formed c).Else-not-character_id) (failed c.is_well_formed.ensures c.if-not-is_well_formed.true-raw)

pub find_among-requires : goal.find_among-requires
find_among-requires c =
    let x = examined (goal.at.find_among-requires c).Else-not-is_well_formed in
    record {
      n_in_bounds = (fits _ x).ids;
      tabled = examined_tabled _ x;
    }

pub bounds-document-k : goal.bounds-document-k
bounds-document-k c =
    let x = examined (goal.at.bounds-document-k c).Else-not-is_well_formed in
    let n = few _ x in
    let h = character-within _ x _ (ranged (goal.at.bounds-document-k c).Else-not-character_id) _ (standing (goal.at.bounds-document-k c).After-find_among c.in-Some.is) in
    omega (arith, x.slots.toggles)

pub returns-then-count-eq0 : goal.returns-then-count-eq0
returns-then-count-eq0 c =
    let at = standing (goal.at.returns-then-count-eq0 c).After-find_among c.in-Some.is in
    restore_visible _ (examined (goal.at.returns-then-count-eq0 c).Else-not-is_well_formed) _ (ranged (goal.at.returns-then-count-eq0 c).Else-not-character_id) _ at c.if-count-eq0.true

pub returns-then-count : goal.returns-then-count
returns-then-count c =
    let at = standing (goal.at.returns-then-count c).After-find_among c.in-Some.is in
    restore_last _ (examined (goal.at.returns-then-count c).Else-not-is_well_formed) _ (ranged (goal.at.returns-then-count c).Else-not-character_id) _ at c.if-count-eq0.false c.if-count.true

pub next_toggle-toggle-requires : goal.next_toggle-toggle-requires
next_toggle-toggle-requires c =
    let at = standing (goal.at.next_toggle-toggle-requires c).After-find_among c.in-Some.is in
    restore_below _ (examined (goal.at.next_toggle-toggle-requires c).Else-not-is_well_formed) _ (ranged (goal.at.next_toggle-toggle-requires c).Else-not-character_id) _ at c.if-count-eq0.false c.if-count.false

pub returns-else-count : goal.returns-else-count
returns-else-count c =
    let x = examined (goal.at.returns-else-count c).Else-not-is_well_formed in
    let id = ranged (goal.at.returns-else-count c).Else-not-character_id in
    let first = sym (found_first _ x _ id) ∙ sym (sought (goal.at.returns-else-count c).After-find_among) ∙ c.in-Some.is in
    let at = standing (goal.at.returns-else-count c).After-find_among c.in-Some.is in
    restore_decided _ x _ id _ at c.if-count-eq0.false c.if-count.false first _ c.next_toggle-toggle.ensures

pub returns-in-None : goal.returns-in-None
returns-in-None c =
    restore_nowhere _ (examined (goal.at.returns-in-None c).Else-not-is_well_formed) _ (ranged (goal.at.returns-in-None c).Else-not-character_id) (standing (goal.at.returns-in-None c).After-find_among c.in-None.is)

pub is_well_formed-requires : goal.is_well_formed-requires
is_well_formed-requires c = c.requires
