-- `decide_toggle` goes by the character that is the target.
use native.Mathlib.Omega.{arith}
use mathlib.Core.Path.{◌≡◌, sym, ◌∙◌}
use mathlib.Core.Bool.{true}
use borrow.Author.Rules.{rules}
use lib.ListN.{take}
use Rattle.woot.specs.Ranges.{character_id}
use Rattle.woot.specs.Table.{key}
use Rattle.woot.specs.Memory.{key_column}
use Rattle.std.proofs.Common.{ℕ, Option}
use Rattle.index.specs.Keys.{found}
use Rattle.well_formed.proofs.Examining.{few, fits, examined_tabled}
use Rattle.holder.proofs.Having.{StandsAt, stands_at, found_first, character-within}
use Rattle.reception.proofs.Judging.{judged}
use Rattle.reception.proofs.Toggling.{target_ranged, again-decided, toggle_decided, absent-decided}
use Rattle.reception.proofs.decide_toggle.Goals.{After-find_among, Start}
use Rattle.reception.proofs.decide_toggle.Goals as goal

ranged : (s : Start) → character_id s.args.toggle.target ≡ true
ranged s = target_ranged _ s.requires.toggle_value

-- what is found is what is sought
sought : (c : After-find_among) → let a = c.args in
    c.find_among.result ≡ found (key a.toggle.target) (take a.replica.now.document.length (key_column a.replica.now.document.characters))
sought c = rw c.key.ensures.value at c.find_among.ensures

-- what it says of the characters
standing : (c : After-find_among) {f : Option ℕ} → c.find_among.result ≡ f → StandsAt _ c.requires.examined _ (target_ranged _ c.requires.toggle_value) f
standing c e = stands_at _ c.requires.examined _ (target_ranged _ c.requires.toggle_value) (sought c) e

pub find_among-requires : goal.find_among-requires
find_among-requires c =
    let x = c.requires.examined in
    record {
      n_in_bounds = (fits _ x).ids;
      tabled = examined_tabled _ x;
    }

pub bounds-document-k : goal.bounds-document-k
bounds-document-k c =
    let x = c.requires.examined in
    let n = few _ x in
    let h = character-within _ x _ (ranged (goal.at.bounds-document-k c).Start) _ (standing (goal.at.bounds-document-k c).After-find_among c.in-Some.is) in
    omega (arith, x.slots.toggles)

pub returns-then-toggle-document : goal.returns-then-toggle-document
returns-then-toggle-document c =
    let x = c.requires.examined in
    judged _ _ _ x (again-decided _ x _ c.requires.toggle_value _ (standing (goal.at.returns-then-toggle-document c).After-find_among c.in-Some.is) c.if-toggle-document.true)

pub absent-requires : goal.absent-requires
absent-requires c =
    let x = c.requires.examined in
    record {
      w_in_bounds = (fits _ x).own;
      w_in_bounds_2 = (fits _ x).firstKeys;
      w_in_bounds_3 = (fits _ x).values;
    }

pub returns-else-toggle-document : goal.returns-else-toggle-document
returns-else-toggle-document c =
    let x = c.requires.examined in
    let first = sym (found_first _ x _ (ranged (goal.at.returns-else-toggle-document c).Start)) ∙ sym (sought (goal.at.returns-else-toggle-document c).After-find_among) ∙ c.in-Some.is in
    judged _ _ _ x (toggle_decided _ x _ c.requires.toggle_value _ (standing (goal.at.returns-else-toggle-document c).After-find_among c.in-Some.is) first c.if-toggle-document.false)

pub returns-in-None : goal.returns-in-None
returns-in-None c =
    let stands = standing (goal.at.returns-in-None c).After-find_among c.in-None.is in
    rw c.absent.ensures (judged _ _ _ c.requires.examined (absent-decided _ c.requires.examined _ c.requires.toggle_value stands))
