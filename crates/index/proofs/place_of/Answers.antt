-- `index::place_of` meets its contract: what is found tells the place.
use native.Mathlib.Omega.{arith}
use mathlib.Core.Path.{◌≡◌, sym, ◌∙◌}
use mathlib.Core.List.{[]}
use Rattle.std.proofs.Common.{ℕ, Option}
use Rattle.index.specs.Keys.{index_in, found}
use Rattle.index.proofs.Searches.{first_says, begin-place, later-place}
use Rattle.index.proofs.Indices.{index-here, index-later}
use Rattle.index.proofs.place_of.Goals.{After-find}
use Rattle.index.proofs.place_of.Goals as goal

-- what is found, and that the key is not the begin mark's
is : (c : After-find) (f : Option ℕ) → c.find.result ≡ f → let a = c.args in (found a.key a.ids.now ≡ f) × (a.key ≡ 0 → ⊥)
is c f e = (sym c.find.ensures ∙ e, c.if-key-eq0.false)

pub returns-then-key-eq0 : goal.returns-then-key-eq0
returns-then-key-eq0 c = sym (begin-place _ _ c.if-key-eq0.true)

pub find-requires : goal.find-requires
find-requires c = c.requires

pub overflow_add-result : goal.overflow_add-result
unfolding found
overflow_add-result c =
    let f = first_says _ _ (is (goal.at.overflow_add-result c).After-find _ c.in-Some.is).0 in
    omega (arith, f.within)

pub returns-then-key-eq1 : goal.returns-then-key-eq1
returns-then-key-eq1 c =
    let f = is (goal.at.returns-then-key-eq1 c).After-find _ c.in-None.is in
    omega (arith, later-place _ _ f.1 f.0, index-here _ 1 [] c.if-key-eq1.true)

pub returns-in-Some : goal.returns-in-Some
returns-in-Some c =
    let f = is (goal.at.returns-in-Some c).After-find _ c.in-Some.is in
    sym (later-place _ _ f.1 f.0)

pub returns-else-key-eq1 : goal.returns-else-key-eq1
unfolding index_in
returns-else-key-eq1 c =
    let f = is (goal.at.returns-else-key-eq1 c).After-find _ c.in-None.is in
    omega (arith, later-place _ _ f.1 f.0, index-later _ 1 [] c.if-key-eq1.false)
