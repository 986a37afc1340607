-- `index::place_near` meets its contract: a place that is looked at first is the one that the table has.
use mathlib.Core.Path.{sym, ap, ◌∙◌}
use native.Mathlib.Omega.{arith}
use Rattle.index.specs.Keys.{place_in}
use Rattle.index.proofs.Searches.{begin-place}
use Rattle.index.proofs.Agreement.{near_place}
use Rattle.index.proofs.place_near.Goals as goal

pub returns-then-key-eq0 : goal.returns-then-key-eq0
returns-then-key-eq0 c = sym (begin-place _ _ c.if-key-eq0.true)

pub returns-then-key-eq1 : goal.returns-then-key-eq1
returns-then-key-eq1 c = c.requires.end_value ∙ ap (place_in c.args.ids.now) (sym c.if-key-eq1.true)

pub returns-then-ids-near : goal.returns-then-ids-near
returns-then-ids-near c =
    near_place c.requires.tabled _ _ (omega arith) (omega arith) c.if-ids-near.true c.if-key-eq0.false
