-- `index::table::find` meets its contract: a table that agrees looks up what a plain search finds.
use Rattle.index.proofs.Agreement.{tabled_none, tabled_some}
use Rattle.index.proofs.table.find.Goals as goal

pub returns-then-at-eq0 : goal.returns-then-at-eq0
returns-then-at-eq0 c = tabled_none c.requires _ _ c.lookup-at.ensures c.if-at-eq0.true

pub returns : goal.returns
returns c = tabled_some c.requires _ _ c.lookup-at.ensures c.if-at-eq0.false
