-- `listing::reading::header_of` meets its contract: within the limits the site alone can be out of range.
use Rattle.std.proofs.Common.{◌∙◌}
use Rattle.listing.proofs.Steps.{header_none, header_some}
use Rattle.listing.proofs.reading.header_of.Goals as goal

pub returns-then-values-eq0 : goal.returns-then-values-eq0
returns-then-values-eq0 c =
    rw c.in-Ok.is
    (c.out_of_range-then-values-eq0.ensures ∙ header_none c.in-Ok.values c.if-values-eq0.true)

pub returns-else-values-eq0 : goal.returns-else-values-eq0
returns-else-values-eq0 c =
    rw c.in-Ok.is
    (c.total_alone.ensures ∙ header_some c.in-Ok.values (rw c.in-Ok.is at c.requires) c.if-values-eq0.false)
