-- `listing::reading::chunk_of` meets its contract: within the limits a site or a word of 0 is out of range.
use Rattle.std.proofs.Common.{rules, ◌≡◌, Ok}
use Rattle.listing.proofs.Steps.{chunk-no-site, chunk-no-word, chunk-some}
use Rattle.listing.proofs.reading.chunk_of.Goals as goal

pub returns-then-values-eq0 : goal.returns-then-values-eq0
returns-then-values-eq0 c =
    let taken : c.args.numbers ≡ Ok c.in_ok-values.values = search rules in
    rw taken (chunk-no-site c.in_ok-values.values c.if-values-eq0.true)

pub returns-then-values-eq0-2 : goal.returns-then-values-eq0-2
returns-then-values-eq0-2 c =
    let taken : c.args.numbers ≡ Ok c.in_ok-values.values = search rules in
    rw taken (chunk-no-word c.in_ok-values.values c.if-values-eq0-2.true)

pub returns : goal.returns
returns c =
    let taken : c.args.numbers ≡ Ok c.in_ok-values.values = search rules in
    rw taken (chunk-some c.in_ok-values.values (rw taken at c.requires) c.if-values-eq0.false c.if-values-eq0-2.false)
