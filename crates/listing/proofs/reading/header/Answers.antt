-- `listing::reading::header` meets its contract: the verdict on the numbers is that on the line.
use Rattle.listing.proofs.Steps.{header_fits, header_judged}
use Rattle.listing.proofs.reading.header.Goals as goal

pub header_of-requires : goal.header_of-requires
header_of-requires c = header_fits c.args.line.now _ c.read.ensures

pub returns : goal.returns
returns c =
    let line = c.args.line.now in
    header_judged line _ c.read.ensures c.header_of.ensures
