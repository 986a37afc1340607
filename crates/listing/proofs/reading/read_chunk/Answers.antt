-- `listing::reading::read_chunk` meets its contract: the verdict on the numbers is that on the line.
use Rattle.listing.proofs.Steps.{chunk-fits, chunk-judged}
use Rattle.listing.proofs.reading.read_chunk.Goals as goal

pub chunk_of-requires : goal.chunk_of-requires
chunk_of-requires c = chunk-fits c.args.line.now _ c.read.ensures

pub returns : goal.returns
returns c =
    let line = c.args.line.now in
    chunk-judged line _ c.read.ensures c.chunk_of.ensures
