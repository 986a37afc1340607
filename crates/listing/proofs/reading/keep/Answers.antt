-- `listing::reading::keep` meets its contract: where there is a slot, the chunk is behind the others.
use Rattle.listing.proofs.Steps.{kept_full, kept_more}
use Rattle.listing.proofs.reading.keep.Goals as goal

pub returns-then-n-ge-CHUNKS : goal.returns-then-n-ge-CHUNKS
returns-then-n-ge-CHUNKS c = λ ks e k. kept_full _ _ _ _ _ ks e c.if-n-ge-CHUNKS.true

pub returns : goal.returns
returns c =
    λ ks e k. kept_more _ _ _ _ _ ks e c.if-n-ge-CHUNKS.false c.requires.heads_len c.requires.words_len k
