-- `counts::count_inserts` meets its contract: what the library counts is what is kept.
use Rattle.std.proofs.Common.{rules}
use Rattle.pending.proofs.Searches.{keep-counted}
use Rattle.pending.proofs.counts.count_inserts.Goals as goal

pub returns : goal.returns
returns c = search (rules, keep-counted)
