-- `situations::print::text_line` is safe and ends: only a replica that is well formed is written.
use Rattle.lists.proofs.Tests.{passed}
use borrow.Author.Rules.{rules}
use Rattle.situations.proofs.print.text_line.Goals as goal

pub text_line-requires : goal.text_line-requires
text_line-requires g c = passed c.well_formed-2.ensures c.if-not-well_formed.false-raw
