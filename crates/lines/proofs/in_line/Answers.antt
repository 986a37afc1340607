-- `lines::in_line` meets its contract: a line feed and the end of the bytes are past the line.
use Rattle.std.proofs.Common.{◌≤◌, length, sym, ◌∙◌, arith}
use borrow.Author.Tests.{le-ltb}
use Rattle.lines.proofs.FrontLine.{past_end, feed_told}
use Rattle.lines.proofs.in_line.Goals as goal

pub returns-then-at-s : goal.returns-then-at-s
returns-then-at-s c = sym (feed_told _ _ c.requires c.if-at-s.true)

pub returns-else-at-s : goal.returns-else-at-s
returns-else-at-s c =
    let end : length c.args.s.now ≤ c.args.at = omega arith in
    le-ltb _ _ end ∙ sym (past_end _ _ c.requires end)
