-- `lines::find` meets its contract: as many bytes stand before the first such byte as its index says.
use Rattle.std.proofs.Common.{rules, ◌∙◌}
use Rattle.lines.proofs.Bytes.{FirstIndex, index-before}
use Rattle.lines.proofs.find.Goals as goal

pub returns : goal.returns
returns c =
    let first : FirstIndex c.args.byte c.args.s.now c.position.result = search rules in
    c.unwrap_or.ensures ∙ index-before _ _ _ first
