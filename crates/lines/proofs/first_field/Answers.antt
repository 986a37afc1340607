-- `lines::first_field` meets its contract: the field ends at the first tab or line feed.
use Rattle.std.proofs.Common.{rules, ◌∙◌}
use Rattle.lines.proofs.Bytes.{FirstEnd, end-before}
use Rattle.lines.proofs.first_field.Goals as goal

pub returns : goal.returns
returns c =
    let first : FirstEnd c.args.s.now c.position.result = search rules in
    c.unwrap_or.ensures ∙ end-before _ _ first
