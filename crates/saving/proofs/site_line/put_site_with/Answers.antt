-- `saving::site_line::put_site_with` meets its contract: the head word is the form's, and the numbers the site's.
use mathlib.Core.Path.{◌∙◌}
use Rattle.output.specs.Output.{placed, past}
use Rattle.lines.specs.Fields.{line_of}
use Rattle.saved.specs.Format.{site_line}
use Rattle.saving.proofs.site_line.put_site_with.Goals as goal

pub returns : goal.returns
unfolding site_line
returns c =
    let p = c.put_line.ensures in
    record {
      value = p.value ∙ λ j. past c.args.out.now 0 (line_of (c.site_head.ensures j) (c.site_numbers_with-numbers.ensures j));
      out_after = p.out_after ∙ λ j. placed c.args.out.now 0 (line_of (c.site_head.ensures j) (c.site_numbers_with-numbers.ensures j));
    }
