-- `saved_lines::read_site_front` meets its contract: what is read is what the numbers say.
use Rattle.std.proofs.Common.{ap, ◌∙◌}
use Rattle.woot.specs.Ranges.{site_in_range}
use Rattle.lines.specs.Answers.{numbers_of}
use Rattle.lines.proofs.Verdicts.{values-at_most}
use Rattle.saved.specs.Format.{site_limits, site_of}
use Rattle.saved_lines.specs.Judging.{said_in, site_read}
use Rattle.saved_lines.proofs.Judging.{lacks-layout}
use Rattle.saved_lines.proofs.read_site_front.Goals as goal

pub site_said-requires : goal.site_said-requires
unfolding numbers_of
site_said-requires c = values-at_most _ site_limits _ _ c.read_site_numbers_front-front.ensures.numbers_value

pub returns : goal.returns
unfolding site_read
returns c =
    let r = c.read_site_numbers_front-front.ensures in
    record {
      line_value = c.site_said.ensures ∙ ap (said_in site_of site_in_range) r.numbers_value;
      next_value = (λ h. r.next_value (lacks-layout site_of site_in_range c.site_said.ensures h));
      next_in_bounds = r.next_in_bounds;
    }
