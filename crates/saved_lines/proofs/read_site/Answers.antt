-- `saved_lines::read_site` meets its contract: what is read is what the numbers say.
use Rattle.std.proofs.Common.{◌≡◌, ℕ, List, ap, ◌∙◌}
use Rattle.woot.specs.Ranges.{site_in_range}
use Rattle.lines.specs.Fields.{fields}
use Rattle.lines.specs.Answers.{numbers_of}
use Rattle.lines.proofs.Verdicts.{values-at_most}
use Rattle.saved.specs.Format.{site_head, site_limits, site_of}
use Rattle.saved_lines.specs.Judging.{said_in, site_read}
use Rattle.saved_lines.proofs.read_site.Goals.{After-read}
use Rattle.saved_lines.proofs.read_site.Goals as goal

-- the numbers, as they are read
numbers_read : (c : After-read) → c.read.result ≡ numbers_of (site_head c.args.version) site_limits (fields c.args.line.now)
numbers_read c = c.read.ensures ∙ ap (λ (head : List ℕ). numbers_of head site_limits (fields c.args.line.now)) c.site_head.ensures

pub site_said-requires : goal.site_said-requires
unfolding numbers_of
site_said-requires c = values-at_most _ site_limits _ _ (numbers_read (goal.at.site_said-requires c).After-read)

pub returns : goal.returns
unfolding site_read
returns c = c.site_said.ensures ∙ ap (said_in site_of site_in_range) (numbers_read (goal.at.returns c).After-read)
