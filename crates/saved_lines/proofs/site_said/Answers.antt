-- `saved_lines::site_said` meets its contract: what the numbers say is the site.
use Rattle.std.proofs.Common.{rules, ◌≡◌, Ok}
use Rattle.woot.specs.Ranges.{site_in_range}
use Rattle.saved.specs.Format.{site_of}
use Rattle.saved_lines.proofs.Judging.{says_made}
use Rattle.saved_lines.proofs.site_said.Goals as goal

pub returns : goal.returns
returns c =
    let taken : c.args.numbers ≡ Ok c.in_ok-numbers.field-0 = search rules in
    says_made site_of site_in_range taken c.site_of-site.ensures c.site_in_range.ensures c.ranged.ensures
