-- `wimtaze::wimtaze_counts` meets its contract: its body leaves what the list of its conditions says.
use mathlib.Core.List.{[]}
use mathlib.Core.Path.{sym, ap, ◌∙◌}
use Rattle.effects.specs.Results.{number_of}
use Rattle.c_calls.proofs.Bodies.{counts_body}
use borrow.Author.Rules.{rules}
use Rattle.wimtaze.proofs.wimtaze_counts.Goals as goal

pub returns : goal.returns
returns c = c.count.ensures ∙ ap number_of (sym (counts_body _ []))
