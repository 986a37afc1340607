-- `wimtaze::wimtaze_upgrade` meets its contract: what is answered goes by what was written.
use mathlib.Core.Path.{refl, ap, ◌∙◌}
use Rattle.answers.specs.declared.Answer.TheVariants.{Done}
use Rattle.woot.specs.Writing.{Written}
use Rattle.effects.specs.Results.{number_of}
use Rattle.effects.specs.Steps.{after_writing}
use Rattle.effects.proofs.Outputs.{leaves_by}
use Rattle.c_calls.proofs.Bodies.{upgrade_body}
use Rattle.c_calls.proofs.Bridging.{conversion_bridge}
use borrow.Author.Rules.{rules}
use Rattle.wimtaze.proofs.wimtaze_upgrade.Goals as goal

pub returns : goal.returns
returns c =
    let t = c.upgrade.ensures in
    leaves_by (upgrade_body _ _ ∙ conversion_bridge _ _ _ _) (c.written.ensures ∙ ap (λ (w : Written). number_of (after_writing (Done 0 0) w)) t.value, t.out_after, refl)
