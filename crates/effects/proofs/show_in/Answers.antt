-- `effects::show_in` meets its contract: what is answered goes by what was written.
use mathlib.Core.Path.{refl, ap, ◌∙◌}
use Rattle.woot.specs.Writing.{Written}
use Rattle.effects.specs.Results.{number_of}
use Rattle.effects.specs.Steps.{after_writing}
use Rattle.effects.proofs.Outputs.{leaves_by, text-written}
use borrow.Author.Rules.{rules}
use Rattle.effects.proofs.show_in.Goals as goal

pub returns : goal.returns
returns c =
    let t = c.visible_text_in.ensures in
    leaves_by (text-written _ _) (c.written.ensures ∙ ap (λ (w : Written). number_of (after_writing _ w)) t.value, t.out_after, refl)
