-- `pasting::paste_into` counts the characters of the block, judges it by the replica, and types it.
use mathlib.Core.Path.{sym, ◌∙◌}
use Rattle.decoding.proofs.Offsets.{counted-some, counted_none}
use Rattle.answers.specs.declared.Refusal.TheVariants.{NotUtf8}
use Rattle.answers.specs.declared.Answer.TheVariants.{Refused}
use Rattle.pasting.specs.Replicas.{pasted_as}
use Rattle.block_judging.proofs.Judging.{not_utf8, told-answer, told-enough}
use Rattle.pasting.proofs.Finishing.{answered_so}
use Rattle.pasting.proofs.paste_into.Goals as goal

pub type_block-requires : goal.type_block-requires
type_block-requires c =
    let k = counted-some _ _ (sym c.in-Some.is ∙ c.count.ensures) in
    let e = told-enough _ _ _ c.judge.ensures c.in-Enough.is in
    record {
      pasteable = record { points = k.0; read = k.1; many = k.2; filled = e.0; spacious = e.1 };
      typed_value = c.requires;
    }

pub returns-in-None : goal.returns-in-None
returns-in-None c =
    (λ j. pasted_as (c.untyped.ensures j) (c.requires j))
    ∙ answered_so c.args.replica _ _ (Refused NotUtf8)
    (not_utf8 _ _ _ _ (counted_none _ (sym c.in-None.is ∙ c.count.ensures)))

pub returns-in-Answered : goal.returns-in-Answered
returns-in-Answered c =
    let k = counted-some _ _ (sym c.in-Some.is ∙ c.count.ensures) in
    (λ i. pasted_as (c.untyped-in-Answered.ensures i) (c.requires i))
    ∙ answered_so c.args.replica _ _ _
    (told-answer _ _ _ c.judge.ensures c.in-Answered.is _ _ k.1 k.2)
