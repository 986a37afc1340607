-- `editing::sending::paste` meets its contract: the reader answers 1 and 2, and pasting what comes after.
use mathlib.Core.Path.{refl, sym, ◌∙◌, subst}
use Rattle.lists.specs.Padding.{pad}
use Rattle.loading.specs.Filling.{Blank}
use Rattle.loading.proofs.Settling.{blank}
use Rattle.woot.specs.Memory.{in_columns}
use Rattle.answers.specs.Answers.{decided}
use Rattle.typing.specs.Columns.{typed_columns}
use Rattle.effects.specs.Effects.{quiet, turned}
use Rattle.c_calls.specs.Steps.{pasting_here}
use Rattle.c_calls.proofs.Refusals.{refused-reading, passed-reading, passed}
use Rattle.effects.proofs.Outputs.{leaves_by, turned-away}
use Rattle.c_calls.proofs.Bridging.{goes_on_lem, paste_bridge, lines_bridge, lines_sendable}
use borrow.Author.Rules.{rules}
use Rattle.editing.proofs.sending.paste.Goals as goal

pub read_into-answer-requires : goal.read_into-answer-requires
read_into-answer-requires c = subst Blank (sym c.empty-replica.ensures) (blank 0)

pub paste_into-pasted-requires : goal.paste_into-pasted-requires
unfolding typed_columns in_columns pad
paste_into-pasted-requires c = refl

pub send_lines-requires : goal.send_lines-requires
send_lines-requires c =
    let s = lines_sendable _ _ _ c.paste_into-pasted.ensures in
    record {
      typed_len = s.0;
      count_le_character_slots = s.1;
      replica_value = s.2;
    }

pub returns-in-Err : goal.returns-in-Err
unfolding pasting_here turned quiet
returns-in-Err c =
    leaves_by (turned-away _ _ _ (refused-reading _ c.read_into-answer.ensures.answer_value _ c.in-Err.is)) (c.number_of_refusal.ensures, refl, refl)

pub returns-in-Ok : goal.returns-in-Ok
unfolding pasting_here decided
returns-in-Ok c =
    let z = c.read_into-answer.ensures in
    let told = c.in-Ok.is in
    let pasted = c.paste_into-pasted.ensures in
    leaves_by
    (goes_on_lem _ _ _ (passed-reading _ z.answer_value told) ∙ paste_bridge _ _ (passed _ z.answer_value told z.replica_after).1 _ _ _ _ ∙ lines_bridge _ _ _ pasted _ _)
    c.send_lines.ensures
