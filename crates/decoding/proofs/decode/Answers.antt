-- `decoding::decode` meets its contract: the first byte decides.
use mathlib.Core.Path.{sym, ◌∙◌}
use native.Mathlib.Omega.{arith}
use Rattle.decoding.proofs.Offsets.{decoded-end, decoded-one, decoded-two, decoded-three, decoded-four, decoded-tail, decoded-over}
use Rattle.decoding.proofs.decode.Goals as goal

pub returns-then-bytes-at : goal.returns-then-bytes-at
returns-then-bytes-at c = sym (decoded-end _ _ (omega arith))

pub returns-in-0-to-127 : goal.returns-in-0-to-127
returns-in-0-to-127 c = sym (decoded-one _ _ _ (omega arith) c.wide-lead.ensures (omega arith))

pub returns-in-192-to-223 : goal.returns-in-192-to-223
returns-in-192-to-223 c =
    c.follow.ensures ∙ sym (decoded-two _ _ _ (omega arith) c.wide-lead.ensures (omega arith) (omega arith))

pub returns-in-224-to-239 : goal.returns-in-224-to-239
returns-in-224-to-239 c =
    c.follow-in-224-to-239.ensures ∙ sym (decoded-three _ _ _ (omega arith) c.wide-lead.ensures (omega arith) (omega arith))

pub returns-in-240-to-247 : goal.returns-in-240-to-247
returns-in-240-to-247 c =
    c.follow-in-240-to-247.ensures ∙ sym (decoded-four _ _ _ (omega arith) c.wide-lead.ensures (omega arith) (omega arith))

pub returns-in_default : goal.returns-in_default
returns-in_default c = sym (decoded-tail _ _ _ (omega arith) c.wide-lead.ensures (omega arith) (omega arith))

pub returns-in_default-2 : goal.returns-in_default-2
returns-in_default-2 c = sym (decoded-over _ _ _ (omega arith) c.wide-lead.ensures (omega arith))
