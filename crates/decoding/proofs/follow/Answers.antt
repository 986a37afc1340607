-- `decoding::follow` meets its contract: each byte adds six bits to the number, and what is left reads on alike.
use Rattle.std.proofs.Common.{◌∙◌, arith}
use Rattle.decoding.proofs.Offsets.{along-begun, along-small, along-cut, along-again, along-whole}
use Rattle.decoding.proofs.follow.Goals as goal

pub loop-i-init : goal.loop-i-init
loop-i-init c = along-begun _ _ _ _ c.requires.1 c.requires.3

pub returns-in_default : goal.returns-in_default
returns-in_default c = along-cut _ _ _ _ _ _ c.loop-i.invariant c.loop-i-test.true c.in_default.ensures.value

pub overflow_mul-n : goal.overflow_mul-n
overflow_mul-n c = omega (arith, along-small _ _ _ _ _ _ c.loop-i.invariant (omega arith) (omega arith))

pub overflow_add-n : goal.overflow_add-n
overflow_add-n c =
    omega (arith, along-small _ _ _ _ _ _ c.loop-i.invariant (omega arith) (omega arith), c.in-Some.ensures.bound)

pub loop-i-preserved : goal.loop-i-preserved
loop-i-preserved c =
    along-again _ _ _ _ _ _ c.loop-i.invariant c.loop-i-test.true _ c.in-Some.ensures.value c.in-Some.ensures.bound

pub returns : goal.returns
returns c = c.accept.ensures ∙ along-whole _ _ _ _ _ _ c.loop-i.invariant (omega arith)
