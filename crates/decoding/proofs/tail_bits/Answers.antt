-- `decoding::tail_bits` meets its contract: the byte at the offset is there or not, and of the form or not.
use Rattle.std.proofs.Common.{rules, ◌≡◌, None, sym, ◌∙◌, arith}
use borrow.Author.Tests.{ltb-false}
use Rattle.decoding.proofs.Offsets.{tail-ended, tail-inside, tail-under, tail-over}
use Rattle.decoding.proofs.tail_bits.Goals as goal

pub returns-in_err-get-clause-value : goal.returns-in_err-get-clause-value
returns-in_err-get-clause-value c =
    let none : c.from_residual.result ≡ None = search rules in
    none ∙ sym (tail-ended _ _ (ltb-false _ _ (sym c.in_err-get.ensures.lookup.0)))

pub returns-in-128-to-191-clause-value : goal.returns-in-128-to-191-clause-value
returns-in-128-to-191-clause-value c =
    let byte = c.in_ok-get.ensures.lookup.3 in
    sym (tail-inside _ _ _ byte.0 (c.wide-byte.ensures ∙ byte.1 0) (omega arith) (omega arith))

pub returns-in_default-clause-value : goal.returns-in_default-clause-value
returns-in_default-clause-value c =
    let byte = c.in_ok-get.ensures.lookup.3 in
    sym (tail-under _ _ _ byte.0 (c.wide-byte.ensures ∙ byte.1 0) (omega arith))

pub returns-in_default-2-clause-value : goal.returns-in_default-2-clause-value
returns-in_default-2-clause-value c =
    let byte = c.in_ok-get.ensures.lookup.3 in
    sym (tail-over _ _ _ byte.0 (c.wide-byte.ensures ∙ byte.1 0) (omega arith))
