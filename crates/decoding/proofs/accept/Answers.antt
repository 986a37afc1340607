-- `decoding::accept` meets its contract: no code point, too few bytes, or neither.
use mathlib.Core.Path.{sym}
use Rattle.lists.proofs.Tests.{failed, passed}
use Rattle.decoding.proofs.Offsets.{accepted_wrong, accepted-longer, accepted-right}
use Rattle.decoding.proofs.accept.Goals as goal

pub returns-then-not-is_code_point : goal.returns-then-not-is_code_point
returns-then-not-is_code_point c =
    sym (accepted_wrong _ _ _ (failed c.is_code_point.ensures c.if-not-is_code_point.true-raw))

pub returns-then-encoded_length-size : goal.returns-then-encoded_length-size
returns-then-encoded_length-size c =
    sym (accepted-longer _ _ _ _ (passed c.is_code_point.ensures c.if-not-is_code_point.false-raw) c.encoded_length.ensures c.if-encoded_length-size.true)

pub returns : goal.returns
returns c =
    sym (accepted-right _ _ _ _ (passed c.is_code_point.ensures c.if-not-is_code_point.false-raw) c.encoded_length.ensures c.if-encoded_length-size.false)
