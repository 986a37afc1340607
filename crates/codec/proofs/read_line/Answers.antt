-- `codec::read_line` meets its contract: the first byte is the delete's head word or not.
use mathlib.Core.Path.{sym, ◌∙◌}
use Rattle.codec.proofs.Letters.{delete_line, written_line}
use Rattle.codec.proofs.read_line.Goals as goal

pub returns-then-first_byte-eq-DELETE : goal.returns-then-first_byte-eq-DELETE
returns-then-first_byte-eq-DELETE c =
    c.read_as.ensures ∙ delete_line _ (sym c.first_byte.ensures ∙ c.if-first_byte-eq-DELETE.true)

pub returns : goal.returns
returns c =
    c.read_written.ensures ∙ written_line _ (λ q. c.if-first_byte-eq-DELETE.false (c.first_byte.ensures ∙ q))
