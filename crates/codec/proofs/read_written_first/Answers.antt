-- `codec::read_written_first` meets its contract: the first byte is the insert's head word or not.
use mathlib.Core.Path.{sym, ◌∙◌}
use Rattle.codec.proofs.Letters.{insert_line, delete_first}
use Rattle.codec.proofs.read_written_first.Goals as goal

pub returns-then-first_byte-eq-INSERT : goal.returns-then-first_byte-eq-INSERT
returns-then-first_byte-eq-INSERT c =
    c.read_as.ensures ∙ (insert_line _ (sym c.first_byte.ensures ∙ c.if-first_byte-eq-INSERT.true)).1

pub returns : goal.returns
returns c =
    c.read_as-2.ensures ∙ delete_first _ (λ q. c.if-first_byte-eq-INSERT.false (c.first_byte.ensures ∙ q))
