-- `lacking` looks at the sender's share before the room.
use mathlib.Core.Path.{sym, ◌∙◌}
use Rattle.reception.specs.Decisions.{lacking_in}
use borrow.Author.Rules.{rules}
use Rattle.reception.proofs.lacking.Goals as goal

pub returns-then-sender_full : goal.returns-then-sender_full
unfolding lacking_in
returns-then-sender_full c = rw (sym c.sender.ensures, sym c.sender_full.ensures ∙ c.if-sender_full.true)

pub returns-then-is_full : goal.returns-then-is_full
unfolding lacking_in
returns-then-is_full c =
    let shared = sym c.sender_full.ensures ∙ c.if-sender_full.false in
    rw (sym c.sender.ensures, shared, sym c.is_full.ensures ∙ c.if-is_full.true)

pub returns : goal.returns
unfolding lacking_in
returns c =
    let shared = sym c.sender_full.ensures ∙ c.if-sender_full.false in
    rw (sym c.sender.ensures, shared, sym c.is_full.ensures ∙ c.if-is_full.false)
