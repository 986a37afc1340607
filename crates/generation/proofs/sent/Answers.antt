-- `sent` goes by what was found.
use mathlib.Core.Path.{sym, ◌∙◌}
use borrow.Author.Rules.{rules}
use Rattle.reception.specs.Decisions.{full_in}
use Rattle.generation.specs.Decisions.{sent_in}
use Rattle.generation.proofs.sent.Goals as goal

pub returns-then-document_full : goal.returns-then-document_full
unfolding full_in sent_in
returns-then-document_full c = rw (c.in-Below.is, sym c.document_full.ensures ∙ c.if-document_full.true)

pub returns-in-Missing : goal.returns-in-Missing
unfolding sent_in
returns-in-Missing c = rw c.in-Missing.is

pub returns-in-Crossed : goal.returns-in-Crossed
unfolding sent_in
returns-in-Crossed c = rw c.in-Crossed.is

pub returns-in-Unplaceable : goal.returns-in-Unplaceable
unfolding sent_in
returns-in-Unplaceable c = rw c.in-Unplaceable.is

pub returns-else-document_full : goal.returns-else-document_full
unfolding full_in sent_in
returns-else-document_full c = rw (c.in-Below.is, sym c.document_full.ensures ∙ c.if-document_full.false)
