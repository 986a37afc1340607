-- `holder::same_insert` meets its contract: each comparison of keys is one of identifiers.
use mathlib.Core.Path.{refl, sym, ◌∙◌}
use borrow.Author.Rules.{rules}
use borrow.Author.Tests.{ne_eqb, eq-eqb}
use Rattle.holder.proofs.Comparing.{key-told, insert-read}
use Rattle.holder.proofs.same_insert.Goals as goal

pub returns-then-key-id : goal.returns-then-key-id
returns-then-key-id c =
    sym (insert-read _ _ _ _ _ (sym (key-told _ _ _ (c.key.ensures.value, c.key.ensures.small)) ∙ ne_eqb _ _ c.if-key-id.true) refl refl refl)

pub returns-then-insert-code_point : goal.returns-then-insert-code_point
returns-then-insert-code_point c =
    let own = c.key.ensures in
    let id = sym (key-told _ _ _ (own.value, own.small)) ∙ eq-eqb _ _ c.if-key-id.false in
    sym (insert-read _ _ _ _ _ id (ne_eqb _ _ c.if-insert-code_point.true) refl refl)

pub returns-then-key-previous : goal.returns-then-key-previous
returns-then-key-previous c =
    let own = c.key.ensures in
    let id = sym (key-told _ _ _ (own.value, own.small)) ∙ eq-eqb _ _ c.if-key-id.false in
    let previous = sym (key-told _ _ _ (c.key-2.ensures.value, c.key-2.ensures.small)) ∙ ne_eqb _ _ c.if-key-previous.true in
    let point = eq-eqb _ _ c.if-insert-code_point.false in
    sym (insert-read _ _ _ _ _ id point previous refl)

pub returns : goal.returns
returns c =
    let own = c.key.ensures in
    let id = sym (key-told _ _ _ (own.value, own.small)) ∙ eq-eqb _ _ c.if-key-id.false in
    let previous = sym (key-told _ _ _ (c.key-2.ensures.value, c.key-2.ensures.small)) ∙ eq-eqb _ _ c.if-key-previous.false in
    let point = eq-eqb _ _ c.if-insert-code_point.false in
    sym (insert-read _ _ _ _ _ id point previous (sym (key-told _ _ _ (c.key-3.ensures.value, c.key-3.ensures.small))))
