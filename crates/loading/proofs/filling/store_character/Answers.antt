-- `loading::filling::store_character` meets its contract: where there is a slot, the numbers go into it.
use mathlib.Core.Path.{◌∙◌}
use Rattle.loading.specs.Filling.{set_in, kept_in}
use borrow.Author.Tests.{le-leb, lt-leb}
use Rattle.loading.proofs.filling.store_character.Goals as goal

pub returns-then-i-ge-CHARACTERS : goal.returns-then-i-ge-CHARACTERS
unfolding kept_in
returns-then-i-ge-CHARACTERS c = rw (le-leb _ _ c.if-i-ge-CHARACTERS.true)

pub returns : goal.returns
unfolding kept_in
returns c =
    let a = c.args in
    let k1 = c.key.ensures.value in
    let k2 = c.key-2.ensures.value in
    let k3 = c.key-3.ensures.value in
    let there = lt-leb _ _ c.if-i-ge-CHARACTERS.false in
    rw there (c.store.ensures ∙ λ j. set_in 1024 a.i (k1 j) (k2 j) (k3 j) a.character.code_point a.characters.now)
