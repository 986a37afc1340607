-- `loading::filling::store_operation` meets its contract: where there is a slot, the numbers go into it.
use mathlib.Core.Path.{◌∙◌}
use Rattle.loading.specs.Filling.{set_in, kept_in}
use borrow.Author.Tests.{le-leb, lt-leb}
use Rattle.loading.proofs.filling.store_operation.Goals as goal

pub returns-then-i-ge-PENDING : goal.returns-then-i-ge-PENDING
unfolding kept_in
returns-then-i-ge-PENDING c = rw (le-leb _ _ c.if-i-ge-PENDING.true)

pub returns : goal.returns
unfolding kept_in
returns c =
    let a = c.args in
    let k1 = c.own_key-own.ensures in
    let k2 = c.first_key-first.ensures in
    let k3 = c.second_key-second.ensures in
    let k4 = c.value_of.ensures in
    let there = lt-leb _ _ c.if-i-ge-PENDING.false in
    rw there (c.store.ensures ∙ λ j. set_in 512 a.i (k1 j) (k2 j) (k3 j) (k4 j) a.pending.now)
