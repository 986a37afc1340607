-- `passes::take_at` meets its contract: where the previous is not held by its number, a neighbour is missing.
use native.Mathlib.Omega.{arith}
use mathlib.Core.Path.{refl, ◌∙◌}
use Rattle.heap.proofs.Inserts.{keyed}
use Rattle.heap.specs.Columns.{insert_at}
use Rattle.integration.specs.declared.Placement.TheVariants.{Missing}
use Rattle.passes.proofs.Laying.{front, laid_count, laid_tabled, taken_lacking}
use Rattle.passes.proofs.Slotting.{previous-read}
use Rattle.passes.proofs.Looking.{unseen}
use Rattle.passes.proofs.take_at.Goals as goal

pub slice_bounds-is_held-end : goal.slice_bounds-is_held-end
slice_bounds-is_held-end c = omega arith

pub is_held-requires : goal.is_held-requires
is_held-requires c =
    let l = c.requires.lays.laid in
    rw (front c.args.characters.now c.args.n (laid_count l)) (laid_tabled l)

pub returns-then-not-is_held : goal.returns-then-not-is_held
returns-then-not-is_held c t =
    let xs = c.args.inserts.now in
    let i = c.args.i in
    taken_lacking c.args.characters.now t.laid (insert_at xs i) Missing
    (λ cs k p q small.
    unseen cs small (insert_at xs i) (keyed (insert_at xs i) c.requires.i_value).previous c.is_held.ensures
    (front c.args.characters.now c.args.n (laid_count t.laid) ∙ k) (previous-read xs i c.requires.i_lt_character_slots) c.if-not-is_held.true)
    refl
