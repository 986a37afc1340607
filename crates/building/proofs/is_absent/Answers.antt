-- `building::is_absent` looks the target up, and for a later toggle that is the same.
use native.Mathlib.Omega.{arith}
use mathlib.Core.Path.{◌∙◌}
use lib.ListN.{length-take}
use Rattle.passes.proofs.Laying.{front}
use Rattle.building.proofs.Counting.{absent-held, absent_else}
use borrow.Author.Rules.{rules}
use Rattle.building.proofs.is_absent.Goals as goal

pub slice_bounds-is_held-end : goal.slice_bounds-is_held-end
slice_bounds-is_held-end c = simp length-take (omega arith)

pub is_held-requires : goal.is_held-requires
is_held-requires c =
    rw (front c.args.characters.now c.args.n c.requires.n_le_character_slots) c.requires.tabled

pub returns-then-is_held : goal.returns-then-is_held
returns-then-is_held c cs ts t k small g =
    absent-held g cs small c.args.j t c.requires.j_lt_m c.is_held.ensures (front c.args.characters.now c.args.n c.requires.n_le_character_slots ∙ k)
    c.if-is_held.true

pub returns : goal.returns
returns c cs ts t k small g =
    absent_else g cs small c.args.j t c.requires.j_lt_m c.is_held.ensures (front c.args.characters.now c.args.n c.requires.n_le_character_slots ∙ k)
    c.if-is_held.false (c.seen_later.ensures ts t g)
