-- `ready::is_held` compares the key's place with that of the end mark.
use native.Mathlib.Numerals.{add-one}
use Rattle.pending.specs.Ready.{held_in}
use Rattle.pending.proofs.ready.is_held.Goals as goal

pub place_of-requires : goal.place_of-requires
place_of-requires c = c.requires

pub returns : goal.returns
unfolding held_in
returns c = rw (c.place_of.ensures, add-one)
