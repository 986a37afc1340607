-- An insert whose previous is not held lacks a neighbour, whatever else it says.
use Prim.Native.Nat.{ℕ}
use mathlib.Core.Path.{◌≡◌, sym, ap, ◌∙◌}
use mathlib.Core.Bool.{Bool, false}
use mathlib.Core.List.{List}
use Rattle.woot.specs.declared.Character.{Character}
use Rattle.woot.specs.declared.Insert.{Insert}
use Rattle.woot.specs.Placing.{held}
use Rattle.woot.specs.Pending.{executable}
use Rattle.woot.specs.Table.{key, keys}
use Rattle.index.specs.Keys.{Small, AllSmall}
use Rattle.integration.specs.declared.Placement.TheVariants.{Missing}
use Rattle.integration.specs.Placements.{placement_of}
use Rattle.pending.specs.Ready.{held_in}
use Rattle.pending.proofs.Earliest.{held-keys}

unheld : (cs : List Character) (i : Insert) → held cs i.previous ≡ false → Missing ≡ placement_of cs i
unfolding placement_of executable
unheld cs i h = rw h

pub unseen : (cs : List Character) → AllSmall cs → (i : Insert) → Small i.previous → {ids : List ℕ} {k : ℕ} {b : Bool}
    → b ≡ held_in ids k → ids ≡ keys cs → k ≡ key i.previous → b ≡ false → Missing ≡ placement_of cs i
unseen cs small i p {ids} {k} e f g h =
    let found = e ∙ ap (λ (l : List ℕ). held_in l k) f ∙ ap (held_in (keys cs)) g in
    unheld cs i (sym (held-keys cs small i.previous p) ∙ sym found ∙ h)
