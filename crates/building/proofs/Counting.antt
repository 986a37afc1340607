-- Toggles whose target is not held, counted one after another, of repeats the last.
use Prim.Native.Nat.{ℕ, suc, ◌+◌, ◌≤◌, ◌<◌}
use native.Mathlib.Omega.{arith}
use native.Mathlib.Numerals.{add-one}
use mathlib.Core.Path.{◌≡◌, refl, sym, ap, ◌∙◌}
use mathlib.Core.Bool.{Bool, true, false, ◌&&◌, ◌||◌, not, cond}
use mathlib.Core.List.{List, [], ◌∷◌}
use lib.Dec.{eqb}
use lib.ListN.{length, drop, get_or, drop_of_length-le}
use lib.Seq.{drop-cons, get_or-take}
use Rattle.lists.specs.Lists.{any}
use Rattle.lists.proofs.Tests.{passed}
use Rattle.lists.proofs.Members.{every_member, get_member}
use Rattle.woot.specs.declared.Toggle.{Toggle}
use Rattle.woot.specs.declared.Character.{Character}
use Rattle.woot.specs.declared.Operation.TheVariants.{Toggle as toggle}
use Rattle.woot.specs.Operations.{same_toggle}
use Rattle.woot.specs.Placing.{held}
use Rattle.woot.specs.Ranges.{toggle_in_range}
use Rattle.woot.specs.Table.{key, keys}
use Rattle.woot.specs.Memory.{value_of}
use Rattle.convergence.specs.Passes.{absentees}
use Rattle.memory.proofs.Operations.{Keyed}
use Rattle.memory.proofs.Views.{column-at}
use Rattle.index.specs.Keys.{AllSmall}
use Rattle.pending.specs.Ready.{held_in}
use Rattle.pending.proofs.Pending.{same_numbers}
use Rattle.pending.proofs.Earliest.{held-keys}
use Rattle.building.specs.Steps.{Among}
use Rattle.building.proofs.Toggling.{keyed, target-read, stamp_read}

module _ {xs : List ℕ} {m : ℕ} {ts : List Toggle} (g : Among xs m ts) where
  module _ (j : ℕ) (z : Toggle) (low : j < m) where
    inner : j < length ts
    inner = omega (arith, g.many)

    slot : j < 1024
    slot = omega (arith, inner, g.held.few)

    pub slot_keyed : Keyed (toggle (get_or ts j z))
    slot_keyed = keyed (get_or ts j z) (every_member toggle_in_range g.ranged (get_member ts j z inner))

    -- the numbers that the array has there
    pub slot-target : get_or xs j 0 ≡ key (get_or ts j z).target
    slot-target = sym (get_or-take 1024 xs j 0 slot) ∙ target-read g.held j z inner

    pub slot_stamp : get_or xs (1024 + j) 0 ≡ value_of (toggle (get_or ts j z))
    slot_stamp = sym (column-at 1024 1 xs j slot) ∙ stamp_read g.held j z inner

    pub from-here : drop j ts ≡ get_or ts j z ∷ drop (j + 1) ts
    from-here = rw (add-one j) (drop-cons ts j z inner)

  pub none-behind : (j : ℕ) → m ≤ j → drop j ts ≡ []
  none-behind j high = let all : length ts ≤ j = omega (arith, g.many) in drop_of_length-le ts all

  -- ---- a later repeat

  module _ (j : ℕ) (z : Toggle) (low : j < m) (i : ℕ) (within : i < m) where
    pub same-slots : (eqb (get_or xs (1024 + j) 0) (get_or xs (1024 + i) 0) && eqb (get_or xs j 0) (get_or xs i 0)) ≡ same_toggle (get_or ts j z) (get_or ts i z)
    same-slots =
        rw (slot_stamp j z low, slot_stamp i z within, slot-target j z low, slot-target i z within)
        (same_numbers (get_or ts j z) (get_or ts i z) (slot_keyed j z low) (slot_keyed i z within))

    later-here : any (same_toggle (get_or ts j z)) (drop i ts) ≡ same_toggle (get_or ts j z) (get_or ts i z) || any (same_toggle (get_or ts j z)) (drop (i + 1) ts)
    later-here = ap (any (same_toggle (get_or ts j z))) (from-here i z within)

    pub later-found : {b : Bool} → b ≡ (eqb (get_or xs (1024 + j) 0) (get_or xs (1024 + i) 0) && eqb (get_or xs j 0) (get_or xs i 0)) → b ≡ true
        → any (same_toggle (get_or ts j z)) (drop i ts) ≡ true
    later-found e h = later-here ∙ rw (sym same-slots ∙ sym e ∙ h)

    pub later-passed : {b : Bool} → b ≡ (eqb (get_or xs (1024 + j) 0) (get_or xs (1024 + i) 0) && eqb (get_or xs j 0) (get_or xs i 0)) → b ≡ false
        → any (same_toggle (get_or ts j z)) (drop i ts) ≡ any (same_toggle (get_or ts j z)) (drop (i + 1) ts)
    later-passed e h = later-here ∙ rw (sym same-slots ∙ sym e ∙ h)

  -- ---- whether one is counted

  module _ (cs : List Character) (s : AllSmall cs) (j : ℕ) (z : Toggle) (low : j < m) where
    -- whether its target is held, by the key
    pub target-held : held_in (keys cs) (get_or xs j 0) ≡ held cs (get_or ts j z).target
    target-held = rw (slot-target j z low) (held-keys cs s (get_or ts j z).target (slot_keyed j z low).0)

    abbrev pub passed_over : Bool
    passed_over = held cs (get_or ts j z).target || any (same_toggle (get_or ts j z)) (drop (j + 1) ts)

    here : absentees cs (drop j ts) ≡ cond passed_over (absentees cs (drop (j + 1) ts)) (suc (absentees cs (drop (j + 1) ts)))
    unfolding absentees
    here = ap (absentees cs) (from-here j z low)

    pub absent-counted : passed_over ≡ false → absentees cs (drop j ts) ≡ suc (absentees cs (drop (j + 1) ts))
    absent-counted e = here ∙ rw e

    pub absent-passed : passed_over ≡ true → absentees cs (drop j ts) ≡ absentees cs (drop (j + 1) ts)
    absent-passed e = here ∙ rw e

    -- by what was found of its key and of the later ones
    module _ {b : Bool} {ks : List ℕ} (e : b ≡ held_in ks (get_or xs j 0)) (f : ks ≡ keys cs) where
      found-held : b ≡ held cs (get_or ts j z).target
      found-held = e ∙ ap (λ (l : List ℕ). held_in l (get_or xs j 0)) f ∙ target-held

      pub absent-held : b ≡ true → false ≡ not passed_over
      absent-held h = rw (sym found-held ∙ h)

      pub absent_else : b ≡ false → {c : Bool} → c ≡ any (same_toggle (get_or ts j z)) (drop (j + 1) ts) → not c ≡ not passed_over
      absent_else h k = rw (sym found-held ∙ h, k)

pub no-absentees : (cs : List Character) → absentees cs [] ≡ 0
unfolding absentees
no-absentees cs = refl

pub not-false : (b : Bool) → not b ≡ false → b ≡ true
not-false b e = passed refl e
