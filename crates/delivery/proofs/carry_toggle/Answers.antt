-- `delivery::carry_toggle` edits the slot that the table has for the target.
use Prim.Native.Nat.{ℕ, ◌<◌}
use native.Mathlib.Omega.{arith}
use mathlib.Core.Path.{◌≡◌, sym, ap, ◌∙◌}
use mathlib.Core.List.{List}
use lib.ListN.{length, take}
use lib.Seq.{length-take-le}
use Rattle.woot.specs.Table.{key}
use Rattle.woot.specs.Memory.{column}
use Rattle.std.proofs.Common.{Some}
use Rattle.index.specs.Keys.{found}
use Rattle.index.proofs.Searches.{first_says}
use Rattle.memory.proofs.Fullness.{column-length}
use Rattle.delivery.proofs.carry_toggle.Goals as goal

found_within : (x : ℕ) (xs : List ℕ) (k : ℕ) → found x xs ≡ Some k → k < length xs
unfolding found
found_within x xs k e = (first_says _ xs e).within

pub slice_bounds-find_among-end : goal.slice_bounds-find_among-end
slice_bounds-find_among-end c =
    omega (arith, column-length 1024 0 c.args.characters.now (omega (arith, c.requires.characters_len)))

pub find_among-requires : goal.find_among-requires
find_among-requires c =
    record {
      n_in_bounds = omega (arith, c.requires.n_le_character_slots, column-length 1024 0 c.args.characters.now (omega (arith, c.requires.characters_len)));
      tabled = c.requires.tabled;
    }

pub toggle-requires : goal.toggle-requires
toggle-requires c =
    let a = c.args in
    let size = column-length 1024 0 a.characters.now (omega (arith, c.requires.characters_len)) in
    omega (arith, found_within _ (take a.n (column 1024 0 a.characters.now)) _ (sym c.find_among.ensures ∙ c.in-Some.is), length-take-le a.n (column 1024 0 a.characters.now) (omega (arith, size, c.requires.n_le_character_slots)), c.requires.n_in_bounds)

pub returns-in-Some : goal.returns-in-Some
returns-in-Some c =
    let a = c.args in
    let is : found (key a.toggle.target) (take a.n (column 1024 0 a.characters.now)) ≡ Some _ = ap (λ (x : ℕ). found x (take a.n (column 1024 0 a.characters.now))) (sym c.key.ensures.value) ∙ sym c.find_among.ensures ∙ c.in-Some.is in
    rw is c.toggle.ensures

pub returns-in-None : goal.returns-in-None
returns-in-None c =
    let a = c.args in
    let is : found (key a.toggle.target) (take a.n (column 1024 0 a.characters.now)) ≡ _ = ap (λ (x : ℕ). found x (take a.n (column 1024 0 a.characters.now))) (sym c.key.ensures.value) ∙ sym c.find_among.ensures ∙ c.in-None.is in
    rw is
