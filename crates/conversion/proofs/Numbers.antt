-- What the first form can say of a document's numbers, it can say of the characters and of the pending operations whose
-- numbers they are.
use Prim.Native.Nat.{ℕ, ◌+◌, ◌*◌, ◌%◌, ◌≤◌, ◌<◌}
use native.Mathlib.Omega.{arith}
use mathlib.Core.Path.{◌≡◌, sym, ap, ap₂, ◌∙◌}
use mathlib.Core.Bool.{Bool, true, ◌&&◌}
use mathlib.Core.List.{List, map}
use borrow.Author.Tests.{ne_eqb}
use lib.ListN.{length, take, get_or, length-map}
use lib.Seq.{get_or-take, length-take-le}
use Rattle.lists.specs.Lists.{every, throughout}
use Rattle.lists.proofs.Indices.{map_get_d, every_map, every-prefix, every-throughout}
use Rattle.lists.proofs.Members.{get_member}
use Rattle.lists.proofs.Throughout.{throughout_cong}
use Rattle.woot.specs.declared.Character.{Character}
use Rattle.woot.specs.declared.Operation.{Operation}
use Rattle.woot.specs.declared.Operation.TheVariants.{Insert as insert, Toggle as toggle}
use Rattle.woot.specs.Ranges.{in_range}
use Rattle.woot.specs.State.{State, blank_operation}
use Rattle.woot.specs.Table.{key}
use Rattle.woot.specs.Memory.{toggle_counts, own_key, value_of}
use Rattle.memory.proofs.Operations.{Keyed, all_keyed}
use Rattle.saved.specs.declared.Version.TheVariants.{First}
use Rattle.saved.specs.Format.{character_within, operation_within, representable}
use Rattle.conversion.specs.Columns.{count_within, numbers_within}

-- ---- characters

pub characters_said : (cs : List Character) (ts : List ℕ) (n : ℕ) → n ≤ length ts → toggle_counts cs ≡ take n ts
    → every (character_within First) cs ≡ throughout (λ i. count_within (get_or ts i 0)) n
unfolding character_within
characters_said cs ts n h e =
    sym (every_map (λ (c : Character). c.toggles) count_within cs) ∙ ap (every count_within) e ∙ every-prefix count_within ts 0 n h

-- ---- pending operations

operation-said : (o : Operation) → Keyed o → operation_within First o ≡ numbers_within (own_key o) (value_of o)
unfolding operation_within numbers_within own_key value_of
operation-said (insert i) k = rw (ne_eqb (key i.id) 0 (λ e. omega (arith, k.positive, e)))
operation-said (toggle t) k = let low : (t.sender * 256 + t.toggles) % 256 ≡ t.toggles = omega (arith, k.1) in rw low

pub pending_said : (ps : List Operation) (os vs : List ℕ) (w : ℕ) → w ≤ length os → map own_key ps ≡ take w os → map value_of ps ≡ take w vs
    → every in_range ps ≡ true → every (operation_within First) ps ≡ throughout (λ j. numbers_within (get_or os j 0) (get_or vs j 0)) w
pending_said ps os vs w h e f ranged =
    every-throughout (operation_within First) ps blank ∙ ap (throughout _) many ∙ throughout_cong _ _ w at
  where
    blank : Operation
    blank = blank_operation

    many : length ps ≡ w
    many = sym (length-map ps own_key) ∙ ap length e ∙ length-take-le w os h

    -- a number of the operation at an index
    number : (g : Operation → ℕ) (xs : List ℕ) → map g ps ≡ take w xs → (j : ℕ) → j < w → g (get_or ps j blank) ≡ get_or xs j 0
    number g xs q j k = sym (map_get_d g ps j 0 blank (omega (arith, many))) ∙ ap (λ (ys : List ℕ). get_or ys j 0) q ∙ get_or-take w xs j 0 k

    at : (j : ℕ) → j < w → operation_within First (get_or ps j blank) ≡ numbers_within (get_or os j 0) (get_or vs j 0)
    at j k =
        operation-said (get_or ps j blank) (all_keyed ps ranged _ (get_member ps j blank (omega (arith, many))))
        ∙ ap₂ numbers_within (number own_key os e j k) (number value_of vs f j k)

-- ---- both

module _ (s : State) {a b : Bool} (e : every (character_within First) s.characters ≡ a) (f : every (operation_within First) s.pending ≡ b) where
  pub both_said : a && b ≡ representable First s
  unfolding representable
  both_said = rw (e, f)
