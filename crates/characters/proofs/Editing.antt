-- What is edited in the arrays is edited among the characters: the columns of the characters with one put in, and with one
-- toggled.
use Prim.Native.Nat.{ℕ, zero, suc, ◌+◌, ◌≤◌, ◌<◌, max}
use native.Mathlib.Omega.{arith}
use native.Mathlib.Numerals.{one-add}
use mathlib.Core.Path.{◌≡◌, refl, ap, ap₂, sym, ◌∙◌}
use mathlib.Core.Bool.{Bool, true, false, ◌&&◌, ◌||◌, not, cond}
use mathlib.Core.List.{List, [], ◌∷◌, ◌++◌, map}
use lib.Dec.{eqb}
use lib.ListN.{length, take, drop, set, get_or, length-map}
use borrow.Author.Tests.{not-true}
use Rattle.lists.specs.Lists.{any, distinct}
use Rattle.lists.specs.Padding.{pad}
use Rattle.lists.proofs.Padding.{pad-take}
use Rattle.lists.proofs.Tests.{and_left_lem, and_right, or-false-left, or-false-right}
use Rattle.slots.specs.Slots.{put_after}
use Rattle.slots.proofs.Slots.{put_map, put-length, put-padded, set-padded}
use Rattle.woot.specs.declared.Identifier.{Identifier}
use Rattle.woot.specs.declared.Toggle.{Toggle}
use Rattle.woot.specs.declared.Character.{Character}
use Rattle.woot.specs.Identifiers.{same}
use Rattle.woot.specs.Operations.{with_toggles, toggled_by}
use Rattle.woot.specs.Placing.{identifiers, insert_at, integrate_toggle}
use Rattle.woot.specs.Table.{key, keys}
use Rattle.woot.specs.Memory.{toggle_counts}
use Rattle.convergence.proofs.Identifiers.{same-eq}
use Rattle.convergence.proofs.Toggling.{toggle_map, toggled-toggles}
use Rattle.std.proofs.Common.{Option, Some, None}
use Rattle.index.specs.Keys.{further, first_index}

-- ---- a character put in

insert-put : (k : ℕ) (c : Character) (cs : List Character) → insert_at k c cs ≡ put_after k c cs
unfolding insert_at
insert-put zero c cs = refl
insert-put (suc k) c [] = refl
insert-put (suc k) c (d ∷ cs) = ap (λ (l : List Character). d ∷ l) (insert-put k c cs)

pub inserted-length : (k : ℕ) (c : Character) (cs : List Character) → length (insert_at k c cs) ≡ length cs + 1
inserted-length k c cs = rw (insert-put k c cs) (omega (arith, put-length k c cs))

-- the number of the character put into the column of the others, where they are in an array of m slots
pub column-put : (m : ℕ) (f : Character → ℕ) (k : ℕ) (c : Character) (cs : List Character) (n : ℕ) {xs : List ℕ}
    → xs ≡ pad m 0 (map f cs) → length cs ≡ n → n < m
    → put_after k (f c) (take n xs) ++ drop (suc n) xs ≡ pad m 0 (map f (insert_at k c cs))
column-put m f k c cs n e size room =
    rw (e, insert-put k c cs, put_map f k c cs) (put-padded m 0 k (f c) (map f cs) n (length-map cs f ∙ size) room)

-- ---- a character toggled

no_place : {k : ℕ} {A : Type 0} → None ≡ Some k → A
no_place e = absurd (let z : ◌≡◌ {A = ℕ} 0 1 = cc in omega arith)

module _ (x : Toggle) where
  -- whether it is the target
  abbrev pub targeted : Character → Bool
  targeted c = same x.target c.id

  none-toggled : (cs : List Character) → any (same x.target) (identifiers cs) ≡ false → toggle_counts (integrate_toggle cs x) ≡ toggle_counts cs
  unfolding integrate_toggle
  none-toggled [] e = refl
  none-toggled (c ∷ cs) e =
      let other : same x.target c.id ≡ false = or-false-left (same x.target c.id) _ e in
      ap₂ (λ (n : ℕ) (ns : List ℕ). n ∷ ns) (toggled-toggles x c ∙ rw other)
      (none-toggled cs (or-false-right (same x.target c.id) _ e))

  targeted_ids : (cs : List Character) → any targeted cs ≡ any (same x.target) (identifiers cs)
  targeted_ids [] = refl
  targeted_ids (c ∷ cs) = ap (λ (b : Bool). same x.target c.id || b) (targeted_ids cs)

  -- where none is the target, every count is as it was
  pub column_untoggled : (cs : List Character) → any targeted cs ≡ false → toggle_counts (integrate_toggle cs x) ≡ toggle_counts cs
  column_untoggled cs e = none-toggled cs (sym (targeted_ids cs) ∙ e)

  -- the count in the target's slot is the larger one
  pub column-toggled : (cs : List Character) → distinct same (identifiers cs) ≡ true → (k : ℕ) → first_index targeted cs ≡ Some k
      → toggle_counts (integrate_toggle cs x) ≡ set (toggle_counts cs) k (max (get_or (toggle_counts cs) k 0) x.toggles)
  unfolding integrate_toggle first_index
  column-toggled [] d k e = no_place e
  column-toggled (c ∷ cs) d k e = go (targeted c) refl e (column-toggled cs (and_right (not (any (same c.id) (identifiers cs))) _ d))
    where
      alone : any (same c.id) (identifiers cs) ≡ false
      alone = not-true _ (and_left_lem (not (any (same c.id) (identifiers cs))) _ d)

      Toggled : List Character → ℕ → Type 0
      Toggled ds i = toggle_counts (integrate_toggle ds x) ≡ set (toggle_counts ds) i (max (get_or (toggle_counts ds) i 0) x.toggles)

      later : (r : Option ℕ) → further 1 r ≡ Some k → targeted c ≡ false → ((i : ℕ) → r ≡ Some i → Toggled cs i) → Toggled (c ∷ cs) k
      later None g t others = no_place g
      later (Some j) g t others =
          let next : 1 + j ≡ k = cc in
          rw (← next, one-add j) (ap₂ (λ (n : ℕ) (ns : List ℕ). n ∷ ns) (toggled-toggles x c ∙ rw t) (others j refl))

      go : (b : Bool) → targeted c ≡ b → cond b (Some 0) (further 1 (first_index targeted cs)) ≡ Some k → ((i : ℕ) → first_index targeted cs ≡ Some i → Toggled cs i) → Toggled (c ∷ cs) k
      go true t f others =
          let first : 0 ≡ k = cc in
          let is : x.target ≡ c.id = same-eq x.target c.id t in
          rw (← first) (ap₂ (λ (n : ℕ) (ns : List ℕ). n ∷ ns) (toggled-toggles x c ∙ rw t) (none-toggled cs (rw is alone)))
      go false t f others = later (first_index targeted cs) f t others

  -- the columns that no toggle changes
  pub column-kept : (f : Character → ℕ) → ((c : Character) (n : ℕ) → f (with_toggles c n) ≡ f c) → (cs : List Character) → map f (integrate_toggle cs x) ≡ map f cs
  column-kept f indifferent cs = toggle_map f indifferent x cs
