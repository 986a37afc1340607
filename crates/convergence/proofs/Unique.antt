-- What the operations of a heap can build is one list: whoever has carried out all that could be carried out has it.
use Prim.Native.Nat.{ℕ, zero, suc, ◌≤◌, ◌<◌}
use native.Mathlib.Omega.{arith}
use mathlib.Core.Path.{◌≡◌, refl, ap, sym, ◌∙◌, subst}
use mathlib.Core.Bool.{true}
use mathlib.Core.Logic.{◌⊎◌, ⊎_elim}
use mathlib.Core.List.Memᴰ
use mathlib.Core.List.{List, [], ◌∷◌, map, Memᴰ, nil≢cons, head-eq_of_cons-eq, tail-eq_of_cons-eq}
use Rattle.woot.specs.declared.Identifier.{Identifier}
use Rattle.woot.specs.declared.Insert.{Insert}
use Rattle.woot.specs.declared.Toggle.{Toggle}
use Rattle.woot.specs.declared.Operation.{Operation}
use Rattle.woot.specs.declared.Operation.TheVariants.{Insert as insert, Toggle as toggle}
use Rattle.woot.specs.declared.Character.{Character}
use Rattle.woot.specs.Operations.{origin}
use Rattle.woot.specs.Placing.{held, above}
use Rattle.convergence.specs.Agreement.{Grown, OneMeaning}
use Rattle.convergence.proofs.Places.{Holding, is-begin, is-character, is-end, holding, held-begin, held-end, held-id, place-above}
use Rattle.convergence.proofs.Sorting.{previous-place, next_place, previous-held, next-held}
use Rattle.convergence.proofs.Agreement.{agreement_held}
use Rattle.convergence.proofs.Listing.{same-list}

-- one identifier, one insert
abbrev pub Consistent : List Operation → Type 0
Consistent heap = (i j : Insert) → Memᴰ (insert i) heap → Memᴰ (insert j) heap → i.id ≡ j.id → i ≡ j

-- the characters have grown by operations of the heap, and none of those that could be carried out is left
pub record Complete (heap : List Operation) (cs : List Character) : Type 0 where
  pub grown : Grown cs
  pub among : (i : Insert) → Memᴰ i (map origin cs) → Memᴰ (insert i) heap
  pub closed : (i : Insert) → Memᴰ (insert i) heap → above cs i.previous i.next ≡ true
      → Memᴰ i (map origin cs)
  pub at_least : (t : Toggle) → Memᴰ (toggle t) heap → (c : Character) → Memᴰ c cs → t.target ≡ c.id
      → t.toggles ≤ c.toggles
  pub attained : (c : Character) → Memᴰ c cs
      → (c.toggles ≡ 0) ⊎ ((t : Toggle) × Memᴰ (toggle t) heap × (t.target ≡ c.id) × (c.toggles ≡ t.toggles))

-- each character stands between its neighbours
pub between_neighbours : {cs : List Character} → Grown cs → {c : Character} → Memᴰ c cs
    → above cs c.previous c.next ≡ true
between_neighbours {cs} g {c} m =
    place-above cs c.previous c.next
    (omega (arith, previous-place cs g.standing m, next_place cs g.standing m)) (next-held cs g.standing m)

module _ (heap : List Operation) (consistent : Consistent heap) where
  pub one-meaning-of : {cs ds : List Character}
      → ((i : Insert) → Memᴰ i (map origin cs) → Memᴰ (insert i) heap)
      → ((i : Insert) → Memᴰ i (map origin ds) → Memᴰ (insert i) heap) → OneMeaning cs ds
  unfolding origin
  one-meaning-of f g c d m n e =
      consistent (origin c) (origin d) (f (origin c) (Memᴰ.map origin m)) (g (origin d) (Memᴰ.map origin n)) e

  module _ (cs ds : List Character) (g : Grown cs)
      (among : (i : Insert) → Memᴰ i (map origin cs) → Memᴰ (insert i) heap) (q : Complete heap ds) where
    abbrev Reaches : ℕ → Type 0
    Reaches n = (c : Character) → Memᴰ c cs → g.births.birth c.id < n → Memᴰ (origin c) (map origin ds)

    held-there : (n : ℕ) → Reaches n → (x : Identifier) → held cs x ≡ true → g.births.birth x < n → held ds x ≡ true
    unfolding origin
    held-there n r x h b = go (holding cs x h)
      where
        go : Holding cs x → held ds x ≡ true
        go (is-begin e) = subst (λ (y : Identifier). held ds y ≡ true) (sym e) (held-begin ds)
        go (is-end e) = subst (λ (y : Identifier). held ds y ≡ true) (sym e) (held-end ds)
        go (is-character c m e) =
            let w = Memᴰ.of_map origin ds (r c m (omega (arith, ap g.births.birth e))) in
            subst (λ (y : Identifier). held ds y ≡ true) (ap (λ (i : Insert). i.id) w.2 ∙ sym e) (held-id ds w.1)

    reaches : (n : ℕ) → Reaches n
    unfolding origin
    reaches zero c m b = absurd (omega arith)
    reaches (suc n) c m b =
        q.closed (origin c) (among (origin c) (Memᴰ.map origin m))
        (sym (agreement_held cs ds g q.grown (one-meaning-of among q.among) c.previous c.next previous next
        (held-there n (reaches n) c.previous previous (omega (arith, g.births.after-previous c m)))
        (held-there n (reaches n) c.next next (omega (arith, g.births.after_next c m))))
        ∙ between_neighbours g m)
      where
        previous : held cs c.previous ≡ true
        previous = previous-held cs g.standing m

        next : held cs c.next ≡ true
        next = next-held cs g.standing m

    pub complete-among : (i : Insert) → Memᴰ i (map origin cs) → Memᴰ i (map origin ds)
    complete-among i m =
        let w = Memᴰ.of_map origin cs m in
        subst (λ (j : Insert). Memᴰ j (map origin ds)) w.2
        (reaches (suc (g.births.birth w.0.id)) w.0 w.1 (omega arith))

  module _ (cs ds : List Character) (p : Complete heap cs) (q : Complete heap ds) where
    pub toggles-among : (c d : Character) → Memᴰ c cs → Memᴰ d ds → c.id ≡ d.id → c.toggles ≤ d.toggles
    toggles-among c d m n e =
        ⊎_elim (λ z. omega (arith, z)) (λ t. omega (arith, t.3, q.at_least t.0 t.1 d n (t.2 ∙ e)))
        (p.attained c m)

  character-path : (c d : Character) → origin c ≡ origin d → c.toggles ≡ d.toggles → c ≡ d
  unfolding origin
  character-path c d e v =
      λ i. record {
        id = (e i).id;
        code_point = (e i).code_point;
        toggles = v i;
        previous = (e i).previous;
        next = (e i).next;
      }

  characters-path : (cs ds : List Character) → map origin cs ≡ map origin ds
      → ((c d : Character) → Memᴰ c cs → Memᴰ d ds → origin c ≡ origin d → c.toggles ≡ d.toggles) → cs ≡ ds
  characters-path [] [] e f = refl
  characters-path [] (d ∷ ds) e f = absurd (nil≢cons e)
  characters-path (c ∷ cs) [] e f = absurd (nil≢cons (sym e))
  characters-path (c ∷ cs) (d ∷ ds) e f =
      let h : origin c ≡ origin d = head-eq_of_cons-eq e in
      let k : c ≡ d = character-path c d h (f c d (Memᴰ.head refl) (Memᴰ.head refl) h) in
      let l : cs ≡ ds = characters-path cs ds (tail-eq_of_cons-eq e)
      (λ a b m n. f a b (Memᴰ.tail m) (Memᴰ.tail n)) in
      λ i. k i ∷ l i

  pub complete-unique : (cs ds : List Character) → Complete heap cs → Complete heap ds → cs ≡ ds
  unfolding origin
  complete-unique cs ds p q =
      characters-path cs ds
      (same-list cs ds p.grown q.grown
      (λ i. (complete-among cs ds p.grown p.among q i, complete-among ds cs q.grown q.among p i)))
      (λ c d m n e.
      let f : c.id ≡ d.id = ap (λ (i : Insert). i.id) e in
      omega (arith, toggles-among cs ds p q c d m n f, toggles-among ds cs q p d c n m (sym f)))
