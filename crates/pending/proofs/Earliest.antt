-- The search for a pending operation that is due goes by what is left of the list; what it finds on keys is what the rules
-- take out.
use Prim.Native.Nat.{ℕ, suc, ◌+◌, ◌≤◌, ◌<◌, min, zero-le}
use native.Mathlib.Numerals.{add-one, one-add}
use native.Mathlib.Omega.{arith}
use mathlib.Core.Path.{◌≡◌, refl, ap, sym, ◌∙◌, subst}
use mathlib.Core.Bool.{Bool, true, false, ◌&&◌, cond, and-true}
use mathlib.Core.Option.{none, some}
use mathlib.Core.List.{List, [], ◌∷◌, ◌++◌, map}
use borrow.Author.Tests.{le-leb}
use lib.ListN.{length, drop, get_or, length-drop, length-map}
use lib.Seq.{drop-cons}
use Rattle.woot.specs.declared.Identifier.{Identifier}
use Rattle.woot.specs.declared.Operation.{Operation}
use Rattle.woot.specs.declared.Operation.TheVariants.{Insert as insert, Toggle as toggle}
use Rattle.woot.specs.declared.Character.{Character}
use Rattle.lists.specs.Lists.{every}
use Rattle.woot.specs.Ranges.{in_range}
use Rattle.woot.specs.Placing.{held}
use Rattle.woot.specs.Pending.{executable, earliest}
use Rattle.lists.proofs.Tests.{and_left_lem, and_right}
use Rattle.std.proofs.Common.{Option, Some, None}
use Rattle.woot.specs.Table.{key, keys}
use Rattle.index.specs.Keys.{Small, AllSmall, place_in, further, first_index}
use Rattle.index.proofs.Indices.{index-here, place-keys}
use Rattle.index.proofs.Searches.{further-none, further-more}
use Rattle.slots.specs.Slots.{removed}
use Rattle.woot.specs.Memory.{first_key, second_key}
use Rattle.pending.specs.Ready.{held_in, ready_in}
use Rattle.memory.proofs.Operations.{range_keyed}

-- ---- the search

module _ (ids fs ss : List ℕ) where
  -- what is found among the operations from i on
  abbrev pub ready_left : ℕ → Option ℕ
  ready_left i = further i (ready_in ids (drop i fs) (drop i ss))

  pub ready_start : ready_in ids fs ss ≡ ready_left 0
  ready_start = sym (further-none (ready_in ids fs ss))

  module _ (i : ℕ) (p : i < length fs) (q : i < length ss) where
    step : ready_left i ≡ further i (cond (held_in ids (get_or fs i 0) && held_in ids (get_or ss i 0)) (Some 0)
        (further 1 (ready_in ids (drop (suc i) fs) (drop (suc i) ss))))
    unfolding ready_in
    step = rw (drop-cons fs i 0 p, drop-cons ss i 0 q)

    pub ready_here : held_in ids (get_or fs i 0) && held_in ids (get_or ss i 0) ≡ true → ready_left i ≡ Some i
    ready_here e = step ∙ rw e (ap Some (omega arith))

    pub ready_passed : held_in ids (get_or fs i 0) && held_in ids (get_or ss i 0) ≡ false → ready_left i ≡ ready_left (i + 1)
    ready_passed e = step ∙ rw (e, ← further-more, add-one i)

  short : (xs ys : List ℕ) → min (length xs) (length ys) ≡ 0 → ready_in ids xs ys ≡ None
  unfolding ready_in
  short [] ys e = refl
  short (x ∷ xs) [] e = refl
  short (x ∷ xs) (y ∷ ys) e = absurd (omega arith)

  pub ready_none : (i : ℕ) → min (length fs) (length ss) ≤ i → ready_left i ≡ None
  ready_none i h = ap (further i) (short (drop i fs) (drop i ss) (omega (arith, length-drop i fs, length-drop i ss)))

-- ---- keys and what operations need

module _ (cs : List Character) (s : AllSmall cs) where
  pub held-keys : (x : Identifier) → Small x → held_in (keys cs) (key x) ≡ held cs x
  unfolding held_in held
  held-keys x p = rw (place-keys x p cs s, length-map cs (λ (c : Character). key c.id))

  held-begin : held_in (keys cs) 0 ≡ true
  unfolding held_in place_in
  held-begin = rw (index-here 0 0 (keys cs ++ 1 ∷ []) refl) (le-leb 0 (suc (length (keys cs))) zero-le)

  both-held : (o : Operation) → in_range o ≡ true → held_in (keys cs) (first_key o) && held_in (keys cs) (second_key o) ≡ executable cs o
  unfolding first_key second_key executable
  both-held (insert i) h =
      let p = range_keyed (insert i) h in
      rw (held-keys i.previous p.previous, held-keys i.next p.next)
  both-held (toggle d) h = rw (held-begin, held-keys d.target (range_keyed (toggle d) h).0, and-true)

  pub ready_executable : (ps : List Operation) → every in_range ps ≡ true
      → ready_in (keys cs) (map first_key ps) (map second_key ps) ≡ first_index (executable cs) ps
  unfolding ready_in first_index
  ready_executable [] h = refl
  ready_executable (o ∷ ps) h =
      rw (both-held o (and_left_lem (in_range o) _ h), ready_executable ps (and_right (in_range o) _ h))

-- ---- the first of them

module _ (p : Operation → Bool) where
  -- what a finding says of the earliest
  abbrev Takes : List Operation → Option ℕ → Type 0
  Takes ps (Some j) = (d : Operation) → (j < length ps) × (earliest p ps ≡ some (record { operation = get_or ps j d; others = removed j ps }))
  Takes ps None = earliest p ps ≡ none

  taken : (ps : List Operation) → Takes ps (first_index p ps)
  unfolding first_index earliest removed
  taken [] = refl
  taken (o ∷ ps) = go (p o) refl (first_index p ps) (taken ps)
    where
      go : (b : Bool) → p o ≡ b → (r : Option ℕ) → Takes ps r → Takes (o ∷ ps) (cond b (Some 0) (further 1 r))
      go true e r t = λ d. (omega arith, rw e)
      go false e (Some j) t = λ d. (omega (arith, (t d).0), rw (one-add j, e, (t d).1))
      go false e None t = rw (e, t)

  pub takes : (ps : List Operation) (r : Option ℕ) → first_index p ps ≡ r → Takes ps r
  takes ps r e = subst (Takes ps) e (taken ps)
