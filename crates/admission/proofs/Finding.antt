-- The rows whose keys and whose neighbours' places are at hand are loadable where the two tests pass.
use Prim.Native.Nat.{ℕ, ◌<◌}
use native.Mathlib.Omega.{arith}
use mathlib.Core.Path.{◌≡◌, sym, ap, ap₂, ◌∙◌, subst}
use mathlib.Core.Bool.{Bool, true, false, ◌&&◌, not, and-true, and-false as and_no}
use mathlib.Core.List.{List, map, Memᴰ}
use mathlib.Core.Logic.{⊎_elim}
use lib.ListN.{length, get_or, length-map}
use Rattle.lists.specs.Lists.{throughout}
use Rattle.lists.proofs.Tests.{either, failed, passed}
use Rattle.lists.proofs.Indices.{map_get_d}
use Rattle.lists.proofs.Members.{get_member}
use Rattle.woot.specs.declared.Identifier.{Identifier}
use Rattle.woot.specs.declared.Character.{Character}
use Rattle.woot.specs.Placing.{place_of}
use Rattle.woot.specs.State.{blank_character}
use Rattle.bulk.specs.Loading.{acyclic, ordered_pairs, loadable}
use Rattle.woot.specs.Memory.{previous_keys, next_keys}
use Rattle.woot.specs.Table.{key, keys}
use Rattle.convergence.specs.Agreement.{Standing}
use Rattle.index.specs.Keys.{Small, AllSmall, place_in}
use Rattle.index.proofs.Indices.{place-keys}
use Rattle.neighbours.specs.Steps.{Placed, row_at, pairs_in, Unknotted, Knot}
use Rattle.admission.proofs.Knots.{unknotted_acyclic, knot_cyclic}
use Rattle.admission.proofs.Concurrent.{pairs-same}

module _ (cs : List Character) (s : Standing cs) (small : AllSmall cs) (ids : List ℕ) (e : ids ≡ keys cs) where
  counted : length ids ≡ length cs
  counted = ap length e ∙ length-map cs (λ (c : Character). key c.id)

  keyed : (i : ℕ) → i < length cs → get_or ids i 0 ≡ key (get_or cs i blank_character).id
  keyed i h =
      ap (λ (ks : List ℕ). get_or ks i 0) e ∙ map_get_d (λ (c : Character). key c.id) cs i 0 blank_character h

  -- the places of one neighbour of each
  placed_at : (f : Character → Identifier) → ((c : Character) → Memᴰ c cs → Small (f c))
      → (ks places : List ℕ) → ks ≡ map (λ c. key (f c)) cs → Placed ids ks places
      → (i : ℕ) → i < length cs → get_or places i 0 ≡ place_of cs (f (get_or cs i blank_character))
  placed_at f t ks places g p i h =
      p.at i (omega (arith, counted, h))
      ∙ ap₂ place_in e
      (ap (λ (xs : List ℕ). get_or xs i 0) g ∙ map_get_d (λ (c : Character). key (f c)) cs i 0 blank_character h)
      ∙ place-keys (f (get_or cs i blank_character))
      (t (get_or cs i blank_character) (get_member cs i blank_character h)) cs small

  module _ (ps ns ups downs : List ℕ) (f : ps ≡ previous_keys cs) (g : ns ≡ next_keys cs) (p : Placed ids ps ups)
      (q : Placed ids ns downs) where
    pub previous-at : (i : ℕ) → i < length cs → get_or ups i 0 ≡ place_of cs (get_or cs i blank_character).previous
    previous-at = placed_at (λ c. c.previous) (λ c m. (small c m).previous) ps ups f p

    pub next-at : (i : ℕ) → i < length cs → get_or downs i 0 ≡ place_of cs (get_or cs i blank_character).next
    next-at = placed_at (λ c. c.next) (λ c m. (small c m).next) ns downs g q

    pairs-are : pairs_in ids ups downs ≡ ordered_pairs cs
    pairs-are =
        ap (throughout (row_at ids ups downs)) counted ∙ pairs-same cs s small ids ups downs keyed previous-at next-at

    pub pairs_fail : {b : Bool} → b ≡ pairs_in ids ups downs → not b ≡ true → false ≡ loadable cs
    unfolding loadable
    pairs_fail h n =
        let o : ordered_pairs cs ≡ false = failed (h ∙ pairs-are) n in
        sym (ap (λ (b : Bool). acyclic cs && b) o ∙ and_no (acyclic cs))

    pub pairs-pass : {b : Bool} → b ≡ pairs_in ids ups downs → not b ≡ false → {r : Bool}
        → (r ≡ true → Unknotted ups downs (length ids)) → (r ≡ false → Knot ups downs (length ids)) → r ≡ loadable cs
    unfolding loadable
    pairs-pass h n {r} u k =
        let o : ordered_pairs cs ≡ true = passed (h ∙ pairs-are) n in
        ⊎_elim
        (λ (t : r ≡ true).
        t ∙ sym (unknotted_acyclic cs s ups downs previous-at next-at (subst (Unknotted ups downs) counted (u t))))
        (λ (t : r ≡ false).
        t ∙ sym (knot_cyclic cs s ups downs previous-at next-at (subst (Knot ups downs) counted (k t)))) (either r)
        ∙ sym (ap (λ (b : Bool). acyclic cs && b) o ∙ and-true (acyclic cs))
