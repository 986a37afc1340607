-- Characters that stand between their neighbours are loadable exactly where they have grown.
use mathlib.Core.Path.{◌≡◌}
use mathlib.Core.Bool.{Bool, true, false, ◌&&◌, not}
use mathlib.Core.Logic.{◌⊎◌, inl, inr, ⊎_elim}
use mathlib.Core.List.{List, Memᴰ}
use borrow.Author.Tests.{not-true}
use Rattle.woot.specs.declared.Character.{Character}
use Rattle.woot.specs.Identifiers.{below}
use Rattle.woot.specs.Placing.{above}
use Rattle.bulk.specs.Loading.{acyclic, ordered_pair, ordered_pairs, loadable}
use Rattle.lists.specs.Lists.{every}
use Rattle.lists.proofs.Tests.{either, clash, and_intro, and_left_lem, and_right, or_cases, or_left, or_right}
use Rattle.lists.proofs.Members.{every_member, member_every}
use Rattle.convergence.specs.Agreement.{Standing, Sorted, Grown}
use Rattle.convergence.proofs.Places.{held-id, above_place, place-above}
use Rattle.convergence.proofs.Sorting.{sorted_ascending, ascending_sorted, next-held}
use Rattle.convergence.proofs.Peeling.{peeled_births, births_peeled}

-- c stands above d, and each between the other's neighbours
abbrev crossing : List Character → Character → Character → Bool
crossing cs c d = above cs c.id d.id && above cs d.previous c.id && above cs d.id c.next

pairs-sorted : (cs : List Character) → Standing cs → ordered_pairs cs ≡ true → Sorted cs
unfolding ordered_pairs ordered_pair
pairs-sorted cs s h =
    ascending_sorted cs s (λ c d m n p q r.
    let e = every_member (ordered_pair cs c) (every_member (λ c. every (ordered_pair cs c) cs) h m) n in
    let a = place-above cs c.id d.id p (held-id cs n) in
    let b = place-above cs d.previous c.id q (held-id cs m) in
    let k = place-above cs d.id c.next r (next-held cs s m) in
    ⊎_elim (λ f. clash (and_intro (and_intro a b) k) (not-true (crossing cs c d) f)) (λ f. f)
    (or_cases (not (crossing cs c d)) (below c.id d.id) e))

sorted-pairs : (cs : List Character) → Standing cs → Sorted cs → ordered_pairs cs ≡ true
unfolding ordered_pairs ordered_pair
sorted-pairs cs s w =
    member_every (λ c. every (ordered_pair cs c) cs) cs
    (λ c m. member_every (ordered_pair cs c) cs (λ d n. one c m d n (either (crossing cs c d))))
  where
    one : (c : Character) → Memᴰ c cs → (d : Character) → Memᴰ d cs
        → (crossing cs c d ≡ true) ⊎ (crossing cs c d ≡ false) → ordered_pair cs c d ≡ true
    one c m d n (inl e) =
        let x = above cs c.id d.id in
        let y = above cs d.previous c.id in
        let z = above cs d.id c.next in
        or_right (not (x && y && z)) (below c.id d.id)
        (sorted_ascending cs s w c d m n (above_place cs c.id d.id (and_left_lem x y (and_left_lem (x && y) z e)))
        (above_place cs d.previous c.id (and_right x y (and_left_lem (x && y) z e)))
        (above_place cs d.id c.next (and_right (x && y) z e)))
    one c m d n (inr e) = or_left (not (crossing cs c d)) (below c.id d.id) (rw e)

pub loadable-grown : (cs : List Character) → Standing cs → loadable cs ≡ true → Grown cs
unfolding loadable
loadable-grown cs s h =
    record {
      standing = s;
      births = peeled_births cs (and_left_lem (acyclic cs) (ordered_pairs cs) h);
      sorted = pairs-sorted cs s (and_right (acyclic cs) (ordered_pairs cs) h);
    }

pub grown-loadable : (cs : List Character) → Grown cs → loadable cs ≡ true
unfolding loadable
grown-loadable cs g = and_intro (births_peeled cs g.births) (sorted-pairs cs g.standing g.sorted)
