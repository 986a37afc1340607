-- What refusal 2 lets pass is within the limits of the fields: a number above its limit is no part of an operation in range.
use mathlib.Core.Path.{◌≡◌, refl}
use mathlib.Core.List.{List}
use mathlib.Core.Logic.{◌⊎◌, inl, inr}
use mathlib.Core.Bool.{true, ◌&&◌, ◌||◌, not}
use Prim.Native.Nat.{ℕ, ◌≤◌}
use native.Mathlib.Omega.{arith}
use lib.Dec.{leb}
use borrow.Author.Tests.{leb-true}
use Rattle.woot.specs.declared.Identifier.{Identifier}
use Rattle.woot.specs.declared.Insert.{Insert}
use Rattle.woot.specs.declared.Toggle.{Toggle}
use Rattle.woot.specs.Limits.{last_site, last_clock, last_code_point, first_surrogate, last_surrogate, last_toggles}
use Rattle.woot.specs.Identifiers.{begin, end, same}
use Rattle.woot.specs.Ranges.{within, site_number, is_code_point, character_id, previous_id, next_id, insert_in_range, toggle_in_range, in_range}
use Rattle.lists.proofs.Tests.{and_left_lem, and_right, or_cases}
use Rattle.convergence.proofs.Identifiers.{same-eq}
use Rattle.convergence.proofs.Ranges.{toggle-in-range}
use Rattle.lines.specs.Fields.{at_most}
use Rattle.codec.specs.declared.Kind.{Kind}
use Rattle.codec.specs.declared.Kind.TheVariants.{Insert as Inserted, Toggle as Toggled, Delete as Deleted}
use Rattle.codec.specs.Kinds.{limits_of, said_as}
use Rattle.codec.specs.Operations.{insert_limits, toggle_limits, delete_limits, identifier_at, insert_of, toggle_of, delete_of}
use Rattle.lines.proofs.Values.{at_most_from}

upper : (low high n : ℕ) → within low high n ≡ true → n ≤ high
unfolding within
upper low high n e = leb-true n high (and_right (leb low n) (leb n high) e)

site-bound : (n : ℕ) → site_number n ≡ true → n ≤ last_site
unfolding site_number
site-bound n e = upper 1 last_site n e

code-point-bound : (n : ℕ) → is_code_point n ≡ true → n ≤ last_code_point
unfolding is_code_point
code-point-bound n e = upper 0 last_code_point n (and_left_lem (within 0 last_code_point n) (not (within first_surrogate last_surrogate n)) e)

-- an identifier whose numbers are at most the limits
pub record Bounded (x : Identifier) : Type 0 where
  pub site-le : x.site ≤ last_site
  pub clock-le : x.clock ≤ last_clock

character-bounds : (x : Identifier) → character_id x ≡ true → Bounded x
unfolding character_id
character-bounds x e = record {
  site-le = site-bound x.site (and_left_lem (site_number x.site) (within 1 last_clock x.clock) e);
  clock-le = upper 1 last_clock x.clock (and_right (site_number x.site) (within 1 last_clock x.clock) e);
}

-- a mark or a character
neighbour_bounds : (x mark : Identifier) → Bounded mark → same x mark || character_id x ≡ true → Bounded x
neighbour_bounds x mark b e = go (or_cases (same x mark) (character_id x) e)
  where
    go : (same x mark ≡ true) ⊎ (character_id x ≡ true) → Bounded x
    go (inl p) = rw (same-eq x mark p) b
    go (inr p) = character-bounds x p

-- the numbers of an operation in range
pub record InsertBounds (i : Insert) : Type 0 where
  pub id-bounds : Bounded i.id
  pub code-bound : i.code_point ≤ last_code_point
  pub previous-bounds : Bounded i.previous
  pub next-bounds : Bounded i.next

pub record ToggleBounds (d : Toggle) : Type 0 where
  pub sender-bound : d.sender ≤ last_site
  pub target-bounds : Bounded d.target
  pub toggles-bound : d.toggles ≤ last_toggles

pub insert-bounds : (i : Insert) → insert_in_range i ≡ true → InsertBounds i
unfolding insert_in_range previous_id next_id
insert-bounds i e =
    let p = character_id i.id in
    let q = is_code_point i.code_point in
    let r = previous_id i.previous in
    let s = next_id i.next in
    let four : p && q && r && s ≡ true = and_left_lem (p && q && r && s) _ (and_left_lem (p && q && r && s && not (same i.id i.previous)) _ e) in
    let three : p && q && r ≡ true = and_left_lem (p && q && r) s four in
    record {
      id-bounds = character-bounds i.id (and_left_lem p q (and_left_lem (p && q) r three));
      code-bound = code-point-bound i.code_point (and_right p q (and_left_lem (p && q) r three));
      previous-bounds = neighbour_bounds i.previous begin (record { site-le = omega arith; clock-le = omega arith }) (and_right (p && q) r three);
      next-bounds = neighbour_bounds i.next end (record { site-le = omega arith; clock-le = omega arith }) (and_right (p && q && r) s four);
    }

pub toggle_bounds : (d : Toggle) → toggle_in_range d ≡ true → ToggleBounds d
toggle_bounds d e =
    let r = toggle-in-range d e in
    record {
      sender-bound = site-bound d.sender r.sender;
      target-bounds = character-bounds d.target r.target;
      toggles-bound = r.most;
    }

-- so numbers that say an operation in range are within the limits of its line
pub said_at_most : (k : Kind) (ns : List ℕ) → in_range (said_as k ns) ≡ true → at_most (limits_of k) ns ≡ true
unfolding in_range insert_of toggle_of delete_of identifier_at
said_at_most Inserted ns e =
    let b = insert-bounds (insert_of ns) e in
    at_most_from 0 insert_limits ns b.id-bounds.site-le
    (at_most_from 1 insert_limits ns b.id-bounds.clock-le
    (at_most_from 2 insert_limits ns b.code-bound
    (at_most_from 3 insert_limits ns b.previous-bounds.site-le
    (at_most_from 4 insert_limits ns b.previous-bounds.clock-le
    (at_most_from 5 insert_limits ns b.next-bounds.site-le (at_most_from 6 insert_limits ns b.next-bounds.clock-le refl))))))
said_at_most Toggled ns e =
    let b = toggle_bounds (toggle_of ns) e in
    at_most_from 0 toggle_limits ns b.sender-bound
    (at_most_from 1 toggle_limits ns b.target-bounds.site-le
    (at_most_from 2 toggle_limits ns b.target-bounds.clock-le (at_most_from 3 toggle_limits ns b.toggles-bound refl)))
said_at_most Deleted ns e =
    let b = toggle_bounds (delete_of ns) e in
    at_most_from 0 delete_limits ns b.sender-bound
    (at_most_from 1 delete_limits ns b.target-bounds.site-le (at_most_from 2 delete_limits ns b.target-bounds.clock-le refl))
