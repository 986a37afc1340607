-- The ranges of refusal 2 as facts about the numbers.
use Prim.Native.Nat.{ℕ, ◌≤◌}
use native.Mathlib.Omega.{arith}
use mathlib.Core.Path.{◌≡◌, ap}
use mathlib.Core.Bool.{true, false, ◌&&◌, not}
use borrow.Author.Tests.{leb-true, le-leb, not-true}
use lib.Dec.{leb}
use Rattle.woot.specs.declared.Identifier.{Identifier}
use Rattle.woot.specs.declared.Insert.{Insert}
use Rattle.woot.specs.declared.Site.{Site}
use Rattle.woot.specs.declared.Toggle.{Toggle}
use Rattle.woot.specs.declared.Character.{Character}
use Rattle.woot.specs.Limits.{last_site, last_clock, last_toggles}
use Rattle.woot.specs.Identifiers.{same}
use Rattle.woot.specs.Operations.{origin}
use Rattle.woot.specs.Ranges.{within, site_number, is_code_point, character_id, previous_id, next_id, insert_in_range, toggle_in_range, character_in_range}
use Rattle.lists.proofs.Tests.{and_left_lem, and_right, and_intro, three, four}

pub within_low : (low high n : ℕ) → within low high n ≡ true → low ≤ n
unfolding within
within_low low high n h = leb-true low n (and_left_lem (leb low n) (leb n high) h)

pub within-high : (low high n : ℕ) → within low high n ≡ true → n ≤ high
unfolding within
within-high low high n h = leb-true n high (and_right (leb low n) (leb n high) h)

pub to-within : (low high n : ℕ) → low ≤ n → n ≤ high → within low high n ≡ true
unfolding within
to-within low high n h k = and_intro (le-leb low n h) (le-leb n high k)

-- a character's identifier is no mark: its site is at least 1
pub character-site : (x : Identifier) → character_id x ≡ true → 1 ≤ x.site
unfolding character_id site_number
character-site x h = within_low 1 last_site x.site (and_left_lem (within 1 last_site x.site) (within 1 last_clock x.clock) h)

pub no_mark : (x : Identifier) (t : ℕ) → character_id x ≡ true → x ≡ record { site = 0; clock = t } → ⊥
no_mark x t h e = omega (arith, character-site x h, ap (λ (y : Identifier). y.site) e)

-- the parts of an insert that is in range
pub record InRange (i : Insert) : Type 0 where
  pub id : character_id i.id ≡ true
  pub code : is_code_point i.code_point ≡ true
  pub previous : previous_id i.previous ≡ true
  pub next : next_id i.next ≡ true
  pub not-previous : same i.id i.previous ≡ false
  pub not-next : same i.id i.next ≡ false

pub in-range : (i : Insert) → insert_in_range i ≡ true → InRange i
unfolding insert_in_range
in-range i h =
    let a = character_id i.id && is_code_point i.code_point && previous_id i.previous && next_id i.next in
    let p = not (same i.id i.previous) in
    let q = not (same i.id i.next) in
    let k = and_left_lem (a && p) q h in
    let w = four (character_id i.id) (is_code_point i.code_point) (previous_id i.previous) (next_id i.next) (and_left_lem a p k) in
    record {
      id = w.0;
      code = w.1;
      previous = w.2;
      next = w.3;
      not-previous = not-true (same i.id i.previous) (and_right a p k);
      not-next = not-true (same i.id i.next) (and_right (a && p) q h);
    }

pub to-range : (i : Insert) → InRange i → insert_in_range i ≡ true
unfolding insert_in_range
to-range i r = rw (r.id, r.code, r.previous, r.next, r.not-previous, r.not-next)

-- the parts of a toggle that is in range
pub record ToggleInRange (t : Toggle) : Type 0 where
  pub sender : site_number t.sender ≡ true
  pub target : character_id t.target ≡ true
  pub least : 1 ≤ t.toggles
  pub most : t.toggles ≤ last_toggles

pub toggle-in-range : (t : Toggle) → toggle_in_range t ≡ true → ToggleInRange t
unfolding toggle_in_range
toggle-in-range t h =
    let w = three (site_number t.sender) (character_id t.target) (within 1 last_toggles t.toggles) h in
    record {
      sender = w.0;
      target = w.1;
      least = within_low 1 last_toggles t.toggles w.2;
      most = within-high 1 last_toggles t.toggles w.2;
    }

pub to_toggle_range : (t : Toggle) → ToggleInRange t → toggle_in_range t ≡ true
unfolding toggle_in_range
to_toggle_range t r = rw (r.sender, r.target, to-within 1 last_toggles t.toggles r.least r.most)

-- a character in range came from an insert in range, and its toggles are within their limit
module _ (c : Character) where
  pub origin_ranged : character_in_range c ≡ true → insert_in_range (origin c) ≡ true
  unfolding character_in_range
  origin_ranged h = and_left_lem (insert_in_range (origin c)) (within 0 last_toggles c.toggles) h

  pub toggles_ranged : character_in_range c ≡ true → c.toggles ≤ last_toggles
  unfolding character_in_range
  toggles_ranged h = within-high 0 last_toggles c.toggles (and_right (insert_in_range (origin c)) (within 0 last_toggles c.toggles) h)

  pub to-character-range : insert_in_range (origin c) ≡ true → c.toggles ≤ last_toggles → character_in_range c ≡ true
  unfolding character_in_range
  to-character-range h k = and_intro h (to-within 0 last_toggles c.toggles (omega arith) k)
