-- What refusal 2 lets pass is within the limits of the fields, as in the lines of operations.
use mathlib.Core.Path.{◌≡◌, refl, subst}
use mathlib.Core.List.{List}
use mathlib.Core.Bool.{true}
use Prim.Native.Nat.{ℕ, zero, suc, ◌≤◌}
use native.Mathlib.Omega.{arith}
use lib.Dec.{leb}
use lib.ListN.{get_or}
use borrow.Author.Tests.{leb-true, le-leb}
use Rattle.woot.specs.Limits.{last_site, last_clock}
use Rattle.woot.specs.Operations.{origin}
use Rattle.woot.specs.Ranges.{within, site_number, site_in_range, character_in_range}
use Rattle.lists.proofs.Tests.{and_left_lem, and_right}
use Rattle.convergence.proofs.Ranges.{origin_ranged, toggles_ranged}
use Rattle.lines.specs.Fields.{at_most}
use Rattle.codec.specs.Operations.{identifier_at}
use Rattle.lines.proofs.Values.{at_most_from, at_most_at}
use Rattle.codec.proofs.Bounds.{insert-bounds}
use Rattle.woot.specs.declared.Character.{Character}
use Rattle.saved.specs.declared.Version.{Version}
use Rattle.saved.specs.declared.Version.TheVariants.{First, Second}
use Rattle.saved.specs.Format.{site_limits, site_of, toggle_field, last_toggle_field, character_limits, character_of, character_within}
use Rattle.saved.proofs.Spelling.{toggle_field-back}

top : (low high n : ℕ) → within low high n ≡ true → n ≤ high
unfolding within
top low high n e = leb-true n high (and_right (leb low n) (leb n high) e)

-- numbers that say a site in range
pub site-at_most : (ns : List ℕ) → site_in_range (site_of ns) ≡ true → at_most site_limits ns ≡ true
unfolding site_in_range site_number site_of
site-at_most ns e =
    let p = within 1 last_site (get_or ns 0 0) in
    let q = within 0 last_clock (get_or ns 1 0) in
    at_most_from 0 site_limits ns (top 1 last_site (get_or ns 0 0) (and_left_lem p q e))
    (at_most_from 1 site_limits ns (top 0 last_clock (get_or ns 1 0) (and_right p q e)) refl)

-- toggles within the limit of their number go with one within it, and it with such toggles
pub toggle_field-kept : (v : Version) (n : ℕ) → n ≤ last_toggle_field v → toggle_field v n ≤ last_toggle_field v
unfolding toggle_field
toggle_field-kept First zero k = omega arith
toggle_field-kept First (suc zero) k = omega arith
toggle_field-kept First (suc (suc n)) k = absurd (omega arith)
toggle_field-kept Second n k = k

pub last_fits : (v : Version) → last_toggle_field v ≤ 255
last_fits First = omega arith
last_fits Second = omega arith

toggles-within : (v : Version) (c : Character) → character_in_range c ≡ true → character_within v c ≡ true → c.toggles ≤ last_toggle_field v
unfolding character_within
toggles-within First c e h = leb-true c.toggles 1 h
toggles-within Second c e h = toggles_ranged c e

-- numbers that say a character in range, which the form can say
pub character-at_most : (v : Version) (ns : List ℕ) → character_within v (character_of v ns) ≡ true → character_in_range (character_of v ns) ≡ true → at_most (character_limits v) ns ≡ true
unfolding origin character_of identifier_at
character-at_most v ns h e =
    let b = insert-bounds (origin (character_of v ns)) (origin_ranged (character_of v ns) e) in
    let f : get_or ns 3 0 ≤ last_toggle_field v = subst (λ (n : ℕ). n ≤ last_toggle_field v) (toggle_field-back v (get_or ns 3 0)) (toggle_field-kept v (toggle_field v (get_or ns 3 0)) (toggles-within v (character_of v ns) e h)) in
    at_most_from 0 (character_limits v) ns b.id-bounds.site-le
    (at_most_from 1 (character_limits v) ns b.id-bounds.clock-le
    (at_most_from 2 (character_limits v) ns b.code-bound
    (at_most_from 3 (character_limits v) ns f
    (at_most_from 4 (character_limits v) ns b.previous-bounds.site-le
    (at_most_from 5 (character_limits v) ns b.previous-bounds.clock-le
    (at_most_from 6 (character_limits v) ns b.next-bounds.site-le (at_most_from 7 (character_limits v) ns b.next-bounds.clock-le refl)))))))

-- and numbers within the limits say toggles that the form can say
pub at_most_within : (v : Version) (ns : List ℕ) → at_most (character_limits v) ns ≡ true → character_within v (character_of v ns) ≡ true
unfolding character_within character_of
at_most_within First ns h = le-leb (toggle_field First (get_or ns 3 0)) 1 (toggle_field-kept First (get_or ns 3 0) (at_most_at (character_limits First) ns h 3 (omega arith)))
at_most_within Second ns h = refl
