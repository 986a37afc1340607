-- The clock reaches a key where it reaches the identifier: a key has the site above the clock's 16 bits.
use Prim.Native.Nat.{◌+◌, ◌*◌, ◌/◌, ◌%◌}
use native.Mathlib.Omega.{arith}
use mathlib.Core.Path.{◌≡◌, refl, ap₂, sym, ◌∙◌}
use mathlib.Core.Bool.{Bool, true, ◌&&◌, not}
use mathlib.Core.List.{List, [], ◌∷◌, map}
use lib.Dec.{leb, eqb}
use borrow.Author.Tests.{le-leb}
use Rattle.lists.specs.Lists.{every}
use Rattle.lists.proofs.Tests.{and_left_lem, and_right, or_right, three}
use Rattle.lists.proofs.Members.{every_append}
use Rattle.woot.specs.declared.Identifier.{Identifier}
use Rattle.woot.specs.declared.Site.{Site}
use Rattle.woot.specs.declared.Operation.{Operation}
use Rattle.woot.specs.declared.Operation.TheVariants.{Insert as insert, Toggle as toggle}
use Rattle.woot.specs.declared.Character.{Character}
use Rattle.woot.specs.Ranges.{site_in_range, insert_in_range, character_in_range, in_range}
use Rattle.woot.specs.Operations.{origin}
use Rattle.woot.specs.Placing.{identifiers}
use Rattle.woot.specs.State.{State}
use Rattle.woot.specs.Form.{all_in_range, clock_kept}
use Rattle.woot.specs.Table.{key, keys}
use Rattle.convergence.specs.Invariants.{pending_ids}
use Rattle.convergence.proofs.Clocks.{reaches}
use Rattle.convergence.proofs.Forms.{known-reached}
use Rattle.convergence.proofs.Ranges.{in-range, origin_ranged}
use Rattle.index.specs.Keys.{Small}
use Rattle.index.proofs.Keys.{character-small}
use Rattle.woot.specs.Memory.{own_key}
use Rattle.well_formed.specs.Form.{reaches_key, clock_reached}

reaches-key : (t : Site) (x : Identifier) → Small x → reaches_key t (key x) ≡ reaches t x
unfolding reaches_key key
reaches-key t x small =
    let above : (x.site * 65536 + x.clock) / 65536 ≡ x.site = omega arith in
    let below : (x.site * 65536 + x.clock) % 65536 ≡ x.clock = omega arith in
    rw (above, below)

-- a toggle has the key 0, which every clock reaches
reaches_none : (t : Site) → reaches_key t 0 ≡ true
unfolding reaches_key
reaches_none t = or_right (not (eqb 0 t.number)) (leb 0 t.clock) (le-leb 0 t.clock (omega arith))

reached-characters : (t : Site) (cs : List Character) → every character_in_range cs ≡ true → every (reaches_key t) (keys cs) ≡ every (reaches t) (identifiers cs)
unfolding origin
reached-characters t [] r = refl
reached-characters t (c ∷ cs) r =
    let small = character-small c.id (in-range (origin c) (origin_ranged c (and_left_lem (character_in_range c) (every character_in_range cs) r))).id in
    ap₂ (λ (a b : Bool). a && b) (reaches-key t c.id small) (reached-characters t cs (and_right (character_in_range c) (every character_in_range cs) r))

reached-own : (t : Site) (os : List Operation) → every in_range os ≡ true → every (reaches_key t) (map own_key os) ≡ every (reaches t) (pending_ids os)
unfolding in_range own_key
reached-own t [] r = refl
reached-own t (insert i ∷ os) r =
    let small = character-small i.id (in-range i (and_left_lem (insert_in_range i) (every in_range os) r)).id in
    ap₂ (λ (a b : Bool). a && b) (reaches-key t i.id small) (reached-own t os (and_right (insert_in_range i) (every in_range os) r))
reached-own t (toggle d ∷ os) r = rw (reaches_none t) (reached-own t os (and_right (in_range (toggle d)) (every in_range os) r))

pub clock-reached : (s : State) → all_in_range s ≡ true → clock_kept s ≡ clock_reached s.site (keys s.characters) (map own_key s.pending)
unfolding all_in_range clock_kept
clock-reached s r =
    let p = three (site_in_range s.site) (every character_in_range s.characters) (every in_range s.pending) r in
    known-reached s
    ∙ every_append (reaches s.site) (identifiers s.characters) (pending_ids s.pending)
    ∙ sym (ap₂ (λ (a b : Bool). a && b) (reached-characters s.site s.characters p.1) (reached-own s.site s.pending p.2))
