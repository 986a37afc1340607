-- `integration::pass` meets its contract. The loop's invariant: what is left from i on, with the upper end as it is, gives what
-- the whole pass gives, where each neighbour's place is that of its key.
use Prim.Native.Nat.{ℕ, ◌-◌, ◌≤◌, ◌<◌, min}
use native.Mathlib.Omega.{arith}
use mathlib.Core.Path.{◌≡◌, sym, ◌∙◌, subst}
use mathlib.Core.Bool.{Bool}
use mathlib.Core.List.{List}
use lib.ListN.{length, get_or, length-map}
use Rattle.lists.proofs.Indices.{map_get_d}
use Rattle.index.specs.Keys.{place_in}
use Rattle.integration.specs.declared.Interval.{Interval}
use Rattle.integration.specs.Passes.{outside}
use Rattle.integration.proofs.Walks.{from_end, pass-from, ending, over, passed, stopped}
use Rattle.integration.proofs.pass.Invariants.{places}
use Rattle.integration.proofs.pass.Goals.{then-outside+else-key-ids, else-outside}
use Rattle.integration.proofs.pass.Goals as goal

-- the lists of the neighbours are long enough, so that a pass looks as far as there are characters
looked : (ids previous next : List ℕ) (v : Interval) {last : ℕ} → length ids ≤ length previous → length ids ≤ length next
    → last ≡ min (length ids) (v.lower - 1)
    → last ≡ ending ids (places ids previous) (places ids next) v
looked ids previous next v p q e = omega (arith, e, length-map previous (place_in ids), length-map next (place_in ids))

-- what is asked of the places of two keys is asked of those at the index
asked : (ids previous next : List ℕ) (v : Interval) (i : ℕ) {b : Bool} → i < length previous → i < length next
    → b ≡ outside (place_in ids (get_or previous i 0)) (place_in ids (get_or next i 0)) v
    → outside (get_or (places ids previous) i 0) (get_or (places ids next) i 0) v ≡ b
asked ids previous next v i p q e =
    rw (map_get_d (place_in ids) previous i 0 0 p, map_get_d (place_in ids) next i 0 0 q) (sym e)

pub loop-i-init : goal.loop-i-init
loop-i-init c =
    let a = c.args in (
      looked a.ids.now a.previous.now a.next.now a.interval c.requires.ids_in_bounds c.requires.ids_in_bounds_2 c.min-last.ensures,
      omega (arith, c.min-last.ensures),
      omega arith,
      sym (pass-from a.ids.now (places a.ids.now a.previous.now) (places a.ids.now a.next.now) a.key a.interval),
    )

pub outside-requires : goal.outside-requires
outside-requires c =
    record {
      tabled = c.requires.tabled;
      end_value = c.requires.end_value;
      at_in_bounds = omega arith;
      at_in_bounds_2 = omega arith;
    }

pub returns-then-key-ids : goal.returns-then-key-ids
returns-then-key-ids c =
    let a = c.args in
    let l = c.loop-i in
    let ids = a.ids.now in
    let here : l.i < c.min-last.result = omega arith in
    let told = sym c.if-outside.true ∙ c.outside.ensures in
    stopped ids (places ids a.previous.now) (places ids a.next.now) a.key a.interval l.upper l.i _ l.invariant.0 l.invariant.2 here
    (asked ids a.previous.now a.next.now a.interval l.i (omega arith) (omega arith) told)
    c.if-key-ids.true
    ∙ l.invariant.3

pub loop-i-preserved : goal.loop-i-preserved
loop-i-preserved c =
    let a = c.args in
    let l = c.loop-i in
    let ids = a.ids.now in
    let above = places ids a.previous.now in
    let below = places ids a.next.now in
    let here : l.i < c.min-last.result = omega arith in
    let told = asked ids a.previous.now a.next.now a.interval l.i (omega arith) (omega arith) c.outside.ensures in
    elim c.if-outside.branch [
      | then-outside+else-key-ids w ↦ (
        l.invariant.0,
        l.invariant.1,
        omega arith,
        rw w.upper-is (passed ids above below a.key a.interval l.upper l.i _ l.invariant.0 l.invariant.2 here
            (told ∙ w.if-outside.true) w.if-key-ids.false ∙ l.invariant.3),
      )
      | else-outside w ↦ (
        l.invariant.0,
        l.invariant.1,
        omega arith,
        rw w.upper-is (over ids above below a.key a.interval l.upper l.i _ l.invariant.0 l.invariant.2 here
            (told ∙ w.if-outside.false) ∙ l.invariant.3),
      )
    ]

pub returns : goal.returns
returns c =
    let a = c.args in
    let l = c.loop-i in
    let ids = a.ids.now in
    let done = subst (λ (n : ℕ). n ≤ l.i) l.invariant.0 (omega arith) in
    sym (from_end ids (places ids a.previous.now) (places ids a.next.now) a.key a.interval l.upper l.i done) ∙ l.invariant.3
