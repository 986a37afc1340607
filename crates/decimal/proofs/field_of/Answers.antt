-- `decimal::field_of` meets its contract, way by way.
use mathlib.Core.Path.{◌≡◌, refl, sym, ◌∙◌}
use mathlib.Core.Bool.{Bool, true, false, ◌&&◌}
use Prim.Native.Nat.{ℕ, ◌<◌, ◌≤◌}
use native.Mathlib.Omega.{arith}
use lib.Dec.{eqb, ltb}
use borrow.Author.Tests.{eq-eqb, ne_eqb, lt-ltb, le-ltb}
use Rattle.std.specs.Prelude.{Ok, Err}
use Rattle.decimal.specs.declared.Fault.TheVariants.{Above, Malformed}
use Rattle.decimal.specs.Answers.{field_by}
use Rattle.decimal.proofs.field_of.Goals.{then-count-eq0-via-then-count-eq0, then-count-eq0-via-else-count-eq0+then-zero_in_front}
use Rattle.decimal.proofs.field_of.Goals.{then-above-via-then-above, then-above-via-else-above+then-limit-value}
use Rattle.decimal.proofs.field_of.Goals as goal

module _ (first count value : ℕ) (above : Bool) (limit : ℕ) where
  none : count ≡ 0 → Err Malformed ≡ field_by first count value above limit
  unfolding field_by
  none e = rw (eq-eqb count 0 e) refl

  module _ (n : count ≡ 0 → ⊥) where
    zero-first : eqb first 48 && ltb 1 count ≡ true → Err Malformed ≡ field_by first count value above limit
    unfolding field_by
    zero-first z = rw (ne_eqb count 0 n, z) refl

    module _ (z : eqb first 48 && ltb 1 count ≡ false) where
      told-above : above ≡ true → Err Above ≡ field_by first count value above limit
      unfolding field_by
      told-above e = rw (ne_eqb count 0 n, z, e) refl

      is-above : above ≡ false → limit < value → Err Above ≡ field_by first count value above limit
      unfolding field_by
      is-above e h = rw (ne_eqb count 0 n, z, e, lt-ltb limit value h) refl

      within : above ≡ false → value ≤ limit → Ok value ≡ field_by first count value above limit
      unfolding field_by
      within e h = rw (ne_eqb count 0 n, z, e, le-ltb limit value h) refl

pub returns-then-count-eq0 : goal.returns-then-count-eq0
returns-then-count-eq0 c =
    elim c.then-count-eq0.branch [
      | then-count-eq0-via-then-count-eq0 w ↦ none _ _ _ _ _ w.if-count-eq0.true
      | then-count-eq0-via-else-count-eq0+then-zero_in_front w ↦
          zero-first _ _ _ _ _ w.if-count-eq0.false (sym w.zero_in_front.ensures ∙ w.if-zero_in_front.true)
    ]

pub returns-then-above : goal.returns-then-above
returns-then-above c =
    let some = c.if-count-eq0.false in
    let first = sym c.zero_in_front.ensures ∙ c.if-zero_in_front.false in
    elim c.then-above.branch [
      | then-above-via-then-above w ↦ told-above _ _ _ _ _ some first w.if-above.true
      | then-above-via-else-above+then-limit-value w ↦ is-above _ _ _ _ _ some first w.if-above.false w.if-limit-value.true
    ]

pub returns : goal.returns
returns c =
    within _ _ _ _ _ c.if-count-eq0.false
    (sym c.zero_in_front.ensures ∙ c.if-zero_in_front.false) c.if-above.false (omega arith)
