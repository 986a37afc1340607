-- A refusal is answered exactly when its condition is the first to hold.
use Rattle.std.proofs.Common.{Ok, Err}
use mathlib.Core.Path.{◌≡◌, refl, sym, ap, ◌∙◌}
use mathlib.Core.List.{List, [], ◌∷◌}
use mathlib.Core.Logic.{◌↔◌, ◌⊎◌, inl, inr}
use mathlib.Core.Bool.{Bool, true, false, not, true≢false, false≢true}
use mathlib.Core.Option.{some}
use Prim.Native.Nat.{ℕ, ◌≤◌, ◌<◌}
use native.Mathlib.Omega.{arith}
use lib.ListN.{length}
use Rattle.woot.specs.declared.Operation.{Operation}
use Rattle.answers.specs.declared.Refusal.{Refusal}
use Rattle.answers.specs.declared.Refusal.TheVariants.{Layout, Range, Output}
use Rattle.woot.specs.Writing.{Written}
use Rattle.answers.specs.Answers.{◌⇒◌, number}
use Rattle.woot.specs.Ranges.{in_range}
use Rattle.woot.specs.Writing.{written_as, written_number, written_length}
use Rattle.lists.proofs.Tests.{some-eq, no-some, side}
use Rattle.convergence.proofs.Refusals.{decided_exactly}
use Rattle.convergence.proofs.Replies.{positive}
use Rattle.convergence.proofs.Writing.{writing_refuses, own_first, too_short, has_room_lem}
use Rattle.codec.specs.Operations.{operation_line}
use Rattle.codec.specs.Calls.{laid_out, said_by, read_checks, read_as, read_operation, read_number, read_value, write_checks, written, written_out}
use Rattle.codec.specs.Theorems.{ReadRefuses, ReadNumbers, WriteRefuses, WriteNumbers}
use Rattle.codec.proofs.Judging.{read-layout, read-range, read-operation}
use Rattle.codec.proofs.Sizes.{operation_some}

-- ---- reading

read-never : (o : Operation) (r : Refusal) → Ok o ≡ Err r → ⊥
read-never o r e = let z : ◌≡◌ {A = ℕ} 0 1 = cc in omega arith

pub read_refuses : ReadRefuses
unfolding read_operation read_as
read_refuses s r =
    decided_exactly (λ a. a) (λ a. a) (λ a. refl) (read_checks (laid_out s) (said_by s)) (Ok (said_by s)) (Err r) (read-never (said_by s) r)

-- by the two tests
numbers_by : (o : Operation) (laid ranged : Bool) → in_range o ≡ ranged
    → ((read_number (read_as laid o) ≡ 1) ↔ (laid ≡ false))
    × ((read_number (read_as laid o) ≡ 2) ↔ ((laid ≡ true) × (ranged ≡ false)))
    × ((read_number (read_as laid o) ≡ 0) ↔ ((laid ≡ true) × (ranged ≡ true)))
    × ((p : Operation) → (read_value (read_as laid o) ≡ some p) ↔ ((laid ≡ true) × (ranged ≡ true) × (o ≡ p)))
unfolding read_number read_value
numbers_by o false ranged h =
    let a : read_as false o ≡ Err Layout = read-layout o in
    let n : read_number (read_as false o) ≡ 1 = ap read_number a in (
      (λ e. refl, λ e. n),
      (λ e. absurd (omega arith), λ w. absurd (false≢true w.0)),
      (λ e. absurd (omega arith), λ w. absurd (false≢true w.0)),
      λ p. (λ e. no-some (sym (ap read_value a) ∙ e), λ w. absurd (false≢true w.0)),
    )
numbers_by o true false h =
    let a : read_as true o ≡ Err Range = read-range o h in
    let n : read_number (read_as true o) ≡ 2 = ap read_number a in (
      (λ e. absurd (omega arith), λ e. absurd (true≢false e)),
      (λ e. (refl, refl), λ w. n),
      (λ e. absurd (omega arith), λ w. absurd (false≢true w.1)),
      λ p. (λ e. no-some (sym (ap read_value a) ∙ e), λ w. absurd (false≢true w.1)),
    )
numbers_by o true true h =
    let a : read_as true o ≡ Ok o = read-operation o h in
    let n : read_number (read_as true o) ≡ 0 = ap read_number a in (
      (λ e. absurd (omega arith), λ e. absurd (true≢false e)),
      (λ e. absurd (omega arith), λ w. absurd (true≢false w.1)),
      (λ e. (refl, refl), λ w. n),
      λ p. (λ e. (refl, refl, some-eq (sym (ap read_value a) ∙ e)), λ w. ap read_value a ∙ ap some w.2),
    )

pub read_numbers : ReadNumbers
unfolding read_operation
read_numbers s = numbers_by (said_by s) (laid_out s) (in_range (said_by s)) refl

-- ---- writing

pub write_refuses : WriteRefuses
unfolding written written_out
write_refuses o out r = let w = writing_refuses (write_checks o) (operation_line o) out r in (w.0, w.2)

-- a writer of some bytes with one condition of its own, that a test fails
module _ (q : Refusal) (other : number q ≡ 12 → ⊥) (bytes out : List ℕ) (long : 1 ≤ length bytes) where
  abbrev answer : Bool → Written
  answer a = written_as ((not a ⇒ Err q) ∷ []) bytes out

  pub by-test : (a : Bool)
      → ((written_number (answer a) ≡ number q) ↔ (a ≡ false))
      × ((written_number (answer a) ≡ 12) ↔ ((a ≡ true) × (length out < length bytes)))
      × ((written_number (answer a) ≡ 0) ↔ ((a ≡ true) × (length bytes ≤ length out)))
      × ((written_length (answer a) ≡ length bytes) ↔ ((a ≡ true) × (length bytes ≤ length out)))
  unfolding written_number written_length
  by-test false =
      let e : answer false ≡ Err q = (own_first ((true ⇒ Err q) ∷ []) (Err q) bytes out refl).0 in
      let n : written_number (answer false) ≡ number q = ap written_number e in
      let l : written_length (answer false) ≡ 0 = ap written_length e in (
        (λ h. refl, λ h. n),
        (λ h. absurd (other (sym n ∙ h)), λ w. absurd (false≢true w.0)),
        (λ h. absurd (positive q (sym h ∙ n)), λ w. absurd (false≢true w.0)),
        (λ h. absurd (omega arith), λ w. absurd (false≢true w.0)),
      )
  by-test true = go (side (length bytes) (length out))
    where
      go : (length bytes ≤ length out) ⊎ (length out < length bytes)
          → ((written_number (answer true) ≡ number q) ↔ (true ≡ false))
          × ((written_number (answer true) ≡ 12) ↔ ((true ≡ true) × (length out < length bytes)))
          × ((written_number (answer true) ≡ 0) ↔ ((true ≡ true) × (length bytes ≤ length out)))
          × ((written_length (answer true) ≡ length bytes) ↔ ((true ≡ true) × (length bytes ≤ length out)))
      go (inr short) =
          let e : answer true ≡ Err Output = (too_short ((false ⇒ Err q) ∷ []) bytes out refl short).0 in
          let n : written_number (answer true) ≡ 12 = ap written_number e in
          let l : written_length (answer true) ≡ 0 = ap written_length e in (
            (λ h. absurd (other (sym h ∙ n)), λ h. absurd (true≢false h)),
            (λ h. (refl, short), λ w. n),
            (λ h. absurd (omega arith), λ w. absurd (omega (arith, w.1))),
            (λ h. absurd (omega arith), λ w. absurd (omega (arith, w.1))),
          )
      go (inl room) =
          let e : answer true ≡ Ok (length bytes) = (has_room_lem ((false ⇒ Err q) ∷ []) bytes out refl room).0 in
          let n : written_number (answer true) ≡ 0 = ap written_number e in (
            (λ h. absurd (positive q (sym n ∙ h)), λ h. absurd (true≢false h)),
            (λ h. absurd (omega arith), λ w. absurd (omega (arith, w.1))),
            (λ h. (refl, room), λ w. n),
            (λ h. (refl, room), λ w. ap written_length e),
          )

pub write_numbers : WriteNumbers
unfolding written write_checks
write_numbers o out = by-test Range (λ e. omega arith) (operation_line o) out (operation_some o) (in_range o)
