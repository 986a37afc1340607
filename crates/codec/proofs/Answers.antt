-- What writing answers, by its conditions.
use Rattle.std.proofs.Common.{Ok, Err, Some, None}
use mathlib.Core.Path.{◌≡◌, refl, sym, ap, ◌∙◌}
use mathlib.Core.List.{List, [], ◌++◌}
use mathlib.Core.Logic.{◌⊎◌, inl, inr}
use mathlib.Core.Bool.{true, false, cond}
use Prim.Native.Nat.{ℕ, ◌+◌, ◌≤◌, ◌<◌}
use native.Mathlib.Omega.{arith}
use lib.Dec.{eqb}
use lib.ListN.{length, length-append}
use borrow.Author.Tests.{ne_eqb}
use Rattle.output.specs.Output.{placed, past}
use Rattle.output.proofs.Laws.{placed-short, past_room, past-short, length-placed}
use Rattle.woot.specs.declared.Operation.{Operation}
use Rattle.answers.specs.declared.Refusal.TheVariants.{Range, Output}
use Rattle.woot.specs.Writing.{Written}
use Rattle.woot.specs.Ranges.{in_range}
use Rattle.woot.specs.Writing.{written_as, output_after}
use Rattle.lists.proofs.Tests.{side}
use Rattle.convergence.proofs.Writing.{own_first, own-none, too_short, has_room_lem, ends-short}
use Rattle.lines.specs.Room.{Room}
use Rattle.lines.specs.Room.{room_for}
use Rattle.lines.proofs.Rooms.{until_tells, short_tells, Run, run_none, run_on}
use Rattle.lines.proofs.Sequences.{room-on, room-short as front-lacks}
use Rattle.codec.specs.Operations.{operation_line}
use Rattle.codec.specs.Calls.{write_checks, written, written_out}

-- ---- bytes at the front of a slice, all or none

module _ (bytes out : List ℕ) where
  -- bytes that have no room are not put, and that is refusal 12
  pub put-after : {after : List ℕ} → after ≡ placed out 0 bytes → after ≡ output_after [] bytes out
  put-after p = p ∙ go (side (length bytes) (length out))
    where
      go : (length bytes ≤ length out) ⊎ (length out < length bytes) → placed out 0 bytes ≡ output_after [] bytes out
      go (inr h) = placed-short out 0 bytes (omega arith) ∙ (ends-short bytes out h).1
      go (inl h) = sym (has_room_lem [] bytes out refl h).1

  -- an offset that did not move tells that there was no room
  pub offset_fitted : 1 ≤ length bytes → {end : ℕ} → end ≡ past out 0 bytes
      → cond (eqb end 0) (Err Output) (Ok end) ≡ written_as [] bytes out
  offset_fitted some {end} e = go (side (length bytes) (length out))
    where
      go : (length bytes ≤ length out) ⊎ (length out < length bytes) → cond (eqb end 0) (Err Output) (Ok end) ≡ written_as [] bytes out
      go (inr h) = rw (e, past-short out 0 bytes (omega arith)) (ends-short bytes out h).0
      go (inl h) =
          let long : end ≡ length bytes = e ∙ past_room out 0 bytes (omega arith) ∙ omega arith in
          rw (ne_eqb end 0 (λ z. omega arith)) (ap Ok long ∙ sym (has_room_lem [] bytes out refl h).0)

  -- bytes that are measured: what has no room is refused, and leaves the slice as it was
  module _ {x : Room} (e : x ≡ room_for (length out) 0 bytes) where
    pub room-short : x ≡ None → (Err Output ≡ written_as [] bytes out) × (out ≡ output_after [] bytes out)
    room-short q = ends-short bytes out (omega (arith, short_tells (length out) 0 bytes e q))

    pub room_fits : {n : ℕ} → x ≡ Some n → length bytes ≤ length out
    room_fits q = omega (arith, (until_tells (length out) 0 bytes e q).1)

    pub room_fitted : {n : ℕ} → x ≡ Some n → Ok n ≡ written_as [] bytes out
    room_fitted q = ap Ok (omega (arith, (until_tells (length out) 0 bytes e q).0)) ∙ sym (has_room_lem [] bytes out refl (room_fits q)).0

  -- a length that is answered is within the slice
  pub fitted_within : {w : Written} → w ≡ written_as [] bytes out → {n : ℕ} → w ≡ Ok n
      → {after : List ℕ} → after ≡ output_after [] bytes out → n ≤ length after
  fitted_within {w} e {n} q {after} o = go (side (length bytes) (length out))
    where
      go : (length bytes ≤ length out) ⊎ (length out < length bytes) → n ≤ length after
      go (inr h) =
          let r : Ok n ≡ Err Output = sym q ∙ e ∙ (too_short [] bytes out refl h).0 in
          let z : ◌≡◌ {A = ℕ} 0 1 = cc in
          absurd (omega arith)
      go (inl h) =
          let r : Ok n ≡ Ok (length bytes) = sym q ∙ e ∙ (has_room_lem [] bytes out refl h).0 in
          let long : n ≡ length bytes = cc in
          let kept : length after ≡ length out = ap length (o ∙ (has_room_lem [] bytes out refl h).1) ∙ length-placed out 0 bytes in
          omega arith

-- ---- a front and what follows it, measured and then put

module _ (a b bytes out : List ℕ) (all : a ++ b ≡ bytes) {x : Room} (e : x ≡ room_for (length out) 0 a) where
  pub front-short : x ≡ None → (Err Output ≡ written_as [] bytes out) × (out ≡ output_after [] bytes out)
  front-short q = rw (← all) (room-short (a ++ b) out (front-lacks (length out) 0 a b e q) refl)

  module _ {start : ℕ} (q : x ≡ Some start) where
    pub front_fits : start ≤ length out
    front_fits = let t = until_tells (length out) 0 a e q in omega (arith, t.0, t.1)

    module _ {y : Room} (f : y ≡ room_for (length out) start b) where
      both : y ≡ room_for (length out) 0 (a ++ b)
      both = f ∙ room-on (length out) 0 a b e q

      pub body-short : y ≡ None → (Err Output ≡ written_as [] bytes out) × (out ≡ output_after [] bytes out)
      body-short p = rw (← all) (room-short (a ++ b) out both p)

      module _ {n : ℕ} (p : y ≡ Some n) {out₁ : List ℕ} {at : ℕ} (front : (at ≡ past out 0 a) × (out₁ ≡ placed out 0 a)) where
        fits : 0 + length (a ++ b) ≤ length out
        fits = omega (arith, room_fits (a ++ b) out both p)

        first : Run out 0 a out₁ at
        first = run_on (run_none out 0 (omega arith)) a (omega (arith, fits, length-append a b)) front.0 front.1

        pub body-room : at + length b ≤ length out₁
        body-room = omega (arith, first.offset, fits, length-append a b, ap length front.1, length-placed out 0 a)

        pub body-put : {out₂ : List ℕ} → out₂ ≡ placed out₁ at b → (Ok n ≡ written_as [] bytes out) × (out₂ ≡ output_after [] bytes out)
        body-put r =
            let second : Run out 0 (a ++ b) _ (past out₁ at b) = run_on first b fits refl r in
            rw (← all) (room_fitted (a ++ b) out both p, put-after (a ++ b) out second.bytes)

module _ (o : Operation) (out : List ℕ) where
  pub not_in_range : in_range o ≡ false → (Err Range ≡ written o out) × (out ≡ written_out o out)
  unfolding written written_out write_checks
  not_in_range e =
      let w = own_first (write_checks o) (Err Range) (operation_line o) out (rw e refl) in
      (sym w.0, sym w.1)

  -- an operation in range goes by the room alone
  pub in_its_range : in_range o ≡ true
      → (written_as [] (operation_line o) out ≡ written o out) × (output_after [] (operation_line o) out ≡ written_out o out)
  unfolding written written_out write_checks
  in_its_range e = own-none (write_checks o) (operation_line o) out (rw e refl)
