-- `lines::read_front` meets its contract: by the first field of the line, and by the numbers after it.
use mathlib.Core.Path.{refl, sym, ap, ◌∙◌}
use mathlib.Core.List.{List, []}
use Prim.Native.Nat.{ℕ, ◌≤◌, zero-le}
use native.Mathlib.Omega.{arith}
use lib.ListN.{length, take, length-take}
use lib.Seq.{length-take-le}
use Rattle.lines.specs.Lines.{first_line}
use Rattle.lines.specs.Fields.{fields}
use Rattle.lines.specs.Answers.{slots, numbers_after}
use Rattle.lines.proofs.Fronts.{part_from, part-le, front-le, front-other, front-short, front_read_lem, front-next}
use Rattle.lines.proofs.read_front.Goals.{Else-not-same_bytes}
use Rattle.lines.proofs.read_front.Goals as goal

pub slice_bounds-same_bytes-end : goal.slice_bounds-same_bytes-end
slice_bounds-same_bytes-end c = sym (length-take-le _ _ (front-le [] [] c.args.s.now _ c.first_field-end.ensures))

-- the head word ends in the line
end-le : (c : Else-not-same_bytes) → c.first_field-end.result ≤ length c.args.s.now
end-le c = front-le [] [] c.args.s.now _ c.first_field-end.ensures

pub returns-then-not-same_bytes : goal.returns-then-not-same_bytes
returns-then-not-same_bytes c =
    let a = c.args in
    let other = front-other a.head.now (take slots a.limits.now) a.s.now _ c.first_field-end.ensures (sym c.same_bytes.ensures ∙ c.if-not-same_bytes.true) in
    record {
      numbers_value = other;
      next_value = (λ h. absurd (h refl));
      next_in_bounds = zero-le;
    }

pub read_ending-read-requires : goal.read_ending-read-requires
read_ending-read-requires c = rw c.leading.ensures (simp length-take (omega arith))

pub returns-then-s-feed : goal.returns-then-s-feed
returns-then-s-feed c =
    let a = c.args in
    let r = c.read_ending-read in
    let h = sym c.same_bytes.ensures ∙ c.if-not-same_bytes.false in
    let short = front-short a.head.now (take slots a.limits.now) a.s.now _ c.first_field-end.ensures h r.result
    (r.ensures.numbers_value ∙ ap (λ (ls : List ℕ). numbers_after ls (fields (first_line (part_from a.s.now c.first_field-end.result)))) c.leading.ensures) r.ensures.end_value c.if-s-feed.true in
    record {
      numbers_value = short;
      next_value = (λ k. absurd (k refl));
      next_in_bounds = zero-le;
    }

pub returns : goal.returns
returns c =
    let a = c.args in
    let r = c.read_ending-read in
    let h = sym c.same_bytes.ensures ∙ c.if-not-same_bytes.false in
    let n = r.ensures.numbers_value ∙ ap (λ (ls : List ℕ). numbers_after ls (fields (first_line (part_from a.s.now c.first_field-end.result)))) c.leading.ensures in
    record {
      numbers_value = front_read_lem a.head.now (take slots a.limits.now) a.s.now _ c.first_field-end.ensures h r.result n r.ensures.end_value (omega arith);
      next_value = (λ k. omega (arith, front-next a.head.now (take slots a.limits.now) a.s.now _ c.first_field-end.ensures h r.result n r.ensures.end_value k));
      next_in_bounds = omega arith;
    }

pub slice_bounds-read_ending-count : goal.slice_bounds-read_ending-count
slice_bounds-read_ending-count c = end-le (goal.at.slice_bounds-read_ending-count c).Else-not-same_bytes

pub slice_bounds-read_ending-start : goal.slice_bounds-read_ending-start
slice_bounds-read_ending-start c = omega (arith, end-le (goal.at.slice_bounds-read_ending-start c).Else-not-same_bytes)

pub overflow_add-feed : goal.overflow_add-feed
overflow_add-feed c = omega (arith, end-le (goal.at.overflow_add-feed c).Else-not-same_bytes, c.read_ending-read.ensures.end_in_bounds, part-le c.args.s.now c.first_field-end.result, c.well_formed)
