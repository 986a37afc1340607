-- How long the lines are: a number takes a tab and its digits, and what it may be at most says how many those are.
use mathlib.Core.Path.{◌≡◌, refl}
use mathlib.Core.Bool.{Bool, true, false}
use mathlib.Core.List.{List, [], ◌∷◌, ◌++◌}
use Prim.Native.Nat.{ℕ, ◌+◌, ◌*◌, ◌^◌, ◌≤◌, ◌<◌}
use native.Mathlib.Omega.{arith}
use lib.ListN.{length, length-append}
use Rattle.woot.specs.declared.Character.{Character}
use Rattle.answers.specs.declared.Answer.{Answer}
use Rattle.answers.specs.declared.Answer.TheVariants.{Done, Deferred, Duplicate, Refused}
use Rattle.answers.specs.Answers.{Reply, reply, number}
use Rattle.lists.specs.Lists.{every}
use Rattle.woot.specs.Operations.{is_visible, origin}
use Rattle.woot.specs.Ranges.{character_in_range}
use Rattle.woot.specs.Memory.{meaning, counted}
use Rattle.lists.proofs.Tests.{and_left_lem, and_right}
use Rattle.convergence.proofs.Ranges.{origin_ranged}
use Rattle.convergence.proofs.Forms.{formed}
use Rattle.convergence.proofs.Replies.{number-few}
use Rattle.decimal.specs.Numeral.{digits}
use Rattle.decimal.proofs.Laws.{width-by_power, width-le}
use Rattle.lines.specs.Fields.{tab, columns}
use Rattle.lines.proofs.Sizes.{line_length}
use Rattle.codec.proofs.Bounds.{insert-bounds}
use Rattle.transcript.specs.Lines.{spelled, reply_line, report_line, visible_points, text_head, text_numbers, text_line}
use Rattle.replica.proofs.Runs.{form_meant}
use Rattle.transcript.specs.Theorems.{ReportFits, TextFits}

column-length : (n : ℕ) (ns : List ℕ) → length (columns (n ∷ ns)) ≡ length (digits n) + length (columns ns) + 1
column-length n ns = omega (arith, length-append (digits n) (columns ns))

-- ---- the report

reply-length : (n : ℕ) (r : Reply)
    → length (reply_line n r) ≡ length (digits n) + length (spelled r.word) + length (digits r.integrated) + length (digits r.discarded) + length (digits r.refusal) + 5
unfolding reply_line
reply-length n r =
    omega (
      arith,
      line_length (digits n ++ tab ∷ spelled r.word) (r.integrated ∷ r.discarded ∷ r.refusal ∷ []),
      length-append (digits n) (tab ∷ spelled r.word),
      column-length r.integrated (r.discarded ∷ r.refusal ∷ []),
      column-length r.discarded (r.refusal ∷ []),
      column-length r.refusal [],
    )

-- nothing is counted but where operations were carried out, and a refusal has its number
pub report_fits : ReportFits
unfolding report_line reply spelled
report_fits n a h p q = go a p q
  where
    zero-few : length (digits 0) ≤ 1
    zero-few = (width-by_power 0 1 (omega arith)).1 (omega arith)

    go : (b : Answer) → (reply b).integrated < 2 ^ 64 → (reply b).discarded < 2 ^ 64 → length (report_line n b) ≤ 70
    go (Done i d) k l = omega (arith, reply-length n (reply (Done i d)), width-le n h, width-le i k, width-le d l, zero-few)
    go Deferred k l = omega (arith, reply-length n (reply Deferred), width-le n h, zero-few)
    go Duplicate k l = omega (arith, reply-length n (reply Duplicate), width-le n h, zero-few)
    go (Refused r) k l =
        omega (arith, reply-length n (reply (Refused r)), width-le n h, zero-few, (width-by_power (number r) 2 (omega arith)).1 (omega (arith, number-few r)))

-- ---- the text

point-few : (c : Character) → character_in_range c ≡ true → length (digits c.code_point) ≤ 7
unfolding origin
point-few c e = (width-by_power c.code_point 7 (omega arith)).1 (omega (arith, (insert-bounds (origin c) (origin_ranged c e)).code-bound))

pub points-le : (cs : List Character) → length (visible_points cs) ≤ length cs
unfolding visible_points
points-le [] = omega arith
points-le (x ∷ cs) = go (is_visible x) refl (points-le cs)
  where
    go : (b : Bool) → is_visible x ≡ b → length (visible_points cs) ≤ length cs → length (visible_points (x ∷ cs)) ≤ length (x ∷ cs)
    go true e rest = rw e (omega arith)
    go false e rest = rw e (omega arith)

points-fit : (cs : List Character) → every character_in_range cs ≡ true → length (columns (visible_points cs)) ≤ 8 * length cs
unfolding visible_points
points-fit [] e = omega arith
points-fit (c ∷ cs) e = go (is_visible c) refl (points-fit cs (and_right (character_in_range c) (every character_in_range cs) e))
  where
    few : length (digits c.code_point) ≤ 7
    few = point-few c (and_left_lem (character_in_range c) (every character_in_range cs) e)

    go : (b : Bool) → is_visible c ≡ b → length (columns (visible_points cs)) ≤ 8 * length cs → length (columns (visible_points (c ∷ cs))) ≤ 8 * length (c ∷ cs)
    go true v rest = rw v (omega (arith, few, column-length c.code_point (visible_points cs)))
    go false v rest = rw v (omega arith)

pub text-fits : TextFits
unfolding text_line text_numbers
text-fits r e =
    let cs = (meaning r).characters in
    let f = (formed (meaning r) (form_meant r e)).sound in
    omega (
      arith,
      f.room,
      line_length text_head (text_numbers cs),
      column-length (length (visible_points cs)) (visible_points cs),
      points-le cs,
      points-fit cs f.ranges,
      (width-by_power (length (visible_points cs)) 4 (omega arith)).1 (omega (arith, points-le cs, f.room)),
    )
