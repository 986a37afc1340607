-- `lines::read_ending` meets its contract, by the invariant of `proofs/Reading.antt` on the first line.
use mathlib.Core.Path.{◌≡◌, refl, sym, ap, ◌∙◌}
use mathlib.Core.List.{List}
use Prim.Native.Nat.{ℕ, ◌+◌, ◌≤◌, ◌<◌}
use native.Mathlib.Omega.{arith}
use lib.ListN.{length, drop, get_or}
use borrow.Author.Tests.{ltb-true, ltb-false}
use borrow.Author.Rules.{rules}
use Rattle.decimal.specs.Answers.{field_of, digits_front, scan_of}
use Rattle.lines.specs.Lines.{before, first_line}
use Rattle.lines.specs.Fields.{tab}
use mathlib.Core.Bool.{false}
use Rattle.lines.specs.Answers.{goes_on_at}
use Rattle.lines.proofs.Runs.{run_ends, run_goes}
use Rattle.lines.proofs.Reading.{is-fault, begun, short, nothing_left, not_numeral, no_numeral, next-above, next-number, too_long}
use Rattle.lines.proofs.Reading.{all-judged}
use Rattle.lines.proofs.FrontLine.{line_le, refused_end, all_end, no-tab-here, tab-inside, tab-own, digits-within, digits-inside}
use Rattle.lines.proofs.read_ending.Goals.{After-scan-number, in-Err-Above, in-Ok}
use Rattle.lines.proofs.read_ending.Goals as goal

pub loop-i-init : goal.loop-i-init
loop-i-init c = (begun _ _ _ c.requires, omega arith)

pub returns-then-s-at : goal.returns-then-s-at
returns-then-s-at c =
    let l = c.loop-i in
    let s = c.args.s.now in
    let all = refused_end _ s c.unended.result c.unended.ensures.numbers_value c.unended.ensures.end_value
    (short l.invariant.0 c.loop-i-test.true (omega (arith, line_le s))) in
    record {
      numbers_value = all.0;
      end_value = all.1.0;
      end_in_bounds = all.1.1;
    }

pub returns-then-s-at-ne-TAB : goal.returns-then-s-at-ne-TAB
returns-then-s-at-ne-TAB c =
    let l = c.loop-i in
    let all = refused_end _ _ c.unended-then-s-at-ne-TAB.result c.unended-then-s-at-ne-TAB.ensures.numbers_value c.unended-then-s-at-ne-TAB.ensures.end_value
    (no-tab-here _ l.invariant.0 l.invariant.1 c.loop-i-test.true (omega arith) c.if-s-at-ne-TAB.true) in
    record {
      numbers_value = all.0;
      end_value = all.1.0;
      end_in_bounds = all.1.1;
    }

pub returns-then-s-at-2 : goal.returns-then-s-at-2
returns-then-s-at-2 c =
    let l = c.loop-i in
    let s = c.args.s.now in
    let test = c.loop-i-test.true in
    let tabbed = c.if-s-at-ne-TAB.false in
    let all = refused_end _ s c.unended-then-s-at-2.result c.unended-then-s-at-2.ensures.numbers_value c.unended-then-s-at-2.ensures.end_value
    (nothing_left l.invariant.0 test (tab-inside s l.invariant.0 l.invariant.1 test (omega arith) tabbed) (tab-own s l.invariant.0 l.invariant.1 test (omega arith) tabbed)
    (omega (arith, line_le s))) in
    record {
      numbers_value = all.0;
      end_value = all.1.0;
      end_in_bounds = all.1.1;
    }

-- what stands before the digits, where they end, and what they say
module _ (c : After-scan-number) where
  abbrev at : ℕ
  at = c.loop-i.at

  abbrev bytes : List ℕ
  bytes = c.args.s.now

  inside : at < length (first_line bytes)
  inside =
      let l = c.loop-i in
      tab-inside bytes l.invariant.0 l.invariant.1 c.loop-i-test.true (omega arith) c.if-s-at-ne-TAB.false

  own : get_or (first_line bytes) at 0 ≡ tab
  own =
      let l = c.loop-i in
      tab-own bytes l.invariant.0 l.invariant.1 c.loop-i-test.true (omega arith) c.if-s-at-ne-TAB.false

  same : digits_front (drop (at + 1) bytes) ≡ digits_front (drop (at + 1) (first_line bytes))
  same = digits-within (at + 1) bytes (omega (arith, inside))

  past : c.scan-number.result.next ≡ at + 1 + length (digits_front (drop (at + 1) (first_line bytes)))
  unfolding scan_of
  past = ap (λ x. x.next) c.scan-number.ensures ∙ ap (λ (f : List ℕ). at + 1 + length f) same

  low : c.scan-number.result.next ≤ length (first_line bytes)
  low = digits-inside bytes at inside past

  says : (limit : ℕ) → c.scan-number.result ≡ scan_of bytes (at + 1) limit → c.scan-number.result.field ≡ field_of (digits_front (drop (at + 1) (first_line bytes))) limit
  unfolding scan_of
  says limit e = ap (λ x. x.field) e ∙ ap (λ (f : List ℕ). field_of f limit) same

  -- the digits are all of the field
  cut : goes_on_at (first_line bytes) c.scan-number.result.next ≡ false
      → digits_front (drop (at + 1) (first_line bytes)) ≡ before tab (drop (at + 1) (first_line bytes))
  cut ended = sym (run_ends _ (at + 1) past ended)

pub returns-then-in_field : goal.returns-then-in_field
returns-then-in_field c =
    let all = refused_end _ _ c.unended-then-in_field.result c.unended-then-in_field.ensures.numbers_value c.unended-then-in_field.ensures.end_value
    (not_numeral c.loop-i.invariant.0 c.loop-i-test.true
    (inside (goal.at.returns-then-in_field c).After-scan-number) (own (goal.at.returns-then-in_field c).After-scan-number) (run_goes _ (at (goal.at.returns-then-in_field c).After-scan-number + 1) (past (goal.at.returns-then-in_field c).After-scan-number) (sym c.in_field.ensures ∙ c.if-in_field.true))) in
    record {
      numbers_value = all.0;
      end_value = all.1.0;
      end_in_bounds = all.1.1;
    }

pub returns-in-Err-Malformed : goal.returns-in-Err-Malformed
returns-in-Err-Malformed c =
    let all = refused_end _ _ c.unended-in-Err-Malformed.result c.unended-in-Err-Malformed.ensures.numbers_value c.unended-in-Err-Malformed.ensures.end_value
    (no_numeral c.loop-i.invariant.0 c.loop-i-test.true
    (inside (goal.at.returns-in-Err-Malformed c).After-scan-number) (own (goal.at.returns-in-Err-Malformed c).After-scan-number) (cut (goal.at.returns-in-Err-Malformed c).After-scan-number (sym c.in_field.ensures ∙ c.if-in_field.false)) (sym (says (goal.at.returns-in-Err-Malformed c).After-scan-number _ c.scan-number.ensures) ∙ is-fault c.in-Err-Malformed.is (search rules))) in
    record {
      numbers_value = all.0;
      end_value = all.1.0;
      end_in_bounds = all.1.1;
    }

pub loop-i-preserved : goal.loop-i-preserved
loop-i-preserved c =
    let l = c.loop-i in
    let test = c.loop-i-test.true in
    let digits = cut (goal.at.loop-i-preserved c).After-scan-number (sym c.in_field.ensures ∙ c.if-in_field.false) in
    let said = says (goal.at.loop-i-preserved c).After-scan-number _ c.scan-number.ensures in
    let whole = past (goal.at.loop-i-preserved c).After-scan-number ∙ ap (λ (f : List ℕ). l.at + 1 + length f) digits in (
      elim c.match-field.branch [
        | in-Err-Above w ↦
            rw (w.values-is, w.over-is)
            (next-above l.invariant.0 test (inside (goal.at.loop-i-preserved c).After-scan-number) (own (goal.at.loop-i-preserved c).After-scan-number) digits whole (sym said ∙ is-fault w.in-Err-Above.is (search rules)))
        | in-Ok w ↦
            rw (w.values-is, w.over-is)
            (next-number l.invariant.0 test (inside (goal.at.loop-i-preserved c).After-scan-number) (own (goal.at.loop-i-preserved c).After-scan-number) digits whole (sym said ∙ w.in-Ok.is))
      ],
      low (goal.at.loop-i-preserved c).After-scan-number,
    )

pub returns-then-in_line : goal.returns-then-in_line
returns-then-in_line c =
    let l = c.loop-i in
    let all = refused_end _ _ c.unended-then-in_line.result c.unended-then-in_line.ensures.numbers_value c.unended-then-in_line.ensures.end_value
    (too_long l.invariant.0 c.loop-i-test.false (ltb-true _ _ (sym c.in_line.ensures ∙ c.if-in_line.true))) in
    record {
      numbers_value = all.0;
      end_value = all.1.0;
      end_in_bounds = all.1.1;
    }

pub returns : goal.returns
returns c =
    let l = c.loop-i in
    let end = ltb-false _ _ (sym c.in_line.ensures ∙ c.if-in_line.false) in
    let all = all_end _ _ (record { numbers = c.unless_above-numbers.result; end = l.at }) l.values l.over c.unless_above-numbers.ensures refl
    (all-judged l.invariant.0 c.loop-i-test.false end) l.invariant.1 end in
    record {
      numbers_value = all.0;
      end_value = all.1.0;
      end_in_bounds = all.1.1;
    }

pub in_field-requires : goal.in_field-requires
in_field-requires c = low (goal.at.in_field-requires c).After-scan-number

pub in_line-requires : goal.in_line-requires
in_line-requires c = c.loop-i.invariant.1
