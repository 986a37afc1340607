-- `lines::read_numbers` meets its contract, by the invariant of `proofs/Reading.antt`.
use mathlib.Core.Path.{◌≡◌, sym, ap, ◌∙◌}
use mathlib.Core.List.{List}
use Rattle.decimal.specs.declared.Scanned.{Scanned}
use Prim.Native.Nat.{ℕ, ◌+◌}
use native.Mathlib.Omega.{arith}
use lib.ListN.{length, drop}
use borrow.Author.Rules.{rules}
use Rattle.decimal.specs.Answers.{field_of, digits_front, scan_of}
use Rattle.lines.specs.Lines.{before}
use Rattle.lines.specs.Fields.{tab}
use Rattle.lines.proofs.Runs.{run_ends, run_goes}
use Rattle.lines.proofs.Reading.{is-fault, begun, short, no-tab, nothing_left, not_numeral, no_numeral, next-above, next-number, too_long}
use Rattle.lines.proofs.Reading.{all-judged}
use Rattle.lines.proofs.read_numbers.Goals.{Else-goes_on, in-Err-Above, in-Ok}
use Rattle.lines.proofs.read_numbers.Goals as goal

pub loop-i-init : goal.loop-i-init
loop-i-init c = begun _ _ _ c.requires

pub returns-then-line-at : goal.returns-then-line-at
returns-then-line-at c = short c.loop-i.invariant c.loop-i-test.true c.if-line-at.true

pub returns-then-line-at-ne-TAB : goal.returns-then-line-at-ne-TAB
returns-then-line-at-ne-TAB c =
    no-tab c.loop-i.invariant c.loop-i-test.true
    c.if-line-at.false c.if-line-at-ne-TAB.true

pub returns-then-line-at-2 : goal.returns-then-line-at-2
returns-then-line-at-2 c =
    nothing_left c.loop-i.invariant c.loop-i-test.true
    c.if-line-at.false c.if-line-at-ne-TAB.false (omega arith)

-- where the digits end, and what they say
past : (line : List ℕ) (from limit : ℕ) (r : Scanned) → r ≡ scan_of line from limit
    → r.next ≡ from + length (digits_front (drop from line))
unfolding scan_of
past line from limit r e = ap (λ (x : Scanned). x.next) e

says : (line : List ℕ) (from limit : ℕ) (r : Scanned) → r ≡ scan_of line from limit
    → r.field ≡ field_of (digits_front (drop from line)) limit
unfolding scan_of
says line from limit r e = ap (λ (x : Scanned). x.field) e

pub returns-then-goes_on : goal.returns-then-goes_on
returns-then-goes_on c =
    not_numeral c.loop-i.invariant c.loop-i-test.true
    c.if-line-at.false c.if-line-at-ne-TAB.false
    (run_goes _ (c.loop-i.at + 1) (past _ _ _ _ c.scan-number.ensures) (sym c.goes_on.ensures ∙ c.if-goes_on.true))

-- the digits are all of the field
cut : (c : Else-goes_on)
    → digits_front (drop (c.loop-i.at + 1) c.args.line.now) ≡ before tab (drop (c.loop-i.at + 1) c.args.line.now)
cut c = sym (run_ends _ (c.loop-i.at + 1) (past _ _ _ _ c.scan-number.ensures) (sym c.goes_on.ensures ∙ c.if-goes_on.false))

pub returns-in-Err-Malformed : goal.returns-in-Err-Malformed
returns-in-Err-Malformed c =
    no_numeral c.loop-i.invariant c.loop-i-test.true
    c.if-line-at.false c.if-line-at-ne-TAB.false (cut (goal.at.returns-in-Err-Malformed c).Else-goes_on)
    (sym (says _ _ _ _ c.scan-number.ensures) ∙ is-fault c.in-Err-Malformed.is (search rules))

pub loop-i-preserved : goal.loop-i-preserved
loop-i-preserved c =
    let l = c.loop-i in
    let test = c.loop-i-test.true in
    let some = c.if-line-at.false in
    let tabbed = c.if-line-at-ne-TAB.false in
    let whole = past _ _ _ _ c.scan-number.ensures ∙ ap (λ (f : List ℕ). l.at + 1 + length f) (cut (goal.at.loop-i-preserved c).Else-goes_on) in
    let digits = cut (goal.at.loop-i-preserved c).Else-goes_on in
    let said = says _ _ _ _ c.scan-number.ensures in
    elim c.match-field.branch [
      | in-Err-Above w ↦ rw (w.values-is, w.above-is) (next-above l.invariant test some tabbed digits whole (sym said ∙ is-fault w.in-Err-Above.is (search rules)))
      | in-Ok w ↦ rw (w.values-is, w.above-is) (next-number l.invariant test some tabbed digits whole (sym said ∙ w.in-Ok.is))
    ]

pub returns-then-at-line : goal.returns-then-at-line
returns-then-at-line c =
    too_long c.loop-i.invariant c.loop-i-test.false c.if-at-line.true

pub returns : goal.returns
returns c = c.unless_above.ensures ∙ all-judged c.loop-i.invariant c.loop-i-test.false c.if-at-line.false
