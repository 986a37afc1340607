-- `lines::in_field` meets its contract: past the end of the line there is no byte.
use Rattle.std.proofs.Common.{◌≡◌, ℕ, ◌<◌, ◌≤◌, List, false, not, eqb, get_or, length, sym, ◌∙◌, arith}
use borrow.Author.Tests.{ltb-true, ltb-false, lt-ltb, le-ltb}
use Rattle.lines.specs.Lines.{first_line}
use Rattle.lines.specs.Fields.{tab}
use Rattle.lines.specs.Answers.{goes_on_at}
use Rattle.lines.proofs.FrontLine.{line_le, same_byte}
use Rattle.lines.proofs.in_field.Goals as goal

told : (s : List ℕ) (at : ℕ) → at ≤ length (first_line s) → at < length (first_line s)
    → not (eqb (get_or s at 0) tab) ≡ goes_on_at (first_line s) at
unfolding goes_on_at
told s at h k = rw (lt-ltb at (length (first_line s)) k, same_byte s at h k)

ended : (s : List ℕ) (at : ℕ) → length (first_line s) ≤ at → false ≡ goes_on_at (first_line s) at
unfolding goes_on_at
ended s at h = rw (le-ltb at (length (first_line s)) h)

pub bounds-s-at : goal.bounds-s-at
bounds-s-at c = omega (arith, line_le c.args.s.now, ltb-true _ _ (sym c.in_line.ensures ∙ c.if-in_line.true))

pub returns-then-in_line : goal.returns-then-in_line
returns-then-in_line c = told _ _ c.requires (ltb-true _ _ (sym c.in_line.ensures ∙ c.if-in_line.true))

pub returns-else-in_line : goal.returns-else-in_line
returns-else-in_line c =
    c.if-in_line.false ∙ ended _ _ (ltb-false _ _ (sym c.in_line.ensures ∙ c.if-in_line.false))
