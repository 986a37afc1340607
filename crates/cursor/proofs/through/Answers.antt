-- `cursor::through` meets its contract: a key that was found at an index has so many before it.
use Prim.Native.Nat.{min, ◌+◌}
use mathlib.Core.Path.{◌≡◌, sym, ◌∙◌}
use lib.ListN.{length, take, length-take}
use lib.Seq.{length-take-le}
use Rattle.index.specs.Keys.{place_in}
use Rattle.cursor.proofs.Slots.{through-begin, through-found, through-all}
use borrow.Author.Rules.{rules}
use native.Mathlib.Omega.{arith}
use Rattle.cursor.proofs.through.Goals.{In-Some, Start}
use Rattle.cursor.proofs.through.Goals as goal

-- the keys in use are n
many : (s : Start) → length (take s.args.n s.args.ids.now) ≡ s.args.n
many s = length-take-le s.args.n s.args.ids.now s.requires

-- what was found, at its place
placed : (c : In-Some)
    → let a = c.args in
    c.in-Some.i + 1 ≡ min (place_in (take a.n a.ids.now) a.key) a.n
placed c =
    through-found _ _ (length-take-le c.args.n c.args.ids.now c.requires) c.if-key-eq0.false _ (sym c.find.ensures ∙ c.in-Some.is)

pub returns-then-key-eq0 : goal.returns-then-key-eq0
returns-then-key-eq0 c = through-begin _ _ (many (goal.at.returns-then-key-eq0 c).Start) c.if-key-eq0.true

pub slice_bounds-held-end : goal.slice_bounds-held-end
slice_bounds-held-end c = simp length-take (omega arith)

pub overflow_add-result : goal.overflow_add-result
overflow_add-result c = omega (arith, placed (goal.at.overflow_add-result c).In-Some, c.ranges)

pub returns-in-Some : goal.returns-in-Some
returns-in-Some c = placed (goal.at.returns-in-Some c).In-Some

pub returns-in-None : goal.returns-in-None
returns-in-None c =
    through-all _ _ (many (goal.at.returns-in-None c).Start) c.if-key-eq0.false (sym c.find.ensures ∙ c.in-None.is)
