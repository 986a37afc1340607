-- `output::has_room` meets its contract: what is left from the offset on is compared with the count.
use Rattle.std.proofs.Common.{◌≡◌, ℕ, ◌-◌, ◌<◌, ◌≤◌, Bool, true, false, leb, refl, sym, ◌∙◌, arith}
use borrow.Author.Tests.{leb-true, leb-false, lt-leb}
use Rattle.output.specs.Output.{has_room}
use Rattle.output.proofs.Laws.{room, no_room}
use Rattle.output.proofs.has_room.Goals as goal

within : (size at count : ℕ) → at ≤ size → leb count (size - at) ≡ has_room size at count
within size at count h = go (leb count (size - at)) refl
  where
    go : (b : Bool) → leb count (size - at) ≡ b → b ≡ has_room size at count
    go true e = sym (room size at count (omega (arith, leb-true count (size - at) e)))
    go false e = sym (no_room size at count (omega (arith, leb-false count (size - at) e)))

beyond : (size at count : ℕ) → size < at → leb at size ≡ has_room size at count
beyond size at count h = lt-leb at size h ∙ sym (no_room size at count (omega arith))

pub returns-then-at-size : goal.returns-then-at-size
returns-then-at-size c = within _ _ _ c.if-at-size.true

pub returns-else-at-size : goal.returns-else-at-size
returns-else-at-size c = beyond c.args.size c.args.at c.args.count (omega arith)
