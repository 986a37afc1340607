-- `waiting::shares_kept` meets its contract. The loop's invariant: the sites before this one are within their shares.
use Prim.Native.Nat.{◌-◌, ◌<◌}
use mathlib.Core.Path.{◌≡◌}
use mathlib.Core.Bool.{true}
use Rattle.lists.specs.Lists.{every}
use Rattle.woot.specs.Form.{countdown}
use Rattle.well_formed.specs.PendingForm.{sender_within}
use Rattle.well_formed.proofs.waiting.shares_kept.Given as goal

abbrev pub invariant-loop-site : goal.invariant-loop-site
invariant-loop-site l = (0 < l.site) × (every (sender_within l.own l.values) (countdown (l.site - 1)) ≡ true)
