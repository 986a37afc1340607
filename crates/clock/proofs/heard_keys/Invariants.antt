-- `clock::heard_keys` meets its contract. The loop's invariant: the first i keys have been heard.
use mathlib.Core.Path.{◌≡◌}
use lib.ListN.{take}
use Rattle.clock.specs.Hearing.{heard_keys}
use Rattle.clock.proofs.heard_keys.Given as goal

abbrev pub invariant-loop-key : goal.invariant-loop-key
invariant-loop-key l = l.raised ≡ heard_keys l.initial.raised (take l.key-index (take l.n l.keys))
