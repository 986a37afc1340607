-- `output::put` meets its contract: a store is the slice up to the offset, the byte and the rest.
use mathlib.Core.Path.{◌≡◌, sym}
use mathlib.Core.List.{List, [], ◌∷◌}
use Prim.Native.Nat.{ℕ, ◌<◌}
use native.Mathlib.Numerals.{add-one}
use native.Mathlib.Omega.{arith}
use lib.ListN.{length, set}
use lib.Seq.{set_split, append_snoc}
use Rattle.output.specs.Output.{placed}
use Rattle.output.proofs.Laws.{placed-room, past_room, placed-short, past-short}
use Rattle.output.proofs.put.Goals as goal

stored : (out : List ℕ) (at byte : ℕ) → at < length out → set out at byte ≡ placed out at (byte ∷ [])
stored out at byte h = rw (placed-room out at (byte ∷ []) (omega arith), add-one, append_snoc) (set_split out at byte h)

pub returns-then-at-out : goal.returns-then-at-out
returns-then-at-out c = (sym (past_room _ _ _ (omega arith)), stored _ _ _ (omega arith))

pub returns : goal.returns
returns c = (sym (past-short _ _ _ (omega arith)), sym (placed-short _ _ _ (omega arith)))
