-- For the proofs of the code alone: what typing a character needs, and what it leaves.
use Rattle.std.specs.Prelude.{ℕ, suc, ◌+◌, ◌≤◌, ◌≡◌, true, false, List, length, take, Option, Some, None}
use Rattle.lists.specs.Lists.{every}
use Rattle.woot.specs.declared.Operation.TheVariants.{Insert as insert}
use Rattle.woot.specs.Limits.{last_clock, capacity}
use Rattle.woot.specs.Operations.{inserts}
use Rattle.woot.specs.Ranges.{is_code_point, insert_in_range}
use Rattle.woot.specs.State.{State}
use Rattle.woot.specs.Pending.{unplaceable}
use Rattle.woot.specs.Table.{keys}
use Rattle.woot.specs.Memory.{toggle_counts}
use Rattle.woot.specs.Calls.{all_integrated, next_identifier, generated_insert, beyond_visible}
use Rattle.woot.specs.Histories.{inserting, outcome}
use Rattle.bulk.specs.Pasting.{gap_below}
use Rattle.memory.specs.Columns.{Replica, meaning, stored, replica_well_formed}
use Rattle.keystroke.specs.declared.Typing.{Typing}
use Rattle.keystroke.specs.declared.Typed.{Typed}

-- ---- what is asked

-- a replica in form, whose arrays are those that its state is stored in, with a clock and room for these code points,
-- the first of them at a gap among its visible characters
pub record Typeable (r : Replica) (g : ℕ) (ns : List ℕ) : Type 0 where
  pub form : replica_well_formed r ≡ true
  pub tidy : r ≡ stored (meaning r)
  pub gap : beyond_visible (meaning r) g ≡ false
  pub clock : r.site.clock + length ns ≤ last_clock
  pub space : length (meaning r).characters + length (inserts (meaning r).pending) + length ns ≤ capacity
  pub coded : every is_code_point ns ≡ true

-- a state with the keys and the counts of toggles of a replica, whose next insert has the bits of its type
pub record Neighboured (r : Replica) (g n : ℕ) : Type 0 where
  pub state : State
  pub site : r.site ≡ state.site
  pub keyed : keys state.characters ≡ take r.document.length r.document.ids
  pub toggled : toggle_counts state.characters ≡ take r.document.length r.document.toggles
  pub ranged : insert_in_range (generated_insert state g n) ≡ true

-- ---- what is left

-- a character typed at the gap on a replica: the insert that the rules make, the state that they leave as it is stored,
-- the gap just below it, and what was carried out and discarded
pub record Taken (b : Replica) (at : Typing) (n : ℕ) (t : Typed) (r : Replica) : Type 0 where
  pub placed : unplaceable (meaning b).characters (insert (generated_insert (meaning b) at.point n)) ≡ false
  pub made : t.insert ≡ generated_insert (meaning b) at.point n
  pub left : r ≡ stored (outcome (meaning b) (inserting at.point n)).state
  pub below : t.after.point ≡ gap_below (outcome (meaning b) (inserting at.point n)).state (next_identifier (meaning b).site)
  pub integrated : t.after.integrated ≡ at.integrated + length (all_integrated (outcome (meaning b) (inserting at.point n)))
  pub discarded : t.after.discarded ≡ at.discarded + length (outcome (meaning b) (inserting at.point n)).discarded
  pub balance : t.after.integrated + t.after.discarded + r.document.waiting ≡ suc (at.integrated + at.discarded + b.document.waiting)

-- from one replica to another, or refused with 9
unfoldable pub OneTyped : Replica → Typing → ℕ → Replica → Option Typed → Type 0
OneTyped b at n r (Some t) = Taken b at n t r
OneTyped b at n r None =
    unplaceable (meaning b).characters (insert (generated_insert (meaning b) at.point n)) ≡ true
