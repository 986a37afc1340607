-- For the proofs of the code alone: the code points that are to be typed one after another, and what typing them
-- leaves.
use Rattle.std.specs.Prelude.{ℕ, ◌≡◌, true, false, List, [], length, take, set}
use Rattle.std.specs.Prelude.{Option, Some, None}
use Rattle.lists.specs.Padding.{pad}
use Rattle.woot.specs.declared.Insert.{Insert}
use Rattle.woot.specs.State.{State}
use Rattle.woot.specs.Table.{key}
use Rattle.woot.specs.Memory.{character_slots, key_column, previous_column, next_column, code_point_column}
use Rattle.woot.specs.Histories.{run, integrated_by, discarded_by}
use Rattle.bulk.specs.Pasting.{typings, own_by, stopped}
use Rattle.memory.specs.Columns.{Replica, stored}
use Rattle.keystroke.specs.declared.Typing.{Typing}
use Rattle.typing.specs.Columns.{typed_columns}

-- ---- what is asked

-- the first code points of the fourth column
abbrev pub points_in : ℕ → List ℕ → List ℕ
points_in count typed = take count (code_point_column typed)

-- four columns that hold nothing but them
pub record Unwritten (ns : List ℕ) (typed : List ℕ) : Type 0 where
  pub ids : key_column typed ≡ pad character_slots 0 []
  pub previous : previous_column typed ≡ pad character_slots 0 []
  pub next : next_column typed ≡ pad character_slots 0 []
  pub points : code_point_column typed ≡ pad character_slots 0 ns

-- ---- what is left

-- the numbers of an insert in slot i of four columns
pub record Inscribed (before : List ℕ) (i : ℕ) (x : Insert) (after : List ℕ) : Type 0 where
  pub ids : key_column after ≡ set (key_column before) i (key x.id)
  pub previous : previous_column after ≡ set (previous_column before) i (key x.previous)
  pub next : next_column after ≡ set (next_column before) i (key x.next)
  pub points : code_point_column after ≡ set (code_point_column before) i x.code_point

-- all of them typed, the first at gap g
pub record Written (s : State) (g : ℕ) (ns : List ℕ) (typed : List ℕ) (t : Typing) (r : Replica) : Type 0 where
  pub unstopped : stopped s (typings s g ns) ≡ false
  pub left : r ≡ stored (run s (typings s g ns))
  pub integrated : t.integrated ≡ length (integrated_by s (typings s g ns))
  pub discarded : t.discarded ≡ length (discarded_by s (typings s g ns))
  pub own : typed ≡ typed_columns (own_by s (typings s g ns))

unfoldable pub AllTyped : State → ℕ → List ℕ → List ℕ → Replica → Option Typing → Type 0
AllTyped s g ns typed r (Some t) = Written s g ns typed t r
AllTyped s g ns typed r None = stopped s (typings s g ns) ≡ true
