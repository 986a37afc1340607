-- The promises about `cursor::receive_at` and `cursor::moved`, on any replica, in form or not, each proved in proofs/
-- under its name in small letters.
use Rattle.std.specs.Prelude.{ℕ, suc, ◌+◌, ◌≤◌, ◌<◌, ◌≡◌, true, false, List, pos, negsuc, ◌≤ℤ◌}
use Rattle.woot.specs.declared.Identifier.{Identifier}
use Rattle.woot.specs.declared.Character.{Character}
use Rattle.woot.specs.declared.Operation.{Operation}
use Rattle.woot.specs.declared.Replica.{Replica}
use Rattle.woot.specs.Memory.{meaning}
use Rattle.answers.specs.Answers.{changes}
use Rattle.woot.specs.Calls.{beyond_visible}
use Rattle.woot.specs.Cursor.{left_of, cursor_after, last_number, moved_by}
use Rattle.convergence.specs.Cursors.{shown, NearestAbove}
use Rattle.woot.specs.Replicas.{received_at}
use Rattle.cursor.specs.Bits.{shift_bits, shift_read}

-- "The shift lies between -1 and 513"
abbrev pub ReplicaShiftBounds : Type 0
ReplicaShiftBounds =
    (r : Replica) (o : Operation) (g : ℕ) →
    (negsuc 0 ≤ℤ (received_at r o g).shift) × ((received_at r o g).shift ≤ℤ pos 513)

-- "and is 0 for every call that changes nothing", which returns the very replica
abbrev pub ReplicaStill : Type 0
ReplicaStill =
    (r : Replica) (o : Operation) (g : ℕ) → changes (received_at r o g).answer ≡ false →
    ((received_at r o g).replica ≡ r) × ((received_at r o g).shift ≡ pos 0)

-- "Gap plus shift is the new gap": what `moved` makes of them, where something changed, and it is among the visible
-- characters of what came back
abbrev pub ReplicaMoves : Type 0
ReplicaMoves =
    (r : Replica) (o : Operation) (g : ℕ) → g ≤ last_number → changes (received_at r o g).answer ≡ true →
    (moved_by g (received_at r o g).shift
    ≡ cursor_after (meaning r).characters (meaning (received_at r o g).replica).characters g)
    × (beyond_visible (meaning (received_at r o g).replica) (moved_by g (received_at r o g).shift) ≡ false)

-- the characters of what came back
abbrev pub characters_left : Replica → Operation → ℕ → List Character
characters_left r o g = (meaning (received_at r o g).replica).characters

-- what stands on the left of the moved cursor then
abbrev pub left_moved : Replica → Operation → ℕ → Identifier
left_moved r o g = left_of (characters_left r o g) (moved_by g (received_at r o g).shift)

-- "It keeps to the row on its left, or to the begin mark"; hidden, "the cursor goes below the nearest shown row above
-- it, or to the begin mark"
abbrev pub ReplicaKeeps : Type 0
ReplicaKeeps =
    (r : Replica) (o : Operation) (g : ℕ) → g ≤ last_number →
    (shown (characters_left r o g) (left_of (meaning r).characters g) ≡ true →
    left_moved r o g ≡ left_of (meaning r).characters g)
    × (shown (characters_left r o g) (left_of (meaning r).characters g) ≡ false →
    NearestAbove (characters_left r o g) (left_of (meaning r).characters g) (left_moved r o g))

-- the bits are two's complement: of a number below zero, what is missing to 65,536
abbrev pub BitsTwosComplement : Type 0
BitsTwosComplement = (n : ℕ) → n < 32768 → (shift_bits (pos n) ≡ n) × (shift_bits (negsuc n) + suc n ≡ 65536)

-- a shift is read back from its sixteen bits
abbrev pub BitsReadBack : Type 0
BitsReadBack =
    (r : Replica) (o : Operation) (g : ℕ) → shift_read (shift_bits (received_at r o g).shift) ≡ (received_at r o g).shift
