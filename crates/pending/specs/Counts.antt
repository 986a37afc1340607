-- For the proofs of the code alone: who sends the pending operations, and whether a toggle is among them, on their
-- numbers.
use Rattle.std.specs.Prelude.{ℕ, ◌/◌, Bool, false, ◌&&◌, ◌||◌, cond, List, [], ◌∷◌, eqb}

-- who sends the operation with this key of its own and this value: a toggle where the key is 0
unfoldable pub sender_of : ℕ → ℕ → ℕ
sender_of own value = cond (eqb own 0) (value / 256) (own / 65536)

-- who sends each of the operations
unfoldable pub senders_of : List ℕ → List ℕ → List ℕ
senders_of [] vs = []
senders_of (o ∷ os) [] = []
senders_of (o ∷ os) (v ∷ vs) = sender_of o v ∷ senders_of os vs

-- one of the operations with these numbers is a toggle of the key k with the stamp n
unfoldable pub has_toggle : ℕ → ℕ → List ℕ → List ℕ → List ℕ → Bool
has_toggle k n [] fs vs = false
has_toggle k n (o ∷ os) [] vs = false
has_toggle k n (o ∷ os) (f ∷ fs) [] = false
has_toggle k n (o ∷ os) (f ∷ fs) (v ∷ vs) = (eqb o 0 && (eqb n v && eqb k f)) || has_toggle k n os fs vs
