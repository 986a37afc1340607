-- The promises on replicas: one in form is received on by the rules, and on any other nothing is changed.
use Prim.Native.Nat.{ℕ, ◌-◌, ◌%◌, ◌≤◌}
use native.Mathlib.Omega.{arith}
use mathlib.Core.Path.{◌≡◌, refl, ap, sym, subst}
use mathlib.Core.Bool.{true, false}
use mathlib.Core.List.{List}
use mathlib.Core.Logic.{⊎_elim}
use lib.Dec.{leb→le}
use lib.IntN.{ℤ, pos, negsuc}
use lib.Signed.{◌≤ℤ◌}
use borrow.Author.Tests.{lt-ltb}
use Rattle.woot.specs.declared.Character.{Character}
use Rattle.woot.specs.declared.Operation.{Operation}
use Rattle.woot.specs.declared.Replica.{Replica}
use Rattle.woot.specs.declared.ReceiptAt.{ReceiptAt}
use Rattle.woot.specs.State.{State}
use Rattle.woot.specs.Memory.{meaning}
use Rattle.answers.specs.Answers.{changes}
use Rattle.woot.specs.Cursor.{left_of, nearest, cursor_after, receive_at, new_gap, shift_at, last_number, moved_by}
use Rattle.woot.specs.Replicas.{receipt_at, received_at}
use Rattle.lists.proofs.Tests.{either, clash}
use Rattle.convergence.proofs.Cursors.{cursor_keeps, cursor_hidden, shift-bounds, shift_adds, moved-to-new_gap}
use Rattle.convergence.proofs.Through.{left-shown}
use Rattle.convergence.specs.Cursors.{shown, NearestAbove}
use Rattle.cursor.specs.Bits.{shift_bits, shift_read}
use Rattle.cursor.specs.Theorems.{ReplicaShiftBounds, ReplicaStill, ReplicaMoves, characters_left, ReplicaKeeps, BitsTwosComplement, BitsReadBack}
use Rattle.cursor.proofs.Receiving.{turned-is, changed_within, ruled, left-means}

module _ (r : Replica) (o : Operation) (g : ℕ) where
  still : changes (received_at r o g).answer ≡ false → ((received_at r o g).replica ≡ r) × ((received_at r o g).shift ≡ pos 0)
  still e = (ap (λ (x : ReceiptAt). x.replica) (sym (turned-is r o g e)), ap (λ (x : ReceiptAt). x.shift) (sym (turned-is r o g e)))

  bounds : (negsuc 0 ≤ℤ (received_at r o g).shift) × ((received_at r o g).shift ≤ℤ pos 513)
  unfolding receipt_at shift_at
  bounds =
      ⊎_elim (λ e. rw (ruled r o g e) (shift-bounds (meaning r) o g)) (λ e. rw (still e).1 (record { le = tt }, record { le = tt }))
      (either (changes (received_at r o g).answer))

pub replica-still : ReplicaStill
replica-still r o g e = still r o g e

pub replica-shift-bounds : ReplicaShiftBounds
replica-shift-bounds r o g = bounds r o g

-- where something changed, what came back and the shift are those of the rules
module _ (r : Replica) (o : Operation) (g : ℕ) (e : changes (received_at r o g).answer ≡ true) where
  changed_by_rule : changes (receive_at (meaning r) o g).answer ≡ true
  unfolding receipt_at
  changed_by_rule = subst (λ (x : ReceiptAt). changes x.answer ≡ true) (ruled r o g e) e

  shifted : (received_at r o g).shift ≡ shift_at (meaning r) o g
  unfolding receipt_at shift_at
  shifted = ap (λ (x : ReceiptAt). x.shift) (ruled r o g e)

pub replica-moves : ReplicaMoves
unfolding new_gap
replica-moves r o g few e =
    rw (left-means r o g e, shifted r o g e, moved-to-new_gap (meaning r) o g few) (gap, (shift_adds (meaning r) o g).1 (changed_within r o g e))
  where
    gap : new_gap (meaning r) (receive_at (meaning r) o g) g ≡ cursor_after (meaning r).characters (receive_at (meaning r) o g).state.characters g
    gap = rw (new_gap, changed_by_rule r o g e)

-- a shift of 0 leaves a number of 64 bits
stays : (g : ℕ) → g ≤ last_number → moved_by g (pos 0) ≡ g
unfolding moved_by nearest
stays g few = omega (arith, few)

-- a cursor at g before keeps its place at k after
abbrev Keeps : List Character → List Character → ℕ → ℕ → Type 0
Keeps before after g k =
    (shown after (left_of before g) ≡ true → left_of after k ≡ left_of before g)
    × (shown after (left_of before g) ≡ false → NearestAbove after (left_of before g) (left_of after k))

pub replica-keeps : ReplicaKeeps
replica-keeps r o g few = ⊎_elim changed unchanged (either (changes (received_at r o g).answer))
  where
    changed : changes (received_at r o g).answer ≡ true → Keeps (meaning r).characters (characters_left r o g) g (moved_by g (received_at r o g).shift)
    changed e =
        subst (λ (s : State). Keeps (meaning r).characters s.characters g (moved_by g (received_at r o g).shift)) (sym (left-means r o g e))
        (subst (λ (z : ℤ). Keeps (meaning r).characters (receive_at (meaning r) o g).state.characters g (moved_by g z)) (sym (shifted r o g e))
        (subst (Keeps (meaning r).characters (receive_at (meaning r) o g).state.characters g) (sym (moved-to-new_gap (meaning r) o g few))
        (cursor_keeps (meaning r) o g, cursor_hidden (meaning r) o g)))

    unchanged : changes (received_at r o g).answer ≡ false → Keeps (meaning r).characters (characters_left r o g) g (moved_by g (received_at r o g).shift)
    unchanged e =
        let same = still r o g e in
        subst (λ (x : Replica). Keeps (meaning r).characters (meaning x).characters g (moved_by g (received_at r o g).shift)) (sym same.0)
        (subst (λ (z : ℤ). Keeps (meaning r).characters (meaning r).characters g (moved_by g z)) (sym same.1)
        (subst (Keeps (meaning r).characters (meaning r).characters g) (sym (stays g few))
        (λ h. refl, λ h. clash (left-shown (meaning r).characters g) h)))

-- ---- sixteen bits

pub small-back : (z : ℤ) → negsuc 0 ≤ℤ z → z ≤ℤ pos 513 → shift_read (shift_bits z) ≡ z
unfolding shift_read shift_bits
small-back (pos n) low high =
    let few : n ≤ 513 = leb→le n 513 high.le in
    let same : n % 65536 ≡ n = omega arith in
    rw (same, lt-ltb n 32768 (omega arith))
small-back (negsuc n) low high =
    let few : n ≤ 0 = leb→le n 0 low.le in
    let last : 65535 - n % 65536 ≡ 65535 = omega arith in
    let none : n ≡ 0 = omega arith in
    rw (last, none)

pub bits_twos_complement : BitsTwosComplement
unfolding shift_bits
bits_twos_complement n few = let same : n % 65536 ≡ n = omega arith in (same, omega (arith, same))

pub bits_read-back : BitsReadBack
bits_read-back r o g = small-back (received_at r o g).shift (bounds r o g).0 (bounds r o g).1
