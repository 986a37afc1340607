-- Document 02, Req 02: the promises about receiving with a cursor, over any state, operation and gap, each proved in
-- proofs/ under its name in small letters.
use Rattle.std.specs.Prelude.{ℕ, ◌+◌, ◌-◌, ◌≤◌, ◌≡◌, Bool, true, false, ◌||◌, cond, List, ◌∷◌, ◌↔◌, ◌⊎◌, leb, ℤ, pos, negsuc, ◌+ℤ◌, ◌≤ℤ◌}
use Rattle.std.proofs.Math.Option.{some}
use Rattle.woot.specs.declared.Identifier.{Identifier}
use Rattle.woot.specs.declared.Insert.{Insert}
use Rattle.woot.specs.declared.Operation.{Operation}
use Rattle.woot.specs.declared.Operation.TheVariants.{Insert as insert, Toggle as toggle}
use Rattle.woot.specs.declared.Character.{Character}
use Rattle.answers.specs.declared.Refusal.{Refusal}
use Rattle.answers.specs.declared.Refusal.TheVariants.{Position}
use Rattle.answers.specs.declared.Answer.TheVariants.{Deferred, Duplicate, Refused}
use Rattle.woot.specs.Identifiers.{begin, same}
use Rattle.woot.specs.State.{State}
use Rattle.woot.specs.Placing.{above}
use Rattle.woot.specs.Pending.{executable}
use Rattle.answers.specs.Answers.{number, done, waits, reply, changes, NoneHolds, Reported}
use Rattle.woot.specs.Sending.{sent_operation}
use Rattle.woot.specs.Calls.{unchanged, receive_when, visibles, beyond_visible, local_insert, local_delete, local_restore}
use Rattle.woot.specs.Cursor.{left_of, visible_through, receive_at_checks, receive_at_when, receive_at, new_gap, shift_of}
use Rattle.woot.specs.Cursor.{shift_at, last_number, moved_by}
use Rattle.woot.specs.Histories.{Call, inserting, deleting, restoring, receiving, receiving_at, outcome}
use Rattle.woot.specs.Situations.{Done, LowestShift, HighestShift}
use Rattle.lists.specs.Lists.{any}

-- ---- the answer

-- "does the same": with the gap among the visible characters it is receiving
abbrev pub ReceiveAtSame : Type 0
ReceiveAtSame =
    (formed : Bool) (s : State) (o : Operation) (g : ℕ) → beyond_visible s g ≡ false →
    receive_at_when formed s o g ≡ receive_when formed s o

-- "A gap beyond the shown rows is refusal 4 and changes nothing": there is no third
abbrev pub ReceiveAtElse : Type 0
ReceiveAtElse =
    (formed : Bool) (s : State) (o : Operation) (g : ℕ) →
    (receive_at_when formed s o g ≡ receive_when formed s o)
    ⊎ (receive_at_when formed s o g ≡ unchanged s (Refused Position))

-- refusal r exactly when its condition holds and none before it, known's place among them
abbrev pub ReceiveAtRefuses : Type 0
ReceiveAtRefuses =
    (formed : Bool) (s : State) (o : Operation) (g : ℕ) (r : Refusal) →
    ((receive_at_when formed s o g).answer ≡ Refused r) ↔ Reported (Refused r) (receive_at_checks formed s o g)

-- "known is still answered before it": exactly when the operation is known and no condition before that holds
abbrev pub ReceiveAtKnows : Type 0
ReceiveAtKnows =
    (formed : Bool) (s : State) (o : Operation) (g : ℕ) →
    ((receive_at_when formed s o g).answer ≡ Duplicate) ↔ Reported Duplicate (receive_at_checks formed s o g)

-- and by number
abbrev pub ReceiveAtNumbers : Type 0
ReceiveAtNumbers =
    (formed : Bool) (s : State) (o : Operation) (g : ℕ) (r : Refusal) →
    ((reply (receive_at_when formed s o g).answer).refusal ≡ number r)
    ↔ Reported (Refused r) (receive_at_checks formed s o g)

-- done exactly when no condition holds and everything needed is held
abbrev pub ReceiveAtDoes : Type 0
ReceiveAtDoes =
    (formed : Bool) (s : State) (o : Operation) (g : ℕ) →
    ((reply (receive_at_when formed s o g).answer).word ≡ done)
    ↔ (NoneHolds (receive_at_checks formed s o g) × (executable s.characters o ≡ true))

-- and waits exactly when no condition holds and something needed is not
abbrev pub ReceiveAtWaits : Type 0
ReceiveAtWaits =
    (formed : Bool) (s : State) (o : Operation) (g : ℕ) →
    ((reply (receive_at_when formed s o g).answer).word ≡ waits)
    ↔ (NoneHolds (receive_at_checks formed s o g) × (executable s.characters o ≡ false))

-- ---- where the cursor goes

-- x is shown: a visible character's, or the begin mark
abbrev pub shown : List Character → Identifier → Bool
shown cs x = any (same x) (begin ∷ visibles cs)

-- the characters after receiving, and what stands on the cursor's left then
abbrev pub characters_then : State → Operation → ℕ → List Character
characters_then s o g = (receive_at s o g).state.characters

abbrev pub left_then : State → Operation → ℕ → Identifier
left_then s o g = left_of (characters_then s o g) (new_gap s (receive_at s o g) g)

-- "It keeps to the row on its left, or to the begin mark"
abbrev pub CursorKeeps : Type 0
CursorKeeps =
    (s : State) (o : Operation) (g : ℕ) → shown (characters_then s o g) (left_of s.characters g) ≡ true →
    left_then s o g ≡ left_of s.characters g

-- y is "the nearest shown row above" x, "or the begin mark": it is shown and stands above x, and nothing shown stands
-- between
pub record NearestAbove (cs : List Character) (x y : Identifier) : Type 0 where
  pub is-shown : shown cs y ≡ true
  pub stands-above : above cs y x ≡ true
  pub none_between : (z : Identifier) → shown cs z ≡ true → above cs y z ≡ true → above cs z x ≡ true → ⊥

-- "If that row is hidden by the call, the cursor goes below the nearest shown row above it, or to the begin mark"
abbrev pub CursorHidden : Type 0
CursorHidden =
    (s : State) (o : Operation) (g : ℕ) → shown (characters_then s o g) (left_of s.characters g) ≡ false →
    NearestAbove (characters_then s o g) (left_of s.characters g) (left_then s o g)

-- ---- the shift

-- "The shift lies between -1 and 513"
abbrev pub ShiftBounds : Type 0
ShiftBounds =
    (s : State) (o : Operation) (g : ℕ) → (negsuc 0 ≤ℤ shift_at s o g) × (shift_at s o g ≤ℤ pos 513)

-- and both ends are attained
abbrev pub ShiftEnds : Type 0
ShiftEnds = LowestShift × HighestShift

-- "and is 0 for every call that changes nothing": known and refusals; and it is 0 with waits
abbrev pub ShiftStill : Type 0
ShiftStill =
    ((s : State) (o : Operation) (g : ℕ) → changes (receive_at s o g).answer ≡ false → shift_at s o g ≡ pos 0)
    × ((s : State) (o : Operation) (g : ℕ) → (receive_at s o g).answer ≡ Deferred → shift_at s o g ≡ pos 0)

-- "Gap plus shift is the new gap", as whole numbers; and the new one is within the visible characters where the old one
-- was
abbrev pub ShiftAdds : Type 0
ShiftAdds =
    (s : State) (o : Operation) (g : ℕ) →
    (pos g +ℤ shift_at s o g ≡ pos (new_gap s (receive_at s o g) g))
    × (beyond_visible s g ≡ false → beyond_visible (receive_at s o g).state (new_gap s (receive_at s o g) g) ≡ false)

-- a gap with a shift added is their sum exactly where that is a number of 64 bits, and else the nearest such number
abbrev pub MovedAdds : Type 0
MovedAdds =
    (g : ℕ) (z : ℤ) →
    (pos 0 ≤ℤ (pos g +ℤ z) → (pos g +ℤ z) ≤ℤ pos last_number → pos (moved_by g z) ≡ pos g +ℤ z)
    × ((pos g +ℤ z) ≤ℤ negsuc 0 → moved_by g z ≡ 0)
    × (pos last_number ≤ℤ (pos g +ℤ z) → moved_by g z ≡ last_number)

-- so that adding the shift to any number of 64 bits gives the new gap
abbrev pub MovedToNewGap : Type 0
MovedToNewGap =
    (s : State) (o : Operation) (g : ℕ) → g ≤ last_number → moved_by g (shift_at s o g) ≡ new_gap s (receive_at s o g) g

-- a cursor at the top stays there, and receiving with it is receiving
abbrev pub TopStays : Type 0
TopStays =
    (formed : Bool) (s : State) (o : Operation) →
    (receive_at_when formed s o 0 ≡ receive_when formed s o) × (shift_of s (receive_at_when formed s o 0) 0 ≡ pos 0)

-- ---- what is edited here

-- an operation received does all that a call did, in its answer, in the state, and in what was carried out and thrown
-- out; and so it does with any cursor among the visible characters
abbrev pub DoesAs : State → Call → Operation → Type 0
DoesAs s c o =
    (outcome s (receiving o) ≡ outcome s c)
    × ((g : ℕ) → beyond_visible s g ≡ false → outcome s (receiving_at o g) ≡ outcome s c)

-- what typing, erasing and restoring send, received on the state from before, does as they did: so a program learns how
-- far its own edit moves a cursor as it does of a line that comes
abbrev pub OwnReceived : Type 0
OwnReceived =
    ((s : State) (g n : ℕ) (o : Operation) →
    sent_operation (local_insert s g n).answer ≡ some o → DoesAs s (inserting g n) o)
    × ((s : State) (p : ℕ) (o : Operation) →
    sent_operation (local_delete s p).answer ≡ some o → DoesAs s (deleting p) o)
    × ((s : State) (x : Identifier) (o : Operation) →
    sent_operation (local_restore s x).answer ≡ some o → DoesAs s (restoring x) o)

-- a character typed at gap g, with nothing else carried out by the call: "the gap just below the row of the one before"
-- (Req 11) is one further, with the character on its left; a cursor at g, which keeps to the row on its left, stays
abbrev pub TypingMoves : Type 0
TypingMoves =
    (s : State) (g n : ℕ) (i : Insert) → sent_operation (local_insert s g n).answer ≡ some (insert i) →
    (reply (outcome s (inserting g n)).answer).integrated ≡ 1 →
    (visible_through (outcome s (inserting g n)).state.characters i.id ≡ g + 1)
    × (left_of (outcome s (inserting g n)).state.characters (g + 1) ≡ i.id)
    × (new_gap s (receive_at s (insert i) g) g ≡ g)

-- x is a neighbour or the target of an operation
abbrev pub names : Identifier → Operation → Bool
names x (insert i) = same x i.previous || same x i.next
names x (toggle t) = same x t.target

-- nothing else is carried out, nor thrown out, where nothing that waits names the new character; where something does
-- the gap may be another: `TypedElsewhere` of `woot/Situations`
abbrev pub TypingAlone : Type 0
TypingAlone =
    (s : State) (g n : ℕ) (i : Insert) → sent_operation (local_insert s g n).answer ≡ some (insert i) →
    any (names i.id) s.pending ≡ false → reply (outcome s (inserting g n)).answer ≡ Done 1 0

-- the character erased at place p moves a cursor one back if the place is at most the cursor, and else not
abbrev pub ErasingMoves : Type 0
ErasingMoves =
    (s : State) (p g : ℕ) (o : Operation) → sent_operation (local_delete s p).answer ≡ some o →
    beyond_visible s g ≡ false → new_gap s (receive_at s o g) g ≡ cond (leb p g) (g - 1) g

-- the character restored moves it one further if it stands above the row on the cursor's left, and else not
abbrev pub RestoringMoves : Type 0
RestoringMoves =
    (s : State) (x : Identifier) (g : ℕ) (o : Operation) → sent_operation (local_restore s x).answer ≡ some o →
    beyond_visible s g ≡ false →
    new_gap s (receive_at s o g) g ≡ cond (above s.characters x (left_of s.characters g)) (g + 1) g
