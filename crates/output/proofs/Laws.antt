-- Laws of `specs/Output.antt`, for the proofs of this crate and of those that fill a slice by it.
use mathlib.Core.Path.{◌≡◌, refl, sym, ap, ◌∙◌}
use mathlib.Core.List.{List, [], ◌∷◌, ◌++◌}
use mathlib.Core.Bool.{Bool, true, false}
use Prim.Native.Nat.{ℕ, suc, ◌+◌, ◌≤◌, ◌<◌}
use native.Mathlib.Nat.{add-zero, add-suc, suc-add}
use native.Mathlib.Omega.{arith}
use lib.ListN.{length, take, drop, set, length-append}
use lib.Seq.{sets, sets-eq, length-sets}
use borrow.Author.Tests.{leb-true, leb-false, le-leb, lt-leb}
use Rattle.output.specs.Output.{has_room, placed, past}

-- the two readings of the test
pub room : (size at count : ℕ) → at + count ≤ size → has_room size at count ≡ true
unfolding has_room
room size at count h = le-leb (at + count) size h

pub no_room : (size at count : ℕ) → size < at + count → has_room size at count ≡ false
unfolding has_room
no_room size at count h = lt-leb (at + count) size h

pub has_room_lem : (size at count : ℕ) → has_room size at count ≡ true → at + count ≤ size
unfolding has_room
has_room_lem size at count e = leb-true (at + count) size e

pub lacks-room : (size at count : ℕ) → has_room size at count ≡ false → size < at + count
unfolding has_room
lacks-room size at count e = leb-false (at + count) size e

-- with room
pub placed-room : (out : List ℕ) (at : ℕ) (bytes : List ℕ) → at + length bytes ≤ length out
    → placed out at bytes ≡ take at out ++ bytes ++ drop (at + length bytes) out
unfolding placed
placed-room out at bytes h = rw (room (length out) at (length bytes) h)

pub past_room : (out : List ℕ) (at : ℕ) (bytes : List ℕ) → at + length bytes ≤ length out → past out at bytes ≡ at + length bytes
unfolding past
past_room out at bytes h = rw (room (length out) at (length bytes) h)

-- without
pub placed-short : (out : List ℕ) (at : ℕ) (bytes : List ℕ) → length out < at + length bytes → placed out at bytes ≡ out
unfolding placed
placed-short out at bytes h = rw (no_room (length out) at (length bytes) h)

pub past-short : (out : List ℕ) (at : ℕ) (bytes : List ℕ) → length out < at + length bytes → past out at bytes ≡ at
unfolding past
past-short out at bytes h = rw (no_room (length out) at (length bytes) h)

-- the slice keeps its size
pub length-placed : (out : List ℕ) (at : ℕ) (bytes : List ℕ) → length (placed out at bytes) ≡ length out
length-placed out at bytes = go (has_room (length out) at (length bytes)) refl
  where
    go : (b : Bool) → has_room (length out) at (length bytes) ≡ b → length (placed out at bytes) ≡ length out
    go true e =
        let h : at + length bytes ≤ length out = has_room_lem (length out) at (length bytes) e in
        rw (placed-room out at bytes h, ← sets-eq bytes out at h) (length-sets out at bytes)
    go false e = ap length (placed-short out at bytes (lacks-room (length out) at (length bytes) e))

sets-append : (a b out : List ℕ) (at : ℕ) → sets (sets out at a) (at + length a) b ≡ sets out at (a ++ b)
sets-append [] b out at = ap (λ (k : ℕ). sets out k b) (add-zero at)
sets-append (x ∷ a) b out at = rw (add-suc at (length a), ← suc-add at (length a)) (sets-append a b (set out at x) (suc at))

-- two runs put one after the other are the one run put at once
pub placed-append : (out : List ℕ) (at : ℕ) (a b : List ℕ) → at + length (a ++ b) ≤ length out
    → placed (placed out at a) (at + length a) b ≡ placed out at (a ++ b)
placed-append out at a b h =
    let split : length (a ++ b) ≡ length a + length b = length-append a b in
    let first : placed out at a ≡ sets out at a =
    placed-room out at a (omega arith) ∙ sym (sets-eq a out at (omega arith)) in
    let kept : length (sets out at a) ≡ length out = length-sets out at a in
    let second : placed (sets out at a) (at + length a) b ≡ sets (sets out at a) (at + length a) b =
    placed-room (sets out at a) (at + length a) b (omega arith) ∙ sym (sets-eq b (sets out at a) (at + length a) (omega arith)) in
    rw first (second ∙ sets-append a b out at ∙ sets-eq (a ++ b) out at h ∙ sym (placed-room out at (a ++ b) h))
