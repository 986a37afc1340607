-- Document 02, Req 02: an editor's cursor, which "is a gap", and where it goes as an operation is received. The gaps
-- are those of typing: gap g stands below the visible character counted g.
use Rattle.std.specs.Prelude.{ℕ, ◌-◌, ◌^◌, min, Bool, cond, List, ◌∷◌, ℤ, pos, negsuc, ◌+ℤ◌, length, take, get_or}
use Rattle.std.proofs.Math.IntN.{sub_ℕ}
use Rattle.woot.specs.declared.Identifier.{Identifier}
use Rattle.woot.specs.declared.Operation.{Operation}
use Rattle.woot.specs.declared.Character.{Character}
use Rattle.answers.specs.declared.Refusal.TheVariants.{Position}
use Rattle.answers.specs.declared.Answer.{Answer}
use Rattle.answers.specs.declared.Answer.TheVariants.{Refused}
use Rattle.woot.specs.Identifiers.{begin}
use Rattle.woot.specs.State.{State}
use Rattle.woot.specs.Placing.{place_of}
use Rattle.woot.specs.Form.{well_formed}
use Rattle.answers.specs.Answers.{Check, ◌⇒◌, first, decided, changes}
use Rattle.woot.specs.Calls.{Outcome, unchanged, unless_known, new_checks, accept, visibles, beyond_visible}

-- ---- where the cursor goes

-- "the row on its left, or the begin mark"
abbrev pub left_of : List Character → ℕ → Identifier
left_of cs g = get_or (begin ∷ visibles cs) g begin

-- the characters from the top through x, none for the begin mark: places count from 1, since the sequence in which they
-- are looked up begins with that mark
unfoldable pub through : List Character → Identifier → List Character
through cs x = take (place_of cs x) cs

-- how many of them are visible
unfoldable pub visible_through : List Character → Identifier → ℕ
visible_through cs x = length (visibles (through cs x))

-- "It keeps to the row on its left, or to the begin mark. If that row is hidden by the call, the cursor goes below the
-- nearest shown row above it, or to the begin mark": below as many visible characters as stand from the top through it
unfoldable pub cursor_after : List Character → List Character → ℕ → ℕ
cursor_after before after g = visible_through after (left_of before g)

-- ---- receiving with a cursor

-- "A gap beyond the shown rows is refusal 4 and changes nothing; known is still answered before it"
unfoldable pub receive_at_checks : Bool → State → Operation → ℕ → List (Check Answer)
receive_at_checks formed s o g = unless_known formed s o ((beyond_visible s g ⇒ Refused Position) ∷ new_checks s o)

-- "a receiving call gets a companion that does the same, but takes the gap too"
unfoldable pub receive_at_when : Bool → State → Operation → ℕ → Outcome Answer
receive_at_when formed s o g = decided (unchanged s) (first (receive_at_checks formed s o g)) (accept s o)

unfoldable pub receive_at : State → Operation → ℕ → Outcome Answer
receive_at s o g = receive_at_when (well_formed s) s o g

-- "the new gap" once a call on the state s came to this; the old one where it "changes nothing"
unfoldable pub new_gap : State → Outcome Answer → ℕ → ℕ
new_gap s w g = cond (changes w.answer) (cursor_after s.characters w.state.characters g) g

-- "the shift as a whole number that may be below zero": "Gap plus shift is the new gap"
unfoldable pub shift_of : State → Outcome Answer → ℕ → ℤ
shift_of s w g = sub_ℕ (new_gap s w g) g

-- what receiving gives beside its answer
unfoldable pub shift_at : State → Operation → ℕ → ℤ
shift_at s o g = shift_of s (receive_at s o g) g

-- ---- moving it

-- the largest number of 64 bits
abbrev pub last_number : ℕ
last_number = 2 ^ 64 - 1

-- the number of 64 bits nearest to a whole number
unfoldable pub nearest : ℤ → ℕ
nearest (pos n) = min n last_number
nearest (negsuc n) = 0

-- a gap with a shift added, whatever they are
unfoldable pub moved_by : ℕ → ℤ → ℕ
moved_by g z = nearest (pos g +ℤ z)
