-- Document 01's situations marked P, as one table with one statement, and the cases that tell the slips it lists.
use Rattle.std.specs.Prelude.{ℕ, zero, suc, ◌+◌, ◌/◌, ◌%◌, ◌≡◌, Bool, true, ℤ, pos, negsuc, List, [], ◌∷◌, map}
use Rattle.woot.specs.declared.Identifier.{Identifier}
use Rattle.woot.specs.declared.Insert.{Insert}
use Rattle.woot.specs.declared.Operation.{Operation}
use Rattle.woot.specs.declared.Operation.TheVariants.{Insert as insert, Toggle as toggle}
use Rattle.woot.specs.Identifiers.{begin, end}
use Rattle.woot.specs.Operations.{character, with_toggles}
use Rattle.woot.specs.State.{State, initial}
use Rattle.woot.specs.Placing.{identifiers}
use Rattle.answers.specs.Answers.{done, waits, known, refused, Reply, reply, Check}
use Rattle.answers.specs.Order.{numbers_of, ranks_of, rises}
use Rattle.woot.specs.Sending.{answer_of}
use Rattle.woot.specs.Calls.{receive_checks, receive_when, insert_checks, local_insert_when, delete_checks}
use Rattle.woot.specs.Calls.{restore_checks}
use Rattle.woot.specs.Cursor.{visible_through, receive_at_checks, receive_at, shift_at, last_number}
use Rattle.woot.specs.Histories.{Call, inserting, deleting, restoring, receiving, outcome, run, integrated_by}
use Rattle.woot.specs.Histories.{largest_in}
use Rattle.woot.specs.Text.{text}
use Rattle.woot.specs.Sent.{Sending}

infix 90 ◌at◌
-- the identifier that document 01 writes 3/2 is `3 at 2`: site 3 at clock 2
abbrev pub ◌at◌ : ℕ → ℕ → Identifier
n at t = record { site = n; clock = t }

-- the character of an identifier, typed between two others; its code point is of no matter here
abbrev pub letter : Identifier → Identifier → Identifier → Insert
letter x p n = record { id = x; code_point = 65; previous = p; next = n }

-- an insert that arrives
abbrev pub ins : Identifier → Identifier → Identifier → Call
ins x p n = receiving (insert (letter x p n))

-- the same with a code point
abbrev pub ins_as : ℕ → Identifier → Identifier → Identifier → Call
ins_as n x p q = receiving (insert (record { id = x; code_point = n; previous = p; next = q }))

-- a toggle by site n, of so many times
abbrev pub toggle_by : ℕ → Identifier → ℕ → Operation
toggle_by n x k = toggle (record { sender = n; target = x; toggles = k })

-- a delete by site n, the first toggle
abbrev pub delete_by : ℕ → Identifier → Operation
delete_by n x = toggle_by n x 1

-- the two as they arrive
abbrev pub tog : ℕ → Identifier → ℕ → Call
tog n x k = receiving (toggle_by n x k)

abbrev pub del : ℕ → Identifier → Call
del n x = receiving (delete_by n x)

-- what is done in a situation: calls on a state, looked at for their replies, for what they carry out, or for the
-- visible text that they leave; an operation that arrives with the cursor at a gap
pub data Given : Type 0 where
  calling : State → List Call → Given
  carrying : State → List Call → Given
  showing : State → List Call → Given
  pointing : State → Operation → ℕ → Given

-- what is seen: the replies in order with the identifiers of the characters afterwards, what was carried out in order,
-- every field of it, bytes, or a reply with the shift
pub data Seen : Type 0 where
  calls : List Reply → List Identifier → Seen
  operations : List Operation → Seen
  bytes : List ℕ → Seen
  shifted : Reply → ℤ → Seen

abbrev pub replies : State → List Call → List Reply
replies s [] = []
replies s (c ∷ cs) = let r = outcome s c in reply r.answer ∷ replies r.state cs

unfoldable pub seen : Given → Seen
seen (calling s cs) = calls (replies s cs) (identifiers (run s cs).characters)
seen (carrying s cs) = operations (integrated_by s cs)
seen (showing s cs) = bytes (text (run s cs).characters)
seen (pointing s o g) = shifted (reply (receive_at s o g).answer) (shift_at s o g)

-- calls on an empty replica of site 16
abbrev pub after : List Call → Given
after cs = calling (initial 16) cs

-- a code point typed on it, for the visible text
abbrev pub typed : ℕ → Given
typed n = showing (initial 16) (inserting 0 n ∷ [])

-- replies: done with carried and thrown, waits, known, refused
abbrev pub Done : ℕ → ℕ → Reply
Done n m = record { word = done; integrated = n; discarded = m; refusal = 0 }

abbrev pub Waits : Reply
Waits = record { word = waits; integrated = 0; discarded = 0; refusal = 0 }

abbrev pub Known : Reply
Known = record { word = known; integrated = 0; discarded = 0; refusal = 0 }

abbrev pub Refused : ℕ → Reply
Refused n = record { word = refused; integrated = 0; discarded = 0; refusal = n }

-- the four inserts of 001, section 3.4
abbrev pub o1 : Call
o1 = ins (1 at 1) begin end

abbrev pub o2 : Call
o2 = ins (2 at 1) begin end

abbrev pub o3 : Call
o3 = ins (3 at 1) begin (1 at 1)

abbrev pub o4 : Call
o4 = ins (3 at 2) (1 at 1) end

-- a state of site 1 with the given characters, visible, and nothing pending
abbrev pub holding : List Insert → State
holding is = record { site = record { number = 1; clock = 9 }; characters = map character is; pending = [] }

-- P7's rows: 1/1 (begin, 2/1) and 2/1 (1/1, end)
abbrev pub naming_each_other : State
naming_each_other = holding (letter (1 at 1) begin (2 at 1) ∷ letter (2 at 1) (1 at 1) end ∷ [])

-- P8's shown text xyz
abbrev pub xyz : State
xyz = holding (letter (2 at 1) begin end ∷ letter (2 at 2) (2 at 1) end ∷ letter (2 at 3) (2 at 2) end ∷ [])

pub record Situation : Type 0 where
  pub given : Given
  pub expected : Seen

infix 10 ◌gives◌
abbrev pub ◌gives◌ : Given → Seen → Situation
g gives x = record { given = g; expected = x }

unfoldable pub table : List Situation
table =
    -- P1
    (after (o1 ∷ o3 ∷ o4 ∷ o2 ∷ [])
    gives calls (Done 1 0 ∷ Done 1 0 ∷ Done 1 0 ∷ Done 1 0 ∷ []) (3 at 1 ∷ 1 at 1 ∷ 2 at 1 ∷ 3 at 2 ∷ []))
    -- P2
    ∷ (after (o2 ∷ o1 ∷ o3 ∷ o4 ∷ [])
    gives calls (Done 1 0 ∷ Done 1 0 ∷ Done 1 0 ∷ Done 1 0 ∷ []) (3 at 1 ∷ 1 at 1 ∷ 2 at 1 ∷ 3 at 2 ∷ []))
    -- P3
    ∷ (after (o1 ∷ o3 ∷ o2 ∷ []) gives calls (Done 1 0 ∷ Done 1 0 ∷ Done 1 0 ∷ []) (3 at 1 ∷ 1 at 1 ∷ 2 at 1 ∷ []))
    -- P4, either arrival
    ∷ (after (o1 ∷ o2 ∷ []) gives calls (Done 1 0 ∷ Done 1 0 ∷ []) (1 at 1 ∷ 2 at 1 ∷ []))
    ∷ (after (o2 ∷ o1 ∷ []) gives calls (Done 1 0 ∷ Done 1 0 ∷ []) (1 at 1 ∷ 2 at 1 ∷ []))
    -- P5
    ∷ (after (o1 ∷ del 1 (1 at 1) ∷ ins (2 at 1) (1 at 1) end ∷ [])
    gives calls (Done 1 0 ∷ Done 1 0 ∷ Done 1 0 ∷ []) (1 at 1 ∷ 2 at 1 ∷ []))
    -- P6
    ∷ (after (o1 ∷ o2 ∷ ins (3 at 1) (2 at 1) (1 at 1) ∷ [])
    gives calls (Done 1 0 ∷ Done 1 0 ∷ Refused 8 ∷ []) (1 at 1 ∷ 2 at 1 ∷ []))
    -- P7
    ∷ (calling naming_each_other (ins (3 at 1) begin end ∷ []) gives calls (Refused 9 ∷ []) (1 at 1 ∷ 2 at 1 ∷ []))
    -- P8, with the neighbours that the typed character got
    ∷ (calling xyz (inserting 1 65 ∷ []) gives calls (Done 1 0 ∷ []) (2 at 1 ∷ 1 at 10 ∷ 2 at 2 ∷ 2 at 3 ∷ []))
    ∷ (carrying xyz (inserting 1 65 ∷ []) gives operations (insert (letter (1 at 10) (2 at 1) (2 at 2)) ∷ []))
    ∷ (calling xyz (inserting 4 65 ∷ []) gives calls (Refused 4 ∷ []) (2 at 1 ∷ 2 at 2 ∷ 2 at 3 ∷ []))
    -- P9, read with Req 01 of document 02: "P9's 127 becomes EF BF BD"
    ∷ (typed 127 gives bytes (0xEF ∷ 0xBF ∷ 0xBD ∷ []))
    ∷ (typed 128 gives bytes (0xC2 ∷ 0x80 ∷ []))
    ∷ (typed 2048 gives bytes (0xE0 ∷ 0xA0 ∷ 0x80 ∷ []))
    ∷ (typed 65536 gives bytes (0xF0 ∷ 0x90 ∷ 0x80 ∷ 0x80 ∷ []))
    ∷ []

-- each situation of a list gives what is expected
abbrev pub AllHold : List Situation → Type 0
AllHold ts = map (λ t. seen t.given) ts ≡ map (λ t. t.expected) ts

-- the table of situations marked P holds
abbrev pub SituationsHold : Type 0
SituationsHold = AllHold table

-- ---- cases that tell the rules from slips

-- deletes of 4/1 to 4/n by site 2, the last first
abbrev pub deletes_by2 : ℕ → List Operation
deletes_by2 zero = []
deletes_by2 (suc n) = delete_by 2 (4 at suc n) ∷ deletes_by2 n

-- a state of site 1 at the clock with the given characters, visible, and pending operations
abbrev pub state_at : ℕ → List Insert → List Operation → State
state_at clock is ps =
    record { site = record { number = 1; clock = clock }; characters = map character is; pending = ps }

-- an insert that waits for 7/7, which never comes
abbrev pub stray : Identifier → Operation
stray x = insert (letter x (7 at 7) end)

-- the slips that document 01 lists, and others in placing and draining
unfoldable pub slip_cases : List Situation
slip_cases =
    -- waiting edits totalled over all laptops
    (calling (state_at 0 [] (deletes_by2 31)) (del 2 (4 at 40) ∷ del 2 (4 at 41) ∷ del 3 (4 at 1) ∷ [])
    gives calls (Waits ∷ Refused 10 ∷ Waits ∷ []) [])
    -- hidden rows left out of the rows between, the new one put just below its previous, or just above its next
    ∷ (after (o1 ∷ del 1 (1 at 1) ∷ o2 ∷ []) gives calls (Done 1 0 ∷ Done 1 0 ∷ Done 1 0 ∷ []) (1 at 1 ∷ 2 at 1 ∷ []))
    ∷ (after (o2 ∷ del 1 (2 at 1) ∷ o1 ∷ []) gives calls (Done 1 0 ∷ Done 1 0 ∷ Done 1 0 ∷ []) (1 at 1 ∷ 2 at 1 ∷ []))
    -- every row between taken as a candidate
    ∷ (after (o1 ∷ o3 ∷ o2 ∷ []) gives calls (Done 1 0 ∷ Done 1 0 ∷ Done 1 0 ∷ []) (3 at 1 ∷ 1 at 1 ∷ 2 at 1 ∷ []))
    -- stopping without the narrower step
    ∷ (after (o1 ∷ ins (1 at 2) (1 at 1) end ∷ o2 ∷ [])
    gives calls (Done 1 0 ∷ Done 1 0 ∷ Done 1 0 ∷ []) (1 at 1 ∷ 1 at 2 ∷ 2 at 1 ∷ []))
    -- not stopping at the first that is not below, on a state that was only loaded
    ∷ (calling (state_at 9 (letter (1 at 1) begin end ∷ letter (5 at 1) begin end ∷ letter (2 at 1) begin end ∷ []) [])
    (ins (3 at 1) begin end ∷ [])
    gives calls (Done 1 0 ∷ []) (1 at 1 ∷ 3 at 1 ∷ 5 at 1 ∷ 2 at 1 ∷ []))
    -- identifiers ordered by clock first
    ∷ (after (ins (1 at 2) begin end ∷ o2 ∷ []) gives calls (Done 1 0 ∷ Done 1 0 ∷ []) (1 at 2 ∷ 2 at 1 ∷ []))
    -- one walk down the waiting list
    ∷ (after (ins (3 at 1) (2 at 1) end ∷ ins (2 at 1) (1 at 1) end ∷ o1 ∷ [])
    gives calls (Waits ∷ Waits ∷ Done 3 0 ∷ []) (1 at 1 ∷ 2 at 1 ∷ 3 at 1 ∷ []))
    -- walks repeated, but not from the front each time
    ∷ (carrying (initial 16) (ins (3 at 1) (2 at 1) end ∷ ins (2 at 1) (1 at 1) end ∷ del 5 (1 at 1) ∷ o1 ∷ [])
    gives operations (insert (letter (1 at 1) begin end) ∷ insert (letter (2 at 1) (1 at 1) end)
    ∷ insert (letter (3 at 1) (2 at 1) end) ∷ delete_by 5 (1 at 1) ∷ []))
    -- the last ready one carried out where the earliest is due
    ∷ (carrying (initial 16) (del 3 (1 at 1) ∷ del 5 (1 at 1) ∷ o1 ∷ [])
    gives operations (insert (letter (1 at 1) begin end) ∷ delete_by 3 (1 at 1) ∷ delete_by 5 (1 at 1) ∷ []))
    -- a drained erase of a row that is hidden already not counted
    ∷ (after (del 3 (1 at 1) ∷ del 5 (1 at 1) ∷ o1 ∷ del 7 (1 at 1) ∷ [])
    gives calls (Waits ∷ Waits ∷ Done 3 0 ∷ Known ∷ []) (1 at 1 ∷ []))
    -- a waiting insert that meets 8 carried out: previous equal to next, sent again it is refused
    ∷ (after (ins (2 at 1) (1 at 1) (1 at 1) ∷ o1 ∷ ins (2 at 1) (1 at 1) (1 at 1) ∷ [])
    gives calls (Waits ∷ Done 1 1 ∷ Refused 8 ∷ []) (1 at 1 ∷ []))
    -- a waiting insert that meets 9 carried out
    ∷ (calling (state_at 9 (letter (1 at 1) begin (2 at 1) ∷ letter (2 at 1) (1 at 1) end ∷ [])
    (insert (letter (3 at 1) begin (5 at 1)) ∷ [])) (ins (5 at 1) (2 at 1) end ∷ [])
    gives calls (Done 1 1 ∷ []) (1 at 1 ∷ 2 at 1 ∷ 5 at 1 ∷ []))
    -- typing that does not drain
    ∷ (calling (state_at 0 [] (insert (letter (2 at 1) (1 at 1) end) ∷ [])) (inserting 0 65 ∷ [])
    gives calls (Done 2 0 ∷ []) (1 at 1 ∷ 2 at 1 ∷ []))
    -- the clock not advanced, or counted from another start
    ∷ (after (inserting 0 65 ∷ inserting 1 66 ∷ inserting 0 67 ∷ [])
    gives calls (Done 1 0 ∷ Done 1 0 ∷ Done 1 0 ∷ []) (16 at 3 ∷ 16 at 1 ∷ 16 at 2 ∷ []))
    -- an erased row counted among the shown ones
    ∷ (after (inserting 0 65 ∷ deleting 1 ∷ deleting 1 ∷ inserting 1 66 ∷ inserting 0 66 ∷ [])
    gives calls (Done 1 0 ∷ Done 1 0 ∷ Refused 4 ∷ Refused 4 ∷ Done 1 0 ∷ []) (16 at 1 ∷ 16 at 2 ∷ []))
    -- the substitute of Req 01 put into the row and the line
    ∷ (carrying (initial 16) (inserting 0 127 ∷ [])
    gives operations (insert (record { id = 16 at 1; code_point = 127; previous = begin; next = end }) ∷ []))
    -- the hall program's example
    ∷ (after (ins_as 66 (2 at 1) (1 at 1) end ∷ o1 ∷ del 3 (1 at 1) ∷ o1 ∷ ins_as 67 (1 at 1) begin end ∷ [])
    gives calls (Waits ∷ Done 2 0 ∷ Done 1 0 ∷ Known ∷ Refused 7 ∷ []) (1 at 1 ∷ 2 at 1 ∷ []))
    -- an insert carried out whose neighbour only waits
    ∷ (after (ins (2 at 1) (1 at 1) end ∷ ins (3 at 1) (2 at 1) end ∷ ins (4 at 1) begin (2 at 1) ∷ [])
    gives calls (Waits ∷ Waits ∷ Waits ∷ []) [])
    ∷ []

-- answers given too early, too late, or never
unfoldable pub answer_cases : List Situation
answer_cases =
    -- 2 lets pass an insert that names itself, the end mark as previous, the begin mark as next, a surrogate
    (after (ins (1 at 1) (1 at 1) end ∷ ins (1 at 1) begin (1 at 1) ∷ []) gives calls (Refused 2 ∷ Refused 2 ∷ []) [])
    ∷ (after (ins (1 at 1) end end ∷ ins (1 at 1) begin begin ∷ []) gives calls (Refused 2 ∷ Refused 2 ∷ []) [])
    ∷ (after (ins_as 55296 (1 at 1) begin end ∷ []) gives calls (Refused 2 ∷ []) [])
    -- 3 passes a number out of range, 33 waiting of one sender
    ∷ (calling (state_at 9 [] (delete_by 17 (1 at 1) ∷ [])) (o2 ∷ []) gives calls (Refused 3 ∷ []) [])
    ∷ (calling (state_at 9 [] (deletes_by2 33)) (o2 ∷ []) gives calls (Refused 3 ∷ []) [])
    -- 3 passes a row above its previous, an identifier held twice, an erase waiting twice, one that has all it needs
    ∷ (calling (state_at 9 (letter (1 at 1) (2 at 1) end ∷ letter (2 at 1) begin end ∷ []) []) (del 3 (1 at 1) ∷ [])
    gives calls (Refused 3 ∷ []) (1 at 1 ∷ 2 at 1 ∷ []))
    ∷ (calling (state_at 9 (letter (1 at 1) begin end ∷ letter (1 at 1) begin end ∷ []) []) (del 3 (1 at 1) ∷ [])
    gives calls (Refused 3 ∷ []) (1 at 1 ∷ 1 at 1 ∷ []))
    ∷ (calling (state_at 9 (letter (1 at 1) begin end ∷ []) (stray (1 at 1) ∷ [])) (del 3 (1 at 1) ∷ [])
    gives calls (Refused 3 ∷ []) (1 at 1 ∷ []))
    ∷ (calling (state_at 9 [] (delete_by 3 (1 at 1) ∷ delete_by 3 (1 at 1) ∷ [])) (o2 ∷ [])
    gives calls (Refused 3 ∷ []) [])
    ∷ (calling (state_at 9 [] (insert (letter (1 at 1) begin end) ∷ [])) (o2 ∷ []) gives calls (Refused 3 ∷ []) [])
    -- known does not see a waiting insert, or a waiting erase
    ∷ (after (ins (2 at 1) (1 at 1) end ∷ ins (2 at 1) (1 at 1) end
    ∷ del 3 (1 at 1) ∷ del 3 (1 at 1) ∷ del 4 (1 at 1) ∷ [])
    gives calls (Waits ∷ Known ∷ Waits ∷ Known ∷ Waits ∷ []) [])
    -- 5 one clock too early, or too late
    ∷ (calling (state_at 65534 [] []) (inserting 0 65 ∷ inserting 0 65 ∷ [])
    gives calls (Done 1 0 ∷ Refused 5 ∷ []) (1 at 65535 ∷ []))
    -- 7 by the rows alone
    ∷ (after (ins (2 at 1) (1 at 1) end ∷ ins_as 67 (2 at 1) (1 at 1) end ∷ []) gives calls (Waits ∷ Refused 7 ∷ []) [])
    -- 8 reported before 7
    ∷ (after (o1 ∷ o2 ∷ ins (3 at 1) begin end ∷ ins (3 at 1) (2 at 1) (1 at 1) ∷ [])
    gives calls (Done 1 0 ∷ Done 1 0 ∷ Done 1 0 ∷ Refused 7 ∷ []) (1 at 1 ∷ 2 at 1 ∷ 3 at 1 ∷ []))
    -- a gap or a place that begins anew after the largest number of 64 bits
    ∷ (calling xyz (inserting last_number 65 ∷ deleting last_number ∷ [])
    gives calls (Refused 4 ∷ Refused 4 ∷ []) (2 at 1 ∷ 2 at 2 ∷ 2 at 3 ∷ []))
    ∷ []

-- document 02, Req 04: the clock not raised, raised where it should not be, or lowered; it shows in what is typed next
unfoldable pub clock_cases : List Situation
clock_cases =
    -- no raise where an own insert is carried out, or where it starts to wait
    (after (ins (16 at 5) begin end ∷ inserting 0 65 ∷ [])
    gives calls (Done 1 0 ∷ Done 1 0 ∷ []) (16 at 6 ∷ 16 at 5 ∷ []))
    ∷ (after (ins (16 at 7) (1 at 1) end ∷ inserting 0 65 ∷ o1 ∷ inserting 0 66 ∷ [])
    gives calls (Waits ∷ Done 1 0 ∷ Done 2 0 ∷ Done 1 0 ∷ []) (16 at 9 ∷ 1 at 1 ∷ 16 at 7 ∷ 16 at 8 ∷ []))
    -- raised to the lower, or by one
    ∷ (after (ins (16 at 5) begin end ∷ ins (16 at 2) begin end ∷ inserting 2 65 ∷ [])
    gives calls (Done 1 0 ∷ Done 1 0 ∷ Done 1 0 ∷ []) (16 at 2 ∷ 16 at 5 ∷ 16 at 6 ∷ []))
    -- raised by another site's insert
    ∷ (after (ins (3 at 9) begin end ∷ inserting 0 65 ∷ [])
    gives calls (Done 1 0 ∷ Done 1 0 ∷ []) (16 at 1 ∷ 3 at 9 ∷ []))
    -- raised by an insert that is refused
    ∷ (after (o1 ∷ o2 ∷ ins (16 at 9) (2 at 1) (1 at 1) ∷ inserting 2 65 ∷ [])
    gives calls (Done 1 0 ∷ Done 1 0 ∷ Refused 8 ∷ Done 1 0 ∷ []) (1 at 1 ∷ 2 at 1 ∷ 16 at 1 ∷ []))
    -- lowered where a waiting insert is thrown out
    ∷ (after (ins (16 at 9) (1 at 1) (1 at 1) ∷ o1 ∷ inserting 1 65 ∷ [])
    gives calls (Waits ∷ Done 1 1 ∷ Done 1 0 ∷ []) (1 at 1 ∷ 16 at 10 ∷ []))
    -- 6 where the clock has come to its end, for 5
    ∷ (after (ins (16 at 65535) begin end ∷ inserting 0 65 ∷ [])
    gives calls (Done 1 0 ∷ Refused 5 ∷ []) (16 at 65535 ∷ []))
    -- 3 passes a clock below that of an own row or waiting insert, or asks it of another site's
    ∷ (calling (state_at 0 (letter (1 at 1) begin end ∷ []) []) (inserting 0 65 ∷ [])
    gives calls (Refused 3 ∷ []) (1 at 1 ∷ []))
    ∷ (calling (state_at 0 [] (stray (1 at 1) ∷ [])) (inserting 0 65 ∷ []) gives calls (Refused 3 ∷ []) [])
    ∷ (calling (state_at 1 (letter (1 at 1) begin end ∷ letter (2 at 5) begin end ∷ []) (stray (3 at 7) ∷ []))
    (inserting 2 65 ∷ [])
    gives calls (Done 1 0 ∷ []) (1 at 1 ∷ 2 at 5 ∷ 1 at 2 ∷ []))
    ∷ []

-- a state of site 1 with one character, of so many toggles
abbrev pub toggled_to : ℕ → State
toggled_to k =
    record {
      site = record { number = 1; clock = 9 };
      characters = with_toggles (character (letter (2 at 1) begin end)) k ∷ [];
      pending = [];
    }

-- document 02, Req 05: turns taken for shown and hidden, counted wrongly, or compared wrongly
unfoldable pub toggle_cases : List Situation
toggle_cases =
    -- a turn that is not larger carried out, or a larger one known
    (after (o1 ∷ tog 3 (1 at 1) 2 ∷ del 3 (1 at 1) ∷ tog 4 (1 at 1) 2 ∷ tog 4 (1 at 1) 3 ∷ [])
    gives calls (Done 1 0 ∷ Done 1 0 ∷ Known ∷ Known ∷ Done 1 0 ∷ []) (1 at 1 ∷ []))
    -- the smaller turn stays, or the row takes the one that comes last
    ∷ (showing (initial 16) (o1 ∷ tog 3 (1 at 1) 2 ∷ del 3 (1 at 1) ∷ []) gives bytes (65 ∷ []))
    ∷ (showing (initial 16) (tog 3 (1 at 1) 2 ∷ del 5 (1 at 1) ∷ o1 ∷ []) gives bytes (65 ∷ []))
    ∷ (showing (initial 16) (o1 ∷ tog 3 (1 at 1) 2 ∷ tog 3 (1 at 1) 5 ∷ []) gives bytes [])
    -- waiting ones compared without their turn; a drained one that is not larger not counted
    ∷ (after (del 3 (1 at 1) ∷ tog 3 (1 at 1) 1 ∷ tog 3 (1 at 1) 2 ∷ o1 ∷ [])
    gives calls (Waits ∷ Known ∷ Waits ∷ Done 3 0 ∷ []) (1 at 1 ∷ []))
    ∷ (after (tog 3 (1 at 1) 2 ∷ del 5 (1 at 1) ∷ o1 ∷ []) gives calls (Waits ∷ Waits ∷ Done 3 0 ∷ []) (1 at 1 ∷ []))
    -- a waiting one known by a larger turn of its sender that waits
    ∷ (after (tog 3 (1 at 1) 2 ∷ tog 3 (1 at 1) 1 ∷ []) gives calls (Waits ∷ Waits ∷ []) [])
    -- one whose row only waits carried out
    ∷ (after (ins (1 at 1) (7 at 7) end ∷ del 3 (1 at 1) ∷ []) gives calls (Waits ∷ Waits ∷ []) [])
    -- two turns of one row counted once among a sender's 32
    ∷ (calling (state_at 0 [] (deletes_by2 31)) (tog 2 (4 at 1) 2 ∷ tog 2 (4 at 2) 2 ∷ [])
    gives calls (Waits ∷ Refused 10 ∷ []) [])
    -- 2 lets pass turn 0, or 256
    ∷ (after (o1 ∷ tog 3 (1 at 1) 0 ∷ tog 3 (1 at 1) 256 ∷ [])
    gives calls (Done 1 0 ∷ Refused 2 ∷ Refused 2 ∷ []) (1 at 1 ∷ []))
    -- 3 passes a row of turn 256 or a waiting one of turn 0, or refuses turn 255 or two turns of one row
    ∷ (calling (toggled_to 256) (del 3 (5 at 1) ∷ []) gives calls (Refused 3 ∷ []) (2 at 1 ∷ []))
    ∷ (calling (toggled_to 255) (del 3 (5 at 1) ∷ []) gives calls (Waits ∷ []) (2 at 1 ∷ []))
    ∷ (calling (state_at 9 [] (toggle_by 3 (1 at 1) 0 ∷ [])) (o2 ∷ []) gives calls (Refused 3 ∷ []) [])
    ∷ (calling (state_at 9 [] (toggle_by 3 (1 at 1) 1 ∷ toggle_by 3 (1 at 1) 2 ∷ [])) (o2 ∷ [])
    gives calls (Done 1 0 ∷ []) (2 at 1 ∷ []))
    -- restoring a mark, what is not held, what only waits, what is shown
    ∷ (after (restoring begin ∷ restoring (1 at 1) ∷ ins (1 at 1) (7 at 7) end ∷ restoring (1 at 1) ∷ [])
    gives calls (Refused 2 ∷ Refused 13 ∷ Waits ∷ Refused 13 ∷ []) [])
    ∷ (after (o1 ∷ restoring (1 at 1) ∷ del 3 (1 at 1) ∷ restoring (1 at 1) ∷ restoring (1 at 1) ∷ [])
    gives calls (Done 1 0 ∷ Refused 13 ∷ Done 1 0 ∷ Done 1 0 ∷ Refused 13 ∷ []) (1 at 1 ∷ []))
    -- what erasing and restoring send: the next turn, from here
    ∷ (carrying (initial 16) (o1 ∷ del 3 (1 at 1) ∷ restoring (1 at 1) ∷ deleting 1 ∷ [])
    gives operations (insert (letter (1 at 1) begin end) ∷ delete_by 3 (1 at 1) ∷ toggle_by 16 (1 at 1) 2
    ∷ toggle_by 16 (1 at 1) 3 ∷ []))
    -- 14 one turn early, or a turn that begins anew after the last
    ∷ (calling (toggled_to 253) (restoring (2 at 1) ∷ deleting 1 ∷ restoring (2 at 1) ∷ [])
    gives calls (Done 1 0 ∷ Done 1 0 ∷ Refused 14 ∷ []) (2 at 1 ∷ []))
    -- a hidden row takes no turn, as a deleted one took no second delete
    ∷ (after (o1 ∷ del 3 (1 at 1) ∷ tog 4 (1 at 1) 2 ∷ tog 5 (1 at 1) 3 ∷ tog 6 (1 at 1) 5 ∷ [])
    gives calls (Done 1 0 ∷ Done 1 0 ∷ Done 1 0 ∷ Done 1 0 ∷ Done 1 0 ∷ []) (1 at 1 ∷ []))
    -- 2 lets pass an identifier that is no character's
    ∷ (after (restoring end ∷ restoring (0 at 5) ∷ restoring (17 at 1) ∷ restoring (1 at 0)
    ∷ restoring (1 at 65536) ∷ [])
    gives calls (Refused 2 ∷ Refused 2 ∷ Refused 2 ∷ Refused 2 ∷ Refused 2 ∷ []) [])
    -- the user's story: what was erased is brought back, and stands where it stood
    ∷ (showing (initial 16)
    (inserting 0 120 ∷ inserting 1 121 ∷ inserting 2 122 ∷ deleting 2 ∷ restoring (16 at 2) ∷ [])
    gives bytes (120 ∷ 121 ∷ 122 ∷ []))
    ∷ []

-- rows 2/1, 2/2, 2/3 of these turns, one below the other
abbrev pub three_rows : ℕ → ℕ → ℕ → State
three_rows a b c =
    record {
      site = record { number = 1; clock = 9 };
      characters =
          with_toggles (character (letter (2 at 1) begin end)) a
          ∷ with_toggles (character (letter (2 at 2) (2 at 1) end)) b
          ∷ with_toggles (character (letter (2 at 3) (2 at 2) end)) c
          ∷ [];
      pending = [];
    }

-- an insert of 3/1
abbrev pub new : Identifier → Identifier → Operation
new p n = insert (letter (3 at 1) p n)

-- document 02, Req 02: the cursor moved where it should stay, left behind, or looked at too early or too late
unfoldable pub cursor_cases : List Situation
cursor_cases =
    -- a row exactly at the cursor moves it, or one below it; one above it does not
    (pointing xyz (new (2 at 1) (2 at 2)) 1 gives shifted (Done 1 0) (pos 0))
    ∷ (pointing xyz (new begin (2 at 1)) 0 gives shifted (Done 1 0) (pos 0))
    ∷ (pointing xyz (new (2 at 2) (2 at 3)) 1 gives shifted (Done 1 0) (pos 0))
    ∷ (pointing xyz (new begin (2 at 1)) 1 gives shifted (Done 1 0) (pos 1))
    ∷ (pointing (three_rows 0 1 0) (new (2 at 2) (2 at 3)) 1 gives shifted (Done 1 0) (pos 0))
    -- the left row, hidden, still counted; one above it, or one below it
    ∷ (pointing xyz (delete_by 3 (2 at 2)) 2 gives shifted (Done 1 0) (negsuc 0))
    ∷ (pointing xyz (delete_by 3 (2 at 1)) 2 gives shifted (Done 1 0) (negsuc 0))
    ∷ (pointing xyz (delete_by 3 (2 at 3)) 2 gives shifted (Done 1 0) (pos 0))
    ∷ (pointing (three_rows 0 1 0) (delete_by 3 (2 at 3)) 2 gives shifted (Done 1 0) (negsuc 0))
    -- a turn taken for an erase: a row above that is shown, the left row from 0 to 2 and from 0 to 3
    ∷ (pointing (three_rows 1 0 0) (toggle_by 3 (2 at 1) 2) 1 gives shifted (Done 1 0) (pos 1))
    ∷ (pointing xyz (toggle_by 3 (2 at 1) 2) 1 gives shifted (Done 1 0) (pos 0))
    ∷ (pointing xyz (toggle_by 3 (2 at 1) 3) 1 gives shifted (Done 1 0) (negsuc 0))
    -- what is drained not counted, or one that is hidden on the way counted
    ∷ (pointing (state_at 9 (letter (2 at 1) begin end ∷ []) (insert (letter (4 at 1) (3 at 1) (2 at 1)) ∷ []))
    (new begin (2 at 1)) 1
    gives shifted (Done 2 0) (pos 2))
    ∷ (pointing (state_at 9 (letter (2 at 1) begin end ∷ []) (delete_by 4 (3 at 1) ∷ [])) (new begin (2 at 1)) 1
    gives shifted (Done 2 0) (pos 0))
    -- hidden rows counted in a gap
    ∷ (pointing (three_rows 0 1 0) (new begin (2 at 1)) 2 gives shifted (Done 1 0) (pos 1))
    ∷ (pointing (three_rows 0 1 0) (new begin (2 at 1)) 3 gives shifted (Refused 4) (pos 0))
    -- a gap that begins anew after the largest number of 64 bits
    ∷ (pointing xyz (new begin end) last_number gives shifted (Refused 4) (pos 0))
    -- 4 before known, before 2 or before 3, or after 7 or waits
    ∷ (pointing xyz (insert (letter (2 at 1) begin end)) 4 gives shifted Known (pos 0))
    ∷ (pointing xyz (new begin begin) 4 gives shifted (Refused 2) (pos 0))
    ∷ (pointing (three_rows 256 0 0) (new begin end) 4 gives shifted (Refused 3) (pos 0))
    ∷ (pointing xyz (insert (letter (2 at 1) begin (2 at 2))) 4 gives shifted (Refused 4) (pos 0))
    ∷ (pointing xyz (insert (letter (2 at 1) begin (2 at 2))) 3 gives shifted (Refused 7) (pos 0))
    ∷ (pointing xyz (new (7 at 7) end) 4 gives shifted (Refused 4) (pos 0))
    ∷ (pointing xyz (new (7 at 7) end) 3 gives shifted Waits (pos 0))
    ∷ []

-- the identifier counted n from 0 of 512, of which each site has 32
abbrev pub numbered : ℕ → Identifier
numbered n = (n / 32 + 1) at (n % 32 + 2)

-- m inserts from the one counted n on, each of which goes to the top, above x and then above the one before
abbrev pub upward : ℕ → ℕ → Identifier → List Operation
upward zero n x = []
upward (suc m) n x = insert (letter (numbered n) begin x) ∷ upward m (suc n) (numbered n)

-- a row that stands alone, and 512 inserts that wait for the one below, each above the one before and so above the row
unfoldable pub crowded : State
crowded = state_at 99 (letter (1 at 1) begin end ∷ []) (upward 512 0 (1 at 99))

unfoldable pub releasing : Operation
releasing = insert (letter (1 at 99) begin (1 at 1))

-- m rows between the marks, of site 1 and with clocks from n on
abbrev pub rows_from : ℕ → ℕ → List Insert
rows_from n zero = []
rows_from n (suc m) = letter (1 at n) begin end ∷ rows_from (suc n) m

-- "1,023 rows and one waiting insert"
unfoldable pub full : State
full = state_at 1023 (rows_from 1 1023) (stray (2 at 1) ∷ [])

-- what an operation is answered there; that it is in form is too much to compute, so it is proved in `convergence`
abbrev pub on_full : Operation → Reply
on_full o = reply (receive_when true full o).answer

-- "a typed character is refusal 11; a known insert is still known"; of what is received an insert alone meets 11
abbrev pub FullTells : Type 0
FullTells =
    (reply (answer_of (local_insert_when true full 0 65).answer) ≡ Refused 11)
    × (on_full (insert (letter (3 at 1) begin (1 at 1))) ≡ Refused 11)
    × (on_full (stray (3 at 1)) ≡ Refused 11)
    × (on_full (insert (letter (1 at 7) begin end)) ≡ Known)
    × (on_full (stray (2 at 1)) ≡ Known)
    × (on_full (delete_by 3 (1 at 7)) ≡ Done 1 0)
    × (on_full (delete_by 3 (2 at 1)) ≡ Waits)

-- "the shift lies between -1 and 513": -1 where the left row is hidden
abbrev pub LowestShift : Type 0
LowestShift = seen (pointing xyz (delete_by 3 (2 at 1)) 1) ≡ shifted (Done 1 0) (negsuc 0)

-- and 513 where one call puts as many rows above it: too many to compute with, so it is proved in `convergence`
abbrev pub HighestShift : Type 0
HighestShift = seen (pointing crowded releasing 1) ≡ shifted (Done 513 0) (pos 513)

-- the first character typed where the operation waits: the reply, and the gap just below its row
abbrev pub typed_where : Operation → Reply × ℕ
typed_where o =
    let r = outcome (state_at 0 [] (o ∷ [])) (inserting 0 65) in
    (reply r.answer, visible_through r.state.characters (1 at 1))

-- one further than the gap it was typed at, but for what waited for it: it is hidden at once, or a row goes above it
abbrev pub TypedElsewhere : Type 0
TypedElsewhere =
    (typed_where (delete_by 2 (4 at 1)) ≡ (Done 1 0, 1))
    × (typed_where (insert (letter (2 at 1) (1 at 1) end)) ≡ (Done 2 0, 1))
    × (typed_where (delete_by 2 (1 at 1)) ≡ (Done 2 0, 0))
    × (typed_where (insert (letter (2 at 1) begin (1 at 1))) ≡ (Done 2 0, 2))

-- each case tells the rule from the slip that its comment names
abbrev pub CasesTell : Type 0
CasesTell = AllHold slip_cases × AllHold answer_cases × AllHold clock_cases × AllHold toggle_cases × AllHold cursor_cases

-- the largest turn is of all that were carried out of that character, whoever sent them and in whatever order; and of
-- what was carried out, whatever turn its row has
abbrev pub LargestTells : Type 0
LargestTells =
    (largest_in (1 at 1) (delete_by 3 (1 at 1) ∷ toggle_by 4 (1 at 1) 2 ∷ toggle_by 5 (2 at 1) 9 ∷ []) ≡ 2)
    × (largest_in (1 at 1) (toggle_by 3 (1 at 1) 2 ∷ delete_by 5 (1 at 1) ∷ insert (letter (1 at 1) begin end) ∷ []) ≡ 2)
    × (largest_in (2 at 1) (integrated_by (toggled_to 4) []) ≡ 0)

-- ---- the checking order

-- the refusals of a list of checks by their numbers
abbrev pub sent_numbers_of : List (Check Sending) → List ℕ
sent_numbers_of cs = map (λ c. (reply (answer_of c.answer)).refusal) cs

-- receiving meets 2, 3, known, 7, 8, 9, 10, 11, with a cursor 4 after known; typing 2, 3, 4, 5, 6 (reserved), 9, 11;
-- erasing 3, 4; restoring 2, 3, 13, 14: in this order, on any state
pub record CheckingOrder (formed : Bool) (s : State) : Type 0 where
  pub receiving-meets : (o : Operation) → numbers_of (receive_checks formed s o) ≡ 2 ∷ 3 ∷ 0 ∷ 7 ∷ 8 ∷ 9 ∷ 10 ∷ 11 ∷ []
  pub receiving-at-meets :
      (o : Operation) (g : ℕ) → numbers_of (receive_at_checks formed s o g) ≡ 2 ∷ 3 ∷ 0 ∷ 4 ∷ 7 ∷ 8 ∷ 9 ∷ 10 ∷ 11 ∷ []
  pub inserting-meets : (g n : ℕ) → sent_numbers_of (insert_checks formed s g n) ≡ 2 ∷ 3 ∷ 4 ∷ 5 ∷ 6 ∷ 9 ∷ 11 ∷ []
  pub deleting-meets : (p : ℕ) → sent_numbers_of (delete_checks formed s p) ≡ 3 ∷ 4 ∷ []
  pub restoring-meets : (x : Identifier) → sent_numbers_of (restore_checks formed s x) ≡ 2 ∷ 3 ∷ 13 ∷ 14 ∷ []
  -- and by rising rank, so that the first that holds is the lowest
  pub receiving-rises : (o : Operation) → rises (ranks_of (map (λ c. c.answer) (receive_checks formed s o))) ≡ true
  pub receiving-at-rises :
      (o : Operation) (g : ℕ) → rises (ranks_of (map (λ c. c.answer) (receive_at_checks formed s o g))) ≡ true
  pub inserting-rises : (g n : ℕ) → rises (ranks_of (map (λ c. answer_of c.answer) (insert_checks formed s g n))) ≡ true
  pub deleting-rises : (p : ℕ) → rises (ranks_of (map (λ c. answer_of c.answer) (delete_checks formed s p))) ≡ true
  pub restoring-rises :
      (x : Identifier) → rises (ranks_of (map (λ c. answer_of c.answer) (restore_checks formed s x))) ≡ true
