-- Blocks that tell the rule of pasting from slips, and the order of its refusals. Proved in `proofs/PasteCases.antt`.
use Rattle.std.specs.Prelude.{ℕ, ◌≡◌, Bool, true, false, List, [], ◌∷◌, map}
use Rattle.woot.specs.declared.Identifier.{Identifier}
use Rattle.woot.specs.declared.Insert.{Insert}
use Rattle.woot.specs.declared.Operation.TheVariants.{Insert as insert}
use Rattle.woot.specs.Identifiers.{begin, end}
use Rattle.woot.specs.Operations.{character, with_toggles, inserts}
use Rattle.woot.specs.State.{State}
use Rattle.woot.specs.Placing.{identifiers}
use Rattle.answers.specs.Answers.{Reply, reply}
use Rattle.woot.specs.Situations.{◌at◌, letter, delete_by, state_at, rows_from, toggled_to, full, Done, Refused}
use Rattle.answers.specs.Order.{numbers_of}
use Rattle.bulk.specs.Pasting.{PasteOutcome, overfull, paste_checks, paste_when, paste}

-- a state, a gap and a block; what is seen: the reply, the identifiers from the top, and what stood above each
-- character when it was typed
pub record Case : Type 0 where
  pub state : State
  pub gap : ℕ
  pub block : List ℕ
  pub replied : Reply
  pub rows : List Identifier
  pub above : List Identifier

-- the case with what is seen in truth
abbrev pub tried : Case → Case
tried c =
    let w : PasteOutcome = paste c.state c.gap c.block in
    record {
      state = c.state;
      gap = c.gap;
      block = c.block;
      replied = reply w.answer;
      rows = identifiers w.state.characters;
      above = map (λ i. i.previous) (inserts w.own);
    }

abbrev pub case : State → ℕ → List ℕ → Reply → List Identifier → List Identifier → Case
case s g block r xs ys = record { state = s; gap = g; block = block; replied = r; rows = xs; above = ys }

-- blocks of one character and of two
abbrev pub a : List ℕ
a = 0x61 ∷ []

abbrev pub ab : List ℕ
ab = 0x61 ∷ 0x62 ∷ []

-- a state of site 5 whose rows are all hidden
abbrev pub hidden_rows : ℕ → List Insert → State
hidden_rows clock is =
    record {
      site = record { number = 5; clock = clock };
      characters = map (λ i. with_toggles (character i) 1) is;
      pending = [];
    }

-- P7's rows, hidden: whatever is typed meets 9
abbrev pub shut : ℕ → State
shut clock = hidden_rows clock (letter (1 at 1) begin (2 at 1) ∷ letter (2 at 1) (1 at 1) end ∷ [])

-- the first character goes below 1/1 and finds its place; the second goes below 1/2, where 2/1 and 2/2 name each other
abbrev pub shut_behind : State
shut_behind =
    hidden_rows 0
    (letter (1 at 1) begin end ∷ letter (9 at 1) (1 at 1) (9 at 2) ∷ letter (1 at 2) (1 at 1) end
    ∷ letter (2 at 1) (1 at 2) (2 at 2)
    ∷ letter (2 at 2) (2 at 1) (9 at 2)
    ∷ letter (9 at 2) begin end
    ∷ [])

unfoldable pub paste_cases : List Case
paste_cases =
    -- the second at the gap of the first; characters of one byte to four
    case (state_at 0 [] []) 0 (0x61 ∷ 0xC3 ∷ 0xA9 ∷ 0xE2 ∷ 0x82 ∷ 0xAC ∷ 0xF0 ∷ 0x9F ∷ 0x98 ∷ 0x80 ∷ []) (Done 4 0)
    (1 at 1 ∷ 1 at 2 ∷ 1 at 3 ∷ 1 at 4 ∷ []) (begin ∷ 1 at 1 ∷ 1 at 2 ∷ 1 at 3 ∷ [])
    -- a row hidden at once counted: "the gap below the nearest shown row above it is used", "or gap 0"
    ∷ case (state_at 0 (letter (2 at 1) begin end ∷ []) (delete_by 2 (1 at 1) ∷ [])) 1 ab (Done 3 0)
    (2 at 1 ∷ 1 at 1 ∷ 1 at 2 ∷ []) (2 at 1 ∷ 2 at 1 ∷ [])
    ∷ case (state_at 0 [] (delete_by 2 (1 at 1) ∷ [])) 0 ab (Done 3 0) (1 at 1 ∷ 1 at 2 ∷ []) (begin ∷ begin ∷ [])
    -- the gap not moved past what was drained above
    ∷ case (state_at 0 [] (insert (letter (2 at 1) begin (1 at 1)) ∷ [])) 0 ab (Done 3 0) (2 at 1 ∷ 1 at 1 ∷ 1 at 2 ∷ [])
    (begin ∷ 1 at 1 ∷ [])
    -- what is thrown out not counted
    ∷ case (state_at 0 [] (insert (letter (2 at 1) (1 at 1) (1 at 1)) ∷ [])) 0 ab (Done 2 1) (1 at 1 ∷ 1 at 2 ∷ [])
    (begin ∷ 1 at 1 ∷ [])
    -- 5 one clock early or late, or after the characters that the clock reaches
    ∷ case (state_at 65533 [] []) 0 ab (Done 2 0) (1 at 65534 ∷ 1 at 65535 ∷ []) (begin ∷ 1 at 65534 ∷ [])
    ∷ case (state_at 65534 [] []) 0 ab (Refused 5) [] []
    -- 9 at a later character leaves those before it, or is looked at before 5
    ∷ case shut_behind 0 a (Done 1 0) (1 at 1 ∷ 5 at 1 ∷ 9 at 1 ∷ 1 at 2 ∷ 2 at 1 ∷ 2 at 2 ∷ 9 at 2 ∷ []) (begin ∷ [])
    ∷ case shut_behind 0 ab (Refused 9) (1 at 1 ∷ 9 at 1 ∷ 1 at 2 ∷ 2 at 1 ∷ 2 at 2 ∷ 9 at 2 ∷ []) []
    ∷ case (shut 0) 0 a (Refused 9) (1 at 1 ∷ 2 at 1 ∷ []) []
    ∷ case (shut 65534) 0 ab (Refused 5) (1 at 1 ∷ 2 at 1 ∷ []) []
    -- an empty block where typing could not go on, or with 3 or 4 let pass
    ∷ case (state_at 65535 [] []) 0 [] (Done 0 0) [] []
    ∷ case (shut 0) 0 [] (Done 0 0) (1 at 1 ∷ 2 at 1 ∷ []) []
    ∷ case (state_at 0 [] []) 1 [] (Refused 4) [] []
    ∷ case (toggled_to 256) 0 [] (Refused 3) (2 at 1 ∷ []) []
    -- 20 after 3, or not for what a block ends with; 3 after 4, 4 after 5
    ∷ case (toggled_to 256) 9 (0xC0 ∷ 0x80 ∷ []) (Refused 20) (2 at 1 ∷ []) []
    ∷ case (state_at 0 [] []) 0 (0x61 ∷ 0xE2 ∷ 0x82 ∷ []) (Refused 20) [] []
    ∷ case (toggled_to 256) 9 a (Refused 3) (2 at 1 ∷ []) []
    ∷ case (state_at 65535 [] []) 1 a (Refused 4) [] []
    ∷ []

-- each block gives what is expected
abbrev pub PasteTells : Type 0
PasteTells = map tried paste_cases ≡ paste_cases

-- 1,022 rows, and a waiting insert that the first character throws out, so that one by one two could be typed
unfoldable pub room_to_be_made : State
room_to_be_made = state_at 1022 (rows_from 1 1022) (insert (letter (2 at 1) (1 at 1023) (1 at 1023)) ∷ [])

-- 11 by what is there once something is thrown out, or for a block that just fits; an empty one on a full sheet
abbrev pub PasteFullTells : Type 0
PasteFullTells =
    (reply (paste_when true room_to_be_made 0 ab).answer ≡ Refused 11)
    × (overfull room_to_be_made 1 ≡ false)
    × (reply (paste_when true full 0 a).answer ≡ Refused 11)
    × (reply (paste_when true full 0 []).answer ≡ Done 0 0)

-- pasting meets 20, 3, 4, 5, and 11 "here before 9", in this order, on any state
abbrev pub PasteOrder : Type 0
PasteOrder =
    (formed : Bool) (s : State) (g : ℕ) (block : List ℕ) →
    numbers_of (paste_checks formed s g block) ≡ 20 ∷ 3 ∷ 4 ∷ 5 ∷ 11 ∷ 9 ∷ []
