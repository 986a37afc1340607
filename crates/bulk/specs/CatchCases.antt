-- Lists and answers that tell the rules of catching up from slips, and the order of the refusals. Proved in
-- `proofs/CatchCases.antt`.
use Rattle.std.specs.Prelude.{ℕ, ◌+◌, ◌^◌, ◌≡◌, Bool, true, false, List, [], ◌∷◌, map, length}
use Rattle.woot.specs.declared.Identifier.{Identifier}
use Rattle.woot.specs.declared.Insert.{Insert}
use Rattle.woot.specs.declared.Operation.{Operation}
use Rattle.woot.specs.declared.Operation.TheVariants.{Insert as insert}
use Rattle.woot.specs.declared.Character.{Character}
use Rattle.woot.specs.Identifiers.{begin, end}
use Rattle.woot.specs.Operations.{character, with_toggles}
use Rattle.woot.specs.State.{State}
use Rattle.answers.specs.Answers.{number, rank}
use Rattle.answers.specs.Order.{rises}
use Rattle.woot.specs.Situations.{◌at◌, letter, toggle_by, stray, state_at, holding, naming_each_other}
use Rattle.bulk.specs.LoadCases.{rows_of}
use Rattle.bulk.specs.Catching.{Chunk, Listing, last_index, last_word, listed_in, chunks_of, listing, answer_for}
use Rattle.bulk.specs.Catching.{listing_in_range, mislisted, list_checks, answer_checks}

abbrev pub chunk : ℕ → ℕ → ℕ → Chunk
chunk n i w = record { site = n; index = i; word = w }

abbrev pub list : ℕ → ℕ → List Chunk → Listing
list n k ks = record { site = n; total = k; chunks = ks }

-- ---- words

-- bit 0 stands for clock 64 times index, and the last bit of index 1,023 for 65,535; in whatever order the rows stand
abbrev pub WordsTell : Type 0
WordsTell =
    let ks = chunk 1 0 (2 + 2 ^ 63) ∷ chunk 1 1 1 ∷ chunk 2 last_index (2 ^ 63) ∷ [] in
    (chunks_of (1 at 1 ∷ 1 at 63 ∷ 1 at 64 ∷ 2 at 65535 ∷ []) ≡ ks)
    × (chunks_of (1 at 64 ∷ 2 at 65535 ∷ 1 at 63 ∷ 1 at 1 ∷ []) ≡ ks)

-- a chunk of one bit marks one clock of one site
abbrev pub MarksTell : Type 0
MarksTell =
    map (listed_in (chunk 3 1 1 ∷ [])) (3 at 64 ∷ 3 at 63 ∷ 3 at 65 ∷ 3 at 0 ∷ 3 at 128 ∷ 2 at 64 ∷ [])
    ≡ true ∷ false ∷ false ∷ false ∷ false ∷ false ∷ []

-- ---- the list of a replica

-- a state, and its list
pub record ListCase : Type 0 where
  pub state : State
  pub listed : Listing

-- the case with the list in truth
abbrev pub list_tried : ListCase → ListCase
list_tried c = record { state = c.state; listed = listing c.state }

abbrev pub list_case : State → Listing → ListCase
list_case s l = record { state = s; listed = l }

-- a character toggled so often
abbrev pub toggled : ℕ → Insert → Character
toggled n i = with_toggles (character i) n

-- the same on a replica of site n
abbrev pub of_site : ℕ → State → State
of_site n s =
    record { site = record { number = n; clock = s.site.clock }; characters = s.characters; pending = s.pending }

unfoldable pub list_cases : List ListCase
list_cases =
    list_case (rows_of []) (list 1 0 [])
    -- hidden rows left out, or the site of a row taken for the one that lists
    ∷ list_case (rows_of (toggled 1 (letter (3 at 1) begin end) ∷ toggled 0 (letter (3 at 2) (3 at 1) end) ∷ []))
    (list 1 2 (chunk 3 0 6 ∷ []))
    -- waiting inserts listed, or counted
    ∷ list_case (state_at 9 (letter (2 at 1) begin end ∷ letter (1 at 2) begin end ∷ []) (stray (2 at 2) ∷ []))
    (list 1 2 (chunk 1 0 4 ∷ chunk 2 0 2 ∷ []))
    -- the list said to be that of site 1, whichever lists
    ∷ list_case (of_site 2 (rows_of (toggled 0 (letter (1 at 1) begin end) ∷ []))) (list 2 1 (chunk 1 0 2 ∷ []))
    ∷ []

-- each state has the list that is expected
abbrev pub ListTells : Type 0
ListTells = map list_tried list_cases ≡ list_cases

-- ---- what is answered

-- a state, what is listed, and what it answers
pub record AnswerCase : Type 0 where
  pub state : State
  pub marked : List Identifier
  pub answered : List Operation

-- the case with the answer in truth
abbrev pub answer_tried : AnswerCase → AnswerCase
answer_tried c =
    record {
      state = c.state;
      marked = c.marked;
      answered = answer_for c.state (list 9 (length c.marked) (chunks_of c.marked));
    }

abbrev pub answer_case : State → List Identifier → List Operation → AnswerCase
answer_case s xs os = record { state = s; marked = xs; answered = os }

-- between the marks; behind another; above another
abbrev pub i11 : Insert
i11 = letter (1 at 1) begin end

abbrev pub i12 : Insert
i12 = letter (1 at 2) (1 at 1) end

abbrev pub i21 : Insert
i21 = letter (2 at 1) begin end

abbrev pub i13 : Insert
i13 = letter (1 at 3) begin (2 at 1)

unfoldable pub answering_cases : List AnswerCase
answering_cases =
    -- what is free asked once, and not anew each time
    answer_case (holding (i11 ∷ i12 ∷ i21 ∷ [])) [] (insert i11 ∷ insert i12 ∷ insert i21 ∷ [])
    -- from the top, or the lowest before what it needs
    ∷ answer_case (holding (i13 ∷ i21 ∷ [])) [] (insert i21 ∷ insert i13 ∷ [])
    -- nothing sent where none is free: P7's rows
    ∷ answer_case naming_each_other []
    (insert (letter (1 at 1) begin (2 at 1)) ∷ insert (letter (2 at 1) (1 at 1) end) ∷ [])
    -- where none is free, the topmost and not the lowest
    ∷ answer_case (holding (letter (2 at 1) begin (1 at 1) ∷ letter (1 at 1) (2 at 1) end ∷ [])) []
    (insert (letter (1 at 1) (2 at 1) end) ∷ insert (letter (2 at 1) begin (1 at 1)) ∷ [])
    -- once none is free, all that are left by identifier
    ∷ answer_case
    (holding (letter (1 at 1) begin (2 at 1) ∷ letter (2 at 1) (1 at 1) end ∷ letter (1 at 2) (2 at 1) end ∷ []))
    []
    (insert (letter (1 at 1) begin (2 at 1)) ∷ insert (letter (2 at 1) (1 at 1) end)
    ∷ insert (letter (1 at 2) (2 at 1) end) ∷ [])
    -- what is listed sent too, or needed to be sent; what is listed and not held
    ∷ answer_case (holding (i11 ∷ i12 ∷ i21 ∷ [])) (2 at 1 ∷ 1 at 1 ∷ 9 at 9 ∷ []) (insert i12 ∷ [])
    -- no toggle for a row that is listed, or toggled an even number of times; a toggle for 0; the asker as sender
    ∷ answer_case (rows_of (toggled 2 i11 ∷ toggled 0 i12 ∷ toggled 3 i21 ∷ [])) (1 at 1 ∷ 1 at 2 ∷ [])
    (insert i21 ∷ toggle_by 1 (1 at 1) 2 ∷ toggle_by 1 (2 at 1) 3 ∷ [])
    -- site 1, or that of the row, as sender
    ∷ answer_case (of_site 2 (rows_of (toggled 1 i11 ∷ []))) (1 at 1 ∷ []) (toggle_by 2 (1 at 1) 1 ∷ [])
    -- hidden rows not sent; the toggles in the sequence of the inserts, and not from the top
    ∷ answer_case (rows_of (toggled 1 i13 ∷ toggled 1 i21 ∷ [])) []
    (insert i21 ∷ insert i13 ∷ toggle_by 1 (1 at 3) 1 ∷ toggle_by 1 (2 at 1) 1 ∷ [])
    -- waiting operations sent
    ∷ answer_case (state_at 9 [] (stray (2 at 2) ∷ toggle_by 3 (2 at 2) 1 ∷ [])) [] []
    ∷ []

-- each state answers as is expected
abbrev pub AnswerTells : Type 0
AnswerTells = map answer_tried answering_cases ≡ answering_cases

-- ---- what is refused

-- a list, whether 2 lets it pass, and whether 18 refuses it
pub record JudgeCase : Type 0 where
  pub given : Listing
  pub ranged : Bool
  pub wrong : Bool

abbrev pub judge_tried : JudgeCase → JudgeCase
judge_tried c = record { given = c.given; ranged = listing_in_range c.given; wrong = mislisted c.given }

abbrev pub judge_case : Listing → Bool → Bool → JudgeCase
judge_case l a b = record { given = l; ranged = a; wrong = b }

unfoldable pub judge_cases : List JudgeCase
judge_cases =
    judge_case (list 1 0 []) true false
    -- the total not compared, either way
    ∷ judge_case (list 1 2 (chunk 1 0 6 ∷ [])) true false
    ∷ judge_case (list 1 1 (chunk 1 0 6 ∷ [])) true true
    ∷ judge_case (list 1 3 (chunk 1 0 6 ∷ [])) true true
    ∷ judge_case (list 1 1 []) true true
    -- clock 0 marked, and clock 64
    ∷ judge_case (list 1 1 (chunk 3 0 1 ∷ [])) true true
    ∷ judge_case (list 1 2 (chunk 2 0 2 ∷ chunk 3 0 1 ∷ [])) true true
    ∷ judge_case (list 1 1 (chunk 3 1 1 ∷ [])) true false
    -- out of sequence by index, by site, and repeated
    ∷ judge_case (list 1 2 (chunk 2 1 1 ∷ chunk 2 0 2 ∷ [])) true true
    ∷ judge_case (list 1 2 (chunk 3 0 2 ∷ chunk 2 1 1 ∷ [])) true true
    ∷ judge_case (list 1 2 (chunk 2 0 2 ∷ chunk 2 0 4 ∷ [])) true true
    ∷ judge_case (list 1 3 (chunk 2 1 1 ∷ chunk 3 0 2 ∷ chunk 3 1 1 ∷ [])) true false
    ∷ judge_case (list 1 3 (chunk 2 0 2 ∷ chunk 3 1 1 ∷ chunk 3 0 2 ∷ [])) true true
    -- 2 for the two sites, the index, word 0, and the total
    ∷ judge_case (list 0 0 []) false false
    ∷ judge_case (list 16 1 (chunk 16 last_index 1 ∷ [])) true false
    ∷ judge_case (list 17 0 []) false false
    ∷ judge_case (list 1 1 (chunk 0 0 2 ∷ [])) false false
    ∷ judge_case (list 1 1 (chunk 17 1 1 ∷ [])) false false
    ∷ judge_case (list 1 1 (chunk 1 (last_index + 1) 1 ∷ [])) false false
    ∷ judge_case (list 1 0 (chunk 1 1 0 ∷ [])) false false
    ∷ judge_case (list 1 1024 []) true true
    ∷ judge_case (list 1 1025 []) false true
    ∷ []

-- each list is judged as is expected
abbrev pub JudgeTells : Type 0
JudgeTells = map judge_tried judge_cases ≡ judge_cases

-- the largest word passes, and one more does not
abbrev pub WordRangeTells : Type 0
WordRangeTells =
    (listing_in_range (list 1 64 (chunk 1 1 last_word ∷ [])) ≡ true)
    × (listing_in_range (list 1 64 (chunk 1 1 (last_word + 1) ∷ [])) ≡ false) × (last_word + 1 ≡ 2 ^ 64)

-- listing meets 3, and answering 2, 18, "after 2", and 3, in this order, of any list
abbrev pub AnswerOrder : Type 0
AnswerOrder =
    (formed : Bool) (l : Listing) →
    (map (λ c. number c.answer) (list_checks formed) ≡ 3 ∷ [])
    × (map (λ c. number c.answer) (answer_checks formed l) ≡ 2 ∷ 18 ∷ 3 ∷ [])
    × (rises (map (λ c. rank c.answer) (answer_checks formed l)) ≡ true)
