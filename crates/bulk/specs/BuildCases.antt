-- Heaps that tell the rule of building from slips, and the order of its refusals. Proved in `proofs/BuildCases.antt`.
use Rattle.std.specs.Prelude.{ℕ, zero, suc, ◌≡◌, false, List, [], ◌∷◌, ◌++◌, map, length, replicate}
use Rattle.woot.specs.declared.Identifier.{Identifier}
use Rattle.woot.specs.declared.Operation.{Operation}
use Rattle.woot.specs.declared.Operation.TheVariants.{Insert as insert}
use Rattle.woot.specs.Identifiers.{begin, end}
use Rattle.woot.specs.Placing.{identifiers}
use Rattle.answers.specs.Answers.{Reply, reply}
use Rattle.woot.specs.Situations.{◌at◌, letter, toggle_by, delete_by, stray, Done, Refused}
use Rattle.answers.specs.Order.{numbers_of}
use Rattle.bulk.specs.Building.{BuildOutcome, heap_full, build_checks, build}

-- a number and a heap; what is seen: the reply with how many are left out, the clock, and the identifiers and toggles
-- from the top
pub record Case : Type 0 where
  pub site : ℕ
  pub heap : List Operation
  pub replied : Reply
  pub clock : ℕ
  pub rows : List Identifier
  pub toggles : List ℕ

-- the case with what is seen in truth
abbrev pub tried : Case → Case
tried c =
    let w : BuildOutcome = build c.site c.heap in
    record {
      site = c.site;
      heap = c.heap;
      replied = reply w.answer;
      clock = w.state.site.clock;
      rows = identifiers w.state.characters;
      toggles = map (λ d. d.toggles) w.state.characters;
    }

abbrev pub case : ℕ → List Operation → Reply → ℕ → List Identifier → List ℕ → Case
case n heap r k xs ts = record { site = n; heap = heap; replied = r; clock = k; rows = xs; toggles = ts }

-- an insert, and the same with another code point
abbrev pub ins : Identifier → Identifier → Identifier → Operation
ins x p n = insert (letter x p n)

abbrev pub ins_other : Identifier → Identifier → Identifier → Operation
ins_other x p n = insert (record { id = x; code_point = 66; previous = p; next = n })

-- backwards, with a repeat, one that crosses, one that needs it, and a toggle of that one
abbrev pub backwards : List Operation
backwards =
    ins (3 at 1) (2 at 1) (1 at 1) ∷ ins (4 at 1) (3 at 1) end ∷ delete_by 1 (4 at 1) ∷ ins (2 at 1) (1 at 1) end
    ∷ toggle_by 1 (2 at 1) 2
    ∷ ins (1 at 1) begin end
    ∷ ins (1 at 1) begin end
    ∷ []

unfoldable pub build_cases : List Case
build_cases =
    -- a repeat placed twice, what crosses or what needs it kept or not counted, the clock of what was kept alone
    case 4 backwards (Done 0 3) 1 (1 at 1 ∷ 2 at 1 ∷ []) (0 ∷ 2 ∷ [])
    -- a heap of nothing refused
    ∷ case 16 [] (Done 0 0) 0 [] []
    -- 2 for the laptop number, or for a line, not seen, or 7 before it
    ∷ case 0 [] (Refused 2) 0 [] []
    ∷ case 17 [] (Refused 2) 0 [] []
    ∷ case 4 (ins (1 at 1) begin end ∷ ins_other (1 at 1) begin end ∷ delete_by 17 (1 at 1) ∷ []) (Refused 2) 0 [] []
    -- 7 by the code point, by a neighbour, and although both are left out; not for an insert that is repeated
    ∷ case 4 (ins (1 at 1) begin end ∷ delete_by 2 (1 at 1) ∷ ins_other (1 at 1) begin end ∷ []) (Refused 7) 0 [] []
    ∷ case 4 (ins (2 at 1) begin end ∷ ins (1 at 1) begin end ∷ ins (1 at 1) begin (2 at 1) ∷ []) (Refused 7) 0 [] []
    ∷ case 4 (ins (3 at 1) (7 at 7) end ∷ ins (3 at 1) (7 at 8) end ∷ []) (Refused 7) 0 [] []
    ∷ case 4 (stray (3 at 1) ∷ stray (3 at 1) ∷ []) (Done 0 1) 0 [] []
    -- a smaller turn lowers what was there, or is counted as left out
    ∷ case 4 (ins (1 at 1) begin end ∷ toggle_by 1 (1 at 1) 3 ∷ toggle_by 2 (1 at 1) 2 ∷ []) (Done 0 0) 0 (1 at 1 ∷ [])
    (3 ∷ [])
    ∷ case 4 (toggle_by 2 (1 at 1) 2 ∷ toggle_by 1 (1 at 1) 3 ∷ ins (1 at 1) begin end ∷ []) (Done 0 0) 0 (1 at 1 ∷ [])
    (3 ∷ [])
    -- turns 1 and 2 of one sender, or one turn of two senders, counted as one; a repeat counted twice
    ∷ case 4 (toggle_by 2 (5 at 5) 1 ∷ toggle_by 2 (5 at 5) 2 ∷ []) (Done 0 2) 0 [] []
    ∷ case 4 (delete_by 2 (5 at 5) ∷ delete_by 3 (5 at 5) ∷ delete_by 2 (5 at 5) ∷ []) (Done 0 2) 0 [] []
    -- the clock of an own insert that is left out not counted, the last or another laptop's taken
    ∷ case 5 (stray (5 at 9) ∷ []) (Done 0 1) 9 [] []
    ∷ case 5 (ins (5 at 9) begin end ∷ ins (5 at 2) begin end ∷ ins (6 at 12) begin end ∷ []) (Done 0 0) 9
    (5 at 2 ∷ 5 at 9 ∷ 6 at 12 ∷ []) (0 ∷ 0 ∷ 0 ∷ [])
    -- two that need each other placed
    ∷ case 4 (ins (1 at 1) begin (2 at 1) ∷ ins (2 at 1) (1 at 1) end ∷ []) (Done 0 2) 0 [] []
    ∷ []

-- each heap gives what is expected
abbrev pub BuildTells : Type 0
BuildTells = map tried build_cases ≡ build_cases

-- inserts of site 2, each behind the one before, the last first
abbrev pub chain : ℕ → List Operation
chain zero = []
chain (suc zero) = ins (2 at 1) begin end ∷ []
chain (suc (suc n)) = ins (2 at suc (suc n)) (2 at suc n) end ∷ chain (suc n)

-- the limit of 32 waiting, or one walk down the heap
abbrev pub BuildWaitsTells : Type 0
BuildWaitsTells =
    (reply (build 1 (chain 40)).answer ≡ Done 0 0) × (length (build 1 (chain 40)).state.characters ≡ 40)

-- 17 with repeats counted once, with both kinds counted together, or one too early; and for one kind alone
abbrev pub BuildFullTells : Type 0
BuildFullTells =
    (reply (build 4 (replicate 1025 (ins (1 at 1) begin end))).answer ≡ Refused 17)
    × (reply (build 4 (replicate 1025 (delete_by 2 (1 at 1)))).answer ≡ Refused 17)
    × (heap_full (replicate 1024 (ins (1 at 1) begin end) ++ replicate 1024 (delete_by 2 (1 at 1))) ≡ false)

-- building meets 2, 17, "after 2", and 7, in this order, of any heap
abbrev pub BuildOrder : Type 0
BuildOrder = (n : ℕ) (heap : List Operation) → numbers_of (build_checks n heap) ≡ 2 ∷ 17 ∷ 7 ∷ []
