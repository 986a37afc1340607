-- From one form of a saved replica to the other (document 02, Req 06), and the promises about it, each proved in
-- proofs/ under its name in small letters.
use Rattle.std.specs.Prelude.{ℕ, ◌≤◌, ◌<◌, ◌≡◌, ◌↔◌, true, false, ◌||◌, not, List, [], ◌∷◌, ◌++◌, map, ltb, length, replicate, Err}
use Rattle.lists.specs.Lists.{any}
use Rattle.woot.specs.declared.Operation.{Operation}
use Rattle.woot.specs.declared.Operation.TheVariants.{Insert as insert, Toggle as toggle}
use Rattle.answers.specs.declared.Refusal.{Refusal}
use Rattle.answers.specs.declared.Refusal.TheVariants.{Layout, Range, Form, Unrepresentable}
use Rattle.woot.specs.Writing.{Written}
use Rattle.woot.specs.Identifiers.{begin, end}
use Rattle.woot.specs.Operations.{toggles_among}
use Rattle.woot.specs.State.{State}
use Rattle.woot.specs.Form.{well_formed}
use Rattle.answers.specs.Answers.{number, rank, Check, ◌⇒◌, Reported}
use Rattle.answers.specs.Order.{rises}
use Rattle.woot.specs.Writing.{refusing, written_as, output_after, writing_checks, written_number, written_length}
use Rattle.lines.specs.Lines.{rest}
use Rattle.saved.specs.declared.Version.{Version}
use Rattle.saved.specs.declared.Version.TheVariants.{First, Second}
use Rattle.saved.specs.Format.{site_line, saved_line, laid_out_as, in_range_as, representable, bytes_as}
use Rattle.saved.specs.Calls.{loaded_as, raising_as}

-- ---- the calls

-- the bytes in the form w of the state that loading makes of bytes in the form v
unfoldable pub conversion : Version → Version → List ℕ → List ℕ
conversion v w s = bytes_as w (loaded_as v s)

-- conditions 1, 2 and 3, each over all of the bytes, then "15, after 3, if a row or a waiting line has a turn above 1",
-- which the second form has no need of; 12 comes after them
unfoldable pub conversion_refusals : Version → Version → List ℕ → List (Check Refusal)
conversion_refusals v w s =
    (not (laid_out_as v s) ⇒ Layout) ∷ (not (in_range_as v s) ⇒ Range) ∷ (not (well_formed (loaded_as v s)) ⇒ Form)
    ∷ (not (representable w (loaded_as v s)) ⇒ Unrepresentable)
    ∷ []

unfoldable pub conversion_checks : Version → Version → List ℕ → List (Check Written)
conversion_checks v w s = refusing (conversion_refusals v w s)

-- the number of bytes, or a refusal
unfoldable pub converted : Version → Version → List ℕ → List ℕ → Written
converted v w s out = written_as (conversion_checks v w s) (conversion v w s) out

-- every byte of the slice afterwards
unfoldable pub converted_out : Version → Version → List ℕ → List ℕ → List ℕ
converted_out v w s out = output_after (conversion_checks v w s) (conversion v w s) out

-- "the way forward alone reads it"
abbrev pub upgraded : List ℕ → List ℕ → Written
upgraded s out = converted First Second s out

abbrev pub upgraded_out : List ℕ → List ℕ → List ℕ
upgraded_out s out = converted_out First Second s out

-- "and the way back alone writes it"
abbrev pub downgraded : List ℕ → List ℕ → Written
downgraded s out = converted Second First s out

abbrev pub downgraded_out : List ℕ → List ℕ → List ℕ
downgraded_out s out = converted_out Second First s out

-- ---- the trips

-- none of the conditions holds
abbrev pub Converts : Version → Version → List ℕ → Type 0
Converts v w s =
    (laid_out_as v s ≡ true) × (in_range_as v s ≡ true) × (well_formed (loaded_as v s) ≡ true)
    × (representable w (loaded_as v s) ≡ true)

-- what was converted says the same state, and is converted back, to the same bytes "except where Req 04 raised a clock
-- on the way in": then the first line alone differs, which has the raised clock
abbrev pub Returns : Version → Version → Type 0
Returns v w =
    (s : List ℕ) → Converts v w s →
    (loaded_as w (conversion v w s) ≡ loaded_as v s)
    × Converts w v (conversion v w s)
    × (conversion w v (conversion v w s) ≡ site_line v (loaded_as v s).site ++ rest s)
    × (raising_as v s ≡ false → conversion w v (conversion v w s) ≡ s)
    × (raising_as w (conversion v w s) ≡ false)

-- "both trips return the same bytes"
abbrev pub DownAfterUp : Type 0
DownAfterUp = Returns First Second

abbrev pub UpAfterDown : Type 0
UpAfterDown = Returns Second First

-- a well-formed state is read back from its bytes in each form that can say it
abbrev pub ReadsBackAs : Type 0
ReadsBackAs =
    (v : Version) (s : State) → well_formed s ≡ true → representable v s ≡ true →
    (laid_out_as v (bytes_as v s) ≡ true) × (in_range_as v (bytes_as v s) ≡ true) × (loaded_as v (bytes_as v s) ≡ s)

-- ---- refusals: any bytes, any slice

-- "the way forward alone reads it": no bytes have the layout of both forms
abbrev pub FormsApart : Type 0
FormsApart = (s : List ℕ) → laid_out_as First s ≡ true → laid_out_as Second s ≡ false

-- "if a row or a waiting line has a turn above 1"
abbrev pub HighTurns : Type 0
HighTurns =
    (s : State) →
    representable First s
    ≡ not (any (λ c. ltb 1 c.toggles) s.characters || any (λ t. ltb 1 t.toggles) (toggles_among s.pending))

-- in the checking order: 15 "after 3"; 12 is put after these by `writingChecks`
abbrev pub ConversionOrder : Type 0
ConversionOrder =
    (v w : Version) (s : List ℕ) →
    (map (λ c. number c.answer) (conversion_refusals v w s) ≡ 1 ∷ 2 ∷ 3 ∷ 15 ∷ [])
    × (rises (map (λ c. rank c.answer) (conversion_refusals v w s)) ≡ true)

-- refusal q is answered exactly when its condition holds and none before it, and no byte is changed then
abbrev pub ConversionRefuses : Type 0
ConversionRefuses =
    (v w : Version) (s out : List ℕ) (q : Refusal) →
    ((converted v w s out ≡ Err q)
    ↔ Reported (Err q) (writing_checks (conversion_checks v w s) (conversion v w s) out))
    × (converted v w s out ≡ Err q → converted_out v w s out ≡ out)

-- by number, in the order 1, 2, 3, 15, 12; else 0 and how many bytes there are
abbrev pub ByNumber : Version → Version → List ℕ → List ℕ → Type 0
ByNumber v w s out =
    ((written_number (converted v w s out) ≡ 1) ↔ (laid_out_as v s ≡ false))
    × ((written_number (converted v w s out) ≡ 2) ↔ ((laid_out_as v s ≡ true) × (in_range_as v s ≡ false)))
    × ((written_number (converted v w s out) ≡ 3)
    ↔ ((laid_out_as v s ≡ true) × (in_range_as v s ≡ true) × (well_formed (loaded_as v s) ≡ false)))
    × ((written_number (converted v w s out) ≡ 15)
    ↔ ((laid_out_as v s ≡ true) × (in_range_as v s ≡ true) × (well_formed (loaded_as v s) ≡ true)
    × (representable w (loaded_as v s) ≡ false)))
    × ((written_number (converted v w s out) ≡ 12) ↔ (Converts v w s × (length out < length (conversion v w s))))
    × ((written_number (converted v w s out) ≡ 0) ↔ (Converts v w s × (length (conversion v w s) ≤ length out)))
    × ((written_length (converted v w s out) ≡ length (conversion v w s))
    ↔ (Converts v w s × (length (conversion v w s) ≤ length out)))

abbrev pub ConversionNumbers : Type 0
ConversionNumbers = (v w : Version) (s out : List ℕ) → ByNumber v w s out

-- the way forward is never refused with 15
abbrev pub UpgradeNeverUnrepresentable : Type 0
UpgradeNeverUnrepresentable = (s out : List ℕ) → written_number (upgraded s out) ≡ 15 → ⊥

-- ---- sizes

-- document 01: "at most 47,115 bytes"
abbrev pub first_most : ℕ
first_most = 47115

abbrev pub FirstLength : Type 0
FirstLength =
    (s : State) → well_formed s ≡ true → representable First s ≡ true → length (bytes_as First s) ≤ first_most

-- ---- the forms side by side, and what tells them apart

-- laptop 3 at clock 7; 2/1 with turn n and 1/4 hidden behind it; an operation waits, and an insert of 5/2
abbrev pub side_by_side : ℕ → Operation → State
side_by_side n o =
    record {
      site = record { number = 3; clock = 7 };
      characters =
          record { id = record { site = 2; clock = 1 }; code_point = 66; toggles = n; previous = begin; next = end }
          ∷ record {
            id = record { site = 1; clock = 4 };
            code_point = 65;
            toggles = 1;
            previous = record { site = 2; clock = 1 };
            next = end;
          }
          ∷ [];
      pending =
          o
          ∷ insert (record {
            id = record { site = 5; clock = 2 };
            code_point = 97;
            previous = record { site = 4; clock = 9 };
            next = end;
          })
          ∷ [];
    }

-- an operation of 6 that waits for 4/9, with turn n
abbrev pub turning : ℕ → Operation
turning n = toggle (record { sender = 6; target = record { site = 4; clock = 9 }; toggles = n })

-- `S 3 7`, `C 2 1 66 1 0 0 0 1`, `C 1 4 65 0 2 1 0 1`, `D 6 4 9`, `I 5 2 97 4 9 0 1`, with tabs for the spaces
abbrev pub first_bytes : List ℕ
first_bytes =
    83 ∷ 9 ∷ 51 ∷ 9 ∷ 55 ∷ 10
    ∷ 67 ∷ 9 ∷ 50 ∷ 9 ∷ 49 ∷ 9 ∷ 54 ∷ 54 ∷ 9 ∷ 49 ∷ 9 ∷ 48 ∷ 9 ∷ 48 ∷ 9 ∷ 48 ∷ 9 ∷ 49 ∷ 10
    ∷ 67 ∷ 9 ∷ 49 ∷ 9 ∷ 52 ∷ 9 ∷ 54 ∷ 53 ∷ 9 ∷ 48 ∷ 9 ∷ 50 ∷ 9 ∷ 49 ∷ 9 ∷ 48 ∷ 9 ∷ 49 ∷ 10
    ∷ 68 ∷ 9 ∷ 54 ∷ 9 ∷ 52 ∷ 9 ∷ 57 ∷ 10
    ∷ 73 ∷ 9 ∷ 53 ∷ 9 ∷ 50 ∷ 9 ∷ 57 ∷ 55 ∷ 9 ∷ 52 ∷ 9 ∷ 57 ∷ 9 ∷ 48 ∷ 9 ∷ 49 ∷ 10 ∷ []

-- `S2 3 7`, `C 2 1 66 0 0 0 0 1`, `C 1 4 65 1 2 1 0 1`, `E 6 4 9 1`, `I 5 2 97 4 9 0 1`
abbrev pub second_bytes : List ℕ
second_bytes =
    83 ∷ 50 ∷ 9 ∷ 51 ∷ 9 ∷ 55 ∷ 10
    ∷ 67 ∷ 9 ∷ 50 ∷ 9 ∷ 49 ∷ 9 ∷ 54 ∷ 54 ∷ 9 ∷ 48 ∷ 9 ∷ 48 ∷ 9 ∷ 48 ∷ 9 ∷ 48 ∷ 9 ∷ 49 ∷ 10
    ∷ 67 ∷ 9 ∷ 49 ∷ 9 ∷ 52 ∷ 9 ∷ 54 ∷ 53 ∷ 9 ∷ 49 ∷ 9 ∷ 50 ∷ 9 ∷ 49 ∷ 9 ∷ 48 ∷ 9 ∷ 49 ∷ 10
    ∷ 69 ∷ 9 ∷ 54 ∷ 9 ∷ 52 ∷ 9 ∷ 57 ∷ 9 ∷ 49 ∷ 10
    ∷ 73 ∷ 9 ∷ 53 ∷ 9 ∷ 50 ∷ 9 ∷ 57 ∷ 55 ∷ 9 ∷ 52 ∷ 9 ∷ 57 ∷ 9 ∷ 48 ∷ 9 ∷ 49 ∷ 10 ∷ []

-- "shown 1 becomes turn 0, shown 0 becomes turn 1, and a waiting `D` becomes `E` with turn 1"
abbrev pub FormsExample : Type 0
FormsExample =
    (bytes_as First (side_by_side 0 (turning 1)) ≡ first_bytes)
    × (bytes_as Second (side_by_side 0 (turning 1)) ≡ second_bytes)

-- a waiting line alone is enough for 15, and so is a row
abbrev pub RepresentableCases : Type 0
RepresentableCases =
    (representable First (side_by_side 0 (turning 1)) ≡ true)
    × (representable First (side_by_side 0 (turning 2)) ≡ false)
    × (representable First (side_by_side 2 (turning 1)) ≡ false)

-- `S 3 7` alone has the first form's layout; `S2 3 7` lacks it, and so does `S 3 7` with a waiting `E 6 4 9 1`
abbrev pub FirstFormOnly : Type 0
FirstFormOnly =
    (laid_out_as First (83 ∷ 9 ∷ 51 ∷ 9 ∷ 55 ∷ 10 ∷ []) ≡ true)
    × (laid_out_as First (83 ∷ 50 ∷ 9 ∷ 51 ∷ 9 ∷ 55 ∷ 10 ∷ []) ≡ false)
    × (laid_out_as First (83 ∷ 9 ∷ 51 ∷ 9 ∷ 55 ∷ 10 ∷ 69 ∷ 9 ∷ 54 ∷ 9 ∷ 52 ∷ 9 ∷ 57 ∷ 9 ∷ 49 ∷ 10 ∷ []) ≡ false)

-- `S 3 7` with an own character, `C 3 9 66 1 0 0 0 1`: its clock becomes 9, and `C 3 9 66 2 0 0 0 1` is out of range
abbrev pub own_character : ℕ → List ℕ
own_character shown =
    83 ∷ 9 ∷ 51 ∷ 9 ∷ 55 ∷ 10
    ∷ 67 ∷ 9 ∷ 51 ∷ 9 ∷ 57 ∷ 9 ∷ 54 ∷ 54 ∷ 9 ∷ shown ∷ 9 ∷ 48 ∷ 9 ∷ 48 ∷ 9 ∷ 48 ∷ 9 ∷ 49 ∷ 10 ∷ []

abbrev pub ForwardCases : Type 0
ForwardCases =
    (conversion First Second (own_character 49)
    ≡ 83 ∷ 50 ∷ 9 ∷ 51 ∷ 9 ∷ 57 ∷ 10
    ∷ 67 ∷ 9 ∷ 51 ∷ 9 ∷ 57 ∷ 9 ∷ 54 ∷ 54 ∷ 9 ∷ 48 ∷ 9 ∷ 48 ∷ 9 ∷ 48 ∷ 9 ∷ 48 ∷ 9 ∷ 49 ∷ 10 ∷ [])
    × (in_range_as First (own_character 49) ≡ true)
    × (in_range_as First (own_character 50) ≡ false)
    × (in_range_as First (own_character 51) ≡ false)

-- both trips of the example, into slices just long enough; two equal `D` lines are 3; turns 2 and 3, of a row and of a
-- waiting line, are 15, and before 12; a sheet that is not in form is 3 whatever its turns
abbrev pub TripCases : Type 0
TripCases =
    (upgraded_out first_bytes (replicate 72 0) ≡ second_bytes) × (downgraded_out second_bytes (replicate 69 0) ≡ first_bytes)
    × (written_number (upgraded first_bytes (replicate 72 0)) ≡ 0)
    × (written_number (upgraded first_bytes (replicate 71 0)) ≡ 12)
    × (written_number (upgraded (first_bytes ++ 68 ∷ 9 ∷ 54 ∷ 9 ∷ 52 ∷ 9 ∷ 57 ∷ 10 ∷ []) []) ≡ 3)
    × (written_number (downgraded (bytes_as Second (side_by_side 0 (turning 2))) []) ≡ 15)
    × (written_number (downgraded (bytes_as Second (side_by_side 0 (turning 3))) []) ≡ 15)
    × (written_number (downgraded (bytes_as Second (side_by_side 2 (turning 1))) []) ≡ 15)
    × (written_number (downgraded (bytes_as Second (side_by_side 3 (turning 1))) []) ≡ 15)
    × (written_number (downgraded (second_bytes ++ saved_line Second (turning 2) ++ saved_line Second (turning 2)) []) ≡ 3)
