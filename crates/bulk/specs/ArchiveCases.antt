-- Replicas and archives that tell the rules of archiving from slips, and the order of the refusals. Proved in
-- `proofs/ArchiveCases.antt`.
use Rattle.std.specs.Prelude.{ℕ, suc, ◌≡◌, Bool, true, false, List, [], ◌∷◌, map}
use Rattle.std.proofs.Math.Option.{none, some}
use Rattle.answers.specs.declared.Refusal.TheVariants.{Range, Misarranged, Form}
use Rattle.answers.specs.Answers.{number, rank, first}
use Rattle.answers.specs.Order.{rises}
use Rattle.woot.specs.declared.Character.{Character}
use Rattle.woot.specs.declared.Operation.{Operation}
use Rattle.woot.specs.declared.Operation.TheVariants.{Insert as insert}
use Rattle.woot.specs.Identifiers.{begin, end}
use Rattle.woot.specs.Operations.{character}
use Rattle.woot.specs.State.{State}
use Rattle.woot.specs.Form.{all_in_range}
use Rattle.woot.specs.Situations.{◌at◌, letter, stray, toggle_by, state_at}
use Rattle.bulk.specs.CatchCases.{toggled}
use Rattle.bulk.specs.Archiving.{Placed, Archive, archived, archive_of, unarchived, state_from, arranged}
use Rattle.bulk.specs.Archiving.{archive_checks, unarchive_checks}

infix 80 ◌on◌
-- a character at its place
abbrev pub ◌on◌ : Character → ℕ → Placed
c on k = record { place = k; character = c }

-- ---- the archive of some rows

-- 2/1, 10/1 hidden, 2/300, 1/5
abbrev pub some_rows : List Character
some_rows =
    toggled 0 (letter (2 at 1) begin end) ∷ toggled 1 (letter (10 at 1) begin end)
    ∷ toggled 2 (letter (2 at 300) begin end)
    ∷ toggled 0 (letter (1 at 5) begin end)
    ∷ []

abbrev pub their_archive : List Placed
their_archive =
    toggled 0 (letter (1 at 5) begin end) on 4 ∷ toggled 0 (letter (2 at 1) begin end) on 1
    ∷ toggled 2 (letter (2 at 300) begin end) on 3
    ∷ toggled 1 (letter (10 at 1) begin end) on 2
    ∷ []

-- hidden rows have places, sites come before clocks, 10 comes behind 2, and places begin at 1; on the way back each
-- row goes to its place, and what waits stays as it was
abbrev pub ArchiveTells : Type 0
ArchiveTells =
    (archived some_rows ≡ their_archive) × (unarchived their_archive ≡ some_rows) × (arranged their_archive ≡ true)
    × (archive_of (state_at 9 (letter (2 at 1) begin end ∷ letter (1 at 2) begin end ∷ []) (stray (2 at 2) ∷ []))
    ≡ record {
      site = record { number = 1; clock = 9 };
      rows = character (letter (1 at 2) begin end) on 2 ∷ character (letter (2 at 1) begin end) on 1 ∷ [];
      pending = stray (2 at 2) ∷ [];
    })

-- ---- what is refused

-- rows with clock t, and one more each, at the places
abbrev pub rows_at : ℕ → List ℕ → List Placed
rows_at t [] = []
rows_at t (n ∷ ns) = character (letter (1 at t) begin end) on n ∷ rows_at (suc t) ns

-- no rows, one, two in another order; a place twice, a gap, the second place alone, 0; three places of which one is
-- above the number of rows
abbrev pub PlacesTell : Type 0
PlacesTell =
    map (λ ns. arranged (rows_at 1 ns))
    ([] ∷ (1 ∷ []) ∷ (2 ∷ 1 ∷ []) ∷ (1 ∷ 1 ∷ []) ∷ (1 ∷ 3 ∷ []) ∷ (2 ∷ []) ∷ (0 ∷ 1 ∷ []) ∷ (2 ∷ 4 ∷ 1 ∷ []) ∷ [])
    ≡ true ∷ true ∷ true ∷ false ∷ false ∷ false ∷ false ∷ false ∷ []

-- identifiers that are equal, that fall by the site, and that fall by the clock; places alone are in order
abbrev pub IdentifiersTell : Type 0
IdentifiersTell =
    map (λ (ps : List Placed). arranged ps)
    ((character (letter (2 at 1) begin end) on 1 ∷ character (letter (2 at 1) begin end) on 2 ∷ [])
    ∷ (character (letter (2 at 1) begin end) on 1 ∷ character (letter (1 at 9) begin end) on 2 ∷ [])
    ∷ (character (letter (2 at 9) begin end) on 1 ∷ character (letter (2 at 1) begin end) on 2 ∷ [])
    ∷ (character (letter (1 at 9) begin end) on 2 ∷ character (letter (2 at 1) begin end) on 1 ∷ [])
    ∷ [])
    ≡ false ∷ false ∷ false ∷ true ∷ []

-- an archive of site 1 at a clock
abbrev pub archive_at : ℕ → List Placed → Archive
archive_at t ps = record { site = record { number = 1; clock = t }; rows = ps; pending = [] }

-- the first condition that holds on the way back: none; the place 1,025, which is out of range; a gap; a repeated
-- identifier; rows in the order of the archive whose neighbours stand the wrong way round, and 19 before that; the same
-- at their places, where they are in form; a clock that is not raised
abbrev pub UnarchiveTells : Type 0
UnarchiveTells =
    let one = character (letter (1 at 1) begin end) in
    let under = character (letter (1 at 1) (2 at 1) end) in
    let over = character (letter (2 at 1) begin end) in
    map (λ a. first (unarchive_checks a))
    (archive_at 9 (one on 1 ∷ []) ∷ archive_at 9 (one on 1025 ∷ []) ∷ archive_at 9 (one on 2 ∷ [])
    ∷ archive_at 9 (one on 1 ∷ one on 2 ∷ [])
    ∷ archive_at 9 (under on 1 ∷ over on 2 ∷ [])
    ∷ archive_at 9 (under on 1 ∷ over on 1 ∷ [])
    ∷ archive_at 9 (under on 2 ∷ over on 1 ∷ [])
    ∷ archive_at 0 (one on 1 ∷ [])
    ∷ [])
    ≡ none ∷ some Range ∷ some Misarranged ∷ some Misarranged ∷ some Form ∷ some Misarranged ∷ none ∷ some Form ∷ []

-- a repeated identifier in a saved replica is 3, and so is a clock that Req 04 would raise
abbrev pub ArchiveRefusesTells : Type 0
ArchiveRefusesTells =
    let one = letter (1 at 1) begin end in
    map (λ s. first (archive_checks (all_in_range s) s))
    (state_at 1 (one ∷ []) [] ∷ state_at 0 (one ∷ []) [] ∷ state_at 1 (one ∷ one ∷ []) []
    ∷ state_at 70000 (one ∷ []) []
    ∷ [])
    ≡ none ∷ some Form ∷ some Form ∷ some Range ∷ []

-- in the checking order: 19 "after 2", 3 after it
abbrev pub ArchiveOrder : Type 0
ArchiveOrder =
    (b : Bool) (s : State) (a : Archive) →
    (map (λ c. number c.answer) (archive_checks b s) ≡ 2 ∷ 3 ∷ [])
    × (map (λ c. number c.answer) (unarchive_checks a) ≡ 2 ∷ 19 ∷ 3 ∷ [])
    × (rises (map (λ c. rank c.answer) (unarchive_checks a)) ≡ true)

-- an archive of the site with a number and a clock, and what waits
abbrev pub archive_with : ℕ → ℕ → List Placed → List Operation → Archive
archive_with n t ps os = record { site = record { number = n; clock = t }; rows = ps; pending = os }

-- each of these is 2, though 19 fits as well: a row at place 0; one at clock 0, one toggled 256 times, and one that
-- names itself; a pending toggle to 0; site 17; clock 65,536. The place 1,024 of one row is in range, and 19
abbrev pub RangesTell : Type 0
RangesTell =
    let one = character (letter (1 at 1) begin end) in
    map (λ a. first (unarchive_checks a))
    (archive_at 9 (one on 0 ∷ []) ∷ archive_at 9 (character (letter (1 at 0) begin end) on 2 ∷ [])
    ∷ archive_at 9 (toggled 256 (letter (1 at 1) begin end) on 2 ∷ [])
    ∷ archive_at 9 (character (letter (1 at 1) (1 at 1) end) on 2 ∷ [])
    ∷ archive_with 1 9 (one on 2 ∷ []) (toggle_by 2 (7 at 7) 0 ∷ [])
    ∷ archive_with 17 9 (one on 2 ∷ []) []
    ∷ archive_at 65536 (one on 2 ∷ [])
    ∷ archive_at 9 (one on 1024 ∷ [])
    ∷ [])
    ≡ some Range ∷ some Range ∷ some Range ∷ some Range ∷ some Range ∷ some Range ∷ some Range ∷ some Misarranged ∷ []

-- "Waiting lines follow as before": in their order, on either trip
abbrev pub WaitingTells : Type 0
WaitingTells =
    let two = stray (3 at 1) ∷ toggle_by 2 (7 at 7) 1 ∷ [] in
    (archive_of (state_at 9 [] two) ≡ archive_with 1 9 [] two) × (state_from (archive_with 1 9 [] two) ≡ state_at 9 [] two)

-- a pending insert of the site's own number, and a clock that reaches it; one below it is 3 on either trip
abbrev pub WaitingClockTells : Type 0
WaitingClockTells =
    let own = stray (1 at 5) ∷ [] in
    (map (λ t. first (archive_checks (all_in_range (state_at t [] own)) (state_at t [] own))) (5 ∷ 4 ∷ [])
    ≡ none ∷ some Form ∷ [])
    × (map (λ t. first (unarchive_checks (archive_with 1 t [] own))) (5 ∷ 4 ∷ []) ≡ none ∷ some Form ∷ [])
