-- Bytes that tell the layout of archives and the two calls on them from slips. Proved in `proofs/ArchiveCases.antt`.
use Rattle.std.specs.Prelude.{ℕ, ◌≡◌, List, [], ◌∷◌, ◌++◌, map, replicate}
use Rattle.woot.specs.Writing.{written_number, written_length}
use Rattle.bulk.specs.Archiving.{archive_of}
use Rattle.saved.specs.Archive.{archive_bytes, archive_written, archive_out, unarchive_written, unarchive_out}
use Rattle.saved.specs.Theorems.{example_state, example_bytes}

-- ---- the layout: the trips would hold of any order of fields

-- `S2 3 7`, `P 2 1 4 65 1 2 1 0 1`, `P 1 2 1 66 2 0 0 0 1`, `I 5 2 8364 4 1 0 1`, `E 6 4 9 5`, with tabs for the spaces
abbrev pub archive_example : List ℕ
archive_example =
    83 ∷ 50 ∷ 9 ∷ 51 ∷ 9 ∷ 55 ∷ 10
    ∷ 80 ∷ 9 ∷ 50 ∷ 9 ∷ 49 ∷ 9 ∷ 52 ∷ 9 ∷ 54 ∷ 53 ∷ 9 ∷ 49 ∷ 9 ∷ 50 ∷ 9 ∷ 49 ∷ 9 ∷ 48 ∷ 9 ∷ 49 ∷ 10
    ∷ 80 ∷ 9 ∷ 49 ∷ 9 ∷ 50 ∷ 9 ∷ 49 ∷ 9 ∷ 54 ∷ 54 ∷ 9 ∷ 50 ∷ 9 ∷ 48 ∷ 9 ∷ 48 ∷ 9 ∷ 48 ∷ 9 ∷ 49 ∷ 10
    ∷ 73 ∷ 9 ∷ 53 ∷ 9 ∷ 50 ∷ 9 ∷ 56 ∷ 51 ∷ 54 ∷ 52 ∷ 9 ∷ 52 ∷ 9 ∷ 49 ∷ 9 ∷ 48 ∷ 9 ∷ 49 ∷ 10
    ∷ 69 ∷ 9 ∷ 54 ∷ 9 ∷ 52 ∷ 9 ∷ 57 ∷ 9 ∷ 53 ∷ 10 ∷ []

abbrev pub ArchiveExample : Type 0
ArchiveExample = archive_bytes (archive_of example_state) ≡ archive_example

-- both trips of the example, into slices that are just long enough and into longer ones, and the number of bytes; one
-- byte less is 12, and changes none
abbrev pub ArchiveTrips : Type 0
ArchiveTrips =
    (archive_out example_bytes (replicate 78 0) ≡ archive_example)
    × (unarchive_out archive_example (replicate 74 0) ≡ example_bytes)
    × (archive_out example_bytes (replicate 80 7) ≡ archive_example ++ 7 ∷ 7 ∷ [])
    × (unarchive_out archive_example (replicate 76 7) ≡ example_bytes ++ 7 ∷ 7 ∷ [])
    × (written_length (archive_written example_bytes (replicate 80 7)) ≡ 78)
    × (written_length (unarchive_written archive_example (replicate 76 7)) ≡ 74)
    × (written_number (archive_written example_bytes (replicate 77 7)) ≡ 12)
    × (written_number (unarchive_written archive_example (replicate 73 7)) ≡ 12)
    × (archive_out example_bytes (replicate 77 7) ≡ replicate 77 7)
    × (unarchive_out archive_example (replicate 73 7) ≡ replicate 73 7)

-- ---- what is refused

-- the replies to bytes, with no output lent: 12 where nothing else is refused
abbrev pub archiving_replies : List (List ℕ) → List ℕ
archiving_replies ss = map (λ s. written_number (archive_written s [])) ss

abbrev pub unarchiving_replies : List (List ℕ) → List ℕ
unarchiving_replies bs = map (λ b. written_number (unarchive_written b [])) bs

-- `S2 1 4`, its clock by a digit
abbrev pub site_at : ℕ → List ℕ
site_at digit = 83 ∷ 50 ∷ 9 ∷ 49 ∷ 9 ∷ digit ∷ 10 ∷ []

-- `1 4 65 0 0 0 0 1`, the numbers of a row after its head and its place
abbrev pub row_numbers : List ℕ
row_numbers =
    9 ∷ 49 ∷ 9 ∷ 52 ∷ 9 ∷ 54 ∷ 53 ∷ 9 ∷ 48 ∷ 9 ∷ 48 ∷ 9 ∷ 48 ∷ 9 ∷ 48 ∷ 9 ∷ 49 ∷ 10 ∷ []

-- `P`, a place of these bytes, and those numbers
abbrev pub place_spelt : List ℕ → List ℕ
place_spelt place = 80 ∷ 9 ∷ place ++ row_numbers

-- `C` and those numbers
abbrev pub saved_row : List ℕ
saved_row = 67 ∷ row_numbers

-- `D 6 4 9`
abbrev pub waiting_d : List ℕ
waiting_d = 68 ∷ 9 ∷ 54 ∷ 9 ∷ 52 ∷ 9 ∷ 57 ∷ 10 ∷ []

-- `E 6 4 9 1`, its turn by a digit
abbrev pub waiting_e : ℕ → List ℕ
waiting_e digit = 69 ∷ 9 ∷ 54 ∷ 9 ∷ 52 ∷ 9 ∷ 57 ∷ 9 ∷ digit ∷ 10 ∷ []

-- one row at the place 1; 0 and 1,025 and twenty nines, each 2; 2 and 1,024, each 19; `01` and no place, each 1
abbrev pub PlacesSpelt : Type 0
PlacesSpelt =
    unarchiving_replies
    (map (λ place. site_at 52 ++ place_spelt place)
    ((49 ∷ []) ∷ (48 ∷ []) ∷ (49 ∷ 48 ∷ 50 ∷ 53 ∷ []) ∷ replicate 20 57 ∷ (50 ∷ []) ∷ (49 ∷ 48 ∷ 50 ∷ 52 ∷ [])
    ∷ (48 ∷ 49 ∷ [])
    ∷ []
    ∷ []))
    ≡ 12 ∷ 2 ∷ 2 ∷ 2 ∷ 19 ∷ 19 ∷ 1 ∷ 1 ∷ []

-- no rows, and a waiting `E`, which are as well in an archive as in a saved replica; a waiting `D`, a `C` line, a `P`
-- line behind a waiting one, `S` in place of `S2`, a last line without its line feed, no bytes: each 1
abbrev pub ArchiveLayouts : Type 0
ArchiveLayouts =
    unarchiving_replies
    (site_at 52 ∷ (site_at 52 ++ waiting_e 49) ∷ (site_at 52 ++ waiting_d) ∷ (site_at 52 ++ saved_row)
    ∷ (site_at 52 ++ waiting_e 49 ++ place_spelt (49 ∷ []))
    ∷ (83 ∷ 9 ∷ 49 ∷ 9 ∷ 52 ∷ 10 ∷ [])
    ∷ (site_at 52 ++ 80 ∷ [])
    ∷ []
    ∷ [])
    ≡ 12 ∷ 12 ∷ 1 ∷ 1 ∷ 1 ∷ 1 ∷ 1 ∷ 1 ∷ []

-- a saved replica with a row; a waiting `E` with turn 0, which is 2; a `P` line, which is 1; the clock 3, below the
-- row's, which is 3 on either trip, not raised, and changes no byte
abbrev pub ArchivedReplies : Type 0
ArchivedReplies =
    let savedLow = site_at 51 ++ saved_row in
    let low = site_at 51 ++ place_spelt (49 ∷ []) in
    (archiving_replies
    ((site_at 52 ++ saved_row) ∷ (site_at 52 ++ saved_row ++ waiting_e 48) ∷ (site_at 52 ++ place_spelt (49 ∷ []))
    ∷ savedLow
    ∷ [])
    ≡ 12 ∷ 2 ∷ 1 ∷ 3 ∷ [])
    × (unarchiving_replies (low ∷ []) ≡ 3 ∷ [])
    × (archive_out savedLow (replicate 40 7) ≡ replicate 40 7)
    × (unarchive_out low (replicate 40 7) ≡ replicate 40 7)

-- where several fit, over all of the bytes: 1 behind a place 0; 2 behind a repeated row; 19 with a low clock
abbrev pub ArchiveFirsts : Type 0
ArchiveFirsts =
    unarchiving_replies
    ((site_at 52 ++ place_spelt (48 ∷ []) ++ waiting_d)
    ∷ (site_at 52 ++ place_spelt (49 ∷ []) ++ place_spelt (49 ∷ []) ++ place_spelt (48 ∷ []))
    ∷ (site_at 51 ++ place_spelt (49 ∷ []) ++ place_spelt (49 ∷ []))
    ∷ [])
    ≡ 1 ∷ 2 ∷ 19 ∷ []
