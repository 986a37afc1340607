-- The promises about saved replicas, each proved in proofs/ under its name in small letters.
use Rattle.std.specs.Prelude.{ℕ, ◌≤◌, ◌<◌, ◌≡◌, ◌↔◌, true, false, List, [], ◌∷◌, ◌++◌, length, Err, Ok}
use Rattle.std.proofs.Math.Option.{some}
use Rattle.woot.specs.declared.Operation.TheVariants.{Insert as insert, Toggle as toggle}
use Rattle.woot.specs.declared.Replica.{Replica}
use Rattle.answers.specs.declared.Refusal.{Refusal}
use Rattle.woot.specs.Identifiers.{begin, end}
use Rattle.woot.specs.State.{State}
use Rattle.woot.specs.Memory.{meaning, stored, replica_well_formed}
use Rattle.woot.specs.Form.{all_in_range, well_formed, raised}
use Rattle.lines.specs.Lines.{rest}
use Rattle.answers.specs.Answers.{Reported}
use Rattle.woot.specs.Writing.{writing_checks, written_number, written_length}
use Rattle.replica.specs.Tables.{Searches}
use Rattle.saved.specs.declared.Version.TheVariants.{Second}
use Rattle.saved.specs.Format.{site_line, saved_laid_out, saved_in_range, saved_bytes}
use Rattle.saved.specs.Calls.{loaded_state, needs_raising, load_checks, no_replica, in_arrays, raised_in_arrays}
use Rattle.saved.specs.Calls.{loaded}
use Rattle.saved.specs.Calls.{load_number, load_value, bytes_of, save_checks, saved, saved_out, saved_read, loaded_as}
use Rattle.saved.specs.declared.Version.{Version}

-- ---- round trips

-- what is written of a state in form is read as that state, and its clock needs no raising
abbrev pub SavedReadsBack : Type 0
SavedReadsBack =
    (s : State) → well_formed s ≡ true →
    ((loaded (saved_bytes s)).answer ≡ Ok tt) × ((loaded (saved_bytes s)).replica ≡ stored s)
    × (needs_raising (saved_bytes s) ≡ false)

-- and bytes that are read were written so, byte for byte: by Req 04 of document 02, "those whose clock needs no
-- raising"
abbrev pub LoadedWritesBack : Type 0
LoadedWritesBack =
    (bytes : List ℕ) → (loaded bytes).answer ≡ Ok tt → needs_raising bytes ≡ false →
    saved_bytes (meaning (loaded bytes).replica) ≡ bytes

-- of any other the first line alone differs, which has the raised clock
abbrev pub RaisedWritesBack : Type 0
RaisedWritesBack =
    (bytes : List ℕ) → (loaded bytes).answer ≡ Ok tt →
    saved_bytes (meaning (loaded bytes).replica) ≡ site_line Second (loaded_state bytes).site ++ rest bytes

-- a replica that is read is in form
abbrev pub LoadedFormed : Type 0
LoadedFormed = (bytes : List ℕ) → (loaded bytes).answer ≡ Ok tt → well_formed (meaning (loaded bytes).replica) ≡ true

-- what is read before the form is checked: with its clock raised the replica of a state in range is in form exactly
-- when the state that loading makes is, and then it is that state as it is stored, and means it. The numbers of a state
-- out of range may be those of another
abbrev pub RaisedForm : Type 0
RaisedForm =
    (s : State) →
    (all_in_range s ≡ true → replica_well_formed (raised_in_arrays s) ≡ well_formed (raised s))
    × (well_formed (raised s) ≡ true →
    (raised_in_arrays s ≡ stored (raised s)) × (meaning (raised_in_arrays s) ≡ raised s))

-- the same of a state as it stands, its clock not raised
abbrev pub ArraysForm : Type 0
ArraysForm =
    (s : State) →
    (all_in_range s ≡ true → replica_well_formed (in_arrays s) ≡ well_formed s)
    × (well_formed s ≡ true → (in_arrays s ≡ stored s) × (meaning (in_arrays s) ≡ s))

-- so it is with all that is read, in either form
abbrev pub ReadForm : Type 0
ReadForm =
    (v : Version) (bytes : List ℕ) → (saved_read v bytes).answer ≡ Ok tt →
    (replica_well_formed (saved_read v bytes).replica ≡ well_formed (loaded_as v bytes))
    × (well_formed (loaded_as v bytes) ≡ true →
    ((saved_read v bytes).replica ≡ stored (loaded_as v bytes))
    × (meaning (saved_read v bytes).replica ≡ loaded_as v bytes))

-- ---- document 02, Req 12: the table

-- "in every sheet begun, read or built", of those read: the table finds what a plain search finds
abbrev pub LoadedSearches : Type 0
LoadedSearches = (bytes : List ℕ) → (loaded bytes).answer ≡ Ok tt → Searches (loaded bytes).replica

-- "no saved form holds it, and it alone may differ after a sheet is written and read": a replica in form is read as one
-- that means the same, whatever its table was
abbrev pub TableAloneDiffers : Type 0
TableAloneDiffers =
    (r : Replica) → replica_well_formed r ≡ true →
    ((loaded (bytes_of r)).answer ≡ Ok tt) × (meaning (loaded (bytes_of r)).replica ≡ meaning r)

-- ---- the layout, on lines of every kind: the round trips would hold of any order of fields

-- laptop 3 at clock 7; 2/1 brought back once and 1/4 hidden behind it; an insert of 5/2 and a fifth turn by 6 wait
abbrev pub example_state : State
example_state =
    record {
      site = record { number = 3; clock = 7 };
      characters =
          record { id = record { site = 2; clock = 1 }; code_point = 66; toggles = 2; previous = begin; next = end }
          ∷ record {
            id = record { site = 1; clock = 4 };
            code_point = 65;
            toggles = 1;
            previous = record { site = 2; clock = 1 };
            next = end;
          }
          ∷ [];
      pending =
          insert (record {
            id = record { site = 5; clock = 2 };
            code_point = 8364;
            previous = record { site = 4; clock = 1 };
            next = end;
          })
          ∷ toggle (record { sender = 6; target = record { site = 4; clock = 9 }; toggles = 5 })
          ∷ [];
    }

-- `S2 3 7`, `C 2 1 66 2 0 0 0 1`, `C 1 4 65 1 2 1 0 1`, `I 5 2 8364 4 1 0 1`, `E 6 4 9 5`, with tabs for the spaces
abbrev pub example_bytes : List ℕ
example_bytes =
    83 ∷ 50 ∷ 9 ∷ 51 ∷ 9 ∷ 55 ∷ 10
    ∷ 67 ∷ 9 ∷ 50 ∷ 9 ∷ 49 ∷ 9 ∷ 54 ∷ 54 ∷ 9 ∷ 50 ∷ 9 ∷ 48 ∷ 9 ∷ 48 ∷ 9 ∷ 48 ∷ 9 ∷ 49 ∷ 10
    ∷ 67 ∷ 9 ∷ 49 ∷ 9 ∷ 52 ∷ 9 ∷ 54 ∷ 53 ∷ 9 ∷ 49 ∷ 9 ∷ 50 ∷ 9 ∷ 49 ∷ 9 ∷ 48 ∷ 9 ∷ 49 ∷ 10
    ∷ 73 ∷ 9 ∷ 53 ∷ 9 ∷ 50 ∷ 9 ∷ 56 ∷ 51 ∷ 54 ∷ 52 ∷ 9 ∷ 52 ∷ 9 ∷ 49 ∷ 9 ∷ 48 ∷ 9 ∷ 49 ∷ 10
    ∷ 69 ∷ 9 ∷ 54 ∷ 9 ∷ 52 ∷ 9 ∷ 57 ∷ 9 ∷ 53 ∷ 10 ∷ []

abbrev pub SavedExample : Type 0
SavedExample = saved_bytes example_state ≡ example_bytes

-- document 02, Req 05: what is read "in a second form only": `S 3 7`, the first, and `S2 3 7` with a waiting `D 6 4 9`,
-- lack the layout, as that line with `E 6 4 9 1` does not
abbrev pub SecondFormOnly : Type 0
SecondFormOnly =
    (saved_laid_out (83 ∷ 9 ∷ 51 ∷ 9 ∷ 55 ∷ 10 ∷ []) ≡ false)
    × (saved_laid_out (83 ∷ 50 ∷ 9 ∷ 51 ∷ 9 ∷ 55 ∷ 10 ∷ 68 ∷ 9 ∷ 54 ∷ 9 ∷ 52 ∷ 9 ∷ 57 ∷ 10 ∷ []) ≡ false)
    × (saved_laid_out (83 ∷ 50 ∷ 9 ∷ 51 ∷ 9 ∷ 55 ∷ 10 ∷ 69 ∷ 9 ∷ 54 ∷ 9 ∷ 52 ∷ 9 ∷ 57 ∷ 9 ∷ 49 ∷ 10 ∷ []) ≡ true)

-- ---- sizes

-- document 02, Req 05: "it is at most 51,212 bytes"
abbrev pub saved_most : ℕ
saved_most = 51212

abbrev pub SavedLength : Type 0
SavedLength = (s : State) → well_formed s ≡ true → length (saved_bytes s) ≤ saved_most

-- ---- refusals: any bytes, any replica, any slice

-- the reader answers refusal r exactly when its condition holds and none before it, with the replica named for it
abbrev pub LoadRefuses : Type 0
LoadRefuses =
    (bytes : List ℕ) (r : Refusal) →
    (((loaded bytes).answer ≡ Err r) ↔ Reported (Err r) (load_checks bytes))
    × ((loaded bytes).answer ≡ Err r → (loaded bytes).replica ≡ no_replica)

-- by number: 1 where the layout lacks, 2 where it does not and something is out of range, 3 where neither is and the
-- state that loading makes is not in form, else 0 and the replica that stores that state
abbrev pub LoadNumbers : Type 0
LoadNumbers =
    (bytes : List ℕ) →
    ((load_number (loaded bytes).answer ≡ 1) ↔ (saved_laid_out bytes ≡ false))
    × ((load_number (loaded bytes).answer ≡ 2) ↔ ((saved_laid_out bytes ≡ true) × (saved_in_range bytes ≡ false)))
    × ((load_number (loaded bytes).answer ≡ 3)
    ↔ ((saved_laid_out bytes ≡ true) × (saved_in_range bytes ≡ true) × (well_formed (loaded_state bytes) ≡ false)))
    × ((load_number (loaded bytes).answer ≡ 0)
    ↔ ((saved_laid_out bytes ≡ true) × (saved_in_range bytes ≡ true) × (well_formed (loaded_state bytes) ≡ true)))
    × ((r : Replica) →
    (load_value (loaded bytes) ≡ some r)
    ↔ ((saved_laid_out bytes ≡ true) × (saved_in_range bytes ≡ true) × (well_formed (loaded_state bytes) ≡ true)
    × (stored (loaded_state bytes) ≡ r)))

-- the writer answers refusal r exactly when its condition holds and none before it, and changes no byte then
abbrev pub SaveRefuses : Type 0
SaveRefuses =
    (r : Replica) (out : List ℕ) (q : Refusal) →
    ((saved r out ≡ Err q) ↔ Reported (Err q) (writing_checks (save_checks r) (bytes_of r) out))
    × (saved r out ≡ Err q → saved_out r out ≡ out)

-- by number: 3 where the replica is not in form, 12 where it is and the slice is shorter than the bytes, else 0 and how
-- many bytes there are
abbrev pub SaveNumbers : Type 0
SaveNumbers =
    (r : Replica) (out : List ℕ) →
    ((written_number (saved r out) ≡ 3) ↔ (replica_well_formed r ≡ false))
    × ((written_number (saved r out) ≡ 12) ↔ ((replica_well_formed r ≡ true) × (length out < length (bytes_of r))))
    × ((written_number (saved r out) ≡ 0) ↔ ((replica_well_formed r ≡ true) × (length (bytes_of r) ≤ length out)))
    × ((written_length (saved r out) ≡ length (bytes_of r))
    ↔ ((replica_well_formed r ≡ true) × (length (bytes_of r) ≤ length out)))
