-- The calls on saved replicas: reading one from bytes, and writing one into a lent slice. Each has its conditions in
-- checking order; where none holds, what is done stands below them.
use Rattle.std.specs.Prelude.{ℕ, List, [], ◌∷◌, Bool, not, length, take, Err, Ok}
use Rattle.std.proofs.Math.Option.{Option, none, some}
use Rattle.woot.specs.declared.Document.{Document}
use Rattle.woot.specs.declared.Replica.{Replica}
use Rattle.answers.specs.declared.Refusal.TheVariants.{Layout, Range, Form}
use Rattle.woot.specs.Writing.{Written}
use Rattle.woot.specs.State.{State, initial}
use Rattle.woot.specs.Memory.{character_slots, pending_slots, meaning, stored, replica_well_formed, document_of}
use Rattle.woot.specs.Form.{clock_kept, well_formed, raised}
use Rattle.answers.specs.Answers.{Check, ◌⇒◌, first, decided, number}
use Rattle.woot.specs.Writing.{written_as, output_after}
use Rattle.saved.specs.LoadAnswer.{LoadAnswer}
use Rattle.saved.specs.declared.Loaded.{Loaded}
use Rattle.saved.specs.declared.Version.{Version}
use Rattle.saved.specs.declared.Version.TheVariants.{Second}
use Rattle.saved.specs.Format.{laid_out_as, state_as, in_range_as, saved_laid_out, saved_in_range, saved_bytes}

-- ---- reading

-- document 02, Req 04, "loading a saved sheet raises the clock": the state that loading makes of what the bytes say
unfoldable pub loaded_as : Version → List ℕ → State
loaded_as v s = raised (state_as v s)

abbrev pub loaded_state : List ℕ → State
loaded_state s = loaded_as Second s

-- the clock is below that of some own row or waiting insert
unfoldable pub raising_as : Version → List ℕ → Bool
raising_as v s = not (clock_kept (state_as v s))

abbrev pub needs_raising : List ℕ → Bool
needs_raising s = raising_as Second s

-- conditions 1, 2 and 3, each over all of the bytes
unfoldable pub load_checks : List ℕ → List (Check LoadAnswer)
load_checks s =
    (not (saved_laid_out s) ⇒ Err Layout) ∷ (not (saved_in_range s) ⇒ Err Range)
    ∷ (not (well_formed (loaded_state s)) ⇒ Err Form)
    ∷ []

-- the replica that stands beside a refusal
unfoldable pub no_replica : Replica
no_replica = stored (initial 0)

-- what reading returns where it hands no replica over
unfoldable pub unread : LoadAnswer → Loaded
unread a = record { answer = a; replica = no_replica }

-- the first condition that holds decides; where none does, the replica that the bytes say, its clock raised
unfoldable pub loaded : List ℕ → Loaded
loaded s = decided unread (first (load_checks s)) (record { answer = Ok tt; replica = stored (loaded_state s) })

-- a state as far as the arrays have slots for it
unfoldable pub fitting : State → State
fitting s =
    record {
      site = s.site;
      characters = take character_slots s.characters;
      pending = take pending_slots s.pending;
    }

-- a state as the arrays hold it, as far as they have slots, with the state's own counts, and the table of what they
-- hold
unfoldable pub in_arrays : State → Replica
in_arrays s =
    let d : Document = document_of (fitting s).characters (fitting s).pending in
    record {
      site = s.site;
      document = record {
        characters = d.characters;
        toggles = d.toggles;
        length = length s.characters;
        pending = d.pending;
        waiting = length s.pending;
        table = d.table;
      };
    }

-- the same, its clock raised over what the arrays hold
unfoldable pub raised_in_arrays : State → Replica
raised_in_arrays s = record { site = (raised (fitting s)).site; document = (in_arrays s).document }

-- conditions 1 and 2 alone
unfoldable pub reading_checks : Version → List ℕ → List (Check LoadAnswer)
reading_checks v s = (not (laid_out_as v s) ⇒ Err Layout) ∷ (not (in_range_as v s) ⇒ Err Range) ∷ []

-- what the bytes say, its clock raised and its form not checked
unfoldable pub saved_read : Version → List ℕ → Loaded
saved_read v s =
    decided unread (first (reading_checks v s)) (record { answer = Ok tt; replica = raised_in_arrays (state_as v s) })

-- the refusal's number, or 0
unfoldable pub load_number : LoadAnswer → ℕ
load_number (Ok _) = 0
load_number (Err r) = number r

-- the replica that is handed over: none with a refusal, whatever stands beside it
unfoldable pub handed_over : LoadAnswer → Replica → Option Replica
handed_over (Ok _) r = some r
handed_over (Err q) r = none

unfoldable pub load_value : Loaded → Option Replica
load_value x = handed_over x.answer x.replica

-- ---- writing

-- the bytes of a replica
abbrev pub bytes_of : Replica → List ℕ
bytes_of r = saved_bytes (meaning r)

-- condition 3; 12 comes after it
unfoldable pub save_checks : Replica → List (Check Written)
save_checks r = (not (replica_well_formed r) ⇒ Err Form) ∷ []

-- the number of bytes, or a refusal
unfoldable pub saved : Replica → List ℕ → Written
saved r out = written_as (save_checks r) (bytes_of r) out

-- every byte of the slice afterwards
unfoldable pub saved_out : Replica → List ℕ → List ℕ
saved_out r out = output_after (save_checks r) (bytes_of r) out
