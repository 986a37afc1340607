-- Demand 3 over every kind of call that there is, in any mixture: proved in proofs/ under its name in small letters.
use Rattle.std.specs.Prelude.{ℕ, ◌≤◌, ◌≡◌, Bool, true, ◌&&◌, List, [], ◌∷◌, map, length}
use Rattle.woot.specs.Ranges.{site_number}
use Rattle.woot.specs.Pending.{executable}
use Rattle.answers.specs.Answers.{done}
use Rattle.woot.specs.Histories.{run, SameInserted, SameToggled}
use Rattle.bulk.specs.Beginnings.{start_of, history_of}
use Rattle.convergence.specs.Building.{FromHeap, AllOfHeap}
use Rattle.codec.specs.Operations.{operation_line}
use Rattle.codec.specs.Calls.{said_by}
use Rattle.heap.specs.Format.{heap_said}
use Rattle.saved.specs.declared.Version.TheVariants.{First, Second}
use Rattle.saved.specs.Theorems.{saved_most}
use Rattle.c_calls.specs.Calls.{wimtaze_receive, one_line}
use Rattle.c_calls.specs.Theorems.{bytes_written, converted_from}
use Rattle.consistency.specs.Copies.{Copy, as_bytes, Call, bytes_call, for_c, word_of, state_of, step_on, ran, rules_by}
use Rattle.consistency.specs.Copies.{Start, empty_bytes, built_bytes, built_into, begun, beginning_of}
use Rattle.consistency.specs.Copies.{refusal_on, carried_before, carried_since}
use Rattle.consistency.specs.Copies.{characters_of, text_of}

-- a copy begun empty, built or loaded says at every moment what the calls of the rules leave that were made by the
-- calls on it, and what was carried out on it is what they carried out
pub record Follows (a : Start) (cs : List Call) : Type 0 where
  pub says : state_of (ran (begun a) cs) ≡ run (start_of (beginning_of a)) (rules_by (begun a) cs)
  pub carries : carried_since a cs ≡ history_of (beginning_of a) (rules_by (begun a) cs)

abbrev pub CopiesFollow : Type 0
CopiesFollow = (a : Start) (cs : List Call) → Follows a cs

-- document 02, Req 06: a saved copy begun empty, built or loaded that goes back to the first form and forward again is
-- the one that it was, so that a list of calls may go on with it
abbrev pub TripsKeep : Type 0
TripsKeep =
    (a : Start) (cs : List Call) (bytes out back : List ℕ) → ran (begun a) cs ≡ as_bytes bytes →
    (converted_from Second bytes out).result.reply.word ≡ done → saved_most ≤ length back →
    bytes_written (converted_from First (bytes_written (converted_from Second bytes out)) back) ≡ bytes

-- equal rows and equal visible texts
pub record SameCopies (a b : Start) (cs ds : List Call) : Type 0 where
  pub characters : characters_of (ran (begun a) cs) ≡ characters_of (ran (begun b) ds)
  pub text : text_of (ran (begun a) cs) ≡ text_of (ran (begun b) ds)

-- demand 3, read with Req 05 of document 02: the same inserts carried out and for each "the same largest turn carried
-- out" give equal characters and equal visible bytes
abbrev pub CopiesConverge : Type 0
CopiesConverge =
    (a b : Start) (cs ds : List Call) →
    SameInserted (carried_since a cs) (carried_since b ds) →
    SameToggled (carried_since a cs) (carried_since b ds) → SameCopies a b cs ds

-- ---- document 02, Req 08

-- a line is handed to `wimtaze_receive`, with this output
abbrev pub receiving_line : List ℕ → List ℕ → Call
receiving_line out line = bytes_call (for_c (wimtaze_receive line) out [])

-- the lines handed one by one, to a copy that `wimtaze_empty` began for site m
abbrev pub received_in_c : ℕ → List ℕ → List (List ℕ) → Copy
received_in_c m out ls = ran (begun (empty_bytes m out)) (map (receiving_line out) ls)

-- "each after all it needs": each is one line, and executable on the copy as it then is
abbrev pub each_ready_on : Copy → List ℕ → List (List ℕ) → Bool
each_ready_on p out [] = true
each_ready_on p out (l ∷ ls) =
    one_line l && executable (characters_of p) (said_by l)
    && each_ready_on (step_on p (receiving_line out l)).copy out ls

-- such a sequence of a heap's operations: none but those, repeated or not, and all but what is left out
pub record InSequence (heap : List ℕ) (m : ℕ) (out : List ℕ) (ls : List (List ℕ)) : Type 0 where
  pub of-heap : FromHeap (heap_said heap) (map said_by ls)
  pub ready : each_ready_on (begun (empty_bytes m out)) out ls ≡ true
  pub all_there : AllOfHeap (heap_said heap) (map said_by ls)

-- "Its rows equal those got by receiving the operations one by one, each after all it needs, in any such sequence": of
-- the bytes that `wimtaze_build` wrote, and those that `wimtaze_receive` left on a laptop of any number, with outputs
-- of the header's size
abbrev pub BuildReceives : Type 0
BuildReceives =
    (n m : ℕ) (heap out room : List ℕ) (ls : List (List ℕ)) → word_of (built_into n heap out) ≡ done →
    site_number m ≡ true → saved_most ≤ length room → InSequence heap m room ls →
    characters_of (begun (built_bytes n heap out)) ≡ characters_of (received_in_c m room ls)

-- and there is such a sequence: the lines of what was carried out to make it, in the rule's order
abbrev pub BuildSequence : Type 0
BuildSequence =
    (n m : ℕ) (heap out room : List ℕ) → word_of (built_into n heap out) ≡ done → site_number m ≡ true →
    saved_most ≤ length room → InSequence heap m room (map operation_line (carried_before (built_bytes n heap out)))

-- ---- document 02, Req 07

-- "After such a load refusal 9 can't occur as long as every call gets the sheet as the call before left it": with every
-- kind of call, and from the other starts too
abbrev pub LoadedNeverNine : Type 0
LoadedNeverNine = (a : Start) (cs : List Call) (c : Call) → refusal_on (ran (begun a) cs) c ≡ 9 → ⊥
