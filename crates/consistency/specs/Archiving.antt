-- Document 02, Req 10, of what runs: archiving a copy leaves the copy, and one that is archived and brought back is the
-- one that it was. Over every kind of call that there is; proved in proofs/ under the names in small letters.
use Rattle.std.specs.Prelude.{ℕ, ◌≤◌, ◌≡◌, true, List, [], ◌∷◌, length}
use Rattle.std.proofs.Math.Option.{Option, none, some}
use Rattle.woot.specs.Form.{well_formed}
use Rattle.bulk.specs.Archiving.{archive_of}
use Rattle.woot.specs.Histories.{SameInserted, SameToggled}
use Rattle.saved.specs.Archive.{archive_said}
use Rattle.saved.specs.Archives.{archive_most}
use Rattle.saved.specs.Theorems.{saved_most}
use Rattle.c_calls.specs.Calls.{wimtaze_archive, wimtaze_unarchive}
use Rattle.c_calls.specs.Theorems.{archived_in_c, unarchived_in_c}
use Rattle.consistency.specs.Copies.{Copy, in_memory, as_bytes, Call, bytes_call, for_c, kept_bytes, state_of, step_on}
use Rattle.consistency.specs.Copies.{ran, Start, begun, carried_since}
use Rattle.consistency.specs.Catching.{front_read, Meet}

-- ---- each trip by itself

-- a call leaves this copy as it is, and makes no call of the rules
pub record KeepsCopy (p : Copy) (c : Call) : Type 0 where
  pub same_copy : (step_on p c).copy ≡ p
  pub none_made : (step_on p c).rules ≡ []

-- both do, whatever the copy is and whatever they answer
abbrev pub ArchivingKeeps : Type 0
ArchivingKeeps =
    (p : Copy) (out line : List ℕ) →
    KeepsCopy p (bytes_call (for_c wimtaze_archive out line))
    × KeepsCopy p (bytes_call (for_c wimtaze_unarchive out line))

-- ---- both trips, one after the other

-- the bytes that a program has once `wimtaze_archive` was handed its copy and `wimtaze_unarchive` the archive: those
-- that the second wrote, and where either refuses those that it had
abbrev pub returned_from : List ℕ → Option (List ℕ) → List ℕ → List ℕ
returned_from b none back = b
returned_from b (some archive) back = kept_bytes b (unarchived_in_c archive back)

abbrev pub brought_back : List ℕ → List ℕ → List ℕ → List ℕ
brought_back b out back = returned_from b (front_read (archived_in_c b out)) back

-- what a program does with its copy: a call, or both trips with two outputs, whatever these hold and however short they
-- are
pub data Act : Type 0 where
  one_call : Call → Act
  trip : List ℕ → List ℕ → Act

-- a copy in memory is not archived
unfoldable pub act_on : Copy → Act → Copy
act_on p (one_call c) = (step_on p c).copy
act_on (in_memory r) (trip out back) = in_memory r
act_on (as_bytes b) (trip out back) = as_bytes (brought_back b out back)

abbrev pub acted : Copy → List Act → Copy
acted p [] = p
acted p (x ∷ xs) = acted (act_on p x) xs

-- the calls among them, without the trips
abbrev pub calls_among : List Act → List Call
calls_among [] = []
calls_among (one_call c ∷ xs) = c ∷ calls_among xs
calls_among (trip out back ∷ xs) = calls_among xs

-- "The way back gives exactly the saved sheet that was rearranged, whatever its rows": a list of calls with such trips
-- anywhere in it ends as the list without them, on any copy
abbrev pub ArchiveTripsKeep : Type 0
ArchiveTripsKeep = (p : Copy) (xs : List Act) → acted p xs ≡ ran p (calls_among xs)

-- so demand 3 holds with such trips on either side
abbrev pub ArchivedConverge : Type 0
ArchivedConverge =
    (a b : Start) (xs ys : List Act) →
    SameInserted (carried_since a (calls_among xs)) (carried_since b (calls_among ys)) →
    SameToggled (carried_since a (calls_among xs)) (carried_since b (calls_among ys)) →
    Meet (acted (begun a) xs) (acted (begun b) ys)

-- ---- every copy can be archived

-- neither trip of these bytes is refused, with these outputs: the archive says what they say, and they come back
pub record BothTrips (b out back : List ℕ) : Type 0 where
  pub archive : List ℕ
  pub archive-written : front_read (archived_in_c b out) ≡ some archive
  pub archive-says : archive_said archive ≡ archive_of (state_of (as_bytes b))
  pub brought-back : front_read (unarchived_in_c archive back) ≡ some b

-- so it is with outputs of the header's sizes and a saved copy in form, begun empty, built or loaded, with every call
-- given the sheet as the call before left it
abbrev pub CopiesArchived : Type 0
CopiesArchived =
    (a : Start) (cs : List Call) (b out back : List ℕ) → ran (begun a) cs ≡ as_bytes b →
    well_formed (state_of (as_bytes b)) ≡ true → archive_most ≤ length out → saved_most ≤ length back →
    BothTrips b out back
