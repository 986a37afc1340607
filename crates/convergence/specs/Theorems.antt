-- The promises about the rules, each proved in proofs/ under its name in small letters.
use Rattle.std.specs.Prelude.{ℕ, ◌+◌, ◌≤◌, ◌≡◌, Bool, true, false, ◌||◌, cond, ◌↔◌, ◌⊎◌, length, Ok, Err}
use Rattle.std.proofs.Math.Option.{Option, none, some}
use mathlib.Core.List.{List, [], ◌∷◌, map, Memᴰ}
use Rattle.woot.specs.declared.Identifier.{Identifier}
use Rattle.woot.specs.declared.Insert.{Insert}
use Rattle.woot.specs.declared.Toggle.{Toggle}
use Rattle.woot.specs.declared.Operation.{Operation}
use Rattle.woot.specs.declared.Operation.TheVariants.{Insert as insert, Toggle as toggle}
use Rattle.woot.specs.declared.Character.{Character}
use Rattle.answers.specs.declared.Refusal.{Refusal}
use Rattle.answers.specs.declared.Refusal.TheVariants.{Unplaceable, SenderFull, DocumentFull}
use Rattle.answers.specs.declared.Answer.TheVariants.{Deferred, Duplicate, Refused}
use Rattle.woot.specs.Writing.{Written}
use Rattle.output.specs.Output.{placed}
use Rattle.woot.specs.Identifiers.{same}
use Rattle.woot.specs.Operations.{sender, origin, with_toggles, inserts}
use Rattle.woot.specs.Ranges.{site_number, in_range}
use Rattle.woot.specs.State.{State, initial}
use Rattle.woot.specs.Memory.{pending_slots}
use Rattle.woot.specs.Placing.{identifiers, above, Interval, adjacent, candidates, narrowed, position}
use Rattle.woot.specs.Pending.{executable, crossed, unplaceable, integrate, sent_by, Extracted, earliest, Drained}
use Rattle.woot.specs.Pending.{and_integrated, and_discarded, drained, drain}
use Rattle.woot.specs.Form.{well_formed}
use Rattle.answers.specs.Answers.{number, done, waits, reply, Check, NoneHolds, Reported}
use Rattle.woot.specs.Sending.{answer_of, sent_operation}
use Rattle.woot.specs.Calls.{unchanged, all_integrated, receive_checks, receive_when, receive, insert_checks}
use Rattle.woot.specs.Calls.{generated_insert, local_insert_when, local_insert, delete_checks, generated_delete}
use Rattle.woot.specs.Calls.{local_delete_when, local_delete, restore_checks, generated_toggle, local_restore_when}
use Rattle.woot.specs.Calls.{local_restore}
use Rattle.woot.specs.Writing.{writing_checks, written_as, output_after, written_number}
use Rattle.woot.specs.Text.{text}
use Rattle.woot.specs.Situations.{full}
use Rattle.woot.specs.Histories.{Call, outcome, run, drained_by, discarded_by, deferred_by, InsertedIn}
use Rattle.bulk.specs.Beginnings.{Begun, start_of}
use Rattle.woot.specs.Histories.{largest_in, SameInserted, SameToggled}
use Rattle.bulk.specs.Beginnings.{characters_after, history_of}
use Rattle.convergence.specs.Agreement.{Grown, OneMeaning}

-- ---- the rules as recursions, with no count of steps

-- 001's IntegrateIns on any interval: nothing between, no candidate (refusal 9), or the same in a narrower interval
abbrev pub PlacingRecurs : Type 0
PlacingRecurs =
    (cs : List Character) (x : Identifier) (v : Interval) →
    position cs x v
    ≡ cond (adjacent v) (some v.upper)
    (elim (candidates cs v) [ [] ↦ none | l ∷ ls ↦ position cs x (narrowed x v (l ∷ ls)) ])

-- the earliest that has all it needs is carried out or thrown out, and the rest is drained
abbrev pub drain_next : List Character → List Operation → Option Extracted → Drained
drain_next cs ps none = drained cs ps
drain_next cs ps (some t) =
    cond (crossed cs t.operation || unplaceable cs t.operation)
    (and_discarded t.operation (drain cs t.others))
    (and_integrated t.operation (drain (integrate cs t.operation) t.others))

-- "and again until there is none"
abbrev pub DrainingRecurs : Type 0
DrainingRecurs =
    (cs : List Character) (ps : List Operation) → drain cs ps ≡ drain_next cs ps (earliest (executable cs) ps)

-- ---- refusals: any state, in form or not, any arguments

-- receiving answers refusal r exactly when its condition holds and none before it, known's place among them
abbrev pub ReceiveRefuses : Type 0
ReceiveRefuses =
    (formed : Bool) (s : State) (o : Operation) (r : Refusal) →
    ((receive_when formed s o).answer ≡ Refused r) ↔ Reported (Refused r) (receive_checks formed s o)

-- receiving answers known exactly when the operation is known and no condition before that holds
abbrev pub ReceiveKnows : Type 0
ReceiveKnows =
    (formed : Bool) (s : State) (o : Operation) →
    ((receive_when formed s o).answer ≡ Duplicate) ↔ Reported Duplicate (receive_checks formed s o)

-- typing, erasing and restoring answer refusal r exactly when its condition holds and none before it
abbrev pub InsertRefuses : Type 0
InsertRefuses =
    (formed : Bool) (s : State) (g n : ℕ) (r : Refusal) →
    ((local_insert_when formed s g n).answer ≡ Err r) ↔ Reported (Err r) (insert_checks formed s g n)

abbrev pub DeleteRefuses : Type 0
DeleteRefuses =
    (formed : Bool) (s : State) (p : ℕ) (r : Refusal) →
    ((local_delete_when formed s p).answer ≡ Err r) ↔ Reported (Err r) (delete_checks formed s p)

abbrev pub RestoreRefuses : Type 0
RestoreRefuses =
    (formed : Bool) (s : State) (x : Identifier) (r : Refusal) →
    ((local_restore_when formed s x).answer ≡ Err r) ↔ Reported (Err r) (restore_checks formed s x)

-- no two refusals have one number
abbrev pub NumbersDiffer : Type 0
NumbersDiffer = (r q : Refusal) → number r ≡ number q → r ≡ q

-- so each is answered by its number exactly when its condition holds and none before it
abbrev pub ReceiveNumbers : Type 0
ReceiveNumbers =
    (formed : Bool) (s : State) (o : Operation) (r : Refusal) →
    ((reply (receive_when formed s o).answer).refusal ≡ number r) ↔ Reported (Refused r) (receive_checks formed s o)

abbrev pub InsertNumbers : Type 0
InsertNumbers =
    (formed : Bool) (s : State) (g n : ℕ) (r : Refusal) →
    ((reply (answer_of (local_insert_when formed s g n).answer)).refusal ≡ number r)
    ↔ Reported (Err r) (insert_checks formed s g n)

abbrev pub DeleteNumbers : Type 0
DeleteNumbers =
    (formed : Bool) (s : State) (p : ℕ) (r : Refusal) →
    ((reply (answer_of (local_delete_when formed s p).answer)).refusal ≡ number r)
    ↔ Reported (Err r) (delete_checks formed s p)

abbrev pub RestoreNumbers : Type 0
RestoreNumbers =
    (formed : Bool) (s : State) (x : Identifier) (r : Refusal) →
    ((reply (answer_of (local_restore_when formed s x).answer)).refusal ≡ number r)
    ↔ Reported (Err r) (restore_checks formed s x)

-- receiving answers done exactly when no condition holds and everything needed is held
abbrev pub ReceiveDoes : Type 0
ReceiveDoes =
    (formed : Bool) (s : State) (o : Operation) →
    ((reply (receive_when formed s o).answer).word ≡ done)
    ↔ (NoneHolds (receive_checks formed s o) × (executable s.characters o ≡ true))

-- and waits exactly when no condition holds and something needed is not
abbrev pub ReceiveWaits : Type 0
ReceiveWaits =
    (formed : Bool) (s : State) (o : Operation) →
    ((reply (receive_when formed s o).answer).word ≡ waits)
    ↔ (NoneHolds (receive_checks formed s o) × (executable s.characters o ≡ false))

-- typing, erasing and restoring answer done exactly when no condition holds
abbrev pub InsertDoes : Type 0
InsertDoes =
    (formed : Bool) (s : State) (g n : ℕ) →
    ((reply (answer_of (local_insert_when formed s g n).answer)).word ≡ done) ↔ NoneHolds (insert_checks formed s g n)

abbrev pub DeleteDoes : Type 0
DeleteDoes =
    (formed : Bool) (s : State) (p : ℕ) →
    ((reply (answer_of (local_delete_when formed s p).answer)).word ≡ done) ↔ NoneHolds (delete_checks formed s p)

abbrev pub RestoreDoes : Type 0
RestoreDoes =
    (formed : Bool) (s : State) (x : Identifier) →
    ((reply (answer_of (local_restore_when formed s x).answer)).word ≡ done) ↔ NoneHolds (restore_checks formed s x)

-- "typing and erasing also return the operation to be sent", and so does restoring: the generated one, exactly when no
-- condition holds
abbrev pub InsertSends : Type 0
InsertSends =
    (formed : Bool) (s : State) (g n : ℕ) (o : Operation) →
    (sent_operation (local_insert_when formed s g n).answer ≡ some o)
    ↔ (NoneHolds (insert_checks formed s g n) × (insert (generated_insert s g n) ≡ o))

abbrev pub DeleteSends : Type 0
DeleteSends =
    (formed : Bool) (s : State) (p : ℕ) (o : Operation) →
    (sent_operation (local_delete_when formed s p).answer ≡ some o)
    ↔ (NoneHolds (delete_checks formed s p) × (toggle (generated_delete s p) ≡ o))

abbrev pub RestoreSends : Type 0
RestoreSends =
    (formed : Bool) (s : State) (x : Identifier) (o : Operation) →
    (sent_operation (local_restore_when formed s x).answer ≡ some o)
    ↔ (NoneHolds (restore_checks formed s x) × (toggle (generated_toggle s x) ≡ o))

-- what they send is in range, so that every laptop takes it in; for a deleted or restored character document 02, Req
-- 05: "with turn 1 to 255"
abbrev pub SentInRange : Type 0
SentInRange =
    ((s : State) (g n : ℕ) (o : Operation) → sent_operation (local_insert s g n).answer ≡ some o → in_range o ≡ true)
    × ((s : State) (p : ℕ) (o : Operation) → sent_operation (local_delete s p).answer ≡ some o → in_range o ≡ true)
    × ((s : State) (x : Identifier) (o : Operation) → sent_operation (local_restore s x).answer ≡ some o →
    in_range o ≡ true)

-- the turn of one character raised by one, and every other as it was
abbrev pub raised_at : Identifier → List Character → List Character
raised_at x cs = map (λ c. cond (same x c.id) (with_toggles c (c.toggles + 1)) c) cs

-- document 02, Req 05: "erasing a shown row raises its turn by one. Restoring names an identifier and raises a hidden
-- row's turn by one"
abbrev pub RaisedByOne : Type 0
RaisedByOne =
    ((s : State) (p : ℕ) (t : Toggle) → sent_operation (local_delete s p).answer ≡ some (toggle t) →
    (local_delete s p).state.characters ≡ raised_at t.target s.characters)
    × ((s : State) (x : Identifier) (o : Operation) → sent_operation (local_restore s x).answer ≡ some o →
    (local_restore s x).state.characters ≡ raised_at x s.characters)

-- a refused call changes nothing and carries nothing out
abbrev pub RefusedUnchanged : Type 0
RefusedUnchanged =
    (s : State) (c : Call) (r : Refusal) → (outcome s c).answer ≡ Refused r → outcome s c ≡ unchanged s (Refused r)

-- and so does a known one
abbrev pub KnownUnchanged : Type 0
KnownUnchanged = (s : State) (c : Call) → (outcome s c).answer ≡ Duplicate → outcome s c ≡ unchanged s Duplicate

-- a writer answers refusal r exactly when its condition holds and none before it, by its number too, and changes no
-- byte
abbrev pub WritingRefuses : Type 0
WritingRefuses =
    (own : List (Check Written)) (bytes out : List ℕ) (r : Refusal) →
    ((written_as own bytes out ≡ Err r) ↔ Reported (Err r) (writing_checks own bytes out))
    × ((written_number (written_as own bytes out) ≡ number r) ↔ Reported (Err r) (writing_checks own bytes out))
    × (written_as own bytes out ≡ Err r → output_after own bytes out ≡ out)

-- and writes, and answers the length, where no condition holds
abbrev pub WritingWrites : Type 0
WritingWrites =
    (own : List (Check Written)) (bytes out : List ℕ) → NoneHolds (writing_checks own bytes out) →
    (written_as own bytes out ≡ Ok (length bytes)) × (output_after own bytes out ≡ placed out 0 bytes)

-- ---- the form, on any state in form

-- "every call keeps the form"
abbrev pub FormKept : Type 0
FormKept = (s : State) (c : Call) → well_formed s ≡ true → well_formed (outcome s c).state ≡ true

-- an empty replica is in form when its number is one of a site
abbrev pub EmptyFormed : Type 0
EmptyFormed = (n : ℕ) → well_formed (initial n) ≡ site_number n

-- and so is the full one of `woot/Situations`, so that `FullTells` says what receiving and typing answer there
abbrev pub FullFormed : Type 0
FullFormed = well_formed full ≡ true

-- "so 512 in all": what is pending in a state in form has its place in the array
abbrev pub PendingFit : Type 0
PendingFit = (s : State) → well_formed s ≡ true → length s.pending ≤ pending_slots

-- "every operation held back is gone from the list by the end of the call that brings the last thing it needs"
abbrev pub NothingReady : Type 0
NothingReady =
    (s : State) (c : Call) → well_formed s ≡ true →
    (o : Operation) → Memᴰ o (outcome s c).state.pending → executable (outcome s c).state.characters o ≡ false

-- ---- counts, on any state

-- carried counts the operations carried out, thrown those thrown out; with known, waits and refusals `reply` has both 0
abbrev pub CountsTrue : Type 0
CountsTrue =
    (s : State) (c : Call) →
    ((reply (outcome s c).answer).integrated ≡ length (all_integrated (outcome s c)))
    × ((reply (outcome s c).answer).discarded ≡ length (outcome s c).discarded)

-- carried is at most 513, thrown at most 512
abbrev pub CountsBounded : Type 0
CountsBounded =
    (s : State) (c : Call) → (length (all_integrated (outcome s c)) ≤ 513) × (length (outcome s c).discarded ≤ 512)

-- ---- isolation

-- Whether an operation waits or is refused with 10 depends on what its own sender has pending. Two states in form with
-- the same characters and the same operations of that sender pending, whatever others have: 10 in both or in neither,
-- and what waits in one waits in the other, unless the other's document is full (11).
abbrev pub Isolation : Type 0
Isolation =
    (s t : State) (o : Operation) → well_formed s ≡ true → well_formed t ≡ true →
    s.characters ≡ t.characters → sent_by (sender o) s.pending ≡ sent_by (sender o) t.pending →
    (((receive s o).answer ≡ Refused SenderFull) ↔ ((receive t o).answer ≡ Refused SenderFull))
    × ((receive s o).answer ≡ Deferred → ((receive t o).answer ≡ Deferred) ⊎ ((receive t o).answer ≡ Refused DocumentFull))

-- ---- histories from any beginning

-- "the characters held are the inserts carried out, every field counted"
abbrev pub HeldAreInserted : Type 0
HeldAreInserted =
    (b : Begun) (cs : List Call) (i : Insert) →
    Memᴰ i (map origin (characters_after b cs)) ↔ InsertedIn i (history_of b cs)

-- "rows equal inserts carried out", counted
abbrev pub HeldCount : Type 0
HeldCount = (b : Begun) (cs : List Call) → length (characters_after b cs) ≡ length (inserts (history_of b cs))

-- document 02, Req 05: a character's toggles are the most that were carried out of it, 0 if none was
abbrev pub TogglesAreLargest : Type 0
TogglesAreLargest =
    (b : Begun) (cs : List Call) (c : Character) → Memᴰ c (characters_after b cs) →
    c.toggles ≡ largest_in c.id (history_of b cs)

-- "operations answered waits equal those waiting now, plus those carried out from the list, plus those thrown out";
-- those that wait at the start count as answered so
abbrev pub WaitsBalance : Type 0
WaitsBalance =
    (s : State) (cs : List Call) →
    deferred_by s cs + length s.pending
    ≡ length (run s cs).pending + length (drained_by s cs) + length (discarded_by s cs)

-- each character stands between its neighbours, was born after them, and concurrent ones stand by identifier
abbrev pub GrownThroughout : Type 0
GrownThroughout = (b : Begun) (cs : List Call) → Grown (characters_after b cs)

-- refusal 9 is never answered
abbrev pub NeverUnplaceable : Type 0
NeverUnplaceable =
    (b : Begun) (cs : List Call) (c : Call) → (outcome (run (start_of b) cs) c).answer ≡ Refused Unplaceable → ⊥

-- two characters that two replicas hold stand in the same order on both, whatever else each holds or lacks
abbrev pub Agreement : Type 0
Agreement =
    (a b : Begun) (cs ds : List Call) → OneMeaning (characters_after a cs) (characters_after b ds) →
    (x y : Identifier) →
    Memᴰ x (identifiers (characters_after a cs)) → Memᴰ y (identifiers (characters_after a cs)) →
    Memᴰ x (identifiers (characters_after b ds)) → Memᴰ y (identifiers (characters_after b ds)) →
    above (characters_after a cs) x y ≡ above (characters_after b ds) x y

-- Demand 3, "a single claim about two lists of calls", read with document 02, Req 05: the same inserts carried out,
-- every field counted, and for each "the same largest turn carried out", by whatever sender, give equal characters and
-- equal visible bytes.
abbrev pub Convergence : Type 0
Convergence =
    (a b : Begun) (cs ds : List Call) →
    SameInserted (history_of a cs) (history_of b ds) → SameToggled (history_of a cs) (history_of b ds) →
    (characters_after a cs ≡ characters_after b ds) × (text (characters_after a cs) ≡ text (characters_after b ds))
