-- Document 02, Req 11: the promises about pasting, over any state, gap and block, each proved in proofs/ under its name
-- in small letters.
use Rattle.std.specs.Prelude.{ℕ, ◌+◌, ◌≤◌, ◌≡◌, Bool, true, false, List, [], ◌∷◌, ◌++◌, map, ◌↔◌, ◌⊎◌, length}
use Rattle.std.proofs.Math.Option.{Option, some}
use Rattle.decoding.specs.Theorems.{Encodes}
use Rattle.woot.specs.declared.Operation.{Operation}
use Rattle.answers.specs.declared.Refusal.{Refusal}
use Rattle.answers.specs.declared.Refusal.TheVariants.{NotUtf8, Unplaceable}
use Rattle.answers.specs.declared.Answer.TheVariants.{Done, Refused}
use Rattle.woot.specs.Operations.{inserts}
use Rattle.woot.specs.State.{State}
use Rattle.woot.specs.Form.{well_formed}
use Rattle.answers.specs.Answers.{done, number, reply, NoneHolds, Reported}
use Rattle.woot.specs.Sending.{sent_operation}
use Rattle.woot.specs.Calls.{next_identifier, beyond_visible, local_insert}
use Rattle.woot.specs.Cursor.{left_of}
use Rattle.woot.specs.Histories.{Call, inserting, outcome, run}
use Rattle.bulk.specs.Beginnings.{Begun, start_of, history_of}
use Rattle.bulk.specs.Pasting.{gap_below, typings, unpasted, pasted, block_checks, paste_checks, paste_when, paste}
use Rattle.convergence.specs.Cursors.{shown, NearestAbove}

-- ---- the answer

-- refusal r exactly when its condition holds and none before it; the order is `PasteOrder` of `bulk/PasteCases`
abbrev pub PasteRefuses : Type 0
PasteRefuses =
    (formed : Bool) (s : State) (g : ℕ) (block : List ℕ) (r : Refusal) →
    ((paste_when formed s g block).answer ≡ Refused r) ↔ Reported (Refused r) (paste_checks formed s g block)

-- and by number
abbrev pub PasteNumbers : Type 0
PasteNumbers =
    (formed : Bool) (s : State) (g : ℕ) (block : List ℕ) (r : Refusal) →
    ((reply (paste_when formed s g block).answer).refusal ≡ number r)
    ↔ Reported (Refused r) (paste_checks formed s g block)

-- done exactly when no condition holds
abbrev pub PasteDoes : Type 0
PasteDoes =
    (formed : Bool) (s : State) (g : ℕ) (block : List ℕ) →
    ((reply (paste_when formed s g block).answer).word ≡ done) ↔ NoneHolds (paste_checks formed s g block)

-- "Bytes that aren't UTF-8 are refused with 20": exactly those that no characters have
abbrev pub PasteNotUtf8 : Type 0
PasteNotUtf8 =
    (formed : Bool) (s : State) (g : ℕ) (block : List ℕ) →
    ((paste_when formed s g block).answer ≡ Refused NotUtf8) ↔ ((ns : List ℕ) → Encodes block ns → ⊥)

-- "It is all or none": with a refusal nothing is changed, carried out or sent
abbrev pub PasteAllOrNone : Type 0
PasteAllOrNone =
    (s : State) (g : ℕ) (block : List ℕ) (r : Refusal) → (paste s g block).answer ≡ Refused r →
    paste s g block ≡ unpasted s (Refused r)

-- "An empty block that meets none of refusals 1 to 4 changes nothing and writes nothing", whatever the clock and the
-- space
abbrev pub PasteNothing : Type 0
PasteNothing =
    (s : State) (g : ℕ) → well_formed s ≡ true → beyond_visible s g ≡ false → paste s g [] ≡ unpasted s (Done 0 0)

-- ---- the typing calls

-- each call is answered done
abbrev pub EachDone : State → List Call → Type 0
EachDone s [] = Unit
EachDone s (c ∷ cs) = ((reply (outcome s c).answer).word ≡ done) × EachDone (outcome s c).state cs

-- each is answered done, or all are up to one that is refused with 9
abbrev pub DoneTillUnplaceable : State → List Call → Type 0
DoneTillUnplaceable s [] = Unit
DoneTillUnplaceable s (c ∷ cs) =
    (((reply (outcome s c).answer).word ≡ done) × DoneTillUnplaceable (outcome s c).state cs)
    ⊎ ((outcome s c).answer ≡ Refused Unplaceable)

-- after what is asked of the whole block only 9 can stop a character, and never 2, 3, 4, 5, 6 or 11
abbrev pub OnlyUnplaceable : Type 0
OnlyUnplaceable =
    (s : State) (g : ℕ) (block ns : List ℕ) → Encodes block ns →
    NoneHolds (block_checks (well_formed s) s g block []) → DoneTillUnplaceable s (typings s g ns)

-- "It equals typing the characters one after another": where it is done, so is each of the calls, and it leaves, sends,
-- carries out and throws out what they do
abbrev pub PasteIsTyping : Type 0
PasteIsTyping =
    (s : State) (g : ℕ) (block ns : List ℕ) → Encodes block ns → (reply (paste s g block).answer).word ≡ done →
    EachDone s (typings s g ns) × (paste s g block ≡ pasted s (typings s g ns))

-- the counts of the calls added up
abbrev pub carried_count : State → List Call → ℕ
carried_count s [] = 0
carried_count s (c ∷ cs) = (reply (outcome s c).answer).integrated + carried_count (outcome s c).state cs

abbrev pub thrown_count : State → List Call → ℕ
thrown_count s [] = 0
thrown_count s (c ∷ cs) = (reply (outcome s c).answer).discarded + thrown_count (outcome s c).state cs

-- its counts are theirs
abbrev pub PasteCounts : Type 0
PasteCounts =
    (s : State) (g : ℕ) (block ns : List ℕ) → Encodes block ns → (reply (paste s g block).answer).word ≡ done →
    (paste s g block).answer ≡ Done (carried_count s (typings s g ns)) (thrown_count s (typings s g ns))

-- carried is at most 1,536 and thrown at most 512: 1,024 characters, and what waited
abbrev pub PasteCountsBounded : Type 0
PasteCountsBounded =
    (s : State) (g : ℕ) (block : List ℕ) →
    (length (paste s g block).integrated ≤ 1536) × (length (paste s g block).discarded ≤ 512)

-- what typing the characters one after another gives to be sent
abbrev pub sent_typing : State → ℕ → List ℕ → List (Option Operation)
sent_typing s g [] = []
sent_typing s g (n ∷ ns) =
    let t = (outcome s (inserting g n)).state in
    sent_operation (local_insert s g n).answer ∷ sent_typing t (gap_below t (next_identifier s.site)) ns

-- it "gives their insert lines in sequence": one for each character, with its code point, and the clock reaches the
-- last
abbrev pub PasteSends : Type 0
PasteSends =
    (s : State) (g : ℕ) (block ns : List ℕ) → Encodes block ns → (reply (paste s g block).answer).word ≡ done →
    (map some (paste s g block).own ≡ sent_typing s g ns)
    × (map (λ i. i.code_point) (inserts (paste s g block).own) ≡ ns)
    × (length (paste s g block).own ≡ length ns)
    × ((paste s g block).state.site ≡ record { number = s.site.number; clock = s.site.clock + length ns })

-- ---- the gap between two of them

-- "each other at the gap just below the row of the one before": that is on the left where it is shown. "If a waiting
-- operation hid that row at once", the nearest shown one above it is, or the begin mark
abbrev pub NextGap : Type 0
NextGap =
    (s : State) (g n : ℕ) → (reply (outcome s (inserting g n)).answer).word ≡ done →
    let t = (outcome s (inserting g n)).state in
    let x = next_identifier s.site in
    (shown t.characters x ≡ true → left_of t.characters (gap_below t x) ≡ x)
    × (shown t.characters x ≡ false → NearestAbove t.characters x (left_of t.characters (gap_below t x)))
    × (beyond_visible t (gap_below t x) ≡ false)

-- the gap just below the row of the last one, or where that was hidden below the nearest shown row above it
abbrev pub gap_after : State → ℕ → List ℕ → ℕ
gap_after s g [] = g
gap_after s g (n ∷ ns) =
    let t = (outcome s (inserting g n)).state in
    gap_after t (gap_below t (next_identifier s.site)) ns

-- it is as many further as there are characters, where nothing else was carried out
abbrev pub PastingMoves : Type 0
PastingMoves =
    (s : State) (g : ℕ) (block ns : List ℕ) → Encodes block ns → (reply (paste s g block).answer).word ≡ done →
    (reply (paste s g block).answer).integrated ≡ length ns → gap_after s g ns ≡ g + length ns

-- ---- refusal 9, the form, and histories

-- from any beginning, after any calls, no character meets 9
abbrev pub PasteNeverUnplaceable : Type 0
PasteNeverUnplaceable =
    (b : Begun) (cs : List Call) (g : ℕ) (block : List ℕ) →
    (paste (run (start_of b) cs) g block).answer ≡ Refused Unplaceable → ⊥

-- "every call keeps the form"
abbrev pub PasteFormKept : Type 0
PasteFormKept =
    (s : State) (g : ℕ) (block : List ℕ) → well_formed s ≡ true → well_formed (paste s g block).state ≡ true

-- a list of calls with a pasting at its end is a list of calls, with the same state and the same carried out: what is
-- said of lists of calls, demand 3 too, is said of pasting
abbrev pub PasteInHistories : Type 0
PasteInHistories =
    (b : Begun) (cs : List Call) (g : ℕ) (block ns : List ℕ) → Encodes block ns →
    let s = run (start_of b) cs in
    (reply (paste s g block).answer).word ≡ done →
    ((paste s g block).state ≡ run (start_of b) (cs ++ typings s g ns))
    × (history_of b cs ++ (paste s g block).integrated ≡ history_of b (cs ++ typings s g ns))
