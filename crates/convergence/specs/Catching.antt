-- Document 02, Req 09: what listing the characters held and answering such a list promise, each proved in proofs/ under
-- its name in small letters. Of what runs, on bytes, it is said in `consistency`.
use Rattle.std.specs.Prelude.{ℕ, ◌+◌, ◌*◌, ◌≤◌, ◌<◌, ◌≡◌, Bool, true, false, ◌⊎◌, ◌↔◌, ltb, length}
use mathlib.Core.List.{List, [], ◌∷◌, ◌++◌, map, Memᴰ}
use Rattle.lists.specs.Lists.{any, every, keep, distinct}
use Rattle.woot.specs.declared.Identifier.{Identifier}
use Rattle.woot.specs.declared.Insert.{Insert}
use Rattle.woot.specs.declared.Toggle.{Toggle}
use Rattle.woot.specs.declared.Operation.{Operation}
use Rattle.woot.specs.declared.Operation.TheVariants.{Insert as insert, Toggle as toggle}
use Rattle.woot.specs.declared.Character.{Character}
use Rattle.answers.specs.declared.Answer.{Answer}
use Rattle.answers.specs.declared.Answer.TheVariants.{Done, Deferred, Duplicate, Refused}
use Rattle.woot.specs.Limits.{capacity}
use Rattle.woot.specs.Identifiers.{same, below}
use Rattle.woot.specs.Operations.{origin, inserts}
use Rattle.woot.specs.State.{State}
use Rattle.woot.specs.Placing.{identifiers}
use Rattle.woot.specs.Form.{present_inserts, well_formed}
use Rattle.woot.specs.Calls.{receive}
use Rattle.bulk.specs.Loading.{among, free}
use Rattle.bulk.specs.Catching.{Chunk, Listing, word_bits, bit_of, marks, listed_in, ones_in, in_sequence, listing, unlisted}
use Rattle.bulk.specs.Catching.{sent, answer_for, chunk_in_range, listing_in_range, marks_zero, mislisted}
use Rattle.woot.specs.Histories.{Call, run}
use Rattle.bulk.specs.Beginnings.{Begun, start_of}
use Rattle.convergence.specs.Agreement.{Grown, OneMeaning}
use Rattle.convergence.specs.Building.{received}

-- ---- the list

-- "its bit of weight 2 to the power j stands for clock 64 times index plus j"
abbrev pub BitsStand : Type 0
BitsStand =
    (k : Chunk) (j : ℕ) → j < word_bits →
    marks k (record { site = k.site; clock = word_bits * k.index + j }) ≡ bit_of j k.word

-- "A laptop lists the rows it holds, waiting inserts left out", hidden ones too: "`K` laptop index word for each
-- nonzero word, by rising laptop and then rising index"
abbrev pub ListedExactly : Type 0
ListedExactly =
    (s : State) → well_formed s ≡ true →
    let ks = (listing s).chunks in
    (in_sequence ks ≡ true) × (every chunk_in_range ks ≡ true)
    × ((x : Identifier) → listed_in ks x ≡ among s.characters x)

-- there is no other list of which that holds
abbrev pub ListedAlone : Type 0
ListedAlone =
    (s : State) → well_formed s ≡ true → (ks : List Chunk) → in_sequence ks ≡ true → every chunk_in_range ks ≡ true →
    ((x : Identifier) → listed_in ks x ≡ among s.characters x) → ks ≡ (listing s).chunks

-- "Total, 0 to 1,024, is the number of identifiers listed, found by adding the ones in the words"
abbrev pub ListedTotal : Type 0
ListedTotal = (s : State) → well_formed s ≡ true → (listing s).total ≡ length s.characters

-- no list that is made so is refused with 2 or 18
abbrev pub ListingAccepted : Type 0
ListingAccepted =
    (s : State) → well_formed s ≡ true →
    (listing_in_range (listing s) ≡ true) × (mislisted (listing s) ≡ false)

-- "that marks clock 0": of any site
abbrev pub ZeroListed : Type 0
ZeroListed =
    (ks : List Chunk) →
    (any marks_zero ks ≡ true) ↔ ((n : ℕ) × (listed_in ks (record { site = n; clock = 0 }) ≡ true))

-- "A list whose total differs from the ones counted, that marks clock 0, or whose `K` lines are out of sequence", and
-- no other
abbrev pub MislistedWhen : Type 0
MislistedWhen =
    (l : Listing) →
    (mislisted l ≡ true)
    ↔ (((l.total ≡ ones_in l.chunks) → ⊥)
    ⊎ (((n : ℕ) × (listed_in l.chunks (record { site = n; clock = 0 }) ≡ true)) ⊎ (in_sequence l.chunks ≡ false)))

-- ---- the inserts that are sent

-- "the inserts of its rows that aren't listed", each once
abbrev pub SentAre : Type 0
SentAre =
    (listed : Identifier → Bool) (cs : List Character) → distinct same (identifiers cs) ≡ true → (c : Character) →
    Memᴰ c (sent listed cs) ↔ (Memᴰ c cs × (listed c.id ≡ false))

abbrev pub SentCount : Type 0
SentCount =
    (listed : Identifier → Bool) (cs : List Character) → distinct same (identifiers cs) ≡ true →
    length (sent listed cs) ≡ length (unlisted listed cs)

-- where these are left: "The next is always the lowest identifier among those whose needs aren't still to be sent, or,
-- if there is none such, among all that are left"
abbrev pub Chosen : List Character → Character → Type 0
Chosen left c =
    ((d : Character) → Memᴰ d left → free left d ≡ true →
    (free left c ≡ true) × (below d.id c.id ≡ false))
    × (((d : Character) → Memᴰ d left → free left d ≡ false) →
    (d : Character) → Memᴰ d left → below d.id c.id ≡ false)

-- so it is with each that is sent, and those that are sent after it
abbrev pub SentFree : Type 0
SentFree =
    (listed : Identifier → Bool) (cs : List Character) → distinct same (identifiers cs) ≡ true →
    (ps qs : List Character) (c : Character) → sent listed cs ≡ ps ++ c ∷ qs → Chosen (c ∷ qs) c

-- the whole answer, to any list: the inserts, and "Then, from the top, comes an `E` line for every row with turn above
-- 0, with the answering laptop as sender"
abbrev pub AnswerIs : Type 0
AnswerIs =
    (t : State) (l : Listing) →
    answer_for t l
    ≡ map (λ c. insert (origin c)) (sent (listed_in l.chunks) t.characters)
    ++ map (λ c. toggle (record { sender = t.site.number; target = c.id; toggles = c.toggles }))
    (keep (λ c. ltb 0 c.toggles) t.characters)

-- "answers with the inserts of its rows that aren't listed", to any list
abbrev pub AnswerInserts : Type 0
AnswerInserts =
    (t : State) (l : Listing) →
    inserts (answer_for t l) ≡ map origin (sent (listed_in l.chunks) t.characters)

-- "an `E` line for every row with turn above 0, with the answering laptop as sender", listed or not
abbrev pub AnswerToggles : Type 0
AnswerToggles =
    (t : State) (l : Listing) (u : Toggle) →
    Memᴰ (toggle u) (answer_for t l)
    ↔ ((c : Character) × Memᴰ c t.characters × (0 < c.toggles)
    × (u ≡ record { sender = t.site.number; target = c.id; toggles = c.toggles }))

-- ---- the two replicas

-- "both begun from empty sheets, with every call given the sheet as the call before left it": what then holds of each
pub record Grew (s : State) : Type 0 where
  pub form : well_formed s ≡ true
  pub grown : Grown s.characters

-- it does so after any calls, from what is empty, built from a heap or loaded for use
abbrev pub BegunGrew : Type 0
BegunGrew = (b : Begun) → well_formed (start_of b) ≡ true → (cs : List Call) → Grew (run (start_of b) cs)

-- and after any operations received, so the asker may ask again, or answer
abbrev pub AskerKept : Type 0
AskerKept = (s : State) (os : List Operation) → Grew s → Grew (received s os)

-- "no identifier stands for different inserts on the two", the asker's waiting inserts among them
abbrev pub OneMeaningAsked : State → List Character → Type 0
OneMeaningAsked s ds =
    (i : Insert) (d : Character) → Memᴰ i (present_inserts s) → Memᴰ d ds → i.id ≡ d.id → i ≡ origin d

-- "and space: the asker's rows, its waiting inserts and the inserts sent are together at most 1,024"
abbrev pub Space : State → State → Type 0
Space s t = length (present_inserts s) + length (sent (among s.characters) t.characters) ≤ capacity

-- these are the inserts sent
abbrev pub SpaceCounts : Type 0
SpaceCounts =
    (s t : State) → well_formed s ≡ true →
    length (inserts (answer_for t (listing s))) ≡ length (sent (among s.characters) t.characters)

-- ---- catching up

-- done or known
abbrev pub DoneOrKnown : Answer → Type 0
DoneOrKnown (Done n m) = Unit
DoneOrKnown Duplicate = Unit
DoneOrKnown Deferred = ⊥
DoneOrKnown (Refused r) = ⊥

-- "none of them waits", and none is refused, as they are received one by one
abbrev pub NoneWaits : State → List Operation → Type 0
NoneWaits s [] = Unit
NoneWaits s (o ∷ os) = DoneOrKnown (receive s o).answer × NoneWaits (receive s o).state os

-- "the asker then holds every row the other had when it answered", every field of its insert, "with at least its turn
-- then"
abbrev pub HoldsAll : List Character → List Character → Type 0
HoldsAll cs ds =
    (d : Character) → Memᴰ d ds →
    (c : Character) × Memᴰ c cs × (origin c ≡ origin d) × (d.toggles ≤ c.toggles)

-- the asker s, once it has received what t answers it, "with no other call that changes the asker's sheet since it
-- listed"
abbrev pub caught_up : State → State → State
caught_up s t = received s (answer_for t (listing s))

abbrev pub CatchingUp : Type 0
CatchingUp =
    (s t : State) → Grew s → Grew t → OneMeaningAsked s t.characters → Space s t →
    NoneWaits s (answer_for t (listing s)) × HoldsAll (caught_up s t).characters t.characters

-- "Where, besides, neither laptop had anything waiting and each answers the other, with no other call that changes
-- either sheet in between, both end with equal rows": the one that has begun to take in the other's answer may answer
-- after any of its lines. Space for the one is space for the other too.
abbrev pub MeetMidway : Type 0
MeetMidway =
    (s t : State) → Grew s → Grew t → s.pending ≡ [] → t.pending ≡ [] → OneMeaning s.characters t.characters →
    Space s t → (os ps : List Operation) → answer_for t (listing s) ≡ os ++ ps →
    let u = received s os in
    Space t u × ((caught_up s t).characters ≡ (caught_up t u).characters)

-- so it is where it answers before it takes in any line, or after it took in all
abbrev pub BothCatchUp : Type 0
BothCatchUp =
    (s t : State) → Grew s → Grew t → s.pending ≡ [] → t.pending ≡ [] → OneMeaning s.characters t.characters →
    Space s t →
    (Space t s → (caught_up s t).characters ≡ (caught_up t s).characters)
    × (Space t (caught_up s t) → (caught_up s t).characters ≡ (caught_up t (caught_up s t)).characters)
