-- Document 02, Req 08: the promises about building from a heap, over any number and any heap, each proved in proofs/
-- under its name in small letters. That what is built is a beginning of histories, so that demand 3 and all that is
-- said of lists of calls holds of it, is `heaped` of `bulk/Beginnings`.
use Rattle.std.specs.Prelude.{ℕ, ◌≤◌, ◌≡◌, Bool, true, false, ◌&&◌, ◌↔◌, ◌⊎◌, length}
use mathlib.Core.List.{List, [], ◌∷◌, ◌++◌, Memᴰ}
use Rattle.lists.specs.Lists.{keep, distinct}
use Rattle.woot.specs.declared.Identifier.{Identifier}
use Rattle.woot.specs.declared.Insert.{Insert}
use Rattle.woot.specs.declared.Toggle.{Toggle}
use Rattle.woot.specs.declared.Operation.{Operation}
use Rattle.woot.specs.declared.Operation.TheVariants.{Insert as insert, Toggle as toggle}
use Rattle.answers.specs.declared.Refusal.{Refusal}
use Rattle.answers.specs.declared.Answer.TheVariants.{Done, Refused}
use Rattle.woot.specs.Operations.{inserts, same_operation}
use Rattle.woot.specs.Ranges.{site_number}
use Rattle.woot.specs.State.{State, initial}
use Rattle.woot.specs.Placing.{held}
use Rattle.woot.specs.Pending.{executable, crossed}
use Rattle.woot.specs.Form.{well_formed}
use Rattle.answers.specs.Answers.{done, number, reply, NoneHolds, Reported}
use Rattle.woot.specs.Calls.{receive}
use Rattle.bulk.specs.Building.{left_out, disagreeing, build_checks, unbuilt, build}
use Rattle.convergence.specs.Agreement.{Grown}

-- ---- the answer

-- refusal r exactly when its condition holds and none before it; the order is `BuildOrder` of `bulk/BuildCases`
abbrev pub BuildRefuses : Type 0
BuildRefuses =
    (n : ℕ) (heap : List Operation) (r : Refusal) →
    ((build n heap).answer ≡ Refused r) ↔ Reported (Refused r) (build_checks n heap)

-- and by number
abbrev pub BuildNumbers : Type 0
BuildNumbers =
    (n : ℕ) (heap : List Operation) (r : Refusal) →
    ((reply (build n heap).answer).refusal ≡ number r) ↔ Reported (Refused r) (build_checks n heap)

-- done exactly when no condition holds; it never waits and nothing is known
abbrev pub BuildDoes : Type 0
BuildDoes =
    (n : ℕ) (heap : List Operation) →
    ((reply (build n heap).answer).word ≡ done) ↔ NoneHolds (build_checks n heap)

-- with a refusal nothing is built
abbrev pub RefusedUnbuilt : Type 0
RefusedUnbuilt =
    (n : ℕ) (heap : List Operation) (r : Refusal) → (build n heap).answer ≡ Refused r →
    build n heap ≡ unbuilt (Refused r)

-- "Two inserts with one identifier and other fields make the heap refused with 7": the condition of 7 says just that
abbrev pub HeapDisagrees : Type 0
HeapDisagrees =
    (heap : List Operation) →
    (disagreeing (inserts heap) ≡ true)
    ↔ ((i : Insert) × (j : Insert) × Memᴰ (insert i) heap × Memᴰ (insert j) heap × (i.id ≡ j.id)
    × (i ≡ j → ⊥))

-- ---- the characters

-- "receiving the operations one by one": the state that they leave
abbrev pub received : State → List Operation → State
received s [] = s
received s (o ∷ os) = received (receive s o).state os

-- "each after all it needs"
abbrev pub each_ready : State → List Operation → Bool
each_ready s [] = true
each_ready s (o ∷ os) = executable s.characters o && each_ready (receive s o).state os

-- every operation of the sequence is of the heap, as often as it may be repeated
abbrev pub FromHeap : List Operation → List Operation → Type 0
FromHeap heap os = (o : Operation) → Memᴰ o os → Memᴰ o heap

-- every operation of the heap is in the sequence, or left out
abbrev pub AllOfHeap : List Operation → List Operation → Type 0
AllOfHeap heap os = (o : Operation) → Memᴰ o heap → Memᴰ o os ⊎ Memᴰ o (left_out heap)

-- "Its rows equal those got by receiving the operations one by one, each after all it needs, in any such sequence", by
-- an empty replica of any number
abbrev pub BuiltAsReceived : Type 0
BuiltAsReceived =
    (n m : ℕ) (heap os : List Operation) → (reply (build n heap).answer).word ≡ done → site_number m ≡ true →
    FromHeap heap os → each_ready (initial m) os ≡ true → AllOfHeap heap os →
    (build n heap).state.characters ≡ (received (initial m) os).characters

-- the same said without what is left out: whoever receives so until nothing of the heap that was not received could be
-- carried out has those rows
abbrev pub BuiltAsExhausted : Type 0
BuiltAsExhausted =
    (n m : ℕ) (heap os : List Operation) → (reply (build n heap).answer).word ≡ done → site_number m ≡ true →
    FromHeap heap os → each_ready (initial m) os ≡ true →
    let cs = (received (initial m) os).characters in
    ((o : Operation) → Memᴰ o heap → Memᴰ o os ⊎ ((executable cs o ≡ false) ⊎ (crossed cs o ≡ true))) →
    (build n heap).state.characters ≡ cs

-- there is such a sequence: what was carried out, in the order of the rule
abbrev pub BuiltSequence : Type 0
BuiltSequence =
    (n m : ℕ) (heap : List Operation) → (reply (build n heap).answer).word ≡ done → site_number m ≡ true →
    let os = (build n heap).integrated in
    FromHeap heap os × (each_ready (initial m) os ≡ true) × AllOfHeap heap os

-- ---- what is left out

-- "Operations whose needs never come, or that meet condition 8, are left out": exactly those, on what is built
abbrev pub LeftOutAre : Type 0
LeftOutAre =
    (n : ℕ) (heap : List Operation) → (reply (build n heap).answer).word ≡ done → (o : Operation) →
    let cs = (build n heap).state.characters in
    Memᴰ o (left_out heap) ↔ (Memᴰ o heap × ((executable cs o ≡ false) ⊎ (crossed cs o ≡ true)))

-- what an operation needs
abbrev pub Needs : Operation → Identifier → Type 0
Needs (insert i) x = (i.previous ≡ x) ⊎ (i.next ≡ x)
Needs (toggle t) x = t.target ≡ x

-- "with all that need them"
abbrev pub LeftOutDrags : Type 0
LeftOutDrags =
    (n : ℕ) (heap : List Operation) → (reply (build n heap).answer).word ≡ done → (i : Insert) (o : Operation) →
    Memᴰ (insert i) (left_out heap) → Memᴰ o heap → Needs o i.id → Memᴰ o (left_out heap)

-- a toggle is left out exactly where its character is not there: one that is not larger is not
abbrev pub TogglesLeftOut : Type 0
TogglesLeftOut =
    (n : ℕ) (heap : List Operation) → (reply (build n heap).answer).word ≡ done → (t : Toggle) →
    Memᴰ (toggle t) (left_out heap)
    ↔ (Memᴰ (toggle t) heap × (held (build n heap).state.characters t.target ≡ false))

-- "and their count is given"
abbrev pub LeftOutCount : Type 0
LeftOutCount =
    (n : ℕ) (heap : List Operation) → (reply (build n heap).answer).word ≡ done →
    (build n heap).answer ≡ Done 0 (length (left_out heap))

-- "Repeats count once": no operation is counted twice; each is of the heap, and one that is not left out was carried
-- out
abbrev pub LeftOutOnce : Type 0
LeftOutOnce =
    (n : ℕ) (heap : List Operation) → (reply (build n heap).answer).word ≡ done →
    (distinct same_operation (left_out heap) ≡ true)
    × ((o : Operation) → Memᴰ o (left_out heap) → Memᴰ o heap)
    × ((o : Operation) → Memᴰ o heap →
    (Memᴰ o (left_out heap) → ⊥) ↔ Memᴰ o (build n heap).integrated)

-- ---- heaps that come to the same

-- "in no useful order": of every kind of operation there are as many in both
abbrev pub Reordered : List Operation → List Operation → Type 0
Reordered heap other = (kind : Operation → Bool) → length (keep kind heap) ≡ length (keep kind other)

-- the order of the heap changes neither the answer, whatever it is, nor what is built
abbrev pub BuiltInAnyOrder : Type 0
BuiltInAnyOrder =
    (n : ℕ) (heap other : List Operation) → Reordered heap other →
    ((build n heap).answer ≡ (build n other).answer) × ((build n heap).state ≡ (build n other).state)

-- "Repeats count once": with operations of it repeated, as many as the limits let pass, a heap builds the same, and as
-- many are left out
abbrev pub RepeatsCountOnce : Type 0
RepeatsCountOnce =
    (n : ℕ) (heap repeats : List Operation) → FromHeap heap repeats →
    (reply (build n (repeats ++ heap)).answer).word ≡ done →
    ((build n (repeats ++ heap)).answer ≡ (build n heap).answer)
    × ((build n (repeats ++ heap)).state ≡ (build n heap).state)

-- ---- the state

-- "its clock is the largest among the heap's inserts of the laptop's own number, left out or not, or 0"
abbrev pub BuiltClock : Type 0
BuiltClock =
    (n : ℕ) (heap : List Operation) → (reply (build n heap).answer).word ≡ done →
    let t = (build n heap).state.site in
    (t.number ≡ n)
    × ((i : Insert) → Memᴰ (insert i) heap → i.id.site ≡ n → i.id.clock ≤ t.clock)
    × ((t.clock ≡ 0)
    ⊎ ((i : Insert) × Memᴰ (insert i) heap × (i.id.site ≡ n) × (t.clock ≡ i.id.clock)))

-- "Nothing waits in the result"; it is in form, and its characters have grown by inserts
abbrev pub BuiltFormed : Type 0
BuiltFormed =
    (n : ℕ) (heap : List Operation) → (reply (build n heap).answer).word ≡ done →
    ((build n heap).state.pending ≡ []) × (well_formed (build n heap).state ≡ true)
    × Grown (build n heap).state.characters

-- nothing builds the empty state
abbrev pub BuiltNothing : Type 0
BuiltNothing =
    (n : ℕ) → site_number n ≡ true → build n [] ≡ record { answer = Done 0 0; state = initial n; integrated = [] }

-- whatever the heap, at most 2,048 are left out and at most 1,024 characters built
abbrev pub BuildBounded : Type 0
BuildBounded =
    (n : ℕ) (heap : List Operation) →
    ((reply (build n heap).answer).discarded ≤ 2048) × (length (build n heap).state.characters ≤ 1024)
