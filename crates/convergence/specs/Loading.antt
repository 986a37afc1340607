-- Document 02, Req 07: what loading for use promises, each proved in proofs/ under its name in small letters.
use Rattle.std.specs.Prelude.{ℕ, ◌≡◌, Bool, true, ◌↔◌}
use mathlib.Core.List.{List, Memᴰ}
use Rattle.woot.specs.declared.Operation.{Operation}
use Rattle.woot.specs.declared.Character.{Character}
use Rattle.answers.specs.declared.Refusal.{Refusal}
use Rattle.answers.specs.declared.Refusal.TheVariants.{Unreachable, Unplaceable}
use Rattle.answers.specs.declared.Answer.TheVariants.{Done, Refused}
use Rattle.woot.specs.Ranges.{site_number}
use Rattle.woot.specs.State.{State, initial}
use Rattle.woot.specs.Pending.{crossed}
use Rattle.woot.specs.Form.{well_formed}
use Rattle.answers.specs.Answers.{done, number, reply, NoneHolds, Reported}
use Rattle.bulk.specs.Building.{build}
use Rattle.bulk.specs.Loading.{loadable, use_checks, unused, use_when, use_outcome}
use Rattle.woot.specs.Histories.{Call, outcome, run}
use Rattle.bulk.specs.Beginnings.{Begun, loaded, start_of, beforehand}
use Rattle.bulk.specs.Beginnings.{characters_after}
use Rattle.convergence.specs.Building.{received}

-- ---- which characters

-- "some sequence of received operations, begun from an empty sheet" of number n, "leaves those rows with those
-- neighbours, order and turns": the very characters
abbrev pub Made : ℕ → List Character → Type 0
Made n cs = (os : List Operation) × ((received (initial n) os).characters ≡ cs)

-- on a state in form the condition says just that, whatever the number
abbrev pub LoadableMade : Type 0
LoadableMade =
    (s : State) → well_formed s ≡ true → (n : ℕ) → site_number n ≡ true →
    (loadable s.characters ≡ true) ↔ Made n s.characters

-- what a heap builds is loadable
abbrev pub BuiltLoadable : Type 0
BuiltLoadable = (n : ℕ) (heap : List Operation) → loadable (build n heap).state.characters ≡ true

-- and so is what any list of calls from a beginning leaves; where the beginning is in form, loading takes it
abbrev pub HistoriesLoadable : Type 0
HistoriesLoadable =
    (b : Begun) (cs : List Call) →
    (loadable (characters_after b cs) ≡ true)
    × (well_formed (start_of b) ≡ true → (use_outcome (run (start_of b) cs)).answer ≡ Done 0 0)

-- ---- the answer

-- refusal r exactly when its condition holds and none before it; the order, 3 and 16, is `UseOrder` of `bulk/LoadCases`
abbrev pub UseRefuses : Type 0
UseRefuses =
    (formed : Bool) (s : State) (r : Refusal) →
    ((use_when formed s).answer ≡ Refused r) ↔ Reported (Refused r) (use_checks formed s)

-- and by number
abbrev pub UseNumbers : Type 0
UseNumbers =
    (formed : Bool) (s : State) (r : Refusal) →
    ((reply (use_when formed s).answer).refusal ≡ number r) ↔ Reported (Refused r) (use_checks formed s)

-- done exactly when no condition holds
abbrev pub UseDoes : Type 0
UseDoes =
    (formed : Bool) (s : State) →
    ((reply (use_when formed s).answer).word ≡ done) ↔ NoneHolds (use_checks formed s)

-- "accept a sheet in form exactly when some sequence of received operations … leaves those rows"
abbrev pub UseAccepts : Type 0
UseAccepts =
    (s : State) (n : ℕ) → site_number n ≡ true →
    ((reply (use_outcome s).answer).word ≡ done) ↔ ((well_formed s ≡ true) × Made n s.characters)

-- "A sheet in form that can't be made so is refused with 16"
abbrev pub UseUnreachable : Type 0
UseUnreachable =
    (s : State) (n : ℕ) → site_number n ≡ true →
    ((use_outcome s).answer ≡ Refused Unreachable) ↔ ((well_formed s ≡ true) × (Made n s.characters → ⊥))

-- where it is done the very state is left, and with a refusal none
abbrev pub UseKeeps : Type 0
UseKeeps =
    (s : State) →
    ((reply (use_outcome s).answer).word ≡ done → use_outcome s ≡ record { answer = Done 0 0; state = s })
    × ((r : Refusal) → (use_outcome s).answer ≡ Refused r → use_outcome s ≡ unused (Refused r))

-- ---- afterwards: what is loaded is a beginning of histories, `loaded` of `bulk/Beginnings`

-- what is taken for its past, which nobody knows, is one that it can have: received in some sequence, these operations
-- and no others make it
abbrev pub BeforehandMakes : Type 0
BeforehandMakes =
    (s : State) (n : ℕ) → site_number n ≡ true →
    (os : List Operation) × ((received (initial n) os).characters ≡ (start_of (loaded s)).characters)
    × ((o : Operation) → Memᴰ o os ↔ Memᴰ o (beforehand (loaded s)))

-- "After such a load refusal 9 can't occur as long as every call gets the sheet as the call before left it"; of pasting
-- it is `PasteNeverUnplaceable`
abbrev pub NeverAfterLoad : Type 0
NeverAfterLoad =
    (s : State) → (reply (use_outcome s).answer).word ≡ done → (cs : List Call) (c : Call) →
    (outcome (run (use_outcome s).state cs) c).answer ≡ Refused Unplaceable → ⊥

-- nor is anything thrown out for condition 9: what is thrown out meets condition 8, and still does when the call is
-- over
abbrev pub ThrownOutCrossed : Type 0
ThrownOutCrossed =
    (s : State) → (reply (use_outcome s).answer).word ≡ done → (cs : List Call) (c : Call) (o : Operation) →
    let r = outcome (run (use_outcome s).state cs) c in
    Memᴰ o r.discarded → crossed r.state.characters o ≡ true
