-- Document 02, Req 04: the promises about a site's clock, each proved in proofs/ under its name in small letters.
use Rattle.std.specs.Prelude.{ℕ, ◌+◌, ◌≤◌, ◌≡◌, true, false, List, [], ◌∷◌, ◌++◌, ◌↔◌}
use Rattle.woot.specs.declared.Operation.{Operation}
use Rattle.answers.specs.declared.Refusal.TheVariants.{Taken}
use Rattle.answers.specs.declared.Answer.{Answer}
use Rattle.answers.specs.declared.Answer.TheVariants.{Done, Deferred, Duplicate, Refused}
use Rattle.woot.specs.Operations.{inserts}
use Rattle.woot.specs.State.{State}
use Rattle.woot.specs.Clock.{heard_all}
use Rattle.woot.specs.Form.{all_in_range, clock_kept, well_formed, raised}
use Rattle.answers.specs.Answers.{done, reply}
use Rattle.woot.specs.Calls.{all_integrated, identifier_taken}
use Rattle.woot.specs.Histories.{Call, inserting, deleting, restoring, receiving, receiving_at, outcome}

-- ---- typing

-- "typing on a sheet in form then never meets refusal 6, and this is to be shown; the number stays reserved": its
-- condition holds on no state in form, and no call answers it, on any state
abbrev pub NeverTaken : Type 0
NeverTaken =
    ((s : State) → well_formed s ≡ true → identifier_taken s ≡ false)
    × ((s : State) (c : Call) → (outcome s c).answer ≡ Refused Taken → ⊥)

-- document 01's "advances the clock by one", still: by one for what is typed, and by nothing for what that releases
abbrev pub TypingAdvances : Type 0
TypingAdvances =
    (s : State) (g n : ℕ) → (reply (outcome s (inserting g n)).answer).word ≡ done →
    (outcome s (inserting g n)).state.site ≡ record { number = s.site.number; clock = s.site.clock + 1 }

-- ---- every call, on any state

-- an operation that was put off, with the answer waits
abbrev pub waited : Operation → Answer → List Operation
waited o Deferred = o ∷ []
waited o (Done n m) = []
waited o Duplicate = []
waited o (Refused r) = []

-- the operation that a call put off
abbrev pub put_off : Call → Answer → List Operation
put_off (receiving o) a = waited o a
put_off (receiving_at o g) a = waited o a
put_off (inserting g n) a = []
put_off (deleting p) a = []
put_off (restoring x) a = []

-- "when an insert of the laptop's own number is carried out or starts to wait": these raise the clock and nothing else
-- does, a refused or known one nothing
abbrev pub ClockFollows : Type 0
ClockFollows =
    (s : State) (c : Call) →
    (outcome s c).state.site
    ≡ heard_all s.site (inserts (put_off c (outcome s c).answer ++ all_integrated (outcome s c)))

-- what is drained raises nothing: in form, the clock reaches what waits
abbrev pub DrainingRaisesNothing : Type 0
DrainingRaisesNothing =
    (s : State) (c : Call) →
    (outcome s c).state.site ≡ heard_all s.site (inserts (put_off c (outcome s c).answer ++ (outcome s c).own))

-- no call lowers it, one that throws out what waited among them
abbrev pub ClockNeverFalls : Type 0
ClockNeverFalls =
    (s : State) (c : Call) →
    ((outcome s c).state.site.number ≡ s.site.number) × (s.site.clock ≤ (outcome s c).state.site.clock)

-- ---- loading

-- a state that was raised has the condition that the form gained; it is the state itself exactly where that had it,
-- "those whose clock needs no raising"; and what was in range is in range
pub record Raising (s : State) : Type 0 where
  pub kept : clock_kept (raised s) ≡ true
  pub still : (raised s ≡ s) ↔ (clock_kept s ≡ true)
  pub ranged : all_in_range s ≡ true → all_in_range (raised s) ≡ true
