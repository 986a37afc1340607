-- An operation that is new and lacks something: the share of its sender and the room decide, as they do in the rules.
use native.Mathlib.Omega.{arith}
use mathlib.Core.Path.{◌≡◌, refl}
use mathlib.Core.Bool.{Bool, true, false, cond}
use mathlib.Core.List.{List, [], ◌∷◌}
use borrow.Author.Tests.{leb-false}
use lib.Dec.{leb}
use lib.ListN.{length, take, length-append}
use Rattle.woot.specs.declared.Operation.{Operation}
use Rattle.woot.specs.declared.Operation.TheVariants.{Insert as insert, Toggle as toggle}
use Rattle.woot.specs.declared.Character.{Character}
use Rattle.answers.specs.declared.Refusal.TheVariants.{SenderFull, DocumentFull}
use Rattle.answers.specs.declared.Answer.TheVariants.{Refused}
use Rattle.memory.specs.Columns.{Replica}
use Rattle.woot.specs.Limits.{share}
use Rattle.woot.specs.Operations.{sender}
use Rattle.woot.specs.Ranges.{in_range}
use Rattle.woot.specs.State.{State}
use Rattle.woot.specs.Pending.{executable, crossed, unplaceable, pending_from}
use Rattle.answers.specs.Answers.{changes}
use Rattle.woot.specs.Calls.{duplicate, conflicting, sender_full, document_full}
use Rattle.memory.specs.Columns.{meaning}
use Rattle.convergence.proofs.Shares.{pending-bound}
use Rattle.convergence.proofs.Soundness.{sound-defer}
use Rattle.convergence.proofs.Steps.{unused}
use Rattle.well_formed.specs.Examined.{Examined}
use Rattle.well_formed.proofs.Examining.{form, share-counted, room-counted}
use Rattle.reception.specs.declared.Decision.{Decision}
use Rattle.reception.specs.declared.Decision.TheVariants.{Answered, Defer}
use Rattle.reception.specs.Decisions.{full_in, full_with, lacking_in}
use Rattle.reception.proofs.Judging.{Decided}
use Rattle.reception.proofs.Outcomes as outcomes

-- an operation that is in range, and neither known nor in conflict
pub record New (s : State) (o : Operation) : Type 0 where
  pub ranged : in_range o ≡ true
  pub new : duplicate s o ≡ false
  pub sole : conflicting s o ≡ false

unready_straight : (cs : List Character) (o : Operation) → executable cs o ≡ false → crossed cs o ≡ false
unfolding crossed
unready_straight cs (insert i) u = rw u
unready_straight cs (toggle t) u = refl

unready_placed : (cs : List Character) (o : Operation) → executable cs o ≡ false → unplaceable cs o ≡ false
unfolding unplaceable
unready_placed cs (insert i) u = rw u
unready_placed cs (toggle t) u = refl

module _ (r : Replica) (x : Examined r) where
  -- the room is what condition 11 asks
  pub full-with : (o : Operation) → full_with r.document.length (take r.document.waiting r.document.own) o ≡ document_full (meaning r) o
  unfolding full_with full_in document_full
  full-with (insert i) = room-counted r x
  full-with (toggle t) = refl

  module _ (o : Operation) (n : New (meaning r) o) (u : executable (meaning r).characters o ≡ false) where
    straight : crossed (meaning r).characters o ≡ false
    straight = unready_straight (meaning r).characters o u

    placed : unplaceable (meaning r).characters o ≡ false
    placed = unready_placed (meaning r).characters o u

    -- whether its sender has its full share, and whether there is room
    abbrev shared : Bool
    shared = leb share (pending_from (sender o) (meaning r).pending)

    abbrev full : Bool
    full = document_full (meaning r) o

    abbrev decision : Bool → Bool → Decision
    decision a b = cond a (Answered (Refused SenderFull)) (cond b (Answered (Refused DocumentFull)) Defer)

    by : (a : Bool) → shared ≡ a → (b : Bool) → full ≡ b → Decided r o (decision a b)
    unfolding Decided sender_full changes
    by true p b q = (outcomes.sender-full (meaning r) o n.ranged n.new n.sole straight placed (rw (u, p)), refl)
    by false p true q = (outcomes.document-full (meaning r) o n.ranged n.new n.sole straight placed (rw (u, p)) q, refl)
    by false p false q =
        let free = unused (meaning r) o n.new n.sole q in
        let s = sound-defer o (form r x).sound n.ranged (leb-false share (pending_from (sender o) (meaning r).pending) p) free in (
          outcomes.deferred (meaning r) o n.ranged n.new n.sole straight placed (rw (u, p)) q u,
          omega (arith, pending-bound s, length-append (meaning r).pending (o ∷ [])),
        )

    pub lacking_decided : Decided r o
        (lacking_in r.document.length (take r.document.waiting r.document.own) (take r.document.waiting r.document.values) o)
    unfolding lacking_in
    lacking_decided = rw (share-counted r x (sender o), full-with o) (by shared refl full refl)
