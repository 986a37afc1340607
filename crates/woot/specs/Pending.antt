-- Pending operations: what an operation needs, and what is drained from the list after an insert.
use Rattle.std.specs.Prelude.{ℕ, zero, suc, Bool, false, ◌&&◌, ◌||◌, not, cond, List, [], ◌∷◌, eqb, length}
use Rattle.std.proofs.Math.Option.{Option, none, some}
use Rattle.woot.specs.declared.Insert.{Insert}
use Rattle.woot.specs.declared.Operation.{Operation}
use Rattle.woot.specs.declared.Operation.TheVariants.{Insert as insert, Toggle as toggle}
use Rattle.woot.specs.declared.Character.{Character}
use Rattle.woot.specs.Operations.{sender}
use Rattle.woot.specs.Placing.{held, above, position, between, integrate_insert, integrate_toggle}
use Rattle.lists.specs.Lists.{keep, missing}

-- "An insert needs its previous and next held (marks always are). An erase needs its row." (001, isExecutable); and
-- "an `E` waits as an erase did"
unfoldable pub executable : List Character → Operation → Bool
executable cs (insert i) = held cs i.previous && held cs i.next
executable cs (toggle t) = held cs t.target

-- condition 8: "previous and next are both held and previous doesn't stand above next"
unfoldable pub crossed : List Character → Operation → Bool
crossed cs (insert i) = executable cs (insert i) && not (above cs i.previous i.next)
crossed cs (toggle t) = false

-- condition 9: "at some step of placing there are rows between and no candidate"
unfoldable pub unplaceable : List Character → Operation → Bool
unplaceable cs (insert i) = executable cs (insert i) && missing (position cs i.id (between cs i))
unplaceable cs (toggle t) = false

-- the characters after an operation is carried out
unfoldable pub integrate : List Character → Operation → List Character
integrate cs (insert i) = integrate_insert cs i
integrate cs (toggle t) = integrate_toggle cs t

-- the operations of one sender
abbrev pub sent_by : ℕ → List Operation → List Operation
sent_by n ps = keep (λ o. eqb (sender o) n) ps

-- how many operations of one sender are pending
unfoldable pub pending_from : ℕ → List Operation → ℕ
pending_from n ps = length (sent_by n ps)

-- an operation, and the list that it was taken out of without it
pub record Extracted : Type 0 where
  pub operation : Operation
  pub others : List Operation

abbrev pub behind : Operation → Option Extracted → Option Extracted
behind o none = none
behind o (some t) = some (record { operation = t.operation; others = o ∷ t.others })

-- the earliest that passes the test, taken out
unfoldable pub earliest : (Operation → Bool) → List Operation → Option Extracted
earliest p [] = none
earliest p (o ∷ ps) = cond (p o) (some (record { operation = o; others = ps })) (behind o (earliest p ps))

-- what is left after draining, what was carried out, in order, and what was thrown out
pub record Drained : Type 0 where
  pub characters : List Character
  pub pending : List Operation
  pub integrated : List Operation
  pub discarded : List Operation

unfoldable pub and_integrated : Operation → Drained → Drained
and_integrated o d =
    record {
      characters = d.characters;
      pending = d.pending;
      integrated = o ∷ d.integrated;
      discarded = d.discarded;
    }

unfoldable pub and_discarded : Operation → Drained → Drained
and_discarded o d =
    record {
      characters = d.characters;
      pending = d.pending;
      integrated = d.integrated;
      discarded = o ∷ d.discarded;
    }

-- nothing left to drain
unfoldable pub drained : List Character → List Operation → Drained
drained cs ps = record { characters = cs; pending = ps; integrated = []; discarded = [] }

-- "the earliest waiting operation that now has all it needs is taken out and carried out, and again until there is
-- none. One that meets condition 8 or 9 at that moment is thrown out instead": at most n of them
unfoldable pub drain_steps : ℕ → List Character → List Operation → Drained
drain_steps zero cs ps = drained cs ps
drain_steps (suc n) cs ps =
    elim (earliest (executable cs) ps) [
      | none ↦ drained cs ps
      | some t ↦
          cond (crossed cs t.operation || unplaceable cs t.operation)
          (and_discarded t.operation (drain_steps n cs t.others))
          (and_integrated t.operation (drain_steps n (integrate cs t.operation) t.others))
    ]

-- each step takes one out, so as many as there are pending are enough
unfoldable pub drain : List Character → List Operation → Drained
drain cs ps = drain_steps (length ps) cs ps
