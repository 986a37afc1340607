-- For the proofs of the code alone: what is built of inserts and toggles in lent arrays, and what is refused before.
use Rattle.std.specs.Prelude.{ℕ, ◌+◌, ◌-◌, ◌≡◌, true, ◌&&◌, ◌||◌, not, cond, List, [], ◌∷◌, ltb, length}
use Rattle.std.specs.Prelude.{Result, Ok, Err}
use Rattle.lists.specs.Lists.{every}
use Rattle.woot.specs.declared.Site.{Site}
use Rattle.woot.specs.declared.Insert.{Insert}
use Rattle.woot.specs.declared.Toggle.{Toggle}
use Rattle.woot.specs.declared.Operation.{Operation}
use Rattle.answers.specs.declared.Refusal.{Refusal}
use Rattle.answers.specs.declared.Refusal.TheVariants.{Layout, Range, HeapFull, Conflict}
use Rattle.answers.specs.declared.Answer.TheVariants.{Done, Refused}
use Rattle.woot.specs.Limits.{capacity}
use Rattle.woot.specs.Operations.{inserts, toggles_among}
use Rattle.woot.specs.Ranges.{site_number, in_range}
use Rattle.answers.specs.Answers.{◌⇒◌, first, decided}
use Rattle.woot.specs.Memory.{stored}
use Rattle.bulk.specs.Building.{BuildOutcome, unbuilt, building, left_out, built, disagreeing}
use Rattle.convergence.specs.Passes.{placed, toggled_all, absentees}
use Rattle.gathering.specs.declared.Gathered.{Gathered}
use Rattle.heap.specs.Columns.{InsertsIn}
use Rattle.passes.specs.Steps.{Offered}
use Rattle.building.specs.declared.Built.{Built}
use Rattle.building.specs.Steps.{Among}

-- ---- the refusals before 7

unfoldable pub judged : ℕ → Gathered → Result (Unit {0}) Refusal
judged n g =
    cond (not g.laid_out) (Err Layout)
    (cond (not (site_number n && g.in_range)) (Err Range)
    (cond (ltb capacity g.inserts || ltb capacity g.toggles) (Err HeapFull) (Ok tt)))

-- ---- inserts, no identifier twice, and toggles

-- in lent arrays, as many of each
pub record Assembles (xs : List ℕ) (m : ℕ) (ys : List ℕ) (l : ℕ) : Type 0 where
  pub inserts : List Insert
  pub toggles : List Toggle
  pub held : InsertsIn xs inserts
  pub many : m ≡ length inserts
  pub offered : Offered [] inserts
  pub among : Among ys l toggles

-- what they come to
unfoldable pub assembled : Site → List Insert → List Toggle → Built
assembled t is ts =
    record {
      answer = Done 0 (length is - length (placed is) + absentees (placed is) ts);
      replica = stored (record { site = t; characters = toggled_all (placed is) ts; pending = [] });
    }

-- ---- operations that are in range and not too many

pub record Gathers (xs : List ℕ) (m : ℕ) (ys : List ℕ) (l : ℕ) : Type 0 where
  pub operations : List Operation
  pub held : InsertsIn xs (inserts operations)
  pub many : m ≡ length (inserts operations)
  pub among : Among ys l (toggles_among operations)
  pub ranged : every in_range operations ≡ true

-- what they come to, or 7
unfoldable pub outcome_of : ℕ → List Operation → BuildOutcome
outcome_of n os =
    decided unbuilt (first ((disagreeing (inserts os) ⇒ Refused Conflict) ∷ []))
    (record { answer = Done 0 (length (left_out os)); state = built n os; integrated = (building os).integrated })

unfoldable pub returned : BuildOutcome → Built
returned w = record { answer = w.answer; replica = stored w.state }
