-- Document 02, Req 08: "A separate routine builds the rows from the whole heap and a laptop number." The rule is the
-- draining that there is, begun with no characters and the whole heap waiting, with no limit on what waits.
use Rattle.std.specs.Prelude.{ℕ, Bool, ◌&&◌, ◌||◌, not, cond, List, [], ◌∷◌, ◌++◌, ltb, length}
use Rattle.lists.specs.Lists.{any, every}
use Rattle.woot.specs.declared.Insert.{Insert}
use Rattle.woot.specs.declared.Operation.{Operation}
use Rattle.answers.specs.declared.Refusal.TheVariants.{Range, HeapFull, Conflict}
use Rattle.answers.specs.declared.Answer.{Answer}
use Rattle.answers.specs.declared.Answer.TheVariants.{Done, Refused}
use Rattle.woot.specs.Limits.{capacity}
use Rattle.woot.specs.Identifiers.{same}
use Rattle.woot.specs.Operations.{inserts, toggles_among, same_insert, same_operation}
use Rattle.woot.specs.Ranges.{site_number, in_range}
use Rattle.woot.specs.State.{State, initial}
use Rattle.woot.specs.Pending.{Drained, drain}
use Rattle.woot.specs.Clock.{heard_all}
use Rattle.answers.specs.Answers.{Check, ◌⇒◌, first, decided}

-- ---- what a heap comes to

-- "Repeats count once": the last of those that are the same
unfoldable pub once : List Operation → List Operation
once [] = []
once (o ∷ os) = cond (any (same_operation o) os) (once os) (o ∷ once os)

-- all of them drained into no characters
unfoldable pub building : List Operation → Drained
building heap = drain [] (once heap)

-- "Operations whose needs never come, or that meet condition 8, are left out, with all that need them": what still
-- waits at the end, and what was thrown out
unfoldable pub left_out : List Operation → List Operation
left_out heap = (building heap).pending ++ (building heap).discarded

-- "Nothing waits in the result, and its clock is the largest among the heap's inserts of the laptop's own number, left
-- out or not, or 0"
unfoldable pub built : ℕ → List Operation → State
built n heap =
    record {
      site = heard_all (initial n).site (inserts heap);
      characters = (building heap).characters;
      pending = [];
    }

-- ---- what is refused

-- 17: "A heap above either limit, repeats counted": "up to 1,024 inserts and 1,024 erase or restore lines"
unfoldable pub heap_full : List Operation → Bool
heap_full heap = ltb capacity (length (inserts heap)) || ltb capacity (length (toggles_among heap))

-- "Two inserts with one identifier and other fields"
unfoldable pub disagree : Insert → Insert → Bool
disagree i j = same i.id j.id && not (same_insert i j)

-- 7: there are two such, left out or not
unfoldable pub disagreeing : List Insert → Bool
disagreeing is = any (λ i. any (disagree i) is) is

-- in checking order: 17 comes "after 2", and 7 where it always does
unfoldable pub build_checks : ℕ → List Operation → List (Check Answer)
build_checks n heap =
    (not (site_number n && every in_range heap) ⇒ Refused Range) ∷ (heap_full heap ⇒ Refused HeapFull)
    ∷ (disagreeing (inserts heap) ⇒ Refused Conflict)
    ∷ []

-- ---- building

-- what it answers and leaves: the state, and all that was carried out to make it, in order
pub record BuildOutcome : Type 0 where
  pub answer : Answer
  pub state : State
  pub integrated : List Operation

-- a refusal builds nothing: the empty state of number 0, which no site has, stands beside it
unfoldable pub unbuilt : Answer → BuildOutcome
unbuilt a = record { answer = a; state = initial 0; integrated = [] }

-- "their count is given" where other calls tell what they threw out; none is told as carried out
unfoldable pub build : ℕ → List Operation → BuildOutcome
build n heap =
    decided unbuilt (first (build_checks n heap))
    (record {
      answer = Done 0 (length (left_out heap));
      state = built n heap;
      integrated = (building heap).integrated;
    })
