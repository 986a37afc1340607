-- Document 02, Req 08: building on the bytes of a heap: the rule applied to what its lines say, and the struct that
-- comes back.
use Rattle.std.specs.Prelude.{ℕ, not, List, [], ◌∷◌}
use Rattle.answers.specs.declared.Refusal.TheVariants.{Layout}
use Rattle.answers.specs.declared.Answer.TheVariants.{Refused}
use Rattle.answers.specs.Answers.{◌⇒◌, first, decided}
use Rattle.woot.specs.Memory.{stored}
use Rattle.bulk.specs.Building.{BuildOutcome, unbuilt, build}
use Rattle.heap.specs.Format.{heap_laid_out, heap_said}
use Rattle.building.specs.declared.Built.{Built}

-- 1 comes first, for the whole heap: only lines that have the layout say operations
unfoldable pub built_outcome : ℕ → List ℕ → BuildOutcome
built_outcome n heap =
    decided unbuilt (first ((not (heap_laid_out heap) ⇒ Refused Layout) ∷ [])) (build n (heap_said heap))

-- what is returned: the answer, and the state as it is stored. With a refusal that is the empty one of number 0
unfoldable pub built_by : ℕ → List ℕ → Built
built_by n heap =
    record { answer = (built_outcome n heap).answer; replica = stored (built_outcome n heap).state }
