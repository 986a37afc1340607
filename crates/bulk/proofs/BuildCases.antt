-- The heaps by computation, straight from the definitions.
use Prim.Native.Nat.{ℕ}
use mathlib.Core.Path.{◌≡◌, refl, ap}
use lib.ListN.{length}
use Rattle.utf8.specs.CodePoints.{within, is_code_point}
use Rattle.woot.specs.Identifiers.{same, below}
use Rattle.woot.specs.Operations.{character, with_toggles, toggled_by, same_insert, same_toggle, same_operation}
use Rattle.woot.specs.Ranges.{site_number, character_id, previous_id, next_id, insert_in_range, toggle_in_range, in_range}
use Rattle.woot.specs.State.{initial}
use Rattle.woot.specs.Placing.{sequence, index_of, place_of, held, above, adjacent, candidate, candidates, narrowed, search, position, between}
use Rattle.woot.specs.Placing.{insert_at, integrate_insert, integrate_toggle}
use Rattle.woot.specs.Pending.{executable, crossed, unplaceable, integrate, earliest, and_integrated, and_discarded, drained, drain_steps, drain}
use Rattle.woot.specs.Clock.{own_insert, heard}
use Rattle.answers.specs.Answers.{Reply, reply, decided}
use Rattle.woot.specs.Situations.{Done}
use Rattle.bulk.specs.Building.{BuildOutcome, once, building, left_out, built, heap_full, disagree, disagreeing, build_checks, unbuilt, build}
use Rattle.bulk.specs.BuildCases.{build_cases, chain, BuildTells, BuildWaitsTells, BuildFullTells, BuildOrder}

pub build-order : BuildOrder
unfolding build_checks reply
build-order n heap = refl

pub build_tells : BuildTells
unfolding build_cases within is_code_point same below character with_toggles toggled_by same_insert same_toggle same_operation site_number character_id previous_id
    next_id insert_in_range toggle_in_range in_range initial sequence index_of place_of held above adjacent candidate candidates narrowed search position
    between insert_at integrate_insert integrate_toggle executable crossed unplaceable integrate earliest and_integrated and_discarded drained drain_steps
    drain own_insert heard reply decided once building left_out built heap_full disagree disagreeing build_checks unbuilt build
build_tells = refl

-- the answer and how many rows there are, so that the heap is built once for both
answered : BuildOutcome → Reply × ℕ
answered w = (reply w.answer, length w.state.characters)

chain-built : answered (build 1 (chain 40)) ≡ (Done 0 0, 40)
unfolding within is_code_point same below character with_toggles toggled_by same_insert same_toggle same_operation site_number character_id previous_id next_id
    insert_in_range toggle_in_range in_range initial sequence index_of place_of held above adjacent candidate candidates narrowed search position between
    insert_at integrate_insert integrate_toggle executable crossed unplaceable integrate earliest and_integrated and_discarded drained drain_steps drain
    own_insert heard reply decided once building left_out built heap_full disagree disagreeing build_checks unbuilt build answered
chain-built = refl

pub build-waits_tells : BuildWaitsTells
unfolding answered
build-waits_tells = (ap (λ p. p.0) chain-built, ap (λ p. p.1) chain-built)

-- a heap above a limit is counted, and nothing of it placed
pub build-full_tells : BuildFullTells
unfolding within is_code_point same same_insert same_toggle same_operation site_number character_id previous_id next_id insert_in_range toggle_in_range in_range reply
    decided once heap_full build_checks unbuilt build
build-full_tells = (refl, refl, refl)
