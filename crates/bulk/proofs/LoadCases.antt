-- The states by computation, straight from the definitions.
use mathlib.Core.Path.{refl}
use Rattle.utf8.specs.CodePoints.{within, is_code_point}
use Rattle.woot.specs.Identifiers.{same, below}
use Rattle.woot.specs.Operations.{sender, character, origin, with_toggles, same_toggle}
use Rattle.woot.specs.Ranges.{site_number, character_id, previous_id, next_id, site_in_range, insert_in_range, toggle_in_range, in_range, character_in_range}
use Rattle.woot.specs.Placing.{sequence, index_of, place_of, held, above}
use Rattle.woot.specs.Pending.{executable, pending_from}
use Rattle.woot.specs.Form.{present_inserts, all_in_range, shares_kept, capacity_kept, identifiers_distinct, toggles_distinct, ordered, neighbours_ordered, none_executable, clock_reaches, clock_kept, well_formed}
use Rattle.woot.specs.Clock.{own_insert}
use Rattle.answers.specs.Answers.{reply, decided}
use Rattle.bulk.specs.Loading.{among, free, bound, peeled, acyclic, ordered_pair, ordered_pairs, loadable, use_checks, unused, use_when, use_outcome}
use Rattle.bulk.specs.LoadCases.{load_cases, LoadTells, UseOrder}

pub load_tells : LoadTells
unfolding load_cases within is_code_point same below sender character origin with_toggles same_toggle site_number character_id previous_id next_id site_in_range insert_in_range toggle_in_range in_range character_in_range sequence index_of place_of held above executable pending_from present_inserts all_in_range shares_kept capacity_kept identifiers_distinct toggles_distinct ordered neighbours_ordered none_executable clock_reaches clock_kept well_formed own_insert reply decided among free bound peeled acyclic ordered_pair ordered_pairs loadable use_checks unused use_when use_outcome
load_tells = refl

pub use_order : UseOrder
unfolding use_checks reply
use_order formed s = (refl, refl)
