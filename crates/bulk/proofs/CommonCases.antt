-- The two sheets by computation, straight from the definitions.
use mathlib.Core.Path.{refl}
use Rattle.utf8.specs.CodePoints.{within, is_code_point}
use Rattle.answers.specs.Answers.{decided}
use Rattle.woot.specs.Identifiers.{same, below}
use Rattle.woot.specs.Operations.{sender, character, origin, is_visible, with_toggles, toggled_by, same_insert, same_toggle, same_operation}
use Rattle.woot.specs.Ranges.{site_number, character_id, previous_id, next_id, site_in_range, insert_in_range, toggle_in_range, in_range, character_in_range}
use Rattle.woot.specs.State.{initial}
use Rattle.woot.specs.Placing.{sequence, index_of, place_of, held, above, adjacent, candidate, candidates, narrowed, search, position, between, insert_at, integrate_insert, integrate_toggle}
use Rattle.woot.specs.Pending.{executable, crossed, unplaceable, integrate, pending_from, earliest, and_integrated, and_discarded, drained, drain_steps, drain}
use Rattle.woot.specs.Form.{present_inserts, all_in_range, shares_kept, capacity_kept, identifiers_distinct, toggles_distinct, ordered, neighbours_ordered, none_executable, clock_reaches, clock_kept, well_formed}
use Rattle.woot.specs.Clock.{own_insert, heard}
use Rattle.woot.specs.Calls.{unchanged, all_integrated, with_characters, with_pending, after_drain, insert_carried, duplicate, conflicting, sender_full, document_full, receive_checks, carry_out, defer, accept, receive_when, receive}
use Rattle.woot.specs.Histories.{outcome}
use Rattle.bulk.specs.Common.{visible_among, common_visible}
use Rattle.bulk.specs.CommonCases.{PremiseNeeded, CommonTells}

pub premise_needed : PremiseNeeded
unfolding within is_code_point same below sender character origin is_visible with_toggles toggled_by same_insert same_toggle same_operation site_number character_id previous_id next_id site_in_range insert_in_range toggle_in_range in_range character_in_range initial sequence index_of place_of held above adjacent candidate candidates narrowed search position between insert_at integrate_insert integrate_toggle executable crossed unplaceable integrate pending_from earliest and_integrated and_discarded drained drain_steps drain present_inserts all_in_range shares_kept capacity_kept identifiers_distinct toggles_distinct ordered neighbours_ordered none_executable clock_reaches clock_kept well_formed own_insert heard decided unchanged all_integrated with_characters with_pending after_drain insert_carried duplicate conflicting sender_full document_full receive_checks carry_out defer accept receive_when receive outcome
premise_needed = (refl, refl, refl, refl)

pub common_tells : CommonTells
unfolding within is_code_point same below sender character origin is_visible with_toggles toggled_by same_insert same_toggle same_operation site_number character_id previous_id next_id site_in_range insert_in_range toggle_in_range in_range character_in_range initial sequence index_of place_of held above adjacent candidate candidates narrowed search position between insert_at integrate_insert integrate_toggle executable crossed unplaceable integrate pending_from earliest and_integrated and_discarded drained drain_steps drain present_inserts all_in_range shares_kept capacity_kept identifiers_distinct toggles_distinct ordered neighbours_ordered none_executable clock_reaches clock_kept well_formed own_insert heard decided unchanged all_integrated with_characters with_pending after_drain insert_carried duplicate conflicting sender_full document_full receive_checks carry_out defer accept receive_when receive outcome visible_among common_visible
common_tells = (refl, refl, refl)
