-- What is computed of the state with 512 waiting inserts: it is in form, and no condition turns the insert away that
-- releases them.
use mathlib.Core.Bool.{true}
use mathlib.Core.Path.{◌≡◌, refl}
use mathlib.Core.Option.{none}
use Rattle.woot.specs.Identifiers.{same}
use Rattle.woot.specs.Operations.{sender, character, origin, is_visible, same_insert, same_toggle, same_operation}
use Rattle.woot.specs.Ranges.{within, site_number, is_code_point, character_id, previous_id, next_id, site_in_range, insert_in_range, in_range, character_in_range}
use Rattle.woot.specs.Placing.{sequence, index_of, place_of, held, above, adjacent, search, position, between}
use Rattle.woot.specs.Pending.{executable, crossed, unplaceable, pending_from}
use Rattle.woot.specs.Form.{present_inserts, all_in_range, shares_kept, capacity_kept, identifiers_distinct, toggles_distinct, ordered, neighbours_ordered, none_executable, clock_reaches, clock_kept, well_formed}
use Rattle.woot.specs.Clock.{own_insert}
use Rattle.answers.specs.Answers.{first}
use Rattle.woot.specs.Calls.{duplicate, conflicting, sender_full, document_full, visibles, beyond_visible}
use Rattle.woot.specs.Cursor.{receive_at_checks}
use Rattle.woot.specs.Situations.{crowded, releasing}

pub crowded-formed : well_formed crowded ≡ true
unfolding crowded same sender character origin same_insert same_toggle within site_number is_code_point character_id previous_id next_id site_in_range insert_in_range in_range character_in_range sequence index_of place_of held above executable pending_from present_inserts all_in_range shares_kept capacity_kept identifiers_distinct toggles_distinct ordered neighbours_ordered none_executable clock_reaches clock_kept own_insert well_formed
crowded-formed = refl

pub releasing-passes : first (receive_at_checks true crowded releasing 1) ≡ none
unfolding crowded releasing same sender character origin is_visible same_insert same_operation within site_number is_code_point character_id previous_id next_id insert_in_range in_range sequence index_of place_of held above adjacent search position between executable crossed unplaceable pending_from present_inserts duplicate conflicting sender_full document_full visibles beyond_visible receive_at_checks
releasing-passes = refl
