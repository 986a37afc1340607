-- The blocks by computation, straight from the definitions.
use mathlib.Core.Path.{refl}
use Rattle.utf8.specs.CodePoints.{within, is_code_point}
use Rattle.utf8.specs.Encoding.{encoded_length}
use Rattle.decoding.specs.Decoding.{accepted, continues, continued, head_of, decoded_steps, decoded}
use Rattle.woot.specs.Identifiers.{same, below}
use Rattle.woot.specs.Operations.{sender, character, origin, is_visible, with_toggles, toggled_by, same_insert, same_toggle, same_operation}
use Rattle.woot.specs.Ranges.{site_number, character_id, previous_id, next_id, site_in_range, insert_in_range, toggle_in_range, in_range, character_in_range}
use Rattle.woot.specs.Placing.{sequence, index_of, place_of, held, above, adjacent, candidate, candidates, narrowed, search, position, between, insert_at, integrate_insert, integrate_toggle}
use Rattle.woot.specs.Pending.{executable, crossed, unplaceable, integrate, pending_from, earliest, and_integrated, and_discarded, drained, drain_steps, drain}
use Rattle.woot.specs.Form.{present_inserts, all_in_range, shares_kept, capacity_kept, identifiers_distinct, toggles_distinct, ordered, neighbours_ordered, none_executable, clock_reaches, clock_kept, well_formed}
use Rattle.woot.specs.Clock.{own_insert, heard}
use Rattle.answers.specs.Answers.{reply, decided}
use Rattle.woot.specs.Sending.{answer_of}
use Rattle.woot.specs.Calls.{unchanged, all_integrated, with_characters, after_drain, insert_carried, document_full, carry_out, visibles, next_identifier, generated_insert, beyond_visible, identifier_taken, insert_checks, send_insert, local_insert_when, local_insert}
use Rattle.woot.specs.Cursor.{through, visible_through}
use Rattle.woot.specs.Histories.{outcome}
use Rattle.woot.specs.Situations.{full}
use Rattle.bulk.specs.Pasting.{code_points_of, gap_below, stopped, unpasted, pasted, clock_short, overfull, paste_checks, paste_when, paste}
use Rattle.bulk.specs.PasteCases.{paste_cases, PasteTells, room_to_be_made, PasteFullTells, PasteOrder}

pub paste-order : PasteOrder
unfolding paste_checks reply
paste-order formed s g block = refl

pub paste_tells : PasteTells
unfolding paste_cases within is_code_point encoded_length accepted continues continued head_of decoded_steps decoded same below sender character origin is_visible with_toggles toggled_by same_insert same_toggle same_operation site_number character_id previous_id next_id site_in_range insert_in_range toggle_in_range in_range character_in_range sequence index_of place_of held above adjacent candidate candidates narrowed search position between insert_at integrate_insert integrate_toggle executable crossed unplaceable integrate pending_from earliest and_integrated and_discarded drained drain_steps drain present_inserts all_in_range shares_kept capacity_kept identifiers_distinct toggles_distinct ordered neighbours_ordered none_executable clock_reaches clock_kept well_formed own_insert heard reply answer_of decided unchanged all_integrated with_characters after_drain insert_carried document_full carry_out visibles next_identifier generated_insert beyond_visible identifier_taken insert_checks send_insert local_insert_when local_insert through visible_through outcome code_points_of gap_below stopped unpasted pasted clock_short overfull paste_checks paste_when paste
paste_tells = refl

-- a full state is counted, and no character of it looked at
pub paste-full_tells : PasteFullTells
unfolding full room_to_be_made within is_code_point encoded_length head_of decoded_steps decoded character is_visible present_inserts reply decided visibles beyond_visible code_points_of stopped unpasted pasted clock_short overfull paste_checks paste_when
paste-full_tells = (refl, refl, refl, refl)
