-- The lists of calls are computed: every definition on their way is opened.
use mathlib.Core.Path.{refl}
use lib.Count.{ones}
use Rattle.codec.specs.Calls.{as_written, line_laid_out, laid_out, said_by}
use Rattle.codec.specs.Operations.{insert_numbers, toggle_numbers, identifier_at, insert_of, toggle_of, delete_of, is_insert, is_toggle, is_delete}
use Rattle.codec.specs.Operations.{operation_of, operation_line}
use Rattle.consistency.specs.Copies.{bytes_after, word_read, written_read, word_of, kept_bytes, when_made, rules_of, renews, on_bytes, step_on, begun}
use Rattle.cursor.specs.Bits.{shift_bits}
use Rattle.decimal.specs.Numeral.{is_digit, leading_zero, is_numeral, value_of, digits_in, digits}
use Rattle.effects.specs.Effects.{quiet}
use Rattle.lines.specs.Answers.{verdict_on, numbers_of, goes_on, numbers_after}
use Rattle.lines.specs.Fields.{numerals, has_layout, values_of, line_of}
use Rattle.lines.specs.Lines.{ended, first_line, rest, closed}
use Rattle.output.specs.Output.{has_room, placed}
use Rattle.effects.specs.Results.{result, silent, in_bits, number_of}
use Rattle.saved.specs.Calls.{loaded_as}
use Rattle.saved.specs.Format.{site_numbers, site_of, is_site, site_said, site_line, toggle_field, character_numbers, character_of, is_character}
use Rattle.saved.specs.Format.{character_said, character_line, is_operation, operation_said, saved_line, head_line, row_lines, operation_lines, laid_out_as}
use Rattle.saved.specs.Format.{state_as, character_within, operation_within, in_range_as, bytes_as, laid_out_with, bytes_with}
use Rattle.c_calls.specs.Calls.{input_checks, one_line, handed_checks, rule_checks, product_of, call_checks, effect_of}
use Rattle.answers.specs.Answers.{decided, reply, changes}
use Rattle.woot.specs.Sending.{answer_of}
use Rattle.woot.specs.Calls.{unchanged, all_integrated, with_characters, with_pending, after_drain, insert_carried, duplicate, conflicting, sender_full}
use Rattle.woot.specs.Calls.{document_full, receive_checks, carry_out, defer, accept, receive_when, receive, visibles, next_identifier, generated_insert}
use Rattle.woot.specs.Calls.{beyond_visible, identifier_taken, insert_checks, send_insert, local_insert_when, local_insert, toggles_of, generated_toggle}
use Rattle.woot.specs.Calls.{send_toggle, not_visible, delete_checks, generated_delete, local_delete_when, local_delete, not_hidden, exhausted, restore_checks}
use Rattle.woot.specs.Calls.{local_restore_when, local_restore}
use Rattle.utf8.specs.Encoding.{encoded_length}
use Rattle.decoding.specs.Decoding.{accepted, continues, continued, head_of, decoded_steps, decoded}
use Rattle.woot.specs.Histories.{outcome}
use Rattle.bulk.specs.Pasting.{code_points_of, gap_below, stopped, unpasted, pasted, clock_short, overfull, paste_checks, paste_when, paste}
use Rattle.woot.specs.Clock.{own_insert, heard}
use Rattle.woot.specs.Cursor.{through, visible_through, cursor_after, receive_at_checks, receive_at_when, receive_at, new_gap, shift_of, shift_at}
use Rattle.woot.specs.Form.{present_inserts, all_in_range, shares_kept, capacity_kept, identifiers_distinct, toggles_distinct, ordered, neighbours_ordered}
use Rattle.woot.specs.Form.{none_executable, clock_reaches, clock_kept, well_formed, raised}
use Rattle.woot.specs.Identifiers.{same, below}
use Rattle.woot.specs.Operations.{sender, character, origin, is_visible, with_toggles, toggled_by, same_insert, same_toggle, same_operation}
use Rattle.woot.specs.Pending.{executable, crossed, unplaceable, integrate, pending_from, earliest, and_integrated, and_discarded, drained, drain_steps, drain}
use Rattle.woot.specs.Placing.{sequence, index_of, place_of, held, above, adjacent, candidate, candidates, narrowed, search, position, between}
use Rattle.woot.specs.Placing.{insert_at, integrate_insert, integrate_toggle}
use Rattle.woot.specs.Ranges.{within, site_number, is_code_point, character_id, previous_id, next_id, site_in_range, insert_in_range, toggle_in_range, in_range}
use Rattle.woot.specs.Ranges.{character_in_range}
use Rattle.woot.specs.State.{initial, blank_character, blank_operation}
use Rattle.bulk.specs.Building.{once, building, left_out, built, heap_full, disagree, disagreeing, build_checks, unbuilt}
use Rattle.bulk.specs.Building.{build}
use Rattle.heap.specs.Format.{heap_laid_out, line_said, heap_said}
use Rattle.consistency.specs.Copies.{beginning_of, carried_before}
use Rattle.bulk.specs.Loading.{among, free, bound, peeled, acyclic, ordered_pair, ordered_pairs, loadable, turnings}
use Rattle.bulk.specs.Loading.{use_checks}
use Rattle.bulk.specs.Catching.{bit_of, speaks_of, marks, listed_in, ones_in, precedes, in_sequence, chunk_of, also_marking}
use Rattle.bulk.specs.Catching.{with_marked, chunks_of, listing, lowest, lowest_of, next_sent, without, sequenced, unlisted}
use Rattle.bulk.specs.Catching.{sent, operations_for, answer_for, chunk_in_range, listing_in_range, marks_zero, mislisted}
use Rattle.listing.specs.Format.{list_numbers, chunk_numbers, chunk_line, list_bytes, is_chunk, are_list_lines, list_laid_out}
use Rattle.listing.specs.Format.{chunk_said, said_by_lines, list_said}
use Rattle.bulk.specs.Archiving.{by_identifier, archived, archive_of, by_place, unarchived, state_from, place_in_range}
use Rattle.bulk.specs.Archiving.{archive_in_range, each_once, places_kept, identifiers_rise, arranged, archive_checks}
use Rattle.bulk.specs.Archiving.{unarchive_checks}
use Rattle.saved.specs.Archive.{placed_numbers, placed_of, is_placed, placed_said, placed_line, archive_said, archiving}
use Rattle.saved.specs.Archive.{archiving_refusals, unarchiving, unarchiving_refusals}
use Rattle.consistency.specs.Archiving.{act_on}
use Rattle.consistency.specs.Examples.{CallsExample, BuiltExample, LoadedExample, CaughtExample, ArchivedExample}

pub calls-example : CallsExample
unfolding as_written line_laid_out laid_out said_by insert_numbers toggle_numbers identifier_at insert_of toggle_of delete_of is_insert is_toggle is_delete
    operation_of operation_line bytes_after word_read written_read word_of kept_bytes when_made rules_of renews on_bytes step_on begun shift_bits is_digit
    leading_zero is_numeral value_of digits_in digits quiet verdict_on numbers_of goes_on numbers_after numerals has_layout values_of line_of ended
    first_line rest closed has_room placed result silent in_bits number_of loaded_as site_numbers site_of is_site site_said site_line toggle_field
    character_numbers character_of is_character character_said character_line is_operation operation_said saved_line head_line row_lines operation_lines
    laid_out_with state_as character_within operation_within in_range_as bytes_with input_checks one_line handed_checks rule_checks product_of call_checks effect_of
    reply changes answer_of unchanged with_characters with_pending after_drain insert_carried duplicate conflicting sender_full document_full receive_checks
    carry_out defer accept receive_when receive visibles next_identifier generated_insert beyond_visible identifier_taken insert_checks send_insert
    local_insert_when local_insert toggles_of generated_toggle send_toggle not_visible delete_checks generated_delete local_delete_when local_delete not_hidden
    exhausted restore_checks local_restore_when local_restore own_insert heard through visible_through cursor_after receive_at_checks receive_at_when receive_at
    new_gap shift_of shift_at present_inserts all_in_range shares_kept capacity_kept identifiers_distinct toggles_distinct ordered neighbours_ordered
    none_executable clock_reaches clock_kept well_formed raised same below sender character origin is_visible with_toggles toggled_by same_insert same_toggle
    same_operation executable crossed unplaceable integrate pending_from earliest and_integrated and_discarded drained drain_steps drain sequence index_of
    place_of held above adjacent candidate candidates narrowed search position between insert_at integrate_insert integrate_toggle within
    site_number is_code_point character_id previous_id next_id site_in_range insert_in_range toggle_in_range in_range character_in_range initial blank_character
    blank_operation decided continues continued accepted encoded_length head_of decoded_steps decoded code_points_of gap_below stopped
    unpasted pasted clock_short overfull paste_checks paste_when paste outcome all_integrated
calls-example = record { bytes_left = refl; replies = refl; rules-made = refl }

-- those that begin with a heap or with a sheet that was loaded, whose definitions are opened once
starts-example : BuiltExample × LoadedExample
unfolding as_written line_laid_out laid_out said_by insert_numbers toggle_numbers identifier_at insert_of toggle_of
    delete_of is_insert is_toggle is_delete operation_of operation_line bytes_after word_read written_read word_of
    kept_bytes when_made rules_of renews on_bytes step_on begun is_digit leading_zero is_numeral value_of digits_in digits
    quiet verdict_on numbers_of goes_on numbers_after numerals has_layout values_of line_of ended first_line
    rest closed has_room placed result silent in_bits number_of loaded_as site_numbers site_of is_site site_said
    site_line toggle_field character_numbers character_of is_character character_said character_line is_operation
    operation_said saved_line head_line row_lines operation_lines laid_out_with state_as character_within operation_within
    in_range_as bytes_with input_checks one_line handed_checks rule_checks product_of call_checks effect_of reply changes
    answer_of unchanged with_characters with_pending after_drain insert_carried duplicate conflicting sender_full
    document_full receive_checks carry_out defer accept receive_when receive visibles next_identifier toggles_of
    generated_toggle send_toggle not_hidden exhausted restore_checks local_restore_when local_restore own_insert heard
    present_inserts all_in_range shares_kept capacity_kept identifiers_distinct toggles_distinct ordered
    neighbours_ordered none_executable clock_reaches clock_kept well_formed raised same below sender character origin
    is_visible with_toggles toggled_by same_insert same_toggle same_operation executable crossed unplaceable integrate
    pending_from earliest and_integrated and_discarded drained drain_steps drain sequence index_of place_of held above
    adjacent candidate candidates narrowed search position between insert_at integrate_insert integrate_toggle
    within site_number is_code_point character_id previous_id next_id site_in_range insert_in_range toggle_in_range in_range
    character_in_range initial blank_character blank_operation decided once building left_out built heap_full disagree
    disagreeing build_checks unbuilt build heap_laid_out line_said heap_said beginning_of carried_before among free
    bound peeled acyclic ordered_pair ordered_pairs loadable turnings use_checks
starts-example = (
  record {
    bytes-built = refl;
    one-left-out = refl;
    carried-out = refl;
    goes_on = refl;
    rules-after = refl;
    none-built = refl;
    begins-empty = refl;
    none-carried = refl;
  },
  record {
    bytes-loaded = refl;
    carried-out = refl;
    same-again = refl;
    rules-after = refl;
    sixteen = refl;
    none-loaded = refl;
    begins-empty = refl;
    none-carried = refl;
  },
)

pub built-example : BuiltExample
built-example = starts-example.0

pub loaded-example : LoadedExample
loaded-example = starts-example.1

pub caught_example : CaughtExample
unfolding as_written line_laid_out laid_out said_by insert_numbers toggle_numbers identifier_at insert_of toggle_of delete_of
    is_insert is_toggle is_delete operation_of operation_line bytes_after word_read written_read word_of kept_bytes renews
    on_bytes step_on is_digit leading_zero is_numeral value_of digits_in digits quiet verdict_on numbers_of goes_on
    numbers_after numerals has_layout values_of line_of ended first_line rest closed has_room placed result silent in_bits
    number_of loaded_as site_numbers site_of is_site site_said site_line toggle_field character_numbers character_of is_character
    character_said character_line is_operation operation_said saved_line head_line row_lines operation_lines laid_out_with
    state_as character_within operation_within in_range_as bytes_with input_checks one_line handed_checks rule_checks product_of
    call_checks effect_of reply changes unchanged with_characters with_pending after_drain insert_carried duplicate
    conflicting sender_full document_full receive_checks carry_out defer accept receive_when receive own_insert heard
    present_inserts all_in_range shares_kept capacity_kept identifiers_distinct toggles_distinct ordered neighbours_ordered
    none_executable clock_reaches clock_kept well_formed raised same below sender character origin is_visible with_toggles
    toggled_by same_insert same_toggle same_operation executable crossed unplaceable integrate pending_from earliest
    and_integrated and_discarded drained drain_steps drain sequence index_of place_of held above adjacent candidate
    candidates narrowed search position between insert_at integrate_insert integrate_toggle within site_number is_code_point
    character_id previous_id next_id site_in_range insert_in_range toggle_in_range in_range character_in_range initial
    blank_character blank_operation decided among free turnings bit_of speaks_of marks listed_in ones_in precedes in_sequence
    chunk_of also_marking with_marked chunks_of listing lowest lowest_of next_sent without sequenced unlisted sent
    operations_for answer_for chunk_in_range listing_in_range marks_zero mislisted list_numbers chunk_numbers chunk_line
    list_bytes is_chunk are_list_lines list_laid_out chunk_said said_by_lines list_said ones
caught_example =
    record {
      listed = refl;
      answered = refl;
      lines_cut = refl;
      words = refl;
      caught = refl;
      eighteen = refl;
      two = refl;
      three = refl;
    }

pub archived-example : ArchivedExample
unfolding as_written line_laid_out laid_out said_by insert_numbers toggle_numbers identifier_at insert_of toggle_of delete_of
    is_insert is_toggle is_delete operation_of operation_line bytes_after word_read written_read word_of kept_bytes when_made
    rules_of renews on_bytes step_on is_digit leading_zero is_numeral value_of digits_in digits quiet verdict_on
    numbers_of goes_on numbers_after numerals has_layout values_of line_of ended first_line rest closed has_room placed result
    silent in_bits number_of loaded_as site_numbers site_of is_site site_said site_line toggle_field character_numbers
    character_of is_character character_said character_line is_operation operation_said saved_line head_line row_lines
    operation_lines laid_out_with state_as character_within operation_within in_range_as bytes_with input_checks one_line
    handed_checks rule_checks product_of call_checks effect_of reply changes answer_of unchanged with_characters with_pending
    after_drain insert_carried duplicate conflicting sender_full document_full receive_checks carry_out defer accept
    receive_when receive visibles next_identifier toggles_of generated_toggle send_toggle not_hidden exhausted restore_checks
    local_restore_when local_restore own_insert heard present_inserts all_in_range shares_kept capacity_kept
    identifiers_distinct toggles_distinct ordered neighbours_ordered none_executable clock_reaches clock_kept well_formed
    raised same below sender character origin is_visible with_toggles toggled_by same_insert same_toggle same_operation
    executable crossed unplaceable integrate pending_from earliest and_integrated and_discarded drained drain_steps drain
    sequence index_of place_of held above adjacent candidate candidates narrowed search position between insert_at
    integrate_insert integrate_toggle within site_number is_code_point character_id previous_id next_id site_in_range
    insert_in_range toggle_in_range in_range character_in_range initial blank_character blank_operation decided by_identifier
    archived archive_of by_place unarchived state_from place_in_range archive_in_range each_once places_kept identifiers_rise
    arranged archive_checks unarchive_checks placed_numbers placed_of is_placed placed_said placed_line archive_said archiving
    archiving_refusals unarchiving unarchiving_refusals act_on
archived-example =
    record {
      archived = refl;
      brought-back = refl;
      low-three = refl;
      low-back-three = refl;
      three = refl;
      nineteen = refl;
      two = refl;
      goes_on = refl;
    }
