-- The program's examples hold by computation, straight from the definitions.
use mathlib.Core.Path.{refl}
use Rattle.woot.specs.Identifiers.{same, below}
use Rattle.woot.specs.Operations.{is_visible, toggled_by, sender, character, origin, with_toggles, same_insert, same_toggle, same_operation}
use Rattle.woot.specs.Ranges.{within, site_number, is_code_point, character_id, previous_id, next_id, site_in_range, insert_in_range, toggle_in_range, in_range, character_in_range}
use Rattle.woot.specs.State.{initial}
use Rattle.woot.specs.Memory.{identifier, character_of, characters_of, operation_of as operationStored, operations_of, own_key, first_key, second_key, value_of as valueStored, in_columns}
use Rattle.woot.specs.Memory.{characters_in, operations_in, meaning, document_of, stored, counted, table_agrees, replica_well_formed}
use Rattle.woot.specs.Table.{key, chain_of, walk, lookup, is_at, agrees, no_table, free_slot, entered, entered_all, table_of}
use Rattle.lists.specs.Padding.{pad}
use Rattle.woot.specs.Placing.{sequence, index_of, place_of, held, above, adjacent, candidate, candidates, narrowed, search, position, between, insert_at, integrate_insert, integrate_toggle}
use Rattle.woot.specs.Pending.{executable, crossed, unplaceable, integrate, pending_from, earliest, and_integrated, and_discarded, drained, drain_steps, drain}
use Rattle.woot.specs.Form.{present_inserts, all_in_range, shares_kept, capacity_kept, identifiers_distinct, toggles_distinct, ordered, neighbours_ordered, none_executable, clock_reaches, clock_kept, well_formed}
use Rattle.woot.specs.Clock.{own_insert, heard}
use Rattle.answers.specs.Answers.{reply, decided}
use Rattle.woot.specs.Calls.{unchanged, all_integrated, with_characters, with_pending, after_drain, insert_carried, duplicate, conflicting, sender_full, document_full, receive_checks, carry_out, defer, accept, receive_when}
use Rattle.decimal.specs.Numeral.{is_digit, leading_zero, is_numeral, value_of, digits_in, digits}
use Rattle.lines.specs.Lines.{ended, first_line, rest}
use Rattle.lines.specs.Fields.{numerals, has_layout, values_of, line_of}
use Rattle.codec.specs.Operations.{identifier_at, insert_of, toggle_of, delete_of, is_insert, is_toggle, is_delete, operation_of}
use Rattle.codec.specs.Calls.{as_written, line_laid_out, laid_out, read_checks, read_as, said_by, read_operation}
use Rattle.woot.specs.Replicas.{after_answer, receipt, received}
use Rattle.transcript.specs.Lines.{spelled, reply_line, report_line, visible_points, text_numbers, text_line}
use Rattle.transcript.specs.Calls.{received_as, received_line, printed_from, whole_output}
use Rattle.transcript.specs.Theorems.{Example, RestoredExample}

examples : Example × RestoredExample
unfolding same below sender character origin is_visible with_toggles toggled_by same_insert same_toggle same_operation within site_number is_code_point character_id previous_id next_id site_in_range insert_in_range toggle_in_range in_range character_in_range initial pad identifier character_of characters_of operationStored operations_of own_key first_key second_key valueStored in_columns characters_in operations_in meaning document_of stored counted table_agrees key chain_of walk lookup is_at agrees no_table free_slot entered entered_all table_of sequence index_of place_of held above adjacent candidate candidates narrowed search position between insert_at integrate_insert integrate_toggle executable crossed unplaceable integrate pending_from earliest and_integrated and_discarded drained drain_steps drain present_inserts all_in_range shares_kept capacity_kept identifiers_distinct toggles_distinct ordered neighbours_ordered none_executable clock_reaches clock_kept own_insert heard well_formed replica_well_formed reply unchanged decided all_integrated with_characters with_pending after_drain insert_carried duplicate conflicting sender_full document_full receive_checks carry_out defer accept receive_when is_digit leading_zero is_numeral value_of digits_in digits ended first_line rest numerals has_layout values_of identifier_at insert_of toggle_of delete_of is_insert is_toggle is_delete operation_of as_written line_laid_out laid_out read_checks read_as said_by read_operation after_answer receipt received line_of spelled reply_line report_line visible_points text_numbers text_line received_as received_line printed_from whole_output
examples = (refl, refl)

pub example : Example
example = examples.0

pub restored-example : RestoredExample
restored-example = examples.1
