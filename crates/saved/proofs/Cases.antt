-- The examples of saved replicas in both forms, of what is none, and of trips between them, by computation.
use mathlib.Core.Path.{refl}
use Rattle.woot.specs.Ranges.{within, site_number, is_code_point, character_id, previous_id, next_id, insert_in_range, site_in_range, character_in_range}
use Rattle.woot.specs.Ranges.{toggle_in_range, in_range}
use Rattle.woot.specs.Identifiers.{same}
use Rattle.woot.specs.Operations.{origin, same_toggle, sender}
use Rattle.woot.specs.Clock.{own_insert, heard}
use Rattle.woot.specs.Form.{all_in_range, present_inserts, raised, shares_kept, capacity_kept, identifiers_distinct, toggles_distinct, neighbours_ordered}
use Rattle.woot.specs.Form.{none_executable, clock_kept, well_formed, ordered, clock_reaches}
use Rattle.decimal.specs.Numeral.{is_digit, leading_zero, is_numeral, value_of, digits_in, digits}
use Rattle.lines.specs.Lines.{closed}
use Rattle.lines.specs.Fields.{numerals, has_layout, values_of, line_of}
use Rattle.codec.specs.Operations.{insert_numbers, toggle_numbers, delete_numbers, identifier_at, is_insert, is_toggle, is_delete, operation_line, insert_of}
use Rattle.codec.specs.Operations.{toggle_of, delete_of, operation_of}
use Rattle.codec.specs.Calls.{as_written, as_written_first}
use Rattle.saved.specs.Format.{site_numbers, site_of, is_site, site_said, site_line, toggle_field, character_numbers, character_of, is_character}
use Rattle.saved.specs.Format.{character_said, character_line, is_operation, saved_line, head_line, row_lines, operation_lines, laid_out_as, state_as}
use Rattle.saved.specs.Format.{character_within, operation_within, representable, in_range_as, bytes_as, operation_said, laid_out_with, bytes_with}
use Rattle.saved.specs.Calls.{loaded_as}
use Rattle.saved.specs.Conversion.{conversion, FormsExample, RepresentableCases, FirstFormOnly, ForwardCases, conversion_refusals}
use Rattle.saved.specs.Conversion.{conversion_checks, converted, converted_out, TripCases}
use Rattle.saved.specs.Theorems.{SavedExample, SecondFormOnly}
use Rattle.woot.specs.Placing.{sequence, index_of, place_of, held, above}
use Rattle.woot.specs.Pending.{executable, pending_from}
use Rattle.answers.specs.Answers.{decided}
use Rattle.woot.specs.Writing.{written_as, output_after, writing_checks, written_number}
use Rattle.output.specs.Output.{has_room, placed}

pub saved-example : SavedExample
unfolding digits_in digits line_of insert_numbers toggle_numbers operation_line site_numbers site_line toggle_field character_numbers character_line saved_line bytes_with
saved-example = refl

pub second_form_only : SecondFormOnly
unfolding is_digit leading_zero is_numeral closed numerals has_layout is_insert is_toggle as_written is_site is_character is_operation head_line row_lines
    operation_lines laid_out_with
second_form_only = (refl, refl, refl)

pub forms_example : FormsExample
unfolding digits_in digits line_of insert_numbers toggle_numbers delete_numbers operation_line site_numbers site_line toggle_field character_numbers
    character_line saved_line bytes_with
forms_example = (refl, refl)

pub representable-cases : RepresentableCases
unfolding character_within operation_within representable
representable-cases = (refl, refl, refl)

pub first_form_only : FirstFormOnly
unfolding is_digit leading_zero is_numeral closed numerals has_layout is_insert is_delete as_written_first is_site is_character is_operation head_line row_lines
    operation_lines laid_out_with
first_form_only = (refl, refl, refl)

pub forward_cases : ForwardCases
unfolding heard own_insert is_digit leading_zero is_numeral value_of digits_in digits closed numerals has_layout values_of line_of identifier_at site_numbers
    site_of is_site site_said site_line toggle_field character_numbers character_of is_character character_said character_line saved_line head_line row_lines
    operation_lines state_as character_within in_range_as bytes_with loaded_as raised present_inserts all_in_range within site_number is_code_point character_id
    previous_id next_id same insert_in_range site_in_range character_in_range origin conversion
forward_cases = (refl, refl, refl, refl)

pub trip-cases : TripCases
unfolding heard own_insert is_digit leading_zero is_numeral value_of digits_in digits closed numerals has_layout values_of line_of identifier_at site_numbers
    site_of is_site site_said site_line toggle_field character_numbers character_of is_character character_said character_line saved_line head_line row_lines
    operation_lines state_as character_within in_range_as bytes_with loaded_as raised present_inserts all_in_range within site_number is_code_point character_id
    previous_id next_id same insert_in_range site_in_range character_in_range origin conversion shares_kept capacity_kept identifiers_distinct toggles_distinct
    neighbours_ordered none_executable clock_kept well_formed ordered clock_reaches decided written_as output_after writing_checks written_number same_toggle
    sender above sequence index_of place_of held has_room executable pending_from toggle_in_range in_range placed insert_of toggle_of delete_of operation_of
    operation_said is_insert is_toggle is_delete as_written as_written_first is_operation laid_out_with operation_within representable conversion_refusals
    conversion_checks converted converted_out toggle_numbers delete_numbers insert_numbers operation_line
trip-cases = (refl, refl, refl, refl, refl, refl, refl, refl, refl, refl)
