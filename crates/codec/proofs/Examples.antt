-- The lines that are written out hold by computation, straight from the definitions.
use mathlib.Core.Path.{refl}
use Rattle.woot.specs.Identifiers.{same}
use Rattle.woot.specs.Ranges.{within, site_number, is_code_point, character_id, previous_id, next_id, insert_in_range, toggle_in_range, in_range}
use Rattle.answers.specs.Answers.{decided}
use Rattle.decimal.specs.Numeral.{is_digit, leading_zero, is_numeral, value_of, digits_in, digits}
use Rattle.lines.specs.Lines.{ended, first_line}
use Rattle.lines.specs.Fields.{numerals, has_layout, values_of, line_of}
use Rattle.codec.specs.Operations.{insert_numbers, toggle_numbers, identifier_at, insert_of, toggle_of, delete_of, is_insert, is_toggle, is_delete, operation_of, operation_line}
use Rattle.codec.specs.Calls.{as_written, line_laid_out, laid_out, read_checks, read_as, said_by, read_operation}
use Rattle.codec.specs.Theorems.{LinesExample, LongestDelete}

pub lines-example : LinesExample
unfolding same within site_number is_code_point character_id previous_id next_id insert_in_range toggle_in_range in_range decided is_digit leading_zero is_numeral value_of digits_in digits ended first_line numerals has_layout values_of line_of insert_numbers toggle_numbers identifier_at insert_of toggle_of delete_of is_insert is_toggle is_delete operation_of operation_line as_written line_laid_out laid_out read_checks read_as said_by read_operation
lines-example = (refl, refl, refl, refl, refl)

pub longest_delete : LongestDelete
unfolding same within site_number character_id toggle_in_range in_range decided is_digit leading_zero is_numeral value_of ended first_line numerals has_layout values_of identifier_at delete_of is_insert is_toggle is_delete operation_of as_written line_laid_out laid_out read_checks read_as said_by read_operation
longest_delete = (refl, refl)
