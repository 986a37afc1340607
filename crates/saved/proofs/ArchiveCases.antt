-- The bytes by computation, straight from the definitions, all of which are opened once.
use mathlib.Core.Path.{refl}
use Rattle.woot.specs.Ranges.{within, site_number, is_code_point, character_id, previous_id, next_id, insert_in_range, site_in_range, character_in_range}
use Rattle.woot.specs.Ranges.{toggle_in_range, in_range}
use Rattle.woot.specs.Identifiers.{same, below}
use Rattle.woot.specs.Operations.{origin, same_toggle, sender}
use Rattle.woot.specs.Clock.{own_insert, heard}
use Rattle.woot.specs.Form.{all_in_range, present_inserts, raised, shares_kept, capacity_kept, identifiers_distinct, toggles_distinct, neighbours_ordered}
use Rattle.woot.specs.Form.{none_executable, clock_kept, well_formed, ordered, clock_reaches}
use Rattle.decimal.specs.Numeral.{is_digit, leading_zero, is_numeral, value_of, digits_in, digits}
use Rattle.lines.specs.Lines.{closed}
use Rattle.lines.specs.Fields.{numerals, has_layout, values_of, line_of}
use Rattle.codec.specs.Operations.{insert_numbers, toggle_numbers, identifier_at, is_insert, is_toggle, is_delete, operation_line, insert_of, toggle_of}
use Rattle.codec.specs.Operations.{delete_of, operation_of}
use Rattle.codec.specs.Calls.{as_written}
use Rattle.saved.specs.Format.{site_numbers, site_of, is_site, site_said, site_line, toggle_field, character_numbers, character_of, is_character}
use Rattle.saved.specs.Format.{character_said, character_line, is_operation, saved_line, head_line, row_lines, operation_lines, state_as}
use Rattle.saved.specs.Format.{character_within, in_range_as, operation_said, laid_out_with, bytes_with}
use Rattle.woot.specs.Placing.{sequence, index_of, place_of, held, above}
use Rattle.woot.specs.Pending.{executable, pending_from}
use Rattle.answers.specs.Answers.{decided}
use Rattle.woot.specs.Writing.{written_as, output_after, writing_checks, written_number, written_length}
use Rattle.output.specs.Output.{has_room, placed}
use Rattle.bulk.specs.Archiving.{by_identifier, archived, archive_of, by_place, unarchived, state_from, place_in_range, archive_in_range, each_once}
use Rattle.bulk.specs.Archiving.{places_kept, identifiers_rise, arranged, archive_checks, unarchive_checks}
use Rattle.saved.specs.Calls.{loaded_as}
use Rattle.saved.specs.Archive.{placed_numbers, placed_of, is_placed, placed_said, placed_line, archive_said, archiving, archiving_refusals}
use Rattle.saved.specs.Archive.{archiving_checks, archive_written, archive_out, unarchiving, unarchiving_refusals, unarchiving_checks}
use Rattle.saved.specs.Archive.{unarchive_written, unarchive_out}
use Rattle.saved.specs.ArchiveCases.{ArchiveExample, ArchiveTrips, PlacesSpelt, ArchiveLayouts, ArchivedReplies, ArchiveFirsts}

pub archive-example : ArchiveExample
unfolding digits_in digits line_of insert_numbers toggle_numbers operation_line site_numbers site_line toggle_field character_numbers saved_line bytes_with below
    by_identifier archived archive_of placed_numbers placed_line
archive-example = refl

all : ArchiveTrips × PlacesSpelt × ArchiveLayouts × ArchivedReplies × ArchiveFirsts
unfolding loaded_as heard own_insert is_digit leading_zero is_numeral value_of digits_in digits closed numerals has_layout values_of line_of identifier_at
    site_numbers site_of is_site site_said site_line toggle_field character_numbers character_of is_character character_said character_line saved_line head_line
    row_lines operation_lines state_as character_within in_range_as bytes_with raised present_inserts all_in_range within site_number is_code_point character_id
    previous_id next_id same insert_in_range site_in_range character_in_range origin shares_kept capacity_kept identifiers_distinct toggles_distinct
    neighbours_ordered none_executable clock_kept well_formed ordered clock_reaches decided written_as output_after writing_checks written_number same_toggle
    sender above sequence index_of place_of held has_room executable pending_from toggle_in_range in_range placed insert_of toggle_of operation_of operation_said
    is_insert is_toggle as_written is_operation laid_out_with toggle_numbers insert_numbers operation_line below by_identifier archived archive_of by_place
    unarchived state_from place_in_range archive_in_range each_once places_kept identifiers_rise arranged archive_checks unarchive_checks placed_numbers placed_of
    is_placed placed_said placed_line archive_said archiving archiving_refusals archiving_checks archive_written archive_out unarchiving unarchiving_refusals
    unarchiving_checks unarchive_written unarchive_out written_length is_delete delete_of
all = ((refl, refl, refl, refl, refl, refl, refl, refl, refl, refl), refl, refl, (refl, refl, refl, refl), refl)

pub archive_trips : ArchiveTrips
archive_trips = all.0

pub places-spelt : PlacesSpelt
places-spelt = all.1

pub archive_layouts : ArchiveLayouts
archive_layouts = all.2

pub archived-replies : ArchivedReplies
archived-replies = all.3

pub archive_firsts : ArchiveFirsts
archive_firsts = all.4
