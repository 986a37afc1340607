-- The replicas and archives by computation, straight from the definitions.
use mathlib.Core.Path.{refl}
use Rattle.utf8.specs.CodePoints.{within, is_code_point}
use Rattle.woot.specs.Identifiers.{same, below}
use Rattle.woot.specs.Operations.{sender, character, origin, with_toggles, same_toggle}
use Rattle.woot.specs.Ranges.{site_number, character_id, previous_id, next_id, site_in_range, insert_in_range, toggle_in_range, in_range, character_in_range}
use Rattle.woot.specs.Placing.{sequence, index_of, place_of, held, above}
use Rattle.woot.specs.Pending.{executable, pending_from}
use Rattle.woot.specs.Form.{present_inserts, all_in_range, shares_kept, capacity_kept, identifiers_distinct, toggles_distinct, ordered}
use Rattle.woot.specs.Form.{neighbours_ordered, none_executable, clock_reaches, clock_kept, well_formed, raised}
use Rattle.woot.specs.Clock.{own_insert, heard}
use Rattle.bulk.specs.Archiving.{by_identifier, archived, archive_of, by_place, unarchived, state_from, place_in_range, archive_in_range, each_once}
use Rattle.bulk.specs.Archiving.{places_kept, identifiers_rise, arranged, archive_checks, unarchive_checks}
use Rattle.bulk.specs.ArchiveCases.{ArchiveTells, PlacesTell, IdentifiersTell, UnarchiveTells, ArchiveRefusesTells, ArchiveOrder, RangesTell}
use Rattle.bulk.specs.ArchiveCases.{WaitingTells, WaitingClockTells}

pub archive_tells : ArchiveTells
unfolding within below character with_toggles by_identifier archived archive_of by_place unarchived each_once places_kept identifiers_rise arranged
archive_tells = (refl, refl, refl, refl)

pub places_tell : PlacesTell
unfolding within below character by_identifier each_once places_kept identifiers_rise arranged
places_tell = refl

pub identifiers_tell : IdentifiersTell
unfolding within below character by_identifier each_once places_kept identifiers_rise arranged
identifiers_tell = refl

-- those that ask for the form, whose definitions are opened once
formed_tell : UnarchiveTells × ArchiveRefusesTells × RangesTell × WaitingClockTells
unfolding within is_code_point same below sender character origin with_toggles same_toggle site_number character_id previous_id next_id site_in_range
    insert_in_range toggle_in_range in_range character_in_range sequence index_of place_of held above executable pending_from present_inserts all_in_range
    shares_kept capacity_kept identifiers_distinct toggles_distinct ordered neighbours_ordered none_executable clock_reaches clock_kept well_formed raised
    own_insert heard by_identifier by_place unarchived state_from place_in_range archive_in_range each_once places_kept identifiers_rise arranged unarchive_checks
    archive_checks
formed_tell = (refl, refl, refl, (refl, refl))

pub unarchive_tells : UnarchiveTells
unarchive_tells = formed_tell.0

pub archive_refuses_tells : ArchiveRefusesTells
archive_refuses_tells = formed_tell.1

pub ranges_tell : RangesTell
ranges_tell = formed_tell.2

pub waiting_clock_tells : WaitingClockTells
waiting_clock_tells = formed_tell.3

pub archive_order : ArchiveOrder
unfolding archive_checks unarchive_checks
archive_order b s a = (refl, refl, refl)

pub waiting_tells : WaitingTells
unfolding archived archive_of by_place unarchived state_from
waiting_tells = (refl, refl)
