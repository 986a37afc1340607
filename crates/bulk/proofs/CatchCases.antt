-- The lists and answers by computation, straight from the definitions.
use mathlib.Core.Path.{refl}
use lib.Count.{ones}
use Rattle.utf8.specs.CodePoints.{within}
use Rattle.woot.specs.Identifiers.{same, below}
use Rattle.woot.specs.Operations.{character, origin, with_toggles}
use Rattle.woot.specs.Ranges.{site_number}
use Rattle.bulk.specs.Loading.{among, free, turnings}
use Rattle.bulk.specs.Catching.{bit_of, speaks_of, marks, listed_in, ones_in, precedes, in_sequence, chunk_of}
use Rattle.bulk.specs.Catching.{also_marking, with_marked, chunks_of, listing}
use Rattle.bulk.specs.Catching.{lowest, lowest_of, next_sent, without, sequenced, unlisted, sent, operations_for}
use Rattle.bulk.specs.Catching.{answer_for}
use Rattle.bulk.specs.Catching.{chunk_in_range, listing_in_range, marks_zero, mislisted, list_checks, answer_checks}
use Rattle.bulk.specs.CatchCases.{list_cases, answering_cases, judge_cases, WordsTell, MarksTell, ListTells}
use Rattle.bulk.specs.CatchCases.{AnswerTells, JudgeTells, WordRangeTells, AnswerOrder}

pub words_tell : WordsTell
unfolding bit_of speaks_of marks precedes chunk_of also_marking with_marked chunks_of
words_tell = (refl, refl)

pub marks_tell : MarksTell
unfolding bit_of speaks_of marks listed_in
marks_tell = refl

pub list_tells : ListTells
unfolding list_cases ones character with_toggles bit_of speaks_of marks ones_in precedes chunk_of also_marking with_marked chunks_of listing
list_tells = refl

pub answer_tells : AnswerTells
unfolding answering_cases same below character origin with_toggles among free turnings bit_of speaks_of marks listed_in precedes chunk_of also_marking with_marked chunks_of lowest lowest_of next_sent without sequenced unlisted sent operations_for answer_for
answer_tells = refl

pub judge_tells : JudgeTells
unfolding judge_cases within site_number ones bit_of ones_in precedes in_sequence chunk_in_range listing_in_range marks_zero mislisted
judge_tells = refl

pub word-range_tells : WordRangeTells
unfolding within site_number chunk_in_range listing_in_range
word-range_tells = (refl, refl, refl)

pub answer-order : AnswerOrder
unfolding list_checks answer_checks
answer-order formed l = (refl, refl, refl)
