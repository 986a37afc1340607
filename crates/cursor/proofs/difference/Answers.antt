-- `cursor::difference` meets its contract: both counts are small.
use borrow.Author.Rules.{rules}
use Rattle.cursor.proofs.Signed.{minus-fits, minus-read}
use Rattle.cursor.proofs.difference.Goals as goal

pub overflow_sub-result : goal.overflow_sub-result
overflow_sub-result c = minus-fits _ _ c.requires.after_le_character_slots c.requires.before_le_character_slots

pub returns : goal.returns
returns c = minus-read _ _ c.requires.after_le_character_slots c.requires.before_le_character_slots
