-- `saving::numbered::character` meets its contract: the numbers are written as the definition is.
use Rattle.saved.specs.Format.{character_line, character_numbers}
use Rattle.woot.specs.Memory.{identifier, character_of}
use Rattle.saving.specs.Documents.{line_bytes}
use borrow.Author.Rules.{rules}
use native.Mathlib.Omega.{arith}
use Rattle.saving.proofs.numbered.character.Goals as goal

pub returns : goal.returns
unfolding line_bytes character_line character_numbers character_of identifier
returns c =
    record {
      result_value = rw c.toggle_field-field.ensures;
      count_bound = omega arith;
    }
