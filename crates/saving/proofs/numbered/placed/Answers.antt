-- `saving::numbered::placed` meets its contract: the numbers are written as the definition is.
use mathlib.Core.Path.{refl}
use Rattle.saved.specs.Format.{character_numbers, toggle_field}
use Rattle.saved.specs.Archive.{placed_line, placed_numbers}
use Rattle.woot.specs.Memory.{identifier, character_of}
use Rattle.saving.specs.Documents.{line_bytes}
use borrow.Author.Rules.{rules}
use native.Mathlib.Omega.{arith}
use Rattle.saving.proofs.numbered.placed.Goals as goal

pub returns : goal.returns
unfolding line_bytes placed_line placed_numbers character_numbers toggle_field character_of identifier
returns c =
    record {
      result_value = refl;
      count_bound = omega arith;
    }
