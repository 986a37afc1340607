-- `saving::numbered::insert` meets its contract: an insert's line is the same in both forms.
use borrow.Author.Tests.{ne_eqb}
use Rattle.codec.specs.Operations.{operation_line, insert_numbers}
use Rattle.woot.specs.Memory.{identifier, operation_of}
use Rattle.saving.specs.Documents.{line_bytes}
use Rattle.saving.proofs.Documents.{insert-either}
use borrow.Author.Rules.{rules}
use native.Mathlib.Omega.{arith}
use Rattle.saving.proofs.numbered.insert.Goals as goal

pub returns : goal.returns
unfolding line_bytes operation_of operation_line insert_numbers identifier
returns c =
    record {
      result_value = λ v. rw (ne_eqb _ 0 c.requires) (insert-either v _);
      count_bound = omega arith;
    }
