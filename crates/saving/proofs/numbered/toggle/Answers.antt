-- `saving::numbered::toggle` meets its contract, form by form.
use Rattle.saved.specs.Format.{saved_line}
use Rattle.codec.specs.Operations.{operation_line, toggle_numbers, delete_numbers}
use Rattle.woot.specs.Memory.{identifier, operation_of}
use Rattle.saving.specs.Documents.{line_bytes}
use borrow.Author.Rules.{rules}
use native.Mathlib.Omega.{arith}
use Rattle.saving.proofs.numbered.toggle.Goals as goal

pub returns-in-First : goal.returns-in-First
unfolding line_bytes saved_line operation_of delete_numbers identifier
returns-in-First c =
    record {
      result_value = rw c.in-First.is;
      count_bound = omega arith;
    }

pub returns-in-Second : goal.returns-in-Second
unfolding line_bytes saved_line operation_of operation_line toggle_numbers identifier
returns-in-Second c =
    record {
      result_value = rw c.in-Second.is;
      count_bound = omega arith;
    }
