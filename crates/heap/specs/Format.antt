-- Document 02, Req 08: a heap as bytes. Its lines are those of operations, "in no useful order".
use Rattle.std.specs.Prelude.{ℕ, List, map, Bool, ◌&&◌}
use Rattle.lists.specs.Lists.{every}
use Rattle.woot.specs.declared.Operation.{Operation}
use Rattle.lines.specs.Lines.{lines, closed}
use Rattle.lines.specs.Fields.{fields}
use Rattle.codec.specs.Operations.{operation_of}
use Rattle.codec.specs.Calls.{line_laid_out}

-- what condition 1 lets pass: every line is an `I`, an `E` or, as Req 05 has it, a `D`, and a line feed ends each. No
-- bytes at all are a heap of nothing
unfoldable pub heap_laid_out : List ℕ → Bool
heap_laid_out s = closed s && every line_laid_out (lines s)

-- the operation that a line says, whatever numbers it has; "a `D` line is read as turn 1"
unfoldable pub line_said : List ℕ → Operation
line_said line = operation_of (fields line)

-- those that the lines say, in their order
unfoldable pub heap_said : List ℕ → List Operation
heap_said s = map line_said (lines s)
