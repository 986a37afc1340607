-- Document 02, Req 11: the characters that a call typed, as they lie in an array. From them a caller writes "their
-- insert lines in sequence".
use Rattle.std.specs.Prelude.{ℕ, List, map}
use Rattle.woot.specs.declared.Operation.{Operation}
use Rattle.woot.specs.declared.Character.{Character}
use Rattle.woot.specs.Operations.{character, inserts}
use Rattle.woot.specs.Memory.{insert_columns}

-- the characters that operations bring
abbrev pub characters_by : List Operation → List Character
characters_by os = map character (inserts os)

-- their keys, their neighbours' and their code points, as a document has them: four columns, zeros behind the last
unfoldable pub typed_columns : List Operation → List ℕ
typed_columns os = insert_columns (inserts os)
