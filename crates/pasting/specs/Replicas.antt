-- Document 02, Req 11: pasting on replicas as they lie in memory: the rule applied to their meaning, and the struct
-- that comes back.
use Rattle.std.specs.Prelude.{ℕ, List, [], ◌∷◌, length}
use Rattle.woot.specs.declared.Operation.{Operation}
use Rattle.woot.specs.declared.Replica.{Replica}
use Rattle.woot.specs.State.{State}
use Rattle.woot.specs.Memory.{meaning, stored, replica_well_formed}
use Rattle.bulk.specs.Pasting.{PasteOutcome, paste_when}
use Rattle.typing.specs.Columns.{typed_columns}
use Rattle.pasting.specs.declared.Pasted.{Pasted}
use Rattle.pasting.specs.declared.PastedInto.{PastedInto}

-- the very replica that was passed where nothing is typed, "all or none" or an empty block, else the new state as it is
-- stored
unfoldable pub after_typing : Replica → State → List Operation → Replica
after_typing r s [] = r
after_typing r s (o ∷ os) = stored s

-- what is returned: the answer, the replica as it is then, and the characters that were typed
unfoldable pub pasted_with : Replica → PasteOutcome → Pasted
pasted_with r w =
    record {
      answer = w.answer;
      replica = after_typing r w.state w.own;
      typed = typed_columns w.own;
      count = length w.own;
    }

-- pasting the bytes of a block at gap g on a replica
unfoldable pub pasted_by : Replica → ℕ → List ℕ → Pasted
pasted_by r g block = pasted_with r (paste_when (replica_well_formed r) (meaning r) g block)

-- what is returned and what lies in an array of the caller's, together
abbrev pub pasted_as : PastedInto → List ℕ → Pasted
pasted_as x typed = record { answer = x.answer; replica = x.replica; typed = typed; count = x.count }
