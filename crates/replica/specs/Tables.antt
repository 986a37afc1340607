-- Document 02, Req 12: the table of a replica, and the promises about it, each proved in proofs/ under its name in
-- small letters.
use Rattle.std.specs.Prelude.{ℕ, suc, ◌≤◌, ◌≡◌, ◌↔◌, true, cond, List, [], ◌∷◌}
use Rattle.std.proofs.Math.Option.{Option, none, some}
use Rattle.woot.specs.declared.Identifier.{Identifier}
use Rattle.woot.specs.declared.Character.{Character}
use Rattle.woot.specs.declared.Replica.{Replica}
use Rattle.woot.specs.Limits.{last_clock}
use Rattle.woot.specs.Identifiers.{same}
use Rattle.woot.specs.Table.{key, keys, lookup}
use Rattle.woot.specs.Memory.{meaning, stored, table_agrees, replica_well_formed}
use Rattle.woot.specs.Form.{well_formed}
use Rattle.woot.specs.Histories.{Call}
use Rattle.bulk.specs.Beginnings.{Begun, start_of}
use Rattle.replica.specs.Theorems.{called}

-- the index of the character with an identifier, by the replica's table
unfoldable pub looked_up : Replica → Identifier → Option ℕ
looked_up r x = lookup r.document.table (keys (meaning r).characters) (key x)

-- the same by a plain search down the characters
unfoldable pub searched_for : Identifier → List Character → Option ℕ
searched_for x [] = none
searched_for x (c ∷ cs) =
    cond (same x c.id) (some 0) (elim (searched_for x cs) [ none ↦ none | some i ↦ some (suc i) ])

-- "it must be shown to agree with a plain search, found or not": of any identifier there is
abbrev pub Searches : Replica → Type 0
Searches r = (x : Identifier) → x.clock ≤ last_clock → looked_up r x ≡ searched_for x (meaning r).characters

-- the condition that the form gained says just this of a replica whose characters are in form
abbrev pub AgreesExactly : Type 0
AgreesExactly = (r : Replica) → well_formed (meaning r) ≡ true → (table_agrees r ≡ true) ↔ Searches r

-- "after every call on a sheet in form"
abbrev pub CalledSearches : Type 0
CalledSearches = (r : Replica) (c : Call) → replica_well_formed r ≡ true → Searches (called r c)

-- "and in every sheet begun"
abbrev pub BegunSearches : Type 0
BegunSearches = (b : Begun) → Searches (stored (start_of b))
