-- The promises about the table, each proved in proofs/ under its name in small letters.
use Rattle.std.specs.Prelude.{ℕ, ◌+◌, ◌≤◌, ◌<◌, ◌≡◌, true, List, eqb, length, get_or}
use Rattle.lists.specs.Lists.{distinct}
use Rattle.woot.specs.declared.Table.{Table}
use Rattle.woot.specs.Table.{chain_of, walk, lookup, searched, agrees, table_of}
use Rattle.index.specs.Entries.{entries}

-- "it must be shown to agree with a plain search, found or not": where each key is found at its own index, the lookup
-- of any key, held or not, gives what a plain search gives
abbrev pub LookupIsSearch : Type 0
LookupIsSearch = (t : Table) (ks : List ℕ) → agrees t ks ≡ true → (k : ℕ) → lookup t ks k ≡ searched k ks

-- and no key stands twice
abbrev pub AgreeingApart : Type 0
AgreeingApart = (t : Table) (ks : List ℕ) → agrees t ks ≡ true → distinct eqb ks ≡ true

-- the table of keys that are distinct, and no more than it has places, agrees with them
abbrev pub TableAgrees : Type 0
TableAgrees = (ks : List ℕ) → distinct eqb ks ≡ true → length ks ≤ 1024 → agrees (table_of ks) ks ≡ true

-- and a walk in it is short, whatever chains the keys share: where they have 24 bits, as keys of identifiers do, 25
-- steps find what the whole walk finds
abbrev pub WalksShort : Type 0
WalksShort = (ks : List ℕ) → ((i : ℕ) → i < length ks → get_or ks i 0 < 16777216) → length ks ≤ 1024
    → (k : ℕ) → k < 16777216 → walk 25 (table_of ks).links ks k k 0 (get_or (table_of ks).heads (chain_of k) 0)
    ≡ lookup (table_of ks) ks k

-- a table that agrees with its keys, and has as many entries as there are keys, is the table of them: each key has its
-- own entry, so that there is no other
abbrev pub TableKnown : Type 0
TableKnown = (t : Table) (ks : List ℕ) → length t.heads ≡ 1024 → length t.links ≡ 2048 → length ks ≤ 1024
    → agrees t ks ≡ true → entries t.heads + entries t.links ≡ length ks → t ≡ table_of ks
