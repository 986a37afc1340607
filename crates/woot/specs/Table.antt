-- The table by which a character is found through its identifier, on keys, which are identifiers as numbers. (Document
-- 02, Req 12: "a table through which receiving finds a row by identifier".)
use Rattle.std.specs.Prelude.{ℕ, zero, suc, ◌+◌, ◌-◌, ◌*◌, ◌/◌, ◌%◌, Bool, false, ◌&&◌, cond, List, [], ◌∷◌, map, eqb, leb, ltb, length, get_or, set, replicate}
use Rattle.std.proofs.Math.Option.{Option, none, some}
use Rattle.lists.specs.Lists.{throughout}
use Rattle.woot.specs.declared.Identifier.{Identifier}
use Rattle.woot.specs.declared.Character.{Character}
use Rattle.woot.specs.declared.Table.{Table}

-- ---- keys

-- an identifier as a number, the site above the clock's 16 bits: the marks are 0 and 1, and numbers are ordered as
-- their identifiers are
unfoldable pub key : Identifier → ℕ
key x = x.site * 65536 + x.clock

abbrev pub keys : List Character → List ℕ
keys cs = map (λ c. key c.id) cs

-- ---- looking up

-- how many chains there are, and how many links
abbrev pub chains : ℕ
chains = 1024

abbrev pub table_links : ℕ
table_links = 2048

-- the chain of a key: a product with about 2^32 times the golden ratio's fraction spreads keys that follow each other
unfoldable pub chain_of : ℕ → ℕ
chain_of k = k * 2654435769 / 4194304 % chains

-- a place is one more than an index, and 0 stands above them all. Each place has two links, and the bits of a key, the
-- lowest first, choose among them on its way down the chain: the slot of the link is that of the next bit
abbrev pub slot : ℕ → ℕ → ℕ
slot at rest = 2 * (at - 1) + rest % 2

-- whether a link leads on from one place to another: only to a later one of the n in use, so that every walk ends
abbrev pub leads : ℕ → ℕ → ℕ → Bool
leads n at next = ltb at next && leb next n

-- the walk down a chain, n steps at most, by the link from a place to the next: where it comes to k. A place is
-- believed only where k stands at it
unfoldable pub walk : ℕ → List ℕ → List ℕ → ℕ → ℕ → ℕ → ℕ → Option ℕ
walk zero links ks k rest at next = none
walk (suc n) links ks k rest at next =
    cond (leads (length ks) at next)
    (cond (eqb (get_or ks (next - 1) 0) k) (some (next - 1))
    (walk n links ks k (rest / 2) next (get_or links (slot next rest) 0)))
    none

-- the index of k among the keys, by the table: the walk from the head of its chain
unfoldable pub lookup : Table → List ℕ → ℕ → Option ℕ
lookup t ks k = walk (length ks) t.links ks k k 0 (get_or t.heads (chain_of k) 0)

-- the index of k among the keys, by a plain search
unfoldable pub searched : ℕ → List ℕ → Option ℕ
searched k [] = none
searched k (x ∷ ks) = cond (eqb k x) (some 0) (elim (searched k ks) [ none ↦ none | some i ↦ some (suc i) ])

-- ---- agreeing

-- the index is i
unfoldable pub is_at : ℕ → Option ℕ → Bool
is_at i none = false
is_at i (some j) = eqb j i

-- the key at the index i is found there
abbrev pub found_at : Table → List ℕ → ℕ → Bool
found_at t ks i = is_at i (lookup t ks (get_or ks i 0))

-- each key is found at its own index
unfoldable pub agrees : Table → List ℕ → Bool
agrees t ks = throughout (found_at t ks) (length ks)

-- ---- the table of a list of keys

-- with no key in it
unfoldable pub no_table : Table
no_table = record { heads = replicate chains 0; links = replicate table_links 0 }

-- where the way of a key ends among n places, m steps at most from one of them: the first slot whose link leads nowhere
unfoldable pub free_slot : ℕ → List ℕ → ℕ → ℕ → ℕ → ℕ
free_slot zero links n rest at = slot at rest
free_slot (suc m) links n rest at =
    cond (leads n at (get_or links (slot at rest) 0)) (free_slot m links n (rest / 2) (get_or links (slot at rest) 0))
    (slot at rest)

-- with the key k entered, whose index is i: it becomes the head of its chain where there is none, and is linked where
-- its way down the chain ends. No other link changes, so what was found is found
unfoldable pub entered : Table → ℕ → ℕ → Table
entered t i k =
    cond (leads i 0 (get_or t.heads (chain_of k) 0))
    (record {
      heads = t.heads;
      links = set t.links (free_slot i t.links i k (get_or t.heads (chain_of k) 0)) (suc i);
    })
    (record { heads = set t.heads (chain_of k) (suc i); links = t.links })

-- with keys entered one after another, the first of which has the index i
unfoldable pub entered_all : Table → ℕ → List ℕ → Table
entered_all t i [] = t
entered_all t i (k ∷ ks) = entered_all (entered t i k) (suc i) ks

unfoldable pub table_of : List ℕ → Table
table_of ks = entered_all no_table 0 ks
