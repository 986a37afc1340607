-- The operations that bench/ times and how many of them a replica carries out: inserts of sixteen sites in turn, and
-- then a delete of each character.
use Rattle.std.specs.Prelude.{ℕ, zero, suc, ◌+◌, ◌-◌, ◌/◌, ◌%◌, min, cond, List, [], ◌∷◌, ◌++◌, map, eqb, ltb}
use Rattle.woot.specs.declared.Identifier.{Identifier}
use Rattle.woot.specs.declared.Replica.{Replica}
use Rattle.woot.specs.declared.Operation.{Operation}
use Rattle.woot.specs.declared.Operation.TheVariants.{Insert, Toggle}
use Rattle.answers.specs.declared.Answer.{Answer}
use Rattle.answers.specs.declared.Answer.TheVariants.{Done, Deferred, Duplicate, Refused}
use Rattle.woot.specs.Identifiers.{begin, end}
use Rattle.woot.specs.State.{initial}
use Rattle.woot.specs.Memory.{character_slots, stored}
use Rattle.woot.specs.Replicas.{received}

-- ---- the operations

-- the identifier of the k-th character, from 0
unfoldable pub identifier_of : ℕ → Identifier
identifier_of k = record { site = k % 16 + 1; clock = k / 16 + 1 }

-- what the k-th character stands after: the one before it, and each fourth the begin mark
unfoldable pub previous_of : ℕ → Identifier
previous_of k = cond (eqb (k % 4) 0) begin (identifier_of (k - 1))

unfoldable pub insert_of : ℕ → Operation
insert_of k =
    Insert (record { id = identifier_of k; code_point = 97 + k % 26; previous = previous_of k; next = end })

-- the first toggle of the k-th character, from the site that typed it
unfoldable pub delete_of : ℕ → Operation
delete_of k = Toggle (record { sender = k % 16 + 1; target = identifier_of k; toggles = 1 })

-- the k-th operation on n characters, from 0: their inserts, and then their deletes
unfoldable pub operation_of : ℕ → ℕ → Operation
operation_of n k = cond (ltb k n) (insert_of k) (delete_of (k - n))

-- the numbers below n, in order
unfoldable pub numbers_below : ℕ → List ℕ
numbers_below zero = []
numbers_below (suc n) = numbers_below n ++ n ∷ []

-- n inserts, and then the deletes of the same characters
unfoldable pub operations_of : ℕ → List Operation
operations_of n = map insert_of (numbers_below n) ++ map delete_of (numbers_below n)

-- ---- how many are carried out

-- 1 for an operation that is carried out as it is received
unfoldable pub one_if_done : Answer → ℕ
one_if_done (Done n m) = 1
one_if_done Deferred = 0
one_if_done Duplicate = 0
one_if_done (Refused r) = 0

-- a replica, and how many of the operations that it received were carried out
pub record Tally : Type 0 where
  pub replica : Replica
  pub count : ℕ

-- one operation more
unfoldable pub tallied : Tally → Operation → Tally
tallied t o =
    record {
      replica = (received t.replica o).replica;
      count = t.count + one_if_done (received t.replica o).answer;
    }

-- several more, one after another
unfoldable pub tallied_all : Tally → List Operation → Tally
tallied_all t [] = t
tallied_all t (o ∷ os) = tallied_all (tallied t o) os

-- an empty replica of site 16, on which nothing was carried out
unfoldable pub none_tallied : Tally
none_tallied = record { replica = stored (initial 16); count = 0 }

-- how many of the operations on the first `rows` characters, or on all that there are slots for, are carried out
unfoldable pub carried_out : ℕ → ℕ
carried_out rows = (tallied_all none_tallied (operations_of (min rows character_slots))).count
