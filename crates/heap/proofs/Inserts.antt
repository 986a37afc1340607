-- The inserts that an array holds, slot by slot: the slot of an insert has its numbers, and these say it again.
use Prim.Native.Nat.{ℕ, ◌+◌, ◌<◌}
use mathlib.Core.Path.{◌≡◌, sym, ap, ◌∙◌}
use mathlib.Core.Bool.{true}
use mathlib.Core.List.{List, map}
use lib.ListN.{length, take, get_or}
use lib.Seq.{get_or-take}
use Rattle.lists.specs.Lists.{every}
use Rattle.lists.proofs.Indices.{map_get_d}
use Rattle.lists.proofs.Members.{get_member, every_member}
use Rattle.woot.specs.declared.Insert.{Insert}
use Rattle.woot.specs.declared.Operation.TheVariants.{Insert as insert}
use Rattle.woot.specs.Operations.{origin}
use Rattle.woot.specs.Ranges.{insert_in_range, in_range}
use Rattle.woot.specs.Table.{key}
use Rattle.woot.specs.Memory.{column, character_of}
use Rattle.memory.proofs.Views.{column-at}
use Rattle.memory.proofs.Bits.{InsertBits, insert_bits}
use Rattle.memory.proofs.Characters.{identifier-key}
use Rattle.memory.proofs.Operations.{KeyedInsert, range_keyed}
use Rattle.heap.specs.Columns.{InsertsIn, insert_at}
use Rattle.heap.proofs.Columns.{NumbersAt}

-- ---- the numbers in a slot

module _ (xs : List ℕ) (i : ℕ) (h : i < 1024) where
  pub slotted :
      origin (character_of (get_or xs i 0) (get_or xs (1024 + i) 0) (get_or xs (2048 + i) 0) (get_or xs (3072 + i) 0) 0)
      ≡ insert_at xs i
  unfolding insert_at
  slotted = rw (get_or-take 1024 xs i 0 h, column-at 1024 1 xs i h, column-at 1024 2 xs i h, column-at 1024 3 xs i h)

  pub slotted_low : insert_in_range (insert_at xs i) ≡ true
      → InsertBits (get_or xs i 0) (get_or xs (1024 + i) 0) (get_or xs (2048 + i) 0)
  slotted_low e = insert_bits _ _ _ (get_or xs (3072 + i) 0) (rw (← slotted) at e)

-- ---- the insert in a slot

in_column : {A : Type 0} (f : A → ℕ) (cs : List A) (col : List ℕ) → take (length cs) col ≡ map f cs → (i : ℕ) (z : A)
    → i < length cs → get_or col i 0 ≡ f (get_or cs i z)
in_column f cs col e i z h =
    sym (get_or-take (length cs) col i 0 h) ∙ ap (λ (l : List ℕ). get_or l i 0) e ∙ map_get_d f cs i 0 z h

-- what is in range is made of keys
pub keyed : (i : Insert) → insert_in_range i ≡ true → KeyedInsert i
unfolding in_range
keyed i e = range_keyed (insert i) e

module _ {xs : List ℕ} {is : List Insert} (a : InsertsIn xs is) (i : ℕ) (z : Insert) (h : i < length is) where
  pub numbers_at : NumbersAt xs i (get_or is i z)
  numbers_at =
      record {
        id = in_column (λ (k : Insert). key k.id) is (column 1024 0 xs) a.ids i z h;
        previous = in_column (λ (k : Insert). key k.previous) is (column 1024 1 xs) a.previous i z h;
        next = in_column (λ (k : Insert). key k.next) is (column 1024 2 xs) a.next i z h;
        point = in_column (λ (k : Insert). k.code_point) is (column 1024 3 xs) a.points i z h;
      }

  -- the numbers in its slot say the insert
  pub insert-in : every insert_in_range is ≡ true → insert_at xs i ≡ get_or is i z
  unfolding insert_at origin character_of
  insert-in e =
      let g = numbers_at in
      let k = keyed (get_or is i z) (every_member insert_in_range e (get_member is i z h)) in
      rw (g.id, g.previous, g.next, g.point)
      (λ j. record {
        id = identifier-key (get_or is i z).id k.id j;
        code_point = (get_or is i z).code_point;
        previous = identifier-key (get_or is i z).previous k.previous j;
        next = identifier-key (get_or is i z).next k.next j;
      })
