-- Inserts in the slots of an array: the one that is read from a slot, and those that are there after one was moved.
use Prim.Native.Nat.{ℕ, zero, suc, ◌+◌, ◌<◌, ◌≤◌}
use native.Mathlib.Omega.{arith}
use mathlib.Core.Path.{◌≡◌, refl, sym, ap, ◌∙◌}
use mathlib.Core.Bool.{true}
use mathlib.Core.List.{List, [], ◌∷◌, map}
use lib.ListN.{length, take, set, get_or, length-set}
use lib.Seq.{get_or-take, take-set-lt, take-take, length-take-le}
use Rattle.lists.proofs.Indices.{map_get_d, take-map}
use Rattle.woot.specs.declared.Insert.{Insert}
use Rattle.woot.specs.Operations.{origin}
use Rattle.woot.specs.Ranges.{insert_in_range}
use Rattle.woot.specs.Table.{key}
use Rattle.woot.specs.Memory.{character_of, key_column, previous_column, next_column, code_point_column}
use Rattle.memory.proofs.Characters.{identifier-key, key-identifier}
use Rattle.heap.specs.Columns.{InsertsIn, insert_at}
use Rattle.heap.proofs.Inserts.{keyed, numbers_at, slotted}
use Rattle.heap.specs.Keeping.{Moved}

pub map-set : {A B : Type 0} (f : A → B) (l : List A) (i : ℕ) (y : A) → set (map f l) i (f y) ≡ map f (set l i y)
map-set f [] i y = refl
map-set f (x ∷ xs) zero y = refl
map-set {B = B} f (x ∷ xs) (suc i) y = ap (λ (zs : List B). f x ∷ zs) (map-set f xs i y)

-- ---- a column

module _ {A : Type 0} (f : A → ℕ) (ys : List A) (xs : List ℕ) (e : take (length ys) xs ≡ map f ys) where
  pub column-read : (i : ℕ) (d : A) → i < length ys → get_or xs i 0 ≡ f (get_or ys i d)
  column-read i d h = sym (get_or-take (length ys) xs i 0 h) ∙ ap (λ (l : List ℕ). get_or l i 0) e ∙ map_get_d f ys i 0 d h

  pub column-set : (k : ℕ) (y : A) → k < length ys → take (length (set ys k y)) (set xs k (f y)) ≡ map f (set ys k y)
  column-set k y h =
      rw (length-set ys k y)
      (take-set-lt (length ys) xs k (f y) h ∙ ap (λ (l : List ℕ). set l k (f y)) e ∙ map-set f ys k y)

  pub column-front : (k : ℕ) → k ≤ length ys → take (length (take k ys)) xs ≡ map f (take k ys)
  column-front k h =
      rw (length-take-le k ys h)
      (sym (take-take k (length ys) xs h) ∙ ap (take k) e ∙ take-map f k ys)

-- ---- inserts

-- the second number in a slot is the key of the previous
pub previous-read : (xs : List ℕ) (i : ℕ) → i < 1024 → get_or xs (1024 + i) 0 ≡ key (insert_at xs i).previous
unfolding origin character_of
previous-read xs i h = sym (key-identifier (get_or xs (1024 + i) 0)) ∙ ap (λ (x : Insert). key x.previous) (slotted xs i h)

module _ {xs : List ℕ} {is : List Insert} (h : InsertsIn xs is) where
  module _ (i : ℕ) (d : Insert) (low : i < length is) where
    pub insert-read : insert_in_range (get_or is i d) ≡ true → insert_at xs i ≡ get_or is i d
    unfolding insert_at origin character_of
    insert-read r =
        let g = numbers_at h i d low in
        let k = keyed (get_or is i d) r in
        rw (g.id, g.previous, g.next, g.point)
        (λ j.
        record {
          id = identifier-key (get_or is i d).id k.id j;
          code_point = (get_or is i d).code_point;
          previous = identifier-key (get_or is i d).previous k.previous j;
          next = identifier-key (get_or is i d).next k.next j;
        })

    pub inserts-moved : (k : ℕ) → k < length is → {ys : List ℕ} → Moved xs i k ys → InsertsIn ys (set is k (get_or is i d))
    inserts-moved k within m =
        record {
          size = m.size ∙ h.size;
          few = omega (arith, h.few, length-set is k (get_or is i d));
          ids = set_to (λ x. key x.id) (key_column xs) h.ids m.ids;
          previous = set_to (λ x. key x.previous) (previous_column xs) h.previous m.previous;
          next = set_to (λ x. key x.next) (next_column xs) h.next m.next;
          points = set_to (λ x. x.code_point) (code_point_column xs) h.points m.points;
        }
      where
        set_to : (f : Insert → ℕ) (us : List ℕ) {vs : List ℕ} → take (length is) us ≡ map f is → vs ≡ set us k (get_or us i 0)
            → take (length (set is k (get_or is i d))) vs ≡ map f (set is k (get_or is i d))
        set_to f us e g =
            rw (g, column-read f is us e i d low) (column-set f is us e k (get_or is i d) within)

  pub inserts-front : (k : ℕ) → k ≤ length is → InsertsIn xs (take k is)
  inserts-front k low =
      record {
        size = h.size;
        few = omega (arith, h.few, length-take-le k is low);
        ids = column-front (λ x. key x.id) is (key_column xs) h.ids k low;
        previous = column-front (λ x. key x.previous) is (previous_column xs) h.previous k low;
        next = column-front (λ x. key x.next) is (next_column xs) h.next k low;
        points = column-front (λ x. x.code_point) is (code_point_column xs) h.points k low;
      }
