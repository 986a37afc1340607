-- A store in an array of columns changes one slot of one column, and four of them behind the inserts that are held are
-- one insert more.
use Prim.Native.Nat.{ℕ, suc, ◌+◌, ◌-◌, ◌*◌, ◌≤◌, ◌<◌}
use native.Mathlib.Omega.{arith}
use native.Mathlib.Numerals.{add-one}
use mathlib.Core.Path.{◌≡◌, sym, ap, ◌∙◌}
use mathlib.Core.List.{List, [], ◌∷◌, ◌++◌, map, map-append}
use lib.ListN.{length, take, drop, get_or, set, length-append, length-set}
use lib.Seq.{take_all, take-append-le, take-set-lt, take-set-le, drop-set-lt, drop-set-add, take-suc-set}
use Rattle.woot.specs.declared.Insert.{Insert}
use Rattle.woot.specs.declared.Toggle.{Toggle}
use Rattle.woot.specs.declared.Operation.TheVariants.{Toggle as toggle}
use Rattle.woot.specs.Table.{key}
use Rattle.woot.specs.Memory.{character_slots, column, value_of}
use Rattle.memory.proofs.Fullness.{column-length}
use Rattle.heap.specs.Columns.{InsertsIn, TogglesIn}
use Rattle.heap.specs.Keeping.{PutAt}

-- ---- a store

module _ (m j : ℕ) (xs : List ℕ) where
  set_here : (i v : ℕ) → i < m → column m j (set xs (j * m + i) v) ≡ set (column m j xs) i v
  set_here i v h = ap (take m) (drop-set-add (j * m) xs i v) ∙ take-set-lt m (drop (j * m) xs) i v h

  set-above : (p v : ℕ) → p < j * m → column m j (set xs p v) ≡ column m j xs
  set-above p v h = ap (take m) (drop-set-lt (j * m) xs p v h)

  set_below : (p v : ℕ) → j * m + m ≤ p → column m j (set xs p v) ≡ column m j xs
  set_below p v h =
      let further : p ≡ j * m + (p - j * m) = omega arith in
      ap (λ (q : ℕ). take m (drop (j * m) (set xs q v))) further
      ∙ ap (take m) (drop-set-add (j * m) xs (p - j * m) v)
      ∙ take-set-le m (drop (j * m) xs) (p - j * m) v (omega arith)

set_first : (xs : List ℕ) (i v : ℕ) → i < 1024 → column 1024 0 (set xs i v) ≡ set (column 1024 0 xs) i v
set_first xs i v h = take-set-lt 1024 xs i v h

-- the stores of `put_at`
module _ (xs : List ℕ) (i w x y z : ℕ) (h : i < 1024) where
  abbrev once : List ℕ
  once = set xs i w

  abbrev twice : List ℕ
  twice = set once (1024 + i) x

  abbrev thrice : List ℕ
  thrice = set twice (2048 + i) y

  pub put-at : PutAt xs i w x y z (set thrice (3072 + i) z)
  put-at =
      record {
        size =
            length-set thrice (3072 + i) z ∙ length-set twice (2048 + i) y ∙ length-set once (1024 + i) x
            ∙ length-set xs i w;
        ids =
            set_below 1024 0 thrice (3072 + i) z (omega arith) ∙ set_below 1024 0 twice (2048 + i) y (omega arith)
            ∙ set_below 1024 0 once (1024 + i) x (omega arith)
            ∙ set_first xs i w h;
        previous =
            set_below 1024 1 thrice (3072 + i) z (omega arith) ∙ set_below 1024 1 twice (2048 + i) y (omega arith)
            ∙ set_here 1024 1 once i x h
            ∙ ap (λ (l : List ℕ). set l i x) (set-above 1024 1 xs i w (omega arith));
        next =
            set_below 1024 2 thrice (3072 + i) z (omega arith) ∙ set_here 1024 2 twice i y h
            ∙ ap (λ (l : List ℕ). set l i y)
            (set-above 1024 2 once (1024 + i) x (omega arith) ∙ set-above 1024 2 xs i w (omega arith));
        points =
            set_here 1024 3 thrice i z h
            ∙ ap (λ (l : List ℕ). set l i z)
            (set-above 1024 3 twice (2048 + i) y (omega arith) ∙ set-above 1024 3 once (1024 + i) x (omega arith)
            ∙ set-above 1024 3 xs i w (omega arith));
      }

-- ---- one element more

-- in a column
pushed : {A : Type 0} (f : A → ℕ) (cs : List A) (c : A) (n v : ℕ) (col : List ℕ) {new : List ℕ} → n ≡ length cs
    → n < length col → v ≡ f c → take (length cs) col ≡ map f cs → new ≡ set col n v
    → take (length (cs ++ c ∷ [])) new ≡ map f (cs ++ c ∷ [])
pushed f cs c n v col e h g m s =
    let more : length (cs ++ c ∷ []) ≡ suc n = length-append cs (c ∷ []) ∙ add-one (length cs) ∙ ap suc (sym e) in
    rw (more, s, map-append f cs (c ∷ []), ← m, ← e, ← g) (take-suc-set col n v h)

-- the numbers of an insert
pub record Numbers (i : Insert) (w x y z : ℕ) : Type 0 where
  pub id : w ≡ key i.id
  pub previous : x ≡ key i.previous
  pub next : y ≡ key i.next
  pub point : z ≡ i.code_point

-- those in a slot of an array
abbrev pub NumbersAt : List ℕ → ℕ → Insert → Type 0
NumbersAt xs i x =
    Numbers x (get_or (column 1024 0 xs) i 0) (get_or (column 1024 1 xs) i 0) (get_or (column 1024 2 xs) i 0)
    (get_or (column 1024 3 xs) i 0)

module _ {xs ys : List ℕ} {is : List Insert} (i : Insert) (n : ℕ) {w x y z : ℕ} where
  pub insert_pushed : InsertsIn xs is → n ≡ length is → n < 1024 → Numbers i w x y z → PutAt xs n w x y z ys
      → InsertsIn ys (is ++ i ∷ [])
  insert_pushed a e h g p =
      let few : (j : ℕ) → j < 4 → n < length (column 1024 j xs) =
      λ j k. omega (arith, h, column-length 1024 j xs (omega (arith, a.size))) in
      let more : (f : Insert → ℕ) (j v : ℕ) → j < 4 → v ≡ f i → take (length is) (column 1024 j xs) ≡ map f is
      → column 1024 j ys ≡ set (column 1024 j xs) n v
      → take (length (is ++ i ∷ [])) (column 1024 j ys) ≡ map f (is ++ i ∷ []) =
      λ f j v k. pushed f is i n v (column 1024 j xs) e (few j k) in
      record {
        size = p.size ∙ a.size;
        few = omega (arith, h, e, length-append is (i ∷ []));
        ids = more (λ k. key k.id) 0 w (omega arith) g.id a.ids p.ids;
        previous = more (λ k. key k.previous) 1 x (omega arith) g.previous a.previous p.previous;
        next = more (λ k. key k.next) 2 y (omega arith) g.next a.next p.next;
        points = more (λ k. k.code_point) 3 z (omega arith) g.point a.points p.points;
      }

-- ---- as far as there are slots

module _ {A : Type 0} (cs : List A) (c : A) (n : ℕ) (e : n ≡ length cs) where
  pub no_slot : 1024 ≤ n → take character_slots (cs ++ c ∷ []) ≡ take character_slots cs
  no_slot h = take-append-le 1024 cs (c ∷ []) (omega (arith, e))

  pub all_slots : n < 1024 → take character_slots cs ≡ cs
  all_slots h = take_all 1024 cs (omega (arith, e))

  pub one-slot : n < 1024 → take character_slots (cs ++ c ∷ []) ≡ cs ++ c ∷ []
  one-slot h = take_all 1024 (cs ++ c ∷ []) (omega (arith, e, length-append cs (c ∷ [])))

module _ (is : List Insert) (i : Insert) (n : ℕ) where
  pub insert-full : {xs : List ℕ} → InsertsIn xs (take character_slots is) → n ≡ length is → 1024 ≤ n
      → InsertsIn xs (take character_slots (is ++ i ∷ []))
  insert-full a e h = rw (no_slot is i n e h) a

  pub insert-kept : {xs ys : List ℕ} {w x y z : ℕ} → InsertsIn xs (take character_slots is) → n ≡ length is → n < 1024
      → Numbers i w x y z → PutAt xs n w x y z ys → InsertsIn ys (take character_slots (is ++ i ∷ []))
  insert-kept a e h g p = rw (one-slot is i n e h) (insert_pushed i n (rw (all_slots is i n e h) at a) e h g p)

module _ (ts : List Toggle) (t : Toggle) (n : ℕ) where
  pub toggle_full : {xs : List ℕ} → TogglesIn xs (take character_slots ts) → n ≡ length ts → 1024 ≤ n
      → TogglesIn xs (take character_slots (ts ++ t ∷ []))
  toggle_full a e h = rw (no_slot ts t n e h) a

  pub toggle_kept : {xs : List ℕ} {w x : ℕ} → TogglesIn xs (take character_slots ts) → n ≡ length ts → n < 1024
      → w ≡ key t.target → x ≡ value_of (toggle t)
      → TogglesIn (set (set xs n w) (1024 + n) x) (take character_slots (ts ++ t ∷ []))
  toggle_kept {xs} {w} {x} b e h g k =
      let a : TogglesIn xs ts = rw (all_slots ts t n e h) at b in
      let room : (j : ℕ) → j < 2 → n < length (column 1024 j xs) =
      λ j k. omega (arith, h, column-length 1024 j xs (omega (arith, a.size))) in
      let first : column 1024 0 (set (set xs n w) (1024 + n) x) ≡ set (column 1024 0 xs) n w =
      set_below 1024 0 (set xs n w) (1024 + n) x (omega arith) ∙ set_first xs n w h in
      let second : column 1024 1 (set (set xs n w) (1024 + n) x) ≡ set (column 1024 1 xs) n x =
      set_here 1024 1 (set xs n w) n x h
      ∙ ap (λ (l : List ℕ). set l n x) (set-above 1024 1 xs n w (omega (arith, h))) in
      rw (one-slot ts t n e h)
      (record {
        size = length-set (set xs n w) (1024 + n) x ∙ length-set xs n w ∙ a.size;
        few = omega (arith, h, e, length-append ts (t ∷ []));
        targets =
            pushed (λ (u : Toggle). key u.target) ts t n w (column 1024 0 xs) e (room 0 (omega arith)) g a.targets
            first;
        stamps =
            pushed (λ (u : Toggle). value_of (toggle u)) ts t n x (column 1024 1 xs) e (room 1 (omega arith)) k
            a.stamps second;
      })
