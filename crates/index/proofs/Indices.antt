-- A key is found where its identifier stands.
use Prim.Native.Nat.{ℕ, suc, ◌+◌, ◌≤◌}
use native.Mathlib.Omega.{arith}
use mathlib.Core.Path.{◌≡◌, refl, ap, ap₂, sym, ◌∙◌}
use mathlib.Core.Bool.{Bool, true, false, ◌&&◌, ◌||◌, not, cond}
use mathlib.Core.List.Memᴰ
use mathlib.Core.List.{List, [], ◌∷◌, ◌++◌, map, Memᴰ}
use mathlib.Core.Logic.{⊎_elim}
use borrow.Author.Tests.{eq-eqb, ne_eqb}
use lib.Dec.{eqb}
use lib.ListN.{length, length-append}
use Rattle.lists.specs.Lists.{any, distinct}
use Rattle.woot.specs.declared.Identifier.{Identifier}
use Rattle.woot.specs.declared.Character.{Character}
use Rattle.woot.specs.Identifiers.{begin, end, same}
use Rattle.woot.specs.Placing.{identifiers, sequence, index_of, place_of}
use Rattle.woot.specs.Table.{key, keys}
use Rattle.index.specs.Keys.{Small, AllSmall, index_in, place_in}
use Rattle.index.proofs.Keys.{key-begin, key-end, key-same}

pub index-here : (k x : ℕ) (xs : List ℕ) → k ≡ x → index_in k (x ∷ xs) ≡ 0
unfolding index_in
index-here k x xs e = rw (eq-eqb k x e)

pub index-later : (k x : ℕ) (xs : List ℕ) → (k ≡ x → ⊥) → index_in k (x ∷ xs) ≡ suc (index_in k xs)
unfolding index_in
index-later k x xs n = rw (ne_eqb k x n)

pub index-bounded : (k : ℕ) (xs : List ℕ) → index_in k xs ≤ length xs
unfolding index_in
index-bounded k [] = omega arith
index-bounded k (x ∷ xs) = go (eqb k x) (index-bounded k xs)
  where
    go : (b : Bool) → index_in k xs ≤ length xs → cond b 0 (suc (index_in k xs)) ≤ suc (length xs)
    go true h = omega arith
    go false h = omega arith

pub place-bounded : (ks : List ℕ) (k : ℕ) → place_in ks k ≤ length ks + 2
unfolding place_in
place-bounded ks k = omega (arith, index-bounded k (0 ∷ (ks ++ 1 ∷ [])), length-append ks (1 ∷ []))

identifier-keys : (cs : List Character) → map key (identifiers cs ++ end ∷ []) ≡ keys cs ++ 1 ∷ []
identifier-keys [] = ap (λ (k : ℕ). k ∷ []) key-end
identifier-keys (c ∷ cs) = ap (λ (ks : List ℕ). key c.id ∷ ks) (identifier-keys cs)

sequence-keys : (cs : List Character) → map key (sequence cs) ≡ 0 ∷ (keys cs ++ 1 ∷ [])
unfolding sequence
sequence-keys cs = rw key-begin (ap (λ (ks : List ℕ). 0 ∷ ks) (identifier-keys cs))

module _ (x : Identifier) (p : Small x) where
  pub index-keys : (ys : List Identifier) → ((y : Identifier) → Memᴰ y ys → Small y) → index_in (key x) (map key ys) ≡ index_of x ys
  unfolding index_in index_of
  index-keys [] q = refl
  index-keys (y ∷ ys) q = rw (key-same x y p (q y (Memᴰ.head refl))) (ap (λ (n : ℕ). cond (same x y) 0 (suc n)) (index-keys ys (λ z m. q z (Memᴰ.tail m))))

  pub place-keys : (cs : List Character) → AllSmall cs → place_in (keys cs) (key x) ≡ place_of cs x
  unfolding place_in place_of sequence
  place-keys cs s = ap (index_in (key x)) (sym (sequence-keys cs)) ∙ index-keys (sequence cs) small
    where
      member : (y : Identifier) → Memᴰ y (identifiers cs) → Small y
      member y m = let r = Memᴰ.of_map (λ (c : Character). c.id) cs m in rw (← r.2) (s r.0 r.1).id

      mark : (y z : Identifier) → Small z → y ≡ z → Small y
      mark y z h e = rw e h

      small : (y : Identifier) → Memᴰ y (sequence cs) → Small y
      small y m =
          ⊎_elim (mark y begin (omega arith))
          (λ n. ⊎_elim (member y) (λ n. mark y end (omega arith) (Memᴰ.eq_of_singleton n)) (Memᴰ.append_cases (identifiers cs) n))
          (Memᴰ.cases_cons m)

-- keys are distinct where identifiers are
any-keys : (x : Identifier) → Small x → (cs : List Character) → AllSmall cs → any (eqb (key x)) (keys cs) ≡ any (same x) (identifiers cs)
any-keys x p [] s = refl
any-keys x p (c ∷ cs) s =
    ap₂ (λ (a b : Bool). a || b) (key-same x c.id p (s c (Memᴰ.head refl)).id) (any-keys x p cs (λ d m. s d (Memᴰ.tail m)))

pub distinct-keys : (cs : List Character) → AllSmall cs → distinct eqb (keys cs) ≡ distinct same (identifiers cs)
distinct-keys [] s = refl
distinct-keys (c ∷ cs) s =
    ap₂ (λ (a b : Bool). not a && b) (any-keys c.id (s c (Memᴰ.head refl)).id cs (λ d m. s d (Memᴰ.tail m)))
    (distinct-keys cs (λ d m. s d (Memᴰ.tail m)))
