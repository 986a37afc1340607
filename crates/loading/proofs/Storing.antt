-- A store in columns: four numbers in the slots behind four lists are the lists with one element more, and what there is no
-- slot for changes nothing.
use mathlib.Core.Path.{◌≡◌, refl, sym, ap, ◌∙◌}
use mathlib.Core.List.{List, [], ◌∷◌, ◌++◌, map, map-append}
use mathlib.Core.Bool.{Bool, true, false, cond}
use Prim.Native.Nat.{ℕ, zero, suc, ◌+◌, ◌*◌, ◌<◌, ◌≤◌}
use native.Mathlib.Omega.{arith}
use lib.Dec.{leb}
use lib.ListN.{length, take, set, replicate, length-append, length-map, length-take, replicate-append-replicate}
use lib.Seq.{take_all, take-append-le, set-append_left}
use borrow.Author.Tests.{leb-true, leb-false, le-leb, lt-leb}
use Rattle.lists.specs.Padding.{pad}
use Rattle.lists.proofs.Indices.{take-map}
use Rattle.lists.proofs.Padding.{pad-none, pad-push, pad-length}
use Rattle.woot.specs.Memory.{in_columns}
use Rattle.loading.specs.Filling.{set_in, kept_in, kept_at}

-- a store behind a list
set-behind : (xs ys : List ℕ) (n i a : ℕ) → n ≡ length xs + i → set (xs ++ ys) n a ≡ xs ++ set ys i a
set-behind [] ys n i a e = let z : n ≡ i = omega (arith, e) in rw z
set-behind (x ∷ xs) ys zero i a e = absurd (omega (arith, e))
set-behind (x ∷ xs) ys (suc n) i a e = ap (λ (l : List ℕ). x ∷ l) (set-behind xs ys n i a (omega (arith, e)))

-- ---- four lists of one length

module _ (m i : ℕ) (h : i < m) where
  push : (xs : List ℕ) (x : ℕ) → length xs ≡ i → set (pad m 0 xs) i x ≡ pad m 0 (xs ++ x ∷ [])
  push xs x e = rw (sym e) (pad-push m 0 xs x (omega (arith, e)))

  push-front : (xs : List ℕ) (x : ℕ) (l : List ℕ) → length xs ≡ i → set (pad m 0 xs ++ l) i x ≡ pad m 0 (xs ++ x ∷ []) ++ l
  push-front xs x l e =
      set-append_left (pad m 0 xs) l i x (omega (arith, pad-length m 0 xs (omega (arith, e))))
      ∙ ap (λ (k : List ℕ). k ++ l) (push xs x e)

  full : (xs : List ℕ) (x : ℕ) → length xs ≡ i → length (pad m 0 (xs ++ x ∷ [])) ≡ m
  full xs x e = pad-length m 0 (xs ++ x ∷ []) (omega (arith, e, length-append xs (x ∷ [])))

  push-columns : (ws xs ys zs : List ℕ) (w x y z : ℕ) → length ws ≡ i → length xs ≡ i → length ys ≡ i → length zs ≡ i
      → set_in m i w x y z (in_columns m ws xs ys zs) ≡ in_columns m (ws ++ w ∷ []) (xs ++ x ∷ []) (ys ++ y ∷ []) (zs ++ z ∷ [])
  unfolding set_in in_columns
  push-columns ws xs ys zs w x y z a b c d =
      let first = pad m 0 (ws ++ w ∷ []) in
      let second = pad m 0 (xs ++ x ∷ []) in
      let third = pad m 0 (ys ++ y ∷ []) in
      let rest-1 = pad m 0 xs ++ (pad m 0 ys ++ pad m 0 zs) in
      let rest-2 = pad m 0 ys ++ pad m 0 zs in
      let f = full ws w a in
      let g = full xs x b in
      let k = full ys y c in
      ap (λ (l : List ℕ). set (set (set l (m + i) x) (2 * m + i) y) (3 * m + i) z) (push-front ws w rest-1 a)
      ∙ ap (λ (l : List ℕ). set (set l (2 * m + i) y) (3 * m + i) z)
      (set-behind first rest-1 (m + i) i x (omega (arith, f)) ∙ ap (λ (l : List ℕ). first ++ l) (push-front xs x rest-2 b))
      ∙ ap (λ (l : List ℕ). set l (3 * m + i) z)
      (set-behind first (second ++ rest-2) (2 * m + i) (m + i) y (omega (arith, f))
      ∙ ap (λ (l : List ℕ). first ++ l)
      (set-behind second rest-2 (m + i) i y (omega (arith, g)) ∙ ap (λ (l : List ℕ). second ++ l) (push-front ys y (pad m 0 zs) c)))
      ∙ set-behind first (second ++ (third ++ pad m 0 zs)) (3 * m + i) (2 * m + i) z (omega (arith, f))
      ∙ ap (λ (l : List ℕ). first ++ l)
      (set-behind second (third ++ pad m 0 zs) (2 * m + i) (m + i) z (omega (arith, g))
      ∙ ap (λ (l : List ℕ). second ++ l)
      (set-behind third (pad m 0 zs) (m + i) i z (omega (arith, k)) ∙ ap (λ (l : List ℕ). third ++ l) (push zs z d)))

-- ---- the columns of a list

pub kept-number : (m : ℕ) (xs : List ℕ) (x i : ℕ) → i ≡ length xs → kept_at m i x (pad m 0 (take m xs)) ≡ pad m 0 (take m (xs ++ x ∷ []))
unfolding kept_at
kept-number m xs x i e = go (leb m i) refl
  where
    go : (b : Bool) → leb m i ≡ b → cond b (pad m 0 (take m xs)) (set (pad m 0 (take m xs)) i x) ≡ pad m 0 (take m (xs ++ x ∷ []))
    go true p = rw (take-append-le m xs (x ∷ []) (omega (arith, leb-true m i p, e)))
    go false p =
        let h : i < m = leb-false m i p in
        rw (take_all m xs (omega (arith, h, e)), take_all m (xs ++ x ∷ []) (omega (arith, h, e, length-append xs (x ∷ []))))
        (push m i h xs x (sym e))

pub kept-at : {A : Type 0} (m : ℕ) (f : A → ℕ) (cs : List A) (c : A) (i : ℕ) → i ≡ length cs
    → kept_at m i (f c) (pad m 0 (map f (take m cs))) ≡ pad m 0 (map f (take m (cs ++ c ∷ [])))
kept-at m f cs c i e =
    rw (← take-map f m cs, ← take-map f m (cs ++ c ∷ []), map-append f cs (c ∷ [])) (kept-number m (map f cs) (f c) i (e ∙ sym (length-map cs f)))

module _ {A : Type 0} (m : ℕ) (f g h k : A → ℕ) where
  abbrev in_slots : List A → List ℕ
  in_slots cs = in_columns m (map f cs) (map g cs) (map h cs) (map k cs)

  pub kept_in_lem : (cs : List A) (c : A) (i : ℕ) → i ≡ length cs → kept_in m i (f c) (g c) (h c) (k c) (in_slots (take m cs)) ≡ in_slots (take m (cs ++ c ∷ []))
  unfolding kept_in
  kept_in_lem cs c i e = go (leb m i) refl
    where
      go : (b : Bool) → leb m i ≡ b → cond b (in_slots (take m cs)) (set_in m i (f c) (g c) (h c) (k c) (in_slots (take m cs))) ≡ in_slots (take m (cs ++ c ∷ []))
      go true p = rw (take-append-le m cs (c ∷ []) (omega (arith, leb-true m i p, e)))
      go false p =
          let few : i < m = leb-false m i p in
          rw (
            take_all m cs (omega (arith, few, e)),
            take_all m (cs ++ c ∷ []) (omega (arith, few, e, length-append cs (c ∷ []))),
            map-append f cs (c ∷ []),
            map-append g cs (c ∷ []),
            map-append h cs (c ∷ []),
            map-append k cs (c ∷ []),
          )
          (push-columns m i few (map f cs) (map g cs) (map h cs) (map k cs) (f c) (g c) (h c) (k c)
          (length-map cs f ∙ sym e) (length-map cs g ∙ sym e) (length-map cs h ∙ sym e) (length-map cs k ∙ sym e))

  -- the slots are all there
  pub in_slots-length : (cs : List A) → length (in_slots (take m cs)) ≡ 4 * m
  unfolding in_columns
  in_slots-length cs =
      let wide : (q : A → ℕ) → length (pad m 0 (map q (take m cs))) ≡ m =
      λ q. pad-length m 0 (map q (take m cs)) (omega (arith, length-map (take m cs) q, length-take m cs)) in
      sum (pad m 0 (map f (take m cs))) (pad m 0 (map g (take m cs))) (pad m 0 (map h (take m cs))) (pad m 0 (map k (take m cs)))
      (wide f) (wide g) (wide h) (wide k)
    where
      sum : (ws xs ys zs : List ℕ) → length ws ≡ m → length xs ≡ m → length ys ≡ m → length zs ≡ m → length (ws ++ (xs ++ (ys ++ zs))) ≡ 4 * m
      sum ws xs ys zs a b c d = omega (arith, a, b, c, d, length-append ws (xs ++ (ys ++ zs)), length-append xs (ys ++ zs), length-append ys zs)

-- columns of nothing are zeros, as whoever lends an array makes them
pub no-columns : (m : ℕ) → in_columns m [] [] [] [] ≡ replicate (4 * m) 0
unfolding in_columns
no-columns m =
    let z : 4 * m ≡ m + (m + (m + m)) = omega arith in
    rw (
      z,
      pad-none {A = ℕ} m 0,
      replicate-append-replicate {A = ℕ} m m 0,
      replicate-append-replicate {A = ℕ} m (m + m) 0,
      replicate-append-replicate {A = ℕ} m (m + (m + m)) 0,
    )

-- where there is no slot, and where there is one
pub left_as_it_was : {A : Type 0} (m i : ℕ) (x : A) (a : List A) → m ≤ i → a ≡ kept_at m i x a
unfolding kept_at
left_as_it_was m i x a h = rw (le-leb m i h) refl

pub put-into-slot : {A : Type 0} (m i : ℕ) (x : A) (a : List A) → i < m → set a i x ≡ kept_at m i x a
unfolding kept_at
put-into-slot m i x a h = rw (lt-leb m i h) refl
