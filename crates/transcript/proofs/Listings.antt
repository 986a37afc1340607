-- Laws of the numbers of the text line, gathered in an array from its second slot on.
use mathlib.Core.Path.{◌≡◌, refl, sym, ap, ◌∙◌}
use mathlib.Core.Bool.{Bool, true, false, cond}
use mathlib.Core.List.{List, [], ◌∷◌, ◌++◌, map, map-append, append-nil}
use Prim.Native.Nat.{ℕ, ◌+◌, ◌%◌, ◌≤◌, ◌<◌}
use native.Mathlib.Numerals.{add-one}
use native.Mathlib.Omega.{arith}
use borrow.Author.Tests.{eq-eqb, ne_eqb}
use lib.Dec.{eqb}
use lib.ListN.{length, take, get_or, set, replicate, length-append, length-map}
use lib.Seq.{take-suc, take_all, get_or-take, length-take-le}
use Rattle.woot.specs.declared.Character.{Character}
use Rattle.woot.specs.Operations.{is_visible}
use Rattle.woot.specs.State.{blank_character}
use Rattle.woot.specs.Memory.{code_points_of, toggle_counts}
use Rattle.lists.specs.Lists.{keep}
use Rattle.lists.specs.Padding.{pad}
use Rattle.lists.proofs.Padding.{pad-take, pad-push}
use Rattle.lists.proofs.Indices.{map_get_d}
use Rattle.transcript.specs.declared.report.Listing.{Listing}
use Rattle.transcript.specs.Lines.{visible_points, text_numbers, listing}

-- ---- one character more

keep_snoc : {A : Type 0} (p : A → Bool) (xs : List A) (x : A) → keep p (xs ++ x ∷ []) ≡ keep p xs ++ keep p (x ∷ [])
keep_snoc p [] x = refl
keep_snoc p (y ∷ xs) x = go (p y) (keep_snoc p xs x)
  where
    go : (b : Bool) → keep p (xs ++ x ∷ []) ≡ keep p xs ++ keep p (x ∷ [])
        → cond b (y ∷ keep p (xs ++ x ∷ [])) (keep p (xs ++ x ∷ [])) ≡ cond b (y ∷ keep p xs) (keep p xs) ++ keep p (x ∷ [])
    go true e = ap (λ zs. y ∷ zs) e
    go false e = e

points-snoc : (cs : List Character) (c : Character) → visible_points (cs ++ c ∷ []) ≡ visible_points cs ++ visible_points (c ∷ [])
unfolding visible_points
points-snoc cs c =
    let shown : Character → Bool = is_visible in
    rw (keep_snoc shown cs c) (map-append (λ (d : Character). d.code_point) (keep shown cs) (keep shown (c ∷ [])))

-- a hidden character is not listed
points-one : (c : Character) (b : Bool) → is_visible c ≡ b → visible_points (c ∷ []) ≡ cond b (c.code_point ∷ []) []
unfolding visible_points
points-one c true e = ap (λ (b : Bool). map (λ (d : Character). d.code_point) (cond b (c ∷ []) [])) e
points-one c false e = ap (λ (b : Bool). map (λ (d : Character). d.code_point) (cond b (c ∷ []) [])) e

module _ (cs : List Character) (i : ℕ) (d : Character) (h : i < length cs) where
  points-more : (b : Bool) → is_visible (get_or cs i d) ≡ b → visible_points (take (i + 1) cs) ≡ visible_points (take i cs) ++ cond b ((get_or cs i d).code_point ∷ []) []
  points-more b e =
      rw (add-one i, take-suc cs i d h)
      (points-snoc (take i cs) (get_or cs i d) ∙ ap (λ (ns : List ℕ). visible_points (take i cs) ++ ns) (points-one (get_or cs i d) b e))

-- the visible ones of the first i characters stand after the first slot, k in number
pub record Gathered (cs : List Character) (values : List ℕ) (k i : ℕ) : Type 0 where
  pub counted : k ≡ length (visible_points (take i cs))
  pub few : k ≤ i
  pub listed : values ≡ pad 1025 0 (0 ∷ visible_points (take i cs))

pub gathered_none : (cs : List Character) → Gathered cs (replicate 1025 0) 0 0
unfolding visible_points pad
gathered_none cs = record { counted = refl; few = omega arith; listed = refl }

module _ (cs : List Character) (values : List ℕ) (k i : ℕ) (g : Gathered cs values k i) where
  gathered_visible : (d : Character) → i < length cs → i < 1024 → is_visible (get_or cs i d) ≡ true
      → Gathered cs (set values (k + 1) (get_or cs i d).code_point) (k + 1) (i + 1)
  gathered_visible d h low e =
      let points = visible_points (take i cs) in
      let more : visible_points (take (i + 1) cs) ≡ points ++ (get_or cs i d).code_point ∷ [] = points-more cs i d h true e in
      let slot : k + 1 ≡ length (0 ∷ points) = ap (λ (n : ℕ). n + 1) g.counted ∙ add-one (length points) in
      record {
        counted = ap (λ (n : ℕ). n + 1) g.counted ∙ sym (ap length more ∙ length-append points ((get_or cs i d).code_point ∷ []));
        few = omega (arith, g.few);
        listed = rw (g.listed, slot, more) (pad-push 1025 0 (0 ∷ points) (get_or cs i d).code_point (omega (arith, g.few, g.counted)));
      }

  gathered-hidden : (d : Character) → i < length cs → is_visible (get_or cs i d) ≡ false → Gathered cs values k (i + 1)
  gathered-hidden d h e =
      let same = points-more cs i d h false e ∙ append-nil (visible_points (take i cs)) in
      record { counted = rw same g.counted; few = omega (arith, g.few); listed = rw same g.listed }

  -- with the count in the first slot the listing is whole
  gathered-all : record { values = set values 0 k; count = k } ≡ listing (take i cs)
  unfolding listing text_numbers pad
  gathered-all = rw (g.listed, g.counted)

-- ---- by the columns of the arrays

module _ (cs : List Character) (points toggles : List ℕ) (n i : ℕ) (p : code_points_of cs ≡ take n points) (t : toggle_counts cs ≡ take n toggles)
    (h : i < n) (few : n ≤ length points) (enough : n ≤ length toggles)
  where
    column-size : length cs ≡ n
    column-size = sym (length-map cs (λ (c : Character). c.code_point)) ∙ ap length p ∙ length-take-le n points few

    point_at : get_or points i 0 ≡ (get_or cs i blank_character).code_point
    point_at =
        sym (get_or-take n points i 0 h) ∙ sym (ap (λ (xs : List ℕ). get_or xs i 0) p)
        ∙ map_get_d (λ (c : Character). c.code_point) cs i 0 blank_character (omega (arith, column-size))

    toggle-at : get_or toggles i 0 ≡ (get_or cs i blank_character).toggles
    toggle-at =
        sym (get_or-take n toggles i 0 h) ∙ sym (ap (λ (xs : List ℕ). get_or xs i 0) t)
        ∙ map_get_d (λ (c : Character). c.toggles) cs i 0 blank_character (omega (arith, column-size))

    module _ (values : List ℕ) (k : ℕ) (g : Gathered cs values k i) where
      pub gathered-shown : i < 1024 → get_or toggles i 0 % 2 ≡ 0 → Gathered cs (set values (k + 1) (get_or points i 0)) (k + 1) (i + 1)
      unfolding is_visible
      gathered-shown low e =
          rw point_at
          (gathered_visible cs values k i g blank_character (omega (arith, column-size)) low (ap (λ (m : ℕ). eqb (m % 2) 0) (sym toggle-at) ∙ eq-eqb _ _ e))

      pub gathered-not : (get_or toggles i 0 % 2 ≡ 0 → ⊥) → Gathered cs values k (i + 1)
      unfolding is_visible
      gathered-not e =
          gathered-hidden cs values k i g blank_character (omega (arith, column-size)) (ap (λ (m : ℕ). eqb (m % 2) 0) (sym toggle-at) ∙ ne_eqb _ _ e)

-- all of them
pub gathered-whole : (cs : List Character) (points : List ℕ) (n : ℕ) → code_points_of cs ≡ take n points → n ≤ length points
    → (values : List ℕ) (k i : ℕ) → n ≤ i → Gathered cs values k i → ◌≡◌ {A = Listing} (record { values = set values 0 k; count = k }) (listing cs)
gathered-whole cs points n p few values k i h g =
    let size : length cs ≡ n = sym (length-map cs (λ (c : Character). c.code_point)) ∙ ap length p ∙ length-take-le n points few in
    gathered-all cs values k i g ∙ ap listing (take_all i cs (omega arith))

-- ---- a whole listing

-- of at most as many visible characters as a document has slots for
pub listing-front : (cs : List Character) (l : Listing) → l ≡ listing cs → l.count ≤ 1024 → take (l.count + 1) l.values ≡ text_numbers cs
unfolding listing text_numbers
listing-front cs l e few = rw e (pad-take 1025 0 (text_numbers cs) (length (visible_points cs) + 1) (sym (add-one (length (visible_points cs)))))
