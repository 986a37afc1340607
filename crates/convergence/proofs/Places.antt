-- Where identifiers are found in the sequence of marks and characters, and where after an insertion: those below the
-- new character move down by one, and nothing else changes.
use Prim.Native.Nat.{ℕ, zero, suc, ◌≤◌, ◌<◌}
use native.Mathlib.Omega.{arith}
use native.Mathlib.Nat.{le_of_suc-le-suc, not-suc-le-zero}
use native.Mathlib.Numerals.{add-one}
use mathlib.Core.Path.{◌≡◌, refl, ap, ap₂, sym, ◌∙◌, subst}
use mathlib.Core.Bool.{Bool, true, false, ◌&&◌, ◌||◌}
use mathlib.Core.List.Memᴰ
use mathlib.Core.List.{List, [], ◌∷◌, ◌++◌, Memᴰ}
use mathlib.Core.Logic.{◌⊎◌, inl, inr, ⊎_elim}
use borrow.Author.Tests.{ltb-true, leb-true, leb-false, lt-ltb, le-leb}
use lib.Dec.{leb, ltb, leb-zero, leb-suc-zero, leb-suc-suc}
use lib.ListN.{length, get_or, length-append, length-map}
use Rattle.woot.specs.declared.Identifier.{Identifier}
use Rattle.woot.specs.declared.Character.{Character}
use Rattle.woot.specs.Identifiers.{begin, end, same}
use Rattle.woot.specs.Limits.{last_site, last_clock}
use Rattle.woot.specs.Ranges.{within, site_number, character_id}
use Rattle.lists.specs.Lists.{any}
use Rattle.woot.specs.Placing.{identifiers, sequence, index_of, place_of, held, above, insert_at}
use Rattle.lists.proofs.Tests.{side, either, clash, and_left_lem, and_right, and_intro, or_cases, or_left, or_right, or-false-left, or-false-right}
use Rattle.lists.proofs.Members.{any_member, member_any, any_append}
use Rattle.convergence.proofs.Identifiers.{same_refl, same-eq, ne_same}
use Rattle.convergence.proofs.Insertion.{put_after, put-any, put-append, insert-map}

-- an index into a list, once an element is put in after the first k
abbrev pub shift : ℕ → ℕ → ℕ
shift zero i = suc i
shift (suc k) zero = zero
shift (suc k) (suc i) = suc (shift k i)

pub shift-before : (k i : ℕ) → i < k → shift k i ≡ i
shift-before zero i h = absurd (not-suc-le-zero h)
shift-before (suc k) zero h = refl
shift-before (suc k) (suc i) h = ap suc (shift-before k i (le_of_suc-le-suc h))

pub shift_behind : (k i : ℕ) → k ≤ i → shift k i ≡ suc i
shift_behind zero i h = refl
shift_behind (suc k) zero h = absurd (not-suc-le-zero h)
shift_behind (suc k) (suc i) h = ap suc (shift_behind k i (le_of_suc-le-suc h))

-- the order of two indices stays
pub shift-order : (k i j : ℕ) → ltb (shift k i) (shift k j) ≡ ltb i j
shift-order zero i j = leb-suc-suc (suc i) j
shift-order (suc k) zero zero = refl
shift-order (suc k) zero (suc j) = leb-suc-suc 0 (shift k j) ∙ leb-zero (shift k j) ∙ sym (leb-suc-suc 0 j ∙ leb-zero j)
shift-order (suc k) (suc i) zero = leb-suc-zero (suc (shift k i)) ∙ sym (leb-suc-zero (suc i))
shift-order (suc k) (suc i) (suc j) = leb-suc-suc (suc (shift k i)) (shift k j) ∙ shift-order k i j ∙ sym (leb-suc-suc (suc i) j)

pub index-here : (x y : Identifier) (ys : List Identifier) → same x y ≡ true → index_of x (y ∷ ys) ≡ 0
unfolding index_of
index-here x y ys e = rw e

pub index-later : (x y : Identifier) (ys : List Identifier) → same x y ≡ false → index_of x (y ∷ ys) ≡ suc (index_of x ys)
unfolding index_of
index-later x y ys e = rw e

-- an index within the list is that of a member
pub index-any : (x : Identifier) (xs : List Identifier) → ltb (index_of x xs) (length xs) ≡ any (same x) xs
unfolding index_of
index-any x [] = refl
index-any x (y ∷ ys) = ⊎_elim here (λ e. later e (index-any x ys)) (either (same x y))
  where
    here : same x y ≡ true → ltb (index_of x (y ∷ ys)) (suc (length ys)) ≡ (same x y || any (same x) ys)
    here e = rw (e, index_of) (leb-suc-suc 0 (length ys) ∙ leb-zero (length ys))

    later : same x y ≡ false → ltb (index_of x ys) (length ys) ≡ any (same x) ys → ltb (index_of x (y ∷ ys)) (suc (length ys)) ≡ (same x y || any (same x) ys)
    later e r = rw (e, index_of) (leb-suc-suc (suc (index_of x ys)) (length ys) ∙ r)

pub index-put_old : (k : ℕ) (x y : Identifier) (xs : List Identifier) → k ≤ length xs → same x y ≡ false
    → index_of x (put_after k y xs) ≡ shift k (index_of x xs)
index-put_old zero x y xs h n = index-later x y xs n
index-put_old (suc k) x y [] h n = absurd (not-suc-le-zero h)
index-put_old (suc k) x y (z ∷ zs) h n = ⊎_elim here (later (index-put_old k x y zs (le_of_suc-le-suc h) n)) (either (same x z))
  where
    here : same x z ≡ true → index_of x (z ∷ put_after k y zs) ≡ shift (suc k) (index_of x (z ∷ zs))
    here e = index-here x z (put_after k y zs) e ∙ sym (ap (shift (suc k)) (index-here x z zs e))

    later : index_of x (put_after k y zs) ≡ shift k (index_of x zs) → same x z ≡ false → index_of x (z ∷ put_after k y zs) ≡ shift (suc k) (index_of x (z ∷ zs))
    later r e = index-later x z (put_after k y zs) e ∙ ap suc r ∙ sym (ap (shift (suc k)) (index-later x z zs e))

pub index-put-new : (k : ℕ) (y : Identifier) (xs : List Identifier) → k ≤ length xs → any (same y) xs ≡ false → index_of y (put_after k y xs) ≡ k
index-put-new zero y xs h n = index-here y y xs (same_refl y)
index-put-new (suc k) y [] h n = absurd (not-suc-le-zero h)
index-put-new (suc k) y (x ∷ xs) h n =
    index-later y x (put_after k y xs) (or-false-left (same y x) _ n)
    ∙ ap suc (index-put-new k y xs (le_of_suc-le-suc h) (or-false-right (same y x) _ n))

-- what is found at the index of a member
pub index_member : (x d : Identifier) (xs : List Identifier) → any (same x) xs ≡ true → get_or xs (index_of x xs) d ≡ x
index_member x d [] h = clash h refl
index_member x d (y ∷ ys) h = ⊎_elim here (later (index_member x d ys)) (either (same x y))
  where
    here : same x y ≡ true → get_or (y ∷ ys) (index_of x (y ∷ ys)) d ≡ x
    here e = rw (index-here x y ys e) (sym (same-eq x y e))

    later : (any (same x) ys ≡ true → get_or ys (index_of x ys) d ≡ x) → same x y ≡ false → get_or (y ∷ ys) (index_of x (y ∷ ys)) d ≡ x
    later r e = rw (index-later x y ys e) (r (⊎_elim (λ f. clash f e) (λ f. f) (or_cases (same x y) (any (same x) ys) h)))

or-none : (b : Bool) → (b || false) ≡ b
or-none true = refl
or-none false = refl

module _ (cs : List Character) where
  pub sequence-length : length (sequence cs) ≡ suc (suc (length cs))
  unfolding sequence
  sequence-length = ap suc (length-append (identifiers cs) (end ∷ []) ∙ add-one (length (identifiers cs)) ∙ ap suc (length-map cs (λ c. c.id)))

  pub held_any : (x : Identifier) → held cs x ≡ any (same x) (sequence cs)
  unfolding held place_of
  held_any x =
      sym (leb-suc-suc (place_of cs x) (suc (length cs))) ∙ sym (ap (λ (n : ℕ). ltb (place_of cs x) n) sequence-length)
      ∙ index-any x (sequence cs)

  pub held-parts : (x : Identifier) → held cs x ≡ (same x begin || (any (same x) (identifiers cs) || same x end))
  unfolding sequence
  held-parts x =
      held_any x
      ∙ ap (λ (b : Bool). same x begin || b)
      (any_append (same x) (identifiers cs) (end ∷ []) ∙ ap (λ (b : Bool). any (same x) (identifiers cs) || b) (or-none (same x end)))

  pub held-begin : held cs begin ≡ true
  held-begin = held-parts begin ∙ or_left (same begin begin) _ (same_refl begin)

  pub held-end : held cs end ≡ true
  held-end = held-parts end ∙ or_right (same end begin) _ (or_right (any (same end) (identifiers cs)) (same end end) (same_refl end))

  pub held_member : {x : Identifier} → Memᴰ x (identifiers cs) → held cs x ≡ true
  held_member {x} m = held-parts x ∙ or_right (same x begin) _ (or_left (any (same x) (identifiers cs)) _ (member_any (same x) m (same_refl x)))

  pub held-id : {c : Character} → Memᴰ c cs → held cs c.id ≡ true
  held-id m = held_member (Memᴰ.map (λ c. c.id) m)

  -- what is not held is no character's
  pub not-held : (x : Identifier) → held cs x ≡ false → any (same x) (identifiers cs) ≡ false
  not-held x h = or-false-left (any (same x) (identifiers cs)) _ (or-false-right (same x begin) _ (sym (held-parts x) ∙ h))

-- "no character has these [marks]"
pub character-site : (x : Identifier) → character_id x ≡ true → 0 < x.site
unfolding character_id site_number within
character-site x h =
    leb-true 1 x.site
    (and_left_lem (leb 1 x.site) (leb x.site last_site) (and_left_lem (site_number x.site) (within 1 last_clock x.clock) h))

pub not-begin : (x : Identifier) → character_id x ≡ true → same x begin ≡ false
not-begin x h = ne_same x begin (λ e. omega (arith, character-site x h, ap (λ (y : Identifier). y.site) e))

pub not_end : (x : Identifier) → character_id x ≡ true → same x end ≡ false
not_end x h = ne_same x end (λ e. omega (arith, character-site x h, ap (λ (y : Identifier). y.site) e))

-- an identifier in range is held exactly when it is a character's
pub held-character : (cs : List Character) (x : Identifier) → character_id x ≡ true → held cs x ≡ any (same x) (identifiers cs)
held-character cs x h = held-parts cs x ∙ rw (not-begin x h, not_end x h) (or-none (any (same x) (identifiers cs)))

-- what is held is a mark or a character's identifier
pub data Holding (cs : List Character) (x : Identifier) : Type 0 where
  is-begin : x ≡ begin → Holding cs x
  is-character : (c : Character) → Memᴰ c cs → x ≡ c.id → Holding cs x
  is-end : x ≡ end → Holding cs x

pub holding : (cs : List Character) (x : Identifier) → held cs x ≡ true → Holding cs x
holding cs x h =
    ⊎_elim (λ e. is-begin (same-eq x begin e)) (λ e. ⊎_elim character (λ f. is-end (same-eq x end f)) (or_cases (any (same x) (identifiers cs)) _ e))
    (or_cases (same x begin) _ (sym (held-parts cs x) ∙ h))
  where
    found : ((y : Identifier) × Memᴰ y (identifiers cs) × (same x y ≡ true)) → Holding cs x
    found w = let r = Memᴰ.of_map (λ c. c.id) cs w.1 in is-character r.0 r.1 (same-eq x w.0 w.2 ∙ sym r.2)

    character : any (same x) (identifiers cs) ≡ true → Holding cs x
    character e = found (any_member (same x) (identifiers cs) e)

module _ (cs : List Character) where
  pub held_place : (x : Identifier) → held cs x ≡ true → place_of cs x ≤ suc (length cs)
  unfolding held
  held_place x h = leb-true _ _ h

  pub place-held : (x : Identifier) → place_of cs x ≤ suc (length cs) → held cs x ≡ true
  unfolding held
  place-held x h = le-leb _ _ h

  pub above_place : (x y : Identifier) → above cs x y ≡ true → place_of cs x < place_of cs y
  unfolding above
  above_place x y h = ltb-true _ _ (and_left_lem (ltb (place_of cs x) (place_of cs y)) (held cs y) h)

  pub above_lower : (x y : Identifier) → above cs x y ≡ true → held cs y ≡ true
  unfolding above
  above_lower x y h = and_right (ltb (place_of cs x) (place_of cs y)) (held cs y) h

  pub above-upper : (x y : Identifier) → above cs x y ≡ true → held cs x ≡ true
  above-upper x y h = place-held x (omega (arith, above_place x y h, held_place y (above_lower x y h)))

  pub place-above : (x y : Identifier) → place_of cs x < place_of cs y → held cs y ≡ true → above cs x y ≡ true
  unfolding above
  place-above x y p h = and_intro (lt-ltb _ _ p) h

  -- two that are held in one place are one
  pub place-injective : (x y : Identifier) → place_of cs x ≡ place_of cs y → held cs x ≡ true → held cs y ≡ true → x ≡ y
  unfolding place_of
  place-injective x y e h g = sym (at x h) ∙ ap (λ (k : ℕ). get_or (sequence cs) k begin) e ∙ at y g
    where
      at : (z : Identifier) → held cs z ≡ true → get_or (sequence cs) (place_of cs z) begin ≡ z
      at z r = index_member z begin (sequence cs) (sym (held_any cs z) ∙ r)

  -- what is held is not what is not held
  pub held-apart : (x y : Identifier) → held cs x ≡ true → held cs y ≡ false → same x y ≡ false
  held-apart x y h g = ne_same x y (λ e. clash (subst (λ (z : Identifier). held cs z ≡ true) e h) g)

  pub place-begin : place_of cs begin ≡ 0
  unfolding place_of sequence
  place-begin = index-here begin begin (identifiers cs ++ end ∷ []) (same_refl begin)

  pub place-later : (x : Identifier) → same x begin ≡ false → 0 < place_of cs x
  unfolding place_of sequence
  place-later x n = omega (arith, index-later x begin (identifiers cs ++ end ∷ []) n)

module _ (k : ℕ) (c : Character) (cs : List Character) where
  -- the identifiers held after an insertion, wherever it was
  pub held-insert : (x : Identifier) → held (insert_at k c cs) x ≡ (same x c.id || held cs x)
  held-insert x =
      held-parts (insert_at k c cs) x
      ∙ rw (insert-map k c cs (λ (d : Character). d.id), put-any (same x) k c.id (identifiers cs), held-parts cs x)
      (shuffle (same x begin) (same x c.id) (any (same x) (identifiers cs)) (same x end))
    where
      shuffle : (p q r s : Bool) → (p || ((q || r) || s)) ≡ (q || (p || (r || s)))
      shuffle true true r s = refl
      shuffle true false r s = refl
      shuffle false true r s = refl
      shuffle false false r s = refl

module _ (k : ℕ) (c : Character) (cs : List Character) (within : k ≤ length cs) where
  pub sequence-insert : sequence (insert_at k c cs) ≡ put_after (suc k) c.id (sequence cs)
  unfolding sequence
  sequence-insert =
      ap (λ (l : List Identifier). begin ∷ (l ++ end ∷ [])) (insert-map k c cs (λ (d : Character). d.id))
      ∙ ap (λ (l : List Identifier). begin ∷ l)
      (put-append k c.id (identifiers cs) (end ∷ []) (omega (arith, length-map cs (λ (d : Character). d.id))))

  pub place-insert_old : (x : Identifier) → same x c.id ≡ false → place_of (insert_at k c cs) x ≡ shift (suc k) (place_of cs x)
  unfolding place_of
  place-insert_old x n = rw sequence-insert (index-put_old (suc k) x c.id (sequence cs) (omega (arith, sequence-length cs)) n)

  pub place-insert-new : held cs c.id ≡ false → place_of (insert_at k c cs) c.id ≡ suc k
  unfolding place_of
  place-insert-new n =
      rw sequence-insert
      (index-put-new (suc k) c.id (sequence cs) (omega (arith, sequence-length cs)) (sym (held_any cs c.id) ∙ n))

  -- two that were held stand as they stood
  pub above-insert : (x y : Identifier) → held cs x ≡ true → held cs y ≡ true → held cs c.id ≡ false
      → above (insert_at k c cs) x y ≡ above cs x y
  unfolding above
  above-insert x y h g n =
      ap₂ (λ (a b : Bool). a && b)
      (ap₂ (λ (i j : ℕ). ltb i j) (place-insert_old x (held-apart cs x c.id h n)) (place-insert_old y (held-apart cs y c.id g n))
      ∙ shift-order (suc k) (place_of cs x) (place_of cs y))
      (held-insert k c cs y ∙ or_right (same y c.id) (held cs y) g ∙ sym g)
