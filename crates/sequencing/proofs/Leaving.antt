-- The rows that are left are characters, and the row that is chosen is the one that the rule sends next.
use Prim.Native.Nat.{ℕ, suc, ◌+◌, ◌≤◌, ◌<◌}
use native.Mathlib.Omega.{arith}
use mathlib.Core.Path.{◌≡◌, refl, sym, ap, ap₂, ◌∙◌, subst}
use mathlib.Core.Bool.{Bool, true, false, ◌&&◌, not, cond, and-true, and-false as and_no}
use mathlib.Core.List.{List, [], ◌∷◌, Memᴰ}
use mathlib.Core.Logic.{inl, inr, ⊎_elim}
use mathlib.Core.Option.{some}
use borrow.Author.Tests.{le-ltb}
use lib.ListN.{length, get_or, set, length-map}
use Rattle.lists.specs.Lists.{keep}
use Rattle.lists.proofs.Tests.{side, either, clash, agree, and_intro, and_left_lem, and_right}
use Rattle.lists.proofs.Indices.{map_get_d}
use Rattle.lists.proofs.Members.{member_keep, keep_member}
use Rattle.woot.specs.declared.Identifier.{Identifier}
use Rattle.woot.specs.declared.Character.{Character}
use Rattle.woot.specs.Identifiers.{same, below}
use Rattle.woot.specs.Placing.{place_of}
use Rattle.woot.specs.State.{blank_character}
use Rattle.woot.specs.Table.{key}
use Rattle.bulk.specs.Loading.{among, free}
use Rattle.bulk.specs.Catching.{next_sent, without, unlisted}
use Rattle.convergence.specs.Agreement.{Standing}
use Rattle.convergence.specs.Catching.{Chosen}
use Rattle.convergence.proofs.Identifiers.{same-eq, same-ne}
use Rattle.convergence.proofs.Places.{held-id, place-held, place-injective}
use Rattle.convergence.proofs.Characters.{at-index, own-index, member_place, between-marks}
use Rattle.convergence.proofs.Peeling.{member_among, among_member}
use Rattle.convergence.proofs.Sequencing.{keep_apart, chosen-next}
use Rattle.index.proofs.Keys.{key_below}
use Rattle.sequencing.specs.Steps.{left_at, row_left, free_beside, row_free, RowsAlone, Lowest, NextRow, left_rows}
use Rattle.sequencing.specs.Steps.{RowsOf}
use Rattle.sequencing.proofs.Flags.{left_other, left-set}

-- what is kept of what was kept, by one test on the elements
pub keep-twice : {A : Type 0} (p q r : A → Bool) (xs : List A) → ((x : A) → Memᴰ x xs → q x && p x ≡ r x)
    → keep p (keep q xs) ≡ keep r xs
keep-twice p q r [] f = refl
keep-twice p q r (x ∷ xs) f =
    rw (← f x (Memᴰ.head refl)) (go (q x) (p x) refl (keep-twice p q r xs (λ y m. f y (Memᴰ.tail m))))
  where
    go : (a b : Bool) → p x ≡ b → keep p (keep q xs) ≡ keep r xs
        → keep p (cond a (x ∷ keep q xs) (keep q xs)) ≡ cond (a && b) (x ∷ keep r xs) (keep r xs)
    go false b e h = h
    go true true e h = rw (e, h)
    go true false e h = rw (e, h)

-- what is kept by two tests that agree on the elements
keep-alike : {A : Type 0} (p q : A → Bool) (xs : List A) → ((x : A) → Memᴰ x xs → p x ≡ q x)
    → keep p xs ≡ keep q xs
keep-alike p q [] f = refl
keep-alike p q (x ∷ xs) f =
    rw (f x (Memᴰ.head refl), keep-alike p q xs (λ y m. f y (Memᴰ.tail m)))

-- no member at all
pub none-there : {A : Type 0} (xs : List A) → ((x : A) → Memᴰ x xs → ⊥) → xs ≡ []
none-there [] f = refl
none-there (x ∷ xs) f = absurd (f x (Memᴰ.head refl))

module _ (cs : List Character) (ids ups downs flags : List ℕ) (w : RowsOf cs ids ups downs)
    (alone : RowsAlone flags (length ids)) where
  abbrev at : ℕ → Character
  at i = get_or cs i blank_character

  pub counted : length ids ≡ length cs
  counted = ap length w.keyed ∙ length-map cs (λ (c : Character). key c.id)

  own_key_lem : (i : ℕ) → i < length cs → get_or ids i 0 ≡ key (at i).id
  own_key_lem i h =
      ap (λ (ks : List ℕ). get_or ks i 0) w.keyed
      ∙ map_get_d (λ (c : Character). key c.id) cs i 0 blank_character h

  -- ---- those that are left

  pub among-left : (x : Identifier) → among (left_rows flags cs) x ≡ left_at flags (place_of cs x)
  unfolding left_rows
  among-left x = agree (among (left_rows flags cs) x) (left_at flags (place_of cs x)) there back
    where
      there : among (left_rows flags cs) x ≡ true → left_at flags (place_of cs x) ≡ true
      there h =
          let m = among_member (left_rows flags cs) x h in
          ap (λ (y : Identifier). left_at flags (place_of cs y)) m.2
          ∙ (keep_member (λ (c : Character). left_at flags (place_of cs c.id)) cs m.1).1

      back : left_at flags (place_of cs x) ≡ true → among (left_rows flags cs) x ≡ true
      back h =
          let some : 0 < place_of cs x =
          ⊎_elim
          (λ l. let z : place_of cs x ≡ 0 = omega (arith, l) in clash (sym (ap (left_at flags) z) ∙ h) alone.begin)
          (λ l. l) (side (place_of cs x) 0) in
          let few : place_of cs x ≤ length cs =
          ⊎_elim (λ l. l) (λ l. clash h (alone.behind (place_of cs x) (omega (arith, l, counted))))
          (side (place_of cs x) (length cs)) in
          let c = between-marks cs w.standing x (place-held cs x (omega (arith, few))) some few in
          ap (among (left_rows flags cs)) c.2
          ∙ member_among (member_keep (λ (d : Character). left_at flags (place_of cs d.id)) c.1
          (sym (ap (λ (y : Identifier). left_at flags (place_of cs y)) c.2) ∙ h))

  -- a row is left, and so is its character
  row-left : (i : ℕ) → i < length cs → left_at flags (place_of cs (at i).id) ≡ row_left flags i
  row-left i h =
      let p = (at-index cs w.standing i blank_character h).1 in
      let e : place_of cs (at i).id ≡ i + 1 = omega (arith, p) in
      ap (left_at flags) e

  pub row_member : (i : ℕ) → i < length cs → row_left flags i ≡ true → Memᴰ (at i) (left_rows flags cs)
  unfolding left_rows
  row_member i h e =
      member_keep (λ (c : Character). left_at flags (place_of cs c.id))
      (at-index cs w.standing i blank_character h).0 (row-left i h ∙ e)

  pub member_row : {d : Character} → Memᴰ d (left_rows flags cs)
      → (i : ℕ) × (i < length cs) × (at i ≡ d) × (row_left flags i ≡ true)
  unfolding left_rows
  member_row {d} m =
      let k = keep_member (λ (c : Character). left_at flags (place_of cs c.id)) cs m in
      let i = own-index cs w.standing blank_character k.0 in
      let b = member_place cs w.standing k.0 in
      let e : place_of cs d.id ≡ i.0 + 1 = omega (arith, i.1) in
      (i.0, omega (arith, i.1, b.1), i.2, sym (ap (left_at flags) e) ∙ k.1)

  -- ---- the free ones

  free-row : (i : ℕ) → i < length cs
      → free (left_rows flags cs) (at i) ≡ not (left_at flags (get_or ups i 0)) && not (left_at flags (get_or downs i 0))
  unfolding free
  free-row i h =
      ap₂ (λ (a b : Bool). not a && not b)
      (among-left (at i).previous ∙ sym (ap (left_at flags) (w.previous i h)))
      (among-left (at i).next ∙ sym (ap (left_at flags) (w.next i h)))

  row-free : (i : ℕ) → i < length cs → row_free ups downs flags i ≡ true
      → Memᴰ (at i) (left_rows flags cs) × (free (left_rows flags cs) (at i) ≡ true)
  unfolding free_beside
  row-free i h e =
      let x = row_left flags i in
      let y = not (left_at flags (get_or ups i 0)) in
      let z = not (left_at flags (get_or downs i 0)) in
      let xy = and_left_lem (x && y) z e in
      (row_member i h (and_left_lem x y xy), free-row i h ∙ and_intro (and_right x y xy) (and_right (x && y) z e))

  free-there : (i : ℕ) → i < length cs → row_left flags i ≡ true → free (left_rows flags cs) (at i) ≡ true
      → row_free ups downs flags i ≡ true
  unfolding free_beside
  free-there i h l e =
      let y = not (left_at flags (get_or ups i 0)) in
      let z = not (left_at flags (get_or downs i 0)) in
      let yz = sym (free-row i h) ∙ e in
      and_intro (and_intro l (and_left_lem y z yz)) (and_right y z yz)

  -- ---- the next one

  -- a key that is not lower is that of an identifier which is not
  not-below : (i j : ℕ) → i < length cs → j < length cs → get_or ids i 0 ≤ get_or ids j 0
      → below (at j).id (at i).id ≡ false
  not-below i j h g l =
      let p = (at-index cs w.standing i blank_character h).0 in
      let q = (at-index cs w.standing j blank_character g).0 in
      sym (key_below (at j).id (at i).id (w.small (at j) q).id (w.small (at i) p).id)
      ∙ le-ltb (key (at j).id) (key (at i).id) (omega (arith, l, own_key_lem i h, own_key_lem j g))

  -- of a character that is left: the same by its row
  by_row : (P : Character → Type 0) → ((i : ℕ) → i < length cs → row_left flags i ≡ true → P (at i))
      → (d : Character) → Memᴰ d (left_rows flags cs) → P d
  by_row P f d m = let i = member_row m in subst P i.2 (f i.0 i.1 i.3)

  module _ (r : ℕ) (h : r < length cs) where
    chosen-free : Lowest (row_free ups downs flags) ids r → Chosen (left_rows flags cs) (at r)
    chosen-free low =
        let own = row-free r h (low.passed (omega (arith, h, counted))) in (
          by_row (λ d. free (left_rows flags cs) d ≡ true
              → (free (left_rows flags cs) (at r) ≡ true) × (below d.id (at r).id ≡ false))
              (λ i l e f. (
                own.1,
                not-below r i h l (low.least i (omega (arith, l, counted)) (free-there i l e f)
                    ).1,
              )),
          λ bound d m. clash own.1 (bound (at r) own.0),
        )

    chosen-left : ((k : ℕ) → k < length ids → row_free ups downs flags k ≡ false) → Lowest (row_left flags) ids r
        → Chosen (left_rows flags cs) (at r)
    chosen-left none low = (
      by_row (λ d. free (left_rows flags cs) d ≡ true
          → (free (left_rows flags cs) (at r) ≡ true) × (below d.id (at r).id ≡ false))
          (λ i l e f. clash (free-there i l e f) (none i (omega (arith, l, counted)))),
      λ bound. by_row (λ d. below d.id (at r).id ≡ false)
          (λ i l e. not-below r i h l (low.least i (omega (arith, l, counted)) e).1),
    )

  pub next-left : (r : ℕ) → r < length cs → NextRow ids ups downs flags r → row_left flags r ≡ true
  unfolding free_beside
  next-left r h (inl v) =
      let x = row_left flags r in
      let y = not (left_at flags (get_or ups r 0)) in
      let z = not (left_at flags (get_or downs r 0)) in
      and_left_lem x y (and_left_lem (x && y) z (v.1.passed v.0))
  next-left r h (inr v) = v.1.passed (omega (arith, h, counted))

  pub next_row : (r : ℕ) → r < length cs → NextRow ids ups downs flags r
      → next_sent (left_rows flags cs) ≡ some (at r)
  unfolding left_rows
  next_row r h n =
      chosen-next (left_rows flags cs)
      (keep_apart (λ (c : Character). left_at flags (place_of cs c.id)) cs w.standing.apart) (at r)
      (row_member r h (next-left r h n)) (⊎_elim (λ v. chosen-free r h v.1) (λ v. chosen-left r h v.0 v.1) n)

  -- there is none where no row is chosen
  pub no-next : (r : ℕ) → length cs ≤ r → NextRow ids ups downs flags r → left_rows flags cs ≡ []
  no-next r h n =
      none-there (left_rows flags cs)
      (by_row (λ d. ⊥)
      (λ i l e. ⊎_elim (λ v. omega (arith, h, counted, v.0))
      (λ v. omega (arith, h, counted, (v.1.least i (omega (arith, l, counted)) e).0)) n))

  -- ---- one less

  pub next_gone : (r : ℕ) → r < length cs → r + 1 < length flags → NextRow ids ups downs flags r
      → without (at r) (left_rows flags cs) ≡ left_rows (set flags (r + 1) 0) cs
  unfolding without left_rows
  next_gone r h g n =
      keep-twice (λ (d : Character). not (same (at r).id d.id))
      (λ (c : Character). left_at flags (place_of cs c.id))
      (λ (c : Character). left_at (set flags (r + 1) 0) (place_of cs c.id)) cs one
    where
      p : Memᴰ (at r) cs × (place_of cs (at r).id ≡ suc r)
      p = at-index cs w.standing r blank_character h

      one : (d : Character) → Memᴰ d cs
          → left_at flags (place_of cs d.id) && not (same (at r).id d.id)
          ≡ left_at (set flags (r + 1) 0) (place_of cs d.id)
      one d m = ⊎_elim here other (either (same (at r).id d.id))
        where
          q : ℕ
          q = place_of cs d.id

          here : same (at r).id d.id ≡ true
              → left_at flags q && not (same (at r).id d.id) ≡ left_at (set flags (r + 1) 0) q
          here e =
              let f : q ≡ r + 1 = omega (arith, p.1, ap (place_of cs) (same-eq (at r).id d.id e)) in
              ap (λ (b : Bool). left_at flags q && not b) e
              ∙ and_no (left_at flags q)
              ∙ sym (ap (left_at (set flags (r + 1) 0)) f ∙ left-set flags (r + 1) 0 g)

          other : same (at r).id d.id ≡ false
              → left_at flags q && not (same (at r).id d.id) ≡ left_at (set flags (r + 1) 0) q
          other e =
              ap (λ (b : Bool). left_at flags q && not b) e
              ∙ and-true (left_at flags q)
              ∙ sym (left_other flags (r + 1) 0 q
              (λ f. same-ne (at r).id d.id e
              (place-injective cs (at r).id d.id (omega (arith, p.1, f)) (held-id cs p.0) (held-id cs m))))

-- where a row is left exactly if its character is not listed, those that are left are the ones to be sent
pub left-unlisted : (cs : List Character) → Standing cs → (flags : List ℕ) (listed : Identifier → Bool)
    → ((i : ℕ) → i < length cs → row_left flags i ≡ not (listed (get_or cs i blank_character).id))
    → left_rows flags cs ≡ unlisted listed cs
unfolding left_rows unlisted
left-unlisted cs s flags listed f =
    keep-alike (λ (c : Character). left_at flags (place_of cs c.id)) (λ (c : Character). not (listed c.id)) cs one
  where
    one : (c : Character) → Memᴰ c cs → left_at flags (place_of cs c.id) ≡ not (listed c.id)
    one c m =
        let i = own-index cs s blank_character m in
        let b = member_place cs s m in
        let e : place_of cs c.id ≡ i.0 + 1 = omega (arith, i.1) in
        ap (left_at flags) e ∙ f i.0 (omega (arith, i.1, b.1))
        ∙ ap (λ (d : Character). not (listed d.id)) i.2
