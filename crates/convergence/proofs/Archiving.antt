-- Archives by rising identifier: a rising list is known by its members, and both trips keep them.
use Prim.Native.Nat.{ℕ, zero, suc, ◌+◌, ◌-◌, ◌≤◌, ◌<◌}
use native.Mathlib.Omega.{arith}
use mathlib.Core.Path.{◌≡◌, refl, ap, sym, ◌∙◌, subst}
use mathlib.Core.Bool.{Bool, true, false, ◌&&◌, not}
use mathlib.Core.Logic.{◌↔◌, ◌⊎◌, inl, inr, ⊎_elim}
use mathlib.Core.List.Memᴰ
use mathlib.Core.List.{List, [], ◌∷◌, map, Memᴰ}
use lib.Dec.{eqb, leb}
use lib.ListN.{length, get_or, length-map}
use lib.Seq.{ext_get_or}
use borrow.Author.Tests.{ltb-true, ltb-false, lt-ltb, leb-true, le-leb, eqb-false, ne_eqb, not-true}
use Rattle.lists.specs.Lists.{any, every, keep, distinct}
use Rattle.lists.proofs.Tests.{some-eq, no-some, clash, and_left_lem, and_right, and_intro, not-intro}
use Rattle.lists.proofs.Members.{every_member, member_every, keep-map}
use Rattle.woot.specs.declared.Character.{Character}
use Rattle.woot.specs.Identifiers.{same, below}
use Rattle.woot.specs.Placing.{identifiers}
use Rattle.woot.specs.State.{blank_character}
use Rattle.convergence.proofs.Identifiers.{same-ne, ne_same, same_sym, below-trans, below-asym, below_irrefl, below_total}
use Rattle.lists.specs.Sorting.{sorted_by, pairwise}
use mathlib.Core.Option.{some, none}
use Rattle.answers.specs.declared.Refusal.TheVariants.{Range, Misarranged, Form}
use Rattle.answers.specs.Answers.{◌⇒◌, first, number}
use Rattle.woot.specs.Limits.{capacity}
use Rattle.woot.specs.Ranges.{within, character_in_range}
use Rattle.woot.specs.State.{State}
use Rattle.woot.specs.Form.{all_in_range, well_formed}
use Rattle.bulk.specs.Archiving.{Placed, Archive, placed_from, by_identifier, by_place, places_of, characters_of, archived, archive_of, unarchived}
use Rattle.bulk.specs.Archiving.{state_from, place_in_range, archive_in_range, each_once, places_kept, identifiers_rise, arranged, archive_checks}
use Rattle.bulk.specs.Archiving.{unarchive_checks}
use Rattle.convergence.proofs.Forms.{formed}
use Rattle.convergence.proofs.Soundness.{standing}
use Rattle.convergence.specs.Archiving.{Distinct, BackAfterForth, ForthArranged, ForthAfterBack, ArrangedExactly, RowsPermuted, ArchiveRises}
use Rattle.convergence.specs.Archiving.{PlacesExactly, PlacesBound, ArchiveReturns, ArchiveAccepted, UnarchivedOnce, MisarrangedWhen}
use Rattle.lists.proofs.Sorting.{pairwise_implies, pairwise-first, pairwise-rest, sorted_member, member_sorted, sorted-keeps, sorted-length}
use Rattle.lists.proofs.Sorting.{sorted-pairwise, rises-pairwise, sorted_rises, pairwise-rises, rising_unique}

-- ---- lists without repeats

none-every : {A B : Type 0} (s : B → Bool) (f : A → B) (xs : List A) → not (any s (map f xs)) ≡ every (λ x. not (s (f x))) xs
none-every s f [] = refl
none-every s f (x ∷ xs) = go (s (f x)) (none-every s f xs)
  where
    go : (b : Bool) → not (any s (map f xs)) ≡ every (λ y. not (s (f y))) xs
        → not (mathlib.Core.Bool.◌||◌ b (any s (map f xs))) ≡ (not b && every (λ y. not (s (f y))) xs)
    go true r = refl
    go false r = r

distinct-pairwise : {A B : Type 0} (s : B → B → Bool) (f : A → B) (xs : List A) → distinct s (map f xs) ≡ pairwise (λ x y. not (s (f x) (f y))) xs
distinct-pairwise s f [] = refl
distinct-pairwise s f (x ∷ xs) = rw (none-every (s (f x)) f xs, distinct-pairwise s f xs)

-- ---- the two orders

unfoldable pub differ_place : Placed → Placed → Bool
differ_place p q = not (eqb p.place q.place)

unfoldable pub differ_identifier : Placed → Placed → Bool
differ_identifier p q = not (same p.character.id q.character.id)

place-lt : (p q : Placed) → by_place p q ≡ true → p.place < q.place
unfolding by_place
place-lt p q h = ltb-true _ _ h

lt-place : (p q : Placed) → p.place < q.place → by_place p q ≡ true
unfolding by_place
lt-place p q h = lt-ltb _ _ h

place-trans : (p q r : Placed) → by_place p q ≡ true → by_place q r ≡ true → by_place p r ≡ true
place-trans p q r h k = lt-place p r (omega (arith, place-lt p q h, place-lt q r k))

place-asym : (p q : Placed) → by_place p q ≡ true → by_place q p ≡ true → ⊥
place-asym p q h k = omega (arith, place-lt p q h, place-lt q p k)

place-differ : (p q : Placed) → by_place p q ≡ true → differ_place p q ≡ true
unfolding differ_place
place-differ p q h = not-intro (ne_eqb p.place q.place (λ e. omega (arith, e, place-lt p q h)))

differ-place : (p q : Placed) → differ_place p q ≡ true → p.place ≡ q.place → ⊥
unfolding differ_place
differ-place p q h = eqb-false _ _ (not-true _ h)

place-symmetric : (p q : Placed) → differ_place p q ≡ true → differ_place q p ≡ true
unfolding differ_place
place-symmetric p q h = not-intro (ne_eqb q.place p.place (λ e. differ-place p q h (sym e)))

place-total : (p q : Placed) → differ_place p q ≡ true → by_place p q ≡ false → by_place q p ≡ true
unfolding by_place
place-total p q d h = go (Rattle.lists.proofs.Tests.side p.place q.place)
  where
    go : (p.place ≤ q.place) ⊎ (q.place < p.place) → by_place q p ≡ true
    go (inl l) = absurd (differ-place p q d (omega (arith, l, ltb-false p.place q.place h)))
    go (inr l) = lt-place q p l

identifier-trans : (p q r : Placed) → by_identifier p q ≡ true → by_identifier q r ≡ true → by_identifier p r ≡ true
unfolding by_identifier
identifier-trans p q r h k = below-trans p.character.id q.character.id r.character.id h k

identifier-asym : (p q : Placed) → by_identifier p q ≡ true → by_identifier q p ≡ true → ⊥
unfolding by_identifier
identifier-asym p q h k = below-asym p.character.id q.character.id h k

identifier-differ : (p q : Placed) → by_identifier p q ≡ true → differ_identifier p q ≡ true
unfolding by_identifier differ_identifier
identifier-differ p q h =
    not-intro
    (ne_same _ _ (λ e. below_irrefl q.character.id (subst (λ (x : Rattle.woot.specs.declared.Identifier.Identifier). below x q.character.id ≡ true) e
    h)))

identifier-symmetric : (p q : Placed) → differ_identifier p q ≡ true → differ_identifier q p ≡ true
unfolding differ_identifier
identifier-symmetric p q h = ap not (same_sym q.character.id p.character.id) ∙ h

identifier-total : (p q : Placed) → differ_identifier p q ≡ true → by_identifier p q ≡ false → by_identifier q p ≡ true
unfolding by_identifier differ_identifier
identifier-total p q d h = below_total p.character.id q.character.id (same-ne _ _ (not-true _ d)) h

-- ---- rows with their places

pub placed-within : (k : ℕ) (cs : List Character) {p : Placed} → Memᴰ p (placed_from k cs) → (k ≤ p.place) × (p.place < k + length cs)
placed-within k [] m = absurd (Memᴰ.not-nil m)
placed-within k (c ∷ cs) {p} m =
    ⊎_elim (λ e. let at : p.place ≡ k = ap (λ (q : Placed). q.place) e in (omega (arith, at), omega (arith, at)))
    (λ n. let w = placed-within (suc k) cs n in (omega (arith, w.0), omega (arith, w.1)))
    (Memᴰ.cases_cons m)

placed-rises : (k : ℕ) (cs : List Character) → pairwise by_place (placed_from k cs) ≡ true
placed-rises k [] = refl
placed-rises k (c ∷ cs) =
    and_intro (member_every (by_place (record { place = k; character = c })) (placed_from (suc k) cs)
    (λ p m. lt-place (record { place = k; character = c }) p (omega (arith, (placed-within (suc k) cs m).0))))
    (placed-rises (suc k) cs)

rows-placed : (k : ℕ) (cs : List Character) → characters_of (placed_from k cs) ≡ cs
rows-placed k [] = refl
rows-placed k (c ∷ cs) = ap (λ (ds : List Character). c ∷ ds) (rows-placed (suc k) cs)

length-placed : (k : ℕ) (cs : List Character) → length (placed_from k cs) ≡ length cs
length-placed k [] = refl
length-placed k (c ∷ cs) = ap suc (length-placed (suc k) cs)

identifiers-placed : (k : ℕ) (cs : List Character) → map (λ p. p.character.id) (placed_from k cs) ≡ identifiers cs
identifiers-placed k [] = refl
identifiers-placed k (c ∷ cs) = rw (identifiers-placed (suc k) cs)

-- a row with its place is that at the index, and among the rows
pub row_at : (k : ℕ) (cs : List Character) {p : Placed} → Memᴰ p (placed_from k cs) → get_or cs (p.place - k) blank_character ≡ p.character
row_at k [] m = absurd (Memᴰ.not-nil m)
row_at k (c ∷ cs) {p} m =
    ⊎_elim (λ e.
    let at : p.place - k ≡ 0 = omega (arith, ap (λ (q : Placed). q.place) e) in
    rw at (sym (ap (λ (q : Placed). q.character) e)))
    (λ n.
    let at : p.place - k ≡ suc (p.place - suc k) = omega (arith, (placed-within (suc k) cs n).0) in
    rw at (row_at (suc k) cs n)) (Memᴰ.cases_cons m)

pub placed_row : (k : ℕ) (cs : List Character) {p : Placed} → Memᴰ p (placed_from k cs) → Memᴰ p.character cs
placed_row k [] m = absurd (Memᴰ.not-nil m)
placed_row k (c ∷ cs) m =
    ⊎_elim (λ e. Memᴰ.head (ap (λ (q : Placed). q.character) e)) (λ n. Memᴰ.tail (placed_row (suc k) cs n)) (Memᴰ.cases_cons m)

-- the row at an index is there with its place
placed_at : (k i : ℕ) (cs : List Character) (d : Character) → i < length cs → Memᴰ (record { place = k + i; character = get_or cs i d }) (placed_from k cs)
placed_at k i [] d h = absurd (omega arith)
placed_at k zero (c ∷ cs) d h = let e : k + zero ≡ k = omega arith in Memᴰ.head (λ j. record { place = e j; character = c })
placed_at k (suc i) (c ∷ cs) d h =
    let e : k + suc i ≡ suc k + i = omega arith in
    Memᴰ.tail (subst (λ (n : ℕ). Memᴰ (record { place = n; character = get_or cs i d }) (placed_from (suc k) cs)) (sym e)
    (placed_at (suc k) i cs d (omega arith)))

-- ---- the way back after the way forth

archived-differ : (cs : List Character) → pairwise differ_place (archived cs) ≡ true
unfolding archived
archived-differ cs =
    sorted-pairwise by_identifier differ_place place-symmetric (placed_from 1 cs)
    (pairwise_implies by_place differ_place place-differ (placed_from 1 cs) (placed-rises 1 cs))

replaced : (cs : List Character) → sorted_by by_place (archived cs) ≡ placed_from 1 cs
unfolding archived
replaced cs =
    rising_unique by_place place-asym (sorted_by by_place (archived cs)) (placed_from 1 cs)
    (sorted_rises by_place place-trans differ_place place-total (archived cs) (archived-differ cs)) (placed-rises 1 cs)
    (λ p m. sorted_member by_identifier (placed_from 1 cs) (sorted_member by_place (archived cs) m))
    (λ p m. member_sorted by_place (archived cs) (member_sorted by_identifier (placed_from 1 cs) m))

pub back-after-forth : BackAfterForth
unfolding unarchived
back-after-forth cs = ap characters_of (replaced cs) ∙ rows-placed 1 cs

-- ---- what is accepted of the way forth

pub distinct-differ : (cs : List Character) → distinct same (identifiers cs) ≡ pairwise differ_identifier (placed_from 1 cs)
unfolding differ_identifier
distinct-differ cs =
    ap (distinct same) (sym (identifiers-placed 1 cs)) ∙ distinct-pairwise same (λ (p : Placed). p.character.id) (placed_from 1 cs)

pub archive_rises : ArchiveRises
unfolding identifiers_rise archived
archive_rises cs d =
    pairwise-rises by_identifier (archived cs)
    (sorted_rises by_identifier identifier-trans differ_identifier identifier-total (placed_from 1 cs) (sym (distinct-differ cs) ∙ d))

archived-places : (cs : List Character) → places_kept (archived cs) ≡ true
unfolding places_kept each_once within archived differ_place
archived-places cs =
    and_intro (distinct-pairwise eqb (λ (p : Placed). p.place) (archived cs) ∙ archived-differ cs)
    (member_every (λ k. leb 1 k && leb k (length (places_of (archived cs)))) (places_of (archived cs)) each)
  where
    each : (k : ℕ) → Memᴰ k (places_of (archived cs)) → (leb 1 k && leb k (length (places_of (archived cs)))) ≡ true
    each k m =
        let w = Memᴰ.of_map (λ (p : Placed). p.place) (archived cs) m in
        let b = placed-within 1 cs (sorted_member by_identifier (placed_from 1 cs) w.1) in
        let n : length (places_of (archived cs)) ≡ length cs =
        length-map (archived cs) (λ (p : Placed). p.place) ∙ sorted-length by_identifier (placed_from 1 cs) ∙ length-placed 1 cs in
        and_intro (le-leb 1 k (omega (arith, w.2, b.0))) (le-leb k (length (places_of (archived cs))) (omega (arith, w.2, b.1, n)))

pub forth-arranged : ForthArranged
unfolding arranged identifiers_rise
forth-arranged cs = (to, λ d. and_intro (archived-places cs) (archive_rises cs d))
  where
    to : arranged (archived cs) ≡ true → Distinct cs
    to h =
        let up = rises-pairwise by_identifier identifier-trans (archived cs) (and_right (places_kept (archived cs)) (identifiers_rise (archived cs)) h) in
        let d = sorted-pairwise by_place differ_identifier identifier-symmetric (archived cs)
        (pairwise_implies by_identifier differ_identifier identifier-differ (archived cs) up) in
        distinct-differ cs ∙ subst (λ (ps : List Placed). pairwise differ_identifier ps ≡ true) (replaced cs) d

-- ---- the way forth after the way back

-- rising places take room
room : (a b : ℕ) (ps : List Placed) → a ≤ b → pairwise by_place ps ≡ true → ((p : Placed) → Memᴰ p ps → (a ≤ p.place) × (p.place < b)) → a + length ps ≤ b
room a b [] h r f = omega arith
room a b (p ∷ ps) h r f =
    let w = f p (Memᴰ.head refl) in
    let l = room (suc p.place) b ps (omega (arith, w.1)) (pairwise-rest by_place p ps r)
    (λ q m. (place-lt p q (pairwise-first by_place r m), (f q (Memᴰ.tail m)).1)) in
    omega (arith, l, w.0)

-- where they have no more room than they take, they are all of the numbers there
filled : (k : ℕ) (ps : List Placed) → pairwise by_place ps ≡ true
    → ((p : Placed) → Memᴰ p ps → (k ≤ p.place) × (p.place < k + length ps)) → ps ≡ placed_from k (characters_of ps)
filled k [] r f = refl
filled k (p ∷ ps) r f =
    let w = f p (Memᴰ.head refl) in
    let l = room (suc p.place) (k + suc (length ps)) ps (omega (arith, w.1)) (pairwise-rest by_place p ps r)
    (λ q m. (place-lt p q (pairwise-first by_place r m), (f q (Memᴰ.tail m)).1)) in
    let e : p.place ≡ k = omega (arith, l, w.0) in
    let t = filled (suc k) ps (pairwise-rest by_place p ps r)
    (λ q m. (omega (arith, e, place-lt p q (pairwise-first by_place r m)), omega (arith, (f q (Memᴰ.tail m)).1))) in
    λ i. record { place = e i; character = p.character } ∷ t i

module _ (ps : List Placed) (kept : places_kept ps ≡ true) where
  kept-differ : pairwise differ_place ps ≡ true
  unfolding places_kept each_once differ_place
  kept-differ = sym (distinct-pairwise eqb (λ (p : Placed). p.place) ps) ∙ and_left_lem (distinct eqb (places_of ps)) _ kept

  kept-within : (k : ℕ) → Memᴰ k (places_of ps) → (1 ≤ k) × (k ≤ length ps)
  unfolding places_kept each_once within
  kept-within k m =
      let h = every_member (λ j. leb 1 j && leb j (length (places_of ps))) (and_right (distinct eqb (places_of ps)) _ kept) m in (
        leb-true 1 k (and_left_lem (leb 1 k) (leb k (length (places_of ps))) h),
        omega (arith, leb-true k (length (places_of ps)) (and_right (leb 1 k) (leb k (length (places_of ps))) h), length-map ps (λ (p : Placed). p.place)),
      )

  by_place_lem : pairwise by_place (sorted_by by_place ps) ≡ true
  by_place_lem = sorted_rises by_place place-trans differ_place place-total ps kept-differ

  pub settled : sorted_by by_place ps ≡ placed_from 1 (unarchived ps)
  unfolding unarchived
  settled =
      filled 1 (sorted_by by_place ps) by_place_lem
      (λ p m.
      let w = kept-within p.place (Memᴰ.map (λ (q : Placed). q.place) (sorted_member by_place ps m)) in
      (w.0, omega (arith, w.1, sorted-length by_place ps)))

  length-unarchived : length (unarchived ps) ≡ length ps
  unfolding unarchived
  length-unarchived = length-map (sorted_by by_place ps) (λ (p : Placed). p.character) ∙ sorted-length by_place ps

  -- a place with the row that comes to it is among those given
  given : (i : ℕ) → i < length ps → Memᴰ (record { place = suc i; character = get_or (unarchived ps) i blank_character }) ps
  given i h =
      sorted_member by_place ps
      (subst (λ (qs : List Placed). Memᴰ (record { place = suc i; character = get_or (unarchived ps) i blank_character }) qs) (sym settled)
      (subst (λ (n : ℕ). Memᴰ (record { place = n; character = get_or (unarchived ps) i blank_character }) (placed_from 1 (unarchived ps))) (omega arith)
      (placed_at 1 i (unarchived ps) blank_character (omega (arith, h, length-unarchived)))))

pub forth-after-back : ForthAfterBack
unfolding arranged identifiers_rise archived
forth-after-back ps h = (
  there,
  (forth-arranged (unarchived ps)).0 (subst (λ (qs : List Placed). arranged qs ≡ true) (sym there) h),
  λ cs e. sym (back-after-forth cs) ∙ ap unarchived e,
)
  where
    kept : places_kept ps ≡ true
    kept = and_left_lem (places_kept ps) (identifiers_rise ps) h

    up : pairwise by_identifier ps ≡ true
    up = rises-pairwise by_identifier identifier-trans ps (and_right (places_kept ps) (identifiers_rise ps) h)

    again : sorted_by by_identifier (sorted_by by_place ps) ≡ ps
    again =
        rising_unique by_identifier identifier-asym (sorted_by by_identifier (sorted_by by_place ps)) ps
        (sorted_rises by_identifier identifier-trans differ_identifier identifier-total (sorted_by by_place ps)
        (sorted-pairwise by_place differ_identifier identifier-symmetric ps (pairwise_implies by_identifier differ_identifier identifier-differ ps up)))
        up
        (λ p m. sorted_member by_place ps (sorted_member by_identifier (sorted_by by_place ps) m))
        (λ p m. member_sorted by_identifier (sorted_by by_place ps) (member_sorted by_place ps m))

    there : archived (unarchived ps) ≡ ps
    there = ap (sorted_by by_identifier) (sym (settled ps kept)) ∙ again

pub arranged_exactly : ArrangedExactly
arranged_exactly ps = (
  λ h. let r = forth-after-back ps h in (unarchived ps, r.1, r.0),
  λ w. subst (λ (qs : List Placed). arranged qs ≡ true) w.2 ((forth-arranged w.0).1 w.1),
)

-- ---- the rows

rows-keep : (p : Character → Bool) (ps : List Placed) → length (keep p (characters_of ps)) ≡ length (keep (λ (q : Placed). p q.character) ps)
rows-keep p ps =
    ap length (keep-map (λ (q : Placed). q.character) p (λ q. p q.character) (λ q. refl) ps)
    ∙ length-map (keep (λ (q : Placed). p q.character) ps) (λ (q : Placed). q.character)

pub rows_permuted : RowsPermuted
unfolding archived unarchived
rows_permuted = (
  λ cs. (
    λ p. sorted-keeps by_identifier p (placed_from 1 cs),
    λ p.
        rows-keep p (archived cs) ∙ sorted-keeps by_identifier (λ (q : Placed). p q.character) (placed_from 1 cs)
        ∙ sym (rows-keep p (placed_from 1 cs)) ∙ ap (λ (ds : List Character). length (keep p ds)) (rows-placed 1 cs),
  ),
  λ ps p. rows-keep p (sorted_by by_place ps) ∙ sorted-keeps by_place (λ (q : Placed). p q.character) ps ∙ sym (rows-keep p ps),
)

-- ---- the places

pub places_exactly : PlacesExactly
places_exactly ps kept k = (kept-within ps kept k, λ w. from (k - 1) (omega (arith, w.0)) (omega (arith, w.0, w.1)))
  where
    from : (i : ℕ) → suc i ≡ k → i < length ps → Memᴰ k (places_of ps)
    from i e h = subst (λ (n : ℕ). Memᴰ n (places_of ps)) e (Memᴰ.map (λ (q : Placed). q.place) (given ps kept i h))

pub places-bound : PlacesBound
unfolding place_in_range within
places-bound ps ranged kept =
    let r = room 1 (suc capacity) (sorted_by by_place ps) (omega arith) (by_place_lem ps kept)
    (λ p m.
    let n = sorted_member by_place ps m in
    let b = every_member place_in_range ranged n in (
      leb-true 1 p.place (and_left_lem (leb 1 p.place) (leb p.place capacity) b),
      omega (arith, leb-true p.place capacity (and_right (leb 1 p.place) (leb p.place capacity) b)),
    )) in
    omega (arith, r, sorted-length by_place ps)

-- characters that have each at its place are those that are brought back
pub at_places : (ps : List Placed) (cs : List Character) → places_kept ps ≡ true → length cs ≡ length ps
    → ((p : Placed) → Memᴰ p ps → get_or cs (p.place - 1) blank_character ≡ p.character)
    → cs ≡ unarchived ps
at_places ps cs kept e f =
    ext_get_or blank_character cs (unarchived ps) (e ∙ sym (length-unarchived ps kept))
    (λ i h.
    let e' : suc i - 1 ≡ i = omega arith in
    subst (λ (n : ℕ). get_or cs n blank_character ≡ get_or (unarchived ps) i blank_character) e'
    (f (record { place = suc i; character = get_or (unarchived ps) i blank_character }) (given ps kept i (omega (arith, h, e)))))

-- ---- replicas

pub archive_returns : ArchiveReturns
unfolding state_from archive_of
archive_returns s = λ i. record { site = s.site; characters = back-after-forth s.characters i; pending = s.pending }

archived-row : (cs : List Character) {p : Placed} → Memᴰ p (archived cs) → (1 ≤ p.place) × (p.place ≤ length cs) × Memᴰ p.character cs
unfolding archived
archived-row cs {p} m =
    let n = sorted_member by_identifier (placed_from 1 cs) m in
    let w = placed-within 1 cs n in
    (w.0, omega (arith, w.1), placed_row 1 cs n)

-- the ranges of a state in form are those of its archive
pub archive-in-range : (s : State) → well_formed s ≡ true → archive_in_range (archive_of s) ≡ true
unfolding archive_in_range archive_of all_in_range place_in_range within
archive-in-range s h =
    let f = formed s h in
    let cs = s.characters in
    and_intro
    (member_every place_in_range (archived cs) (λ p m.
    let w = archived-row cs m in
    and_intro (le-leb 1 p.place w.0) (le-leb p.place capacity (omega (arith, w.1, f.sound.room)))))
    (and_intro (and_intro f.site
    (member_every character_in_range (characters_of (archived cs)) (λ c m.
    let w = Memᴰ.of_map (λ (p : Placed). p.character) (archived cs) m in
    subst (λ (d : Character). character_in_range d ≡ true) w.2 (every_member character_in_range f.sound.ranges (archived-row cs w.1).2))))
    f.sound.pending-ranges)

-- where nothing is refused, in so many words
archiving-passed : (s : State) → first (archive_checks (all_in_range s) s) ≡ none → well_formed s ≡ true
unfolding archive_checks
archiving-passed s e = go (all_in_range s) (well_formed s) refl e
  where
    go : (b f : Bool) → well_formed s ≡ f → first ((not b ⇒ Range) ∷ (not f ⇒ Form) ∷ []) ≡ none → well_formed s ≡ true
    go true true h e = h
    go true false h e = no-some (sym e)
    go false f h e = no-some (sym e)

well_ranged : (s : State) → well_formed s ≡ true → all_in_range s ≡ true
unfolding all_in_range
well_ranged s h = let f = formed s h in and_intro (and_intro f.site f.sound.ranges) f.sound.pending-ranges

passes-archiving : (s : State) → well_formed s ≡ true → first (archive_checks (all_in_range s) s) ≡ none
unfolding archive_checks
passes-archiving s h = rw (well_ranged s h, h) refl

pub archive_accepted : ArchiveAccepted
unfolding unarchive_checks archive_of
archive_accepted s e =
    let h = archiving-passed s e in
    let d : Distinct s.characters = (standing (formed s h).sound).apart in
    rw (archive-in-range s h, (forth-arranged s.characters).1 d, ap well_formed (archive_returns s) ∙ h) refl

module _ (a : Archive) where
  unarchiving-passed : first (unarchive_checks a) ≡ none → (arranged a.rows ≡ true) × (well_formed (state_from a) ≡ true)
  unfolding unarchive_checks
  unarchiving-passed e = go (archive_in_range a) (arranged a.rows) (well_formed (state_from a)) refl refl e
    where
      go : (b d f : Bool) → arranged a.rows ≡ d → well_formed (state_from a) ≡ f
          → first ((not b ⇒ Range) ∷ (not d ⇒ Misarranged) ∷ (not f ⇒ Form) ∷ []) ≡ none
          → (arranged a.rows ≡ true) × (well_formed (state_from a) ≡ true)
      go true true true g h e = (g, h)
      go true true false g h e = no-some (sym e)
      go true false f g h e = no-some (sym e)
      go false d f g h e = no-some (sym e)

pub unarchived-once : UnarchivedOnce
unfolding state_from archive_of
unarchived-once a e =
    let w = unarchiving-passed a e in (
      λ i. record { site = a.site; rows = (forth-after-back a.rows w.0).0 i; pending = a.pending },
      passes-archiving (state_from a) w.1,
      λ s g. sym (archive_returns s) ∙ ap state_from g,
    )

pub misarranged_when : MisarrangedWhen
unfolding unarchive_checks
misarranged_when a = go (archive_in_range a) (arranged a.rows) (well_formed (state_from a))
  where
    go : (b d f : Bool)
        → (first ((not b ⇒ Range) ∷ (not d ⇒ Misarranged) ∷ (not f ⇒ Form) ∷ []) ≡ some Misarranged)
        ↔ ((b ≡ true) × (d ≡ false))
    go true false f = (λ e. (refl, refl), λ w. refl)
    go true true true = (λ e. no-some e, λ w. clash refl w.1)
    go true true false = (λ e. absurd (omega (arith, ap number (some-eq e))), λ w. clash refl w.1)
    go false d f = (λ e. absurd (omega (arith, ap number (some-eq e))), λ w. clash w.0 refl)
