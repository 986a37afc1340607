-- Inserts sifted where they lie: the first slots hold the first insert with each identifier and have a table, those not
-- done lie where they lay, and each that is done is among those that were kept, so that none of them disagree.
use Prim.Native.Nat.{ℕ, suc, ◌+◌, ◌≤◌, ◌<◌}
use native.Mathlib.Omega.{arith}
use native.Mathlib.Numerals.{add-one}
use mathlib.Core.Path.{◌≡◌, refl, sym, ap, ◌∙◌, subst}
use mathlib.Core.Bool.{Bool, true, false, not, cond}
use mathlib.Core.List.{List, [], ◌∷◌, ◌++◌, map, Memᴰ}
use mathlib.Core.Logic.{◌⊎◌, inl, inr, ⊎_elim}
use lib.Dec.{eqb}
use lib.ListN.{length, take, drop, get_or, set, length-take, length-append}
use lib.Seq.{take-suc, take_all, take-take, take-set-le, take-suc-set, drop-drop, drop-set-lt}
use lib.Seq.{get_or-drop, get_or-take, get_or-set_same}
use borrow.Author.Tests.{eqb-true, eq-eqb, ne_eqb}
use Rattle.std.proofs.Common.{Option, Some, None}
use Rattle.lists.specs.Lists.{any, every, distinct}
use Rattle.lists.proofs.Tests.{clash, and_intro, and_left_lem, and_right, three, four, fails, not-intro}
use Rattle.lists.proofs.Tests.{or-false, or-false-left, or-false-right}
use Rattle.lists.proofs.Indices.{take_member}
use Rattle.lists.proofs.Members.{get_member, member_any, any_none, none_any, any_append, every_member}
use Rattle.woot.specs.declared.Insert.{Insert}
use Rattle.woot.specs.declared.Table.{Table}
use Rattle.bulk.specs.Building.{disagree, disagreeing}
use Rattle.woot.specs.Identifiers.{same, begin}
use Rattle.woot.specs.Operations.{same_insert}
use Rattle.woot.specs.Ranges.{insert_in_range}
use Rattle.woot.specs.Table.{key, entered, table_of}
use Rattle.woot.specs.Memory.{column}
use Rattle.convergence.specs.Passes.{kept_once, firsts}
use Rattle.convergence.proofs.Identifiers.{same-eq, eq-same}
use Rattle.convergence.proofs.Steps.{any-map}
use Rattle.index.specs.Keys.{found}
use Rattle.index.specs.Tabled.{Tabled}
use Rattle.index.proofs.Agreement.{tabled}
use Rattle.index.proofs.Keys.{key-injective}
use Rattle.index.proofs.Searches.{FoundAt, first_says}
use Rattle.chains.specs.Sizes.{Sized}
use Rattle.chains.proofs.Tables.{enter}
use Rattle.memory.proofs.Fullness.{column-length}
use Rattle.memory.proofs.Operations.{KeyedInsert}
use Rattle.heap.specs.Columns.{InsertsIn}
use Rattle.heap.specs.Keeping.{Moved}
use Rattle.heap.proofs.Columns.{NumbersAt, insert_pushed}
use Rattle.heap.proofs.Inserts.{keyed, numbers_at}
use Rattle.heap.proofs.Heaps.{no_disagreement}
use Rattle.sifting.specs.Keeping.{same_fields, Sifted, KeptFirsts}

-- ---- one insert

-- the key in a slot, and where it is found among the first
abbrev key_at : List ℕ → ℕ → ℕ
key_at xs i = get_or (column 1024 0 xs) i 0

abbrev sought : List ℕ → ℕ → ℕ → Option ℕ
sought xs i n = found (key_at xs i) (take n xs)

pub found-low : (k : ℕ) (ks : List ℕ) {j : ℕ} → found k ks ≡ Some j → j < length ks
unfolding found
found-low k ks e = (first_says (λ x. eqb k x) ks e).within

-- the first keys of the column are those of the array
key-front : (xs : List ℕ) (n : ℕ) → n ≤ 1024 → take n (column 1024 0 xs) ≡ take n xs
key-front xs n h = take-take n 1024 xs h

module _ (xs : List ℕ) (t : Table) (i n : ℕ) (h : i < 1024) {ys : List ℕ} {u : Table} {r : Option ℕ} where
  pub sifted_at : (j : ℕ) → found (get_or xs i 0) (take n xs) ≡ Some j → ys ≡ xs → u ≡ t
      → r ≡ cond (same_fields xs i j) (Some n) None → Sifted xs t i n ys u r (sought xs i n)
  sifted_at j e a b c = rw (get_or-take 1024 xs i 0 h, e) (a, b, c)

  pub sifted_nothing : found (get_or xs i 0) (take n xs) ≡ None → Moved xs i n ys → u ≡ entered t n (get_or xs i 0)
      → r ≡ Some (n + 1) → Sifted xs t i n ys u r (sought xs i n)
  sifted_nothing e a b c =
      let same : key_at xs i ≡ get_or xs i 0 = get_or-take 1024 xs i 0 h in
      let there : sought xs i n ≡ None = ap (λ (k : ℕ). found k (take n xs)) same ∙ e in
      rw there (a, b ∙ ap (entered t n) (sym same), c)

-- ---- what is told

some-same : {m n : ℕ} → Some m ≡ Some n → m ≡ n
some-same e = cc

none-some : {A : Type 0} {n : ℕ} → ◌≡◌ {A = Option ℕ} None (Some n) → A
none-some e = cc

some_told : (b : Bool) {m n : ℕ} → Some m ≡ cond b (Some n) None → (b ≡ true) × (m ≡ n)
some_told true e = (refl, some-same e)
some_told false e = none-some (sym e)

none_told : (b : Bool) (n : ℕ) → None ≡ cond b (Some n) None → b ≡ false
none_told true n e = none-some e
none_told false n e = refl

-- ---- lists

module _ {A : Type 0} {x : A} where
  in_front : {xs : List A} (ys : List A) → Memᴰ x xs → Memᴰ x (xs ++ ys)
  in_front ys (Memᴰ.head e) = Memᴰ.head e
  in_front ys (Memᴰ.tail m) = Memᴰ.tail (in_front ys m)

  at-end : (xs : List A) {y : A} → x ≡ y → Memᴰ x (xs ++ y ∷ [])
  at-end [] e = Memᴰ.head e
  at-end (z ∷ xs) e = Memᴰ.tail (at-end xs e)

  front-or-end : (xs : List A) {y : A} → Memᴰ x (xs ++ y ∷ []) → Memᴰ x xs ⊎ (x ≡ y)
  front-or-end [] {y = y} (mathlib.Core.List.Memᴰ.tail m) = elim m [ ]
  front-or-end [] (Memᴰ.head e) = inr e
  front-or-end (z ∷ xs) (Memᴰ.head e) = inl (Memᴰ.head e)
  front-or-end (z ∷ xs) (Memᴰ.tail m) = ⊎_elim (λ n. inl (Memᴰ.tail n)) inr (front-or-end xs m)

-- a number more that does not occur
distinct_more : (ks : List ℕ) (k : ℕ) → distinct eqb ks ≡ true → any (λ x. eqb k x) ks ≡ false
    → distinct eqb (ks ++ k ∷ []) ≡ true
distinct_more [] k d n = refl
distinct_more (x ∷ ks) k d n =
    let test : Bool = any (eqb x) ks in
    let apart : test ≡ false = fails test (λ e. clash (and_left_lem (not test) _ d) (ap not e)) in
    let other : eqb x k ≡ false = ne_eqb x k (λ e. clash (eq-eqb k x (sym e)) (or-false-left (eqb k x) _ n)) in
    let none : any (eqb x) (ks ++ k ∷ []) ≡ false =
    any_append (eqb x) ks (k ∷ []) ∙ or-false apart (or-false other refl) in
    and_intro (not-intro none) (distinct_more ks k (and_right (not test) _ d) (or-false-right (eqb k x) _ n))

-- of elements with numbers that are distinct, two with one number are one
module _ {A : Type 0} (f : A → ℕ) where
  first_alone : (c : A) (cs : List A) → distinct eqb (map f (c ∷ cs)) ≡ true → {x : A} → Memᴰ x cs → f c ≡ f x → ⊥
  first_alone c cs d {x} m q =
      clash (and_left_lem (not (any (eqb (f c)) (map f cs))) _ d)
      (ap not (any-map (eqb (f c)) f cs ∙ member_any (λ z. eqb (f c) (f z)) m (eq-eqb (f c) (f x) q)))

  one_with : (cs : List A) → distinct eqb (map f cs) ≡ true → {x y : A} → Memᴰ x cs → Memᴰ y cs → f x ≡ f y
      → x ≡ y
  one_with [] d {y = y} x6 _ q = elim x6 [ ]
  one_with (c ∷ cs) d (Memᴰ.head e) (Memᴰ.head g) q = e ∙ sym g
  one_with (c ∷ cs) d (Memᴰ.head e) (Memᴰ.tail m) q = absurd (first_alone c cs d m (sym (ap f e) ∙ q))
  one_with (c ∷ cs) d (Memᴰ.tail m) (Memᴰ.head g) q = absurd (first_alone c cs d m (sym (ap f g) ∙ sym q))
  one_with (c ∷ cs) d (Memᴰ.tail m) (Memᴰ.tail n) q =
      one_with cs (and_right (not (any (eqb (f c)) (map f cs))) _ d) m n q

-- ---- the first with each identifier

abbrev known : Insert → List Insert → Bool
known x is = any (λ j. same x.id j.id) is

-- what one insert more makes of those that were kept
abbrev and_one : List Insert → Insert → List Insert
and_one is x = cond (known x is) is (is ++ x ∷ [])

kept-last : (kept is : List Insert) (x : Insert) → kept_once kept (is ++ x ∷ []) ≡ and_one (kept_once kept is) x
unfolding kept_once
kept-last kept [] x = refl
kept-last kept (i ∷ is) x = go (known i kept) refl (kept-last kept is x) (kept-last (kept ++ i ∷ []) is x)
  where
    go : (b : Bool) → known i kept ≡ b → kept_once kept (is ++ x ∷ []) ≡ and_one (kept_once kept is) x
        → kept_once (kept ++ i ∷ []) (is ++ x ∷ []) ≡ and_one (kept_once (kept ++ i ∷ []) is) x
        → kept_once kept (i ∷ is ++ x ∷ []) ≡ and_one (kept_once kept (i ∷ is)) x
    go true e old new = rw e old
    go false e old new = rw e new

kept_member : (kept is : List Insert) {x : Insert} → Memᴰ x (kept_once kept is) → Memᴰ x kept ⊎ Memᴰ x is
unfolding kept_once
kept_member kept [] m = inl m
kept_member kept (i ∷ is) {x} m = go (known i kept) refl (kept_member kept is) (kept_member (kept ++ i ∷ []) is)
  where
    go : (b : Bool) → known i kept ≡ b → (Memᴰ x (kept_once kept is) → Memᴰ x kept ⊎ Memᴰ x is)
        → (Memᴰ x (kept_once (kept ++ i ∷ []) is) → Memᴰ x (kept ++ i ∷ []) ⊎ Memᴰ x is)
        → Memᴰ x kept ⊎ Memᴰ x (i ∷ is)
    go true e old new = ⊎_elim inl (λ n. inr (Memᴰ.tail n)) (old (rw e at m))
    go false e old new =
        ⊎_elim (λ n. ⊎_elim inl (λ q. inr (Memᴰ.head q)) (front-or-end kept n)) (λ n. inr (Memᴰ.tail n))
        (new (rw e at m))

no_member : {x : Insert} {B : Type 0} → Memᴰ x [] → B
no_member m = clash (every_member (λ (y : Insert). false) {xs = []} refl m) refl

firsts_member : (is : List Insert) {x : Insert} → Memᴰ x (firsts is) → Memᴰ x is
firsts_member is m = ⊎_elim no_member (λ n. n) (kept_member [] is m)

-- ---- inserts and their numbers

agreed : (is : List Insert) → ((x y : Insert) → Memᴰ x is → Memᴰ y is → same x.id y.id ≡ true → x ≡ y)
    → disagreeing is ≡ false
unfolding disagreeing
agreed is one =
    none_any (λ (x : Insert). any (disagree x) is) is
    (λ x u. none_any (disagree x) is (λ y v. no_disagreement (one x y u v)))

-- two inserts in range in slots of an array
module _ (xs : List ℕ) (i j : ℕ) {x y : Insert} (p : KeyedInsert x) (q : KeyedInsert y)
    (a : NumbersAt xs i x)
    (b : NumbersAt xs j y)
    (e : key_at xs i ≡ key_at xs j) where
  one-id : x.id ≡ y.id
  one-id = key-injective x.id y.id p.id q.id (sym a.id ∙ e ∙ b.id)

  abbrev test : ℕ → Bool
  test k = eqb (get_or (column 1024 k xs) i 0) (get_or (column 1024 k xs) j 0)

  -- the same fields make one insert
  same-one : same_fields xs i j ≡ true → x ≡ y
  unfolding same_fields
  same-one s =
      let told = three (test 1) (test 2) (test 3) s in
      let earlier = key-injective x.previous y.previous p.previous q.previous
      (sym a.previous ∙ eqb-true _ _ told.0 ∙ b.previous) in
      let later = key-injective x.next y.next p.next q.next
      (sym a.next ∙ eqb-true _ _ told.1 ∙ b.next) in
      let point : x.code_point ≡ y.code_point = sym a.point ∙ eqb-true _ _ told.2 ∙ b.point in
      λ k. record { id = one-id k; code_point = point k; previous = earlier k; next = later k }

  same-fields : same_insert x y ≡ true → same_fields xs i j ≡ true
  unfolding same_insert same_fields
  same-fields g =
      let told =
      four (same x.id y.id) (eqb x.code_point y.code_point) (same x.previous y.previous)
      (same x.next y.next) g in
      and_intro
      (and_intro (eq-eqb _ _ (a.previous ∙ ap key (same-eq x.previous y.previous told.2) ∙ sym b.previous))
      (eq-eqb _ _ (a.next ∙ ap key (same-eq x.next y.next told.3) ∙ sym b.next)))
      (eq-eqb _ _ (a.point ∙ eqb-true _ _ told.1 ∙ sym b.point))

  -- and others disagree
  other_disagrees : same_fields xs i j ≡ false → disagree x y ≡ true
  unfolding disagree
  other_disagrees s = and_intro (eq-same one-id) (not-intro (fails (same_insert x y) (λ g. clash (same-fields g) s)))

-- ---- the loop of `keep_once`

-- the first i of the inserts, sifted into the first c slots
pub record Sifting (is : List Insert) (xs : List ℕ) (i c : ℕ) : Type 0 where
  pub kept : InsertsIn xs (firsts (take i is))
  pub count : c ≡ length (firsts (take i is))
  pub all : (x : Insert) → Memᴰ x (take i is) → Memᴰ x (firsts (take i is))

-- the inserts from i on lie where they lay
pub record Behind (before xs : List ℕ) (i : ℕ) : Type 0 where
  pub ids : drop i (column 1024 0 xs) ≡ drop i (column 1024 0 before)
  pub previous : drop i (column 1024 1 xs) ≡ drop i (column 1024 1 before)
  pub next : drop i (column 1024 2 xs) ≡ drop i (column 1024 2 before)
  pub points : drop i (column 1024 3 xs) ≡ drop i (column 1024 3 before)

module _ {before xs : List ℕ} {i : ℕ} (b : Behind before xs i) where
  -- so what lies at i is what lay there
  here : (ys zs : List ℕ) → drop i ys ≡ drop i zs → get_or ys i 0 ≡ get_or zs i 0
  here ys zs e =
      let same : i + 0 ≡ i = omega arith in
      let first : (us : List ℕ) → get_or (drop i us) 0 0 ≡ get_or us i 0 =
      λ us. get_or-drop i us 0 0 ∙ ap (λ (k : ℕ). get_or us k 0) same in
      sym (first ys) ∙ ap (λ (us : List ℕ). get_or us 0 0) e ∙ first zs

  lies : {x : Insert}
      → NumbersAt before i x
      → NumbersAt xs i x
  lies g =
      record {
        id = here (column 1024 0 xs) (column 1024 0 before) b.ids ∙ g.id;
        previous = here (column 1024 1 xs) (column 1024 1 before) b.previous ∙ g.previous;
        next = here (column 1024 2 xs) (column 1024 2 before) b.next ∙ g.next;
        point = here (column 1024 3 xs) (column 1024 3 before) b.points ∙ g.point;
      }

  onward : (ys zs : List ℕ) → drop i ys ≡ drop i zs → drop (i + 1) ys ≡ drop (i + 1) zs
  onward ys zs e = sym (drop-drop 1 i ys) ∙ ap (drop 1) e ∙ drop-drop 1 i zs

  later : Behind before xs (i + 1)
  later =
      record {
        ids = onward (column 1024 0 xs) (column 1024 0 before) b.ids;
        previous = onward (column 1024 1 xs) (column 1024 1 before) b.previous;
        next = onward (column 1024 2 xs) (column 1024 2 before) b.next;
        points = onward (column 1024 3 xs) (column 1024 3 before) b.points;
      }

  -- and a store above them leaves them
  unmoved : (ys zs : List ℕ) (c v : ℕ) {new : List ℕ} → c ≤ i → new ≡ set ys c v → drop (i + 1) ys ≡ drop (i + 1) zs
      → drop (i + 1) new ≡ drop (i + 1) zs
  unmoved ys zs c v h q e = ap (drop (i + 1)) q ∙ drop-set-lt (i + 1) ys c v (omega (arith, h)) ∙ e

  later-moved : {ys : List ℕ} (c : ℕ) → c ≤ i → Moved xs i c ys → Behind before ys (i + 1)
  later-moved c h p =
      record {
        ids = unmoved (column 1024 0 xs) (column 1024 0 before) c _ h p.ids later.ids;
        previous = unmoved (column 1024 1 xs) (column 1024 1 before) c _ h p.previous later.previous;
        next = unmoved (column 1024 2 xs) (column 1024 2 before) c _ h p.next later.next;
        points = unmoved (column 1024 3 xs) (column 1024 3 before) c _ h p.points later.points;
      }

pub record KeepLoop (before : List ℕ) (n : ℕ) (xs : List ℕ) (t : Table) (i c : ℕ) : Type 0 where
  pub size : length xs ≡ 4096
  pub few : n ≤ 1024
  pub low : c ≤ i
  pub part : i ≤ n
  pub table : t ≡ table_of (take c (column 1024 0 xs))
  pub apart : distinct eqb (take c (column 1024 0 xs)) ≡ true
  pub rest : Behind before xs i
  pub sifting : (is : List Insert) → InsertsIn before is → n ≡ length is → every insert_in_range is ≡ true
      → Sifting is xs i c

pub keep-begun : (xs : List ℕ) (n : ℕ) {t : Table} → length xs ≡ 4096 → n ≤ 1024 → t ≡ table_of (take 0 xs)
    → KeepLoop xs n xs t 0 0
unfolding kept_once
keep-begun xs n h f e =
    record {
      size = h;
      few = f;
      low = omega arith;
      part = omega arith;
      table = e;
      apart = refl;
      rest = record { ids = refl; previous = refl; next = refl; points = refl };
      sifting = λ is a m r. record {
        kept = record { size = h; few = omega arith; ids = refl; previous = refl; next = refl; points = refl };
        count = refl;
        all = λ x m. m;
      };
    }

-- the filler of slots that are read beyond a list
abbrev none : Insert
none = record { id = begin; code_point = 0; previous = begin; next = begin }

module _ {before : List ℕ} {n : ℕ} {xs : List ℕ} {t : Table} {i c : ℕ} (l : KeepLoop before n xs t i c) where
  wide : (j : ℕ) → j < 4 → length (column 1024 j xs) ≡ 1024
  wide j h = column-length 1024 j xs (omega (arith, l.size))

  pub keep_tabled : Tabled t (take c xs)
  keep_tabled =
      let same : take c (column 1024 0 xs) ≡ take c xs = key-front xs c (omega (arith, l.low, l.part, l.few)) in
      subst (λ (u : Table). Tabled u (take c xs)) (sym l.table)
      (subst (λ (ks : List ℕ). Tabled (table_of (take c (column 1024 0 xs))) ks) same
      (tabled (take c (column 1024 0 xs)) l.apart
      (omega (arith, length-take c (column 1024 0 xs), l.low, l.part, l.few))))

  pub keep_sized : Sized t
  keep_sized = record { heads = keep_tabled.heads; links = keep_tabled.links }

  -- two that disagree leave the table as it was
  pub conflict_sized : (ys : List ℕ) (u : Table) → Sifted xs t i c ys u None (sought xs i c) → Sized u
  conflict_sized ys u f = go (sought xs i c) f
    where
      go : (w : Option ℕ) → Sifted xs t i c ys u None w → Sized u
      go (Some j) g = subst Sized (sym g.1) keep_sized
      go None g = none-some g.2

  -- no insert is left
  module _ (h : n ≤ i) where
    pub keep-end : (is : List Insert) → InsertsIn before is → n ≡ length is → every insert_in_range is ≡ true
        → KeptFirsts is xs c
    keep-end is a m r =
        let s = l.sifting is a m r in
        let whole : take i is ≡ is = take_all i is (omega (arith, h, m)) in
        let f : InsertsIn xs (firsts is) = rw whole at s.kept in
        let size : c ≡ length (firsts is) = rw whole at s.count in
        let ids : take c (column 1024 0 xs) ≡ map (λ (k : Insert). key k.id) (firsts is) =
        ap (λ (k : ℕ). take k (column 1024 0 xs)) size ∙ f.ids in
        let one : (x y : Insert) → Memᴰ x is → Memᴰ y is → same x.id y.id ≡ true → x ≡ y =
        λ x y u v e.
        one_with (λ (k : Insert). key k.id) (firsts is) (rw ids at l.apart) (rw whole at s.all x u)
        (rw whole at s.all y v) (ap key (same-eq x.id y.id e)) in
        let agree : disagreeing is ≡ false = agreed is one in
        record { agree = agree; kept = f; count = size }

  module _
      (h : i < n) (is : List Insert) (a : InsertsIn before is) (m : n ≡ length is)
      (r : every insert_in_range is ≡ true) where
    abbrev this : Insert
    this = get_or is i none

    abbrev those : List Insert
    those = firsts (take i is)

    s : Sifting is xs i c
    s = l.sifting is a m r

    this_in : Memᴰ this is
    this_in = get_member is i none (omega (arith, h, m))

    numbers : NumbersAt xs i this
    numbers = lies l.rest (numbers_at a i none (omega (arith, h, m)))

    more : take (i + 1) is ≡ take i is ++ this ∷ []
    more = ap (λ (k : ℕ). take k is) (add-one i) ∙ take-suc is i none (omega (arith, h, m))

    sifted : firsts (take (i + 1) is) ≡ cond (known this those) those (those ++ this ∷ [])
    sifted = ap firsts more ∙ kept-last [] (take i is) this

    ranged : {x : Insert} → Memᴰ x is → KeyedInsert x
    ranged {x} u = keyed x (every_member insert_in_range r u)

    those_in : {x : Insert} → Memᴰ x those → Memᴰ x is
    those_in u = take_member i is (firsts_member (take i is) u)

    -- its key is found
    module _ (j : ℕ) (e : sought xs i c ≡ Some j) where
      places : FoundAt (λ x. eqb (key_at xs i) x) (take c xs) j
      unfolding found
      places = first_says (λ x. eqb (key_at xs i) x) (take c xs) e

      within : j < c
      within = omega (arith, places.within, length-take c xs)

      that_there : j < length those
      that_there = omega (arith, within, s.count)

      abbrev that : Insert
      that = get_or those j none

      that_in : Memᴰ that those
      that_in = get_member those j none that_there

      one_key : key_at xs i ≡ key_at xs j
      one_key =
          eqb-true _ _ places.passes ∙ sym (places.at 0) ∙ get_or-take c xs j 0 within
          ∙ sym (get_or-take 1024 xs j 0 (omega (arith, within, l.low, l.part, l.few)))

      those_numbers : NumbersAt xs j that
      those_numbers = numbers_at s.kept j none that_there

      repeated : same_fields xs i j ≡ true → Sifting is xs (i + 1) c
      repeated g =
          let same-as : this ≡ that =
          same-one xs i j (ranged this_in) (ranged (those_in that_in)) numbers those_numbers one_key g in
          let is_known : known this those ≡ true =
          member_any (λ (k : Insert). same this.id k.id) that_in (eq-same (ap (λ (x : Insert). x.id) same-as)) in
          let still : firsts (take (i + 1) is) ≡ those = sifted ∙ rw is_known in
          record {
            kept = rw still s.kept;
            count = rw still s.count;
            all = λ x u.
                rw still
                (⊎_elim (λ v. s.all x v) (λ v. subst (λ (y : Insert). Memᴰ y those) (sym (v ∙ same-as)) that_in)
                (front-or-end (take i is) (rw more at u)));
          }

      conflicting : same_fields xs i j ≡ false → disagreeing is ≡ true
      unfolding disagreeing
      conflicting g =
          let pair =
          other_disagrees xs i j (ranged this_in) (ranged (those_in that_in)) numbers those_numbers one_key g in
          member_any (λ (x : Insert). any (disagree x) is) this_in (member_any (disagree this) (those_in that_in) pair)

    -- it is not
    module _ (e : sought xs i c ≡ None) {ys : List ℕ} (p : Moved xs i c ys) where
      ids : map (λ (k : Insert). key k.id) those ≡ take c xs
      ids =
          sym s.kept.ids ∙ ap (λ (k : ℕ). take k (column 1024 0 xs)) (sym s.count)
          ∙ key-front xs c (omega (arith, l.low, l.part, l.few))

      absent : any (λ k. eqb (key_at xs i) (key k.id)) those ≡ false
      unfolding found
      absent =
          sym (any-map (λ x. eqb (key_at xs i) x) (λ (k : Insert). key k.id) those)
          ∙ ap (any (λ x. eqb (key_at xs i) x)) ids
          ∙ first_says (λ x. eqb (key_at xs i) x) (take c xs) e

      unknown : known this those ≡ false
      unknown =
          none_any (λ (k : Insert). same this.id k.id) those
          (λ y v. fails (same this.id y.id)
          (λ g. clash (eq-eqb _ _ (numbers.id ∙ ap key (same-eq this.id y.id g)))
          (any_none (λ (k : Insert). eqb (key_at xs i) (key k.id)) absent v)))

      kept-one-more : Sifting is ys (i + 1) (c + 1)
      kept-one-more =
          let still : firsts (take (i + 1) is) ≡ those ++ this ∷ [] = sifted ∙ rw unknown in
          record {
            kept = rw still (insert_pushed this c s.kept s.count (omega (arith, h, l.low, l.few)) numbers p);
            count = rw still (omega (arith, s.count, length-append those (this ∷ [])));
            all = λ x u.
                rw still
                (⊎_elim (λ v. in_front (this ∷ []) (s.all x v)) (λ v. at-end those v)
                (front-or-end (take i is) (rw more at u)));
          }

  -- one insert more
  module _ (h : i < n) where
    again : (j : ℕ) → sought xs i c ≡ Some j → same_fields xs i j ≡ true → KeepLoop before n xs t (i + 1) c
    again j e g =
        record {
          size = l.size;
          few = l.few;
          low = omega (arith, l.low);
          part = omega (arith, h);
          table = l.table;
          apart = l.apart;
          rest = later l.rest;
          sifting = λ is a m d. repeated h is a m d j e g;
        }

    anew : (ys : List ℕ) (u : Table) → sought xs i c ≡ None → Moved xs i c ys → u ≡ entered t c (key_at xs i)
        → KeepLoop before n ys u (i + 1) (c + 1)
    unfolding found
    anew ys u e p q =
        let k = key_at xs i in
        let room : c < length (column 1024 0 xs) = omega (arith, h, l.low, l.few, wide 0 (omega arith)) in
        let before-it : take c (column 1024 0 ys) ≡ take c (column 1024 0 xs) =
        ap (take c) p.ids ∙ take-set-le c (column 1024 0 xs) c k (omega arith) in
        let at-it : get_or (column 1024 0 ys) c 0 ≡ k =
        ap (λ (zs : List ℕ). get_or zs c 0) p.ids ∙ get_or-set_same (column 1024 0 xs) c k 0 room in
        let longer : take (c + 1) (column 1024 0 ys) ≡ take c (column 1024 0 xs) ++ k ∷ [] =
        ap (λ (m : ℕ). take m (column 1024 0 ys)) (add-one c) ∙ ap (take (suc c)) p.ids
        ∙ take-suc-set (column 1024 0 xs) c k room in
        let front : take c (column 1024 0 xs) ≡ take c xs = key-front xs c (omega (arith, l.low, l.part, l.few)) in
        let absent : any (λ x. eqb k x) (take c (column 1024 0 xs)) ≡ false =
        ap (any (λ x. eqb k x)) front ∙ first_says (λ x. eqb k x) (take c xs) e in
        record {
          size = p.size ∙ l.size;
          few = l.few;
          low = omega (arith, l.low);
          part = omega (arith, h);
          table =
              enter (column 1024 0 ys) c
              (omega (arith, room, wide 0 (omega arith), column-length 1024 0 ys (omega (arith, p.size, l.size))))
              (l.table ∙ ap table_of (sym before-it)) (ap (entered t c) at-it ∙ sym q);
          apart = rw longer (distinct_more (take c (column 1024 0 xs)) k l.apart absent);
          rest = later-moved l.rest c l.low p;
          sifting = λ is a m d. kept-one-more h is a m d e p;
        }

    pub keep-more : (ys : List ℕ) (u : Table) (r : ℕ) → Sifted xs t i c ys u (Some r) (sought xs i c)
        → KeepLoop before n ys u (i + 1) r
    keep-more ys u r f = go (sought xs i c) refl f
      where
        go : (w : Option ℕ) → sought xs i c ≡ w → Sifted xs t i c ys u (Some r) w → KeepLoop before n ys u (i + 1) r
        go (Some j) q g = let w = some_told (same_fields xs i j) g.2 in rw (g.0, g.1, w.1) (again j q w.0)
        go None q g = let e : r ≡ c + 1 = some-same g.2 in rw e (anew ys u q g.0 g.1)

    pub keep_conflict : (ys : List ℕ) (u : Table) → Sifted xs t i c ys u None (sought xs i c)
        → (is : List Insert) → InsertsIn before is → n ≡ length is → every insert_in_range is ≡ true
        → disagreeing is ≡ true
    keep_conflict ys u f is a m d = go (sought xs i c) refl f
      where
        go : (w : Option ℕ) → sought xs i c ≡ w → Sifted xs t i c ys u None w → disagreeing is ≡ true
        go (Some j) q g = conflicting h is a m d j q (none_told (same_fields xs i j) c g.2)
        go None q g = none-some g.2
