-- For the proofs of the code too: the sequence in which inserts are sent has each of them once, and each is the one
-- that the paper chooses of those that are left; where they have grown it comes after all it needs.
use Prim.Native.Nat.{ℕ, zero, suc, ◌≤◌}
use native.Mathlib.Omega.{arith}
use mathlib.Core.Path.{◌≡◌, refl, ap, ap₂, sym, ◌∙◌, subst}
use mathlib.Core.Bool.{Bool, true, false, ◌&&◌, not, cond}
use mathlib.Core.Option.{some}
use mathlib.Core.Logic.{◌⊎◌, inl, inr, ⊎_elim, ◌↔◌}
use mathlib.Core.List.Memᴰ
use mathlib.Core.List.{List, [], ◌∷◌, ◌++◌, map, Memᴰ}
use mathlib.Core.List.{nil≢cons, head-eq_of_cons-eq, tail-eq_of_cons-eq}
use lib.ListN.{length}
use borrow.Author.Tests.{not-true}
use Rattle.lists.specs.Lists.{any, keep, distinct}
use Rattle.lists.proofs.Tests.{either, clash, and_left_lem, and_right, not-intro, fails, agree, some-eq, no-some}
use Rattle.lists.proofs.Members.{any_none, member_keep, keep_member}
use Rattle.woot.specs.declared.Identifier.{Identifier}
use Rattle.woot.specs.declared.Character.{Character}
use Rattle.woot.specs.Identifiers.{same, below}
use Rattle.woot.specs.Placing.{identifiers}
use Rattle.bulk.specs.Loading.{among, free}
use Rattle.bulk.specs.Catching.{lowest, lowest_of, next_sent, without, sequenced, unlisted, sent}
use Rattle.convergence.specs.Agreement.{Births}
use Rattle.convergence.specs.Catching.{SentAre, SentCount, Chosen, SentFree}
use Rattle.convergence.proofs.Identifiers.{same-eq, eq-same, same_sym, same-ne, below_irrefl}
use Rattle.convergence.proofs.Identifiers.{below-trans, below_total}
use Rattle.convergence.proofs.Part.{Part, none as no_part, skip, keeps, part-distinct, part-map}
use Rattle.convergence.proofs.Peeling.{member_among, among_member, keep_all, some-free}

-- ---- one identifier, one element

keep-part : {A : Type 0} (p : A → Bool) (xs : List A) → Part (keep p xs) xs
keep-part p [] = no_part
keep-part p (x ∷ xs) = go (p x) (keep-part p xs)
  where
    go : (b : Bool) → Part (keep p xs) xs → Part (cond b (x ∷ keep p xs) (keep p xs)) (x ∷ xs)
    go true r = keeps r
    go false r = skip r

pub keep_apart : (p : Character → Bool) (cs : List Character) → distinct same (identifiers cs) ≡ true
    → distinct same (identifiers (keep p cs)) ≡ true
keep_apart p cs d = part-distinct same (part-map (λ (c : Character). c.id) (keep-part p cs)) d

pub distinct-one : {A : Type 0} (f : A → Identifier) (xs : List A) → distinct same (map f xs) ≡ true → {x y : A}
    → Memᴰ x xs → Memᴰ y xs → f x ≡ f y → x ≡ y
distinct-one {A = A} f [] d {x = x} {y = y} m n e = elim m [ ]
distinct-one f (z ∷ zs) d {x} {y} m n e =
    go m n (λ a b. distinct-one f zs (and_right (not (any (same (f z)) (map f zs))) (distinct same (map f zs)) d) a b e)
  where
    others : any (same (f z)) (map f zs) ≡ false
    others =
        not-true (any (same (f z)) (map f zs))
        (and_left_lem (not (any (same (f z)) (map f zs))) (distinct same (map f zs)) d)

    go : Memᴰ x (z ∷ zs) → Memᴰ y (z ∷ zs) → (Memᴰ x zs → Memᴰ y zs → x ≡ y) → x ≡ y
    go (Memᴰ.head a) (Memᴰ.head b) r = a ∙ sym b
    go (Memᴰ.head a) (Memᴰ.tail b) r =
        clash (eq-same (sym (ap f a) ∙ e)) (any_none (same (f z)) others (Memᴰ.map f b))
    go (Memᴰ.tail a) (Memᴰ.head b) r =
        clash (eq-same (sym (ap f b) ∙ sym e)) (any_none (same (f z)) others (Memᴰ.map f a))
    go (Memᴰ.tail a) (Memᴰ.tail b) r = r a b

-- ---- the lowest

-- what is not below one that is not above another is not below that either
not_lower : (x y z : Identifier) → below y x ≡ false → below x z ≡ false → below y z ≡ false
not_lower x y z a b =
    fails (below y z) (λ h. ⊎_elim
    (λ e. clash (subst (λ (w : Identifier). below w z ≡ true) (sym (same-eq x y e)) h) b)
    (λ e. clash (below-trans x y z (below_total y x (λ q. same-ne x y e (sym q)) a) h) b) (either (same x y)))

lowest_member : (c : Character) (cs : List Character) → Memᴰ (lowest c cs) (c ∷ cs)
unfolding lowest
lowest_member c [] = Memᴰ.head refl
lowest_member c (d ∷ ds) = go (below d.id c.id) (lowest_member (cond (below d.id c.id) d c) ds)
  where
    go : (b : Bool) → Memᴰ (lowest (cond b d c) ds) (cond b d c ∷ ds)
        → Memᴰ (lowest (cond b d c) ds) (c ∷ d ∷ ds)
    go true m = Memᴰ.tail m
    go false m =
        ⊎_elim (λ e. Memᴰ.head e) (λ n. Memᴰ.tail (Memᴰ.tail n)) (Memᴰ.cases_cons m)

irreflexive : (x : Identifier) → below x x ≡ false
irreflexive x = fails (below x x) (below_irrefl x)

pub lowest-least : (c : Character) (cs : List Character) (e : Character) → Memᴰ e (c ∷ cs)
    → below e.id (lowest c cs).id ≡ false
unfolding lowest
lowest-least c [] e m =
    ⊎_elim (λ q. rw q (irreflexive c.id)) (λ n. absurd (Memᴰ.not-nil n)) (Memᴰ.cases_cons m)
lowest-least c (d ∷ ds) e m =
    go (below d.id c.id) refl (lowest-least (cond (below d.id c.id) d c) ds) (Memᴰ.cases_cons m)
  where
    Least : Character → Type 0
    Least l = (a : Character) → Memᴰ a (l ∷ ds) → below a.id (lowest l ds).id ≡ false

    go : (b : Bool) → below d.id c.id ≡ b → Least (cond b d c) → (e ≡ c) ⊎ Memᴰ e (d ∷ ds)
        → below e.id (lowest (cond b d c) ds).id ≡ false
    go true h r (inl q) =
        rw q (fails (below c.id (lowest d ds).id) (λ v.
        clash (below-trans d.id c.id (lowest d ds).id h v) (r d (Memᴰ.head refl))))
    go true h r (inr n) = r e n
    go false h r (inl q) = r e (Memᴰ.head q)
    go false h r (inr n) =
        ⊎_elim (λ q. rw q (not_lower c.id d.id (lowest c ds).id h (r c (Memᴰ.head refl))))
        (λ v. r e (Memᴰ.tail v)) (Memᴰ.cases_cons n)

-- ---- the next

pub sequenced-step : (n : ℕ) (left : List Character) (c : Character) → next_sent left ≡ some c
    → sequenced (suc n) left ≡ c ∷ sequenced n (without c left)
unfolding sequenced
sequenced-step n left c e = rw (e, sequenced)

pub sequenced-end : (n : ℕ) → sequenced n [] ≡ []
unfolding sequenced next_sent lowest_of
sequenced-end zero = refl
sequenced-end (suc n) = refl

-- it is one of those that are left, as the paper chooses it
pub next-chosen : (left : List Character) (c : Character) → next_sent left ≡ some c → Memᴰ c left × Chosen left c
unfolding next_sent lowest_of
next-chosen left c e = go left (keep (free left) left) refl e
  where
    go : (all frees : List Character) → keep (free all) all ≡ frees → lowest_of all frees ≡ some c
        → Memᴰ c all × Chosen all c
    go all (f ∷ fs) k q =
        let m = subst (λ (d : Character). Memᴰ d (f ∷ fs)) (some-eq q) (lowest_member f fs) in
        let w = keep_member (free all) all (subst (Memᴰ c) (sym k) m) in (
          w.0,
          (
            λ d m h. (
              w.1,
              subst (λ (a : Character). below d.id a.id ≡ false) (some-eq q)
                  (lowest-least f fs d (subst (Memᴰ d) k (member_keep (free all) m h))),
            ),
            λ all-bound d m. clash w.1 (all-bound c w.0),
          ),
        )
    go [] [] k q = no-some q
    go (l ∷ ls) [] k q = (
      subst (λ (d : Character). Memᴰ d (l ∷ ls)) (some-eq q) (lowest_member l ls),
      (
        λ d m h. absurd (Memᴰ.not-nil (subst (Memᴰ d) k (member_keep (free (l ∷ ls)) m h))),
        λ all-bound d m. subst (λ (a : Character). below d.id a.id ≡ false) (some-eq q) (lowest-least l ls d m),
      ),
    )

-- where any are left there is one
pub next-some : (d : Character) (left : List Character) → (c : Character) × (next_sent (d ∷ left) ≡ some c)
unfolding next_sent lowest_of
next-some d left = go (keep (free (d ∷ left)) (d ∷ left))
  where
    go : (frees : List Character) → (c : Character) × (lowest_of (d ∷ left) frees ≡ some c)
    go [] = (lowest d left, refl)
    go (f ∷ fs) = (lowest f fs, refl)

-- and there is no other that the paper could choose
pub chosen-next : (left : List Character) → distinct same (identifiers left) ≡ true → (c : Character)
    → Memᴰ c left → Chosen left c → next_sent left ≡ some c
chosen-next [] d c m h = absurd (Memᴰ.not-nil m)
chosen-next (l ∷ ls) d c m h =
    let w = next-some l ls in
    let v = next-chosen (l ∷ ls) w.0 w.1 in
    w.1 ∙ ap some (one w.0 v.0 v.1 (either (free (l ∷ ls) w.0)))
  where
    level : (e : Character) → Memᴰ e (l ∷ ls) → below e.id c.id ≡ false → below c.id e.id ≡ false
        → e ≡ c
    level e n a b =
        ⊎_elim (λ q. distinct-one (λ (k : Character). k.id) (l ∷ ls) d n m (same-eq e.id c.id q))
        (λ q. clash (below_total e.id c.id (same-ne e.id c.id q) a) b) (either (same e.id c.id))

    one : (e : Character) → Memᴰ e (l ∷ ls) → Chosen (l ∷ ls) e
        → (free (l ∷ ls) e ≡ true) ⊎ (free (l ∷ ls) e ≡ false) → e ≡ c
    one e n v (inl f) =
        let a = h.0 e n f in
        level e n a.1 (v.0 c m a.0).1
    one e n v (inr f) =
        let bound : (k : Character) → Memᴰ k (l ∷ ls) → free (l ∷ ls) k ≡ false =
        λ k q. fails (free (l ∷ ls) k) (λ g. clash (v.0 k q g).0 f) in
        level e n (h.1 bound e n) (v.1 bound c m)

-- ---- the whole sequence

-- each is chosen of itself and those after it
abbrev pub Choosing : List Character → Type 0
Choosing [] = Unit
Choosing (c ∷ cs) = Chosen (c ∷ cs) c × Choosing cs

abbrev pub SameMembers : List Character → List Character → Type 0
SameMembers cs ds = (c : Character) → Memᴰ c cs ↔ Memᴰ c ds

among-alike : (cs ds : List Character) → SameMembers cs ds → (x : Identifier) → among cs x ≡ among ds x
among-alike cs ds f x =
    agree (among cs x) (among ds x)
    (λ h. let w = among_member cs x h in
    subst (λ (y : Identifier). among ds y ≡ true) (sym w.2) (member_among ((f w.0).0 w.1)))
    (λ h. let w = among_member ds x h in
    subst (λ (y : Identifier). among cs y ≡ true) (sym w.2) (member_among ((f w.0).1 w.1)))

free-alike : (cs ds : List Character) → SameMembers cs ds → (c : Character) → free cs c ≡ free ds c
unfolding free
free-alike cs ds f c =
    ap₂ (λ (a b : Bool). not a && not b) (among-alike cs ds f c.previous) (among-alike cs ds f c.next)

chosen-alike : (cs ds : List Character) → SameMembers cs ds → (c : Character) → Chosen cs c → Chosen ds c
chosen-alike cs ds f c h = (
  λ d m k. let w = h.0 d ((f d).1 m) (free-alike cs ds f d ∙ k) in (sym (free-alike cs ds f c) ∙ w.0, w.1),
  λ bound d m. h.1 (λ e n. free-alike cs ds f e ∙ bound e ((f e).0 n)) d ((f d).1 m),
)

pub record Sequenced (left os : List Character) : Type 0 where
  pub members : SameMembers left os
  pub count : length os ≡ length left
  pub choosing : Choosing os

pub without-length : (c : Character) (left : List Character) → distinct same (identifiers left) ≡ true
    → Memᴰ c left → suc (length (without c left)) ≡ length left
unfolding without
without-length c [] a m = elim m [ ]
without-length c (d ∷ ds) a m = go (Memᴰ.cases_cons m) (without-length c ds rest)
  where
    rest : distinct same (identifiers ds) ≡ true
    rest = and_right (not (any (same d.id) (identifiers ds))) (distinct same (identifiers ds)) a

    apart : (e : Character) → Memᴰ e ds → same d.id e.id ≡ false
    apart e n =
        any_none (same d.id)
        (not-true (any (same d.id) (identifiers ds))
        (and_left_lem (not (any (same d.id) (identifiers ds))) (distinct same (identifiers ds)) a))
        (Memᴰ.map (λ (b : Character). b.id) n)

    go : (c ≡ d) ⊎ Memᴰ c ds → (Memᴰ c ds → suc (length (without c ds)) ≡ length ds)
        → suc (length (without c (d ∷ ds))) ≡ suc (length ds)
    go (inl e) r =
        let h : same c.id d.id ≡ true = eq-same (ap (λ (b : Character). b.id) e) in
        rw h (ap suc (keep_all (λ b. not (same c.id b.id)) ds
        (λ b n. not-intro (subst (λ (k : Character). same k.id b.id ≡ false) (sym e) (apart b n)))))
    go (inr n) r =
        let h : same c.id d.id ≡ false = same_sym c.id d.id ∙ apart c n in
        rw h (ap suc (r n))

-- the chosen one, and the others in sequence
sequence-on : (left os : List Character) (c : Character) → distinct same (identifiers left) ≡ true → Memᴰ c left
    → Chosen left c → Sequenced (without c left) os → Sequenced left (c ∷ os)
unfolding without
sequence-on left os c d m h z =
    record {
      members = alike;
      count = ap suc z.count ∙ without-length c left d m;
      choosing = (chosen-alike left (c ∷ os) alike c h, z.choosing);
    }
  where
    other : Character → Bool
    other e = not (same c.id e.id)

    alike : SameMembers left (c ∷ os)
    alike e = (
      λ n. ⊎_elim
          (λ k. Memᴰ.head (sym (distinct-one (λ (b : Character). b.id) left d m n (same-eq c.id e.id k))))
          (λ k. Memᴰ.tail ((z.members e).0 (member_keep other n (not-intro k)))) (either (same c.id e.id)),
      λ n. ⊎_elim (λ k. subst (λ (b : Character). Memᴰ b left) (sym k) m)
          (λ k. (keep_member other left ((z.members e).1 k)).0) (Memᴰ.cases_cons n),
    )

no-sequence : Sequenced [] []
no-sequence = record { members = λ c. (λ m. m, λ m. m); count = refl; choosing = tt }

pub sequences : (n : ℕ) (left : List Character) → length left ≤ n → distinct same (identifiers left) ≡ true
    → Sequenced left (sequenced n left)
unfolding without
sequences zero [] h d = rw (sequenced-end zero) no-sequence
sequences zero (l ∷ ls) h d = absurd (omega arith)
sequences (suc n) [] h d = rw (sequenced-end (suc n)) no-sequence
sequences (suc n) (l ∷ ls) h d =
    let w = next-some l ls in
    let c = w.0 in
    let v = next-chosen (l ∷ ls) c w.1 in
    let less = without-length c (l ∷ ls) d v.0 in
    let z = sequences n (without c (l ∷ ls)) (omega (arith, less))
    (keep_apart (λ e. not (same c.id e.id)) (l ∷ ls) d) in
    rw (sequenced-step n (l ∷ ls) c w.1)
    (sequence-on (l ∷ ls) (sequenced n (without c (l ∷ ls))) c d v.0 v.1 z)

pub sent-sequence : (listed : Identifier → Bool) (cs : List Character) → distinct same (identifiers cs) ≡ true
    → Sequenced (unlisted listed cs) (sent listed cs)
unfolding unlisted sent
sent-sequence listed cs d =
    sequences (length (unlisted listed cs)) (unlisted listed cs) (omega arith)
    (keep_apart (λ c. not (listed c.id)) cs d)

pub sent-are : SentAre
unfolding unlisted
sent-are listed cs d c =
    let z = sent-sequence listed cs d in (
      λ m. let w = keep_member (λ b. not (listed b.id)) cs ((z.members c).1 m) in
          (w.0, not-true (listed c.id) w.1),
      λ w. (z.members c).0 (member_keep (λ b. not (listed b.id)) w.0 (not-intro w.1)),
    )

pub sent-count : SentCount
sent-count listed cs d = (sent-sequence listed cs d).count

-- of any way to cut the sequence in two
split-chosen : (os ps qs : List Character) (c : Character) → Choosing os → os ≡ ps ++ c ∷ qs → Chosen (c ∷ qs) c
split-chosen [] [] qs c h e = absurd (nil≢cons e)
split-chosen [] (p ∷ ps) qs c h e = absurd (nil≢cons e)
split-chosen (o ∷ os) [] qs c h e =
    subst (λ (b : Character). Chosen (b ∷ qs) b) (head-eq_of_cons-eq e)
    (subst (λ (bs : List Character). Chosen (o ∷ bs) o) (tail-eq_of_cons-eq e) h.0)
split-chosen (o ∷ os) (p ∷ ps) qs c h e = split-chosen os ps qs c h.1 (tail-eq_of_cons-eq e)

pub sent-free : SentFree
sent-free listed cs d ps qs c e = split-chosen (sent listed cs) ps qs c (sent-sequence listed cs d).choosing e

-- ---- characters that have grown

-- each is free among itself and those after it
abbrev pub EachFree : List Character → Type 0
EachFree [] = Unit
EachFree (c ∷ cs) = (free (c ∷ cs) c ≡ true) × EachFree cs

-- for of those that are left one is free
pub each_free : (cs : List Character) → Births cs → (os : List Character) → Choosing os
    → ((c : Character) → Memᴰ c os → Memᴰ c cs) → EachFree os
each_free cs b [] h f = tt
each_free cs b (o ∷ os) h f =
    let w = some-free cs b (suc (b.birth o.id)) (o ∷ os) f o (Memᴰ.head refl) (omega arith) in
    ((h.0.0 w.0 w.1 w.2).0, each_free cs b os h.1 (λ c m. f c (Memᴰ.tail m)))
