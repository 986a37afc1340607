-- Each answers the other: both have then carried out all that makes either's characters, so they have the same list.
-- One that has taken in some lines of the other's answer has carried out no more than that, and has lost nothing.
use Prim.Native.Nat.{ℕ, ◌+◌, ◌≤◌}
use native.Mathlib.Omega.{arith}
use mathlib.Core.Path.{◌≡◌, refl, ap, sym, ◌∙◌, subst}
use mathlib.Core.Bool.{true, false, not}
use mathlib.Core.Logic.{◌⊎◌, inl, inr, ⊎_elim}
use mathlib.Core.List.Memᴰ
use mathlib.Core.List.{List, [], ◌∷◌, ◌++◌, map, append-nil, Memᴰ}
use lib.ListN.{length, length-append, length-map}
use borrow.Author.Tests.{not-true}
use Rattle.lists.specs.Lists.{any, distinct}
use Rattle.lists.proofs.Tests.{either, clash, and_intro, and_left_lem, and_right, or-false, not-intro, fails}
use Rattle.lists.proofs.Members.{member_any, none_any, any_append, keep_member, member_keep}
use Rattle.woot.specs.declared.Identifier.{Identifier}
use Rattle.woot.specs.declared.Insert.{Insert}
use Rattle.woot.specs.declared.Toggle.{Toggle}
use Rattle.woot.specs.declared.Operation.{Operation}
use Rattle.woot.specs.declared.Operation.TheVariants.{Insert as insert, Toggle as toggle}
use Rattle.woot.specs.declared.Character.{Character}
use Rattle.woot.specs.Identifiers.{same}
use Rattle.woot.specs.Operations.{origin, inserts}
use Rattle.woot.specs.State.{State}
use Rattle.woot.specs.Placing.{identifiers}
use Rattle.woot.specs.Form.{present_inserts}
use Rattle.bulk.specs.Loading.{among, arrivals, turnings}
use Rattle.bulk.specs.Catching.{listing, unlisted, sent, answer_for}
use Rattle.convergence.specs.Agreement.{Grown, OneMeaning}
use Rattle.convergence.specs.Building.{received}
use Rattle.convergence.specs.Catching.{Grew, OneMeaningAsked, Space, HoldsAll, caught_up, MeetMidway, BothCatchUp}
use Rattle.convergence.proofs.Identifiers.{same_refl, same_sym}
use Rattle.convergence.proofs.Extract.{no_more}
use Rattle.convergence.proofs.Characters.{same-character}
use Rattle.convergence.proofs.Forms.{known-length}
use Rattle.convergence.proofs.Unique.{Consistent, Complete, one-meaning-of, complete-unique}
use Rattle.convergence.proofs.Progress.{Progress, later}
use Rattle.convergence.proofs.Peeling.{among_member}
use Rattle.convergence.proofs.Arrivals.{turn, toggle_eq, arrival, turning, turned_in, origin_arrives}
use Rattle.convergence.proofs.Arrivals.{arrived_origin}
use Rattle.convergence.proofs.Sequencing.{keep_apart, sent-count}
use Rattle.convergence.proofs.Catching.{pool, whose, site-number, asked, asker_kept, Advances, advances_part}
use Rattle.convergence.proofs.Catching.{advanced}

-- ---- the operations that make two lists

-- some character of the list has taken the toggle
abbrev Taken : Toggle → List Character → Type 0
Taken t cs = (b : Character) × Memᴰ b cs × (t.target ≡ b.id) × (t.toggles ≤ b.toggles)

-- a character's toggles are an operation's
abbrev Named : List Operation → Character → Type 0
Named heap b =
    (b.toggles ≡ 0)
    ⊎ ((t : Toggle) × Memᴰ (toggle t) heap × (t.target ≡ b.id) × (b.toggles ≡ t.toggles))

record Union (heap : List Operation) (cs ds : List Character) : Type 0 where
  first-in : (i : Insert) → Memᴰ i (map origin cs) → Memᴰ (insert i) heap
  second-in : (i : Insert) → Memᴰ i (map origin ds) → Memᴰ (insert i) heap
  out : (i : Insert) → Memᴰ (insert i) heap → Memᴰ i (map origin cs) ⊎ Memᴰ i (map origin ds)
  toggles-out : (t : Toggle) → Memᴰ (toggle t) heap → Taken t cs ⊎ Taken t ds
  first-named : (b : Character) → Memᴰ b cs → Named heap b
  second-named : (b : Character) → Memᴰ b ds → Named heap b

union-swap : {heap : List Operation} {cs ds : List Character} → Union heap cs ds → Union heap ds cs
union-swap u =
    record {
      first-in = u.second-in;
      second-in = u.first-in;
      out = λ i m. ⊎_elim (λ k. inr k) (λ k. inl k) (u.out i m);
      toggles-out = λ t m. ⊎_elim (λ k. inr k) (λ k. inl k) (u.toggles-out t m);
      first-named = u.second-named;
      second-named = u.first-named;
    }

-- what makes one
made : ℕ → List Character → List Operation
made n cs = arrivals cs ++ turnings n cs

toggles-of : (n : ℕ) (cs : List Character) (t : Toggle) → Memᴰ (toggle t) (arrivals cs ++ turnings n cs)
    → (b : Character) × Memᴰ b cs × (t.target ≡ b.id) × (t.toggles ≡ b.toggles)
toggles-of n cs t m =
    ⊎_elim (λ k. let q = (arrival cs k).2 in absurd (let z : ◌≡◌ {A = ℕ} 0 1 = cc in omega arith))
    (λ k. let w = turning n cs k in let q = toggle_eq w.2 in
    (w.0, w.1, ap (λ (u : Toggle). u.target) q, ap (λ (u : Toggle). u.toggles) q))
    (Memᴰ.append_cases (arrivals cs) m)

module _ (n : ℕ) (cs : List Character) where
  in_made : (i : Insert) → Memᴰ i (map origin cs) → Memᴰ (insert i) (made n cs)
  unfolding made
  in_made i m = Memᴰ.append_left (turnings n cs) (origin_arrives cs i m)

  of_made : (i : Insert) → Memᴰ (insert i) (made n cs) → Memᴰ i (map origin cs)
  unfolding made
  of_made i m = arrived_origin n cs i m

  taken_made : (t : Toggle) → Memᴰ (toggle t) (made n cs) → Taken t cs
  unfolding made
  taken_made t m = let w = toggles-of n cs t m in (w.0, w.1, w.2, omega (arith, w.3))

  named_made : (b : Character) → Memᴰ b cs → Named (made n cs) b
  unfolding made
  named_made b m =
      ⊎_elim (λ z. inl z) (λ k. inr (turn n b, Memᴰ.append_right (arrivals cs) k, refl, refl)) (turned_in n cs m)

both-union : (m n : ℕ) (cs ds : List Character) → Union (made m cs ++ made n ds) cs ds
both-union m n cs ds =
    let one = made m cs in
    let two = made n ds in
    record {
      first-in = λ i k. Memᴰ.append_left two (in_made m cs i k);
      second-in = λ i k. Memᴰ.append_right one (in_made n ds i k);
      out = λ i k. ⊎_elim (λ l. inl (of_made m cs i l)) (λ l. inr (of_made n ds i l)) (Memᴰ.append_cases one k);
      toggles-out =
          λ t k. ⊎_elim (λ l. inl (taken_made m cs t l)) (λ l. inr (taken_made n ds t l))
          (Memᴰ.append_cases one k);
      first-named =
          λ b k. ⊎_elim (λ z. inl z) (λ t. inr (t.0, Memᴰ.append_left two t.1, t.2, t.3)) (named_made m cs b k);
      second-named =
          λ b k. ⊎_elim (λ z. inl z) (λ t. inr (t.0, Memᴰ.append_right one t.1, t.2, t.3)) (named_made n ds b k);
    }

-- ---- one of the two

-- where nothing waits
one_asked : (s : State) (ds : List Character) → s.pending ≡ [] → OneMeaning s.characters ds → OneMeaningAsked s ds
unfolding present_inserts origin
one_asked s ds none one i d m n e =
    ⊎_elim (λ k. let w = Memᴰ.of_map origin s.characters k in
    sym w.2 ∙ one w.0 d w.1 n (ap (λ (j : Insert). j.id) w.2 ∙ e))
    (λ k. absurd (Memᴰ.not-nil (subst (λ (ps : List Operation). Memᴰ i (inserts ps)) none k)))
    (Memᴰ.append_cases (map origin s.characters) m)

module _ (heap : List Operation) (s t : State) (g : Grew s) (h : Grew t) (none : s.pending ≡ [])
    (one : OneMeaning s.characters t.characters) (space : Space s t)
    (u : Union heap s.characters t.characters) where
  all : List Operation
  all = pool s t.site.number t.characters g (site-number h) h.grown (one_asked s t.characters none one)

  advances : Advances all s (answer_for t (listing s))
  unfolding all
  advances = (asked s t g h (one_asked s t.characters none one) space).advances

  -- where an insert of all of them is from
  from : (i : Insert) → Memᴰ (insert i) all → Memᴰ (insert i) heap
  unfolding all present_inserts
  from i m =
      ⊎_elim (λ k. u.second-in i k)
      (λ k. ⊎_elim (λ l. u.first-in i l)
      (λ l. absurd (Memᴰ.not-nil (subst (λ (ps : List Operation). Memᴰ i (inserts ps)) none l)))
      (Memᴰ.append_cases (map origin s.characters) k))
      (whose s t.site.number t.characters g (site-number h) h.grown
      (one_asked s t.characters none one) i m)

  -- and a toggle
  turned-from : (k : Toggle) → Memᴰ (toggle k) all
      → (b : Character) × Memᴰ b t.characters × (k.target ≡ b.id) × (k.toggles ≡ b.toggles)
  unfolding all pool
  turned-from k m =
      let ds = t.characters in
      let n = t.site.number in
      ⊎_elim (λ l. toggles-of n ds k l)
      (λ l. ⊎_elim
      (λ v. let q = (arrival s.characters v).2 in absurd (let z : ◌≡◌ {A = ℕ} 0 1 = cc in omega arith))
      (λ v. absurd (Memᴰ.not-nil (subst (Memᴰ (toggle k)) none v)))
      (Memᴰ.append_cases (arrivals s.characters) l))
      (Memᴰ.append_cases (arrivals ds ++ turnings n ds) m)

  named-later : (b c : Character) → b.id ≡ c.id → c.toggles ≡ b.toggles → Named heap b → Named heap c
  named-later b c e v (inl z) = inl (v ∙ z)
  named-later b c e v (inr k) = inr (k.0, k.1, k.2 ∙ e, v ∙ k.3)

  -- ---- after some lines of the answer

  module _ (os ps : List Operation) (lines : answer_for t (listing s) ≡ os ++ ps) where
    midway : List Character
    midway = (received s os).characters

    on_the_way : Progress all s.characters midway
    unfolding midway
    on_the_way =
        advanced all s os g
        (advances_part all s os ps (subst (λ (qs : List Operation). Advances all s qs) lines advances))

    from-both : (i : Insert) → Memᴰ i (map origin midway) → Memᴰ (insert i) heap
    from-both i m = ⊎_elim (λ k. u.first-in i k) (λ k. from i k) (on_the_way.came i m)

    -- no toggles but those of both
    named-there : (c : Character) → Memᴰ c midway → Named heap c
    named-there c m =
        ⊎_elim (λ z. inl z) (λ w. ⊎_elim
        (λ b. named-later b.0 c b.2 b.3 (u.first-named b.0 b.1))
        (λ k. let b = turned-from k.0 k.1 in
        named-later b.0 c (sym b.2 ∙ k.2) (k.3 ∙ b.3) (u.second-named b.0 b.1)) w)
        (on_the_way.turned c m)

    -- the operations that make both are those that make the second and what the first has become
    union_midway : Union heap t.characters (received s os).characters
    unfolding midway
    union_midway =
        record {
          first-in = u.second-in;
          second-in = from-both;
          out = λ i m. ⊎_elim (λ k. inr (on_the_way.kept i k)) (λ k. inl k) (u.out i m);
          toggles-out = λ k m. ⊎_elim (λ b. inr (let d = later on_the_way b.1 in
              (d.0, d.1, b.2 ∙ d.2, omega (arith, b.3, on_the_way.rising b.0 d.0 b.1 d.1 d.2))))
              (λ b. inl b) (u.toggles-out k m);
          first-named = u.second-named;
          second-named = named-there;
        }

  -- ---- after all of them

  es : List Character
  es = (caught_up s t).characters

  whole : answer_for t (listing s) ≡ answer_for t (listing s) ++ []
  whole = sym (append-nil (answer_for t (listing s)))

  grown : Grown es
  unfolding es
  grown = (asker_kept s (answer_for t (listing s)) g).grown

  progress : Progress all s.characters es
  unfolding es midway
  progress = on_the_way (answer_for t (listing s)) [] whole

  holds : HoldsAll es t.characters
  unfolding es
  holds = (asked s t g h (one_asked s t.characters none one) space).holds

  -- every insert of the two is there
  there : (i : Insert) → Memᴰ i (map origin s.characters) ⊎ Memᴰ i (map origin t.characters)
      → Memᴰ i (map origin es)
  there i (inl k) = progress.kept i k
  there i (inr k) =
      let w = Memᴰ.of_map origin t.characters k in
      let v = holds w.0 w.1 in
      subst (λ (j : Insert). Memᴰ j (map origin es)) (v.2 ∙ w.2) (Memᴰ.map origin v.1)

  -- with the toggles of both
  toggled-there : (k : Toggle) (c : Character) → Memᴰ c es → k.target ≡ c.id
      → Taken k s.characters ⊎ Taken k t.characters → k.toggles ≤ c.toggles
  unfolding origin
  toggled-there k c n e (inl b) = omega (arith, b.3, progress.rising b.0 c b.1 n (sym b.2 ∙ e))
  toggled-there k c n e (inr b) =
      let v = holds b.0 b.1 in
      let ids = ap (λ (i : Insert). i.id) v.2 ∙ sym b.2 ∙ e in
      omega (arith, b.3, v.3, ap (λ (x : Character). x.toggles) (same-character es grown.standing v.1 n ids))

  caught_complete : Complete heap (caught_up s t).characters
  unfolding es midway
  caught_complete =
      record {
        grown = grown;
        among = from-both (answer_for t (listing s)) [] whole;
        closed = λ i m a. there i (u.out i m);
        at_least = λ k m c n e. toggled-there k c n e (u.toggles-out k m);
        attained = named-there (answer_for t (listing s)) [] whole;
      }

-- ---- both

-- one meaning within each of the two and between them
one_heap : (heap : List Operation) (cs ds : List Character) → Grown cs → Grown ds → OneMeaning cs ds → Union heap cs ds
    → Consistent heap
unfolding origin
one_heap heap cs ds g h one u i j m k e = go (u.out i m) (u.out j k)
  where
    ids : (a b : Character) → origin a ≡ i → origin b ≡ j → a.id ≡ b.id
    ids a b p q = ap (λ (l : Insert). l.id) p ∙ e ∙ sym (ap (λ (l : Insert). l.id) q)

    go : Memᴰ i (map origin cs) ⊎ Memᴰ i (map origin ds)
        → Memᴰ j (map origin cs) ⊎ Memᴰ j (map origin ds) → i ≡ j
    go (inl a) (inl b) =
        let v = Memᴰ.of_map origin cs a in
        let w = Memᴰ.of_map origin cs b in
        sym v.2 ∙ ap origin (same-character cs g.standing v.1 w.1 (ids v.0 w.0 v.2 w.2)) ∙ w.2
    go (inl a) (inr b) =
        let v = Memᴰ.of_map origin cs a in
        let w = Memᴰ.of_map origin ds b in
        sym v.2 ∙ one v.0 w.0 v.1 w.1 (ids v.0 w.0 v.2 w.2) ∙ w.2
    go (inr a) (inl b) =
        let v = Memᴰ.of_map origin ds a in
        let w = Memᴰ.of_map origin cs b in
        sym v.2 ∙ sym (one w.0 v.0 w.1 v.1 (sym (ids v.0 w.0 v.2 w.2))) ∙ w.2
    go (inr a) (inr b) =
        let v = Memᴰ.of_map origin ds a in
        let w = Memᴰ.of_map origin ds b in
        sym v.2 ∙ ap origin (same-character ds h.standing v.1 w.1 (ids v.0 w.0 v.2 w.2)) ∙ w.2

-- ---- space for the one is space for the other

-- two lists without repeats that have nothing in common
append-distinct : (xs ys : List Identifier) → distinct same xs ≡ true → distinct same ys ≡ true
    → ((x : Identifier) → Memᴰ x xs → any (same x) ys ≡ false) → distinct same (xs ++ ys) ≡ true
append-distinct [] ys d e f = e
append-distinct (x ∷ xs) ys d e f =
    and_intro
    (not-intro (any_append (same x) xs ys ∙ or-false
    (not-true (any (same x) xs) (and_left_lem (not (any (same x) xs)) (distinct same xs) d))
    (f x (Memᴰ.head refl))))
    (append-distinct xs ys (and_right (not (any (same x) xs)) (distinct same xs) d) e
    (λ y m. f y (Memᴰ.tail m)))

-- those of the first, and those of the second that the first does not have
both-ids : List Character → List Character → List Identifier
both-ids cs ds = identifiers cs ++ identifiers (unlisted (among cs) ds)

module _ (cs ds : List Character) (g : Grown cs) (h : Grown ds) where
  both-distinct : distinct same (both-ids cs ds) ≡ true
  unfolding both-ids unlisted among
  both-distinct =
      append-distinct (identifiers cs) (identifiers (unlisted (among cs) ds)) g.standing.apart
      (keep_apart (λ d. not (among cs d.id)) ds h.standing.apart)
      (λ x m. none_any (same x) (identifiers (unlisted (among cs) ds)) (λ y n.
      let w = Memᴰ.of_map (λ (d : Character). d.id) (unlisted (among cs) ds) n in
      let v = keep_member (λ d. not (among cs d.id)) ds w.1 in
      fails (same x y) (λ e. clash
      (member_any (same y) m (same_sym y x ∙ e))
      (subst (λ (z : Identifier). among cs z ≡ false) w.2 (not-true (among cs w.0.id) v.1)))))

  both-length : length (both-ids cs ds) ≡ length cs + length (sent (among cs) ds)
  unfolding both-ids
  both-length =
      omega (
        arith,
        length-append (identifiers cs) (identifiers (unlisted (among cs) ds)),
        length-map cs (λ (c : Character). c.id),
        length-map (unlisted (among cs) ds) (λ (c : Character). c.id),
        sent-count (among cs) ds h.standing.apart,
      )

-- they are all that either has
both_have : (cs ds : List Character) (x : Identifier)
    → Memᴰ x (identifiers cs) ⊎ Memᴰ x (identifiers ds) → Memᴰ x (both-ids cs ds)
unfolding both-ids unlisted
both_have cs ds x (inl m) = Memᴰ.append_left (identifiers (unlisted (among cs) ds)) m
both_have cs ds x (inr m) =
    let w = Memᴰ.of_map (λ (d : Character). d.id) ds m in
    ⊎_elim (λ k. let v = among_member cs w.0.id k in
    Memᴰ.append_left (identifiers (unlisted (among cs) ds))
    (subst (λ (y : Identifier). Memᴰ y (identifiers cs)) (sym v.2 ∙ w.2)
    (Memᴰ.map (λ (c : Character). c.id) v.1)))
    (λ k. Memᴰ.append_right (identifiers cs)
    (subst (λ (y : Identifier). Memᴰ y (identifiers (unlisted (among cs) ds))) w.2
    (Memᴰ.map (λ (d : Character). d.id) (member_keep (λ d. not (among cs d.id)) w.1 (not-intro k)))))
    (either (among cs w.0.id))

of-both : (cs ds : List Character) (x : Identifier) → Memᴰ x (both-ids cs ds)
    → Memᴰ x (identifiers cs) ⊎ Memᴰ x (identifiers ds)
unfolding both-ids unlisted
of-both cs ds x m =
    ⊎_elim (λ k. inl k)
    (λ k. let w = Memᴰ.of_map (λ (d : Character). d.id) (unlisted (among cs) ds) k in
    inr (subst (λ (y : Identifier). Memᴰ y (identifiers ds)) w.2
    (Memᴰ.map (λ (d : Character). d.id) (keep_member (λ d. not (among cs d.id)) ds w.1).0)))
    (Memᴰ.append_cases (identifiers cs) m)

-- where the characters of u are of those of s and t
space_back : (s t u : State) → Grew s → Grew t → Grew u → t.pending ≡ []
    → ((x : Identifier) → Memᴰ x (identifiers u.characters)
    → Memᴰ x (identifiers s.characters) ⊎ Memᴰ x (identifiers t.characters))
    → Space s t → Space t u
space_back s t u g h k none f space =
    omega (
      arith,
      known-length s,
      known-length t,
      ap (λ (ps : List Operation). length (inserts ps)) none,
      space,
      both-length s.characters t.characters g.grown h.grown,
      both-length t.characters u.characters h.grown k.grown,
      no_more same same_refl (both-ids t.characters u.characters) (both-ids s.characters t.characters)
          (both-distinct t.characters u.characters h.grown k.grown)
          (λ x m. both_have s.characters t.characters x
          (⊎_elim (λ l. inr l) (λ l. f x l) (of-both t.characters u.characters x m))),
    )

-- ---- both answer

pub meet_midway : MeetMidway
unfolding origin
meet_midway s t g h none-s none-t one space os ps lines = (back, alike)
  where
    heap : List Operation
    heap = made 1 s.characters ++ made 1 t.characters

    u : Union heap s.characters t.characters
    u = both-union 1 1 s.characters t.characters

    consistent_heap : Consistent heap
    consistent_heap = one_heap heap s.characters t.characters g.grown h.grown one u

    mid : State
    mid = received s os

    onward : Union heap t.characters mid.characters
    onward = union_midway heap s t g h none-s one space u os ps lines

    ids-of : (cs : List Character) (i : Insert) → Memᴰ i (map origin cs) → Memᴰ i.id (identifiers cs)
    ids-of cs i m =
        let w = Memᴰ.of_map origin cs m in
        subst (λ (x : Identifier). Memᴰ x (identifiers cs)) (ap (λ (j : Insert). j.id) w.2)
        (Memᴰ.map (λ (c : Character). c.id) w.1)

    of_two : (x : Identifier) → Memᴰ x (identifiers mid.characters)
        → Memᴰ x (identifiers s.characters) ⊎ Memᴰ x (identifiers t.characters)
    of_two x m =
        let w = Memᴰ.of_map (λ (c : Character). c.id) mid.characters m in
        subst
        (λ (y : Identifier). Memᴰ y (identifiers s.characters) ⊎ Memᴰ y (identifiers t.characters))
        w.2
        (⊎_elim (λ k. inl (ids-of s.characters (origin w.0) k))
        (λ k. inr (ids-of t.characters (origin w.0) k))
        (u.out (origin w.0) (onward.second-in (origin w.0) (Memᴰ.map origin w.1))))

    back : Space t (received s os)
    back = space_back s t (received s os) g h (asker_kept s os g) none-t of_two space

    alike : (caught_up s t).characters ≡ (caught_up t (received s os)).characters
    alike =
        complete-unique heap consistent_heap (caught_up s t).characters (caught_up t mid).characters
        (caught_complete heap s t g h none-s one space u)
        (caught_complete heap t mid h (asker_kept s os g) none-t
        (one-meaning-of heap consistent_heap onward.first-in onward.second-in) back onward)

pub both_catch_up : BothCatchUp
both_catch_up s t g h none-s none-t one space =
    let os = answer_for t (listing s) in (
      λ other. (meet_midway s t g h none-s none-t one space [] os refl).1,
      λ other. (meet_midway s t g h none-s none-t one space os [] (sym (append-nil os))).1,
    )
