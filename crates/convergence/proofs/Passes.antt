-- Each step of a pass carries one operation out, puts one aside or leaves it, so what `Working` says is kept; a pass
-- that places none leaves none that could be placed, and then the toggles that stay behind have no target.
use Prim.Native.Nat.{ℕ, zero, suc, ◌+◌, ◌≤◌, ◌<◌}
use native.Mathlib.Omega.{arith}
use mathlib.Core.Path.{◌≡◌, refl, ap, sym, ◌∙◌, subst}
use mathlib.Core.Bool.{Bool, true, false, ◌||◌, not}
use mathlib.Core.Logic.{◌⊎◌, inl, inr, ⊎_elim}
use mathlib.Core.List.{List, [], ◌∷◌, ◌++◌, map, append-nil, append_assoc, Memᴰ}
use lib.Dec.{eqb}
use lib.ListN.{length, length-map}
use borrow.Author.Tests.{eqb-true, eqb-false, not-true}
use Rattle.woot.specs.declared.Identifier.{Identifier}
use Rattle.woot.specs.declared.Insert.{Insert}
use Rattle.woot.specs.declared.Toggle.{Toggle}
use Rattle.woot.specs.declared.Operation.{Operation}
use Rattle.woot.specs.declared.Operation.TheVariants.{Insert as insert, Toggle as toggle}
use Rattle.woot.specs.declared.Character.{Character}
use Rattle.woot.specs.Identifiers.{same}
use Rattle.woot.specs.Operations.{origin, inserts, toggles_among, same_toggle, same_operation, toggled_by}
use Rattle.woot.specs.Ranges.{in_range}
use Rattle.woot.specs.Placing.{identifiers, held, integrate_insert, integrate_toggle}
use Rattle.woot.specs.Pending.{executable, crossed, unplaceable, integrate}
use Rattle.bulk.specs.Building.{once, building, left_out}
use Rattle.lists.specs.Lists.{any, every, keep, distinct}
use Rattle.lists.proofs.Tests.{either, side, and_intro, and_left_lem, and_right, or_cases, or-false, or-false-left, or-false-right, not-intro}
use Rattle.lists.proofs.Members.{any_member, any_none, none_any, every_member, member_every, any_append, keep_member, member_keep}
use Rattle.convergence.specs.Passes.{kept_once, firsts, and_left, pass, passes, placed, toggled_all, absentees, PassesBuild, PassesCount}
use Rattle.convergence.specs.Agreement.{Grown}
use Rattle.convergence.proofs.Identifiers.{same_refl, same-eq, same_sym}
use Rattle.convergence.proofs.Extract.{Extract, front, extract_length, extract_front, extract_append, extract_last, extract_map, extract_distinct, no_more}
use Rattle.convergence.proofs.Places.{not-held, held-id}
use Rattle.convergence.proofs.Toggling.{toggle_held, toggle_executable, toggle_length}
use Rattle.convergence.proofs.Soundness.{placed_extract}
use Rattle.convergence.proofs.Steps.{any-map}
use Rattle.convergence.proofs.Growth.{grown-empty}
use Rattle.convergence.proofs.Unique.{Consistent}
use Rattle.convergence.proofs.Progress.{progress_none, crossed-of}
use Rattle.convergence.proofs.Heap.{agreeing, insert-listed, listed-insert, once-among, among-once, once-apart, built-complete, heap_ended}
use Rattle.convergence.proofs.Counting.{subject, held-inside, left-counted}
use Rattle.convergence.proofs.Work.{Working, work_aside, work_carries, work_ends}

-- ---- the first of each identifier

-- whether some insert of the list has the identifier of i
abbrev named : Insert → List Insert → Bool
named i kept = any (λ j. same i.id j.id) kept

kept-among : (kept is : List Insert) {i : Insert} → Memᴰ i (kept_once kept is)
    → Memᴰ i kept ⊎ Memᴰ i is
unfolding kept_once
kept-among kept [] m = inl m
kept-among kept (j ∷ is) {i} m =
    ⊎_elim (λ e. ⊎_elim (λ k. inl k) (λ k. inr (mathlib.Core.List.Memᴰ.tail k)) (kept-among kept is (rw e at m)))
    (λ e. ⊎_elim (λ k. last (mathlib.Core.List.Memᴰ.append_cases kept k)) (λ k. inr (mathlib.Core.List.Memᴰ.tail k))
    (kept-among (kept ++ j ∷ []) is (rw e at m)))
    (either (named j kept))
  where
    last : Memᴰ i kept ⊎ Memᴰ i (j ∷ []) → Memᴰ i kept ⊎ Memᴰ i (j ∷ is)
    last (inl k) = inl k
    last (inr k) = inr (⊎_elim (λ e. mathlib.Core.List.Memᴰ.head e) (λ n. absurd (mathlib.Core.List.Memᴰ.not-nil n)) (mathlib.Core.List.Memᴰ.cases_cons k))

kept-apart : (kept is : List Insert) → distinct same (map (λ (j : Insert). j.id) kept) ≡ true
    → distinct same (map (λ (j : Insert). j.id) (kept_once kept is)) ≡ true
unfolding kept_once
kept-apart kept [] d = d
kept-apart kept (i ∷ is) d =
    ⊎_elim (λ e. rw e (kept-apart kept is d))
    (λ e. rw e (kept-apart (kept ++ i ∷ []) is
    (extract_distinct same same_sym (extract_map (λ (j : Insert). j.id) (extract_last i kept))
    (any-map (same i.id) (λ j. j.id) kept ∙ e) d)))
    (either (named i kept))

-- its insert is kept, or another with its identifier
abbrev KeptFor : List Insert → Insert → Type 0
KeptFor is i = (j : Insert) × Memᴰ j is × (i.id ≡ j.id)

kept_stays : (kept is : List Insert) {i : Insert} → Memᴰ i kept → Memᴰ i (kept_once kept is)
unfolding kept_once
kept_stays kept [] m = m
kept_stays kept (j ∷ is) m =
    ⊎_elim (λ e. rw e (kept_stays kept is m)) (λ e. rw e (kept_stays (kept ++ j ∷ []) is (mathlib.Core.List.Memᴰ.append_left (j ∷ []) m)))
    (either (named j kept))

kept-all : (kept is : List Insert) {i : Insert} → Memᴰ i is → KeptFor (kept_once kept is) i
unfolding kept_once
kept-all kept [] {i = i} m = elim m [ ]
kept-all kept (j ∷ is) {i} m =
    ⊎_elim
    (λ e.
    let w = any_member (λ k. same j.id k.id) kept e in
    let old : KeptFor (kept_once kept is) j = (w.0, kept_stays kept is w.1, same-eq j.id w.0.id w.2) in
    rw e (⊎_elim (λ f. (old.0, old.1, ap (λ (k : Insert). k.id) f ∙ old.2)) (λ n. kept-all kept is n)
    (mathlib.Core.List.Memᴰ.cases_cons m)))
    (λ e.
    let new : Memᴰ j (kept_once (kept ++ j ∷ []) is) = kept_stays (kept ++ j ∷ []) is
    (mathlib.Core.List.Memᴰ.append_right kept (mathlib.Core.List.Memᴰ.head refl)) in
    rw e (⊎_elim (λ f. (j, new, ap (λ (k : Insert). k.id) f)) (λ n. kept-all (kept ++ j ∷ []) is n)
    (mathlib.Core.List.Memᴰ.cases_cons m)))
    (either (named j kept))

-- ---- what is left to do

-- inserts, and then toggles
abbrev ahead : List Insert → List Toggle → List Operation
ahead is ts = map insert is ++ map toggle ts

ahead-inserts : (is : List Insert) (ts : List Toggle) → inserts (ahead is ts) ≡ is
ahead-inserts [] [] = refl
ahead-inserts [] (t ∷ ts) = ahead-inserts [] ts
ahead-inserts (i ∷ is) ts = ap (λ js. i ∷ js) (ahead-inserts is ts)

-- a toggle among operations is one of their toggles
toggle_listed : (os : List Operation) {t : Toggle} → Memᴰ t (toggles_among os) → Memᴰ (toggle t) os
toggle_listed [] {t = t} m = elim m [ ]
toggle_listed (insert i ∷ os) m = mathlib.Core.List.Memᴰ.tail (toggle_listed os m)
toggle_listed (toggle u ∷ os) (mathlib.Core.List.Memᴰ.head e) = mathlib.Core.List.Memᴰ.head (ap toggle e)
toggle_listed (toggle u ∷ os) (mathlib.Core.List.Memᴰ.tail m) = mathlib.Core.List.Memᴰ.tail (toggle_listed os m)

listed_toggle : (os : List Operation) {t : Toggle} → Memᴰ (toggle t) os → Memᴰ t (toggles_among os)
listed_toggle (insert i ∷ os) (mathlib.Core.List.Memᴰ.head e) = absurd (let z : ◌≡◌ {A = ℕ} 0 1 = cc in omega arith)
listed_toggle [] {t = t} x' = elim x' [ ]
listed_toggle (insert i ∷ os) (mathlib.Core.List.Memᴰ.tail m) = listed_toggle os m
listed_toggle (toggle u ∷ os) (mathlib.Core.List.Memᴰ.head e) = mathlib.Core.List.Memᴰ.head (toggle_eq e)
  where
    toggle_eq : {t u : Toggle} → toggle t ≡ toggle u → t ≡ u
    toggle_eq e = cc
listed_toggle (toggle u ∷ os) (mathlib.Core.List.Memᴰ.tail m) = mathlib.Core.List.Memᴰ.tail (listed_toggle os m)

-- one insert of them, with those before it and those behind it
insert-out : (before is : List Insert) (ts : List Toggle) (i : Insert)
    → Extract (insert i) (ahead (before ++ is) ts) (ahead (before ++ i ∷ is) ts)
insert-out before is ts i = extract_front (map toggle ts) (extract_map insert (extract_append before front))

toggle_out : (is : List Insert) (before ts : List Toggle) (t : Toggle)
    → Extract (toggle t) (ahead is (before ++ ts)) (ahead is (before ++ t ∷ ts))
toggle_out is before ts t = extract_append (map insert is) (extract_map toggle (extract_append before front))

-- ---- how many a pass places

-- what a pass does to an insert
data Fate (cs : List Character) (i : Insert) : Type 0 where
  leaves : executable cs (insert i) ≡ false → Fate cs i
  drops : executable cs (insert i) ≡ true → (crossed cs (insert i) || unplaceable cs (insert i)) ≡ true → Fate cs i
  places : executable cs (insert i) ≡ true → (crossed cs (insert i) || unplaceable cs (insert i)) ≡ false → Fate cs i

fate : (cs : List Character) (i : Insert) → Fate cs i
fate cs i = go (either (executable cs (insert i))) (either (crossed cs (insert i) || unplaceable cs (insert i)))
  where
    go : (executable cs (insert i) ≡ true) ⊎ (executable cs (insert i) ≡ false)
        → ((crossed cs (insert i) || unplaceable cs (insert i)) ≡ true)
        ⊎ ((crossed cs (insert i) || unplaceable cs (insert i)) ≡ false)
        → Fate cs i
    go (inr e) f = leaves e
    go (inl e) (inl f) = drops e f
    go (inl e) (inr f) = places e f

-- the length grows by one where an insert is placed
longer : (cs : List Character) (i : Insert) → executable cs (insert i) ≡ true
    → (crossed cs (insert i) || unplaceable cs (insert i)) ≡ false → length (integrate_insert cs i) ≡ suc (length cs)
longer cs i ready f =
    extract_length
    (placed_extract cs i ready (or-false-left (crossed cs (insert i)) (unplaceable cs (insert i)) f)
    (or-false-right (crossed cs (insert i)) (unplaceable cs (insert i)) f))

pass-more : (cs : List Character) (is : List Insert) → length cs ≤ length (pass cs is).characters
unfolding pass and_left
pass-more cs [] = omega arith
pass-more cs (i ∷ is) =
    elim (fate cs i) [
      | leaves e ↦ rw e (pass-more cs is)
      | drops e f ↦ rw (e, f) (pass-more cs is)
      | places e f ↦ rw (e, f) (omega (arith, longer cs i e f, pass-more (integrate_insert cs i) is))
    ]

pass-count : (cs : List Character) (is : List Insert)
    → length (pass cs is).characters + length (pass cs is).left ≤ length cs + length is
unfolding pass and_left
pass-count cs [] = omega arith
pass-count cs (i ∷ is) =
    elim (fate cs i) [
      | leaves e ↦ rw e (omega (arith, pass-count cs is))
      | drops e f ↦ rw (e, f) (omega (arith, pass-count cs is))
      | places e f ↦ rw (e, f) (omega (arith, longer cs i e f, pass-count (integrate_insert cs i) is))
    ]

-- none of them has all it needs
abbrev NoneReady : List Character → List Insert → Type 0
NoneReady cs is = any (λ j. executable cs (insert j)) is ≡ false

-- a pass that places none changes nothing, and nothing that it leaves could be placed
pass-still : (cs : List Character) (is : List Insert) → length (pass cs is).characters ≡ length cs
    → ((pass cs is).characters ≡ cs) × NoneReady cs (pass cs is).left
unfolding pass and_left
pass-still cs [] h = (refl, refl)
pass-still cs (i ∷ is) h =
    elim (fate cs i) [
      | leaves e ↦ let w = pass-still cs is (rw e at h) in rw e (w.0, or-false e w.1)
      | drops e f ↦ rw (e, f) (pass-still cs is (rw (e, f) at h))
      | places e f ↦
          let k : length (pass (integrate_insert cs i) is).characters ≡ length cs = rw (e, f) at h in
          absurd (omega (arith, longer cs i e f, pass-more (integrate_insert cs i) is, k))
    ]

-- ---- what the passes keep

module _ (heap : List Operation) where
  pass_works : (cs : List Character) (before is : List Insert) (ts : List Toggle)
      → Working heap cs (ahead (before ++ is) ts)
      → Working heap (pass cs is).characters (ahead (before ++ (pass cs is).left) ts)
  unfolding pass and_left integrate
  pass_works cs before [] ts w = w
  pass_works cs before (i ∷ is) ts w =
      elim (fate cs i) [
        | leaves e ↦
            rw e
            (subst (λ (js : List Insert). Working heap (pass cs is).characters (ahead js ts))
            (append_assoc before (i ∷ []) (pass cs is).left)
            (pass_works cs (before ++ i ∷ []) is ts
            (subst (λ (js : List Insert). Working heap cs (ahead js ts)) (sym (append_assoc before (i ∷ []) is)) w)))
        | drops e f ↦
            let x = crossed-of w.grown (insert i) e
            (or_cases (crossed cs (insert i)) (unplaceable cs (insert i)) f) in
            rw (e, f) (pass_works cs before is ts (work_aside (insert i) (insert-out before is ts i) e x w))
        | places e f ↦
            let x = or-false-left (crossed cs (insert i)) (unplaceable cs (insert i)) f in
            let y = or-false-right (crossed cs (insert i)) (unplaceable cs (insert i)) f in
            rw (e, f) (pass_works (integrate_insert cs i) before is ts
            (work_carries (insert i) (insert-out before is ts i) e x y w))
      ]

  passes_work : (n : ℕ) (cs : List Character) (is : List Insert) (ts : List Toggle) → length is < n
      → Working heap cs (ahead is ts)
      → Working heap (passes n cs is).characters (ahead (passes n cs is).left ts)
      × NoneReady (passes n cs is).characters (passes n cs is).left
  unfolding passes
  passes_work zero cs is ts h w = absurd (omega arith)
  passes_work (suc n) cs is ts h w =
      ⊎_elim
      (λ e.
      let still = pass-still cs is (eqb-true (length (pass cs is).characters) (length cs) e) in
      rw e (
        pass_works cs [] is ts w,
        subst (λ ds. NoneReady ds (pass cs is).left) (sym still.0) still.1,
      ))
      (λ e.
      let more : length (pass cs is).characters ≡ length cs → ⊥ = eqb-false (length (pass cs is).characters)
      (length cs) e in
      rw e (passes_work n (pass cs is).characters (pass cs is).left ts
      (fewer more) (pass_works cs [] is ts w)))
      (either (eqb (length (pass cs is).characters) (length cs)))
    where
      fewer : (length (pass cs is).characters ≡ length cs → ⊥) → length (pass cs is).left < n
      fewer more =
          ⊎_elim (λ k. absurd (more (omega (arith, k, pass-more cs is))))
          (λ k. omega (arith, k, pass-count cs is))
          (side (length (pass cs is).characters) (length cs))

-- ---- the toggles

-- one whose target is no character's changes nothing
absent_toggle : (cs : List Character) (t : Toggle) → any (same t.target) (identifiers cs) ≡ false
    → integrate_toggle cs t ≡ cs
unfolding integrate_toggle toggled_by
absent_toggle [] t h = refl
absent_toggle (c ∷ cs) t h =
    let here = or-false-left (same t.target c.id) (any (same t.target) (identifiers cs)) h in
    let there = absent_toggle cs t
    (or-false-right (same t.target c.id) (any (same t.target) (identifiers cs)) h) in
    rw here (ap (λ ds. c ∷ ds) there)

-- the target of none of them is held
abbrev NoneHeld : List Character → List Toggle → Type 0
NoneHeld cs ts = any (λ t. held cs t.target) ts ≡ false

pub toggled-held : (cs : List Character) (ts : List Toggle) (x : Identifier) → held (toggled_all cs ts) x ≡ held cs x
toggled-held cs [] x = refl
toggled-held cs (t ∷ ts) x = toggled-held (integrate_toggle cs t) ts x ∙ toggle_held cs t x

pub toggled-length : (cs : List Character) (ts : List Toggle) → length (toggled_all cs ts) ≡ length cs
toggled-length cs [] = refl
toggled-length cs (t ∷ ts) = toggled-length (integrate_toggle cs t) ts ∙ toggle_length cs t

module _ (heap : List Operation) (r : every in_range heap ≡ true) (c : Consistent heap) where
  toggles_work : (cs : List Character) (is : List Insert) (before ts : List Toggle)
      → Working heap cs (ahead is (before ++ ts)) → NoneHeld cs before → NoneReady cs is
      → toggled_all cs ts ≡ (building heap).characters
  unfolding integrate executable crossed unplaceable
  toggles_work cs is before [] w absent unready =
      work_ends heap r c (subst (λ (us : List Toggle). Working heap cs (ahead is us)) (append-nil before) w)
      (any_append (executable cs) (map insert is) (map toggle before)
      ∙ or-false (any-map (executable cs) insert is ∙ unready) (any-map (executable cs) toggle before ∙ absent))
  toggles_work cs is before (t ∷ ts) w absent unready =
      ⊎_elim
      (λ h.
      toggles_work (integrate_toggle cs t) is before ts
      (work_carries (toggle t) (toggle_out is before ts t) h refl refl w)
      (none_any (λ u. held (integrate_toggle cs t) u.target) before
      (λ u m. toggle_held cs t u.target ∙ any_none (λ u. held cs u.target) absent m))
      (none_any (λ j. executable (integrate_toggle cs t) (insert j)) is
      (λ j m. toggle_executable cs t (insert j) ∙ any_none (λ j. executable cs (insert j)) unready m)))
      (λ h.
      rw (absent_toggle cs t (not-held cs t.target h)) (toggles_work cs is (before ++ t ∷ []) ts
      (subst (λ (us : List Toggle). Working heap cs (ahead is us)) (sym (append_assoc before (t ∷ []) ts)) w)
      (any_append (λ u. held cs u.target) before (t ∷ []) ∙ or-false absent (or-false h refl))
      unready))
      (either (held cs t.target))

  -- ---- from the whole heap

  abbrev fs : List Insert
  fs = firsts (inserts heap)

  firsts-among : (i : Insert) → Memᴰ i fs → Memᴰ (insert i) heap
  firsts-among i m =
      insert-listed heap (⊎_elim (λ k. absurd (mathlib.Core.List.Memᴰ.not-nil k)) (λ k. k) (kept-among [] (inserts heap) m))

  among-firsts : (i : Insert) → Memᴰ (insert i) heap → Memᴰ i fs
  among-firsts i m =
      let w = kept-all [] (inserts heap) (listed-insert heap m) in
      subst (λ (j : Insert). Memᴰ j fs) (sym (c i w.0 m (firsts-among w.0 w.1) w.2)) w.1

  ahead-among : (o : Operation) → Memᴰ o (ahead fs (toggles_among heap)) → Memᴰ o heap
  ahead-among o m =
      ⊎_elim
      (λ k. let w = mathlib.Core.List.Memᴰ.of_map insert fs k in subst (λ p. Memᴰ p heap) w.2 (firsts-among w.0 w.1))
      (λ k.
      let w = mathlib.Core.List.Memᴰ.of_map toggle (toggles_among heap) k in
      subst (λ p. Memᴰ p heap) w.2 (toggle_listed heap w.1))
      (mathlib.Core.List.Memᴰ.append_cases (map insert fs) m)

  among-ahead : (o : Operation) → Memᴰ o heap → Memᴰ o (ahead fs (toggles_among heap))
  among-ahead (insert i) m = mathlib.Core.List.Memᴰ.append_left (map toggle (toggles_among heap)) (mathlib.Core.List.Memᴰ.map insert (among-firsts i m))
  among-ahead (toggle t) m = mathlib.Core.List.Memᴰ.append_right (map insert fs) (mathlib.Core.List.Memᴰ.map toggle (listed_toggle heap m))

  works : Working heap [] (ahead fs (toggles_among heap))
  works =
      record {
        grown = grown-empty;
        progress = progress_none heap grown-empty.standing;
        offered =
            record {
              ranged =
                  member_every in_range (ahead fs (toggles_among heap)) (λ o m. every_member in_range r (ahead-among o m));
              apart =
                  subst (λ (js : List Insert). distinct same (map (λ (j : Insert). j.id) js) ≡ true)
                  (sym (ahead-inserts fs (toggles_among heap))) (kept-apart [] (inserts heap) refl);
            };
        among = ahead-among;
        settled = λ o m. inr (among-ahead o m);
      }

  pub passes-built : toggled_all (placed (firsts (inserts heap))) (toggles_among heap) ≡ (building heap).characters
  passes-built =
      let w = passes_work heap (suc (length fs)) [] fs (toggles_among heap) (omega arith) works in
      toggles_work (placed fs) (passes (suc (length fs)) [] fs).left [] (toggles_among heap) w.0 refl w.1

pub passes-build : PassesBuild
passes-build heap r d = passes-built heap r (agreeing heap d)

-- ---- how many are left out

-- the inserts and the toggles among operations, counted apart
counted-apart : (q : Identifier → Bool) (os : List Operation)
    → length (keep (λ o. q (subject o)) os)
    ≡ length (keep (λ (i : Insert). q i.id) (inserts os)) + length
    (keep (λ (t : Toggle). q t.target) (toggles_among os))
unfolding subject
counted-apart q [] = refl
counted-apart q (insert i ∷ os) =
    ⊎_elim (λ e. rw e (omega (arith, counted-apart q os))) (λ e. rw e (counted-apart q os)) (either (q i.id))
counted-apart q (toggle t ∷ os) =
    ⊎_elim (λ e. rw e (omega (arith, counted-apart q os))) (λ e. rw e (counted-apart q os)) (either (q t.target))

any-toggles : (t : Toggle) (os : List Operation)
    → any (same_operation (toggle t)) os ≡ any (same_toggle t) (toggles_among os)
unfolding same_operation
any-toggles t [] = refl
any-toggles t (insert i ∷ os) = any-toggles t os
any-toggles t (toggle u ∷ os) = ap (λ b. same_toggle t u || b) (any-toggles t os)

absent-count : (cs : List Character) (os : List Operation)
    → length (keep (λ (t : Toggle). not (held cs t.target)) (toggles_among (once os))) ≡ absentees cs
    (toggles_among os)
unfolding once absentees
absent-count cs [] = refl
absent-count cs (insert i ∷ os) =
    ⊎_elim (λ e. rw e (absent-count cs os)) (λ e. rw e (absent-count cs os))
    (either (any (same_operation (insert i)) os))
absent-count cs (toggle t ∷ os) =
    ⊎_elim
    (λ e.
    let f : any (same_toggle t) (toggles_among os) ≡ true = sym (any-toggles t os) ∙ e in
    rw (e, f, or_true (held cs t.target)) (absent-count cs os))
    (λ e.
    let f : any (same_toggle t) (toggles_among os) ≡ false = sym (any-toggles t os) ∙ e in
    ⊎_elim (λ (h : held cs t.target ≡ true). rw (e, f, h) (absent-count cs os))
    (λ (h : held cs t.target ≡ false). rw (e, f, h) (ap suc (absent-count cs os)))
    (either (held cs t.target)))
    (either (any (same_operation (toggle t)) os))
  where
    or_true : (b : Bool) → b || true ≡ true
    or_true true = refl
    or_true false = refl

-- they are counted by what is held alone
same-absentees : (cs ds : List Character) → ((x : Identifier) → held cs x ≡ held ds x) → (us : List Toggle)
    → absentees cs us ≡ absentees ds us
unfolding absentees
same-absentees cs ds f [] = refl
same-absentees cs ds f (u ∷ us) = rw (f u.target, same-absentees cs ds f us)

-- those that pass and those that do not
keep-both : {A : Type 0} (q : A → Bool) (xs : List A)
    → length (keep (λ x. not (q x)) xs) + length (keep q xs) ≡ length xs
keep-both q [] = refl
keep-both q (x ∷ xs) =
    ⊎_elim (λ e. rw e (omega (arith, keep-both q xs))) (λ e. rw e (omega (arith, keep-both q xs))) (either (q x))

-- identifiers that differ still do among those that are kept
keep_apart : (q : Insert → Bool) (is : List Insert) → distinct same (map (λ (i : Insert). i.id) is) ≡ true
    → distinct same (map (λ (i : Insert). i.id) (keep q is)) ≡ true
keep_apart q [] d = refl
keep_apart q (i ∷ is) d =
    let rest = keep_apart q is (and_right (not (any (same i.id) ids)) (distinct same ids) d) in
    ⊎_elim
    (λ e. rw e (and_intro (not-intro (none_any (same i.id) (map (λ (j : Insert). j.id) (keep q is)) new)) rest))
    (λ e. rw e rest) (either (q i))
  where
    ids : List Identifier
    ids = map (λ (j : Insert). j.id) is

    new : (x : Identifier) → Memᴰ x (map (λ (j : Insert). j.id) (keep q is)) → same i.id x ≡ false
    new x m =
        let w = mathlib.Core.List.Memᴰ.of_map (λ (j : Insert). j.id) (keep q is) m in
        any_none (same i.id)
        (not-true (any (same i.id) ids) (and_left_lem (not (any (same i.id) ids)) (distinct same ids) d))
        (subst (λ (y : Identifier). Memᴰ y ids) w.2
        (mathlib.Core.List.Memᴰ.map (λ (j : Insert). j.id) (keep_member q is w.1).0))

-- inserts whose identifiers differ are no more than those of a list that has them all
fewer-inserts : (is js : List Insert) → distinct same (map (λ (i : Insert). i.id) is) ≡ true
    → ((i : Insert) → Memᴰ i is → Memᴰ i js) → length is ≤ length js
fewer-inserts is js d f =
    omega (
      arith,
      length-map is (λ (i : Insert). i.id),
      length-map js (λ (i : Insert). i.id),
      no_more same same_refl (map (λ (i : Insert). i.id) is) (map (λ (i : Insert). i.id) js) d (λ x m.
          let w = mathlib.Core.List.Memᴰ.of_map (λ (i : Insert). i.id) is m in
          subst (λ (y : Identifier). Memᴰ y (map (λ (i : Insert). i.id) js)) w.2
          (mathlib.Core.List.Memᴰ.map (λ (i : Insert). i.id) (f w.0 w.1))),
    )

module _ (heap : List Operation) (r : every in_range heap ≡ true) (c : Consistent heap) where
  abbrev rows : List Character
  rows = (building heap).characters

  grown : Grown rows
  grown = (heap_ended heap r c).grown

  distinct-rows : distinct same (map (λ (i : Insert). i.id) (map origin rows)) ≡ true
  unfolding origin
  distinct-rows = subst (λ xs. distinct same xs ≡ true) (sym (map-map rows)) grown.standing.apart
    where
      map-map : (cs : List Character) → map (λ (i : Insert). i.id) (map origin cs) ≡ identifiers cs
      map-map [] = refl
      map-map (d ∷ ds) = ap (λ xs. d.id ∷ xs) (map-map ds)

  same-inserts : length (inserts (once heap)) ≡ length (firsts (inserts heap))
  same-inserts =
      omega (
        arith,
        fewer-inserts (inserts (once heap)) (firsts (inserts heap)) (once-apart heap c)
            (λ i m. among-firsts heap r c i (once-among heap (insert-listed (once heap) m))),
        fewer-inserts (firsts (inserts heap)) (inserts (once heap)) (kept-apart [] (inserts heap) refl)
            (λ i m. listed-insert (once heap) (among-once heap (firsts-among heap r c i m))),
      )

  here : Insert → Bool
  here i = held rows i.id

  held-inserts : length (keep here (inserts (once heap))) ≡ length rows
  unfolding here origin in_range subject
  held-inserts =
      omega (
        arith,
        length-map rows origin,
        fewer-inserts (keep here (inserts (once heap))) (map origin rows)
            (keep_apart here (inserts (once heap)) (once-apart heap c))
            (λ i m. let w = keep_member here (inserts (once heap)) m in inside i
            (once-among heap (insert-listed (once heap) w.0)) w.1),
        fewer-inserts (map origin rows) (keep here (inserts (once heap))) distinct-rows outside,
      )
    where
      inside : (i : Insert) → Memᴰ (insert i) heap → held rows i.id ≡ true → Memᴰ i (map origin rows)
      inside i m h = held-inside heap r c (insert i) m h

      outside : (i : Insert) → Memᴰ i (map origin rows) → Memᴰ i (keep here (inserts (once heap)))
      outside i m =
          let w = mathlib.Core.List.Memᴰ.of_map origin rows m in
          member_keep here (listed-insert (once heap) (among-once heap ((built-complete heap r c).among i m)))
          (subst (λ (j : Insert). held rows j.id ≡ true) w.2 (held-id rows w.1))

  pub passes-counted : length (left_out heap) + length (placed (firsts (inserts heap)))
      ≡ length (firsts (inserts heap)) + absentees (placed (firsts (inserts heap))) (toggles_among heap)
  unfolding here
  passes-counted =
      let done : toggled_all ps ts ≡ rows = passes-built heap r c in
      let size : length rows ≡ length ps = ap length (sym done) ∙ toggled-length ps ts in
      let parts = left-counted heap r c ∙ counted-apart (λ x. not (held rows x)) (once heap) in
      let absent = absent-count rows heap ∙ same-absentees rows ps
      (λ x. ap (λ ds. held ds x) (sym done) ∙ toggled-held ps ts x) ts in
      omega (arith, size, parts, absent, keep-both here (inserts (once heap)), held-inserts, same-inserts)
    where
      ps : List Character
      ps = placed (firsts (inserts heap))

      ts : List Toggle
      ts = toggles_among heap

pub passes_count : PassesCount
passes_count heap r d = passes-counted heap r (agreeing heap d)
