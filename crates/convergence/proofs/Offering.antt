-- Draining with no limit on what waits: operations in range whose inserts are new and differ are enough for each step
-- to lead on to the next, and for what it all ends in.
use Prim.Native.Nat.{◌+◌, ◌≤◌, max}
use native.Mathlib.Omega.{arith}
use mathlib.Core.Path.{◌≡◌, ap, sym, ◌∙◌, subst}
use mathlib.Core.Bool.{true, false}
use mathlib.Core.Logic.{◌⊎◌, inl, inr, ⊎_elim}
use mathlib.Core.List.Memᴰ
use mathlib.Core.List.{List, ◌++◌, map, Memᴰ}
use lib.ListN.{length}
use Rattle.woot.specs.declared.Insert.{Insert}
use Rattle.woot.specs.declared.Toggle.{Toggle}
use Rattle.woot.specs.declared.Operation.{Operation}
use Rattle.woot.specs.declared.Operation.TheVariants.{Insert as insert, Toggle as toggle}
use Rattle.woot.specs.declared.Character.{Character}
use Rattle.woot.specs.Identifiers.{same}
use Rattle.woot.specs.Operations.{character, origin, toggled_by, inserts}
use Rattle.woot.specs.Ranges.{in_range, insert_in_range, toggle_in_range}
use Rattle.woot.specs.Placing.{identifiers, held, integrate_insert, integrate_toggle}
use Rattle.woot.specs.Pending.{executable, crossed, unplaceable, integrate, Drained, and_integrated, and_discarded, drained}
use Rattle.lists.specs.Lists.{any, every, distinct}
use Rattle.lists.proofs.Members.{every_member}
use Rattle.convergence.specs.Agreement.{Grown}
use Rattle.convergence.specs.Invariants.{pending_ids, Sound}
use Rattle.convergence.proofs.Identifiers.{same_sym, eq-same}
use Rattle.convergence.proofs.Extract.{Extract, extract_length, extract_itself, extract_old, extract_cases, extract_map, extract_front, every_extract, distinct_extract, extract_distinct}
use Rattle.convergence.proofs.Soundness.{inserts-same, inserts_extract, ids_extract, placed_extract, fresh_unheld}
use Rattle.convergence.proofs.Toggling.{toggle_identifiers, toggle_length, toggled-toggles, toggled-id, member_toggle}
use Rattle.convergence.proofs.Characters.{held-is-character}
use Rattle.convergence.proofs.Drains.{Draining, stop, discard, carry}
use Rattle.convergence.proofs.Growth.{grown-insert, grown_toggle}
use Rattle.convergence.proofs.Ranges.{toggle-in-range}
use Rattle.convergence.proofs.Progress.{Progress, progress_none, progress_on, progress_held, progress_insert, progress_toggle, Settled, settled-later, stopped, Inside, inside-later, crossed-of, crossed-later}

-- operations in range whose inserts are new and differ
pub record Offered (cs : List Character) (ps : List Operation) : Type 0 where
  pub ranged : every in_range ps ≡ true
  pub apart : distinct same (identifiers cs ++ pending_ids ps) ≡ true

pub sound_offered : {cs : List Character} {ps : List Operation} → Sound cs ps → Offered cs ps
sound_offered s = record { ranged = s.pending-ranges; apart = s.apart }

-- ---- one step

pub offered_out : {cs : List Character} {os ps : List Operation} (o : Operation) → Extract o os ps → Offered cs ps
    → Offered cs os
offered_out {cs} (insert i) e f =
    record {
      ranged = every_extract in_range e f.ranged;
      apart = (distinct_extract same same_sym (ids_extract cs e) f.apart).1;
    }
offered_out {cs} (toggle t) e f =
    record {
      ranged = every_extract in_range e f.ranged;
      apart =
          subst (λ (js : List Insert). distinct same (identifiers cs ++ map (λ j. j.id) js) ≡ true) (inserts-same e)
          f.apart;
    }

-- the identifier of one of their inserts is new
pub offered_fresh : {cs : List Character} {i : Insert} {os ps : List Operation} → Extract (insert i) os ps
    → Offered cs ps → any (same i.id) (identifiers cs ++ pending_ids os) ≡ false
offered_fresh {cs} e f = (distinct_extract same same_sym (ids_extract cs e) f.apart).0

pub offered_carry : {cs : List Character} {os ps : List Operation} (o : Operation) → Extract o os ps → Offered cs ps
    → executable cs o ≡ true → crossed cs o ≡ false → unplaceable cs o ≡ false → Offered (integrate cs o) os
unfolding integrate character
offered_carry {cs} {os} (insert i) e f ready uncrossed placeable =
    let x = placed_extract cs i ready uncrossed placeable in
    record {
      ranged = every_extract in_range e f.ranged;
      apart =
          extract_distinct same same_sym (extract_front (pending_ids os) (extract_map (λ c. c.id) x))
          (offered_fresh e f) (offered_out (insert i) e f).apart;
    }
offered_carry {cs} {os} (toggle t) e f ready uncrossed placeable =
    record {
      ranged = every_extract in_range e f.ranged;
      apart =
          subst (λ xs. distinct same (xs ++ pending_ids os) ≡ true) (sym (toggle_identifiers cs t))
          (offered_out (toggle t) e f).apart;
    }

-- what an operation that is carried out leads to
pub record Carried (heap : List Operation) (cs : List Character) (o : Operation) (os ps : List Operation) : Type 0 where
  pub grown : Grown (integrate cs o)
  pub offered : Offered (integrate cs o) os
  pub progress : Progress heap cs (integrate cs o)
  pub settled : Settled (integrate cs o) o
  pub inside : Inside (integrate cs o) o
  pub count : length (integrate cs o) + length (inserts os) ≡ length cs + length (inserts ps)

pub carried : (heap : List Operation) {cs : List Character} {os ps : List Operation} (o : Operation) → Extract o os ps
    → Offered cs ps → Grown cs → Memᴰ o heap → executable cs o ≡ true → crossed cs o ≡ false
    → unplaceable cs o ≡ false → Carried heap cs o os ps
unfolding integrate in_range executable character origin
carried heap {cs} {os} {ps} (insert i) e f g m ready uncrossed placeable =
    record {
      grown = grown-insert cs i g ranged new ready uncrossed;
      offered = offered_carry (insert i) e f ready uncrossed placeable;
      progress = progress_insert i g.standing x new m;
      settled = inl (extract_itself (extract_map origin x));
      inside = extract_itself (extract_map origin x);
      count = omega (arith, extract_length x, extract_length (inserts_extract e));
    }
  where
    ranged : insert_in_range i ≡ true
    ranged = every_member in_range f.ranged (extract_itself e)

    new : held cs i.id ≡ false
    new = fresh_unheld cs os i ranged (offered_fresh e f)

    x : Extract (character i) cs (integrate_insert cs i)
    x = placed_extract cs i ready uncrossed placeable
carried heap {cs} {os} {ps} (toggle t) e f g m ready uncrossed placeable =
    record {
      grown = grown_toggle cs t ranged g;
      offered = offered_carry (toggle t) e f ready uncrossed placeable;
      progress = progress_toggle t g.standing m;
      settled = taken cs t (held-is-character cs g.standing t.target (toggle-in-range t ranged).target ready);
      inside = progress_held (progress_toggle {heap = heap} t g.standing m) t.target ready;
      count = omega (arith, toggle_length cs t, ap length (inserts-same e));
    }
  where
    ranged : toggle_in_range t ≡ true
    ranged = every_member in_range f.ranged (extract_itself e)

    taken : (cs : List Character) (t : Toggle) → ((c : Character) × Memᴰ c cs × (t.target ≡ c.id))
        → Settled (integrate_toggle cs t) (toggle t)
    taken cs t w =
        let e : same t.target w.0.id ≡ true = eq-same w.2 in
        let n : (toggled_by t w.0).toggles ≡ max w.0.toggles t.toggles = toggled-toggles t w.0 ∙ rw e in
        (toggled_by t w.0, member_toggle cs t w.1, w.2 ∙ sym (toggled-id t w.0), omega (arith, n))

-- ---- to the end

fewer-inserts : (o : Operation) {os ps : List Operation} → Extract o os ps → length (inserts os) ≤ length (inserts ps)
fewer-inserts (insert i) e = omega (arith, extract_length (inserts_extract e))
fewer-inserts (toggle t) e = omega (arith, ap length (inserts-same e))

-- what a draining ends in
pub record Ended (heap : List Operation) (cs : List Character) (ps : List Operation) (d : Drained) : Type 0 where
  pub grown : Grown d.characters
  pub progress : Progress heap cs d.characters
  pub settled : (o : Operation) → Memᴰ o ps → Settled d.characters o ⊎ Memᴰ o d.pending
  pub unready : any (executable d.characters) d.pending ≡ false
  pub waiting : (o : Operation) → Memᴰ o d.pending → Memᴰ o ps
  pub integrated : (o : Operation) → Memᴰ o d.integrated → Memᴰ o ps × Inside d.characters o
  pub discarded : (o : Operation) → Memᴰ o d.discarded → Memᴰ o ps × (crossed d.characters o ≡ true)
  pub accounted : (o : Operation) → Memᴰ o ps
      → Memᴰ o d.integrated ⊎ (Memᴰ o d.pending ⊎ Memᴰ o d.discarded)
  pub count : length d.characters + length (inserts d.pending) ≤ length cs + length (inserts ps)

pub ended : (heap : List Operation) {cs : List Character} {ps : List Operation} {d : Drained} → Draining cs ps d
    → Offered cs ps → Grown cs → ((o : Operation) → Memᴰ o ps → Memᴰ o heap) → Ended heap cs ps d
unfolding drained and_discarded and_integrated
ended heap (stop h) f g among =
    record {
      grown = g;
      progress = progress_none heap g.standing;
      settled = λ o m. inr m;
      unready = h;
      waiting = λ o m. m;
      integrated = λ o m. absurd (Memᴰ.not-nil m);
      discarded = λ o m. absurd (Memᴰ.not-nil m);
      accounted = λ o m. inr (inl m);
      count = omega arith;
    }
ended heap {cs} {ps} (discard {d = d} t v w r) f g among =
    let o = t.operation in
    let e = v.extracted in
    let ready = v.passed in
    let z = ended heap r (offered_out o e f) g (λ p m. among p (extract_old e m)) in
    record {
      grown = z.grown;
      progress = z.progress;
      settled =
          λ p m. ⊎_elim (λ k. inl
          (subst (Settled d.characters) (sym k) (settled-later z.progress g z.grown o (stopped g o ready w))))
          (λ k. z.settled p k) (extract_cases e m);
      unready = z.unready;
      waiting = λ p m. extract_old e (z.waiting p m);
      integrated = λ p m. let w = z.integrated p m in (extract_old e w.0, w.1);
      discarded =
          λ p m. ⊎_elim (λ k. (
            subst (λ q. Memᴰ q ps) (sym k) (extract_itself e),
            subst
                (λ q. crossed d.characters q ≡ true) (sym k)
                (crossed-later z.progress g z.grown o (crossed-of g o ready w)),
          ))
          (λ k. let v = z.discarded p k in (extract_old e v.0, v.1)) (Memᴰ.cases_cons m);
      accounted =
          λ p m. ⊎_elim (λ k. inr (inr (Memᴰ.head k)))
          (λ k. ⊎_elim (λ v. inl v) (λ v. inr (⊎_elim (λ u. inl u) (λ u. inr (Memᴰ.tail u)) v))
          (z.accounted p k)) (extract_cases e m);
      count = omega (arith, z.count, fewer-inserts o e);
    }
ended heap {cs} {ps} (carry {d = d} t v uncrossed placeable r) f g among =
    let o = t.operation in
    let e = v.extracted in
    let ready = v.passed in
    let y = carried heap o e f g (among o (extract_itself e)) ready uncrossed placeable in
    let z = ended heap r y.offered y.grown (λ p m. among p (extract_old e m)) in
    record {
      grown = z.grown;
      progress = progress_on y.progress z.progress;
      settled =
          λ p m. ⊎_elim (λ k. inl
          (subst (Settled d.characters) (sym k) (settled-later z.progress y.grown z.grown o y.settled)))
          (λ k. z.settled p k) (extract_cases e m);
      unready = z.unready;
      waiting = λ p m. extract_old e (z.waiting p m);
      integrated =
          λ p m. ⊎_elim (λ k. (
            subst (λ q. Memᴰ q ps) (sym k) (extract_itself e),
            subst (λ q. Inside d.characters q) (sym k) (inside-later z.progress o y.inside),
          ))
          (λ k. let v = z.integrated p k in (extract_old e v.0, v.1)) (Memᴰ.cases_cons m);
      discarded = λ p m. let w = z.discarded p m in (extract_old e w.0, w.1);
      accounted =
          λ p m. ⊎_elim (λ k. inl (Memᴰ.head k))
          (λ k. ⊎_elim (λ v. inl (Memᴰ.tail v)) (λ v. inr v) (z.accounted p k)) (extract_cases e m);
      count = omega (arith, z.count, y.count);
    }
