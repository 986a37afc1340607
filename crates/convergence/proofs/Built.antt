-- What is left out of a heap are those that cannot be carried out on what is built, nor on anything on its way there;
-- so whoever receives all the others has built it.
use Prim.Native.Nat.{ℕ, suc, ◌≤◌}
use native.Mathlib.Omega.{arith}
use mathlib.Core.Path.{◌≡◌, refl, ap, sym, ◌∙◌, subst}
use mathlib.Core.Bool.{Bool, true, false, ◌&&◌, not, cond}
use mathlib.Core.Logic.{◌⊎◌, inl, inr, ⊎_elim}
use mathlib.Core.List.Memᴰ
use mathlib.Core.List.{List, [], ◌∷◌, map, append-nil, Memᴰ}
use lib.ListN.{length}
use borrow.Author.Tests.{not-true}
use Rattle.woot.specs.declared.Identifier.{Identifier}
use Rattle.woot.specs.declared.Insert.{Insert}
use Rattle.woot.specs.declared.Operation.{Operation}
use Rattle.woot.specs.declared.Operation.TheVariants.{Insert as insert, Toggle as toggle}
use Rattle.woot.specs.declared.Character.{Character}
use Rattle.woot.specs.Limits.{capacity, last_clock}
use Rattle.woot.specs.Operations.{origin, inserts, same_operation}
use Rattle.woot.specs.declared.Site.{Site}
use Rattle.woot.specs.Identifiers.{same}
use Rattle.woot.specs.Clock.{heard, heard_all}
use Rattle.woot.specs.Form.{ordered, well_formed}
use Rattle.woot.specs.Placing.{identifiers, held, above}
use Rattle.woot.specs.Pending.{pending_from, executable, crossed}
use Rattle.lists.specs.Lists.{distinct, any, every}
use Rattle.lists.proofs.Members.{every_member, member_every, any_none}
use Rattle.convergence.proofs.Clocks.{reaches, heard-range, heard-all_reaches, reached-ids}
use Rattle.convergence.proofs.Ranges.{within-high}
use Rattle.convergence.proofs.Characters.{insert-id_in_range}
use Rattle.convergence.proofs.Forms.{Formed, reformed}
use Rattle.convergence.proofs.Heap.{listed-insert, insert-listed, once-among, among-once, heap_ended, built-complete, agreeing}
use Rattle.woot.specs.Ranges.{within, site_number, site_in_range, character_id, character_in_range, in_range}
use Rattle.woot.specs.State.{initial}
use Rattle.lists.proofs.Tests.{either, clash, and_intro, and_left_lem, and_right, fails}
use Rattle.convergence.specs.Agreement.{Grown}
use Rattle.convergence.proofs.Places.{above-upper, above_lower, held-id, Holding, is-begin, is-character, is-end, holding, held-begin, held-end}
use Rattle.convergence.proofs.Agreement.{agreement_held}
use Rattle.bulk.specs.Building.{once, building, left_out, built, disagreeing}
use Rattle.convergence.specs.Building.{received, each_ready, FromHeap}
use Rattle.convergence.proofs.Unique.{Consistent, Complete, between_neighbours, complete-among, one-meaning-of}
use Rattle.convergence.proofs.Progress.{Inside}
use Rattle.convergence.proofs.Offering.{Ended}
use Rattle.convergence.proofs.Sequences.{Arrived, arrives_empty, received-built}

-- an operation that has been carried out has all it needs, in order
pub inside-not : {cs : List Character} → Grown cs → (o : Operation) → Inside cs o
    → (executable cs o ≡ false) ⊎ (crossed cs o ≡ true) → ⊥
unfolding executable crossed origin
inside-not {cs} g (insert i) m w =
    let v = Memᴰ.of_map origin cs m in
    let b : above cs i.previous i.next ≡ true = subst (λ (j : Insert). above cs j.previous j.next ≡ true)
    v.2 (between_neighbours g v.1) in
    ⊎_elim (λ e. clash (and_intro (above-upper cs i.previous i.next b)
    (above_lower cs i.previous i.next b)) e)
    (λ e. clash b (not-true (above cs i.previous i.next)
    (and_right (held cs i.previous && held cs i.next) (not (above cs i.previous i.next)) e)))
    w
inside-not {cs} g (toggle t) h w = ⊎_elim (λ e. clash h e) (λ e. clash e refl) w

module _ (heap : List Operation) (r : every in_range heap ≡ true) (c : Consistent heap) where
  ends : Ended heap [] (once heap) (building heap)
  ends = heap_ended heap r c

  pub left-to : (o : Operation) → Memᴰ o (left_out heap)
      → Memᴰ o heap × ((executable (building heap).characters o ≡ false)
      ⊎ (crossed (building heap).characters o ≡ true))
  unfolding left_out
  left-to o m =
      ⊎_elim (λ k. (
        once-among heap (ends.waiting o k),
        inl (any_none (executable (building heap).characters) ends.unready k),
      ))
      (λ k. let v = ends.discarded o k in (once-among heap v.0, inr v.1))
      (Memᴰ.append_cases (building heap).pending m)

  pub left-from : (o : Operation) → Memᴰ o heap
      → (executable (building heap).characters o ≡ false) ⊎ (crossed (building heap).characters o ≡ true)
      → Memᴰ o (left_out heap)
  unfolding left_out
  left-from o m w =
      ⊎_elim (λ k. absurd (inside-not ends.grown o (ends.integrated o k).1 w))
      (λ k. ⊎_elim (λ v. Memᴰ.append_left (building heap).discarded v)
      (λ v. Memᴰ.append_right (building heap).pending v) k)
      (ends.accounted o (among-once heap m))

-- ---- any sequence

module _ (heap : List Operation) (c : Consistent heap) {cs ds : List Character} (g : Grown cs)
    (among : (i : Insert) → Memᴰ i (map origin cs) → Memᴰ (insert i) heap) (q : Complete heap ds) where
  held_in_lem : (x : Identifier) → held cs x ≡ true → held ds x ≡ true
  unfolding origin
  held_in_lem x h = go (holding cs x h)
    where
      go : Holding cs x → held ds x ≡ true
      go (is-begin e) = subst (λ (y : Identifier). held ds y ≡ true) (sym e) (held-begin ds)
      go (is-end e) = subst (λ (y : Identifier). held ds y ≡ true) (sym e) (held-end ds)
      go (is-character b m e) =
          let w = Memᴰ.of_map origin ds (complete-among heap c cs ds g among q (origin b) (Memᴰ.map origin m)) in
          subst (λ (y : Identifier). held ds y ≡ true) (ap (λ (i : Insert). i.id) w.2 ∙ sym e) (held-id ds w.1)

  -- what cannot be carried out on the complete list cannot on one that is on its way there
  stays_out : (o : Operation) → (executable ds o ≡ false) ⊎ (crossed ds o ≡ true)
      → (executable cs o ≡ false) ⊎ (crossed cs o ≡ true)
  unfolding executable crossed
  stays_out (insert i) w = go (either (held cs i.previous && held cs i.next))
    where
      go : (held cs i.previous && held cs i.next ≡ true) ⊎ (held cs i.previous && held cs i.next ≡ false)
          → (executable cs (insert i) ≡ false) ⊎ (crossed cs (insert i) ≡ true)
      go (inr e) = inl e
      go (inl e) =
          let a = and_left_lem (held cs i.previous) (held cs i.next) e in
          let b = and_right (held cs i.previous) (held cs i.next) e in
          let alike = agreement_held cs ds g q.grown (one-meaning-of heap c among q.among) i.previous
          i.next a b (held_in_lem i.previous a) (held_in_lem i.next b) in
          ⊎_elim (λ k. clash (and_intro (held_in_lem i.previous a) (held_in_lem i.next b)) k)
          (λ k. inr (and_intro e
          (rw alike (and_right (held ds i.previous && held ds i.next)
          (not (above ds i.previous i.next)) k))))
          w
  stays_out (toggle t) w =
      inl (⊎_elim (λ k. fails (held cs t.target) (λ h. clash (held_in_lem t.target h) k))
      (λ k. clash k refl) w)

pub heap_received : (m : ℕ) (heap os : List Operation) → site_number m ≡ true → every in_range heap ≡ true
    → disagreeing (inserts heap) ≡ false → length (inserts heap) ≤ capacity → FromHeap heap os
    → each_ready (initial m) os ≡ true
    → ((o : Operation) → Memᴰ o heap → Memᴰ o os ⊎ Memᴰ o (left_out heap))
    → (building heap).characters ≡ (received (initial m) os).characters
unfolding initial
heap_received m heap os site r d few from ready left =
    received-built heap c r few m site os from ready
    (λ o k. ⊎_elim (λ v. inl v)
    (λ v. inr (stays_out heap c z.grown
    (λ i w. ⊎_elim (λ u. absurd (Memᴰ.not-nil u)) (λ u. u) (z.progress.came i w)) (built-complete heap r c) o
    (left-to heap r c o v).1)) (left o k))
  where
    c : Consistent heap
    c = agreeing heap d

    z : Arrived heap c r few (initial m) (received (initial m) os) os
    z = arrives_empty heap c r few m site os from ready

-- ---- the form

pub once-inserts : (os : List Operation) → length (inserts (once os)) ≤ length (inserts os)
unfolding once
once-inserts [] = omega arith
once-inserts (insert i ∷ os) = go (any (same_operation (insert i)) os) (once-inserts os)
  where
    go : (b : Bool) → length (inserts (once os)) ≤ length (inserts os)
        → length (inserts (cond b (once os) (insert i ∷ once os))) ≤ suc (length (inserts os))
    go true r = omega arith
    go false r = omega arith
once-inserts (toggle t ∷ os) = go (any (same_operation (toggle t)) os) (once-inserts os)
  where
    go : (b : Bool) → length (inserts (once os)) ≤ length (inserts os)
        → length (inserts (cond b (once os) (toggle t ∷ once os))) ≤ length (inserts os)
    go true r = r
    go false r = r

heard-all-range : (t : Site) (is : List Insert) → site_in_range t ≡ true
    → ((i : Insert) → Memᴰ i is → i.id.clock ≤ last_clock) → site_in_range (heard_all t is) ≡ true
heard-all-range t [] h f = h
heard-all-range t (i ∷ is) h f =
    heard-all-range (heard t i) is (heard-range t i h (f i (Memᴰ.head refl))) (λ j m. f j (Memᴰ.tail m))

clock_bound : (x : Identifier) → character_id x ≡ true → x.clock ≤ last_clock
unfolding character_id
clock_bound x h =
    within-high 1 last_clock x.clock (and_right (site_number x.site) (within 1 last_clock x.clock) h)

pub heap_formed : (n : ℕ) (heap : List Operation) → site_number n ≡ true → every in_range heap ≡ true
    → disagreeing (inserts heap) ≡ false → length (inserts heap) ≤ capacity
    → (well_formed (built n heap) ≡ true) × Grown (built n heap).characters
unfolding built initial site_in_range within pending_from in_range origin ordered
heap_formed n heap site r d few = (reformed (built n heap) form, (ends heap r c).grown)
  where
    c : Consistent heap
    c = agreeing heap d

    cs : List Character
    cs = (building heap).characters

    g : Grown cs
    g = (ends heap r c).grown

    among : (i : Insert) → Memᴰ i (map origin cs) → Memᴰ i (inserts heap)
    among i m = listed-insert heap ((built-complete heap r c).among i m)

    clocks : (i : Insert) → Memᴰ i (inserts heap) → i.id.clock ≤ last_clock
    clocks i m = clock_bound i.id (insert-id_in_range i (every_member in_range r (insert-listed heap m)))

    few-characters : length cs ≤ capacity
    few-characters = omega (arith, (ends heap r c).count, once-inserts heap)

    reached-each : (x : Identifier) → Memᴰ x (identifiers cs) → reaches (built n heap).site x ≡ true
    reached-each x m =
        let w = Memᴰ.of_map (λ (b : Character). b.id) cs m in
        let all : every (reaches (built n heap).site) (map (λ i. i.id) (inserts heap)) ≡ true = sym
        (reached-ids (built n heap).site (inserts heap)) ∙ heard-all_reaches (record { number = n; clock = 0 })
        (inserts heap) in
        every_member (reaches (built n heap).site) all
        (subst (λ (y : Identifier). Memᴰ y (map (λ (i : Insert). i.id) (inserts heap))) w.2
        (Memᴰ.map (λ (i : Insert). i.id) (among (origin w.0) (Memᴰ.map origin w.1))))

    form : Formed (built n heap)
    form =
        record {
          site = heard-all-range (record { number = n; clock = 0 }) (inserts heap) (rw site) clocks;
          sound =
              record {
                ranges = member_every character_in_range cs g.standing.ranges;
                ordered-all =
                    member_every (ordered cs) cs
                    (λ b m. and_intro (g.standing.below-previous b m) (g.standing.above-next b m));
                pending-ranges = refl;
                shares = refl;
                room = omega (arith, few-characters);
                apart = subst (λ xs. distinct same xs ≡ true) (sym (append-nil (identifiers cs))) g.standing.apart;
                toggles-apart = refl;
              };
          unready = refl;
          reached =
              subst (λ xs. every (reaches (built n heap).site) xs ≡ true) (sym (append-nil (identifiers cs)))
              (member_every (reaches (built n heap).site) (identifiers cs) reached-each);
        }
