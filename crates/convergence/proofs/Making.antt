-- Characters that have grown are what their inserts and a toggle for each that has been toggled build; so receiving
-- what was carried out to build them, in that order, makes them.
use Prim.Native.Nat.{ℕ, ◌≤◌}
use native.Mathlib.Omega.{arith}
use mathlib.Core.Path.{◌≡◌, refl, ap, sym, ◌∙◌, subst}
use mathlib.Core.Bool.{true, false}
use mathlib.Core.Logic.{◌⊎◌, inl, inr, ⊎_elim, ◌↔◌}
use mathlib.Core.List.Memᴰ
use mathlib.Core.List.{List, [], ◌∷◌, ◌++◌, map, Memᴰ}
use lib.ListN.{length}
use Rattle.woot.specs.declared.Identifier.{Identifier}
use Rattle.woot.specs.declared.Insert.{Insert}
use Rattle.woot.specs.declared.Toggle.{Toggle}
use Rattle.woot.specs.declared.Operation.{Operation}
use Rattle.woot.specs.declared.Operation.TheVariants.{Insert as insert, Toggle as toggle}
use Rattle.woot.specs.declared.Character.{Character}
use Rattle.woot.specs.Limits.{capacity}
use Rattle.woot.specs.Operations.{origin, inserts}
use Rattle.woot.specs.Ranges.{within, site_number, in_range}
use Rattle.woot.specs.State.{State, initial}
use Rattle.woot.specs.Placing.{held}
use Rattle.woot.specs.Pending.{executable, crossed}
use Rattle.woot.specs.Calls.{receive}
use Rattle.bulk.specs.Building.{once, building, left_out}
use Rattle.bulk.specs.Loading.{arrivals, turnings, loadable, use_outcome}
use Rattle.woot.specs.Histories.{receiving, outcome, run}
use Rattle.lists.specs.Lists.{every}
use Rattle.lists.proofs.Members.{member_every}
use Rattle.convergence.specs.Agreement.{Grown}
use Rattle.convergence.specs.Building.{received}
use Rattle.convergence.specs.Loading.{Made, LoadableMade, BeforehandMakes}
use Rattle.convergence.proofs.Ranges.{origin_ranged, toggles_ranged, to_toggle_range}
use Rattle.convergence.proofs.Characters.{same-character, id_in_range}
use Rattle.convergence.proofs.Places.{held-id}
use Rattle.convergence.proofs.Forms.{formed}
use Rattle.convergence.proofs.Soundness.{standing}
use Rattle.convergence.proofs.Growth.{grown-empty}
use Rattle.convergence.proofs.Unique.{Consistent, Complete, complete-unique}
use Rattle.convergence.proofs.Progress.{Inside}
use Rattle.convergence.proofs.Offering.{Ended}
use Rattle.convergence.proofs.Heap.{heap_ended, once-among, among-once, built-complete}
use Rattle.convergence.proofs.Sequences.{ready_built, received-built}
use Rattle.convergence.proofs.Built.{inside-not, left-to}
use Rattle.convergence.proofs.Grown.{grown-run}
use Rattle.convergence.proofs.Arrivals.{turn, toggle_eq, arrival, turning, turned_in, origin_arrives}
use Rattle.convergence.proofs.Arrivals.{arrived_origin, arrivals-count, turnings-count}
use Rattle.convergence.proofs.Used.{used_grown, used_formed}
use Rattle.convergence.proofs.Loadable.{loadable-grown, grown-loadable}

one-site : site_number 1 ≡ true
unfolding site_number within
one-site = refl

module _ (cs : List Character) (g : Grown cs) (few : length cs ≤ capacity) where
  all : List Operation
  all = arrivals cs ++ turnings 1 cs

  consistent_all : Consistent all
  unfolding all origin
  consistent_all i j m n e =
      let a = Memᴰ.of_map origin cs (arrived_origin 1 cs i m) in
      let b = Memᴰ.of_map origin cs (arrived_origin 1 cs j n) in
      let ids = ap (λ (k : Insert). k.id) a.2 ∙ e ∙ sym (ap (λ (k : Insert). k.id) b.2) in
      sym a.2 ∙ ap origin (same-character cs g.standing a.1 b.1 ids) ∙ b.2

  ranged_all : every in_range all ≡ true
  unfolding all in_range
  ranged_all =
      member_every in_range (arrivals cs ++ turnings 1 cs)
      (λ o m. ⊎_elim (arrived o) (turned o) (Memᴰ.append_cases (arrivals cs) m))
    where
      arrived : (o : Operation) → Memᴰ o (arrivals cs) → in_range o ≡ true
      arrived o m =
          let w = arrival cs m in
          subst (λ (p : Operation). in_range p ≡ true) w.2
          (origin_ranged w.0 (g.standing.ranges w.0 w.1))

      turned : (o : Operation) → Memᴰ o (turnings 1 cs) → in_range o ≡ true
      turned o m =
          let w = turning 1 cs m in
          subst (λ (p : Operation). in_range p ≡ true) (sym w.2)
          (to_toggle_range (turn 1 w.0)
          (record {
            sender = one-site;
            target = id_in_range cs g.standing w.1;
            least = w.3;
            most = toggles_ranged w.0 (g.standing.ranges w.0 w.1);
          }))

  few-all : length (inserts all) ≤ capacity
  unfolding all
  few-all = omega (arith, arrivals-count cs (turnings 1 cs), turnings-count 1 cs)

  -- the characters are what they build
  itself : Complete all cs
  unfolding all
  itself =
      record {
        grown = g;
        among = λ i m. Memᴰ.append_left (turnings 1 cs) (origin_arrives cs i m);
        closed = λ i m a. arrived_origin 1 cs i m;
        at_least = λ t m c n e. least t c n e (Memᴰ.append_cases (arrivals cs) m);
        attained =
            λ c m. ⊎_elim (λ z. inl z) (λ k. inr (turn 1 c, Memᴰ.append_right (arrivals cs) k, refl, refl))
            (turned_in 1 cs m);
      }
    where
      least : (t : Toggle) (c : Character) → Memᴰ c cs → t.target ≡ c.id
          → Memᴰ (toggle t) (arrivals cs) ⊎ Memᴰ (toggle t) (turnings 1 cs) → t.toggles ≤ c.toggles
      least t c n e (inl k) =
          let w = arrival cs k in let q = w.2 in absurd (let z : ◌≡◌ {A = ℕ} 0 1 = cc in omega arith)
      least t c n e (inr k) =
          let w = turning 1 cs k in
          let q : t ≡ turn 1 w.0 = toggle_eq w.2 in
          let one = same-character cs g.standing w.1 n (sym (ap (λ (u : Toggle). u.target) q) ∙ e) in
          omega (arith, ap (λ (u : Toggle). u.toggles) q, ap (λ (b : Character). b.toggles) one)

  builds : (building all).characters ≡ cs
  builds =
      complete-unique all consistent_all (building all).characters cs (built-complete all ranged_all consistent_all)
      itself

  inside : (o : Operation) → Memᴰ o all → Inside cs o
  unfolding all
  inside (insert i) m = arrived_origin 1 cs i m
  inside (toggle t) m =
      ⊎_elim (λ k. let q = (arrival cs k).2 in absurd (let z : ◌≡◌ {A = ℕ} 0 1 = cc in omega arith))
      (λ k. let w = turning 1 cs k in
      subst (λ (x : Identifier). held cs x ≡ true) (sym (ap (λ (u : Toggle). u.target) (toggle_eq w.2)))
      (held-id cs w.1))
      (Memᴰ.append_cases (arrivals cs) m)

  -- so none of them is left out
  carried_all : (o : Operation) → Memᴰ o all → Memᴰ o (building all).integrated
  unfolding left_out
  carried_all o m = ⊎_elim (λ k. k) (λ k. absurd (out k)) (ends.accounted o (among-once all m))
    where
      ends : Ended all [] (once all) (building all)
      ends = heap_ended all ranged_all consistent_all

      Unmet : List Character → Type 0
      Unmet ds = (executable ds o ≡ false) ⊎ (crossed ds o ≡ true)

      out : Memᴰ o (building all).pending ⊎ Memᴰ o (building all).discarded → ⊥
      out k =
          let left = ⊎_elim (λ v. Memᴰ.append_left (building all).discarded v)
          (λ v. Memᴰ.append_right (building all).pending v) k in
          inside-not g o (inside o m) (subst Unmet builds (left-to all ranged_all consistent_all o left).1)

  all_carried : (o : Operation) → Memᴰ o (building all).integrated → Memᴰ o all
  all_carried o m = once-among all ((heap_ended all ranged_all consistent_all).integrated o m).0

  pub makes : (n : ℕ) → site_number n ≡ true
      → (os : List Operation) × ((received (initial n) os).characters ≡ cs)
      × ((o : Operation) → Memᴰ o os ↔ Memᴰ o (arrivals cs ++ turnings 1 cs))
  unfolding all
  makes n q = (
    (building all).integrated,
    sym (received-built all consistent_all ranged_all few-all n q (building all).integrated all_carried
        (ready_built all consistent_all ranged_all few-all n q) (λ o m. inl (carried_all o m)))
        ∙ builds,
    λ o. (all_carried o, carried_all o),
  )

-- ---- made by receiving, hence grown

received-run : (s : State) (os : List Operation) → received s os ≡ run s (map receiving os)
unfolding outcome
received-run s [] = refl
received-run s (o ∷ os) = received-run (receive s o).state os

pub made_loadable : (n : ℕ) (os : List Operation) (cs : List Character) → (received (initial n) os).characters ≡ cs
    → loadable cs ≡ true
unfolding initial
made_loadable n os cs e =
    grown-loadable cs (subst Grown (ap (λ (s : State). s.characters) (sym (received-run (initial n) os)) ∙ e)
    (grown-run (initial n) (map receiving os) grown-empty))

pub loadable_made : LoadableMade
loadable_made s f n q = (to, λ w. made_loadable n w.0 s.characters w.1)
  where
    to : loadable s.characters ≡ true → Made n s.characters
    to h =
        let g = loadable-grown s.characters (standing (formed s f).sound) h in
        let few : length s.characters ≤ capacity = omega (arith, (formed s f).sound.room) in
        let w = makes s.characters g few n q in
        (w.0, w.1)

pub beforehand_makes : BeforehandMakes
unfolding initial
beforehand_makes s n q = makes (use_outcome s).state.characters (used_grown s) few n q
  where
    few : length (use_outcome s).state.characters ≤ capacity
    few =
        ⊎_elim (λ e. let k = ap (λ (t : State). length t.characters) e in omega (arith, k))
        (λ f. omega (arith, (formed (use_outcome s).state f).sound.room)) (used_formed s)
