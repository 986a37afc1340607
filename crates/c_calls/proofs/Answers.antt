-- What is answered to a list is a heap of inserts and toggles in range, at most 1,024 of each: so its lines are no
-- longer than the header says.
use Prim.Native.Nat.{ℕ, ◌+◌, ◌≤◌}
use native.Mathlib.Omega.{arith}
use mathlib.Core.Path.{◌≡◌, refl, sym, ap, ◌∙◌, subst}
use mathlib.Core.Bool.{Bool, true, false, cond, not}
use mathlib.Core.Logic.{⊎_elim}
use mathlib.Core.List.Memᴰ
use mathlib.Core.List.{List, [], ◌∷◌, ◌++◌, Memᴰ}
use lib.Dec.{eqb}
use lib.ListN.{length}
use borrow.Author.Tests.{le-ltb}
use Rattle.lists.specs.Lists.{every}
use Rattle.lists.proofs.Tests.{and_left_lem, or-false}
use Rattle.lists.proofs.Members.{member_every, keep-length}
use Rattle.woot.specs.declared.Identifier.{Identifier}
use Rattle.woot.specs.declared.Operation.{Operation}
use Rattle.woot.specs.declared.Operation.TheVariants.{Toggle as toggle}
use Rattle.woot.specs.declared.Character.{Character}
use Rattle.woot.specs.Limits.{capacity}
use Rattle.woot.specs.Operations.{inserts, toggles_among}
use Rattle.woot.specs.Ranges.{site_number, site_in_range, in_range}
use Rattle.woot.specs.State.{State}
use Rattle.woot.specs.Form.{well_formed}
use Rattle.bulk.specs.Building.{heap_full}
use Rattle.bulk.specs.Loading.{arrivals, turnings}
use Rattle.bulk.specs.Catching.{Listing, listed_in, unlisted, sent, operations_for, answer_for}
use Rattle.convergence.specs.Agreement.{Standing}
use Rattle.convergence.proofs.Arrivals.{turn, arrival, turning, arrivals-count, turnings-count}
use Rattle.convergence.proofs.Characters.{id_in_range}
use Rattle.convergence.proofs.Forms.{formed}
use Rattle.convergence.proofs.Ranges.{origin_ranged, toggles_ranged, to_toggle_range}
use Rattle.convergence.proofs.Sequencing.{sent-are, sent-count}
use Rattle.convergence.proofs.Soundness.{standing}
use Rattle.lines.specs.Lines.{concatenated}
use Rattle.codec.specs.Operations.{operation_line}
use Rattle.heap.proofs.Heaps.{heap_reads-back, heap_lengths}
use Rattle.c_calls.specs.Theorems.{answer_most}

-- ---- how many toggles

arrivals-none : (cs : List Character) (os : List Operation) →
    length (toggles_among (arrivals cs ++ os)) ≡ length (toggles_among os)
arrivals-none [] os = refl
arrivals-none (c ∷ cs) os = arrivals-none cs os

turnings-few : (n : ℕ) (cs : List Character) → length (toggles_among (turnings n cs)) ≤ length cs
unfolding turnings
turnings-few n [] = omega arith
turnings-few n (c ∷ cs) = go (eqb c.toggles 0) (turnings-few n cs)
  where
    go : (b : Bool) → length (toggles_among (turnings n cs)) ≤ length cs
        → length (toggles_among (cond b (turnings n cs) (toggle (turn n c) ∷ turnings n cs))) ≤ length (c ∷ cs)
    go true r = omega (arith, r)
    go false r = omega (arith, r)

module _ (t : State) (f : well_formed t ≡ true) (l : Listing) where
  abbrev rows : List Character
  rows = t.characters

  abbrev listed : Identifier → Bool
  listed = listed_in l.chunks

  abbrev given : List Operation
  given = answer_for t l

  stands : Standing rows
  stands = standing (formed t f).sound

  site : site_number t.site.number ≡ true
  unfolding site_in_range
  site = and_left_lem (site_number t.site.number) _ (formed t f).site

  -- ---- in range

  pub answer_ranged : every in_range given ≡ true
  unfolding answer_for operations_for in_range
  answer_ranged =
      member_every in_range given
      (λ o m. ⊎_elim (arrived o) (turned o) (Memᴰ.append_cases (arrivals (sent listed rows)) m))
    where
      arrived : (o : Operation) → Memᴰ o (arrivals (sent listed rows)) → in_range o ≡ true
      arrived o m =
          let w = arrival (sent listed rows) m in
          let there = ((sent-are listed rows stands.apart w.0).0 w.1).0 in
          subst (λ (p : Operation). in_range p ≡ true) w.2 (origin_ranged w.0 (stands.ranges w.0 there))

      turned : (o : Operation) → Memᴰ o (turnings t.site.number rows) → in_range o ≡ true
      turned o m =
          let w = turning t.site.number rows m in
          subst (λ (p : Operation). in_range p ≡ true) (sym w.2)
          (to_toggle_range (turn t.site.number w.0)
          (record {
            sender = site;
            target = id_in_range rows stands w.1;
            least = w.3;
            most = toggles_ranged w.0 (stands.ranges w.0 w.1);
          }))

  -- ---- how many

  inserts-few : length (inserts given) ≤ capacity
  unfolding answer_for operations_for unlisted
  inserts-few =
      let turned : List Operation = turnings t.site.number rows in
      omega (
        arith,
        arrivals-count (sent listed rows) turned,
        turnings-count t.site.number rows,
        sent-count listed rows stands.apart,
        keep-length (λ (c : Character). not (listed c.id)) rows,
        (formed t f).sound.room,
      )

  toggles-few : length (toggles_among given) ≤ capacity
  unfolding answer_for operations_for
  toggles-few =
      let turned : List Operation = turnings t.site.number rows in
      omega (
        arith,
        arrivals-none (sent listed rows) turned,
        turnings-few t.site.number rows,
        (formed t f).sound.room,
      )

  few : heap_full given ≡ false
  unfolding heap_full
  few =
      or-false (le-ltb capacity (length (inserts given)) inserts-few)
      (le-ltb capacity (length (toggles_among given)) toggles-few)

  pub answer-short : length (concatenated operation_line given) ≤ answer_most
  answer-short =
      let back = heap_reads-back given in
      heap_lengths (concatenated operation_line given) back.0 (ap (every in_range) back.1 ∙ answer_ranged)
      (ap heap_full back.1 ∙ few)
