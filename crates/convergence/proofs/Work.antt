-- A loop that carries a heap out in any order keeps `Working`, and where none that is left has all it needs it has
-- built what the rule builds: uniqueness is all that the order of the code asks for.
use mathlib.Core.Path.{◌≡◌, sym, subst}
use mathlib.Core.Bool.{true, false}
use mathlib.Core.Logic.{◌⊎◌, inl, inr, ⊎_elim}
use mathlib.Core.List.{List, [], Memᴰ}
use Rattle.woot.specs.declared.Operation.{Operation}
use Rattle.woot.specs.declared.Character.{Character}
use Rattle.woot.specs.Ranges.{in_range}
use Rattle.woot.specs.Pending.{executable, crossed, unplaceable, integrate}
use Rattle.lists.specs.Lists.{any, every}
use Rattle.lists.proofs.Members.{any_none}
use Rattle.convergence.specs.Agreement.{Grown}
use Rattle.convergence.proofs.Extract.{Extract, extract_itself, extract_old, extract_cases}
use Rattle.bulk.specs.Building.{building}
use Rattle.convergence.proofs.Unique.{Consistent}
use Rattle.convergence.proofs.Progress.{Progress, progress_on, Settled, settled-later, stopped, completed}
use Rattle.convergence.proofs.Offering.{Offered, offered_out, carried}
use Rattle.convergence.proofs.Counting.{complete-built}

-- the characters so far, and the operations that are left
pub record Working (heap : List Operation) (cs : List Character) (left : List Operation) : Type 0 where
  pub grown : Grown cs
  pub progress : Progress heap [] cs
  pub offered : Offered cs left
  pub among : (o : Operation) → Memᴰ o left → Memᴰ o heap
  pub settled : (o : Operation) → Memᴰ o heap → Settled cs o ⊎ Memᴰ o left

-- one that has all it needs and meets condition 8 is put aside
pub work_aside : {heap : List Operation} {cs : List Character} {os ps : List Operation} (o : Operation)
    → Extract o os ps → executable cs o ≡ true → crossed cs o ≡ true → Working heap cs ps → Working heap cs os
work_aside {heap} {cs} o e ready x w =
    record {
      grown = w.grown;
      progress = w.progress;
      offered = offered_out o e w.offered;
      among = λ p m. w.among p (extract_old e m);
      settled =
          λ p m. ⊎_elim (λ s. inl s)
          (λ k. ⊎_elim (λ q. inl (subst (Settled cs) (sym q) (stopped w.grown o ready (inl x)))) (λ q. inr q)
          (extract_cases e k)) (w.settled p m);
    }

-- any other that has all it needs is carried out
pub work_carries : {heap : List Operation} {cs : List Character} {os ps : List Operation} (o : Operation)
    → Extract o os ps → executable cs o ≡ true → crossed cs o ≡ false → unplaceable cs o ≡ false → Working heap cs ps
    → Working heap (integrate cs o) os
work_carries {heap} {cs} o e ready x p w =
    let y = carried heap o e w.offered w.grown (w.among o (extract_itself e)) ready x p in
    record {
      grown = y.grown;
      progress = progress_on w.progress y.progress;
      offered = y.offered;
      among = λ q m. w.among q (extract_old e m);
      settled =
          λ q m. ⊎_elim (λ s. inl (settled-later y.progress w.grown y.grown q s))
          (λ k. ⊎_elim (λ v. inl (subst (Settled (integrate cs o)) (sym v) y.settled)) (λ v. inr v)
          (extract_cases e k)) (w.settled q m);
    }

-- where none that is left has all it needs, the characters are those of the definition
pub work_ends : (heap : List Operation) → every in_range heap ≡ true → Consistent heap
    → {cs : List Character} {left : List Operation} → Working heap cs left → any (executable cs) left ≡ false
    → cs ≡ (building heap).characters
work_ends heap r c {cs} w h =
    complete-built heap r c cs
    (completed heap w.grown w.progress
    (λ o m. ⊎_elim (λ s. inl s) (λ k. inr (any_none (executable cs) h k)) (w.settled o m)))
