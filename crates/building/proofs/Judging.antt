-- What is known of a heap once it is read: the rule refuses it so, or its operations are in range, not too many, and
-- left to be built.
use Prim.Native.Nat.{ℕ, ◌≤◌}
use mathlib.Core.Path.{◌≡◌, refl, sym, ap, subst, ◌∙◌}
use mathlib.Core.Bool.{Bool, true, false, ◌&&◌, not}
use mathlib.Core.List.{List}
use borrow.Author.Tests.{ltb-false}
use lib.Dec.{ltb}
use lib.ListN.{length, take}
use lib.Seq.{take_all}
use Rattle.std.proofs.Common.{Result, Ok, Err}
use Rattle.lists.specs.Lists.{every}
use Rattle.lists.proofs.Tests.{and_left_lem, and_right, or-false-left, or-false-right}
use Rattle.woot.specs.declared.Operation.{Operation}
use Rattle.answers.specs.declared.Refusal.{Refusal}
use Rattle.answers.specs.declared.Answer.TheVariants.{Refused}
use Rattle.woot.specs.Operations.{inserts, toggles_among}
use Rattle.woot.specs.Ranges.{site_number, in_range}
use Rattle.answers.specs.Answers.{decided}
use Rattle.bulk.specs.Building.{unbuilt, heap_full, build_checks, build}
use Rattle.convergence.proofs.Ranges.{within-high}
use Rattle.heap.specs.Format.{heap_laid_out, heap_said}
use Rattle.heap.specs.Columns.{InsertsIn, TogglesIn}
use Rattle.gathering.specs.declared.Gathered.{Gathered}
use Rattle.gathering.specs.Gathering.{ungathered, gathered_of, gathered, Held}
use Rattle.building.specs.Calls.{built_outcome, built_by}
use Rattle.building.specs.Assembly.{judged, Gathers, outcome_of, returned}
use Rattle.building.specs.Steps.{Among}
use Rattle.building.proofs.Assembling.{toggles_ranged}

module _ (n : ℕ) (bytes : List ℕ) where
  abbrev os : List Operation
  os = heap_said bytes

  pub record Fitting : Type 0 where
    pub told : gathered bytes ≡ gathered_of os
    pub site : site_number n ≡ true
    pub ranged : every in_range os ≡ true
    pub few-inserts : length (inserts os) ≤ 1024
    pub few-toggles : length (toggles_among os) ≤ 1024
    pub comes : returned (outcome_of n os) ≡ built_by n bytes

  abbrev Told : Result (Unit {0}) Refusal → Type 0
  Told (Err r) = returned (unbuilt (Refused r)) ≡ built_by n bytes
  Told (Ok x) = Fitting

  go : (l : Bool) → heap_laid_out bytes ≡ l → (a : Bool) → site_number n && every in_range os ≡ a → (f : Bool) → heap_full os ≡ f
      → Told (judged n (gathered bytes))
  unfolding judged gathered ungathered gathered_of built_by built_outcome build build_checks decided returned outcome_of heap_full
  go false e a g f h = rw e (rw e)
  go true e false g f h = rw (e, g) (rw (e, g))
  go true e true g true h = rw (e, g, h) (rw (e, g, h))
  go true e true g false h =
      rw (e, g, h)
      (record {
        told = rw e;
        site = and_left_lem (site_number n) _ g;
        ranged = and_right (site_number n) _ g;
        few-inserts = ltb-false 1024 (length (inserts os)) (or-false-left (ltb 1024 (length (inserts os))) _ h);
        few-toggles = ltb-false 1024 (length (toggles_among os)) (or-false-right (ltb 1024 (length (inserts os))) _ h);
        comes = rw (e, g, h);
      })

  pub judged-told : {g : Gathered} → g ≡ gathered bytes → {j : Result (Unit {0}) Refusal} → j ≡ judged n g → Told j
  judged-told e {j} f = subst Told (sym (f ∙ ap (judged n) e)) (go (heap_laid_out bytes) refl (site_number n && every in_range os) refl (heap_full os) refl)

module _ (n : ℕ) (bytes : List ℕ) (f : Fitting n bytes) {g : Gathered} (e : g ≡ gathered bytes) where
  pub fits-inserts : g.inserts ≡ length (inserts (heap_said bytes))
  unfolding gathered_of
  fits-inserts = ap (λ (h : Gathered). h.inserts) (e ∙ f.told)

  pub fits-toggles : g.toggles ≡ length (toggles_among (heap_said bytes))
  unfolding gathered_of
  fits-toggles = ap (λ (h : Gathered). h.toggles) (e ∙ f.told)

  pub fits-range : g.in_range ≡ true
  unfolding gathered_of
  fits-range = ap (λ (h : Gathered). h.in_range) (e ∙ f.told) ∙ f.ranged

  pub all-inserts : {xs : List ℕ} → InsertsIn xs (take 1024 (inserts (heap_said bytes))) → InsertsIn xs (inserts (heap_said bytes))
  all-inserts a = rw (take_all 1024 (inserts (heap_said bytes)) f.few-inserts) at a

  pub all-toggles : {ys : List ℕ} → TogglesIn ys (take 1024 (toggles_among (heap_said bytes))) → Among ys g.toggles (toggles_among (heap_said bytes))
  all-toggles b =
      record {
        held = rw (take_all 1024 (toggles_among (heap_said bytes)) f.few-toggles) at b;
        many = fits-toggles;
        ranged = toggles_ranged (heap_said bytes) f.ranged;
      }

  -- the arrays with all of the operations
  abbrev pub fits-gathers : {xs ys : List ℕ} → (g.in_range ≡ true → Held xs ys (heap_said bytes)) → Gathers xs g.inserts ys g.toggles
  fits-gathers h =
      record {
        operations = heap_said bytes;
        held = all-inserts (h fits-range).inserted;
        many = fits-inserts;
        among = all-toggles (h fits-range).toggled;
        ranged = f.ranged;
      }

pub fits-number : (n : ℕ) (bytes : List ℕ) → Fitting n bytes → n ≤ 16
unfolding site_number
fits-number n bytes f = within-high 1 16 n f.site
