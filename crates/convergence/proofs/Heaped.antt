-- A heap is refused and nothing is built, or none of its conditions holds and the rule's characters are built: what is
-- said of every building is said of these two.
use Prim.Native.Nat.{ℕ, ◌≤◌}
use mathlib.Core.Path.{◌≡◌, refl}
use mathlib.Core.Bool.{true, false, ◌&&◌}
use mathlib.Core.Logic.{◌⊎◌, inl, inr}
use mathlib.Core.Option.{Option, none, some}
use mathlib.Core.List.{List}
use lib.Dec.{ltb}
use lib.ListN.{length}
use borrow.Author.Tests.{ltb-false, not-false}
use Rattle.woot.specs.declared.Operation.{Operation}
use Rattle.answers.specs.declared.Answer.{Answer}
use Rattle.answers.specs.declared.Answer.TheVariants.{Done}
use Rattle.woot.specs.Limits.{capacity}
use Rattle.woot.specs.Operations.{inserts, toggles_among}
use Rattle.woot.specs.Ranges.{site_number, in_range}
use Rattle.woot.specs.State.{initial}
use Rattle.woot.specs.Form.{well_formed}
use Rattle.answers.specs.Answers.{first, decided, NoneHolds}
use Rattle.bulk.specs.Building.{building, left_out, built, heap_full, disagreeing, build_checks, BuildOutcome, unbuilt, build}
use Rattle.lists.specs.Lists.{every}
use Rattle.lists.proofs.Tests.{and_left_lem, and_right, or-false-left, or-false-right}
use Rattle.convergence.specs.Agreement.{Grown}
use Rattle.convergence.proofs.Growth.{grown-empty}
use Rattle.convergence.proofs.Steps.{Turned, All, first-none, first_some}
use Rattle.convergence.proofs.Built.{heap_formed}

-- none of the conditions holds
pub record Accepted (n : ℕ) (heap : List Operation) : Type 0 where
  pub site : site_number n ≡ true
  pub ranged : every in_range heap ≡ true
  pub few-inserts : length (inserts heap) ≤ capacity
  pub few-toggles : length (toggles_among heap) ≤ capacity
  pub agreed : disagreeing (inserts heap) ≡ false

-- what is built then
abbrev pub wholly : ℕ → List Operation → BuildOutcome
wholly n heap =
    record {
      answer = Done 0 (length (left_out heap));
      state = built n heap;
      integrated = (building heap).integrated;
    }

pub none-accepted : (n : ℕ) (heap : List Operation) → NoneHolds (build_checks n heap) → Accepted n heap
unfolding build_checks heap_full
none-accepted n heap w =
    let ranges = not-false (site_number n && every in_range heap) w.0 in
    let inserted = ltb capacity (length (inserts heap)) in
    let toggled = ltb capacity (length (toggles_among heap)) in
    record {
      site = and_left_lem (site_number n) (every in_range heap) ranges;
      ranged = and_right (site_number n) (every in_range heap) ranges;
      few-inserts = ltb-false capacity (length (inserts heap)) (or-false-left inserted toggled w.1.0);
      few-toggles = ltb-false capacity (length (toggles_among heap)) (or-false-right inserted toggled w.1.0);
      agreed = w.1.1.0;
    }

pub build-turned : (n : ℕ) (heap : List Operation) → All Turned (build_checks n heap)
unfolding build_checks
build-turned n heap = (tt, (tt, (tt, tt)))

-- one of the two
pub data Verdict (n : ℕ) (heap : List Operation) : BuildOutcome → Type 0 where
  turned : (a : Answer) → Turned a → Verdict n heap (unbuilt a)
  accepted : Accepted n heap → Verdict n heap (wholly n heap)

pub verdict : (n : ℕ) (heap : List Operation) → Verdict n heap (build n heap)
unfolding build decided
verdict n heap = go (first (build_checks n heap)) refl
  where
    go : (m : Option Answer) → first (build_checks n heap) ≡ m → Verdict n heap (decided unbuilt m (wholly n heap))
    go none e = accepted (none-accepted n heap (first-none (build_checks n heap) e))
    go (some a) e = turned a (first_some Turned (build_checks n heap) (build-turned n heap) a e)

-- ---- what is said of both

pub heaped-grown : (n : ℕ) (heap : List Operation) → Grown (build n heap).state.characters
unfolding unbuilt initial
heaped-grown n heap = go (verdict n heap)
  where
    go : {b : BuildOutcome} → Verdict n heap b → Grown b.state.characters
    go (turned a t) = grown-empty
    go (accepted a) = (heap_formed n heap a.site a.ranged a.agreed a.few-inserts).1

-- the empty state of number 0, or one in form
pub heaped-formed : (n : ℕ) (heap : List Operation)
    → ((build n heap).state ≡ initial 0) ⊎ (well_formed (build n heap).state ≡ true)
unfolding unbuilt
heaped-formed n heap = go (verdict n heap)
  where
    go : {b : BuildOutcome} → Verdict n heap b → (b.state ≡ initial 0) ⊎ (well_formed b.state ≡ true)
    go (turned a t) = inl refl
    go (accepted a) = inr (heap_formed n heap a.site a.ranged a.agreed a.few-inserts).0
