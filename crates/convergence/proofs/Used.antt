-- A state is refused and nothing is loaded, or it is in form and loadable and is left as it is: what is said of every
-- loading for use is said of these two.
use mathlib.Core.Path.{◌≡◌, refl}
use mathlib.Core.Bool.{Bool, true}
use mathlib.Core.Logic.{◌⊎◌, inl, inr}
use mathlib.Core.Option.{Option, none, some}
use mathlib.Core.List.{List}
use borrow.Author.Tests.{not-false}
use Rattle.answers.specs.declared.Answer.{Answer}
use Rattle.answers.specs.declared.Answer.TheVariants.{Done}
use Rattle.woot.specs.State.{State, initial}
use Rattle.woot.specs.Form.{well_formed}
use Rattle.answers.specs.Answers.{first, decided, NoneHolds}
use Rattle.bulk.specs.Loading.{loadable, use_checks, UseOutcome, unused, use_when, use_outcome}
use Rattle.convergence.specs.Agreement.{Grown}
use Rattle.convergence.proofs.Forms.{formed}
use Rattle.convergence.proofs.Soundness.{standing}
use Rattle.convergence.proofs.Growth.{grown-empty}
use Rattle.convergence.proofs.Steps.{Turned, All, first-none, first_some}
use Rattle.convergence.proofs.Loadable.{loadable-grown}

-- none of the conditions holds
pub record Usable (s : State) : Type 0 where
  pub form : well_formed s ≡ true
  pub made : loadable s.characters ≡ true

-- what is left then
abbrev pub whole : State → UseOutcome
whole s = record { answer = Done 0 0; state = s }

pub none_usable : (s : State) → NoneHolds (use_checks (well_formed s) s) → Usable s
unfolding use_checks
none_usable s w =
    record { form = not-false (well_formed s) w.0; made = not-false (loadable s.characters) w.1.0 }

pub usable_none : (s : State) → Usable s → NoneHolds (use_checks (well_formed s) s)
unfolding use_checks
usable_none s t = (rw t.form, (rw t.made, tt))

pub usable_grown : (s : State) → Usable s → Grown s.characters
usable_grown s t = loadable-grown s.characters (standing (formed s t.form).sound) t.made

pub use_turned : (formed : Bool) (s : State) → All Turned (use_checks formed s)
unfolding use_checks
use_turned formed s = (tt, (tt, tt))

-- one of the two
pub data Verdict (s : State) : UseOutcome → Type 0 where
  turned : (a : Answer) → Turned a → Verdict s (unused a)
  usable : Usable s → Verdict s (whole s)

pub verdict : (s : State) → Verdict s (use_outcome s)
unfolding use_outcome use_when decided
verdict s = go (first (use_checks (well_formed s) s)) refl
  where
    go : (m : Option Answer) → first (use_checks (well_formed s) s) ≡ m → Verdict s (decided unused m (whole s))
    go none e = usable (none_usable s (first-none (use_checks (well_formed s) s) e))
    go (some a) e =
        turned a (first_some Turned (use_checks (well_formed s) s) (use_turned (well_formed s) s) a e)

-- ---- what is said of both

pub used_grown : (s : State) → Grown (use_outcome s).state.characters
unfolding unused initial
used_grown s = go (verdict s)
  where
    go : {u : UseOutcome} → Verdict s u → Grown u.state.characters
    go (turned a t) = grown-empty
    go (usable t) = usable_grown s t

-- the empty state of number 0, or one in form
pub used_formed : (s : State) → ((use_outcome s).state ≡ initial 0) ⊎ (well_formed (use_outcome s).state ≡ true)
unfolding unused
used_formed s = go (verdict s)
  where
    go : {u : UseOutcome} → Verdict s u → (u.state ≡ initial 0) ⊎ (well_formed u.state ≡ true)
    go (turned a t) = inl refl
    go (usable t) = inr t.form
