-- A refusal is answered exactly when its condition is the first to hold; where none holds, the replica that the bytes say.
use Rattle.std.proofs.Common.{Err, Ok}
use mathlib.Core.Path.{◌≡◌, refl, sym, ap, ◌∙◌}
use mathlib.Core.List.{List, [], ◌++◌}
use mathlib.Core.Logic.{◌↔◌}
use mathlib.Core.Bool.{Bool, true, false}
use mathlib.Core.Option.{Option, none, some}
use Prim.Native.Nat.{ℕ, ◌≤◌}
use native.Mathlib.Omega.{arith}
use lib.ListN.{length, length-append}
use Rattle.woot.specs.declared.Site.{Site}
use Rattle.woot.specs.declared.Operation.{Operation}
use Rattle.woot.specs.declared.Replica.{Replica}
use Rattle.answers.specs.declared.Refusal.{Refusal}
use Rattle.answers.specs.declared.Refusal.TheVariants.{Layout, Range, Form}
use Rattle.woot.specs.State.{State}
use Rattle.woot.specs.Memory.{meaning, stored, replica_well_formed}
use Rattle.woot.specs.Form.{well_formed}
use Rattle.answers.specs.Answers.{first, decided}
use Rattle.woot.specs.Writing.{written_as, output_after}
use Rattle.lists.proofs.Tests.{some-eq, no-some, clash}
use Rattle.convergence.proofs.Refusals.{decided_exactly}
use Rattle.convergence.proofs.Writing.{own_first, own-none, writing_refuses}
use Rattle.lines.specs.Lines.{concatenated}
use Rattle.lines.proofs.Sizes.{line_some}
use Rattle.codec.proofs.Refusals.{by-test}
use Rattle.saved.specs.LoadAnswer.{LoadAnswer}
use Rattle.saved.specs.declared.Loaded.{Loaded}
use Rattle.saved.specs.declared.Version.{Version}
use Rattle.saved.specs.declared.Version.TheVariants.{Second}
use Rattle.saved.specs.Format.{site_head, site_numbers, site_line, character_line, saved_line, bytes_as, saved_laid_out, saved_in_range, laid_out_as}
use Rattle.saved.specs.Format.{state_as, in_range_as, bytes_with}
use Rattle.saved.specs.Calls.{loaded_state, load_checks, no_replica, unread, loaded, load_number, handed_over, load_value, bytes_of, save_checks, saved}
use Rattle.saved.specs.Calls.{saved_out, saved_read, reading_checks, raised_in_arrays}
use Rattle.saved.specs.Theorems.{LoadRefuses, LoadNumbers, SaveRefuses, SaveNumbers}

-- ---- reading

module _ (s : List ℕ) where
  pub load-layout : saved_laid_out s ≡ false → loaded s ≡ unread (Err Layout)
  unfolding loaded load_checks decided
  load-layout e = rw e

  module _ (l : saved_laid_out s ≡ true) where
    pub load-range : saved_in_range s ≡ false → loaded s ≡ unread (Err Range)
    unfolding loaded load_checks decided
    load-range e = rw (l, e)

    module _ (i : saved_in_range s ≡ true) where
      pub load_form : well_formed (loaded_state s) ≡ false → loaded s ≡ unread (Err Form)
      unfolding loaded load_checks decided
      load_form e = rw (l, i, e)

      pub load-done : well_formed (loaded_state s) ≡ true → ◌≡◌ {A = Loaded} (loaded s) (record { answer = Ok tt; replica = stored (loaded_state s) })
      unfolding loaded load_checks decided
      load-done e = rw (l, i, e)

pub never_done : (r : Refusal) → ◌≡◌ {A = LoadAnswer} (Ok tt) (Err r) → ⊥
never_done r e = let z : ◌≡◌ {A = ℕ} 0 1 = cc in omega arith

-- what is read before the form is checked, by its conditions
module _ (v : Version) (s : List ℕ) where
  pub read-lacks : laid_out_as v s ≡ false → saved_read v s ≡ unread (Err Layout)
  unfolding saved_read reading_checks decided
  read-lacks e = rw e

  module _ (l : laid_out_as v s ≡ true) where
    pub read_out : in_range_as v s ≡ false → saved_read v s ≡ unread (Err Range)
    unfolding saved_read reading_checks decided
    read_out e = rw (l, e)

    pub read_done : in_range_as v s ≡ true → ◌≡◌ {A = Loaded} (saved_read v s) (record { answer = Ok tt; replica = raised_in_arrays (state_as v s) })
    unfolding saved_read reading_checks decided
    read_done e = rw (l, e)

  -- what is not refused has the layout, and is in range
  pub read_well : (saved_read v s).answer ≡ Ok tt → (laid_out_as v s ≡ true) × (in_range_as v s ≡ true)
  unfolding unread
  read_well h = go (laid_out_as v s) (in_range_as v s) refl refl
    where
      go : (b d : Bool) → laid_out_as v s ≡ b → in_range_as v s ≡ d → (laid_out_as v s ≡ true) × (in_range_as v s ≡ true)
      go true true l i = (l, i)
      go true false l i = absurd (never_done Range (sym h ∙ ap (λ y. y.answer) (read_out l i)))
      go false d l i = absurd (never_done Layout (sym h ∙ ap (λ y. y.answer) (read-lacks l)))

-- with a refusal stands the replica named for it
refused_none : (m : Option LoadAnswer) (x : Loaded) (r : Refusal) → x.answer ≡ Ok tt → (decided unread m x).answer ≡ Err r → (decided unread m x).replica ≡ no_replica
unfolding decided unread
refused_none none x r d e = absurd (never_done r (sym d ∙ e))
refused_none (some a) x r d e = refl

pub load_refuses : LoadRefuses
unfolding loaded unread
load_refuses s r =
    let x : Loaded = record { answer = Ok tt; replica = stored (loaded_state s) } in (
      decided_exactly unread (λ y. y.answer) (λ a. refl) (load_checks s) x (Err r) (never_done r),
      refused_none (first (load_checks s)) x r refl,
    )

pub load_numbers : LoadNumbers
unfolding load_number load_value handed_over unread
load_numbers s = go (saved_laid_out s) (saved_in_range s) (well_formed (loaded_state s)) refl refl refl
  where
    go : (a b d : Bool) → saved_laid_out s ≡ a → saved_in_range s ≡ b → well_formed (loaded_state s) ≡ d
        → ((load_number (loaded s).answer ≡ 1) ↔ (saved_laid_out s ≡ false))
        × ((load_number (loaded s).answer ≡ 2) ↔ ((saved_laid_out s ≡ true) × (saved_in_range s ≡ false)))
        × ((load_number (loaded s).answer ≡ 3) ↔ ((saved_laid_out s ≡ true) × (saved_in_range s ≡ true) × (well_formed (loaded_state s) ≡ false)))
        × ((load_number (loaded s).answer ≡ 0) ↔ ((saved_laid_out s ≡ true) × (saved_in_range s ≡ true) × (well_formed (loaded_state s) ≡ true)))
        × ((x : Replica) → (load_value (loaded s) ≡ some x) ↔ ((saved_laid_out s ≡ true) × (saved_in_range s ≡ true) × (well_formed (loaded_state s) ≡ true) × (stored (loaded_state s) ≡ x)))
    go false b d p q r =
        let a = load-layout s p in
        let num : load_number (loaded s).answer ≡ 1 = ap (λ y. load_number y.answer) a in (
          (λ e. p, λ e. num),
          (λ e. absurd (omega arith), λ w. clash w.0 p),
          (λ e. absurd (omega arith), λ w. clash w.0 p),
          (λ e. absurd (omega arith), λ w. clash w.0 p),
          λ x. (λ e. no-some (sym (ap load_value a) ∙ e), λ w. clash w.0 p),
        )
    go true false d p q r =
        let a = load-range s p q in
        let num : load_number (loaded s).answer ≡ 2 = ap (λ y. load_number y.answer) a in (
          (λ e. absurd (omega arith), λ e. clash p e),
          (λ e. (p, q), λ w. num),
          (λ e. absurd (omega arith), λ w. clash w.1 q),
          (λ e. absurd (omega arith), λ w. clash w.1 q),
          λ x. (λ e. no-some (sym (ap load_value a) ∙ e), λ w. clash w.1 q),
        )
    go true true false p q r =
        let a = load_form s p q r in
        let num : load_number (loaded s).answer ≡ 3 = ap (λ y. load_number y.answer) a in (
          (λ e. absurd (omega arith), λ e. clash p e),
          (λ e. absurd (omega arith), λ w. clash q w.1),
          (λ e. (p, q, r), λ w. num),
          (λ e. absurd (omega arith), λ w. clash w.2 r),
          λ x. (λ e. no-some (sym (ap load_value a) ∙ e), λ w. clash w.2 r),
        )
    go true true true p q r =
        let a = load-done s p q r in
        let num : load_number (loaded s).answer ≡ 0 = ap (λ y. load_number y.answer) a in
        let value : load_value (loaded s) ≡ some (stored (loaded_state s)) = ap load_value a in (
          (λ e. absurd (omega arith), λ e. clash p e),
          (λ e. absurd (omega arith), λ w. clash q w.1),
          (λ e. absurd (omega arith), λ w. clash r w.2),
          (λ e. (p, q, r), λ w. num),
          λ x. (λ e. (p, q, r, some-eq (sym value ∙ e)), λ w. value ∙ ap some w.3),
        )

-- ---- writing

module _ (r : Replica) (out : List ℕ) where
  pub unformed : replica_well_formed r ≡ false → (Err Form ≡ saved r out) × (out ≡ saved_out r out)
  unfolding saved saved_out save_checks
  unformed e =
      let w = own_first (save_checks r) (Err Form) (bytes_of r) out (rw e refl) in
      (sym w.0, sym w.1)

  -- a replica in form goes by the room alone
  pub formed : replica_well_formed r ≡ true
      → (written_as [] (bytes_of r) out ≡ saved r out) × (output_after [] (bytes_of r) out ≡ saved_out r out)
  unfolding saved saved_out save_checks
  formed e = own-none (save_checks r) (bytes_of r) out (rw e refl)

pub save_refuses : SaveRefuses
unfolding saved saved_out
save_refuses r out q = let w = writing_refuses (save_checks r) (bytes_of r) out q in (w.0, w.2)

-- there is a byte at least, whatever the rows
pub file_some : {A : Type 0} (v : Version) (line : A → List ℕ) (site : Site) (rows : List A) (pending : List Operation)
    → 1 ≤ length (bytes_with v line site rows pending)
unfolding bytes_with site_line
file_some v line site rows pending =
    let first = site_line v site in
    let middle = concatenated line rows in
    omega (arith, length-append (first ++ middle) (concatenated (saved_line v) pending), length-append first middle, line_some (site_head v) (site_numbers site))

pub bytes-some : (v : Version) (s : State) → 1 ≤ length (bytes_as v s)
bytes-some v s = file_some v (character_line v) s.site s.characters s.pending

saved-some : (r : Replica) → 1 ≤ length (bytes_of r)
saved-some r = bytes-some Second (meaning r)

pub save_numbers : SaveNumbers
unfolding saved save_checks
save_numbers r out = by-test Form (λ e. omega arith) (bytes_of r) out (saved-some r) (replica_well_formed r)
