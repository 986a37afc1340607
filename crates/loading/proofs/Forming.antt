-- What was read into lent arrays, as the replica that they make: the answer decides, and where all is in range the form
-- of the replica is that of the state that loading makes.
use Rattle.std.proofs.Common.{Ok, Err}
use mathlib.Core.Path.{◌≡◌, refl, sym, ap, ◌∙◌, subst}
use mathlib.Core.List.{List}
use mathlib.Core.Bool.{Bool, true, false}
use mathlib.Core.Logic.{◌⊎◌, inl, inr, ⊎_elim}
use mathlib.Core.Option.{Option, none, some}
use Prim.Native.Nat.{ℕ}
use Rattle.answers.specs.declared.Refusal.{Refusal}
use Rattle.answers.specs.declared.Refusal.TheVariants.{Layout, Range, Form}
use Rattle.woot.specs.declared.Replica.{Replica}
use Rattle.woot.specs.Memory.{meaning, stored, replica_well_formed, character_slots, document_of}
use Rattle.woot.specs.Form.{well_formed}
use Rattle.answers.specs.Answers.{first, decided}
use Rattle.saved.specs.LoadAnswer.{LoadAnswer}
use Rattle.saved.specs.declared.Loaded.{Loaded}
use Rattle.saved.specs.declared.Version.{Version}
use Rattle.saved.specs.declared.Version.TheVariants.{Second}
use Rattle.saved.specs.Format.{laid_out_as, state_as, in_range_as, saved_laid_out, saved_in_range}
use Rattle.saved.specs.Calls.{loaded_as, reading_checks, raised_in_arrays, in_arrays, fitting}
use Rattle.saved.specs.Calls.{unread, raised_in_arrays, saved_read, loaded}
use Rattle.saved.proofs.Arrays.{read_form}
use Rattle.saved.proofs.Refusals.{load-layout, load-range, load_form, load-done, never_done, read-lacks, read_out, read_done, read_well}
use Rattle.saved.specs.Rows.{characters_held, pending_held}
use Rattle.loading.specs.Filling.{read_answer}
use Rattle.memory.proofs.Fullness.{FullArrays}
use Rattle.chains.proofs.Tables.{table_sized}
use Rattle.woot.specs.State.{State}
use Rattle.woot.specs.Table.{keys}
use Rattle.loading.proofs.Collecting.{characters-length, toggles-length, pending-length}
use lib.ListN.{take}

-- ---- what is read, by its conditions

-- the answer alone, and the answer with a replica beside it
same_answer : (m : Option LoadAnswer) (r : Replica) → decided (λ a. a) m (Ok tt) ≡ (decided unread m (record { answer = Ok tt; replica = r })).answer
unfolding decided unread
same_answer none r = refl
same_answer (some a) r = refl

module _ (v : Version) (s : List ℕ) where
  pub answer-read : read_answer v s ≡ (saved_read v s).answer
  unfolding read_answer saved_read
  answer-read = same_answer (first (reading_checks v s)) (raised_in_arrays (state_as v s))

-- ---- by its answer

module _ (v : Version) (s : List ℕ) {a : LoadAnswer} (e : a ≡ (saved_read v s).answer) where
  -- what was refused lacks the layout, or else is out of range
  because : (q : Refusal) → a ≡ Err q
      → ((laid_out_as v s ≡ false) × (q ≡ Layout)) ⊎ ((laid_out_as v s ≡ true) × (in_range_as v s ≡ false) × (q ≡ Range))
  unfolding unread
  because q h = go (laid_out_as v s) (in_range_as v s) refl refl
    where
      go : (b d : Bool) → laid_out_as v s ≡ b → in_range_as v s ≡ d
          → ((laid_out_as v s ≡ false) × (q ≡ Layout)) ⊎ ((laid_out_as v s ≡ true) × (in_range_as v s ≡ false) × (q ≡ Range))
      go false d l i = let z : Err Layout ≡ Err q = sym (e ∙ ap (λ y. y.answer) (read-lacks v s l)) ∙ h in inl (l, cc)
      go true false l i = let z : Err Range ≡ Err q = sym (e ∙ ap (λ y. y.answer) (read_out v s l i)) ∙ h in inr (l, i, cc)
      go true true l i = absurd (never_done q (sym (e ∙ ap (λ y. y.answer) (read_done v s l i)) ∙ h))

  -- so the empty replica stands beside a refusal, and beside none the one that the bytes say
  pub read-refused : (q : Refusal) → a ≡ Err q → unread (Err q) ≡ saved_read v s
  read-refused q h =
      ⊎_elim (λ w. ap (λ (x : Refusal). unread (Err x)) w.1 ∙ sym (read-lacks v s w.0))
      (λ w. ap (λ (x : Refusal). unread (Err x)) w.2 ∙ sym (read_out v s w.0 w.1))
      (because q h)

  pub read_whole : a ≡ Ok tt → {r : Replica} → r ≡ raised_in_arrays (state_as v s) → ◌≡◌ {A = Loaded} (record { answer = a; replica = r }) (saved_read v s)
  read_whole h p =
      let w = read_well v s (sym e ∙ h) in
      (λ j. record { answer = h j; replica = p j }) ∙ sym (read_done v s w.0 w.1)

-- what the arrays hold of a state fills their slots
raised-full : (s : State) → FullArrays (raised_in_arrays s).document
unfolding raised_in_arrays in_arrays fitting document_of characters_held pending_held
raised-full s =
    let t = table_sized (keys (take character_slots s.characters)) in
    record {
      characters = characters-length s.characters;
      toggles = toggles-length s.characters;
      pending = pending-length s.pending;
      heads = t.heads;
      links = t.links;
    }

-- ---- the form

module _ (v : Version) (s : List ℕ) (x : Loaded) (e : x ≡ saved_read v s) where
  answer-is : x.answer ≡ (saved_read v s).answer
  answer-is = ap (λ y. y.answer) e

  pub refused_for : (q : Refusal) → x.answer ≡ Err q
      → ((laid_out_as v s ≡ false) × (q ≡ Layout)) ⊎ ((laid_out_as v s ≡ true) × (in_range_as v s ≡ false) × (q ≡ Range))
  refused_for = because v s answer-is

  module _ (h : x.answer ≡ Ok tt) where
    was_read : (saved_read v s).answer ≡ Ok tt
    was_read = sym answer-is ∙ h

    pub both : (laid_out_as v s ≡ true) × (in_range_as v s ≡ true)
    both = read_well v s was_read

    pub form_is : replica_well_formed x.replica ≡ well_formed (loaded_as v s)
    form_is = ap (λ y. replica_well_formed y.replica) e ∙ (read_form v s was_read).0

    formed : replica_well_formed x.replica ≡ true → well_formed (loaded_as v s) ≡ true
    formed p = sym form_is ∙ p

    pub means_so : replica_well_formed x.replica ≡ true → meaning x.replica ≡ loaded_as v s
    means_so p = ap (λ y. meaning y.replica) e ∙ ((read_form v s was_read).1 (formed p)).1

    is-stored : replica_well_formed x.replica ≡ true → ◌≡◌ {A = Loaded} x (record { answer = Ok tt; replica = stored (loaded_as v s) })
    is-stored p = λ j. record { answer = h j; replica = (ap (λ y. y.replica) e ∙ ((read_form v s was_read).1 (formed p)).0) j }

    -- its arrays have their slots
    pub read-full : FullArrays x.replica.document
    read-full = subst (λ (y : Loaded). FullArrays y.replica.document) (sym (e ∙ read_done v s both.0 both.1)) (raised-full (state_as v s))

-- loading reads the second form
module _ (s : List ℕ) (x : Loaded) (e : x ≡ saved_read Second s) where
  pub load-refused : (q : Refusal) → x.answer ≡ Err q → x ≡ loaded s
  load-refused q h =
      ⊎_elim (λ w. e ∙ read-lacks Second s w.0 ∙ sym (load-layout s w.0))
      (λ w. e ∙ read_out Second s w.0 w.1 ∙ sym (load-range s w.0 w.1))
      (refused_for Second s x e q h)

  module _ (h : x.answer ≡ Ok tt) where
    conditions : (saved_laid_out s ≡ true) × (saved_in_range s ≡ true)
    conditions = both Second s x e h

    pub load_unformed : replica_well_formed x.replica ≡ false → unread (Err Form) ≡ loaded s
    load_unformed p = sym (load_form s conditions.0 conditions.1 (sym (form_is Second s x e h) ∙ p))

    pub load-formed : replica_well_formed x.replica ≡ true → x ≡ loaded s
    load-formed p = is-stored Second s x e h p ∙ sym (load-done s conditions.0 conditions.1 (formed Second s x e h p))
