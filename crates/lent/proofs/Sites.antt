-- What an insert leaves in the record is told by its answer: each check refuses, and a refusal leaves the very replica.
use Prim.Native.Nat.{ℕ}
use mathlib.Core.Path.{◌≡◌, refl, sym, ap, ◌∙◌}
use mathlib.Core.Bool.{Bool}
use mathlib.Core.Option.{Option, none, some}
use Rattle.woot.specs.declared.Site.{Site}
use Rattle.woot.specs.declared.Replica.{Replica}
use Rattle.woot.specs.Memory.{meaning, stored, replica_well_formed}
use Rattle.answers.specs.Answers.{NoneHolds, first, decided}
use Rattle.woot.specs.Calls.{Outcome, unchanged, after_drain, insert_checks, generated_insert, carry_out, send_insert, local_insert_when}
use Rattle.convergence.proofs.Forms.{Formed, formed}
use Rattle.convergence.proofs.Steps.{All, first-none, first_some, drained-still, generated_addable, typed-heard}
use Rattle.replica.proofs.Runs.{form_meant}
use borrow.Author.Tests.{not-false}
use Rattle.woot.specs.Replicas.{after_sent, generated, inserted}
use Rattle.replica.specs.Theorems.{called}
use Rattle.woot.specs.Histories.{inserting}
use Rattle.replica.proofs.Kept.{replicas_formed}
use Rattle.lent.specs.Lent.{together, returned, with_clock, site_after, LentFollows, RecordFormed}
use Rattle.std.proofs.Common.{Ok, Err}
use Rattle.woot.specs.Sent.{Sending}

module _ (r : Replica) (g n : ℕ) where
  -- what the call comes to where the checks report m
  come : Option Sending → Outcome Sending
  come m = decided (unchanged (meaning r)) m (send_insert (meaning r) (generated_insert (meaning r) g n))

  Told : Option Sending → Type 0
  Told m = (after_sent r (come m).state (come m).answer).site ≡ site_after r.site (come m).answer

  -- where none is reported, the clock has heard what was made, and what that released raised nothing
  advanced : (known : Bool) → Formed (meaning r) → NoneHolds (insert_checks known (meaning r) g n) → Told none
  unfolding come Told decided send_insert carry_out after_drain after_sent site_after stored meaning
  advanced known f w =
      drained-still (meaning r) (generated_insert (meaning r) g n) (generated_addable known (meaning r) g n f w) ∙ typed-heard (meaning r) g n

  told : (m : Option Sending) → (m ≡ none → Told none) → ((a : Sending) → m ≡ some a → Told (some a)) → Told m
  told none f t = f refl
  told (some a) f t = t a refl

  refusals : (formed : Bool) → All (λ a. Told (some a)) (insert_checks formed (meaning r) g n)
  unfolding come Told decided unchanged after_sent site_after insert_checks
  refusals formed = (refl, (refl, (refl, (refl, (refl, (refl, (refl, tt)))))))

  site-after : (inserted r g n).replica.site ≡ site_after r.site (inserted r g n).answer
  unfolding come Told inserted generated local_insert_when insert_checks
  site-after =
      let checks = insert_checks (replica_well_formed r) (meaning r) g n in
      told (first checks) (λ e. none_told (first-none checks e)) (first_some (λ a. Told (some a)) checks (refusals (replica_well_formed r)))
    where
      none_told : NoneHolds (insert_checks (replica_well_formed r) (meaning r) g n) → Told none
      none_told w = advanced (replica_well_formed r) (formed (meaning r) (form_meant r (not-false (replica_well_formed r) w.1.0))) w

-- the number is kept
same_number : (s : Site) (a : Sending) → with_clock s (site_after s a).clock ≡ site_after s a
unfolding site_after
same_number s (Ok x) = refl
same_number s (Err q) = refl

pub clock_after : (r : Replica) (g n : ℕ) → with_clock r.site (inserted r g n).replica.site.clock ≡ site_after r.site (inserted r g n).answer
clock_after r g n = ap (λ t. with_clock r.site t.clock) (site-after r g n) ∙ same_number r.site (inserted r g n).answer

pub lent_follows : LentFollows
unfolding returned called
lent_follows s d g n = λ i. together (sym (site-after (together s d) g n) i) (inserted (together s d) g n).replica.document

pub record_formed : RecordFormed
record_formed s d g n h = rw (lent_follows s d g n) (replicas_formed (together s d) (inserting g n) h)
