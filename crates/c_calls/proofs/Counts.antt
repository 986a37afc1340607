-- What is answered on a state in form: no check is the one of a short output, what an insert releases was pending, of
-- which there are at most 512, and what is sent is in range, so that its line is no longer than the longest.
use Prim.Native.Nat.{ℕ, suc, ◌≤◌}
use native.Mathlib.Omega.{arith}
use mathlib.Core.Path.{◌≡◌, refl}
use mathlib.Core.Bool.{Bool, true, false, not, cond}
use mathlib.Core.Option.{Option, none, some}
use mathlib.Core.List.{List}
use lib.Dec.{eqb}
use lib.ListN.{length}
use borrow.Author.Tests.{not-false}
use Rattle.woot.specs.declared.Identifier.{Identifier}
use Rattle.woot.specs.declared.Insert.{Insert}
use Rattle.woot.specs.declared.Operation.{Operation}
use Rattle.woot.specs.declared.Operation.TheVariants.{Insert as insert, Toggle as toggle}
use Rattle.answers.specs.declared.Refusal.{Refusal}
use Rattle.answers.specs.declared.Answer.{Answer}
use Rattle.answers.specs.declared.Answer.TheVariants.{Done, Deferred, Duplicate, Refused}
use Rattle.woot.specs.Ranges.{is_code_point, in_range}
use Rattle.woot.specs.State.{State}
use Rattle.woot.specs.Form.{well_formed}
use Rattle.woot.specs.Pending.{executable}
use Rattle.answers.specs.Answers.{number, Check, first, NoneHolds, decided}
use Rattle.woot.specs.Calls.{Outcome, unchanged, insert_carried, receive_checks, carry_out, defer, accept, receive_when, receive, generated_insert, insert_checks, send_insert, local_insert_when, local_insert, generated_delete, delete_checks, send_toggle, local_delete_when, local_delete, generated_toggle, restore_checks, local_restore_when, local_restore}
use Rattle.woot.specs.Cursor.{receive_at_checks, receive_at_when, receive_at}
use Rattle.convergence.proofs.Forms.{formed}
use Rattle.convergence.proofs.Shares.{pending-fit}
use Rattle.convergence.proofs.Draining.{drained_balance}
use Rattle.convergence.proofs.Toggles.{delete_ranged, restore_ranged}
use Rattle.convergence.proofs.Steps.{All, first-none, first_some, generated_made}
use Rattle.convergence.proofs.Steps.{after-insert}
use Rattle.codec.specs.Operations.{operation_line}
use Rattle.codec.proofs.Sizes.{line_lengths}
use Rattle.codec.specs.Theorems.{insert_most, toggle_most}
use Rattle.std.proofs.Common.{Ok, Err}
use Rattle.woot.specs.Sent.{Sending}

-- the refusal is not the one of a short output
abbrev pub Other : Refusal → Type 0
Other q = eqb (number q) 12 ≡ false

-- counts within their bounds, and no short output
abbrev pub Fine : Answer → Type 0
Fine (Done n m) = (n ≤ 513) × (m ≤ 512)
Fine Deferred = Unit
Fine Duplicate = Unit
Fine (Refused q) = Other q

-- of a call that sends, also that the line to be sent has at most m bytes
abbrev pub Sends : ℕ → Sending → Type 0
Sends m (Ok x) = Fine (Done x.integrated x.discarded) × (length (operation_line x.operation) ≤ m)
Sends m (Err q) = Other q

insert_fine : (s : State) (i : Insert) → well_formed s ≡ true
    → Fine (Done (suc (length (insert_carried s i).integrated)) (length (insert_carried s i).discarded))
insert_fine s i h =
    let all = drained_balance (after-insert s i) in
    let few = pending-fit s h in
    (omega arith, omega arith)

accept_fine : (s : State) (o : Operation) → well_formed s ≡ true → Fine (accept s o).answer
unfolding accept carry_out defer
accept_fine s o h = go (executable s.characters o) o
  where
    go : (b : Bool) (p : Operation) → Fine (cond b (carry_out Done s p) (defer s p)).answer
    go true (insert i) = insert_fine s i h
    go true (toggle d) = (omega arith, omega arith)
    go false p = tt

-- what holds of each check's answer, and of what is done where none holds, holds of the answer
module _ {A : Type 0} (P : A → Type 0) where
  by_checks : (s : State) (cs : List (Check A)) (w : Outcome A) → All P cs → (NoneHolds cs → P w.answer)
      → P (decided (unchanged s) (first cs) w).answer
  unfolding decided unchanged
  by_checks s cs w each otherwise = go (first cs) refl
    where
      go : (m : Option A) → first cs ≡ m → P (decided (unchanged s) m w).answer
      go none e = otherwise (first-none cs e)
      go (some a) e = first_some P cs each a e

module _ (s : State) (h : well_formed s ≡ true) where
  pub receive_fine : (o : Operation) → Fine (receive s o).answer
  unfolding receive receive_when receive_checks
  receive_fine o =
      by_checks Fine s (receive_checks (well_formed s) s o) (accept s o)
      (refl, (refl, (tt, (refl, (refl, (refl, (refl, (refl, tt))))))))
      (λ w. accept_fine s o h)

  pub receive-at_fine : (o : Operation) (g : ℕ) → Fine (receive_at s o g).answer
  unfolding receive_at receive_at_when receive_at_checks
  receive-at_fine o g =
      by_checks Fine s (receive_at_checks (well_formed s) s o g) (accept s o)
      (refl, (refl, (tt, (refl, (refl, (refl, (refl, (refl, (refl, tt)))))))))
      (λ w. accept_fine s o h)

  pub insert-sends : (g n : ℕ) → Sends insert_most (local_insert s g n).answer
  unfolding local_insert local_insert_when insert_checks send_insert carry_out insert_carried in_range
  insert-sends g n =
      let i = generated_insert s g n in
      by_checks (Sends insert_most) s (insert_checks (well_formed s) s g n) (send_insert s i)
      (refl, (refl, (refl, (refl, (refl, (refl, (refl, tt)))))))
      (λ w.
      let made = generated_made s g n (formed s h) (not-false (is_code_point n) w.0) w.1.1.0 w.1.1.1.0 w.1.1.1.1.0 in
      (insert_fine s i h, line_lengths.0 i made.ranged))

  pub delete_sends : (p : ℕ) → Sends toggle_most (local_delete s p).answer
  unfolding local_delete local_delete_when delete_checks send_toggle carry_out in_range
  delete_sends p =
      by_checks (Sends toggle_most) s (delete_checks (well_formed s) s p) (send_toggle s (generated_delete s p))
      (refl, (refl, tt))
      (λ w. ((omega arith, omega arith), line_lengths.1 (generated_delete s p) (delete_ranged s (formed s h) p w.1.0)))

  pub restore_sends : (x : Identifier) → Sends toggle_most (local_restore s x).answer
  unfolding local_restore local_restore_when restore_checks send_toggle carry_out in_range
  restore_sends x =
      by_checks (Sends toggle_most) s (restore_checks (well_formed s) s x) (send_toggle s (generated_toggle s x))
      (refl, (refl, (refl, (refl, tt))))
      (λ w. ((omega arith, omega arith), line_lengths.1 (generated_toggle s x) (restore_ranged s (formed s h) x w.1.1.0 w.1.1.1.0)))
