-- Loading for use on bytes goes by the form and then by the rows; so what `admission::admit` returned is saved or its
-- answer told, and what was written is what was handed.
use Prim.Native.Nat.{ℕ, ◌≤◌}
use native.Mathlib.Omega.{arith}
use mathlib.Core.Path.{◌≡◌, refl, sym, ap, ◌∙◌}
use mathlib.Core.Bool.{Bool, true, false, false≢true, ◌&&◌, not}
use mathlib.Core.List.{List, [], ◌∷◌}
use lib.ListN.{length}
use borrow.Author.Tests.{ltb-false, le-ltb, not-false}
use Rattle.lists.proofs.Tests.{and_left_lem, or-false-left}
use Rattle.woot.specs.declared.Replica.{Replica}
use Rattle.answers.specs.declared.Refusal.TheVariants.{Unreachable, Output}
use Rattle.answers.specs.declared.Answer.{Answer}
use Rattle.answers.specs.declared.Answer.TheVariants.{Done, Deferred, Duplicate, Refused}
use Rattle.woot.specs.Form.{well_formed}
use Rattle.woot.specs.State.{State}
use Rattle.answers.specs.Answers.{done, reply, changes, decided, ◌⇒◌, NoneHolds, Reported, here, later}
use Rattle.bulk.specs.Loading.{loadable, use_checks, unused, use_when}
use Rattle.woot.specs.Memory.{meaning, replica_well_formed}
use Rattle.convergence.proofs.Making.{loadable_made}
use Rattle.convergence.proofs.Refusals.{skipped, other}
use Rattle.admission.specs.Calls.{used_after, admitted_as, admitted_by}
use Rattle.saved.specs.declared.Version.TheVariants.{Second}
use Rattle.saved.specs.Format.{saved_laid_out, saved_in_range, saved_bytes}
use Rattle.saved.specs.Calls.{loaded_state, bytes_of}
use Rattle.saved.specs.Theorems.{saved_most}
use Rattle.saved.proofs.Sizes.{saved-length}
use Rattle.saved.proofs.Trips.{saved_loads, loaded-again, unraised_again}
use Rattle.effects.specs.Results.{result, silent}
use Rattle.effects.specs.Effects.{Effect, quiet, turned, writing}
use Rattle.c_calls.specs.Calls.{wimtaze_load, input_checks, handed_checks, rule_checks, earlier_checks}
use Rattle.c_calls.specs.Calls.{call_checks, product_of}
use Rattle.c_calls.specs.Steps.{used_here, loading_here, replica_used}
use Rattle.c_calls.specs.Theorems.{loaded_in_c, InForm, LoadAccepts, LoadExactly, LoadWritten, LoadSame}
use Rattle.c_calls.proofs.Listing.{Went, away, lacking, through, went, calls_refuse}
use Rattle.c_calls.proofs.Fitting.{front}
use Rattle.c_calls.proofs.Refusals.{Reads}
use Rattle.c_calls.proofs.Bridging.{formed-first}
use Rattle.c_calls.proofs.Bodies.{load-body}

-- ---- on a replica

-- one that is admitted is in form
pub admitted_formed : (r : Replica) → changes (admitted_by r).answer ≡ true →
    replica_well_formed (admitted_by r).replica ≡ true
unfolding admitted_by admitted_as used_after use_when use_checks unused decided changes
admitted_formed r = go (replica_well_formed r) (loadable (meaning r).characters) refl refl
  where
    go : (f l : Bool) → replica_well_formed r ≡ f → loadable (meaning r).characters ≡ l →
        changes (admitted_by r).answer ≡ true → replica_well_formed (admitted_by r).replica ≡ true
    go true true a b h = rw (a, b) a
    go true false a b h = absurd (false≢true (rw (a, b) at h))
    go false l a b h = absurd (false≢true (rw a at h))

-- a replica that is admitted comes back as it is
used_same : (r : Replica) (a : Answer) → changes a ≡ true → used_after r a ≡ r
unfolding used_after changes
used_same r (Done n m) h = refl
used_same r Deferred h = refl
used_same r Duplicate h = refl
used_same r (Refused q) h = absurd (false≢true h)

-- what `admission::judge` answered, with the replica saved, or alone
module _ (r : Replica) {a : Answer} (told : a ≡ (admitted_by r).answer) where
  held : changes a ≡ true → (admitted_by r).replica ≡ r
  unfolding admitted_by admitted_as
  held h = used_same r (admitted_by r).answer (ap changes (sym told) ∙ h)

  pub use_savable : changes a ≡ true → replica_well_formed r ≡ true
  use_savable h = ap replica_well_formed (sym (held h)) ∙ admitted_formed r (ap changes (sym told) ∙ h)

  pub use_refused : (out : List ℕ) → changes a ≡ false → replica_used r out ≡ quiet out [] a
  unfolding replica_used
  use_refused out h = rw (← told, h)

  pub use_saved : (out : List ℕ) → changes a ≡ true → replica_used r out ≡ writing a (bytes_of r) out
  unfolding replica_used
  use_saved out h = rw (held h, ← told, h)

-- the rule on the state that the bytes say is the call on the replica that was read
module _ (r : Replica) (s : State) (read : Reads r s) (out : List ℕ) where
  pub load_bridge : formed-first s out [] (used_here s out) ≡ replica_used r out
  unfolding used_here replica_used admitted_by admitted_as used_after use_when use_checks unused decided changes turned
  load_bridge = go (well_formed s) (loadable s.characters) refl refl
    where
      go : (f l : Bool) → well_formed s ≡ f → loadable s.characters ≡ l →
          formed-first s out [] (used_here s out) ≡ replica_used r out
      go true true e k =
          rw (read.form, read.means e, e, k)
          (ap (λ (t : State). writing (Done 0 0) (saved_bytes t) out) (sym (read.means e)))
      go true false e k = rw (read.form, read.means e, e, k)
      go false l e k = rw (read.form, e)

-- ---- on bytes

module _ (bytes out : List ℕ) where
  abbrev said : State
  said = loaded_state bytes

  abbrev effect : Effect
  effect = loaded_in_c bytes out

  -- what no condition holds of
  passed_so : NoneHolds (earlier_checks wimtaze_load bytes) → InForm bytes × (loadable said.characters ≡ true)
  unfolding handed_checks rule_checks input_checks use_checks
  passed_so w = (
    record {
      laid_out = and_left_lem (saved_laid_out bytes) true (not-false _ w.0);
      in-range = and_left_lem (saved_in_range bytes) true (not-false _ w.1.0);
      formed = not-false (well_formed said) w.1.1.0;
    },
    not-false (loadable said.characters) w.1.1.1.0,
  )

  -- done, none did
  went-passed : {e : Effect} → Went wimtaze_load bytes out [] e → e.result.reply.word ≡ done →
      NoneHolds (earlier_checks wimtaze_load bytes)
  unfolding quiet silent result reply
  went-passed (away (Done i j) t r) d = absurd t.turned
  went-passed (away Deferred t r) d = absurd t.turned
  went-passed (away Duplicate t r) d = absurd (let z : ◌≡◌ {A = ℕ} 0 1 = cc in omega arith)
  went-passed (away (Refused q) t r) d = absurd (let z : ◌≡◌ {A = ℕ} 0 1 = cc in omega arith)
  went-passed (lacking w f) d = absurd (let z : ◌≡◌ {A = ℕ} 0 1 = cc in omega arith)
  went-passed (through w f) d = w

  pub load-passed : effect.result.reply.word ≡ done → NoneHolds (earlier_checks wimtaze_load bytes)
  load-passed d = went-passed (went wimtaze_load bytes out []) d

  pub load-formed : NoneHolds (earlier_checks wimtaze_load bytes) →
      (well_formed said ≡ true) × (loadable said.characters ≡ true)
  load-formed w = let p = passed_so w in (p.0.formed, p.1)

  accepted : InForm bytes → loadable said.characters ≡ true → saved_most ≤ length out →
      effect.result.reply.word ≡ done
  unfolding loading_here used_here input_checks decided writing result reply
  accepted i l room =
      let few = le-ltb (length out) (length (saved_bytes said)) (omega (arith, saved-length said i.formed, room)) in
      rw (load-body bytes out, i.laid_out, i.in-range, i.formed, l, few)

  -- ---- 16

  -- it is the fourth of the conditions, and no other answers it
  last_reported : (b : Bool) {c : Bool} →
      Reported (Refused Unreachable) ((not b ⇒ Refused Unreachable) ∷ (c ⇒ Refused Output) ∷ []) → b ≡ false
  last_reported true {c = c} (later h (later _ x9)) = elim x9 [ ]
  last_reported false r = refl
  last_reported true (here h e) = absurd (false≢true h)
  last_reported true (later h (here k e)) = absurd (other (λ z. omega arith) e)

  unreachable_so : Reported (Refused Unreachable) (call_checks wimtaze_load bytes out []) →
      InForm bytes × (loadable said.characters ≡ false)
  unfolding call_checks handed_checks rule_checks input_checks use_checks
  unreachable_so r =
      let a = skipped (other (λ z. omega arith)) r in
      let b = skipped (other (λ z. omega arith)) a.1 in
      let d = skipped (other (λ z. omega arith)) b.1 in (
        record {
          laid_out = and_left_lem (saved_laid_out bytes) true (not-false _ a.0);
          in-range = and_left_lem (saved_in_range bytes) true (not-false _ b.0);
          formed = not-false (well_formed said) d.0;
        },
        last_reported (loadable said.characters) d.1,
      )

  so_unreachable : InForm bytes → loadable said.characters ≡ false →
      Reported (Refused Unreachable) (call_checks wimtaze_load bytes out [])
  unfolding call_checks handed_checks rule_checks input_checks use_checks
  so_unreachable i l =
      later (ap (λ (b : Bool). not (b && true)) i.laid_out)
      (later (ap (λ (b : Bool). not (b && true)) i.in-range) (later (ap not i.formed) (here (ap not l) refl)))

  -- ---- what is written

  went-same : {e : Effect} → Went wimtaze_load bytes out [] e → e.result.reply.word ≡ done → LoadWritten bytes e
  unfolding quiet silent result reply product_of
  went-same (away (Done i j) t r) d = absurd t.turned
  went-same (away Deferred t r) d = absurd t.turned
  went-same (away Duplicate t r) d = absurd (let z : ◌≡◌ {A = ℕ} 0 1 = cc in omega arith)
  went-same (away (Refused q) t r) d = absurd (let z : ◌≡◌ {A = ℕ} 0 1 = cc in omega arith)
  went-same (lacking w f) d = absurd (let z : ◌≡◌ {A = ℕ} 0 1 = cc in omega arith)
  went-same (through w f) d =
      let i = (passed_so w).0 in
      let b : List ℕ = saved_bytes said in
      let there = front out b (ltb-false (length out) (length b) (or-false-left _ _ f)) in
      record {
        same-state = ap loaded_state there ∙ saved_loads said i.formed;
        line-raised = there ∙ loaded-again Second bytes i.laid_out;
        same_bytes = λ n. there ∙ unraised_again Second bytes i.laid_out n;
      }

pub load_accepts : LoadAccepts
load_accepts bytes out n site room = (
  λ d.
      let p = passed_so bytes out (load-passed bytes out d) in
      (p.0, (loadable_made (loaded_state bytes) p.0.formed n site).0 p.1),
  λ p. accepted bytes out p.0 ((loadable_made (loaded_state bytes) p.0.formed n site).1 p.1) room,
)

pub load_exactly : LoadExactly
load_exactly bytes out =
    let k = calls_refuse wimtaze_load bytes out [] Unreachable in
    (λ h. unreachable_so bytes out (k.0 h), λ p. k.1 (so_unreachable bytes out p.0 p.1))

pub load_same : LoadSame
load_same bytes out d = went-same bytes out (went wimtaze_load bytes out []) d
