-- Pasting on a replica is the rule's on its meaning, so what is known of the rule is known of it.
use Prim.Native.Nat.{ℕ}
use native.Mathlib.Omega.{arith}
use mathlib.Core.Path.{◌≡◌, refl, ap, sym, ◌∙◌}
use mathlib.Core.Bool.{Bool, true}
use mathlib.Core.List.{List, [], ◌∷◌, ◌++◌}
use mathlib.Core.Option.{Option, none, some}
use borrow.Author.Tests.{not-false}
use lib.ListN.{length}
use Rattle.woot.specs.declared.Operation.{Operation}
use Rattle.answers.specs.declared.Refusal.{Refusal}
use Rattle.answers.specs.declared.Answer.{Answer}
use Rattle.answers.specs.declared.Answer.TheVariants.{Done, Refused}
use Rattle.woot.specs.declared.Replica.{Replica}
use Rattle.woot.specs.State.{State}
use Rattle.woot.specs.Form.{well_formed}
use Rattle.woot.specs.Memory.{meaning, stored, replica_well_formed}
use Rattle.answers.specs.Answers.{first, decided, done, reply}
use Rattle.woot.specs.Sending.{answer_of}
use Rattle.woot.specs.Calls.{local_insert_when, local_insert, next_identifier}
use Rattle.woot.specs.Histories.{Call, inserting, outcome, run}
use Rattle.bulk.specs.Beginnings.{Begun, start_of}
use Rattle.bulk.specs.Pasting.{code_points_of, gap_below, typings, own_by, PasteOutcome, unpasted, pasted, paste_checks, paste_when, paste}
use Rattle.woot.specs.Replicas.{after_sent, generated, inserted}
use Rattle.convergence.specs.Pasting.{EachDone}
use Rattle.convergence.proofs.Kept.{form_kept}
use Rattle.convergence.proofs.Pasting.{paste_does, paste-nothing, paste-is_typing, paste-sends, paste-never-unplaceable, paste_form_kept}
use Rattle.replica.specs.Theorems.{called, ran}
use Rattle.replica.proofs.Runs.{Within, formed-within, meaning-stored, form_stored, form_meant, ran-stored, begun-within, run-within, replicas_follow}
use Rattle.replica.proofs.Tables.{formed_searches}
use Rattle.pasting.specs.declared.Pasted.{Pasted}
use Rattle.pasting.specs.Replicas.{after_typing, pasted_with, pasted_by}
use Rattle.pasting.proofs.Finishing.{after-some}
use Rattle.pasting.specs.Theorems.{PastedAllOrNone, PastedNothing, PastedIsTyping, PastedSends, PastedFollows}
use Rattle.pasting.specs.Theorems.{PastedNeverUnplaceable, PastedFormed, PastedSearches}
use Rattle.std.proofs.Common.{Ok, Err}
use Rattle.woot.specs.Sent.{Sending}

-- ---- on a replica in form

-- the rule of a replica in form is that of a state in form
formed-paste : (r : Replica) (g : ℕ) (block : List ℕ) → replica_well_formed r ≡ true → pasted_by r g block ≡ pasted_with r (paste (meaning r) g block)
unfolding pasted_by paste
formed-paste r g block f = ap (λ (b : Bool). pasted_with r (paste_when b (meaning r) g block)) (f ∙ sym (form_meant r f))

-- what is done was in form
done-formed : (r : Replica) (g : ℕ) (block : List ℕ) → (reply (pasted_by r g block).answer).word ≡ done → replica_well_formed r ≡ true
unfolding pasted_by pasted_with paste_checks
done-formed r g block h = not-false (replica_well_formed r) ((paste_does (replica_well_formed r) (meaning r) g block).0 h).1.0

module _ (r : Replica) (g : ℕ) (block : List ℕ) (h : (reply (pasted_by r g block).answer).word ≡ done) where
  done-paste : pasted_by r g block ≡ pasted_with r (paste (meaning r) g block)
  done-paste = formed-paste r g block (done-formed r g block h)

  rule_done : (reply (paste (meaning r) g block).answer).word ≡ done
  unfolding pasted_with
  rule_done = sym (ap (λ (p : Pasted). (reply p.answer).word) done-paste) ∙ h

-- ---- all or none

-- what the rule turns away it leaves
turned : (formed : Bool) (s : State) (g : ℕ) (block : List ℕ) (q : Refusal) → (paste_when formed s g block).answer ≡ Refused q
    → paste_when formed s g block ≡ unpasted s (Refused q)
unfolding paste_when decided unpasted pasted
turned formed s g block q = go (first (paste_checks formed s g block)) (pasted s (typings s g (code_points_of block))) never
  where
    never : {n m : ℕ} → Done n m ≡ Refused q → ⊥
    never e = let z : ◌≡◌ {A = ℕ} 0 1 = cc in omega arith

    go : (m : Option Answer) (w : PasteOutcome) → (w.answer ≡ Refused q → ⊥) → (decided (unpasted s) m w).answer ≡ Refused q
        → decided (unpasted s) m w ≡ unpasted s (Refused q)
    go none w f h = absurd (f h)
    go (some a) w f h = ap (unpasted s) h

pub pasted-all-or-none : PastedAllOrNone
unfolding pasted_by pasted_with unpasted after_typing
pasted-all-or-none r g block q h = ap (pasted_with r) (turned (replica_well_formed r) (meaning r) g block q h)

pub pasted-nothing : PastedNothing
unfolding pasted_with unpasted after_typing
pasted-nothing r g f gap = formed-paste r g [] f ∙ ap (pasted_with r) (paste-nothing (meaning r) g (form_meant r f) gap)

-- ---- typing

-- a typing call that is done
typed-replica : (r : Replica) (s : State) (a : Sending) → (reply (answer_of a)).word ≡ done → after_sent r s a ≡ stored s
unfolding after_sent answer_of reply
typed-replica r s (Ok x) h = refl
typed-replica r s (Err q) h = absurd (let z : ◌≡◌ {A = ℕ} 0 1 = cc in omega arith)

first-typed : (r : Replica) (g n : ℕ) → replica_well_formed r ≡ true → (reply (outcome (meaning r) (inserting g n)).answer).word ≡ done
    → called r (inserting g n) ≡ stored (outcome (meaning r) (inserting g n)).state
unfolding called inserted generated outcome local_insert
first-typed r g n f h =
    ap (λ (b : Bool). inserted_by_lem b) (f ∙ sym (form_meant r f))
    ∙ typed-replica r (local_insert (meaning r) g n).state (local_insert (meaning r) g n).answer h
  where
    inserted_by_lem : Bool → Replica
    inserted_by_lem b = after_sent r (local_insert_when b (meaning r) g n).state (local_insert_when b (meaning r) g n).answer

-- nothing sent
none_after : (r : Replica) (s : State) → after_typing r s [] ≡ r
unfolding after_typing
none_after r s = refl

-- the replica after typing calls that are all done, as many as operations were sent
typed-ran : (r : Replica) (g : ℕ) (ns : List ℕ) → replica_well_formed r ≡ true → EachDone (meaning r) (typings (meaning r) g ns)
    → length (own_by (meaning r) (typings (meaning r) g ns)) ≡ length ns
    → after_typing r (run (meaning r) (typings (meaning r) g ns)) (own_by (meaning r) (typings (meaning r) g ns)) ≡ ran r (typings (meaning r) g ns)
typed-ran r g [] f w many = none_after r (meaning r)
typed-ran r g (n ∷ ns) f w many =
    let t = (outcome (meaning r) (inserting g n)).state in
    let cs = typings (meaning r) g (n ∷ ns) in
    let within = formed-within t (form_kept (meaning r) (inserting g n) (form_meant r f)) in
    let rest = typings t (gap_below t (next_identifier (meaning r).site)) ns in
    after-some r (run (meaning r) cs) (own_by (meaning r) cs) (omega (arith, many))
    ∙ sym (ran-stored t rest within)
    ∙ ap (λ (q : Replica). ran q rest) (sym (first-typed r g n f w.0))

pub pasted-is_typing : PastedIsTyping
unfolding pasted_with pasted
pasted-is_typing r g block ns e h =
    let d = rule_done r g block h in
    let w = paste-is_typing (meaning r) g block ns e d in
    let own = sym (ap (λ (p : PasteOutcome). length p.own) w.1) ∙ (paste-sends (meaning r) g block ns e d).2 in
    ap (λ (p : Pasted). p.replica) (done-paste r g block h ∙ ap (pasted_with r) w.1)
    ∙ typed-ran r g ns (done-formed r g block h) w.0 own

pub pasted-sends : PastedSends
unfolding pasted_with
pasted-sends r g block ns e h =
    let w = paste-sends (meaning r) g block ns e (rule_done r g block h) in
    let p = done-paste r g block h in (
      (paste (meaning r) g block).own,
      w.0,
      ap (λ (q : Pasted). q.typed) p,
      ap (λ (q : Pasted). q.count) p ∙ w.2,
    )

-- ---- from a beginning

ran_append : (r : Replica) (cs ds : List Call) → ran r (cs ++ ds) ≡ ran (ran r cs) ds
ran_append r [] ds = refl
ran_append r (c ∷ cs) ds = ran_append (called r c) cs ds

module _ (b : Begun) (cs : List Call) where
  abbrev here : State
  here = run (start_of b) cs

  within-here : Within here
  within-here = run-within (start_of b) cs (begun-within b)

  meant_here : meaning (ran (stored (start_of b)) cs) ≡ here
  meant_here = ap meaning (replicas_follow b cs) ∙ meaning-stored here within-here

  formed-here : replica_well_formed (ran (stored (start_of b)) cs) ≡ well_formed here
  formed-here = ap replica_well_formed (replicas_follow b cs) ∙ form_stored here within-here

pub pasted_follows : PastedFollows
pasted_follows b cs g block ns e h =
    pasted-is_typing (ran (stored (start_of b)) cs) g block ns e h
    ∙ ap (λ (s : State). ran (ran (stored (start_of b)) cs) (typings s g ns)) (meant_here b cs)
    ∙ sym (ran_append (stored (start_of b)) cs (typings (run (start_of b) cs) g ns))

pub pasted-never-unplaceable : PastedNeverUnplaceable
unfolding pasted_by pasted_with paste
pasted-never-unplaceable b cs g block h =
    paste-never-unplaceable b cs g block (rw (formed-here b cs, meant_here b cs) at h)

-- ---- the form and the table

after-formed : (r : Replica) (s : State) (os : List Operation) → replica_well_formed r ≡ true → well_formed s ≡ true
    → replica_well_formed (after_typing r s os) ≡ true
unfolding after_typing
after-formed r s [] f h = f
after-formed r s (o ∷ os) f h = form_stored s (formed-within s h) ∙ h

pub pasted-formed : PastedFormed
unfolding pasted_with
pasted-formed r g block f =
    ap (λ (p : Pasted). replica_well_formed p.replica) (formed-paste r g block f)
    ∙ after-formed r (paste (meaning r) g block).state (paste (meaning r) g block).own f (paste_form_kept (meaning r) g block (form_meant r f))

pub pasted_searches : PastedSearches
pasted_searches r g block f = formed_searches (pasted_by r g block).replica (pasted-formed r g block f)
