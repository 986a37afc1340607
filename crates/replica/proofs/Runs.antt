-- A replica that stores a state within the arrays means that state, so that a call on it returns what the rules leave, as
-- it is stored.
use Prim.Native.Nat.{ℕ, ◌≤◌}
use native.Mathlib.Omega.{arith}
use mathlib.Core.Path.{◌≡◌, refl, ap, sym, ◌∙◌, subst}
use mathlib.Core.Bool.{true, false, Bool, ◌&&◌}
use mathlib.Core.Logic.{⊎_elim}
use mathlib.Core.List.Memᴰ
use mathlib.Core.List.{List, [], ◌∷◌}
use lib.ListN.{length}
use borrow.Author.Tests.{le-leb}
use Rattle.woot.specs.declared.Operation.{Operation}
use Rattle.woot.specs.declared.Character.{Character}
use Rattle.woot.specs.declared.Replica.{Replica}
use Rattle.answers.specs.declared.Refusal.{Refusal}
use Rattle.answers.specs.declared.Answer.{Answer}
use Rattle.answers.specs.declared.Answer.TheVariants.{Done, Deferred, Duplicate, Refused}
use Rattle.woot.specs.State.{State, initial, blank_character}
use Rattle.woot.specs.Memory.{character_slots, pending_slots, meaning, document_of, stored, counted, table_agrees}
use Rattle.woot.specs.Table.{keys, agrees}
use Rattle.index.proofs.Sound.{sound-small, sound_tabled}
use Rattle.memory.proofs.Operations.{all_keyed}
use Rattle.memory.proofs.Stored.{Storable}
use Rattle.memory.proofs.Views.{meaning_in_memory}
use Rattle.lists.specs.Padding.{pad}
use Rattle.woot.specs.Form.{well_formed}
use Rattle.woot.specs.Memory.{replica_well_formed}
use Rattle.woot.specs.Sending.{answer_of}
use Rattle.woot.specs.Calls.{Outcome, unchanged, receive, local_insert, local_delete, local_restore}
use Rattle.woot.specs.Cursor.{receive_at}
use Rattle.bulk.specs.Building.{build}
use Rattle.bulk.specs.Loading.{use_outcome}
use Rattle.woot.specs.Histories.{Call, inserting, deleting, restoring, receiving, receiving_at, outcome, run}
use Rattle.bulk.specs.Beginnings.{Begun, empty, heaped, loaded, start_of}
use Rattle.lists.proofs.Tests.{either, clash, three}
use Rattle.convergence.proofs.Heaped.{heaped-formed}
use Rattle.convergence.proofs.Used.{used_formed}
use Rattle.convergence.proofs.Forms.{formed, reformed}
use Rattle.convergence.proofs.Shares.{pending-bound}
use Rattle.convergence.proofs.Steps.{Step, turned, adds, raises, defers, step}
use Rattle.convergence.proofs.Kept.{form_kept}
use Rattle.convergence.proofs.Refusals.{refused-unchanged, known-unchanged}
use Rattle.convergence.proofs.Convergence.{convergence}
use Rattle.woot.specs.Replicas.{after_answer, after_sent, receipt, receipt_at, generated, received, received_at, inserted, deleted, restored}
use Rattle.replica.specs.Texts.{text_of}
use Rattle.replica.specs.Theorems.{called, ran, ReplicasFollow, ReplicasConverge}
use Rattle.std.proofs.Common.{Ok, Err}
use Rattle.woot.specs.Sent.{Sending}

-- the lists are within the arrays, and what they hold within the numbers
pub record Within (s : State) : Type 0 where
  pub characters-fit : length s.characters ≤ character_slots
  pub pending-fit : length s.pending ≤ pending_slots
  pub storable : Storable s

pub formed-within : (s : State) → well_formed s ≡ true → Within s
formed-within s h =
    let f = formed s h in
    record {
      characters-fit = omega (arith, f.sound.room);
      pending-fit = pending-bound f.sound;
      storable = record { characters = sound-small f.sound; pending = all_keyed s.pending f.sound.pending-ranges };
    }

-- what is stored is what is meant
pub meaning-stored : (s : State) → Within s → meaning (stored s) ≡ s
meaning-stored s w = meaning_in_memory s w.characters-fit w.pending-fit w.storable

pub counted-stored : (s : State) → Within s → counted (stored s) ≡ true
unfolding counted stored document_of
counted-stored s w = rw (le-leb (length s.characters) character_slots w.characters-fit, le-leb (length s.pending) pending_slots w.pending-fit)

own-table : (s : State) → well_formed s ≡ true → agrees (stored s).document.table (keys s.characters) ≡ true
unfolding stored document_of
own-table s h = (sound_tabled (formed s h).sound).agree

-- the table that is stored agrees
pub table-stored : (s : State) → well_formed s ≡ true → table_agrees (stored s) ≡ true
unfolding table_agrees
table-stored s h = rw (meaning-stored s (formed-within s h)) (own-table s h)

absorbed : (a b : Bool) → (a ≡ true → b ≡ true) → a && b ≡ a
absorbed true b f = f refl
absorbed false b f = refl

pub form_stored : (s : State) → Within s → replica_well_formed (stored s) ≡ well_formed s
unfolding replica_well_formed
form_stored s w = rw (counted-stored s w, meaning-stored s w) (absorbed (well_formed s) (table_agrees (stored s)) (table-stored s))

pub form_meant : (r : Replica) → replica_well_formed r ≡ true → well_formed (meaning r) ≡ true
unfolding replica_well_formed
form_meant r h = (three (counted r) (well_formed (meaning r)) (table_agrees r) h).1

pub form_table : (r : Replica) → replica_well_formed r ≡ true → table_agrees r ≡ true
unfolding replica_well_formed
form_table r h = (three (counted r) (well_formed (meaning r)) (table_agrees r) h).2

-- ---- one call

answer-stored : (s t : State) (a : Answer) → (a ≡ Duplicate → t ≡ s) → ((r : Refusal) → a ≡ Refused r → t ≡ s) → after_answer (stored s) t a ≡ stored t
unfolding after_answer
answer-stored s t (Done n m) k f = refl
answer-stored s t Deferred k f = refl
answer-stored s t Duplicate k f = ap stored (sym (k refl))
answer-stored s t (Refused r) k f = ap stored (sym (f r refl))

sent-stored : (s t : State) (a : Sending) → ((r : Refusal) → a ≡ Err r → t ≡ s) → after_sent (stored s) t a ≡ stored t
unfolding after_sent
sent-stored s t (Ok x) f = refl
sent-stored s t (Err r) f = ap stored (sym (f r refl))

-- a refused call leaves the state
refused-state : (s : State) (c : Call) (r : Refusal) → (outcome s c).answer ≡ Refused r → (outcome s c).state ≡ s
unfolding unchanged
refused-state s c r e = ap (λ w. w.state) (refused-unchanged s c r e)

known-state : (s : State) (c : Call) → (outcome s c).answer ≡ Duplicate → (outcome s c).state ≡ s
unfolding unchanged
known-state s c e = ap (λ w. w.state) (known-unchanged s c e)

pub called-stored : (s : State) (c : Call) → Within s → called (stored s) c ≡ stored (outcome s c).state
unfolding called received received_at inserted deleted restored receipt receipt_at generated outcome local_insert local_delete local_restore receive receive_at answer_of
called-stored s (inserting g n) w =
    rw (form_stored s w, meaning-stored s w)
    (sent-stored s (local_insert s g n).state (local_insert s g n).answer (λ r e. refused-state s (inserting g n) r (ap answer_of e)))
called-stored s (deleting p) w =
    rw (form_stored s w, meaning-stored s w)
    (sent-stored s (local_delete s p).state (local_delete s p).answer (λ r e. refused-state s (deleting p) r (ap answer_of e)))
called-stored s (restoring x) w =
    rw (form_stored s w, meaning-stored s w)
    (sent-stored s (local_restore s x).state (local_restore s x).answer (λ r e. refused-state s (restoring x) r (ap answer_of e)))
called-stored s (receiving o) w =
    rw (form_stored s w, meaning-stored s w)
    (answer-stored s (receive s o).state (receive s o).answer (known-state s (receiving o)) (refused-state s (receiving o)))
called-stored s (receiving_at o g) w =
    rw (form_stored s w, meaning-stored s w)
    (answer-stored s (receive_at s o g).state (receive_at s o g).answer (known-state s (receiving_at o g)) (refused-state s (receiving_at o g)))

-- ---- lists of calls

-- a state out of form stays as it is
unformed_step : (s : State) {r : Outcome Answer} → Step s r → well_formed s ≡ false → r.state ≡ s
unfolding unchanged
unformed_step s (turned a w) h = refl
unformed_step s (adds i a) h = clash (reformed s a.formed) h
unformed_step s (raises d a) h = clash (reformed s a.formed) h
unformed_step s (defers o a) h = clash (reformed s a.formed) h

pub within-kept : (s : State) (c : Call) → Within s → Within (outcome s c).state
within-kept s c w =
    ⊎_elim (λ h. formed-within (outcome s c).state (form_kept s c h)) (λ h. subst Within (sym (unformed_step s (step s c) h)) w)
    (either (well_formed s))

pub ran-stored : (s : State) (cs : List Call) → Within s → ran (stored s) cs ≡ stored (run s cs)
ran-stored s [] w = refl
ran-stored s (c ∷ cs) w = ap (λ r. ran r cs) (called-stored s c w) ∙ ran-stored (outcome s c).state cs (within-kept s c w)

pub initial-within : (n : ℕ) → Within (initial n)
unfolding initial
initial-within n =
    record {
      characters-fit = omega arith;
      pending-fit = omega arith;
      storable = record { characters = λ c m. absurd (Memᴰ.not-nil m); pending = λ o m. absurd (Memᴰ.not-nil m) };
    }

-- a beginning has its place in the arrays
pub begun-within : (b : Begun) → Within (start_of b)
begun-within (empty n) = initial-within n
begun-within (heaped n heap) =
    ⊎_elim (λ e. subst Within (sym e) (initial-within 0)) (λ f. formed-within (build n heap).state f)
    (heaped-formed n heap)
begun-within (loaded s) =
    ⊎_elim (λ e. subst Within (sym e) (initial-within 0)) (λ f. formed-within (use_outcome s).state f) (used_formed s)

pub replicas_follow : ReplicasFollow
replicas_follow b cs = ran-stored (start_of b) cs (begun-within b)

pub run-within : (s : State) (cs : List Call) → Within s → Within (run s cs)
run-within s [] w = w
run-within s (c ∷ cs) w = run-within (outcome s c).state cs (within-kept s c w)

pub replicas_converge : ReplicasConverge
unfolding text_of
replicas_converge a b cs ds inserted toggled =
    rw (
      replicas_follow a cs,
      replicas_follow b ds,
      meaning-stored (run (start_of a) cs) (run-within (start_of a) cs (begun-within a)),
      meaning-stored (run (start_of b) ds) (run-within (start_of b) ds (begun-within b)),
    )
    (convergence a b cs ds inserted toggled)
