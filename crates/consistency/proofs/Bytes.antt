-- A call on saved bytes: turned away, it leaves them; where it makes something, that is the bytes of the state which its
-- calls of the rules leave.
use Prim.Native.Nat.{ℕ}
use mathlib.Core.Path.{◌≡◌, refl, sym, ap, ◌∙◌, subst}
use mathlib.Core.Bool.{Bool, true, false, cond, false≢true}
use mathlib.Core.List.{List, [], ◌∷◌}
use borrow.Author.Tests.{ltb-false}
use lib.ListN.{length, take}
use Rattle.lists.proofs.Tests.{or-false-left}
use Rattle.answers.specs.declared.Answer.{Answer}
use Rattle.answers.specs.declared.Answer.TheVariants.{Done, Deferred, Duplicate, Refused}
use Rattle.answers.specs.declared.Refusal.TheVariants.{Layout, Output}
use Rattle.output.specs.Output.{placed}
use Rattle.decoding.specs.Decoding.{head_of, decoded_steps, decoded}
use Rattle.woot.specs.State.{State, initial}
use Rattle.woot.specs.Form.{well_formed}
use Rattle.answers.specs.Answers.{Word, done, waits, known, refused, Reply, reply, ◌⇒◌, first, NoneHolds, decided}
use Rattle.woot.specs.Histories.{inserting, deleting, restoring, receiving, receiving_at, outcome, run, Call as RuleCall}
use Rattle.bulk.specs.Pasting.{code_points_of, typings, PasteOutcome, pasted, paste}
use Rattle.convergence.proofs.Kept.{form_kept}
use Rattle.convergence.proofs.Pasting.{paste_form_kept}
use Rattle.convergence.proofs.Steps.{Turned}
use Rattle.replica.proofs.Runs.{formed-within}
use Rattle.lines.specs.Lines.{closed}
use Rattle.lines.specs.Fields.{has_layout}
use Rattle.codec.specs.Calls.{said_by}
use Rattle.saved.specs.Format.{is_site, head_line, laid_out_as, saved_laid_out, saved_bytes, laid_out_with}
use Rattle.saved.specs.Calls.{load_checks, unread, loaded, loaded_state}
use Rattle.saved.proofs.Trips.{saved_loads, saved-reads-back}
use Rattle.effects.specs.Results.{result, silent}
use Rattle.effects.specs.Effects.{Effect, quiet}
use Rattle.c_calls.specs.Calls.{CCall, wimtaze_empty, wimtaze_receive, wimtaze_receive_at, wimtaze_type, wimtaze_erase, wimtaze_restore, wimtaze_paste, wimtaze_text, wimtaze_counts, wimtaze_upgrade, wimtaze_downgrade, input_checks, named, rule_checks, handed_checks, earlier_checks, call_checks, product_of, effect_of}
use Rattle.c_calls.specs.Calls.{wimtaze_build, wimtaze_load, wimtaze_list, wimtaze_answer}
use Rattle.c_calls.specs.Calls.{wimtaze_archive, wimtaze_unarchive}
use Rattle.c_calls.proofs.Fitting.{front}
use Rattle.c_calls.proofs.Listing.{Earlier, Made, Went, away, lacking, through, went, product_made, paste-taken}
use Rattle.consistency.specs.Copies.{BytesCall, load, for_c, bytes_call, as_bytes, bytes_after, word_of, kept_bytes, after_loading, when_made, rules_of, renews, on_bytes, step_on}
use Rattle.consistency.proofs.Holding.{Holds, bytes, nothing, stored-held, Steps, made_none}
use Rattle.consistency.proofs.Returned.{kept, word-returned, effect_returned}

-- ---- what is made

-- the bytes of the state that the calls of the rules leave
pub record Ruled (s : State) (c : CCall) : Type 0 where
  pub output : (product_of c (saved_bytes s)).output ≡ saved_bytes (run s (rules_of s c))
  pub told : (product_of c (saved_bytes s)).result.written ≡ length (product_of c (saved_bytes s)).output
  pub formed : well_formed (run s (rules_of s c)) ≡ true

-- pasting that is done leaves the state that its typing calls leave
typings-left : (s : State) → well_formed s ≡ true → (g : ℕ) (block : List ℕ) → NoneHolds (earlier_checks (wimtaze_paste g block) (saved_bytes s)) →
    (paste s g block).state ≡ run s (typings s g (code_points_of block))
unfolding pasted
typings-left s h g block w = ap (λ (p : PasteOutcome). p.state) (rw (saved_loads s h) at (paste-taken (saved_bytes s) g block w).1)

ruled : (s : State) → well_formed s ≡ true → (c : CCall) → NoneHolds (earlier_checks c (saved_bytes s)) → renews c ≡ true → Ruled s c
unfolding product_of rules_of renews outcome result
ruled s h (wimtaze_empty n) w k = absurd (false≢true k)
ruled s h (wimtaze_build n heap) w k = absurd (false≢true k)
ruled s h wimtaze_load w k = record { output = rw (saved_loads s h); told = refl; formed = h }
ruled s h (wimtaze_receive l) w k = record { output = rw (saved_loads s h); told = refl; formed = form_kept s (receiving (said_by l)) h }
ruled s h (wimtaze_receive_at l g) w k = record { output = rw (saved_loads s h); told = refl; formed = form_kept s (receiving_at (said_by l) g) h }
ruled s h (wimtaze_type g n) w k = record { output = rw (saved_loads s h); told = refl; formed = form_kept s (inserting g n) h }
ruled s h (wimtaze_erase p) w k = record { output = rw (saved_loads s h); told = refl; formed = form_kept s (deleting p) h }
ruled s h (wimtaze_restore n t) w k = record { output = rw (saved_loads s h); told = refl; formed = form_kept s (restoring (named n t)) h }
ruled s h (wimtaze_paste g []) w k = absurd (false≢true k)
ruled s h (wimtaze_paste g (b ∷ block)) w k =
    let e = typings-left s h g (b ∷ block) w in
    record {
      output = rw (saved_loads s h) (ap saved_bytes e);
      told = refl;
      formed = subst (λ (t : State). well_formed t ≡ true) e (paste_form_kept s g (b ∷ block) h);
    }
ruled s h wimtaze_text w k = absurd (false≢true k)
ruled s h wimtaze_counts w k = absurd (false≢true k)
ruled s h wimtaze_list w k = absurd (false≢true k)
ruled s h (wimtaze_answer l) w k = absurd (false≢true k)
ruled s h wimtaze_upgrade w k = absurd (false≢true k)
ruled s h wimtaze_downgrade w k = absurd (false≢true k)
ruled s h wimtaze_archive w k = absurd (false≢true k)
ruled s h wimtaze_unarchive w k = absurd (false≢true k)

-- ---- by how the call went

-- a word that is neither known nor refused: the new bytes are kept, and the calls of the rules made
made_word : (x : Reply) → Made x → (b new : List ℕ) (rs : List RuleCall) → (bytes_after x.word b new ≡ new) × (when_made x.word rs ≡ rs)
unfolding bytes_after when_made
made_word x m b new rs = go x.word m.unknown m.untold
  where
    go : (w : Word) → (w ≡ known → ⊥) → (w ≡ refused → ⊥) → (bytes_after w b new ≡ new) × (when_made w rs ≡ rs)
    go done k t = (refl, refl)
    go waits k t = (refl, refl)
    go known k t = absurd (k refl)
    go refused k t = absurd (t refl)

quiet_word : (a : Answer) → Turned a → (b new : List ℕ) (rs : List RuleCall) →
    (bytes_after (reply a).word b new ≡ b) × (when_made (reply a).word rs ≡ [])
unfolding bytes_after when_made reply
quiet_word (Done _ _) t b new rs = elim t [ ]
quiet_word Deferred t b new rs = elim t [ ]
quiet_word Duplicate t b new rs = (refl, refl)
quiet_word (Refused q) t b new rs = (refl, refl)

-- a call that does not renew the copy makes no call of the rules
no_rules : (s : State) (c : CCall) → renews c ≡ false → rules_of s c ≡ []
unfolding renews rules_of code_points_of decoded decoded_steps head_of
no_rules s (wimtaze_empty n) k = refl
no_rules s (wimtaze_build n heap) k = refl
no_rules s wimtaze_load k = absurd (false≢true (sym k))
no_rules s (wimtaze_receive l) k = absurd (false≢true (sym k))
no_rules s (wimtaze_receive_at l g) k = absurd (false≢true (sym k))
no_rules s (wimtaze_type g n) k = absurd (false≢true (sym k))
no_rules s (wimtaze_erase p) k = absurd (false≢true (sym k))
no_rules s (wimtaze_restore n t) k = absurd (false≢true (sym k))
no_rules s (wimtaze_paste g []) k = refl
no_rules s (wimtaze_paste g (b ∷ block)) k = absurd (false≢true (sym k))
no_rules s wimtaze_text k = refl
no_rules s wimtaze_counts k = refl
no_rules s wimtaze_list k = refl
no_rules s (wimtaze_answer l) k = refl
no_rules s wimtaze_upgrade k = refl
no_rules s wimtaze_downgrade k = refl
no_rules s wimtaze_archive k = refl
no_rules s wimtaze_unarchive k = refl

-- refused, there are no bytes still
refused-holds : (rs : List RuleCall) (out line : List ℕ) →
    Holds (run (initial 0) (when_made (quiet out line (Refused Layout)).result.reply.word rs)) (as_bytes (kept [] (quiet out line (Refused Layout))))
unfolding quiet silent result reply when_made bytes_after
refused-holds rs out line = nothing

module _ (s : State) (h : well_formed s ≡ true) where
  went-step : (c : CCall) {out line : List ℕ} {e : Effect} → renews c ≡ true → Went c (saved_bytes s) out line e →
      Holds (run s (when_made e.result.reply.word (rules_of s c))) (as_bytes (kept (saved_bytes s) e))
  unfolding quiet silent result
  went-step c {out} {line} k (away a t r) =
      let q = quiet_word a t.turned (saved_bytes s) (take 0 out) (rules_of s c) in rw (q.0, q.1) (bytes s h)
  went-step c {out} {line} k (lacking w f) =
      let q = quiet_word (Refused Output) tt (saved_bytes s) (take 0 out) (rules_of s c) in rw (q.0, q.1) (bytes s h)
  went-step c {out} {line} k (through w f) =
      let p = product_of c (saved_bytes s) in
      let v = ruled s h c w k in
      let room = ltb-false (length out) (length p.output) (or-false-left _ _ f) in
      let m = made_word p.result.reply (product_made c (saved_bytes s) w) (saved_bytes s) (take p.result.written (placed out 0 p.output)) (rules_of s c) in
      rw (m.0, m.1, v.told, front out p.output room, v.output) (bytes (run s (rules_of s c)) v.formed)

  c-step : (c : CCall) (out line : List ℕ) → Steps s (as_bytes (saved_bytes s)) (bytes_call (for_c c out line))
  unfolding step_on on_bytes
  c-step c out line =
      let b : List ℕ = saved_bytes s in
      rw (saved_loads s h, effect_returned c b out line b, word-returned c b out line) (go (renews c) refl)
    where
      e : Effect
      e = effect_of c (saved_bytes s) out line

      go : (r : Bool) → renews c ≡ r → Holds (run s (when_made e.result.reply.word (rules_of s c))) (as_bytes (cond r (kept (saved_bytes s) e) (saved_bytes s)))
      go true k = went-step c k (went c (saved_bytes s) out line)
      go false k = rw (no_rules s c k, made_none e.result.reply.word) (bytes s h)

  load_step : Steps s (as_bytes (saved_bytes s)) (bytes_call load)
  unfolding step_on on_bytes after_loading
  load_step =
      let d = saved-reads-back s h in
      rw (d.0, d.1) (stored-held s (formed-within s h))

  pub bytes-step : (c : BytesCall) → Steps s (as_bytes (saved_bytes s)) (bytes_call c)
  bytes-step load = load_step
  bytes-step (for_c c out line) = c-step c out line

-- ---- no bytes

-- they lack the layout, whatever else is handed
pub no_bytes : saved_laid_out [] ≡ false
unfolding laid_out_with closed head_line is_site has_layout
no_bytes = refl

no-bytes-refused : (c : CCall) → renews c ≡ true → (out line : List ℕ) → effect_of c [] out line ≡ quiet out line (Refused Layout)
unfolding renews effect_of call_checks handed_checks input_checks decided
no-bytes-refused (wimtaze_empty n) k out line = absurd (false≢true k)
no-bytes-refused (wimtaze_build n heap) k out line = absurd (false≢true k)
no-bytes-refused wimtaze_load k out line = rw no_bytes
no-bytes-refused (wimtaze_receive l) k out line = rw no_bytes
no-bytes-refused (wimtaze_receive_at l g) k out line = rw no_bytes
no-bytes-refused (wimtaze_type g n) k out line = rw no_bytes
no-bytes-refused (wimtaze_erase p) k out line = rw no_bytes
no-bytes-refused (wimtaze_restore n t) k out line = rw no_bytes
no-bytes-refused (wimtaze_paste g []) k out line = absurd (false≢true k)
no-bytes-refused (wimtaze_paste g (b ∷ block)) k out line = rw no_bytes
no-bytes-refused wimtaze_text k out line = absurd (false≢true k)
no-bytes-refused wimtaze_counts k out line = absurd (false≢true k)
no-bytes-refused wimtaze_list k out line = absurd (false≢true k)
no-bytes-refused (wimtaze_answer l) k out line = absurd (false≢true k)
no-bytes-refused wimtaze_upgrade k out line = absurd (false≢true k)
no-bytes-refused wimtaze_downgrade k out line = absurd (false≢true k)
no-bytes-refused wimtaze_archive k out line = absurd (false≢true k)
no-bytes-refused wimtaze_unarchive k out line = absurd (false≢true k)

nothing-c : (c : CCall) (out line : List ℕ) → Steps (initial 0) (as_bytes []) (bytes_call (for_c c out line))
unfolding step_on on_bytes
nothing-c c out line = rw (effect_returned c [] out line [], word-returned c [] out line) (go (renews c) refl)
  where
    go : (r : Bool) → renews c ≡ r →
        Holds (run (initial 0) (when_made (effect_of c [] out line).result.reply.word (rules_of (loaded_state []) c))) (as_bytes (cond r (kept [] (effect_of c [] out line)) []))
    go true k = rw (no-bytes-refused c k out line) (refused-holds (rules_of (loaded_state []) c) out line)
    go false k = rw (no_rules (loaded_state []) c k, made_none (effect_of c [] out line).result.reply.word) nothing

pub nothing-step : (c : BytesCall) → Steps (initial 0) (as_bytes []) (bytes_call c)
unfolding step_on on_bytes after_loading loaded load_checks unread decided
nothing-step load = rw no_bytes nothing
nothing-step (for_c c out line) = nothing-c c out line
