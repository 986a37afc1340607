-- No call answers 6: typing alone has it in its list, and on a state in form its condition never holds.
use Prim.Native.Nat.{ℕ}
use native.Mathlib.Omega.{arith}
use mathlib.Core.Path.{◌≡◌, refl, sym, ap, ◌∙◌}
use mathlib.Core.Bool.{Bool, true, false, not, ◌||◌, false≢true}
use mathlib.Core.List.{List, [], ◌∷◌, ◌++◌}
use lib.Dec.{eqb}
use lib.ListN.{drop}
use borrow.Author.Tests.{not-false, eq-eqb}
use Rattle.lists.specs.Lists.{any}
use Rattle.lists.proofs.Tests.{and_right, or_right}
use Rattle.answers.specs.declared.Refusal.{Refusal}
use Rattle.answers.specs.declared.Refusal.TheVariants.{Taken, Output}
use Rattle.answers.specs.declared.Answer.{Answer}
use Rattle.answers.specs.declared.Answer.TheVariants.{Refused}
use Rattle.woot.specs.Ranges.{is_code_point}
use Rattle.woot.specs.Form.{well_formed}
use Rattle.woot.specs.State.{State}
use Rattle.answers.specs.Answers.{number, reply, Check, Reported, here, later}
use Rattle.woot.specs.Sending.{answer_of}
use Rattle.woot.specs.Calls.{insert_checks}
use Rattle.answers.specs.Order.{numbers_of}
use Rattle.convergence.proofs.Forms.{formed}
use Rattle.convergence.proofs.Hearing.{insert_untaken}
use Rattle.convergence.proofs.Refusals.{skipped, other, answer-refused}
use Rattle.effects.specs.Results.{result, silent}
use Rattle.effects.specs.Effects.{Effect, quiet}
use Rattle.saved.specs.Format.{saved_in_range}
use Rattle.saved.specs.Calls.{loaded_state}
use Rattle.c_calls.specs.Calls.{CCall, wimtaze_empty, wimtaze_receive, wimtaze_receive_at, wimtaze_type, wimtaze_erase, wimtaze_restore, wimtaze_paste, wimtaze_text, wimtaze_counts, wimtaze_upgrade, wimtaze_downgrade, input_checks, answering, handed_checks, rule_checks, call_checks, effect_of}
use Rattle.c_calls.specs.Calls.{wimtaze_build, wimtaze_load, wimtaze_list, wimtaze_answer}
use Rattle.c_calls.specs.Calls.{wimtaze_archive, wimtaze_unarchive}
use Rattle.c_calls.specs.Theorems.{meets, RefusalsMet, CallsNeverTaken}
use Rattle.c_calls.proofs.Listing.{Went, away, lacking, through, went, earlier_reported, output_reported, product_made, calls_meet, calls_refuse}
use Rattle.std.proofs.Common.{Err}
use Rattle.woot.specs.Sent.{Sending}

-- what is reported is among the numbers of the list
met : {a : Answer} {cs : List (Check Answer)} → Reported a cs → any (eqb (reply a).refusal) (numbers_of cs) ≡ true
met {a} (here {c = c} {cs = cs} h e) = rw (e, eqb_same (reply a).refusal)
  where
    eqb_same : (n : ℕ) → eqb n n ≡ true
    eqb_same n = eq-eqb n n refl
met {a} (later {c = c} {cs = cs} h r) = or_right (eqb (reply a).refusal (reply c.answer).refusal) _ (met r)

-- so a refusal whose number a call does not have is not reported
pub unmet : (q : Refusal) (c : CCall) (bytes out line : List ℕ) → any (eqb (number q)) (meets c) ≡ false →
    Reported (Refused q) (call_checks c bytes out line) → ⊥
unfolding reply
unmet q c bytes out line h r =
    false≢true (sym h ∙ ap (any (eqb (number q))) (sym (calls_meet c bytes out line)) ∙ met r)

-- the refusal of an effect is 0, or among the numbers of the list
went-met : (c : CCall) (bytes out line : List ℕ) {e : Effect} → Went c bytes out line e →
    any (eqb e.result.reply.refusal) (0 ∷ numbers_of (call_checks c bytes out line)) ≡ true
unfolding quiet silent result
went-met c bytes out line (away a t r) = or_right (eqb (reply a).refusal 0) _ (met (earlier_reported c bytes out line a r))
went-met c bytes out line (lacking w f) =
    or_right (eqb (reply (Refused Output)).refusal 0) _ (met (output_reported c bytes out line w f))
went-met c bytes out line (through w f) = rw (product_made c bytes w).unrefused

pub refusals_met : RefusalsMet
refusals_met c bytes out line =
    ap (λ (ns : List ℕ). any (eqb (effect_of c bytes out line).result.reply.refusal) (0 ∷ ns)) (sym (calls_meet c bytes out line))
    ∙ went-met c bytes out line (went c bytes out line)

-- a refusal that is reported of the answers is reported of what is sent
pub unanswered : (q : Refusal) (cs : List (Check Sending)) (last : Check Answer) → (last.answer ≡ Refused q → ⊥) →
    Reported (Refused q) (answering cs ++ last ∷ []) → Reported (Err q) cs
unanswered q [] last apart (later h r) = elim r [ ]
unanswered q [] last apart (here h e) = absurd (apart e)
unanswered q (c ∷ cs) last apart (here h e) = here h (answer-refused c.answer q e)
unanswered q (c ∷ cs) last apart (later h r) = later h (unanswered q cs last apart r)

type_untaken : (bytes : List ℕ) (g n : ℕ) (out line : List ℕ) → Reported (Refused Taken) (call_checks (wimtaze_type g n) bytes out line) → ⊥
unfolding call_checks handed_checks rule_checks input_checks insert_checks
type_untaken bytes g n out line r =
    let s : State = loaded_state bytes in
    let a = skipped (other (λ h. omega arith)) r in
    let b = skipped (other (λ h. omega arith)) a.1 in
    let d = skipped (other (λ h. omega arith)) b.1 in
    let ranged = and_right (saved_in_range bytes) (is_code_point n) (not-false _ b.0) in
    let f = not-false (well_formed s) d.0 in
    insert_untaken true s g n (λ _. formed s f)
    (later (ap not ranged) (later refl (unanswered Taken (drop 2 (insert_checks true s g n)) _ (other (λ h. omega arith)) d.1)))

pub calls-never-taken : CallsNeverTaken
calls-never-taken c bytes out line h = go c ((calls_refuse c bytes out line Taken).0 h)
  where
    go : (d : CCall) → Reported (Refused Taken) (call_checks d bytes out line) → ⊥
    go (wimtaze_empty n) r = unmet Taken (wimtaze_empty n) bytes out line refl r
    go (wimtaze_build n heap) r = unmet Taken (wimtaze_build n heap) bytes out line refl r
    go wimtaze_load r = unmet Taken wimtaze_load bytes out line refl r
    go (wimtaze_receive l) r = unmet Taken (wimtaze_receive l) bytes out line refl r
    go (wimtaze_receive_at l g) r = unmet Taken (wimtaze_receive_at l g) bytes out line refl r
    go (wimtaze_type g n) r = type_untaken bytes g n out line r
    go (wimtaze_erase p) r = unmet Taken (wimtaze_erase p) bytes out line refl r
    go (wimtaze_restore n t) r = unmet Taken (wimtaze_restore n t) bytes out line refl r
    go (wimtaze_paste g block) r = unmet Taken (wimtaze_paste g block) bytes out line refl r
    go wimtaze_text r = unmet Taken wimtaze_text bytes out line refl r
    go wimtaze_counts r = unmet Taken wimtaze_counts bytes out line refl r
    go wimtaze_list r = unmet Taken wimtaze_list bytes out line refl r
    go (wimtaze_answer l) r = unmet Taken (wimtaze_answer l) bytes out line refl r
    go wimtaze_upgrade r = unmet Taken wimtaze_upgrade bytes out line refl r
    go wimtaze_downgrade r = unmet Taken wimtaze_downgrade bytes out line refl r
    go wimtaze_archive r = unmet Taken wimtaze_archive bytes out line refl r
    go wimtaze_unarchive r = unmet Taken wimtaze_unarchive bytes out line refl r
