-- A call goes by a condition, and then its result is a number and zeros, or by what is made, which is within its bounds:
-- so every part is read back, the header's sizes are enough, and what is saved is loaded.
use Prim.Native.Nat.{ℕ, ◌≤◌, ◌<◌}
use native.Mathlib.Omega.{arith}
use mathlib.Core.Path.{◌≡◌, refl, ap, ◌∙◌}
use mathlib.Core.Bool.{Bool, true, false, ◌&&◌, ◌||◌}
use mathlib.Core.List.{List, []}
use mathlib.Core.Option.{none}
use lib.Dec.{eqb, ltb}
use lib.ListN.{length, take}
use lib.Seq.{take-append_seam}
use borrow.Author.Tests.{eqb-false, ltb-true, ltb-false, le-ltb}
use Rattle.lists.proofs.Tests.{four, or_cases, or-false-left}
use mathlib.Core.Logic.{⊎_elim}
use Rattle.output.specs.Output.{placed}
use Rattle.output.proofs.Laws.{placed-room}
use Rattle.answers.specs.declared.Answer.{Answer}
use Rattle.answers.specs.declared.Answer.TheVariants.{Done, Deferred, Duplicate, Refused}
use Rattle.answers.specs.declared.Refusal.TheVariants.{Taken, Output}
use Rattle.answers.specs.Answers.{number, Word, done, waits, known, refused, reply, NoneHolds, decided}
use Rattle.convergence.proofs.Replies.{number-few, none_first}
use Rattle.convergence.proofs.Steps.{Turned}
use Rattle.saved.specs.Format.{saved_bytes}
use Rattle.saved.proofs.Trips.{saved-reads-back}
use Rattle.effects.specs.Results.{Result, result, silent, word_number, in_bits, number_of}
use Rattle.effects.specs.Effects.{Effect, quiet}
use Rattle.c_calls.specs.Calls.{CCall, wimtaze_empty, wimtaze_receive, wimtaze_receive_at, wimtaze_type, wimtaze_erase}
use Rattle.c_calls.specs.Calls.{wimtaze_restore, wimtaze_paste, wimtaze_text, wimtaze_counts, wimtaze_upgrade, wimtaze_downgrade}
use Rattle.c_calls.specs.Calls.{earlier_checks, call_checks, bytes_alone, product_of, short, delivered, effect_of}
use Rattle.c_calls.specs.Calls.{wimtaze_build, wimtaze_load, wimtaze_list, wimtaze_answer}
use Rattle.c_calls.specs.Calls.{wimtaze_archive, wimtaze_unarchive}
use Rattle.c_calls.specs.Theorems.{Bounds, bounds_of, room_of, saves, Fits, ResultsFit, PartsReadBack, ReadsBack, ReturnedReadsBack, CountsWithin}
use Rattle.c_calls.specs.Theorems.{CountsFit, BuffersSuffice, bytes_written, Formed, Loads, WrittenLoads}
use Rattle.c_calls.proofs.Listing.{Earlier, Went, away, lacking, through, first-behind, went, product_made}
use Rattle.c_calls.proofs.Products.{Saved, Sound, counts_within, counts_formed, product-sound}

-- ---- bounds

quiet-fits : (b : Bounds) (a : Answer) → Turned a → Fits b (silent a)
unfolding silent result reply
quiet-fits b (Done _ _) t = elim t [ ]
quiet-fits b Deferred t = elim t [ ]
quiet-fits b Duplicate t =
    record {
      refusal-fits = omega arith;
      integrated-fits = omega arith;
      discarded-fits = omega arith;
      written-fits = omega arith;
      line-fits = omega arith;
    }
quiet-fits b (Refused q) t =
    record {
      refusal-fits = number-few q;
      integrated-fits = omega arith;
      discarded-fits = omega arith;
      written-fits = omega arith;
      line-fits = omega arith;
    }

went-fits : {c : CCall} {bytes out line : List ℕ} {e : Effect} → Went c bytes out line e → Fits (bounds_of c) e.result
unfolding quiet
went-fits {c} (away a t r) = quiet-fits (bounds_of c) a t.turned
went-fits {c} (lacking w h) = quiet-fits (bounds_of c) (Refused Output) tt
went-fits {c} {bytes} (through w h) = (product-sound c bytes w).fits

pub results_fit : ResultsFit
results_fit c bytes out line = went-fits (went c bytes out line)

-- ---- reading back

pub parts-read-back : PartsReadBack
unfolding in_bits
parts-read-back w q n m a b =
    record {
      word_back = omega arith;
      refusal-back = omega arith;
      integrated-back = omega arith;
      discarded-back = omega arith;
      written_back = omega arith;
      line-back = omega arith;
    }

word-few : (w : Word) → word_number w < 4
word-few done = omega arith
word-few waits = omega arith
word-few known = omega arith
word-few refused = omega arith

-- every bound is below the weight of the next part
abbrev narrow : Bounds → Bool
narrow b = ltb b.integrated 4096 && ltb b.discarded 4096 && ltb b.written 65536 && ltb b.line 65536

all_narrow : (c : CCall) → narrow (bounds_of c) ≡ true
all_narrow (wimtaze_empty n) = refl
all_narrow (wimtaze_build n heap) = refl
all_narrow wimtaze_load = refl
all_narrow (wimtaze_receive l) = refl
all_narrow (wimtaze_receive_at l g) = refl
all_narrow (wimtaze_type g n) = refl
all_narrow (wimtaze_erase p) = refl
all_narrow (wimtaze_restore n t) = refl
all_narrow (wimtaze_paste g block) = refl
all_narrow wimtaze_text = refl
all_narrow wimtaze_counts = refl
all_narrow wimtaze_list = refl
all_narrow (wimtaze_answer list) = refl
all_narrow wimtaze_upgrade = refl
all_narrow wimtaze_downgrade = refl
all_narrow wimtaze_archive = refl
all_narrow wimtaze_unarchive = refl

fits-read-back : (b : Bounds) (x : Result) → narrow b ≡ true → Fits b x → ReadsBack x
unfolding number_of
fits-read-back b x n f =
    let k = four (ltb b.integrated 4096) (ltb b.discarded 4096) (ltb b.written 65536) (ltb b.line 65536) n in
    let w = word_number x.reply.word in
    let p = parts-read-back w x.reply.refusal x.reply.integrated x.reply.discarded x.written x.line in
    let few : w < 4 = word-few x.reply.word in
    record {
      word_read = omega (arith, p.word_back);
      refusal-read = omega (arith, p.refusal-back, f.refusal-fits);
      integrated-read = omega (arith, p.integrated-back, f.integrated-fits, ltb-true b.integrated 4096 k.0);
      discarded-read = omega (arith, p.discarded-back, f.discarded-fits, ltb-true b.discarded 4096 k.1);
      written_read = omega (arith, p.written_back, f.written-fits, ltb-true b.written 65536 k.2);
      line_read = omega (arith, p.line-back, f.line-fits, ltb-true b.line 65536 k.3);
    }

pub returned-reads-back : ReturnedReadsBack
returned-reads-back c bytes out line =
    fits-read-back (bounds_of c) (effect_of c bytes out line).result (all_narrow c) (results_fit c bytes out line)

-- ---- the counts

went_counts : {bytes : List ℕ} {e : Effect} → Went wimtaze_counts bytes [] [] e → CountsWithin e.result
unfolding quiet silent result reply product_of
went_counts (away (Done n m) t r) = absurd t.turned
went_counts (away Deferred t r) = absurd t.turned
went_counts (away Duplicate t r) = record { visible-fits = omega arith; full-fits = omega arith }
went_counts (away (Refused q) t r) = record { visible-fits = omega arith; full-fits = omega arith }
went_counts (lacking w h) = record { visible-fits = omega arith; full-fits = omega arith }
went_counts {bytes} (through w h) = counts_within _ (counts_formed bytes w)

pub counts_fit : CountsFit
counts_fit bytes = went_counts (went wimtaze_counts bytes [] [])

-- ---- outputs of the header's sizes

went-room : {c : CCall} {bytes out line : List ℕ} {e : Effect} → Went c bytes out line e → (room_of c).output ≤ length out →
    (room_of c).line ≤ length line → e.result.reply.refusal ≡ 12 → ⊥
unfolding quiet silent result
went-room (away a t r) ho hl e = eqb-false (reply a).refusal 12 t.other e
went-room {c} {bytes} {out} {line} (lacking w h) ho hl e =
    let p = product_of c bytes in
    let s = product-sound c bytes w in
    ⊎_elim (λ k. omega (arith, ltb-true (length out) (length p.output) k, s.output-few, ho))
    (λ k. omega (arith, ltb-true (length line) (length p.line) k, s.line-few, hl))
    (or_cases (ltb (length out) (length p.output)) (ltb (length line) (length p.line)) h)
went-room {c} {bytes} (through w h) ho hl e = omega (arith, (product_made c bytes w).unrefused, e)

pub buffers_suffice : BuffersSuffice
buffers_suffice c bytes out line = went-room (went c bytes out line)

-- ---- what is saved

-- the front of a slice is what was put there
pub front : (out bytes : List ℕ) → length bytes ≤ length out → take (length bytes) (placed out 0 bytes) ≡ bytes
front out bytes h = ap (take (length bytes)) (placed-room out 0 bytes (omega arith)) ∙ take-append_seam bytes _

-- a call that makes bytes and nothing else
module _ (c : CCall) (bytes out made : List ℕ) (e : product_of c bytes ≡ bytes_alone made) where
  -- done, no condition holds, and they are at the front of the output
  went_alone : {x : Effect} → Went c bytes out [] x → x.result.reply.word ≡ done →
      NoneHolds (earlier_checks c bytes) × (length made ≤ length out) × (bytes_written x ≡ made)
  unfolding quiet silent result reply
  went_alone (away (Done i j) t r) d = absurd t.turned
  went_alone (away Deferred t r) d = absurd t.turned
  went_alone (away Duplicate t r) d = absurd (let z : ◌≡◌ {A = ℕ} 0 1 = cc in omega arith)
  went_alone (away (Refused q) t r) d = absurd (let z : ◌≡◌ {A = ℕ} 0 1 = cc in omega arith)
  went_alone (lacking w f) d = absurd (let z : ◌≡◌ {A = ℕ} 0 1 = cc in omega arith)
  went_alone (through w f) d =
      let room = ltb-false (length out) (length made) (or-false-left _ _ (rw e at f)) in
      (w, room, rw e (front out made room))

  pub alone_done : (effect_of c bytes out []).result.reply.word ≡ done →
      NoneHolds (earlier_checks c bytes) × (length made ≤ length out) × (bytes_written (effect_of c bytes out []) ≡ made)
  alone_done d = went_alone (went c bytes out []) d

  -- and where none holds and there is room, it is done
  pub done_alone : NoneHolds (earlier_checks c bytes) → length made ≤ length out →
      ((effect_of c bytes out []).result.reply.word ≡ done) × (bytes_written (effect_of c bytes out []) ≡ made)
  unfolding effect_of call_checks decided result reply
  done_alone w room =
      let cs = earlier_checks c bytes in
      let lacks = short (bytes_alone made) out [] in
      rw (e, first-behind cs lacks (Refused Output) none (none_first cs w), le-ltb (length out) (length made) room)
      (refl, front out made room)

went_loads : {c : CCall} {bytes out line : List ℕ} {e : Effect} → Went c bytes out line e → saves c ≡ true → Loads e
unfolding quiet silent result reply
went_loads (away (Done n m) t r) k unknown untold = absurd t.turned
went_loads (away Deferred t r) k unknown untold = absurd t.turned
went_loads (away Duplicate t r) k unknown untold = absurd (unknown refl)
went_loads (away (Refused q) t r) k unknown untold = absurd (untold refl)
went_loads (lacking w h) k unknown untold = absurd (untold refl)
went_loads {c} {bytes} {out} {line} (through w h) k unknown untold =
    let p = product_of c bytes in
    let v = (product-sound c bytes w).saved k in
    let fits = ltb-false (length out) (length p.output) (or-false-left _ _ h) in
    let back = saved-reads-back v.state v.formed in
    rw (v.length-told, front out p.output fits, v.bytes) (record { loads = back.0; unraised = back.2 })

pub written_loads : WrittenLoads
written_loads c bytes out line = went_loads (went c bytes out line)
