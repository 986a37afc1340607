-- A copy that holds a state lists what the rule lists of it, and answers what the rule answers; where it does, the
-- state is in form.
use Rattle.std.proofs.Common.{Err}
use Prim.Native.Nat.{ℕ, ◌≤◌, ◌<◌}
use native.Mathlib.Omega.{arith}
use mathlib.Core.Path.{◌≡◌, refl, sym, ap, ◌∙◌}
use mathlib.Core.Bool.{Bool, true, false, false≢true, not}
use mathlib.Core.Logic.{◌⊎◌, inl, inr, ⊎_elim}
use mathlib.Core.Option.{Option, none, some}
use mathlib.Core.List.{List, [], ◌∷◌}
use lib.ListN.{length, take}
use borrow.Author.Tests.{not-false}
use Rattle.lists.proofs.Tests.{some-eq, no-some, side}
use Rattle.answers.specs.declared.Refusal.{Refusal}
use Rattle.answers.specs.Answers.{Word, done, waits, known, refused, Check, first, NoneHolds}
use Rattle.woot.specs.declared.Replica.{Replica}
use Rattle.woot.specs.State.{State}
use Rattle.woot.specs.Ranges.{within, site_number}
use Rattle.woot.specs.Form.{well_formed}
use Rattle.woot.specs.Memory.{replica_well_formed}
use Rattle.woot.specs.Writing.{refusing, written_as, output_after}
use Rattle.bulk.specs.Catching.{listing, answer_for, list_checks, answer_checks, listing_in_range, mislisted}
use Rattle.convergence.proofs.Forms.{empty-formed}
use Rattle.convergence.proofs.Writing.{own_first, too_short, has_room_lem}
use Rattle.convergence.proofs.Marking.{listing-accepted}
use Rattle.lines.specs.Lines.{concatenated}
use Rattle.codec.specs.Operations.{operation_line}
use Rattle.listing.specs.Format.{list_bytes, list_said}
use Rattle.listing.proofs.Trips.{list-reads-back}
use Rattle.listing.proofs.Sizes.{list-fits}
use Rattle.saved.specs.declared.Version.TheVariants.{Second}
use Rattle.saved.specs.Format.{saved_bytes}
use Rattle.saved.proofs.Trips.{saved_laid, in_range-back, second-says, saved_loads}
use Rattle.catching.specs.Calls.{list_bytes_of, list_written, list_out, answering_checks, answer_bytes_of, answer_written}
use Rattle.catching.specs.Calls.{answer_out}
use Rattle.effects.specs.Results.{number_of}
use Rattle.effects.specs.Effects.{Effect}
use Rattle.c_calls.specs.Calls.{CCall, wimtaze_list, wimtaze_answer, effect_of}
use Rattle.listing.specs.Theorems.{list_most}
use Rattle.c_calls.specs.Theorems.{answer_most, bytes_written, InForm, answered_in_c}
use Rattle.c_calls.proofs.Fitting.{front, returned-reads-back}
use Rattle.c_calls.proofs.Answers.{answer-short}
use Rattle.c_calls.proofs.Caught.{list_in_form, list-writes, list_done, answer_in_form, answer-writes, list_answered}
use Rattle.consistency.specs.Copies.{Copy, in_memory, word_of, written_read}
use Rattle.consistency.specs.Catching.{front_of, front_with, front_read, list_from, answer_from}
use Rattle.consistency.proofs.Holding.{Means, Holds, memory, bytes, nothing}
use Rattle.consistency.proofs.Returned.{word-returned}
use Rattle.consistency.proofs.Bytes.{no_bytes}

-- ---- what a writer left

-- the first condition that holds refuses, or none does
how_first : (cs : List (Check Refusal)) → NoneHolds cs ⊎ ((q : Refusal) × (first (refusing cs) ≡ some (Err q)))
how_first [] = inl tt
how_first (c ∷ cs) = go c.holds refl (how_first cs)
  where
    go : (b : Bool) → c.holds ≡ b → NoneHolds cs ⊎ ((q : Refusal) × (first (refusing cs) ≡ some (Err q))) →
        NoneHolds (c ∷ cs) ⊎ ((q : Refusal) × (first (refusing (c ∷ cs)) ≡ some (Err q)))
    go true e r = inr (c.answer, rw e)
    go false e (inl w) = inl (e, w)
    go false e (inr w) = inr (w.0, rw e w.1)

none-refusing : (cs : List (Check Refusal)) → NoneHolds cs → first (refusing cs) ≡ none
none-refusing [] w = refl
none-refusing (c ∷ cs) w = rw w.0 (none-refusing cs w.1)

module _ (cs : List (Check Refusal)) (bytes out : List ℕ) where
  abbrev left : Option (List ℕ)
  left = front_of (written_as (refusing cs) bytes out) (output_after (refusing cs) bytes out)

  written-some : NoneHolds cs → length bytes ≤ length out → left ≡ some bytes
  written-some w room =
      let d = has_room_lem (refusing cs) bytes out (none-refusing cs w) room in
      rw (d.0, d.1) (ap some (front out bytes room))

  some_written : {made : List ℕ} → left ≡ some made → NoneHolds cs × (made ≡ bytes)
  some_written {made} h = ⊎_elim none-held away (how_first cs)
    where
      away : (q : Refusal) × (first (refusing cs) ≡ some (Err q)) → NoneHolds cs × (made ≡ bytes)
      away w = no-some (rw (own_first (refusing cs) (Err w.0) bytes out w.1).0 at h)

      none-held : NoneHolds cs → NoneHolds cs × (made ≡ bytes)
      none-held w = go (side (length bytes) (length out))
        where
          go : (length bytes ≤ length out) ⊎ (length out < length bytes) → NoneHolds cs × (made ≡ bytes)
          go (inl room) = (w, some-eq (sym h ∙ written-some w room))
          go (inr low) = no-some (rw (too_short (refusing cs) bytes out (none-refusing cs w) low).0 at h)

-- ---- what a call for C left

front-done : (w : Word) (n : ℕ) (out : List ℕ) {made : List ℕ} → front_with w n out ≡ some made →
    (w ≡ done) × (take n out ≡ made)
front-done done n out h = (refl, some-eq h)
front-done waits n out h = no-some h
front-done known n out h = no-some h
front-done refused n out h = no-some h

module _ (c : CCall) (b out : List ℕ) where
  abbrev effect : Effect
  effect = effect_of c b out []

  pub told : {made : List ℕ} → front_read effect ≡ some made →
      (effect.result.reply.word ≡ done) × (bytes_written effect ≡ made)
  unfolding written_read
  told h =
      let w = front-done (word_of effect) (written_read (number_of effect.result)) effect.output h in
      (sym (word-returned c b out []) ∙ w.0, rw (returned-reads-back c b out []).written_read at w.1)

  pub tells : effect.result.reply.word ≡ done → front_read effect ≡ some (bytes_written effect)
  unfolding written_read
  tells d = rw (word-returned c b out [], d, (returned-reads-back c b out []).written_read)

-- ---- in memory

module _ (r : Replica) (s : State) (m : Means r s) (out : List ℕ) where
  memory_listed : {list : List ℕ} → list_from (in_memory r) out ≡ some list →
      (well_formed s ≡ true) × (list ≡ list_bytes (listing s))
  unfolding list_written list_out list_bytes_of list_checks
  memory_listed h =
      let w = some_written (list_checks (replica_well_formed r)) (list_bytes_of r) out h in (
        sym m.form ∙ not-false (replica_well_formed r) w.0.0,
        w.1 ∙ ap (λ (t : State). list_bytes (listing t)) m.meant,
      )

  memory_answered : (list : List ℕ) {answer : List ℕ} → answer_from (in_memory r) list out ≡ some answer →
      (well_formed s ≡ true) × (answer ≡ concatenated operation_line (answer_for s (list_said list)))
  unfolding answer_written answer_out answer_bytes_of answering_checks answer_checks
  memory_answered list h =
      let w = some_written (answering_checks r list) (answer_bytes_of r list) out h in (
        sym m.form ∙ not-false (replica_well_formed r) w.0.1.1.1.0,
        w.1 ∙ ap (λ (t : State). concatenated operation_line (answer_for t (list_said list))) m.meant,
      )

-- ---- as bytes

saved_in_form : (s : State) → well_formed s ≡ true → InForm (saved_bytes s)
saved_in_form s h =
    record {
      laid_out = saved_laid Second s;
      in-range = in_range-back Second s h (second-says s);
      formed = ap well_formed (saved_loads s h) ∙ h;
    }

-- ---- on a copy

pub listed-is : {s : State} {p : Copy} → Holds s p → (out : List ℕ) {list : List ℕ} → list_from p out ≡ some list →
    (well_formed s ≡ true) × (list ≡ list_bytes (listing s))
listed-is (memory r s m) out h = memory_listed r s m out h
listed-is (bytes s f) out h =
    let t = told wimtaze_list (saved_bytes s) out h in
    let w = (list-writes (saved_bytes s) out t.0).list_written in
    (f, sym t.1 ∙ w ∙ ap (λ (u : State). list_bytes (listing u)) (saved_loads s f))
listed-is nothing out h =
    absurd (false≢true (sym no_bytes ∙ (list_in_form [] out (told wimtaze_list [] out h).0).laid_out))

pub answered_is : {s : State} {p : Copy} → Holds s p → (list out : List ℕ) {answer : List ℕ} →
    answer_from p list out ≡ some answer →
    (well_formed s ≡ true) × (answer ≡ concatenated operation_line (answer_for s (list_said list)))
answered_is (memory r s m) list out h = memory_answered r s m out list h
answered_is (bytes s f) list out h =
    let t = told (wimtaze_answer list) (saved_bytes s) out h in
    let w = (answer-writes (saved_bytes s) list out t.0).lines-written in (
      f,
      sym t.1 ∙ w
          ∙ ap (λ (u : State). concatenated operation_line (answer_for u (list_said list))) (saved_loads s f),
    )
answered_is nothing list out h =
    let d = (told (wimtaze_answer list) [] out h).0 in
    absurd (false≢true (sym no_bytes ∙ (answer_in_form [] list out d).laid_out))

-- ---- into slices of the header's sizes

pub lists : {s : State} {p : Copy} → Holds s p → well_formed s ≡ true → (out : List ℕ) → list_most ≤ length out →
    list_from p out ≡ some (list_bytes (listing s))
unfolding list_written list_out list_bytes_of list_checks site_number within
lists (memory r s m) f out room =
    let same : list_bytes_of r ≡ list_bytes (listing s) = ap (λ (t : State). list_bytes (listing t)) m.meant in
    let fits : length (list_bytes_of r) ≤ length out = omega (arith, ap length same, (list-fits s f).1, room) in
    written-some (list_checks (replica_well_formed r)) (list_bytes_of r) out (ap not (m.form ∙ f), tt) fits ∙ ap some same
lists (bytes s h) f out room =
    let b : List ℕ = saved_bytes s in
    let d = (list_done b out room).1 (saved_in_form s h) in
    let w = (list-writes b out d).list_written in
    tells wimtaze_list b out d
    ∙ ap some (w ∙ ap (λ (u : State). list_bytes (listing u)) (saved_loads s h))
lists nothing f out room = absurd (false≢true (sym (empty-formed 0) ∙ f))

-- what another state in form listed is answered
module _ (asker : State) (g : well_formed asker ≡ true) where
  abbrev list : List ℕ
  list = list_bytes (listing asker)

  pub answers : {s : State} {p : Copy} → Holds s p → well_formed s ≡ true → (out : List ℕ) → answer_most ≤ length out →
      (answer : List ℕ) × (answer_from p list out ≡ some answer)
  unfolding answer_written answer_out answer_bytes_of answering_checks answer_checks site_number within
  answers (memory r s m) f out room =
      let back = list-reads-back (listing asker) in
      let fine = listing-accepted asker g in
      let given : List ℕ = answer_bytes_of r list in
      let same : given ≡ concatenated operation_line (answer_for s (list_said list)) =
      ap (λ (t : State). concatenated operation_line (answer_for t (list_said list))) m.meant in
      let fits : length given ≤ length out = omega (arith, ap length same, answer-short s f (list_said list), room) in
      let ranged = ap not (ap listing_in_range back.1 ∙ fine.0) in
      let right = ap mislisted back.1 ∙ fine.1 in
      let checked : NoneHolds (answering_checks r list) =
      (ap not back.0, (ranged, (right, (ap not (m.form ∙ f), tt)))) in
      (given, written-some (answering_checks r list) given out checked fits)
  answers (bytes s h) f out room =
      let b : List ℕ = saved_bytes s in
      let d = list_answered asker b out g (saved_in_form s h) room in
      (bytes_written (answered_in_c b list out), tells (wimtaze_answer list) b out d)
  answers nothing f out room = absurd (false≢true (sym (empty-formed 0) ∙ f))
