-- What a call leaves is told of its whole effect at once, so that an equation of effects carries it over. Each law here
-- says which effect it is once the tests on the way are known.
use Rattle.std.proofs.Common.{Ok, Err, Some, None}
use mathlib.Core.Path.{◌≡◌, refl, sym, ap, ◌∙◌, subst}
use mathlib.Core.Bool.{Bool, true, false, ◌||◌, not, cond}
use mathlib.Core.List.{List, [], ◌∷◌}
use mathlib.Core.Option.{Option, none, some}
use mathlib.Core.Logic.{◌⊎◌, inl, inr}
use Prim.Native.Nat.{ℕ, zero, suc, ◌+◌, ◌≤◌, ◌<◌}
use native.Mathlib.Omega.{arith}
use borrow.Author.Tests.{leb-true, leb-false, lt-ltb, le-ltb}
use lib.Dec.{leb, ltb}
use lib.ListN.{length}
use Rattle.output.specs.Output.{has_room, placed}
use Rattle.woot.specs.declared.Operation.{Operation}
use Rattle.woot.specs.declared.Replica.{Replica}
use Rattle.answers.specs.declared.Refusal.{Refusal}
use Rattle.answers.specs.declared.Refusal.TheVariants.{Form, Output}
use Rattle.answers.specs.declared.Answer.{Answer}
use Rattle.answers.specs.declared.Answer.TheVariants.{Done}
use Rattle.woot.specs.declared.ReceiptAt.{ReceiptAt}
use Rattle.woot.specs.declared.Generated.{Generated}
use Rattle.woot.specs.Writing.{Written}
use Rattle.answers.specs.Answers.{changes, Check, ◌⇒◌, first, decided}
use Rattle.woot.specs.Writing.{refusing, writing_checks, written_as, output_after}
use Rattle.lists.proofs.Tests.{side}
use Rattle.convergence.proofs.Writing.{length-refused, own_first, own-none, too_short, has_room_lem}
use Rattle.lines.specs.Room.{room_for}
use Rattle.cursor.specs.Bits.{shift_bits}
use Rattle.codec.specs.Operations.{operation_line}
use Rattle.woot.specs.Memory.{replica_well_formed}
use Rattle.replica.specs.Texts.{text_of, text_checks, text_written, text_out}
use Rattle.saved.specs.Calls.{bytes_of}
use Rattle.saving.specs.Documents.{lines_in}
use Rattle.effects.specs.Results.{result}
use Rattle.effects.specs.Effects.{Effect, Leaves, quiet, turned, writing_noted, writing, writing_both}
use Rattle.effects.specs.Steps.{after_noting, after_writing, receipt_at_left, sent_left, generated_left, text_left}
use Rattle.effects.specs.Steps.{receipt_at_left, lines_left}
use Rattle.woot.specs.Sent.{sends}

pub leaves_by : {e f : Effect} {r : ℕ} {out line : List ℕ} → e ≡ f → Leaves f r out line → Leaves e r out line
leaves_by {r = r} {out = out} {line = line} p h = subst (λ (x : Effect). Leaves x r out line) (sym p) h

-- a refusal that holds turns the call away
pub turned-away : (out line : List ℕ) {o : Option Refusal} (e : Effect) {q : Refusal} → o ≡ some q → decided (turned out line) o e ≡ turned out line q
unfolding decided
turned-away out line e h = rw h

-- ---- one output

-- the first condition of a writer that holds
abbrev refused_by : Option Refusal → Option Written
refused_by none = none
refused_by (some q) = some (Err q)

by_first : (cs : List (Check Refusal)) → first (refusing cs) ≡ refused_by (first cs)
by_first [] = refl
by_first (c ∷ cs) = go c.holds refl (by_first cs)
  where
    go : (b : Bool) → c.holds ≡ b → first (refusing cs) ≡ refused_by (first cs) → first (refusing (c ∷ cs)) ≡ refused_by (first (c ∷ cs))
    go true e others = rw e
    go false e others = rw e others

first-refusing : (cs : List (Check Refusal)) (o : Option Refusal) → first cs ≡ o → first (refusing cs) ≡ refused_by o
first-refusing cs o h = by_first cs ∙ ap refused_by h

module _ (a : Answer) (note : ℕ) (bytes out : List ℕ) where
  -- what a writer with no condition of its own does
  pub noted_written : writing_noted a note bytes out ≡ record { result = after_noting a note (written_as [] bytes out); output = output_after [] bytes out; line = [] }
  unfolding decided turned quiet written_as output_after writing_checks after_noting
  noted_written = go (ltb (length out) (length bytes))
    where
      go : (b : Bool)
          → decided (turned out []) (first ((b ⇒ Output) ∷ [])) (record { result = result a (length bytes) note; output = placed out 0 bytes; line = [] })
          ≡ record { result = after_noting a note (decided (λ (w : Written). w) (first ((b ⇒ Err Output) ∷ [])) (Ok (length bytes))); output = decided (λ (w : Written). out) (first ((b ⇒ Err Output) ∷ [])) (placed out 0 bytes); line = [] }
      go true = refl
      go false = refl

-- what a writer with conditions of its own does
module _ (cs : List (Check Refusal)) (bytes out : List ℕ) where
  abbrev after_writer : Effect
  after_writer = record { result = after_writing (Done 0 0) (written_as (refusing cs) bytes out); output = output_after (refusing cs) bytes out; line = [] }

  pub checked-written : decided (turned out []) (first cs) (writing (Done 0 0) bytes out) ≡ after_writer
  unfolding decided turned quiet after_writing after_noting writing
  checked-written = go (first cs) refl
    where
      go : (o : Option Refusal) → first cs ≡ o → decided (turned out []) o (writing (Done 0 0) bytes out) ≡ after_writer
      go none h = let w = own-none (refusing cs) bytes out (first-refusing cs none h) in noted_written (Done 0 0) 0 bytes out ∙ rw (w.0, w.1)
      go (some q) h = let w = own_first (refusing cs) (Err q) bytes out (first-refusing cs (some q) h) in rw (w.0, w.1)

-- the text of a replica, by what its writer answers
pub text-written : (r : Replica) (out : List ℕ) → text_left r out ≡ record { result = after_writing (Done 0 0) (text_written r out); output = text_out r out; line = [] }
unfolding text_left text_written text_out text_checks
text-written r out = checked-written ((not (replica_well_formed r) ⇒ Form) ∷ []) (text_of r) out

-- ---- receiving

module _ (x y : ReceiptAt) (e : x ≡ y) (out : List ℕ) where
  pub unchanged : changes x.answer ≡ false → receipt_at_left y out ≡ quiet out [] x.answer
  unfolding receipt_at_left
  unchanged h = rw (← e, h)

  pub changed : changes x.answer ≡ true → (note : ℕ) → note ≡ shift_bits x.shift → receipt_at_left y out ≡ writing_noted x.answer note (bytes_of x.replica) out
  unfolding receipt_at_left
  changed h note f = rw (← e, h, f)

-- ---- sending

until-short : {n : ℕ} → Some n ≡ None → ⊥
until-short e = let z : ◌≡◌ {A = ℕ} 0 1 = cc in omega arith

module _ (a : Answer) (bytes sent out line : List ℕ) where
  -- the two tests on the outputs
  abbrev decided_both : Bool → Bool → Effect
  decided_both b c =
      decided (turned out line) (first ((b || c ⇒ Output) ∷ []))
      (record { result = result a (length bytes) (length sent); output = placed out 0 bytes; line = placed line 0 sent })

  pub line_short : room_for (length line) 0 sent ≡ None → writing_both a bytes sent out line ≡ turned out line Output
  unfolding writing_both decided room_for has_room
  line_short h = go (leb (0 + length sent) (length line)) refl h
    where
      over : (b : Bool) → decided_both b true ≡ turned out line Output
      over true = refl
      over false = refl

      go : (b : Bool) → leb (0 + length sent) (length line) ≡ b → cond b (Some (0 + length sent)) None ≡ None → writing_both a bytes sent out line ≡ turned out line Output
      go true e k = absurd (until-short k)
      go false e k =
          let low : length line < length sent = omega (arith, leb-false (0 + length sent) (length line) e) in
          rw (lt-ltb (length line) (length sent) low) (over (ltb (length out) (length bytes)))

  module _ {m : ℕ} (h : room_for (length line) 0 sent ≡ Some m) where
    -- the line has room, and is so long
    line_room : (ltb (length line) (length sent) ≡ false) × (m ≡ length sent)
    unfolding room_for has_room
    line_room = go (leb (0 + length sent) (length line)) refl h
      where
        go : (b : Bool) → leb (0 + length sent) (length line) ≡ b → cond b (Some (0 + length sent)) None ≡ Some m → (ltb (length line) (length sent) ≡ false) × (m ≡ length sent)
        go true e k =
            let low : length sent ≤ length line = omega (arith, leb-true (0 + length sent) (length line) e) in
            let long : 0 + length sent ≡ m = cc in
            (le-ltb (length line) (length sent) low, omega arith)
        go false e k = absurd (until-short (sym k))

    pub save-refused : {q : Refusal} → written_as [] bytes out ≡ Err q → (writing_both a bytes sent out line ≡ turned out line q) × (output_after [] bytes out ≡ out)
    unfolding writing_both decided
    save-refused {q} k = go (side (length bytes) (length out))
      where
        go : (length bytes ≤ length out) ⊎ (length out < length bytes) → (writing_both a bytes sent out line ≡ turned out line q) × (output_after [] bytes out ≡ out)
        go (inl room) = absurd (length-refused (sym (has_room_lem [] bytes out refl room).0 ∙ k))
        go (inr low) =
            let w = too_short [] bytes out refl low in
            let same : Err Output ≡ Err q = sym w.0 ∙ k in
            let o : Output ≡ q = cc in
            (rw (lt-ltb (length out) (length bytes) low) (ap (turned out line) o), w.1)

    pub both-written : {n : ℕ} → written_as [] bytes out ≡ Ok n
        → writing_both a bytes sent out line ≡ record { result = result a n m; output = output_after [] bytes out; line = placed line 0 sent }
    unfolding writing_both decided
    both-written {n} k = go (side (length bytes) (length out))
      where
        go : (length bytes ≤ length out) ⊎ (length out < length bytes) → writing_both a bytes sent out line ≡ record { result = result a n m; output = output_after [] bytes out; line = placed line 0 sent }
        go (inl room) =
            let w = has_room_lem [] bytes out refl room in
            let same : Ok (length bytes) ≡ Ok n = sym w.0 ∙ k in
            let o : length bytes ≡ n = cc in
            rw (le-ltb (length out) (length bytes) room, line_room.0, ← o, line_room.1, w.1)
        go (inr low) = absurd (length-refused (sym k ∙ (too_short [] bytes out refl low).0))

module _ (g h : Generated) (e : g ≡ h) (out line : List ℕ) where
  pub not-sent : {q : Refusal} → g.answer ≡ Err q → generated_left h out line ≡ turned out line q
  unfolding generated_left sent_left
  not-sent k = rw (← e, k)

  pub sent-both : {o : Operation} {n m : ℕ} → g.answer ≡ sends o n m →
      generated_left h out line ≡ writing_both (Done n m) (bytes_of g.replica) (operation_line o) out line
  unfolding generated_left sent_left
  sent-both k = rw (← e, k)

  -- the same by any name
  pub sent_as : generated_left h out line ≡ generated_left g out line
  sent_as = ap (λ (x : Generated). generated_left x out line) (sym e)

-- ---- sending the lines of a block

module _ (a : Answer) (r : Replica) (typed : List ℕ) (out line : List ℕ) where
  pub none-typed : {count : ℕ} → count ≡ 0 → lines_left a r typed count out line ≡ quiet out line a
  unfolding lines_left
  none-typed h = rw h

  pub some-typed : (count : ℕ) → (count ≡ 0 → ⊥) → lines_left a r typed count out line ≡ writing_both a (bytes_of r) (lines_in typed count) out line
  unfolding lines_left
  some-typed zero h = absurd (h refl)
  some-typed (suc n) h = refl
