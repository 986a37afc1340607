-- What is known of a block is what the rule says of it: its checks, in their order, on the numbers of the replica.
use Prim.Native.Nat.{ℕ, ◌+◌, ◌≤◌, ◌<◌}
use native.Mathlib.Omega.{arith}
use mathlib.Core.Path.{◌≡◌, refl, sym, ap, ◌∙◌}
use mathlib.Core.Bool.{Bool, true, false, not}
use mathlib.Core.Option.{none, some}
use mathlib.Core.List.{List, [], ◌∷◌}
use borrow.Author.Tests.{lt-ltb, le-ltb, ltb-false}
use lib.Dec.{ltb, eqb}
use lib.ListN.{length, take}
use Rattle.lists.specs.Lists.{keep}
use Rattle.decoding.specs.Decoding.{decoded}
use Rattle.woot.specs.declared.Character.{Character}
use Rattle.answers.specs.declared.Refusal.TheVariants.{NotUtf8, Form, Position, Clock, Unplaceable, DocumentFull}
use Rattle.answers.specs.declared.Answer.{Answer}
use Rattle.answers.specs.declared.Answer.TheVariants.{Done, Refused}
use Rattle.woot.specs.Limits.{last_clock, capacity}
use Rattle.woot.specs.Operations.{inserts}
use Rattle.woot.specs.State.{State}
use Rattle.woot.specs.Form.{present_inserts}
use Rattle.answers.specs.Answers.{decided}
use Rattle.woot.specs.Calls.{visibles, beyond_visible}
use Rattle.woot.specs.Memory.{toggle_counts}
use Rattle.bulk.specs.Pasting.{code_points_of, typings, stopped, unpasted, pasted, clock_short, overfull, paste_checks, paste_when}
use Rattle.memory.specs.Columns.{Replica, meaning, replica_well_formed}
use Rattle.convergence.proofs.Forms.{known-length}
use Rattle.pending.proofs.Pending.{count-own}
use Rattle.well_formed.specs.Examined.{Examined}
use Rattle.well_formed.proofs.Examining.{keyed, characters-counted, toggles_used, own_used}
use Rattle.block_judging.specs.declared.Judged.{Judged}
use Rattle.block_judging.specs.declared.Judged.TheVariants.{Answered, Enough}
use Rattle.block_judging.specs.Steps.{Spacious, BlockJudged}

-- ---- the rule, by the conditions of its list

pub not_utf8 : (formed : Bool) (s : State) (g : ℕ) (block : List ℕ) → decoded block ≡ none → paste_when formed s g block ≡ unpasted s (Refused NotUtf8)
unfolding paste_when paste_checks decided
not_utf8 formed s g block e = rw e

unstopped : (s : State) → stopped s [] ≡ false
unfolding stopped
unstopped s = refl

none-pasted : (s : State) → pasted s [] ≡ unpasted s (Done 0 0)
unfolding pasted unpasted
none-pasted s = refl

module _ (s : State) (g : ℕ) (block ns : List ℕ) (read : decoded block ≡ some ns) where
  unformed : paste_when false s g block ≡ unpasted s (Refused Form)
  unfolding paste_when paste_checks decided
  unformed = rw read

  beyond : beyond_visible s g ≡ true → paste_when true s g block ≡ unpasted s (Refused Position)
  unfolding paste_when paste_checks decided
  beyond e = rw (read, e)

  module _ (visible : beyond_visible s g ≡ false) where
    late : clock_short s (length ns) ≡ true → paste_when true s g block ≡ unpasted s (Refused Clock)
    unfolding paste_when paste_checks decided code_points_of
    late e = rw (read, visible, e)

    module _ (early : clock_short s (length ns) ≡ false) where
      full : overfull s (length ns) ≡ true → paste_when true s g block ≡ unpasted s (Refused DocumentFull)
      unfolding paste_when paste_checks decided code_points_of
      full e = rw (read, visible, early, e)

      module _ (roomy : overfull s (length ns) ≡ false) where
        pub nowhere : stopped s (typings s g ns) ≡ true → paste_when true s g block ≡ unpasted s (Refused Unplaceable)
        unfolding paste_when paste_checks decided code_points_of
        nowhere e = rw (read, visible, early, roomy, e)

        pub everything : stopped s (typings s g ns) ≡ false → paste_when true s g block ≡ pasted s (typings s g ns)
        unfolding paste_when paste_checks decided code_points_of
        everything e = rw (read, visible, early, roomy, e)

        -- an empty block
        nothing : length ns ≡ 0 → paste_when true s g block ≡ unpasted s (Done 0 0)
        nothing e = go ns e (everything)
          where
            go : (ms : List ℕ) → length ms ≡ 0 → (stopped s (typings s g ms) ≡ false → paste_when true s g block ≡ pasted s (typings s g ms))
                → paste_when true s g block ≡ unpasted s (Done 0 0)
            go [] h f = f (unstopped s) ∙ none-pasted s
            go (m ∷ ms) h f = absurd (omega arith)

-- ---- by the replica

module _ (r : Replica) (g count : ℕ) where
  pub judged_unformed : replica_well_formed r ≡ false → BlockJudged r g count (Answered (Refused Form))
  unfolding BlockJudged
  judged_unformed e block ns read many = rw e (unformed (meaning r) g block ns read)

  module _ (x : Examined r) where
    module _ {shown : ℕ} (e : (cs : List Character) → toggle_counts cs ≡ take r.document.length r.document.toggles → shown ≡ length (visibles cs)) where
      counted : shown ≡ length (visibles (meaning r).characters)
      counted = e (meaning r).characters (sym (toggles_used r x))

      pub judged_beyond : shown < g → BlockJudged r g count (Answered (Refused Position))
      unfolding BlockJudged beyond_visible
      judged_beyond h block ns read many =
          rw x.form (beyond (meaning r) g block ns read (rw (← counted) (lt-ltb shown g h)))

      pub seen : g ≤ shown → beyond_visible (meaning r) g ≡ false
      unfolding beyond_visible
      seen h = rw (← counted) (le-ltb shown g h)

    -- the characters and the pending inserts
    abbrev waiting : ℕ
    waiting = length (keep (λ k. not (eqb k 0)) (take r.document.waiting r.document.own))

    waiting-are : waiting ≡ length (inserts (meaning r).pending)
    waiting-are = rw (own_used r x) (count-own (meaning r).pending (keyed r x))

    present-are : r.document.length + waiting ≡ length (present_inserts (meaning r))
    present-are = omega (arith, waiting-are, characters-counted r x, known-length (meaning r))

    module _ (visible : beyond_visible (meaning r) g ≡ false) where
      clock_told : clock_short (meaning r) count ≡ ltb last_clock (r.site.clock + count)
      unfolding clock_short meaning
      clock_told = refl

      pub judged_late : ltb last_clock (r.site.clock + count) ≡ true → BlockJudged r g count (Answered (Refused Clock))
      unfolding BlockJudged
      judged_late h block ns read many =
          rw x.form (late (meaning r) g block ns read visible (ap (clock_short (meaning r)) (sym many) ∙ clock_told ∙ h))

      module _ (early : ltb last_clock (r.site.clock + count) ≡ false) where
        full-told : overfull (meaning r) count ≡ ltb capacity (r.document.length + waiting + count)
        unfolding overfull
        full-told = ap (λ (m : ℕ). ltb capacity (m + count)) (sym present-are)

        pub judged-full : ltb capacity (r.document.length + waiting + count) ≡ true → BlockJudged r g count (Answered (Refused DocumentFull))
        unfolding BlockJudged
        judged-full h block ns read many =
            rw x.form
            (full (meaning r) g block ns read visible (ap (clock_short (meaning r)) (sym many) ∙ clock_told ∙ early)
            (ap (overfull (meaning r)) (sym many) ∙ full-told ∙ h))

        module _ (roomy : ltb capacity (r.document.length + waiting + count) ≡ false) where
          pub judged-empty : count ≡ 0 → BlockJudged r g count (Answered (Done 0 0))
          unfolding BlockJudged
          judged-empty h block ns read many =
              rw x.form
              (nothing (meaning r) g block ns read visible (ap (clock_short (meaning r)) (sym many) ∙ clock_told ∙ early)
              (ap (overfull (meaning r)) (sym many) ∙ full-told ∙ roomy) (sym many ∙ h))

          pub judged-enough : (count ≡ 0 → ⊥) → BlockJudged r g count Enough
          unfolding BlockJudged
          judged-enough h = (
            omega (arith, h),
            record {
              form = x.form;
              gap = visible;
              clock = ltb-false last_clock (r.site.clock + count) early;
              space = omega (arith, ltb-false capacity (r.document.length + waiting + count) roomy, waiting-are, characters-counted r x);
            },
          )

-- ---- what was told

module _ (r : Replica) (g count : ℕ) {j : Judged} (w : BlockJudged r g count j) where
  pub told-answer : {a : Answer} → j ≡ Answered a → (block ns : List ℕ) → decoded block ≡ some ns → count ≡ length ns
      → paste_when (replica_well_formed r) (meaning r) g block ≡ unpasted (meaning r) a
  unfolding BlockJudged
  told-answer e = rw e at w

  pub told-enough : j ≡ Enough → (0 < count) × Spacious r g count
  unfolding BlockJudged
  told-enough e = rw e at w
