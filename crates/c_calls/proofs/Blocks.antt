-- What pasting sends: as many inserts as the block has characters, each in range, so that their lines are no longer than
-- the header says and are read back from columns.
use Prim.Native.Nat.{ℕ, ◌+◌, ◌*◌, ◌≤◌}
use native.Mathlib.Omega.{arith}
use mathlib.Core.Path.{◌≡◌, refl, ap, ◌∙◌}
use mathlib.Core.Bool.{true, false, true≢false}
use mathlib.Core.Option.{Option, none, some}
use mathlib.Core.List.{List, [], ◌∷◌, map}
use lib.ListN.{length, length-append}
use borrow.Author.Tests.{ltb-false}
use Rattle.lists.specs.Lists.{every, missing}
use Rattle.lists.proofs.Tests.{and_left_lem, and_right}
use Rattle.decoding.specs.Decoding.{encodings, decoded}
use Rattle.decoding.specs.Theorems.{Encodes}
use Rattle.decoding.proofs.Decoding.{decoded_exactly}
use Rattle.woot.specs.declared.Operation.{Operation}
use Rattle.woot.specs.declared.Operation.TheVariants.{Insert as insert, Toggle as toggle}
use Rattle.woot.specs.Limits.{capacity}
use Rattle.woot.specs.Operations.{inserts}
use Rattle.woot.specs.Ranges.{in_range}
use Rattle.woot.specs.State.{State}
use Rattle.woot.specs.Form.{present_inserts, well_formed}
use Rattle.answers.specs.Answers.{done, reply, NoneHolds}
use Rattle.woot.specs.Sending.{sent_operation}
use Rattle.woot.specs.Calls.{generated_insert, local_insert}
use Rattle.bulk.specs.Pasting.{or_nothing, code_points_of, overfull, paste_checks, paste}
use Rattle.convergence.specs.Pasting.{sent_typing}
use Rattle.convergence.proofs.Sending.{sent_in_range}
use Rattle.convergence.proofs.Typings.{state_after, gap_then}
use Rattle.convergence.proofs.Replies.{insert-sends}
use Rattle.convergence.proofs.Pasting.{paste_does, paste-sends}
use Rattle.lines.specs.Lines.{concatenated}
use Rattle.codec.specs.Operations.{operation_line}
use Rattle.codec.specs.Theorems.{insert_most}
use Rattle.codec.proofs.Sizes.{line_lengths}
use Rattle.c_calls.specs.Theorems.{lines_most}

-- ---- the lines

pub line-few : (o : Operation) → in_range o ≡ true → length (operation_line o) ≤ insert_most
line-few (insert i) r = line_lengths.0 i r
line-few (toggle t) r = omega (arith, line_lengths.1 t r)

lines-within : (os : List Operation) → every in_range os ≡ true → length (concatenated operation_line os) ≤ insert_most * length os
lines-within [] r = omega arith
lines-within (o ∷ os) r =
    omega (
      arith,
      length-append (operation_line o) (concatenated operation_line os),
      line-few o (and_left_lem (in_range o) (every in_range os) r),
      lines-within os (and_right (in_range o) (every in_range os) r),
    )

inserted : (s : State) (g n : ℕ) (o : Operation) → sent_operation (local_insert s g n).answer ≡ some o → insert (generated_insert s g n) ≡ o
unfolding local_insert
inserted s g n o e = ((insert-sends (well_formed s) s g n o).0 e).1

-- what typing characters one after another sends is inserts, and in range
typed_ranged : (s : State) (g : ℕ) (ns : List ℕ) (os : List Operation) → map some os ≡ sent_typing s g ns →
    (every in_range os ≡ true) × (map insert (inserts os) ≡ os)
typed_ranged s g ns [] e = (refl, refl)
typed_ranged s g [] (o ∷ os) e = absurd (let z : ◌≡◌ {A = ℕ} 0 1 = cc in omega arith)
typed_ranged s g (n ∷ ns) (o ∷ os) e =
    let now : sent_operation (local_insert s g n).answer ≡ some o = cc in
    let later : map some os ≡ sent_typing (state_after s g n) (gap_then s g n) ns = cc in
    let w = typed_ranged (state_after s g n) (gap_then s g n) ns os later in
    (rw (sent_in_range.0 s g n o now) w.0, rw (← inserted s g n o now) (ap (λ (l : List Operation). insert (generated_insert s g n) ∷ l) w.1))

-- ---- pasting that is done

-- a block is read as the characters that are typed
pub read_as_lem : (block : List ℕ) → missing (decoded block) ≡ false → Encodes block (code_points_of block)
unfolding code_points_of
read_as_lem block h = go (decoded block) refl h
  where
    go : (m : Option (List ℕ)) → decoded block ≡ m → missing m ≡ false → Encodes block (or_nothing m)
    go none e k = absurd (true≢false k)
    go (some ns) e k = (decoded_exactly block ns).0 e

module _ (s : State) (g : ℕ) (block : List ℕ) (w : NoneHolds (paste_checks (well_formed s) s g block)) where
  abbrev points : List ℕ
  points = code_points_of block

  encodes : Encodes block points
  unfolding paste_checks
  encodes = read_as_lem block w.0

  pub pasting_done : (reply (paste s g block).answer).word ≡ done
  unfolding paste
  pasting_done = (paste_does (well_formed s) s g block).1 w

  abbrev own : List Operation
  own = (paste s g block).own

  own_many : length own ≡ length points
  own_many = (paste-sends s g block points encodes pasting_done).2

  pub own-few : length own ≤ capacity
  unfolding paste_checks overfull
  own-few = omega (arith, own_many, ltb-false capacity (length (present_inserts s) + length points) w.1.1.1.1.0)

  pub own-inserts : (every in_range own ≡ true) × (map insert (inserts own) ≡ own)
  own-inserts = typed_ranged s g points own (paste-sends s g block points encodes pasting_done).0

  -- of a block that is not empty something is sent
  pub own-some : (block ≡ [] → ⊥) → own ≡ [] → ⊥
  own-some k e = k (encodes.1 ∙ ap encodings (no-points points (omega (arith, own_many, ap length e))))
    where
      no-points : (ns : List ℕ) → length ns ≡ 0 → ns ≡ []
      no-points [] h = refl
      no-points (n ∷ ns) h = absurd (omega arith)

  pub lines-short : length (concatenated operation_line own) ≤ lines_most
  lines-short = omega (arith, lines-within own own-inserts.0, own-few)
