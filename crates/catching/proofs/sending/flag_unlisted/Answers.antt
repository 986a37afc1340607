-- `sending::flag_unlisted` meets its contract. The loop's invariant: the first i rows have their flags.
use Prim.Native.Nat.{ℕ, ◌≤◌}
use native.Mathlib.Omega.{arith}
use mathlib.Core.Path.{◌≡◌, refl, subst}
use mathlib.Core.Logic.{⊎_elim}
use lib.ListN.{length}
use Rattle.lists.proofs.Tests.{failed, passed}
use Rattle.chunks.specs.Columns.{chunks_in}
use Rattle.catching.specs.Sending.{FlagsUnlisted}
use Rattle.catching.proofs.Flagging.{none_flagged, one-listed, one-unlisted}
use Rattle.catching.proofs.sending.flag_unlisted.Goals.{then-not-listed, else-not-listed}
use Rattle.catching.proofs.sending.flag_unlisted.Goals as goal

pub loop-i-init : goal.loop-i-init
loop-i-init c = (omega arith, none_flagged _ _ _ _ refl c.requires.by_index)

pub listed-requires : goal.listed-requires
listed-requires c =
    record {
      n_in_bounds = c.requires.count_in_bounds;
      n_in_bounds_2 = c.requires.count_in_bounds_2;
      n_value = c.requires.count_value;
    }

pub bounds-left-i : goal.bounds-left-i
bounds-left-i c =
    let l = c.loop-i in
    omega (arith, c.requires.ids_in_bounds, l.invariant.1.size-kept)

pub loop-i-preserved : goal.loop-i-preserved
loop-i-preserved c =
    let l = c.loop-i in (
      omega arith,
      elim c.if-not-listed.branch [
        | then-not-listed w ↦
            one-unlisted _ _ _ l.invariant.1 (omega (arith, c.requires.ids_in_bounds))
            (failed c.listed.ensures w.if-not-listed.true-raw) w.left-is
        | else-not-listed w ↦
            one-listed _ _ _ l.invariant.1 (passed c.listed.ensures w.if-not-listed.false-raw) w.left-is
      ],
    )

pub shape_of-left : goal.shape_of-left
shape_of-left c = c.loop-i.invariant.1.size-kept

pub returns : goal.returns
returns c =
    let l = c.loop-i in
    let a = c.args in
    let done : l.i ≡ length a.ids.now = omega arith in
    subst (λ (n : ℕ). FlagsUnlisted a.ids.now (chunks_in a.heads.now a.words.now a.count)
    (length a.left.now) n l.left) done l.invariant.1
