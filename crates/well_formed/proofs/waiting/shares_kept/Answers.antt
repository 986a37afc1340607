-- `waiting::shares_kept` meets its contract. The loop's invariant: the sites before this one are within their shares.
use borrow.Author.Tests.{lt-leb, le-leb}
use Rattle.woot.specs.Limits.{last_site}
use Prim.Native.Nat.{◌-◌}
use native.Mathlib.Omega.{arith}
use mathlib.Core.Path.{◌≡◌, refl, sym}
use Rattle.well_formed.specs.PendingForm.{sender_within, shares_in}
use Rattle.well_formed.proofs.Counting.{numbers_more, numbers_fail}
use Rattle.well_formed.proofs.waiting.shares_kept.Goals as goal

pub loop-site-init : goal.loop-site-init
loop-site-init c = (omega arith, refl)

pub returns-then-count_sender-gt32 : goal.returns-then-count_sender-gt32
unfolding shares_in
returns-then-count_sender-gt32 c =
    let a = c.args in
    let l = c.loop-site in
    sym (numbers_fail (sender_within a.own.now a.values.now) last_site l.site l.invariant.0 (omega arith)
    (rw (← c.count_sender.ensures) (lt-leb _ _ c.if-count_sender-gt32.true)))

pub loop-site-preserved : goal.loop-site-preserved
loop-site-preserved c =
    let a = c.args in
    let l = c.loop-site in (
      omega arith,
      numbers_more (sender_within a.own.now a.values.now) l.site l.invariant.0 l.invariant.1
          (rw (← c.count_sender.ensures) (le-leb _ _ c.if-count_sender-gt32.false)),
    )

pub returns : goal.returns
unfolding shares_in
returns c =
    let l = c.loop-site in
    let done : l.site - 1 ≡ 16 = omega arith in
    sym (rw done at l.invariant.1)
