-- `counts::count_sender` meets its contract. The loop's invariant: the count, with what is left to count, is all.
use native.Mathlib.Omega.{arith}
use Rattle.pending.proofs.Searches.{sent-counted, sent-passed, sent-none}
use Rattle.pending.proofs.counts.count_sender.Goals.{then-sender_of-sender, else-sender_of-sender}
use Rattle.pending.proofs.counts.count_sender.Goals as goal

pub loop-i-init : goal.loop-i-init
loop-i-init c = (omega arith, omega arith)

pub loop-i-preserved : goal.loop-i-preserved
loop-i-preserved c =
    let a = c.args in
    let l = c.loop-i in
    let e = c.sender_of.ensures in
    elim c.if-sender_of-sender.branch [
      | then-sender_of-sender w ↦ (
        omega arith,
        omega
            (arith, sent-counted a.own.now a.values.now l.i _ a.sender (omega arith) (omega arith) e (omega (arith, w.if-sender_of-sender.true))),
      )
      | else-sender_of-sender w ↦ (
        omega arith,
        omega
            (arith, sent-passed a.own.now a.values.now l.i _ a.sender (omega arith) (omega arith) e (λ h. omega (arith, w.if-sender_of-sender.false, h))),
      )
    ]

pub returns : goal.returns
returns c =
    let a = c.args in
    omega (arith, sent-none a.sender a.own.now a.values.now c.loop-i.i (omega arith))
