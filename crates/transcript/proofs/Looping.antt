-- The loop of the program prints the output: a replica in form stays so, and then every report and the text have room.
use Rattle.std.proofs.Common.{Ok, Err}
use mathlib.Core.Path.{◌≡◌, ap}
use mathlib.Core.Bool.{true}
use mathlib.Core.List.{List}
use Prim.Native.Nat.{ℕ, zero, suc, ◌+◌, ◌^◌, ◌≤◌, ◌<◌}
use native.Mathlib.Omega.{arith}
use lib.ListN.{length, take, length-take}
use Rattle.woot.specs.declared.Replica.{Replica}
use Rattle.woot.specs.declared.Operation.{Operation}
use Rattle.answers.specs.declared.Answer.{Answer}
use Rattle.woot.specs.State.{initial}
use Rattle.woot.specs.Memory.{meaning, stored, replica_well_formed}
use Rattle.woot.specs.Ranges.{within, site_number}
use Rattle.woot.specs.Form.{well_formed}
use Rattle.answers.specs.Answers.{reply}
use Rattle.woot.specs.Calls.{receive}
use Rattle.woot.specs.Histories.{receiving, outcome}
use Rattle.woot.specs.Replicas.{receipt, received}
use Rattle.convergence.proofs.Kept.{counts_true, counts_bounded}
use Rattle.replica.specs.Theorems.{called}
use Rattle.replica.proofs.Kept.{replicas_formed, empty-replica-formed}
use Rattle.lines.specs.Lines.{rest}
use Rattle.codec.specs.Calls.{Read}
use Rattle.codec.specs.Calls.{read_operation}
use Rattle.replica.proofs.Runs.{form_meant}
use Rattle.transcript.specs.declared.Processed.{Processed}
use Rattle.transcript.specs.Lines.{report_line, text_line}
use Rattle.transcript.specs.Calls.{received_as, received_line, printed_from, whole_output, input_most, hall_output}
use Rattle.transcript.specs.Loop.{report_on, processed, processed_out, front, text_front, loop_from, looped}
use Rattle.transcript.specs.Theorems.{LoopPrints}
use Rattle.transcript.proofs.Sizes.{report_fits, text-fits}
use Rattle.codec.proofs.Answers.{fitted_within}
use Rattle.transcript.proofs.Writers.{front-whole}

-- a length that is answered is within the slice
pub processed-within : (r : Replica) (n : ℕ) (s out : List ℕ) {p : Processed} → p ≡ processed r n s out → {m : ℕ} → p.written ≡ Ok m
    → {after : List ℕ} → after ≡ processed_out r n s out → m ≤ length after
unfolding processed processed_out
processed-within r n s out e q o = fitted_within (report_on r n s) out (ap (λ (p : Processed). p.written) e) q o

-- ---- a line on a replica in form

record Small (a : Answer) : Type 0 where
  carried : (reply a).integrated ≤ 513
  thrown : (reply a).discarded ≤ 512

received-small : (r : Replica) (o : Operation) → replica_well_formed r ≡ true → Small (received r o).answer
unfolding received receipt receive outcome
received-small r o f =
    let s = meaning r in
    let formed : well_formed s ≡ true = form_meant r f in
    let t = counts_true s (receiving o) in
    let b = counts_bounded s (receiving o) in
    rw (f, ← formed) (record { carried = omega (arith, t.0, b.0); thrown = omega (arith, t.1, b.1) })

module _ (r : Replica) (f : replica_well_formed r ≡ true) where
  received_as_small : (a : Read) → Small (received_as r a).answer
  unfolding received_as reply
  received_as_small (Ok o) = received-small r o f
  received_as_small (Err q) = record { carried = omega arith; thrown = omega arith }

  received_as_formed : (a : Read) → replica_well_formed (received_as r a).replica ≡ true
  unfolding received_as called
  received_as_formed (Ok o) = replicas_formed r (receiving o) f
  received_as_formed (Err q) = f

  pub received_line_formed : (s : List ℕ) → replica_well_formed (received_line r s).replica ≡ true
  unfolding received_line
  received_line_formed s = received_as_formed (read_operation s)

  report_room : (n : ℕ) (s : List ℕ) → n < 2 ^ 64 → length (report_on r n s) ≤ 70
  unfolding report_on received_line
  report_room n s h =
      let few = received_as_small (read_operation s) in
      report_fits n (received_line r s).answer h (omega (arith, few.carried)) (omega (arith, few.thrown))

-- ---- the loop

module _ (out last : List ℕ) (room : 70 ≤ length out) (space : 8199 ≤ length last) where
  text-shown : (r : Replica) → replica_well_formed r ≡ true → text_front out last r ≡ text_line (meaning r).characters
  unfolding text_front
  text-shown r f = front-whole (text_line (meaning r).characters) last (omega (arith, text-fits r f))

  line_shown : (r : Replica) (n : ℕ) (s : List ℕ) → replica_well_formed r ≡ true → n < 2 ^ 64
      → front (processed r n s out).written (processed_out r n s out) ≡ report_line n (received_line r s).answer
  unfolding processed processed_out report_on
  line_shown r n s f h = front-whole (report_on r n s) out (omega (arith, report_room r f n s h))

  loop_prints_from : (most n : ℕ) (r : Replica) (s : List ℕ) → replica_well_formed r ≡ true → n + most < 2 ^ 64
      → loop_from out last most n r s ≡ printed_from most n r s
  unfolding loop_from printed_from processed
  loop_prints_from zero n r s f h = text-shown r f
  loop_prints_from (suc most) n r s f h =
      let again : loop_from out last most (n + 1) (received_line r s).replica (rest s) ≡ printed_from most (n + 1) (received_line r s).replica (rest s) = loop_prints_from most (n + 1) (received_line r s).replica (rest s) (received_line_formed r f s) (omega arith) in
      rw (text-shown r f, line_shown r n s f (omega arith), again)

-- the program's replica begins in form
pub begun-formed : replica_well_formed (stored (initial 16)) ≡ true
unfolding site_number within
begun-formed = empty-replica-formed 16

pub loop_prints : LoopPrints
unfolding looped hall_output whole_output
loop_prints out last input room space =
    let s = take input_most input in
    loop_prints_from out last room space (length s) 1 (stored (initial 16)) s begun-formed (omega (arith, length-take input_most input))
