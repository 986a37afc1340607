-- `serving::sheets::begin` meets its contract: the number decides first.
use mathlib.Core.Path.{refl, ap, ◌∙◌}
use Prim.Native.Nat.{ℕ}
use borrow.Author.Tests.{le-leb, lt-leb}
use native.Mathlib.Omega.{arith}
use Rattle.woot.specs.Ranges.{within, site_number}
use Rattle.answers.specs.Answers.{decided}
use Rattle.effects.specs.Effects.{quiet, turned}
use Rattle.woot.specs.State.{initial}
use Rattle.saved.specs.Calls.{bytes_of}
use Rattle.c_calls.specs.Steps.{beginning}
use Rattle.woot.specs.Memory.{replica_well_formed}
use Rattle.replica.proofs.Runs.{initial-within}
use Rattle.replica.proofs.Kept.{empty-replica-formed}
use Rattle.c_calls.proofs.Bridging.{stored_bytes}
use borrow.Author.Rules.{rules}
use Rattle.serving.proofs.sheets.begin.Goals as goal

pub returns-then-number-lt1 : goal.returns-then-number-lt1
unfolding beginning site_number within decided turned quiet
returns-then-number-lt1 c =
    let n : ℕ = c.args.number in
    rw (lt-leb 1 n (omega arith)) (c.number_of_refusal.ensures, refl, refl)

pub returns-then-number-gt16 : goal.returns-then-number-gt16
unfolding beginning site_number within decided turned quiet
returns-then-number-gt16 c =
    let n : ℕ = c.args.number in
    rw (le-leb 1 n (omega arith), lt-leb n 16 (omega arith)) (c.number_of_refusal-then-number-gt16.ensures, refl, refl)

pub save-requires : goal.save-requires
unfolding site_number within
save-requires c =
    let n : ℕ = c.args.number in
    ap replica_well_formed c.empty.ensures ∙ empty-replica-formed n ∙ rw (le-leb 1 n (omega arith), le-leb n 16 (omega arith)) refl

pub returns : goal.returns
unfolding beginning site_number within decided
returns c =
    let n : ℕ = c.args.number in
    let bytes = ap bytes_of c.empty.ensures ∙ stored_bytes (initial n) (initial-within n) in
    rw (le-leb 1 n (omega arith), le-leb n 16 (omega arith), ← bytes) c.save.ensures
