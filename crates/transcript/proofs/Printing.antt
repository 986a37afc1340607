-- The output line by line: each line leaves fewer bytes, so there are at most as many lines as bytes.
use mathlib.Core.Path.{◌≡◌, refl, ap}
use mathlib.Core.List.{List, [], ◌∷◌, ◌++◌}
use Prim.Native.Nat.{ℕ, zero, suc, ◌+◌, ◌≤◌, ◌<◌}
use native.Mathlib.Omega.{arith}
use lib.ListN.{length}
use borrow.Author.Tests.{eq-eqb, ne_eqb}
use Rattle.woot.specs.declared.Replica.{Replica}
use Rattle.lines.specs.Lines.{rest}
use Rattle.lines.proofs.Lines.{rest_shorter}
use Rattle.transcript.specs.Lines.{report_line}
use Rattle.transcript.specs.Calls.{received_line, printed_from}
use Rattle.transcript.specs.Theorems.{PrintedByLines}

-- what is allowed for more lines than there are makes no difference
enough : (j k n : ℕ) (r : Replica) (s : List ℕ) → length s ≤ j → length s ≤ k → printed_from j n r s ≡ printed_from k n r s
unfolding printed_from
enough zero zero n r s h g = refl
enough zero (suc k) n r s h g = let none : length s ≡ 0 = omega arith in rw (eq-eqb (length s) 0 none)
enough (suc j) zero n r s h g = let none : length s ≡ 0 = omega arith in rw (eq-eqb (length s) 0 none)
enough (suc j) (suc k) n r [] h g = refl
enough (suc j) (suc k) n r (b ∷ s) h g =
    let less : length (rest (b ∷ s)) < length (b ∷ s) = rest_shorter (b ∷ s) (omega arith) in
    rw (ne_eqb (suc (length s)) 0 (λ e. omega arith))
    (ap (λ (l : List ℕ). report_line n (received_line r (b ∷ s)).answer ++ l) (enough j k (n + 1) (received_line r (b ∷ s)).replica (rest (b ∷ s)) (omega arith) (omega arith)))

pub printed-by-lines : PrintedByLines
unfolding printed_from
printed-by-lines n r = (refl, more)
  where
    more : (s : List ℕ) → 0 < length s → printed_from (length s) n r s ≡ report_line n (received_line r s).answer ++ printed_from (length (rest s)) (n + 1) (received_line r s).replica (rest s)
    more [] h = absurd (omega arith)
    more (b ∷ s) h =
        let less : length (rest (b ∷ s)) < length (b ∷ s) = rest_shorter (b ∷ s) h in
        rw (ne_eqb (suc (length s)) 0 (λ e. omega arith))
        (ap (λ (l : List ℕ). report_line n (received_line r (b ∷ s)).answer ++ l) (enough (length s) (length (rest (b ∷ s))) (n + 1) (received_line r (b ∷ s)).replica (rest (b ∷ s)) (omega arith) (omega arith)))
