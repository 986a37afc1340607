-- The lines of an answer are those of its inserts, and behind them those of its toggles.
use mathlib.Core.Path.{◌≡◌, sym, ap₂, ◌∙◌}
use mathlib.Core.List.{List, ◌++◌}
use Prim.Native.Nat.{ℕ}
use Rattle.lines.specs.Lines.{concatenated}
use Rattle.lines.proofs.Lines.{concatenated-append}
use Rattle.woot.specs.declared.Operation.{Operation}
use Rattle.bulk.specs.Loading.{arrivals, turnings}
use Rattle.woot.specs.Memory.{key_column, previous_column, next_column, code_point_column}
use Rattle.bulk.specs.Catching.{Chunk, listed_in, sent}
use Rattle.convergence.specs.Agreement.{Standing}
use Rattle.codec.specs.Operations.{operation_line}
use Rattle.saving.specs.Documents.{lines_in}
use Rattle.catching.specs.Columns.{TogglesOf}
use Rattle.catching.specs.Sending.{rows_in, SentIn, answer_lines}

pub both-lines : {characters toggles : List ℕ} {n : ℕ} {ks : List Chunk} {sender : ℕ} {inserts turned : List ℕ} {r t :
    ℕ}
    → Standing (rows_in characters toggles n) → SentIn characters n ks inserts r
    → TogglesOf (key_column characters) toggles n sender turned t
    → lines_in inserts r ++ lines_in turned t ≡ answer_lines sender (rows_in characters toggles n) ks
unfolding lines_in answer_lines
both-lines {characters} {toggles} {n} {ks} {sender} s p q =
    ap₂ (λ (os ps : List Operation). concatenated operation_line os ++ concatenated operation_line ps)
    (p.inserts toggles s)
    (q.toggled (previous_column characters) (next_column characters) (code_point_column characters))
    ∙ sym (concatenated-append operation_line (arrivals (sent (listed_in ks) (rows_in characters toggles n)))
    (turnings sender (rows_in characters toggles n)))
