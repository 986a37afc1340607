-- The promises about heaps as bytes, each proved in proofs/ under its name in small letters.
use Rattle.std.specs.Prelude.{ℕ, ◌≤◌, ◌≡◌, true, false, List, [], ◌∷◌, ◌++◌, length, replicate}
use Rattle.lists.specs.Lists.{every}
use Rattle.woot.specs.declared.Operation.{Operation}
use Rattle.bulk.specs.Building.{heap_full, disagreeing}
use Rattle.woot.specs.Limits.{capacity}
use Rattle.woot.specs.Operations.{inserts}
use Rattle.woot.specs.Ranges.{in_range}
use Rattle.lines.specs.Lines.{line_feed, concatenated}
use Rattle.codec.specs.Operations.{operation_line}
use Rattle.codec.specs.Theorems.{example_insert, example_insert_bytes, example_toggle, example_toggle_bytes}
use Rattle.codec.specs.Theorems.{example_delete_bytes, longest_insert, longest_toggle}
use Rattle.heap.specs.Format.{heap_laid_out, heap_said}

-- ---- round trip

-- lines of operations one after another, in range or not, are a heap that says these operations in their order
abbrev pub HeapReadsBack : Type 0
HeapReadsBack =
    (os : List Operation) →
    (heap_laid_out (concatenated operation_line os) ≡ true) × (heap_said (concatenated operation_line os) ≡ os)

-- ---- some heaps

-- an insert, a `D`, which "is read as turn 1", and an `E` are read in their order; no bytes at all are a heap of
-- nothing; an empty line, a last line without its line feed and another letter lack the layout
abbrev pub HeapExamples : Type 0
HeapExamples =
    ((heap_laid_out (example_insert_bytes ++ (example_delete_bytes ++ example_toggle_bytes)) ≡ true)
    × (heap_said (example_insert_bytes ++ (example_delete_bytes ++ example_toggle_bytes))
    ≡ example_insert ∷ example_toggle 1 ∷ example_toggle 5 ∷ []))
    × ((heap_laid_out [] ≡ true) × (heap_said [] ≡ []))
    × (heap_laid_out (example_insert_bytes ++ (line_feed ∷ [])) ≡ false)
    × (heap_laid_out (example_insert_bytes ++ (68 ∷ 9 ∷ 54 ∷ 9 ∷ 52 ∷ 9 ∷ 57 ∷ [])) ≡ false)
    × (heap_laid_out (70 ∷ 9 ∷ 54 ∷ 9 ∷ 52 ∷ 9 ∷ 57 ∷ line_feed ∷ []) ≡ false)

-- ---- sizes

-- 1,024 lines of 37 bytes and 1,024 of 18
abbrev pub heap_most : ℕ
heap_most = 56320

-- a heap that is not refused with 1, 2 or 17 is not longer
abbrev pub HeapLengths : Type 0
HeapLengths =
    (s : List ℕ) → heap_laid_out s ≡ true → every in_range (heap_said s) ≡ true → heap_full (heap_said s) ≡ false →
    length s ≤ heap_most

-- and one that is not refused at all, by which each line says the same, has that many
abbrev pub longest_heap : List Operation
longest_heap = replicate capacity longest_insert ++ replicate capacity longest_toggle

abbrev pub LongestHeap : Type 0
LongestHeap =
    (length (concatenated operation_line longest_heap) ≡ heap_most)
    × (every in_range longest_heap ≡ true)
    × (heap_full longest_heap ≡ false)
    × (disagreeing (inserts longest_heap) ≡ false)
