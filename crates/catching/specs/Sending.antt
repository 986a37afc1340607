-- For the proofs of the code alone: the rows that are not listed, and the inserts that are sent.
use Rattle.std.specs.Prelude.{ℕ, ◌≤◌, ◌<◌, ◌≡◌, not, List, ◌++◌, map, length, take, get_or}
use Rattle.lines.specs.Lines.{concatenated}
use Rattle.woot.specs.declared.Character.{Character}
use Rattle.bulk.specs.Loading.{arrivals, turnings}
use Rattle.woot.specs.Memory.{character_numbers, identifier, characters_of, key_column, previous_column, next_column}
use Rattle.woot.specs.Memory.{code_point_column}
use Rattle.bulk.specs.Catching.{Chunk, Listing, listed_in, chunks_of, sent}
use Rattle.convergence.specs.Agreement.{Standing}
use Rattle.codec.specs.Operations.{operation_line}
use Rattle.sequencing.specs.Steps.{row_left, RowsAlone}
use Rattle.saving.specs.Documents.{operations_among}

-- so many flags, of which the first n rows have those that say whether they are not listed, and no other place has one
pub record FlagsUnlisted (ids : List ℕ) (ks : List Chunk) (size n : ℕ) (flags : List ℕ) : Type 0 where
  pub size-kept : length flags ≡ size
  pub alone : RowsAlone flags n
  pub unlisted : (k : ℕ) → k < n → row_left flags k ≡ not (listed_in ks (identifier (get_or ids k 0)))

-- the characters in the first n slots of four columns, with these counts of toggles
abbrev pub rows_in : List ℕ → List ℕ → ℕ → List Character
rows_in characters toggles n =
    characters_of (key_column characters) (previous_column characters) (next_column characters)
    (code_point_column characters) toggles n

-- the columns hold the inserts that are sent of them to who has listed the others
pub record SentIn (characters : List ℕ) (n : ℕ) (ks : List Chunk) (numbers : List ℕ) (r : ℕ) : Type 0 where
  pub size : length numbers ≡ character_numbers
  pub few : r ≤ n
  pub inserts : (toggles : List ℕ) → Standing (rows_in characters toggles n)
      → operations_among numbers r ≡ arrivals (sent (listed_in ks) (rows_in characters toggles n))

-- the lines of the answer of a site with these characters to who has listed the chunks
unfoldable pub answer_lines : ℕ → List Character → List Chunk → List ℕ
answer_lines sender cs ks = concatenated operation_line (arrivals (sent (listed_in ks) cs) ++ turnings sender cs)

-- ---- listing

-- the list of a site's first n rows
abbrev pub list_of : ℕ → ℕ → List ℕ → Listing
list_of number n characters =
    record { site = number; total = n; chunks = chunks_of (map identifier (take n (key_column characters))) }
