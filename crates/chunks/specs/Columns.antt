-- Chunks of a list in two arrays: what the numbers stand for.
use Rattle.std.specs.Prelude.{ℕ, ◌/◌, ◌%◌, List, get_or}
use Rattle.woot.specs.Memory.{each}
use Rattle.bulk.specs.Catching.{Chunk}

-- how many chunks the arrays have slots for: each marks an identifier, and 1,024 are the most that may be listed
abbrev pub chunk_slots : ℕ
chunk_slots = 1024

-- the chunk with these numbers: its head is 1,024 times the site and the index beside it, which is the key of each
-- identifier that it speaks of, divided by 64
unfoldable pub chunk_as : ℕ → ℕ → Chunk
chunk_as head word = record { site = head / 1024; index = head % 1024; word = word }

-- those in the first n slots
unfoldable pub chunks_in : List ℕ → List ℕ → ℕ → List Chunk
chunks_in heads words n = each (λ i. chunk_as (get_or heads i 0) (get_or words i 0)) n
