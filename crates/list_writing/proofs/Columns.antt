-- The chunks that the arrays hold: how many they are, and the line of each.
use Prim.Native.Nat.{ℕ, ◌<◌}
use native.Mathlib.Omega.{arith}
use mathlib.Core.Path.{◌≡◌, sym, ap, ◌∙◌}
use mathlib.Core.List.{List}
use lib.ListN.{length, take, get_or}
use lib.Seq.{take_all}
use Rattle.lines.specs.Lines.{concatenated}
use Rattle.lines.specs.Fields.{line_of}
use Rattle.bulk.specs.Catching.{Chunk}
use Rattle.memory.proofs.Characters.{each-length, each_at}
use Rattle.chunks.specs.Columns.{chunk_as, chunks_in}
use Rattle.listing.specs.Format.{chunk_head, chunk_numbers, chunk_line}

-- what stands past the end of them
abbrev pub no_chunk : Chunk
no_chunk = record { site = 0; index = 0; word = 0 }

module _ (hs ws : List ℕ) (n : ℕ) where
  pub many_chunks : length (chunks_in hs ws n) ≡ n
  unfolding chunks_in
  many_chunks = each-length (λ i. chunk_as (get_or hs i 0) (get_or ws i 0)) n

  pub all-chunks : concatenated chunk_line (take n (chunks_in hs ws n)) ≡ concatenated chunk_line (chunks_in hs ws n)
  all-chunks = ap (concatenated chunk_line) (take_all n (chunks_in hs ws n) (omega (arith, many_chunks)))

  pub line_at : (i : ℕ) → i < n → {ns : List ℕ} → ns ≡ chunk_numbers (chunk_as (get_or hs i 0) (get_or ws i 0))
      → line_of chunk_head ns ≡ chunk_line (get_or (chunks_in hs ws n) i no_chunk)
  unfolding chunks_in chunk_line
  line_at i h e =
      ap (line_of chunk_head) e
      ∙ ap chunk_line (sym (each_at (λ j. chunk_as (get_or hs j 0) (get_or ws j 0)) n i no_chunk h))
