-- For the proofs of the code alone: what the lines of a list that were read come to, and what one line adds to it.
use Rattle.std.specs.Prelude.{ℕ, ◌+◌, ◌*◌, ◌≤◌, min, ◌≡◌, List, [], ◌∷◌, map, true, false, ◌&&◌, not, cond, eqb, ltb, length, get_or}
use Rattle.std.specs.Prelude.{Result, Ok, Err}
use Rattle.std.specs.Int.Count.{ones}
use Rattle.lists.specs.Lists.{any, every}
use Rattle.answers.specs.declared.Refusal.{Refusal}
use Rattle.answers.specs.declared.Refusal.TheVariants.{Layout, Range, Mislisted}
use Rattle.bulk.specs.Catching.{Chunk, Listing, ones_in, in_sequence, marks_zero, chunk_in_range, listing_in_range}
use Rattle.lines.specs.Lines.{lines, closed}
use Rattle.lines.specs.Fields.{fields, has_layout}
use Rattle.chunks.specs.Columns.{chunk_slots, chunk_as, chunks_in}
use Rattle.listing.specs.declared.reading.Summary.{Summary}
use Rattle.decimal.specs.declared.Fault.{Fault}
use Rattle.decimal.specs.declared.Fault.TheVariants.{Above, Malformed}
use Rattle.listing.specs.Format.{list_head, is_chunk, chunk_said, said_by_lines}

-- ---- a line

-- what numbers say, as a first line and as a chunk's
unfoldable pub header_from : List ℕ → Listing
header_from ns = record { site = get_or ns 0 0; total = get_or ns 1 0; chunks = [] }

unfoldable pub chunk_from : List ℕ → Chunk
chunk_from ns = record { site = get_or ns 0 0; index = get_or ns 1 0; word = get_or ns 2 0 }

-- the number that stands for the site and the index of a chunk in memory
unfoldable pub head_for : Chunk → ℕ
head_for k = k.site * 1024 + k.index

-- what a line with the layout of a chunk's is read as
unfoldable pub chunk_read_as : Chunk → Result (ℕ × ℕ) Fault
chunk_read_as k = cond (chunk_in_range k) (Ok (head_for k, k.word)) (Err Above)

unfoldable pub chunk_read : List ℕ → Result (ℕ × ℕ) Fault
chunk_read line = cond (is_chunk line) (chunk_read_as (chunk_said line)) (Err Malformed)

-- ---- what lines come to

unfoldable pub without_layout : Summary
without_layout =
    record {
      laid_out = false;
      in_range = false;
      total = 0;
      sound = false;
      ones = 0;
      last = 0;
      count = 0;
    }

unfoldable pub out_of_range : Summary
out_of_range =
    record {
      laid_out = true;
      in_range = false;
      total = 0;
      sound = false;
      ones = 0;
      last = 0;
      count = 0;
    }

unfoldable pub total_alone : ℕ → Summary
total_alone total =
    record {
      laid_out = true;
      in_range = true;
      total = total;
      sound = true;
      ones = 0;
      last = 0;
      count = 0;
    }

-- a first line with the layout
unfoldable pub header_as : Listing → Summary
header_as l = cond (listing_in_range l) (total_alone l.total) out_of_range

unfoldable pub header_read : List ℕ → Summary
header_read line = cond (has_layout list_head 2 (fields line)) (header_as (said_by_lines (line ∷ []))) without_layout

-- ones are counted no further than to 1,025, which no total is
unfoldable pub ones_and : ℕ → ℕ → ℕ
ones_and n word = min 1025 (n + ones word)

-- one chunk more, by its numbers
unfoldable pub with_chunk : Summary → ℕ → ℕ → Summary
with_chunk t head word =
    record {
      laid_out = true;
      in_range = true;
      total = t.total;
      sound = (t.sound && ltb t.last head) && not (marks_zero (chunk_as head word));
      ones = ones_and t.ones word;
      last = head;
      count = min chunk_slots (t.count + 1);
    }

unfoldable pub and_chunk : Summary → Chunk → Summary
and_chunk t k = cond (t.in_range && chunk_in_range k) (with_chunk t (head_for k) k.word) out_of_range

-- one line more
unfoldable pub and_line : Summary → List ℕ → Summary
and_line t line = cond (is_chunk line) (and_chunk t (chunk_said line)) without_layout

-- all chunks that are left
abbrev pub and_chunks : Summary → List Chunk → Summary
and_chunks t [] = t
and_chunks t (k ∷ ks) = and_chunks (and_chunk t k) ks

-- all bytes that are left
unfoldable pub summary_on : Summary → List ℕ → Summary
summary_on t s = cond (closed s && every is_chunk (lines s)) (and_chunks t (map chunk_said (lines s))) without_layout

-- the arrays hold all chunks, as long as there are slots for them
abbrev pub ChunksKept : List ℕ → List ℕ → List Chunk → Type 0
ChunksKept heads words ks = length ks ≤ chunk_slots → chunks_in heads words (length ks) ≡ ks

-- ---- the end

-- what is answered then
unfoldable pub conclusion : Summary → Result ℕ Refusal
conclusion t =
    cond t.laid_out
    (cond t.in_range
    (cond (t.sound && eqb t.total t.ones) (Ok t.count) (Err Mislisted))
    (Err Range))
    (Err Layout)

-- the head of the last chunk, or n where there is none
abbrev pub last_head : ℕ → List Chunk → ℕ
last_head n [] = n
last_head n (k ∷ ks) = last_head (head_for k) ks

-- what a list says that is in range
unfoldable pub summary_of : Listing → Summary
summary_of l =
    record {
      laid_out = true;
      in_range = true;
      total = l.total;
      sound = not (any marks_zero l.chunks) && in_sequence l.chunks;
      ones = min 1025 (ones_in l.chunks);
      last = last_head 0 l.chunks;
      count = min chunk_slots (length l.chunks);
    }

unfoldable pub summarized : Listing → Summary
summarized l = cond (listing_in_range l) (summary_of l) out_of_range
