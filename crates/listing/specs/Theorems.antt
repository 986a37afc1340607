-- The promises about lists as bytes, each proved in proofs/ under its name in small letters.
use Rattle.std.specs.Prelude.{ℕ, ◌≤◌, ◌≡◌, ◌↔◌, true, false, List, [], ◌∷◌, ◌++◌, length, Ok}
use Rattle.woot.specs.Limits.{capacity}
use Rattle.woot.specs.State.{State}
use Rattle.woot.specs.Form.{well_formed}
use Rattle.bulk.specs.Catching.{Chunk, Listing, last_index, last_word, listing, chunk_in_range, listing_in_range, mislisted}
use Rattle.lines.specs.Fields.{line_of}
use Rattle.listing.specs.Format.{list_head, list_numbers, chunk_line, list_bytes, list_laid_out, list_said}
use Rattle.listing.specs.Calls.{list_read, list_number}

-- ---- round trips

-- what is written of a listing, in range or not, has the layout of a list, and says that listing
abbrev pub ListReadsBack : Type 0
ListReadsBack = (l : Listing) → (list_laid_out (list_bytes l) ≡ true) × (list_said (list_bytes l) ≡ l)

-- so a listing that meets no condition is accepted as bytes, with all its chunks
abbrev pub ListAccepted : Type 0
ListAccepted =
    (l : Listing) → listing_in_range l ≡ true → mislisted l ≡ false → list_read (list_bytes l) ≡ Ok (length l.chunks)

-- and a list is spelled in one way only: bytes with the layout are what is written of what they say, byte for byte
abbrev pub ListSameBytes : Type 0
ListSameBytes = (s : List ℕ) → list_laid_out s ≡ true → list_bytes (list_said s) ≡ s

-- ---- sizes

-- a line of each kind that is in range, with its line feed
abbrev pub header_most : ℕ
header_most = 10

abbrev pub chunk_most : ℕ
chunk_most = 31

abbrev pub ListLineLengths : Type 0
ListLineLengths =
    ((l : Listing) → listing_in_range l ≡ true → length (line_of list_head (list_numbers l)) ≤ header_most)
    × ((k : Chunk) → chunk_in_range k ≡ true → length (chunk_line k) ≤ chunk_most)

-- and lines that have that many bytes
abbrev pub longest_header : Listing
longest_header = record { site = 16; total = 1024; chunks = [] }

abbrev pub longest_chunk : Chunk
longest_chunk = record { site = 16; index = last_index; word = last_word }

abbrev pub LongestListLines : Type 0
LongestListLines =
    ((listing_in_range longest_header ≡ true) × (length (line_of list_head (list_numbers longest_header)) ≡ header_most))
    × ((chunk_in_range longest_chunk ≡ true) × (length (chunk_line longest_chunk) ≡ chunk_most))

-- the first line and 1,024 others
abbrev pub list_most : ℕ
list_most = 31754

-- no list of what a replica in form holds is longer, nor has it more chunks than there are characters at most
abbrev pub ListFits : Type 0
ListFits =
    (t : State) → well_formed t ≡ true →
    (length (listing t).chunks ≤ capacity) × (length (list_bytes (listing t)) ≤ list_most)

-- nor is any list that is not refused
abbrev pub ListLengths : Type 0
ListLengths = (s : List ℕ) (n : ℕ) → list_read s ≡ Ok n → (n ≤ capacity) × (length s ≤ list_most)

-- ---- refusals, of any bytes

-- by number: 1 where the layout lacks, 2 where it does not and a number is out of range, 18 "after 2", else 0; and what
-- is not refused has as many chunks as are answered
abbrev pub ListNumbers : Type 0
ListNumbers =
    (s : List ℕ) →
    ((list_number (list_read s) ≡ 1) ↔ (list_laid_out s ≡ false))
    × ((list_number (list_read s) ≡ 2) ↔ ((list_laid_out s ≡ true) × (listing_in_range (list_said s) ≡ false)))
    × ((list_number (list_read s) ≡ 18)
    ↔ ((list_laid_out s ≡ true) × (listing_in_range (list_said s) ≡ true) × (mislisted (list_said s) ≡ true)))
    × ((list_number (list_read s) ≡ 0)
    ↔ ((list_laid_out s ≡ true) × (listing_in_range (list_said s) ≡ true) × (mislisted (list_said s) ≡ false)))
    × ((n : ℕ) →
    (list_read s ≡ Ok n)
    ↔ ((list_laid_out s ≡ true) × (listing_in_range (list_said s) ≡ true) × (mislisted (list_said s) ≡ false)
    × (length (list_said s).chunks ≡ n)))

-- ---- some lists

-- `H 3 2`, with tabs for the spaces
abbrev pub example_header : List ℕ
example_header = 72 ∷ 9 ∷ 51 ∷ 9 ∷ 50 ∷ 10 ∷ []

-- `K 1 0 2`, which marks 1/1
abbrev pub example_first : List ℕ
example_first = 75 ∷ 9 ∷ 49 ∷ 9 ∷ 48 ∷ 9 ∷ 50 ∷ 10 ∷ []

-- `K 2 1 1`, which marks 2/64
abbrev pub example_second : List ℕ
example_second = 75 ∷ 9 ∷ 50 ∷ 9 ∷ 49 ∷ 9 ∷ 49 ∷ 10 ∷ []

-- the two in their sequence, as they are written
abbrev pub example_listing : Listing
example_listing =
    record {
      site = 3;
      total = 2;
      chunks = record { site = 1; index = 0; word = 2 } ∷ record { site = 2; index = 1; word = 1 } ∷ [];
    }

abbrev pub ListExample : Type 0
ListExample =
    (list_bytes example_listing ≡ example_header ++ (example_first ++ example_second))
    × (list_read (example_header ++ (example_first ++ example_second)) ≡ Ok 2)

-- no bytes at all, a second `H`, a `K` first, and a last line without its line feed are refused with 1
abbrev pub LayoutExamples : Type 0
LayoutExamples =
    (list_number (list_read []) ≡ 1)
    × (list_number (list_read (example_header ++ (example_header ++ (example_first ++ example_second)))) ≡ 1)
    × (list_number (list_read (example_first ++ (example_header ++ example_second))) ≡ 1)
    × (list_number (list_read (example_header ++ (75 ∷ 9 ∷ 49 ∷ 9 ∷ 48 ∷ 9 ∷ 50 ∷ []))) ≡ 1)

-- `H 0 0`, `H 17 0`, `H 1 1025`, `K 0 0 2`, `K 17 0 2`, `K 1 1024 2` and `K 1 0 0` are out of range, with whatever else
-- the list has to be refused for by 18
abbrev pub RangeExamples : Type 0
RangeExamples =
    (list_number (list_read (72 ∷ 9 ∷ 48 ∷ 9 ∷ 48 ∷ 10 ∷ [])) ≡ 2)
    × (list_number (list_read (72 ∷ 9 ∷ 49 ∷ 55 ∷ 9 ∷ 48 ∷ 10 ∷ [])) ≡ 2)
    × (list_number (list_read (72 ∷ 9 ∷ 49 ∷ 9 ∷ 49 ∷ 48 ∷ 50 ∷ 53 ∷ 10 ∷ [])) ≡ 2)
    × (list_number (list_read (example_header ++ (75 ∷ 9 ∷ 48 ∷ 9 ∷ 48 ∷ 9 ∷ 50 ∷ 10 ∷ []))) ≡ 2)
    × (list_number (list_read (example_header ++ (75 ∷ 9 ∷ 49 ∷ 55 ∷ 9 ∷ 48 ∷ 9 ∷ 50 ∷ 10 ∷ []))) ≡ 2)
    × (list_number (list_read (example_header ++ (75 ∷ 9 ∷ 49 ∷ 9 ∷ 49 ∷ 48 ∷ 50 ∷ 52 ∷ 9 ∷ 50 ∷ 10 ∷ []))) ≡ 2)
    × (list_number (list_read (example_header ++ (75 ∷ 9 ∷ 49 ∷ 9 ∷ 48 ∷ 9 ∷ 48 ∷ 10 ∷ []))) ≡ 2)

-- a word of 64 ones passes, and the number after it is out of range
abbrev pub WholeWord : Type 0
WholeWord =
    (list_read (list_bytes (record {
      site = 1;
      total = 64;
      chunks = record { site = 1; index = 1; word = last_word } ∷ [];
    })) ≡ Ok 1)
    × (chunk_in_range (record { site = 1; index = 1; word = 18446744073709551616 }) ≡ false)

-- a total that differs, clock 0 marked by `K 1 0 3`, the two out of sequence, `K 2 0 2` before `K 1 1 1`, whose index
-- alone rises, and one repeated are refused with 18
abbrev pub MislistedExamples : Type 0
MislistedExamples =
    (list_number (list_read (example_header ++ example_first)) ≡ 18)
    × (list_number (list_read (example_header ++ (75 ∷ 9 ∷ 49 ∷ 9 ∷ 48 ∷ 9 ∷ 51 ∷ 10 ∷ []))) ≡ 18)
    × (list_number (list_read (example_header ++ (example_second ++ example_first))) ≡ 18)
    × (list_number (list_read (example_header
    ++ (75 ∷ 9 ∷ 50 ∷ 9 ∷ 48 ∷ 9 ∷ 50 ∷ 10 ∷ 75 ∷ 9 ∷ 49 ∷ 9 ∷ 49 ∷ 9 ∷ 49 ∷ 10 ∷ []))) ≡ 18)
    × (list_number (list_read (example_header ++ (example_first ++ example_first))) ≡ 18)
