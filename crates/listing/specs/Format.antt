-- Document 02, Req 09: a list as bytes.
use Rattle.std.specs.Prelude.{ℕ, List, [], ◌∷◌, ◌++◌, map, Bool, false, ◌&&◌, get_or}
use Rattle.lists.specs.Lists.{every}
use Rattle.lines.specs.Lines.{lines, closed, concatenated}
use Rattle.lines.specs.Fields.{fields, has_layout, values_of, line_of}
use Rattle.woot.specs.Limits.{last_site, capacity}
use Rattle.bulk.specs.Catching.{Chunk, Listing, last_index, last_word}

-- `H`
abbrev pub list_head : List ℕ
list_head = 72 ∷ []

-- `K`
abbrev pub chunk_head : List ℕ
chunk_head = 75 ∷ []

-- "`H` laptop total"
unfoldable pub list_numbers : Listing → List ℕ
list_numbers l = l.site ∷ l.total ∷ []

-- the limits of those numbers
abbrev pub list_limits : List ℕ
list_limits = last_site ∷ capacity ∷ []

-- "`K` laptop index word"
unfoldable pub chunk_numbers : Chunk → List ℕ
chunk_numbers k = k.site ∷ k.index ∷ k.word ∷ []

-- the limits of those numbers
abbrev pub chunk_limits : List ℕ
chunk_limits = last_site ∷ last_index ∷ last_word ∷ []

-- ---- written

-- the line of a chunk, with its line feed
unfoldable pub chunk_line : Chunk → List ℕ
chunk_line k = line_of chunk_head (chunk_numbers k)

-- "first `H` laptop total, with its own number, then `K` laptop index word for each nonzero word"
unfoldable pub list_bytes : Listing → List ℕ
list_bytes l = line_of list_head (list_numbers l) ++ concatenated chunk_line l.chunks

-- ---- read

-- a line without its line feed is that of a chunk
unfoldable pub is_chunk : List ℕ → Bool
is_chunk line = has_layout chunk_head 3 (fields line)

-- exactly one `H` line, which is the first; a list has one at least
unfoldable pub are_list_lines : List (List ℕ) → Bool
are_list_lines [] = false
are_list_lines (h ∷ ks) = has_layout list_head 2 (fields h) && every is_chunk ks

-- what condition 1 lets pass: a line feed ends each line
unfoldable pub list_laid_out : List ℕ → Bool
list_laid_out s = closed s && are_list_lines (lines s)

-- what the numbers of a chunk's line say
unfoldable pub chunk_said : List ℕ → Chunk
chunk_said line =
    let ns : List ℕ = values_of (fields line) in
    record { site = get_or ns 0 0; index = get_or ns 1 0; word = get_or ns 2 0 }

-- what lines with the layout of a list say, whatever numbers they have
unfoldable pub said_by_lines : List (List ℕ) → Listing
said_by_lines [] = record { site = 0; total = 0; chunks = [] }
said_by_lines (h ∷ ks) =
    let ns : List ℕ = values_of (fields h) in
    record { site = get_or ns 0 0; total = get_or ns 1 0; chunks = map chunk_said ks }

-- what a list says
unfoldable pub list_said : List ℕ → Listing
list_said s = said_by_lines (lines s)
