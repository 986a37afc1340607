-- The round trips: the lines of what is written are the first line and those of the chunks, and bytes with the layout
-- are the lines of what they say.
use Prim.Native.Nat.{ℕ}
use native.Mathlib.Omega.{arith}
use mathlib.Core.Path.{◌≡◌, refl, sym, ap, ap₂, ◌∙◌}
use mathlib.Core.List.{List, [], ◌∷◌, ◌++◌, map}
use mathlib.Core.Bool.{true}
use lib.ListN.{length, get_or, drop_of_length-le}
use Rattle.lists.specs.Lists.{every}
use Rattle.lists.proofs.Tests.{and_left_lem, and_right, and_intro}
use Rattle.bulk.specs.Catching.{Chunk, Listing, listing_in_range, mislisted}
use Rattle.lines.specs.Lines.{lines, closed, concatenated}
use Rattle.lines.specs.Fields.{fields, has_layout, values_of, columns, line_of}
use Rattle.lines.proofs.Lines.{whole, lines_line, closed_line, rejoined, respelled}
use Rattle.lines.proofs.Spelling.{layout_line, values_line, spelled}
use Rattle.codec.proofs.Trips.{from_place}
use Rattle.std.proofs.Common.{Ok}
use Rattle.listing.specs.Format.{list_head, chunk_head, list_numbers, chunk_numbers, chunk_line, list_bytes, is_chunk}
use Rattle.listing.specs.Format.{are_list_lines, list_laid_out, chunk_said, said_by_lines, list_said}
use Rattle.listing.specs.Theorems.{ListReadsBack, ListAccepted, ListSameBytes}
use Rattle.listing.proofs.Summaries.{listed-done}

-- ---- what is written, read

abbrev bare_chunk : Chunk → List ℕ
bare_chunk k = chunk_head ++ columns (chunk_numbers k)

abbrev bare_header : Listing → List ℕ
bare_header l = list_head ++ columns (list_numbers l)

in_lines : (ks : List Chunk) → lines (concatenated chunk_line ks) ≡ map bare_chunk ks
unfolding chunk_line
in_lines [] = refl
in_lines (k ∷ ks) =
    lines_line chunk_head (chunk_numbers k) (concatenated chunk_line ks) refl
    ∙ ap (λ (ls : List (List ℕ)). bare_chunk k ∷ ls) (in_lines ks)

shut : (ks : List Chunk) → closed (concatenated chunk_line ks) ≡ true
unfolding closed chunk_line
shut [] = refl
shut (k ∷ ks) = closed_line chunk_head (chunk_numbers k) (concatenated chunk_line ks) ∙ shut ks

all_laid : (ks : List Chunk) → every is_chunk (map bare_chunk ks) ≡ true
unfolding is_chunk chunk_numbers
all_laid [] = refl
all_laid (k ∷ ks) = and_intro (layout_line chunk_head (chunk_numbers k) refl 3 refl) (all_laid ks)

all_said : (ks : List Chunk) → map chunk_said (map bare_chunk ks) ≡ ks
unfolding chunk_said chunk_numbers
all_said [] = refl
all_said (k ∷ ks) = ap₂ (λ (j : Chunk) (js : List Chunk). j ∷ js) one (all_said ks)
  where
    one : chunk_said (bare_chunk k) ≡ k
    one = rw (values_line chunk_head (chunk_numbers k) refl)

list-lines : (l : Listing) → lines (list_bytes l) ≡ bare_header l ∷ map bare_chunk l.chunks
unfolding list_bytes
list-lines l =
    lines_line list_head (list_numbers l) (concatenated chunk_line l.chunks) refl
    ∙ ap (λ (ls : List (List ℕ)). bare_header l ∷ ls) (in_lines l.chunks)

list-closed : (l : Listing) → closed (list_bytes l) ≡ true
unfolding list_bytes
list-closed l = closed_line list_head (list_numbers l) (concatenated chunk_line l.chunks) ∙ shut l.chunks

pub list-reads-back : ListReadsBack
unfolding list_laid_out are_list_lines list_said said_by_lines list_numbers
list-reads-back l = (
  rw (list-closed l, list-lines l, layout_line list_head (list_numbers l) refl 2 refl) (all_laid l.chunks),
  rw (list-lines l, values_line list_head (list_numbers l) refl)
      (λ j. record { site = l.site; total = l.total; chunks = all_said l.chunks j }),
)

pub list-accepted : ListAccepted
list-accepted l good right =
    let r = list-reads-back l in
    listed-done (list_bytes l) r.0 (ap listing_in_range r.1 ∙ good) (ap mislisted r.1 ∙ right)
    ∙ ap (λ (m : Listing). Ok (length m.chunks)) r.1

-- ---- what is read, written

chunk-again : (line : List ℕ) → is_chunk line ≡ true → chunk_line (chunk_said line) ≡ whole line
unfolding is_chunk chunk_line chunk_said chunk_numbers
chunk-again line h = respelled chunk_head 3 line _ h (again (values_of (fields line)) (spelled chunk_head 3 line h).1)
  where
    again : (ns : List ℕ) → length ns ≡ 3
        → chunk_numbers (record { site = get_or ns 0 0; index = get_or ns 1 0; word = get_or ns 2 0 }) ≡ ns
    again ns e =
        sym (from_place ns 0 (omega arith)
        (from_place ns 1 (omega arith)
        (from_place ns 2 (omega arith) (drop_of_length-le ns {i = 3} (omega arith)))))

chunks-again : (ls : List (List ℕ)) → every is_chunk ls ≡ true
    → concatenated chunk_line (map chunk_said ls) ≡ concatenated whole ls
chunks-again [] e = refl
chunks-again (line ∷ ls) e =
    ap₂ (λ (a b : List ℕ). a ++ b) (chunk-again line (and_left_lem (is_chunk line) (every is_chunk ls) e))
    (chunks-again ls (and_right (is_chunk line) (every is_chunk ls) e))

header_again : (line : List ℕ) (ls : List (List ℕ)) → has_layout list_head 2 (fields line) ≡ true
    → line_of list_head (list_numbers (said_by_lines (line ∷ ls))) ≡ whole line
unfolding said_by_lines list_numbers
header_again line ls h = respelled list_head 2 line _ h (again (values_of (fields line)) (spelled list_head 2 line h).1)
  where
    again : (ns : List ℕ) → length ns ≡ 2 → get_or ns 0 0 ∷ get_or ns 1 0 ∷ [] ≡ ns
    again ns e =
        sym (from_place ns 0 (omega arith) (from_place ns 1 (omega arith) (drop_of_length-le ns {i = 2} (omega arith))))

lines-again : (ls : List (List ℕ)) → are_list_lines ls ≡ true → list_bytes (said_by_lines ls) ≡ concatenated whole ls
unfolding are_list_lines list_bytes said_by_lines
lines-again [] e = cc
lines-again (line ∷ ls) e =
    ap₂ (λ (a b : List ℕ). a ++ b)
    (header_again line ls (and_left_lem (has_layout list_head 2 (fields line)) (every is_chunk ls) e))
    (chunks-again ls (and_right (has_layout list_head 2 (fields line)) (every is_chunk ls) e))

pub list-same-bytes : ListSameBytes
unfolding list_laid_out list_said
list-same-bytes s laid =
    lines-again (lines s) (and_right (closed s) (are_list_lines (lines s)) laid)
    ∙ sym (rejoined s (and_left_lem (closed s) (are_list_lines (lines s)) laid))
