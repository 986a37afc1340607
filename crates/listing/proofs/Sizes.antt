-- How long lists are: no line in range is longer than that of its limits, and there are at most 1,024 chunks.
use Prim.Native.Nat.{◌*◌, ◌≤◌}
use native.Mathlib.Nat.{mul-suc}
use native.Mathlib.Omega.{arith}
use mathlib.Core.Path.{◌≡◌, refl, ap}
use mathlib.Core.List.{List, [], ◌∷◌}
use mathlib.Core.Bool.{true}
use lib.ListN.{length, length-append}
use Rattle.lists.specs.Lists.{every}
use Rattle.lists.proofs.Tests.{and_left_lem, and_right}
use Rattle.woot.specs.Ranges.{within, site_number}
use Rattle.bulk.specs.Catching.{Chunk, Listing, listing, chunk_in_range, listing_in_range}
use Rattle.decimal.specs.Numeral.{digits, digits_in}
use Rattle.lines.specs.Lines.{concatenated}
use Rattle.lines.specs.Fields.{line_of}
use Rattle.lines.proofs.Sizes.{line_le}
use Rattle.lines.proofs.Values.{at_most_from}
use Rattle.listing.specs.Format.{list_head, list_numbers, list_limits, chunk_head, chunk_numbers, chunk_limits}
use Rattle.listing.specs.Format.{chunk_line, list_bytes, list_said}
use Rattle.listing.specs.Theorems.{ListLineLengths, LongestListLines, ListFits, ListLengths}
use Rattle.listing.proofs.Chunks.{bounds}
use Rattle.listing.proofs.Steps.{header_bounds, chunks-range}
use Rattle.listing.proofs.Summaries.{few-listed, done-told}
use Rattle.listing.proofs.Trips.{list-same-bytes}
use Rattle.convergence.proofs.Marking.{listing-accepted}
use Rattle.listing.proofs.Marked.{few-chunks-listed}

-- ---- a line

-- the lines of the limits
header_limits : length (line_of list_head list_limits) ≡ 10
unfolding line_of digits digits_in
header_limits = refl

chunk-limits : length (line_of chunk_head chunk_limits) ≡ 31
unfolding line_of digits digits_in
chunk-limits = refl

header_length : (l : Listing) → listing_in_range l ≡ true → length (line_of list_head (list_numbers l)) ≤ 10
unfolding list_numbers
header_length l e =
    let b = header_bounds l e in
    rw header_limits at
    (line_le list_head list_limits (list_numbers l) (omega arith)
    (at_most_from 0 list_limits (list_numbers l) b.site-high
    (at_most_from 1 list_limits (list_numbers l) b.total-high refl)))

chunk-length : (k : Chunk) → chunk_in_range k ≡ true → length (chunk_line k) ≤ 31
unfolding chunk_line chunk_numbers
chunk-length k e =
    let b = bounds k e in
    rw chunk-limits at
    (line_le chunk_head chunk_limits (chunk_numbers k) (omega arith)
    (at_most_from 0 chunk_limits (chunk_numbers k) b.site-high
    (at_most_from 1 chunk_limits (chunk_numbers k) b.index-high
    (at_most_from 2 chunk_limits (chunk_numbers k) b.word-high refl))))

pub list_line_lengths : ListLineLengths
list_line_lengths = (header_length, chunk-length)

pub longest-list-lines : LongestListLines
unfolding listing_in_range chunk_in_range site_number within line_of list_numbers chunk_line chunk_numbers digits digits_in
longest-list-lines = ((refl, refl), (refl, refl))

-- ---- all lines

chunks-length : (ks : List Chunk) → every chunk_in_range ks ≡ true → length (concatenated chunk_line ks) ≤ 31 * length ks
chunks-length [] e = omega arith
chunks-length (k ∷ ks) e =
    omega (
      arith,
      mul-suc 31 (length ks),
      length-append (chunk_line k) (concatenated chunk_line ks),
      chunk-length k (and_left_lem (chunk_in_range k) (every chunk_in_range ks) e),
      chunks-length ks (and_right (chunk_in_range k) (every chunk_in_range ks) e),
    )

list_length : (l : Listing) → listing_in_range l ≡ true → length l.chunks ≤ 1024 → length (list_bytes l) ≤ 31754
unfolding list_bytes
list_length l e few =
    omega (
      arith,
      few,
      length-append (line_of list_head (list_numbers l)) (concatenated chunk_line l.chunks),
      header_length l e,
      chunks-length l.chunks (chunks-range l e),
    )

pub list-fits : ListFits
list-fits t h =
    let few = few-chunks-listed t h in
    (few, list_length (listing t) (listing-accepted t h).0 few)

pub list_lengths : ListLengths
list_lengths s n d =
    let w = done-told s n d in
    let few = few-listed (list_said s) w.1 w.2 in (
      omega (arith, few, w.3),
      omega (arith, list_length (list_said s) w.1 few, ap length (list-same-bytes s w.0)),
    )
