-- How long operation lines are, and which bytes they have. A number within its limit has no more digits than the limit.
use mathlib.Core.Path.{◌≡◌, refl, ap}
use mathlib.Core.Bool.{true}
use mathlib.Core.List.{List}
use Prim.Native.Nat.{ℕ, ◌≤◌}
use native.Mathlib.Omega.{arith}
use lib.ListN.{length}
use Rattle.woot.specs.declared.Toggle.{Toggle}
use Rattle.woot.specs.declared.Operation.{Operation}
use Rattle.woot.specs.declared.Operation.TheVariants.{Insert as insert, Toggle as toggle}
use Rattle.woot.specs.Identifiers.{same}
use Rattle.woot.specs.Ranges.{in_range, insert_in_range, toggle_in_range, character_id, previous_id, next_id, site_number, is_code_point, within}
use Rattle.decimal.specs.Numeral.{digits_in, digits}
use Rattle.lines.specs.Lines.{first_line}
use Rattle.lines.specs.Fields.{fields, values_of, line_of}
use Rattle.lines.proofs.Sizes.{line_some, line_length, line_le, line-bytes as bytes-of-line}
use Rattle.lines.proofs.Spelling.{spelled}
use Rattle.lines.proofs.Values.{at_most_from}
use Rattle.codec.specs.declared.Kind.TheVariants.{Insert as Inserted, Toggle as Toggled}
use Rattle.codec.specs.Operations.{insert_head, toggle_head, delete_head, insert_numbers, insert_limits, toggle_numbers, toggle_limits, delete_numbers, delete_limits, identifier_at, insert_of, toggle_of, delete_of, is_delete, operation_line}
use Rattle.codec.specs.Calls.{said_by}
use Rattle.codec.specs.Theorems.{delete_most, LineLengths, DeleteLengths, LongestLines, LineBytes}
use Rattle.codec.proofs.Bounds.{toggle_bounds, said_at_most}
use Rattle.codec.proofs.Letters.{delete_said}
use Rattle.codec.proofs.Trips.{delete_numbers_back, was_read}

-- the lines of the limits
insert-limits : length (line_of insert_head insert_limits) ≡ 37
unfolding line_of digits digits_in
insert-limits = refl

toggle-limits : length (line_of toggle_head toggle_limits) ≡ 18
unfolding line_of digits digits_in
toggle-limits = refl

delete-limits : length (line_of delete_head delete_limits) ≡ delete_most
unfolding line_of digits digits_in
delete-limits = refl

pub line_lengths : LineLengths
unfolding operation_line insert_numbers insert_of toggle_numbers toggle_of identifier_at
line_lengths = (
  λ i e. rw insert-limits at (line_le insert_head insert_limits (insert_numbers i) (omega arith) (said_at_most Inserted (insert_numbers i) e)),
  λ d e. rw toggle-limits at (line_le toggle_head toggle_limits (toggle_numbers d) (omega arith) (said_at_most Toggled (toggle_numbers d) e)),
)

-- the line of a delete, whatever the toggles
pub delete_length : (t : Toggle) → in_range (toggle t) ≡ true → length (line_of delete_head (delete_numbers t)) ≤ delete_most
unfolding in_range delete_numbers
delete_length t e =
    let b = toggle_bounds t e in
    rw delete-limits at
    (line_le delete_head delete_limits (delete_numbers t) (omega arith)
    (at_most_from 0 delete_limits (delete_numbers t) b.sender-bound
    (at_most_from 1 delete_limits (delete_numbers t) b.target-bounds.site-le (at_most_from 2 delete_limits (delete_numbers t) b.target-bounds.clock-le refl))))

pub delete_lengths : DeleteLengths
unfolding is_delete said_by
delete_lengths s o e d =
    let ns = values_of (fields (first_line s)) in
    let p = spelled delete_head 3 (first_line s) d in
    let most = delete_length (delete_of ns) (rw (delete_said (first_line s) d) at (was_read s o e).2) in
    omega (arith, ap length p.0, line_length delete_head ns, ap (λ (l : List ℕ). length (line_of delete_head l)) (delete_numbers_back ns p.1))

pub longest-lines : LongestLines
unfolding in_range insert_in_range toggle_in_range character_id previous_id next_id site_number is_code_point within same operation_line line_of insert_numbers toggle_numbers digits digits_in
longest-lines = ((refl, refl), (refl, refl))

pub line-bytes : LineBytes
unfolding operation_line
line-bytes (insert i) k h = bytes-of-line insert_head (insert_numbers i) refl refl k h
line-bytes (toggle d) k h = bytes-of-line toggle_head (toggle_numbers d) refl refl k h

-- a line has a byte at least
pub operation_some : (o : Operation) → 1 ≤ length (operation_line o)
unfolding operation_line
operation_some (insert i) = line_some insert_head (insert_numbers i)
operation_some (toggle d) = line_some toggle_head (toggle_numbers d)
