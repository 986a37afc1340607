-- The round trips: a written line is read as its operation, and a line that is read was written so.
use Rattle.std.proofs.Common.{Ok, Err}
use mathlib.Core.Path.{◌≡◌, refl, sym, ap, ◌∙◌}
use mathlib.Core.List.{List, [], ◌∷◌, ◌++◌}
use mathlib.Core.Logic.{◌⊎◌, inl, inr, ⊎_elim}
use mathlib.Core.Bool.{true, false, ◌||◌}
use Prim.Native.Nat.{ℕ, suc, ◌<◌}
use native.Mathlib.Omega.{arith}
use lib.ListN.{length, drop, get_or, drop_of_length-le}
use lib.Seq.{drop-cons}
use borrow.Author.Tests.{eqb-false}
use Rattle.woot.specs.declared.Insert.{Insert}
use Rattle.woot.specs.declared.Toggle.{Toggle}
use Rattle.woot.specs.declared.Operation.{Operation}
use Rattle.woot.specs.declared.Operation.TheVariants.{Insert as insert, Toggle as toggle}
use Rattle.answers.specs.declared.Refusal.TheVariants.{Layout, Range}
use Rattle.woot.specs.Ranges.{in_range}
use Rattle.lists.proofs.Tests.{either, clash, and_left_lem, and_right, or_cases}
use Rattle.lines.specs.Lines.{ended, first_line, rest}
use Rattle.lines.specs.Fields.{fields, values_of, columns, line_of}
use Rattle.codec.specs.Operations.{insert_head, toggle_head, delete_head, insert_numbers, toggle_numbers, delete_numbers, identifier_at, insert_of, toggle_of, delete_of, is_insert, is_toggle, is_delete, operation_of, operation_line}
use Rattle.codec.specs.Calls.{as_written, line_laid_out, laid_out, said_by, read_as, read_line, read_operation}
use Rattle.codec.specs.Theorems.{LineSays, DeleteSays, WrittenReadsBack, ReadWritesBack}
use Rattle.lines.proofs.Lines.{line_ended, line_first, line_rest, whole_line}
use Rattle.codec.proofs.Judging.{read-layout, read-range, read-operation}
use Rattle.lines.proofs.Spelling.{layout_line, values_line, spelled, other-letter}

-- reading goes by the line before the line feed
by_line : (s line : List ℕ) → ended s ≡ true → first_line s ≡ line → read_operation s ≡ read_line line
unfolding read_operation laid_out said_by read_line
by_line s line e f = rw (e, f)

-- ---- what is written, read

insert-says : (i : Insert) → read_line (insert_head ++ columns (insert_numbers i)) ≡ read_as true (insert i)
unfolding read_line line_laid_out as_written operation_of is_insert insert_numbers insert_of identifier_at
insert-says i =
    rw (layout_line insert_head (insert_numbers i) refl 7 refl, values_line insert_head (insert_numbers i) refl)

toggle_says : (d : Toggle) → read_line (toggle_head ++ columns (toggle_numbers d)) ≡ read_as true (toggle d)
unfolding read_line line_laid_out as_written operation_of is_insert is_toggle toggle_numbers toggle_of identifier_at
toggle_says d =
    rw (other-letter 73 7 (toggle_head ++ columns (toggle_numbers d)) (eqb-false 69 73 refl), layout_line toggle_head (toggle_numbers d) refl 4 refl, values_line toggle_head (toggle_numbers d) refl)

pub line_says : LineSays
unfolding operation_line
line_says (insert i) bytes =
    let ns = insert_numbers i in
    by_line (line_of insert_head ns ++ bytes) (insert_head ++ columns ns) (line_ended insert_head ns bytes refl) (line_first insert_head ns bytes refl) ∙ insert-says i
line_says (toggle d) bytes =
    let ns = toggle_numbers d in
    by_line (line_of toggle_head ns ++ bytes) (toggle_head ++ columns ns) (line_ended toggle_head ns bytes refl) (line_first toggle_head ns bytes refl) ∙ toggle_says d

pub delete_says : DeleteSays
unfolding read_line line_laid_out as_written operation_of is_insert is_toggle is_delete delete_of identifier_at
delete_says n x bytes =
    let ns : List ℕ = n ∷ x.site ∷ x.clock ∷ [] in
    let line : List ℕ = delete_head ++ columns ns in
    by_line (line_of delete_head ns ++ bytes) line (line_ended delete_head ns bytes refl) (line_first delete_head ns bytes refl)
    ∙ rw (other-letter 73 7 line (eqb-false 68 73 refl), other-letter 69 4 line (eqb-false 68 69 refl), layout_line delete_head ns refl 3 refl, values_line delete_head ns refl)

-- the bytes that follow a line
rest-of_line : (o : Operation) (bytes : List ℕ) → rest (operation_line o ++ bytes) ≡ bytes
unfolding operation_line
rest-of_line (insert i) bytes = line_rest insert_head (insert_numbers i) bytes refl
rest-of_line (toggle d) bytes = line_rest toggle_head (toggle_numbers d) bytes refl

pub written-reads-back : WrittenReadsBack
written-reads-back o e bytes = (line_says o bytes ∙ read-operation o e, rest-of_line o bytes)

-- ---- what is read, written

-- a list, by the numbers at its places
pub from_place : (ns : List ℕ) (k : ℕ) {t : List ℕ} → k < length ns → drop (suc k) ns ≡ t → drop k ns ≡ get_or ns k 0 ∷ t
from_place ns k h e = drop-cons ns k 0 h ∙ ap (λ (l : List ℕ). get_or ns k 0 ∷ l) e

-- seven numbers are those of the insert that they say, four those of the toggle, and three those of the delete
pub insert_numbers_back : (ns : List ℕ) → length ns ≡ 7 → insert_numbers (insert_of ns) ≡ ns
unfolding insert_numbers insert_of identifier_at
insert_numbers_back ns e =
    sym
    (from_place ns 0 (omega arith)
    (from_place ns 1 (omega arith)
    (from_place ns 2 (omega arith)
    (from_place ns 3 (omega arith)
    (from_place ns 4 (omega arith)
    (from_place ns 5 (omega arith) (from_place ns 6 (omega arith) (drop_of_length-le ns {i = 7} (omega arith)))))))))

pub toggle_numbers_back : (ns : List ℕ) → length ns ≡ 4 → toggle_numbers (toggle_of ns) ≡ ns
unfolding toggle_numbers toggle_of identifier_at
toggle_numbers_back ns e =
    sym
    (from_place ns 0 (omega arith)
    (from_place ns 1 (omega arith)
    (from_place ns 2 (omega arith) (from_place ns 3 (omega arith) (drop_of_length-le ns {i = 4} (omega arith))))))

pub delete_numbers_back : (ns : List ℕ) → length ns ≡ 3 → delete_numbers (delete_of ns) ≡ ns
unfolding delete_numbers delete_of identifier_at
delete_numbers_back ns e =
    sym
    (from_place ns 0 (omega arith)
    (from_place ns 1 (omega arith) (from_place ns 2 (omega arith) (drop_of_length-le ns {i = 3} (omega arith)))))

-- an operation that was read was laid out, is the one that the line says, and is in range
pub was_read : (s : List ℕ) (o : Operation) → read_operation s ≡ Ok o → (laid_out s ≡ true) × (said_by s ≡ o) × (in_range (said_by s) ≡ true)
unfolding read_operation
was_read s o e = go (either (laid_out s)) (either (in_range (said_by s)))
  where
    go : (laid_out s ≡ true) ⊎ (laid_out s ≡ false) → (in_range (said_by s) ≡ true) ⊎ (in_range (said_by s) ≡ false)
        → (laid_out s ≡ true) × (said_by s ≡ o) × (in_range (said_by s) ≡ true)
    go (inr p) r = let q : Err Layout ≡ Ok o = sym (read-layout (said_by s)) ∙ rw p at e in (cc, cc, cc)
    go (inl p) (inr r) = let q : Err Range ≡ Ok o = sym (read-range (said_by s) r) ∙ rw p at e in (cc, cc, cc)
    go (inl p) (inl r) = let q : Ok (said_by s) ≡ Ok o = sym (read-operation (said_by s) r) ∙ rw p at e in (p, cc, r)

module _ (s : List ℕ) (e : ended s ≡ true) where
  as_insert : is_insert (fields (first_line s)) ≡ true → s ≡ operation_line (said_by s) ++ rest s
  unfolding is_insert said_by operation_of operation_line
  as_insert i =
      let p = spelled insert_head 7 (first_line s) i in
      rw (i, insert_numbers_back (values_of (fields (first_line s))) p.1) (whole_line s insert_head (values_of (fields (first_line s))) e p.0)

  as_toggle : is_insert (fields (first_line s)) ≡ false → is_toggle (fields (first_line s)) ≡ true → s ≡ operation_line (said_by s) ++ rest s
  unfolding is_toggle said_by operation_of operation_line
  as_toggle n d =
      let p = spelled toggle_head 4 (first_line s) d in
      rw (n, d, toggle_numbers_back (values_of (fields (first_line s))) p.1) (whole_line s toggle_head (values_of (fields (first_line s))) e p.0)

pub read-writes-back : ReadWritesBack
unfolding laid_out line_laid_out as_written
read-writes-back s o e n =
    let r = was_read s o e in
    let line = fields (first_line s) in
    let laid = is_insert line || is_toggle line in
    let end : ended s ≡ true = and_left_lem (ended s) (laid || is_delete line) r.0 in
    let form : laid ≡ true = ⊎_elim (λ h. h) (λ h. clash h n) (or_cases laid (is_delete line) (and_right (ended s) (laid || is_delete line) r.0)) in
    rw (← r.1) (⊎_elim (as_insert s end) (λ i. as_toggle s end i (rw i at form)) (either (is_insert line)))
