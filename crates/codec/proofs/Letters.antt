-- A line goes by its first byte: only a line that begins with a head word of one letter can have that layout.
use Rattle.std.proofs.Common.{Err}
use mathlib.Core.Path.{◌≡◌, refl, sym, ap, ◌∙◌}
use mathlib.Core.List.{List, []}
use mathlib.Core.Bool.{Bool, true, false, ◌&&◌, ◌||◌, cond}
use Prim.Native.Nat.{ℕ}
use lib.ListN.{get_or}
use borrow.Author.Tests.{eqb-false}
use Rattle.woot.specs.declared.Operation.TheVariants.{Insert as insert, Toggle as toggle}
use Rattle.answers.specs.declared.Refusal.TheVariants.{Layout}
use Rattle.lines.specs.Lines.{ended, first_line}
use Rattle.lines.specs.Fields.{fields, has_layout, values_of}
use Rattle.lines.proofs.Spelling.{spelled, other-letter}
use Rattle.codec.specs.declared.Kind.TheVariants.{Insert as Inserted, Toggle as Toggled, Delete as Deleted}
use Rattle.codec.specs.Operations.{delete_head, insert_of, delete_of, is_insert, is_toggle, is_delete, operation_of}
use Rattle.codec.specs.Calls.{as_written, as_written_first, line_laid_out, laid_out, read_as, said_by, read_written, read_written_first, read_line, read_operation}
use Rattle.codec.specs.Kinds.{laid_out_as, read_kind}
use Rattle.codec.proofs.Judging.{read-layout, read_same}

empty_line : read_line [] ≡ Err Layout
unfolding read_line line_laid_out as_written is_insert is_toggle is_delete has_layout
empty_line = read-layout _

or-none : (b : Bool) {c : Bool} → c ≡ false → b || c ≡ b
or-none true e = refl
or-none false e = e

module _ (line : List ℕ) where
  no-insert : (get_or line 0 0 ≡ 73 → ⊥) → is_insert (fields line) ≡ false
  unfolding is_insert
  no-insert h = other-letter 73 7 line h

  no_toggle : (get_or line 0 0 ≡ 69 → ⊥) → is_toggle (fields line) ≡ false
  unfolding is_toggle
  no_toggle h = other-letter 69 4 line h

  no_delete : (get_or line 0 0 ≡ 68 → ⊥) → is_delete (fields line) ≡ false
  unfolding is_delete
  no_delete h = other-letter 68 3 line h

  -- a delete's head word is no other's
  delete_letter : is_delete (fields line) ≡ true → get_or line 0 0 ≡ 68
  unfolding is_delete
  delete_letter d = ap (λ (l : List ℕ). get_or l 0 0) (spelled delete_head 3 line d).0

  pub delete_alone : is_delete (fields line) ≡ true → is_toggle (fields line) ≡ false
  delete_alone d = no_toggle (λ q. eqb-false 68 69 refl (sym (delete_letter d) ∙ q))

  delete_no-insert : is_delete (fields line) ≡ true → is_insert (fields line) ≡ false
  delete_no-insert d = no-insert (λ q. eqb-false 68 73 refl (sym (delete_letter d) ∙ q))

  -- so the line of a delete says that delete
  pub delete_said : is_delete (fields line) ≡ true → operation_of (fields line) ≡ toggle (delete_of (values_of (fields line)))
  unfolding operation_of
  delete_said d = rw (delete_no-insert d, delete_alone d)

  -- a line that begins with the insert's head word is an insert's, whatever other kinds are read
  insert-says : is_insert (fields line) ≡ true → insert (insert_of (values_of (fields line))) ≡ operation_of (fields line)
  unfolding operation_of
  insert-says e = rw e

  pub insert_line : get_or line 0 0 ≡ 73 → (read_kind Inserted line ≡ read_written line) × (read_kind Inserted line ≡ read_written_first line)
  unfolding read_kind laid_out_as read_written as_written read_written_first as_written_first is_insert
  insert_line e = (
    read_same _ (or-none _ (no_toggle (λ q. eqb-false 73 69 refl (sym e ∙ q)))) insert-says,
    read_same _ (or-none _ (no_delete (λ q. eqb-false 73 68 refl (sym e ∙ q)))) insert-says,
  )

  pub toggle_line : (get_or line 0 0 ≡ 73 → ⊥) → read_kind Toggled line ≡ read_written line
  unfolding read_kind laid_out_as read_written as_written operation_of is_toggle
  toggle_line h = read_same _ (rw (no-insert h)) (λ t. rw (no-insert h, t))

  pub delete_first : (get_or line 0 0 ≡ 73 → ⊥) → read_kind Deleted line ≡ read_written_first line
  unfolding read_kind laid_out_as read_written_first as_written_first operation_of is_delete
  delete_first h = read_same _ (rw (no-insert h)) (λ d. rw (no-insert h, delete_alone d))

  pub delete_line : get_or line 0 0 ≡ 68 → read_kind Deleted line ≡ read_line line
  unfolding read_kind laid_out_as read_line line_laid_out as_written operation_of is_delete
  delete_line e = rw (no-insert (λ q. eqb-false 68 73 refl (sym e ∙ q)), no_toggle (λ q. eqb-false 68 69 refl (sym e ∙ q)))

  pub written_line : (get_or line 0 0 ≡ 68 → ⊥) → read_written line ≡ read_line line
  unfolding read_written read_line line_laid_out
  written_line h = read_same _ (or-none _ (no_delete h)) (λ t. refl)

-- where no line feed ends the first line nothing is read, and that lacks the layout too
pub by_first : (s : List ℕ) → read_line (cond (ended s) (first_line s) []) ≡ read_operation s
unfolding read_operation laid_out said_by read_line
by_first s = go (ended s)
  where
    go : (b : Bool) → read_as (line_laid_out (cond b (first_line s) [])) (operation_of (fields (cond b (first_line s) []))) ≡ read_as (b && line_laid_out (first_line s)) (operation_of (fields (first_line s)))
    go true = refl
    go false = empty_line ∙ sym (read-layout (operation_of (fields (first_line s))))
