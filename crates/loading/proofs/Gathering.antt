-- Laws of lines that are read one after another: a line that has a layout stands there, and a line feed ends it.
use mathlib.Core.Path.{◌≡◌, refl, ap, ◌∙◌}
use mathlib.Core.List.{List, [], ◌∷◌, ◌++◌}
use mathlib.Core.Bool.{Bool, true, false, ◌&&◌}
use mathlib.Core.Logic.{⊎_elim}
use Prim.Native.Nat.{ℕ, ◌<◌}
use native.Mathlib.Omega.{arith}
use lib.ListN.{length, get_or}
use Rattle.lists.specs.Lists.{every}
use Rattle.lists.proofs.Tests.{either}
use Rattle.lists.proofs.Members.{every_append}
use Rattle.lines.specs.Lines.{ended, rest, lines}
use Rattle.lines.specs.Fields.{has_layout}
use Rattle.codec.specs.Operations.{is_insert, is_toggle, is_delete}
use Rattle.codec.specs.Calls.{as_written, as_written_first}
use Rattle.saved.specs.declared.Version.{Version}
use Rattle.saved.specs.declared.Version.TheVariants.{First, Second}
use Rattle.saved.specs.declared.Rows.{Rows}
use Rattle.saved.specs.declared.Rows.TheVariants.{Saved, Archived}
use Rattle.saved.specs.Format.{is_character, is_operation}
use Rattle.saved.specs.Archive.{is_placed}
use Rattle.saved.specs.Rows.{is_row}
use Rattle.lines.proofs.Lines.{lines_unended, lines_rest, head_first}

pub and_none : (b : Bool) → b && false ≡ false
and_none true = refl
and_none false = refl

pub and_true : (b : Bool) → b && true ≡ b
and_true true = refl
and_true false = refl

pub every_more : {A : Type 0} (p : A → Bool) (xs : List A) (x : A) → every p (xs ++ x ∷ []) ≡ every p xs && p x
every_more p xs x = every_append p xs (x ∷ []) ∙ ap (λ (b : Bool). every p xs && b) (and_true (p x))

-- ---- the layout that a line is read with

pub no_row : (k : Rows) → is_row k [] ≡ false
unfolding is_row is_character is_placed has_layout
no_row (Saved v) = refl
no_row Archived = refl

pub no-operation : (v : Version) → is_operation v [] ≡ false
unfolding is_operation as_written as_written_first is_insert is_toggle is_delete has_layout
no-operation First = refl
no-operation Second = refl

-- a line that has a layout stands there, and a line feed ends it
module _ (p : List ℕ → Bool) (none : p [] ≡ false) (left : List ℕ) (h : p (get_or (lines left) 0 []) ≡ true) where
  pub there : lines left ≡ get_or (lines left) 0 [] ∷ lines (rest left)
  there = rw (lines_rest left) (head_first p none (lines left) h)

  pub is-ended : ended left ≡ true
  is-ended = ⊎_elim (λ e. e) (λ e. absurd (nothing e)) (either (ended left))
    where
      nothing : ended left ≡ false → ⊥
      nothing e = let z : ◌≡◌ {A = ℕ} 0 1 = cc (lines_unended left e, there) in omega arith

  pub some_left : 0 < length left
  some_left = go left there
    where
      go : (s : List ℕ) → lines s ≡ get_or (lines left) 0 [] ∷ lines (rest left) → 0 < length s
      go [] e = let z : ◌≡◌ {A = ℕ} 0 1 = cc in absurd (omega arith)
      go (b ∷ s) e = omega arith
