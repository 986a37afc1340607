-- Rows that are as they were but for one: their bytes before it and after it are those that were read.
use mathlib.Core.Path.{◌≡◌, refl, sym, ap, ◌∙◌}
use mathlib.Core.List.{List, [], ◌∷◌, ◌++◌, append-nil}
use mathlib.Core.Bool.{Bool, true, false, cond}
use Prim.Native.Nat.{ℕ, zero, suc, ◌+◌, ◌-◌, ◌<◌, ◌≤◌}
use native.Mathlib.Omega.{arith}
use lib.Dec.{ltb}
use lib.ListN.{length, take, drop, get_or, length-append, length-drop, take-append-drop}
use lib.Seq.{take-append_seam, drop-append_seam, take_all, length-take-le, get_or_at}
use borrow.Author.Tests.{lt-ltb, le-ltb}
use mathlib.Core.Logic.{⊎_elim}
use Rattle.lists.proofs.Tests.{side}
use Rattle.lines.specs.Lines.{concatenated}
use Rattle.lines.proofs.Lines.{concatenated-append}
use Rattle.woot.specs.declared.Site.{Site}
use Rattle.woot.specs.declared.Character.{Character}
use Rattle.woot.specs.State.{State}
use Rattle.woot.specs.Memory.{character_at, characters_of, key_column, previous_column, next_column, code_point_column, pending_slots}
use Rattle.memory.proofs.Characters.{each_at, each-length}
use Rattle.saved.specs.declared.Rows.TheVariants.{Saved}
use Rattle.saved.specs.Rows.{row_line}
use Rattle.saving.specs.Documents.{characters_among, state_in, lines_as, lists_of}
use Rattle.saving.proofs.Documents.{row_at}
use Rattle.saved.specs.declared.Version.TheVariants.{Second}
use Rattle.saved.specs.Format.{site_line, character_line, saved_line, bytes_with, saved_bytes}
use Rattle.splicing.specs.Splicing.{between, row_bytes, Spelled, Spliced}

-- the bytes of rows, at any row
rows_cut : (k : ℕ) (cs : List Character) → row_bytes (take k cs) ++ row_bytes (drop k cs) ≡ row_bytes cs
rows_cut k cs = sym (concatenated-append (character_line Second) (take k cs) (drop k cs)) ∙ ap row_bytes (take-append-drop k cs)

module _ {body starts : List ℕ} {old : List Character} (p : Spelled body starts old) where
  -- where a row begins, or all of them end
  pub start_is : (k n : ℕ) → n ≡ length old → k ≤ n → cond (ltb k n) (get_or starts k 0) (length body) ≡ length (row_bytes (take k old))
  start_is k n e h = ⊎_elim (λ (q : n ≤ k). last q) (λ (q : k < n). rw (lt-ltb k n q) (p.begins k (omega arith))) (side n k)
    where
      last : n ≤ k → cond (ltb k n) (get_or starts k 0) (length body) ≡ length (row_bytes (take k old))
      last q = rw (le-ltb k n q, take_all k old (omega arith)) (ap length p.bytes)

  module _ (k : ℕ) {from : ℕ} (e : from ≡ length (row_bytes (take k old))) where
    pub start-le : from ≤ length body
    start-le = omega (arith, ap length p.bytes, ap length (rows_cut k old), length-append (row_bytes (take k old)) (row_bytes (drop k old)))

    front-is : take from body ≡ row_bytes (take k old)
    front-is = rw (e, p.bytes, ← rows_cut k old) (take-append_seam (row_bytes (take k old)) (row_bytes (drop k old)))

    back_is : drop from body ≡ row_bytes (drop k old)
    back_is = rw (e, p.bytes, ← rows_cut k old) (drop-append_seam (row_bytes (take k old)) (row_bytes (drop k old)))

-- the bytes from an offset on, as they are lent
part-is : (s : List ℕ) (to : ℕ) → take (length s - to) (drop to s) ≡ drop to s
part-is s to = take_all (length s - to) (drop to s) (omega (arith, length-drop to s))

module _ {body starts : List ℕ} {k skip : ℕ} {s : State} (p : Spliced body starts k skip s) where
  -- how many rows there are
  pub rows_many : length s.characters + skip ≡ length p.old + 1
  rows_many =
      omega (
        arith,
        p.place,
        ap length p.result,
        length-append (take k p.old) (p.row ∷ drop (k + skip) p.old),
        length-take-le k p.old (omega (arith, p.place)),
        length-drop (k + skip) p.old,
      )

  -- and the one that is written
  row_is : (d : Character) → get_or s.characters k d ≡ p.row
  row_is d =
      ap (λ (cs : List Character). get_or cs k d) p.result
      ∙ get_or_at (take k p.old) p.row (drop (k + skip) p.old) d k (length-take-le k p.old (omega (arith, p.place)))

  pub all-bytes : {from to : ℕ} → from ≡ length (row_bytes (take k p.old)) → to ≡ length (row_bytes (take (k + skip) p.old))
      → site_line Second s.site ++ between (take from body) (character_line Second p.row) (take (length body - to) (drop to body)) ≡ saved_bytes s
  unfolding bytes_with
  all-bytes {from} {to} e f =
      rw (front-is p.spelled k e, part-is body to, back_is p.spelled (k + skip) f, p.result, p.still)
      (ap (λ (bs : List ℕ). site_line Second s.site ++ bs)
      (sym (concatenated-append (character_line Second) (take k p.old) (p.row ∷ drop (k + skip) p.old)))
      ∙ sym (append-nil (site_line Second s.site ++ row_bytes (take k p.old ++ p.row ∷ drop (k + skip) p.old))))

-- the line of a row, as the arrays have it
module _ (site : Site) (cs ts : List ℕ) (n : ℕ) (os : List ℕ) (w : ℕ) {body starts : List ℕ} {k skip : ℕ}
    (p : Spliced body starts k skip (state_in site cs ts n os w)) (small : skip ≤ 1) where
  pub rows-held : n + skip ≡ length p.old + 1
  unfolding state_in characters_of
  rows-held = omega (arith, rows_many p, each-length (character_at (key_column cs) (previous_column cs) (next_column cs) (code_point_column cs) ts) n)

  pub row-there : k < n
  row-there = omega (arith, rows-held, p.place)

  pub row_written : get_or (lines_as (Saved Second) (lists_of cs cs ts n os pending_slots w)) k [] ≡ character_line Second p.row
  unfolding state_in characters_of row_line
  row_written =
      row_at (Saved Second) cs cs ts n os pending_slots w k row-there
      ∙ ap (character_line Second)
      (sym (each_at (character_at (key_column cs) (previous_column cs) (next_column cs) (code_point_column cs) ts) n k p.row row-there) ∙ row_is p p.row)
