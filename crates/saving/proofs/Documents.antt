-- The lines of a saved replica or an archive by the numbers of its arrays, and the whole of them after the site's line.
use Prim.Native.Nat.{ℕ, ◌+◌, ◌-◌, ◌*◌, ◌≤◌, ◌<◌}
use native.Mathlib.Omega.{arith}
use mathlib.Core.Path.{◌≡◌, refl, ap, ap₂, sym, ◌∙◌}
use mathlib.Core.List.{List, [], ◌∷◌, ◌++◌, map, append_assoc}
use mir.Val.{Val}
use denote.Laws.{Is}
use lib.ListN.{length, take, get_or, length-append, length-map, get_or-append}
use lib.Seq.{take_all, get_or-append-add}
use Rattle.lists.proofs.Indices.{map_get_d}
use Rattle.lines.specs.Lines.{concatenated}
use Rattle.lines.proofs.Lines.{concatenated-append}
use Rattle.woot.specs.declared.Site.{Site}
use Rattle.woot.specs.declared.Insert.{Insert}
use Rattle.woot.specs.declared.Operation.TheVariants.{Insert as insert}
use Rattle.woot.specs.State.{State, blank_operation}
use Rattle.woot.specs.Memory.{character_numbers, character_slots, pending_slots, column, character_of, operation_of, characters_of}
use Rattle.bulk.specs.Archiving as archiving
use Rattle.bulk.specs.Archiving.{Placed, Archive, places_of}
use Rattle.memory.proofs.Characters.{each-length, each_at, each_map, each_take}
use Rattle.memory.proofs.Operations.{operations-length, operations-at}
use Rattle.memory.proofs.Views.{column-at}
use Rattle.codec.specs.Operations.{operation_line}
use Rattle.saved.specs.declared.Version.{Version}
use Rattle.saved.specs.declared.Version.TheVariants.{First, Second}
use Rattle.saved.specs.declared.Rows.{Rows}
use Rattle.saved.specs.declared.Rows.TheVariants.{Saved, Archived}
use Rattle.saved.specs.Format.{site_line, character_line, saved_line, bytes_as, bytes_with}
use Rattle.saved.specs.Archive.{archive_bytes}
use Rattle.saved.specs.Rows.{version_of, row_line}
use Rattle.saving.specs.declared.numbered.Line.{Line}
use Rattle.saving.specs.Documents.{row_of, characters_among, placed_at, rows_among, operations_over, state_in, archive_in}
use Rattle.saving.specs.Documents.{HasSlots, Lists, lists_of, lines_as, body_as, file_bytes}
use Rattle.saving.specs.contracts.numbered.Line as line

-- ---- one line

-- a line has its nine numbers
pub full_line : (l : Line) {vs : List Val} → Is line.the_row l vs → length l.numbers ≡ 9
full_line l g = g.1.1.1.0.1.0.1

-- an insert's line is the same in both forms
pub insert-either : (v : Version) (i : Insert) → operation_line (insert i) ≡ saved_line v (insert i)
unfolding saved_line
insert-either First i = refl
insert-either Second i = refl

-- ---- the lines of the arrays

-- a slot of a column by its index in the array
slot : (m j : ℕ) (xs : List ℕ) (i at : ℕ) → i < m → at ≡ j * m + i → get_or (column m j xs) i 0 ≡ get_or xs at 0
slot m j xs i at h e = column-at m j xs i h ∙ ap (λ (k : ℕ). get_or xs k 0) (sym e)

module _ (k : Rows) (ps cs ts : List ℕ) (n : ℕ) (os : List ℕ) (m w : ℕ) where
  rows_many : length (rows_among ps cs ts n) ≡ n
  unfolding rows_among
  rows_many = each-length (placed_at ps cs ts) n

  rows_at : (i : ℕ) → i < n → get_or (rows_among ps cs ts n) i (placed_at ps cs ts i) ≡ placed_at ps cs ts i
  unfolding rows_among
  rows_at i h = each_at (placed_at ps cs ts) n i (placed_at ps cs ts i) h

  rows : length (map (row_line k) (rows_among ps cs ts n)) ≡ n
  rows = length-map (rows_among ps cs ts n) (row_line k) ∙ rows_many

  many : length (operations_over m os w) ≡ w
  many = operations-length (column m 0 os) (column m 1 os) (column m 2 os) (column m 3 os) w

  pub lines_many : length (lines_as k (lists_of ps cs ts n os m w)) ≡ n + w
  unfolding lines_as
  lines_many =
      omega (
        arith,
        rows,
        length-append (map (row_line k) (rows_among ps cs ts n)) (map (saved_line (version_of k)) (operations_over m os w)),
        length-map (operations_over m os w) (saved_line (version_of k)),
        many,
      )

  module _ (i : ℕ) where
    pub row_at : i < n → get_or (lines_as k (lists_of ps cs ts n os m w)) i [] ≡ row_line k (placed_at ps cs ts i)
    unfolding lines_as
    row_at h =
        get_or-append (map (row_line k) (rows_among ps cs ts n)) (map (saved_line (version_of k)) (operations_over m os w)) [] i (omega (arith, rows))
        ∙ map_get_d (row_line k) (rows_among ps cs ts n) i [] (placed_at ps cs ts i) (omega (arith, rows_many))
        ∙ ap (row_line k) (rows_at i h)

    pub row-line : i < n → n ≤ character_slots
        → row_line k (row_of (get_or ps i 0) (character_of (get_or cs i 0) (get_or cs (1024 + i) 0) (get_or cs (2048 + i) 0) (get_or cs (3072 + i) 0) (get_or ts i 0)))
        ≡ get_or (lines_as k (lists_of ps cs ts n os m w)) i []
    row-line h few =
        let within : i < character_slots = omega arith in
        rw (
          ← slot character_slots 0 cs i i within (omega arith),
          ← slot character_slots 1 cs i (1024 + i) within (omega arith),
          ← slot character_slots 2 cs i (2048 + i) within (omega arith),
          ← slot character_slots 3 cs i (3072 + i) within (omega arith),
        )
        (sym (row_at h))

    pub operation-line : n ≤ i → i < n + w → w ≤ m
        → saved_line (version_of k) (operation_of (get_or os (i - n) 0) (get_or os (m + (i - n)) 0) (get_or os (2 * m + (i - n)) 0) (get_or os (3 * m + (i - n)) 0))
        ≡ get_or (lines_as k (lists_of ps cs ts n os m w)) i []
    unfolding lines_as
    operation-line h l few =
        let xs = map (row_line k) (rows_among ps cs ts n) in
        let ys = map (saved_line (version_of k)) (operations_over m os w) in
        let past : i ≡ length xs + (i - n) = omega (arith, rows) in
        let within : i - n < m = omega arith in
        rw (
          ← slot m 0 os (i - n) (i - n) within (omega arith),
          ← slot m 1 os (i - n) (m + (i - n)) within (omega arith),
          ← slot m 2 os (i - n) (2 * m + (i - n)) within (omega arith),
          ← slot m 3 os (i - n) (3 * m + (i - n)) within (omega arith),
        )
        (sym (
        ap (λ (j : ℕ). get_or (xs ++ ys) j []) past
        ∙ get_or-append-add xs ys (i - n) []
        ∙ map_get_d (saved_line (version_of k)) (operations_over m os w) (i - n) [] blank_operation (omega (arith, many))
        ∙ ap (saved_line (version_of k))
        (operations-at (column m 0 os) (column m 1 os) (column m 2 os) (column m 3 os) w (i - n) blank_operation (omega arith))
        ))

  -- all of them
  pub all_lines : concatenated (λ l. l) (take (n + w) (lines_as k (lists_of ps cs ts n os m w))) ≡ body_as k (lists_of ps cs ts n os m w)
  unfolding body_as
  all_lines = ap (concatenated (λ l. l)) (take_all (n + w) (lines_as k (lists_of ps cs ts n os m w)) (omega (arith, lines_many)))

-- ---- after the site's line they are the whole

concatenated-lines : {A : Type 0} (f : A → List ℕ) (xs : List A) → concatenated (λ l. l) (map f xs) ≡ concatenated f xs
concatenated-lines f [] = refl
concatenated-lines f (x ∷ xs) = ap (λ (l : List ℕ). f x ++ l) (concatenated-lines f xs)

pub whole-bytes : (k : Rows) (t : Site) (d : Lists) → site_line (version_of k) t ++ body_as k d ≡ file_bytes k t d
unfolding body_as lines_as file_bytes bytes_with
whole-bytes k t d =
    rw (
      concatenated-append (λ (l : List ℕ). l) (map (row_line k) d.rows) (map (saved_line (version_of k)) d.pending),
      concatenated-lines (row_line k) d.rows,
      concatenated-lines (saved_line (version_of k)) d.pending,
    )
    (sym (append_assoc (site_line (version_of k) t) (concatenated (row_line k) d.rows) (concatenated (saved_line (version_of k)) d.pending)))

-- ---- what is written of a saved replica, and of an archive

saved_rows : (v : Version) (ps : List Placed) → concatenated (row_line (Saved v)) ps ≡ concatenated (character_line v) (archiving.characters_of ps)
unfolding row_line
saved_rows v [] = refl
saved_rows v (p ∷ ps) = ap (λ (l : List ℕ). character_line v p.character ++ l) (saved_rows v ps)

module _ (ps cs ts : List ℕ) (n : ℕ) where
  -- the columns of the rows
  pub rows-characters : archiving.characters_of (rows_among ps cs ts n) ≡ characters_among cs ts n
  unfolding rows_among characters_of
  rows-characters = each_map (λ (p : Placed). p.character) (placed_at ps cs ts) n

  pub rows-places : n ≤ length ps → places_of (rows_among ps cs ts n) ≡ take n ps
  unfolding rows_among
  rows-places h = each_map (λ (p : Placed). p.place) (placed_at ps cs ts) n ∙ each_take ps 0 n h

  module _ (t : Site) (os : List ℕ) (w : ℕ) where
    pub saved_file : (v : Version) → file_bytes (Saved v) t (lists_of ps cs ts n os pending_slots w) ≡ bytes_as v (state_in t cs ts n os w)
    unfolding file_bytes bytes_with version_of state_in
    saved_file v = rw (saved_rows v (rows_among ps cs ts n), rows-characters) refl

    pub archive_file : file_bytes Archived t (lists_of ps cs ts n os pending_slots w) ≡ archive_bytes (archive_in t ps cs ts n os w)
    unfolding file_bytes bytes_with version_of row_line archive_in
    archive_file = refl

-- a row is its place and its character
rows-path : (ps qs : List Placed) → places_of ps ≡ places_of qs → archiving.characters_of ps ≡ archiving.characters_of qs → ps ≡ qs
rows-path [] [] e f = refl
rows-path [] (q ∷ qs) e f = absurd (omega (arith, ap length e))
rows-path (p ∷ ps) [] e f = absurd (omega (arith, ap length e))
rows-path (p ∷ ps) (q ∷ qs) e f =
    let places : p.place ≡ q.place = cc in
    let characters : p.character ≡ q.character = cc in
    let more : places_of ps ≡ places_of qs = cc in
    let others : archiving.characters_of ps ≡ archiving.characters_of qs = cc in
    ap₂ (λ (r : Placed) (rs : List Placed). r ∷ rs) (λ i. record { place = places i; character = characters i }) (rows-path ps qs more others)

-- arrays that hold the state of an archive's rows as they stand, with the places beside them, are that archive
pub archive_held : (a : Archive) (ps cs ts : List ℕ) (n : ℕ) (os : List ℕ) (w : ℕ) → n ≤ length ps → places_of a.rows ≡ take n ps
    → state_in a.site cs ts n os w ≡ record { site = a.site; characters = archiving.characters_of a.rows; pending = a.pending }
    → archive_in a.site ps cs ts n os w ≡ a
unfolding state_in archive_in
archive_held a ps cs ts n os w h e s =
    let rows : rows_among ps cs ts n ≡ a.rows =
    rows-path (rows_among ps cs ts n) a.rows (rows-places ps cs ts n h ∙ sym e) (rows-characters ps cs ts n ∙ ap (λ (t : State). t.characters) s) in
    let pending : operations_over pending_slots os w ≡ a.pending = ap (λ (t : State). t.pending) s in
    λ i. record { site = a.site; rows = rows i; pending = pending i }

-- ---- operations alone

-- their array has slots for them, and for no rows
pub alone_slots : (xs ts : List ℕ) (w : ℕ) → length xs ≡ character_numbers → w ≤ character_slots → HasSlots xs xs ts 0 xs character_slots w
alone_slots xs ts w full few =
    record {
      places-hold = omega arith;
      characters-full = full;
      characters-hold = omega arith;
      toggles-hold = omega arith;
      pending-full = full;
      columns-few = omega arith;
      pending-hold = few;
    }

-- with no rows they are the lines of the operations
pub lines_alone : (ps cs ts os : List ℕ) (m w : ℕ) → body_as (Saved Second) (lists_of ps cs ts 0 os m w) ≡ concatenated operation_line (operations_over m os w)
unfolding body_as lines_as rows_among version_of saved_line
lines_alone ps cs ts os m w = concatenated-lines operation_line (operations_over m os w)
