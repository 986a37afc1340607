-- How long a saved replica is. A character's line and a pending insert's take at most 41 bytes, and of both there are at
-- most 1,024; a pending toggle's line takes at most 18. In the first form these are 39 and 14, and an archive's row takes 46.
use mathlib.Core.Path.{◌≡◌, refl, sym, ap, ◌∙◌}
use mathlib.Core.List.{List, [], ◌∷◌, ◌++◌}
use mathlib.Core.Bool.{Bool, true}
use Prim.Native.Nat.{ℕ, ◌+◌, ◌*◌, ◌≤◌}
use native.Mathlib.Omega.{arith}
use native.Mathlib.Nat.{mul-suc}
use lib.Dec.{leb}
use lib.ListN.{length, length-append, length-map}
use Rattle.woot.specs.declared.Site.{Site}
use Rattle.woot.specs.declared.Insert.{Insert}
use Rattle.woot.specs.declared.Toggle.{Toggle}
use Rattle.woot.specs.declared.Operation.{Operation}
use Rattle.woot.specs.declared.Operation.TheVariants.{Insert as insert, Toggle as toggle}
use Rattle.woot.specs.declared.Character.{Character}
use Rattle.lists.specs.Lists.{every}
use Rattle.woot.specs.Operations.{inserts, toggles_among}
use Rattle.woot.specs.Limits.{capacity}
use Rattle.woot.specs.Ranges.{within, site_in_range, character_in_range, in_range}
use Rattle.woot.specs.State.{State}
use Rattle.woot.specs.Form.{all_in_range, well_formed}
use Rattle.bulk.specs.Archiving.{Placed, characters_of, archived, archive_of, place_in_range, archive_in_range}
use Rattle.lists.proofs.Tests.{and_left_lem, and_right, and_intro, three}
use Rattle.lists.proofs.Indices.{every_map}
use Rattle.convergence.proofs.Forms.{formed}
use Rattle.convergence.proofs.Shares.{pending-bound}
use Rattle.convergence.proofs.Peeling.{keep_all}
use Rattle.convergence.proofs.Archiving.{rows_permuted, archive-in-range}
use Rattle.decimal.specs.Numeral.{digits, digits_in}
use Rattle.lines.specs.Lines.{concatenated}
use Rattle.lines.specs.Fields.{at_most, line_of}
use Rattle.lines.proofs.Sizes.{line_le}
use Rattle.codec.proofs.Sizes.{line_lengths, delete_length}
use Rattle.saved.specs.declared.Version.{Version}
use Rattle.saved.specs.declared.Version.TheVariants.{First, Second}
use Rattle.saved.specs.Format.{site_head, site_numbers, site_limits, site_of, site_line, character_head, character_numbers, character_limits}
use Rattle.saved.specs.Format.{character_line, saved_line, character_within, operation_within, representable, bytes_as, bytes_with}
use Rattle.saved.specs.Archive.{placed_head, placed_numbers, placed_limits, placed_line}
use Rattle.saved.specs.Archives.{ArchiveLength}
use Rattle.saved.specs.Conversion.{FirstLength}
use Rattle.saved.specs.Theorems.{SavedLength}
use Rattle.saved.proofs.Spelling.{character-numbered}
use Rattle.saved.proofs.Bounds.{site-at_most, character-at_most}
use Rattle.saved.proofs.Trips.{second-says}

-- ---- one line

-- the longest line of a site, of a character and of a pending toggle in each form
abbrev site_most : Version → ℕ
site_most First = 11
site_most Second = 12

abbrev character_most : Version → ℕ
character_most First = 39
character_most Second = 41

abbrev toggle_most : Version → ℕ
toggle_most First = 14
toggle_most Second = 18

site-limits : (v : Version) → length (line_of (site_head v) site_limits) ≡ site_most v
unfolding line_of digits digits_in
site-limits First = refl
site-limits Second = refl

character-limits : (v : Version) → length (line_of character_head (character_limits v)) ≡ character_most v
unfolding line_of digits digits_in
character-limits First = refl
character-limits Second = refl

site-length : (v : Version) (s : Site) → site_in_range s ≡ true → length (site_line v s) ≤ site_most v
unfolding site_line site_numbers site_of
site-length v s e = rw (site-limits v) at (line_le (site_head v) site_limits (site_numbers s) (omega arith) (site-at_most (site_numbers s) e))

-- the numbers of a character in range that the form can say
numbers_at_most : (v : Version) (c : Character) → character_within v c ≡ true → character_in_range c ≡ true
    → at_most (character_limits v) (character_numbers v c) ≡ true
numbers_at_most v c h e =
    let same = (character-numbered v).said c in
    character-at_most v (character_numbers v c) (ap (character_within v) same ∙ h) (ap character_in_range same ∙ e)

character-length : (v : Version) (c : Character) → character_within v c ≡ true → character_in_range c ≡ true → length (character_line v c) ≤ character_most v
unfolding character_line character_numbers
character-length v c h e =
    rw (character-limits v) at (line_le character_head (character_limits v) (character_numbers v c) (omega arith) (numbers_at_most v c h e))

toggle_length : (v : Version) (t : Toggle) → in_range (toggle t) ≡ true → length (saved_line v (toggle t)) ≤ toggle_most v
unfolding saved_line
toggle_length First t e = delete_length t e
toggle_length Second t e = line_lengths.1 t e

insert-length : (v : Version) (i : Insert) → in_range (insert i) ≡ true → length (saved_line v (insert i)) ≤ 37
unfolding saved_line
insert-length First i e = line_lengths.0 i e
insert-length Second i e = line_lengths.0 i e

placed-length : (p : Placed) → place_in_range p ≡ true → character_in_range p.character ≡ true → length (placed_line p) ≤ 46
unfolding placed_line placed_numbers character_numbers character_within place_in_range within line_of digits digits_in
placed-length p h e =
    line_le placed_head placed_limits (placed_numbers p) (omega arith)
    (and_intro (and_right (leb 1 p.place) (leb p.place capacity) h) (numbers_at_most Second p.character refl e))

-- ---- all lines

-- the rows, where two tests bound each
rows-length : {A : Type 0} (line : A → List ℕ) (k : ℕ) (p q : A → Bool) → ((x : A) → p x ≡ true → q x ≡ true → length (line x) ≤ k)
    → (xs : List A) → every p xs ≡ true → every q xs ≡ true → length (concatenated line xs) ≤ k * length xs
rows-length line k p q each [] h e = omega arith
rows-length line k p q each (x ∷ xs) h e =
    omega (
      arith,
      mul-suc k (length xs),
      length-append (line x) (concatenated line xs),
      each x (and_left_lem (p x) (every p xs) h) (and_left_lem (q x) (every q xs) e),
      rows-length line k p q each xs (and_right (p x) (every p xs) h) (and_right (q x) (every q xs) e),
    )

operations-length : (v : Version) (os : List Operation) → every in_range os ≡ true
    → length (concatenated (saved_line v) os) ≤ 37 * length (inserts os) + toggle_most v * length (toggles_among os)
operations-length v [] e = omega arith
operations-length v (insert i ∷ os) e =
    omega (
      arith,
      length-append (saved_line v (insert i)) (concatenated (saved_line v) os),
      insert-length v i (and_left_lem (in_range (insert i)) (every in_range os) e),
      operations-length v os (and_right (in_range (insert i)) (every in_range os) e),
    )
operations-length v (toggle d ∷ os) e =
    omega (
      arith,
      mul-suc (toggle_most v) (length (toggles_among os)),
      length-append (saved_line v (toggle d)) (concatenated (saved_line v) os),
      toggle_length v d (and_left_lem (in_range (toggle d)) (every in_range os) e),
      operations-length v os (and_right (in_range (toggle d)) (every in_range os) e),
    )

toggles-le : (os : List Operation) → length (toggles_among os) ≤ length os
toggles-le [] = omega arith
toggles-le (insert i ∷ os) = omega (arith, toggles-le os)
toggles-le (toggle d ∷ os) = omega (arith, toggles-le os)

-- the most of each line, as often as there are lines
most : {A : Type 0} (v : Version) (line : A → List ℕ) (k : ℕ) (site : Site) (rows : List A) (os : List Operation)
    → site_in_range site ≡ true → length (concatenated line rows) ≤ k * length rows → every in_range os ≡ true
    → length (bytes_with v line site rows os) ≤ site_most v + k * length rows + (37 * length (inserts os) + toggle_most v * length (toggles_among os))
unfolding bytes_with
most v line k site rows os h few ranged =
    let middle = concatenated line rows in
    omega (
      arith,
      length-append (site_line v site ++ middle) (concatenated (saved_line v) os),
      length-append (site_line v site) middle,
      site-length v site h,
      few,
      operations-length v os ranged,
    )

saved-most : (v : Version) (s : State) → well_formed s ≡ true → representable v s ≡ true
    → length (bytes_as v s)
    ≤ site_most v + character_most v * length s.characters + (37 * length (inserts s.pending) + toggle_most v * length (toggles_among s.pending))
unfolding representable
saved-most v s h k =
    let f = formed s h in
    most v (character_line v) (character_most v) s.site s.characters s.pending f.site
    (rows-length (character_line v) (character_most v) (character_within v) character_in_range (character-length v) s.characters
    (and_left_lem (every (character_within v) s.characters) (every (operation_within v) s.pending) k) f.sound.ranges)
    f.sound.pending-ranges

pub saved-length : SavedLength
saved-length s h =
    let f = formed s h in
    omega (arith, saved-most Second s h (second-says s), toggles-le s.pending, pending-bound f.sound, f.sound.room)

pub first-length : FirstLength
first-length s h k =
    let f = formed s h in
    omega (arith, saved-most First s h k, toggles-le s.pending, pending-bound f.sound, f.sound.room)

-- an archive has as many rows as there are characters
archived-rows : (cs : List Character) → length (archived cs) ≡ length cs
archived-rows cs =
    sym (length-map (archived cs) (λ (p : Placed). p.character)) ∙ sym (keep_all (λ (c : Character). true) (characters_of (archived cs)) (λ c m. refl))
    ∙ (rows_permuted.0 cs).1 (λ c. true)
    ∙ keep_all (λ (c : Character). true) cs (λ c m. refl)

pub archive_length : ArchiveLength
unfolding archive_in_range archive_of all_in_range
archive_length s h =
    let f = formed s h in
    let rows = archived s.characters in
    let r = archive-in-range s h in
    let places = and_left_lem (every place_in_range rows) _ r in
    let ranged = three (site_in_range s.site) (every character_in_range (characters_of rows)) (every in_range s.pending)
    (and_right (every place_in_range rows) _ r) in
    let few = rows-length placed_line 46 place_in_range (λ (p : Placed). character_in_range p.character) placed-length rows places
    (sym (every_map (λ (p : Placed). p.character) character_in_range rows) ∙ ranged.1) in
    omega (
      arith,
      most Second placed_line 46 s.site rows s.pending ranged.0 few ranged.2,
      archived-rows s.characters,
      toggles-le s.pending,
      pending-bound f.sound,
      f.sound.room,
    )
