-- The round trips of the whole: the lines of what is written are those of the site, of the characters and of the pending
-- operations; and bytes with the layout are the lines of what they say.
use Rattle.std.proofs.Common.{Ok}
use mathlib.Core.Path.{◌≡◌, refl, sym, ap, ap₂, ◌∙◌, subst}
use mathlib.Core.List.{List, [], ◌∷◌, ◌++◌, map, append-nil, append_assoc}
use mathlib.Core.Bool.{Bool, true, false, ◌&&◌}
use Prim.Native.Nat.{ℕ}
use native.Mathlib.Omega.{arith}
use lib.ListN.{drop}
use Rattle.lists.specs.Lists.{every}
use Rattle.woot.specs.declared.Site.{Site}
use Rattle.woot.specs.declared.Operation.{Operation}
use Rattle.woot.specs.declared.Operation.TheVariants.{Insert as insert, Toggle as toggle}
use Rattle.woot.specs.Ranges.{site_in_range, character_in_range, in_range}
use Rattle.woot.specs.State.{State}
use Rattle.woot.specs.Memory.{meaning, stored}
use Rattle.woot.specs.Form.{all_in_range, shares_kept, capacity_kept, identifiers_distinct, toggles_distinct, neighbours_ordered, none_executable, clock_kept}
use Rattle.woot.specs.Form.{well_formed, raised}
use Rattle.convergence.proofs.Hearing.{raising}
use Rattle.convergence.proofs.Ranges.{toggle-in-range}
use borrow.Author.Tests.{eq-eqb, leb-true, not-false}
use Rattle.lists.proofs.Tests.{and_left_lem, and_right, and_intro, three, seven}
use Rattle.lines.specs.Lines.{has, lines, rest, closed, leading, trailing, concatenated}
use Rattle.lines.specs.Fields.{fields, has_layout, values_of, line_of}
use Rattle.codec.specs.Operations.{insert_head, delete_head, toggle_head}
use Rattle.saved.specs.declared.Version.{Version}
use Rattle.saved.specs.declared.Version.TheVariants.{First, Second}
use Rattle.saved.specs.Format.{site_line, is_site, site_said, character_line, is_character, character_said, is_operation, operation_said, saved_line}
use Rattle.saved.specs.Format.{head_line, row_lines, operation_lines, laid_out_as, state_as, character_within, operation_within, representable}
use Rattle.saved.specs.Format.{in_range_as, bytes_as, saved_laid_out, saved_in_range, saved_bytes, laid_out_with, bytes_with}
use Rattle.saved.specs.Calls.{loaded_as, raising_as, loaded_state, loaded, load_number}
use Rattle.replica.specs.Tables.{Searches}
use Rattle.replica.proofs.Tables.{stored_searches}
use Rattle.replica.proofs.Runs.{formed-within, meaning-stored, form_meant}
use Rattle.saved.specs.declared.Loaded.{Loaded}
use Rattle.saved.specs.Conversion.{ReadsBackAs}
use Rattle.saved.specs.Theorems.{SavedReadsBack, LoadedWritesBack, RaisedWritesBack, LoadedFormed, LoadedSearches, TableAloneDiffers}
use Rattle.lines.proofs.Lines.{whole, rejoined, apart, concatenated-append, head_first}
use Rattle.saved.proofs.Spelling.{Numbered, bare, first-line, ends_same, leaves-rest, is_laid, says_it, written-again, site-numbered}
use Rattle.saved.proofs.Spelling.{character-numbered, bare_operation, told, operation-lines, operation_closed, operation_laid, operation_back}
use Rattle.saved.proofs.Spelling.{operation_other, operation_again}
use Rattle.saved.proofs.Refusals.{load-done, load_numbers}

-- ---- lists of lines

module _ {A : Type 0} (line bare : A → List ℕ) where
  -- each is a line before any bytes, and so are all
  lines-joined : ((x : A) (bytes : List ℕ) → lines (line x ++ bytes) ≡ bare x ∷ lines bytes) → (xs : List A) (bytes : List ℕ)
      → lines (concatenated line xs ++ bytes) ≡ map bare xs ++ lines bytes
  lines-joined each [] bytes = refl
  lines-joined each (x ∷ xs) bytes =
      ap lines (append_assoc (line x) (concatenated line xs) bytes) ∙ each x (concatenated line xs ++ bytes)
      ∙ ap (λ (ls : List (List ℕ)). bare x ∷ ls) (lines-joined each xs bytes)

  closed-joined : ((x : A) (bytes : List ℕ) → closed (line x ++ bytes) ≡ closed bytes) → (xs : List A) (bytes : List ℕ)
      → closed (concatenated line xs ++ bytes) ≡ closed bytes
  closed-joined each [] bytes = refl
  closed-joined each (x ∷ xs) bytes =
      ap closed (append_assoc (line x) (concatenated line xs) bytes) ∙ each x (concatenated line xs ++ bytes) ∙ closed-joined each xs bytes

pub every-always : {A : Type 0} (xs : List A) → every (λ x. true) xs ≡ true
every-always [] = refl
every-always (x ∷ xs) = every-always xs

module _ {A B : Type 0} where
  map-told : (f : A → B) (g : B → A) (p : B → Bool) → ((x : B) → p x ≡ true → f (g x) ≡ x) → (xs : List B) → every p xs ≡ true → map f (map g xs) ≡ xs
  map-told f g p back [] e = refl
  map-told f g p back (x ∷ xs) e =
      ap₂ (λ (y : B) (ys : List B). y ∷ ys) (back x (and_left_lem (p x) (every p xs) e)) (map-told f g p back xs (and_right (p x) (every p xs) e))

  map_back : (f : A → B) (g : B → A) → ((x : B) → f (g x) ≡ x) → (xs : List B) → map f (map g xs) ≡ xs
  map_back f g back [] = refl
  map_back f g back (x ∷ xs) = ap₂ (λ (y : B) (ys : List B). y ∷ ys) (back x) (map_back f g back xs)

  every_map : (p : A → Bool) (g : B → A) → ((x : B) → p (g x) ≡ true) → (xs : List B) → every p (map g xs) ≡ true
  every_map p g all [] = refl
  every_map p g all (x ∷ xs) = rw (all x) (every_map p g all xs)

module _ {A : Type 0} (p : A → Bool) where
  -- elements that pass, before others
  leading-append : (xs ys : List A) → every p xs ≡ true → leading p (xs ++ ys) ≡ xs ++ leading p ys
  leading-append [] ys e = refl
  leading-append (x ∷ xs) ys e =
      rw (and_left_lem (p x) (every p xs) e) (ap (λ (zs : List A). x ∷ zs) (leading-append xs ys (and_right (p x) (every p xs) e)))

  trailing-append : (xs ys : List A) → every p xs ≡ true → trailing p (xs ++ ys) ≡ trailing p ys
  trailing-append [] ys e = refl
  trailing-append (x ∷ xs) ys e = rw (and_left_lem (p x) (every p xs) e) (trailing-append xs ys (and_right (p x) (every p xs) e))

  -- elements that fail
  module _ {B : Type 0} (g : B → A) (fail : (x : B) → p (g x) ≡ false) where
    leading-none : (xs : List B) → leading p (map g xs) ≡ []
    leading-none [] = refl
    leading-none (x ∷ xs) = rw (fail x)

    trailing-all : (xs : List B) → trailing p (map g xs) ≡ map g xs
    trailing-all [] = refl
    trailing-all (x ∷ xs) = rw (fail x)

  pub every-leading : (xs : List A) → every p (leading p xs) ≡ true
  every-leading [] = refl
  every-leading (x ∷ xs) = go (p x) refl (every-leading xs)
    where
      go : (t : Bool) → p x ≡ t → every p (leading p xs) ≡ true → every p (leading p (x ∷ xs)) ≡ true
      go true e others = rw (e, e) others
      go false e others = rw e

-- lines that each are written again as they were
joined-again : {A : Type 0} (line : A → List ℕ) (say : List ℕ → A) (p : List ℕ → Bool) → ((l : List ℕ) → p l ≡ true → line (say l) ≡ whole l)
    → (ls : List (List ℕ)) → every p ls ≡ true → concatenated line (map say ls) ≡ concatenated whole ls
joined-again line say p each [] e = refl
joined-again line say p each (l ∷ ls) e =
    ap₂ (λ (a b : List ℕ). a ++ b) (each l (and_left_lem (p l) (every p ls) e)) (joined-again line say p each ls (and_right (p l) (every p ls) e))

-- ---- a file whose rows are one letter and numbers, which no operation begins with

closed_none : closed [] ≡ true
unfolding closed
closed_none = refl

pub no-site : (v : Version) → is_site v [] ≡ false
unfolding is_site has_layout
no-site First = refl
no-site Second = refl

-- what the layout asks
pub parts : (v : Version) (is_row : List ℕ → Bool) (s : List ℕ) → laid_out_with v is_row s ≡ true
    → (closed s ≡ true) × (is_site v (head_line s) ≡ true) × (every (is_operation v) (operation_lines is_row s) ≡ true)
unfolding laid_out_with
parts v is_row s l = three (closed s) (is_site v (head_line s)) (every (is_operation v) (operation_lines is_row s)) l

module _ {A : Type 0} (v : Version) {letter count : ℕ} {numbers : A → List ℕ} {of : List ℕ → A} (w : Numbered (letter ∷ []) count numbers of)
    (foreign : has letter (insert_head ++ delete_head ++ toggle_head) ≡ false) where
  abbrev is : List ℕ → Bool
  is line = has_layout (letter ∷ []) count (fields line)

  abbrev says : List ℕ → A
  says line = of (values_of (fields line))

  abbrev written : A → List ℕ
  written x = line_of (letter ∷ []) (numbers x)

  -- what is written, read: any site, rows and operations
  module _ (site : Site) (rows : List A) (pending : List Operation) where
    later : List ℕ
    later = concatenated written rows ++ concatenated (saved_line v) pending

    later-lines : lines later ≡ map (bare w) rows ++ map (bare_operation v) pending
    unfolding later
    later-lines =
        lines-joined written (bare w) (first-line w) rows (concatenated (saved_line v) pending)
        ∙ ap (λ (ls : List (List ℕ)). map (bare w) rows ++ ls)
        (ap lines (sym (append-nil (concatenated (saved_line v) pending)))
        ∙ lines-joined (saved_line v) (bare_operation v) (λ o bytes. operation-lines v bytes o) pending []
        ∙ append-nil (map (bare_operation v) pending))

    -- the bytes after the first line
    site-first : bytes_with v written site rows pending ≡ site_line v site ++ later
    unfolding bytes_with later
    site-first = append_assoc (site_line v site) (concatenated written rows) (concatenated (saved_line v) pending)

    pub rest-after : rest (bytes_with v written site rows pending) ≡ concatenated written rows ++ concatenated (saved_line v) pending
    unfolding site_line later
    rest-after = ap rest site-first ∙ leaves-rest (site-numbered v) site later

    written-lines : lines (bytes_with v written site rows pending) ≡ bare (site-numbered v) site ∷ map (bare w) rows ++ map (bare_operation v) pending
    unfolding site_line
    written-lines =
        ap lines site-first ∙ first-line (site-numbered v) site later ∙ ap (λ (ls : List (List ℕ)). bare (site-numbered v) site ∷ ls) later-lines

    written-closed : closed (bytes_with v written site rows pending) ≡ true
    unfolding site_line later
    written-closed =
        ap closed site-first
        ∙ ends_same (site-numbered v) site later
        ∙ closed-joined written (bare w) (ends_same w) rows (concatenated (saved_line v) pending)
        ∙ ap closed (sym (append-nil (concatenated (saved_line v) pending)))
        ∙ closed-joined (saved_line v) (bare_operation v) (λ o bytes. operation_closed v bytes o) pending []
        ∙ closed_none

    written-head : head_line (bytes_with v written site rows pending) ≡ bare (site-numbered v) site
    unfolding head_line
    written-head = rw written-lines

    passed : every is (map (bare w) rows) ≡ true
    passed = every_map is (bare w) (is_laid w) rows

    row-lines : row_lines is (bytes_with v written site rows pending) ≡ map (bare w) rows
    unfolding row_lines
    row-lines =
        rw written-lines
        (leading-append is (map (bare w) rows) (map (bare_operation v) pending) passed
        ∙ rw (leading-none is (bare_operation v) (operation_other v letter count foreign) pending) (append-nil (map (bare w) rows)))

    pending-lines : operation_lines is (bytes_with v written site rows pending) ≡ map (bare_operation v) pending
    unfolding operation_lines
    pending-lines =
        rw written-lines
        (trailing-append is (map (bare w) rows) (map (bare_operation v) pending) passed
        ∙ trailing-all is (bare_operation v) (operation_other v letter count foreign) pending)

    pub written_laid : laid_out_with v is (bytes_with v written site rows pending) ≡ true
    unfolding laid_out_with is_site
    written_laid =
        rw (written-closed, written-head, is_laid (site-numbered v) site, pending-lines)
        (every_map (is_operation v) (bare_operation v) (operation_laid v) pending)

    pub site-back : site_said (head_line (bytes_with v written site rows pending)) ≡ site
    unfolding site_said
    site-back = rw written-head (says_it (site-numbered v) site)

    pub rows_back : map says (row_lines is (bytes_with v written site rows pending)) ≡ rows
    rows_back = rw row-lines (map_back says (bare w) (says_it w) rows)

    -- where the form tells every pending operation wholly
    pub pending-back : every (told v) pending ≡ true → map operation_said (operation_lines is (bytes_with v written site rows pending)) ≡ pending
    pending-back wholly = rw pending-lines (map-told operation_said (bare_operation v) (told v) (operation_back v) pending wholly)

  -- what is read, written
  module _ (s : List ℕ) (l : laid_out_with v is s ≡ true) where
    rows_laid : every is (row_lines is s) ≡ true
    unfolding row_lines
    rows_laid = every-leading is (drop 1 (lines s))

    all_lines : lines s ≡ head_line s ∷ row_lines is s ++ operation_lines is s
    unfolding head_line row_lines operation_lines
    all_lines =
        head_first (is_site v) (no-site v) (lines s) (parts v is s l).1 ∙ ap (λ (ls : List (List ℕ)). head_line s ∷ ls) (apart is (drop 1 (lines s)))

    pub again : bytes_with v written (site_said (head_line s)) (map says (row_lines is s)) (map operation_said (operation_lines is s)) ≡ s
    unfolding bytes_with site_line site_said is_site
    again =
        let cs : concatenated written (map says (row_lines is s)) ≡ concatenated whole (row_lines is s) =
        joined-again written says is (written-again w) (row_lines is s) rows_laid
        in
        let os : concatenated (saved_line v) (map operation_said (operation_lines is s)) ≡ concatenated whole (operation_lines is s) =
        joined-again (saved_line v) operation_said (is_operation v) (operation_again v) (operation_lines is s) (parts v is s l).2
        in
        rw (written-again (site-numbered v) (head_line s) (parts v is s l).1, cs, os)
        (append_assoc (whole (head_line s)) (concatenated whole (row_lines is s)) (concatenated whole (operation_lines is s))
        ∙ ap (λ (b : List ℕ). whole (head_line s) ++ b) (sym (concatenated-append whole (row_lines is s) (operation_lines is s)))
        ∙ sym (rejoined s (parts v is s l).0 ∙ ap (concatenated whole) all_lines))

-- ---- a saved replica: what is written, read, any state, in form or not

module _ (v : Version) (s : State) where
  pub saved_laid : laid_out_as v (bytes_as v s) ≡ true
  unfolding is_character character_line
  saved_laid = written_laid v (character-numbered v) refl s.site s.characters s.pending

  pub saved-says : every (told v) s.pending ≡ true → state_as v (bytes_as v s) ≡ s
  unfolding state_as is_character character_said character_line
  saved-says wholly =
      λ j. record {
        site = site-back v (character-numbered v) refl s.site s.characters s.pending j;
        characters = rows_back v (character-numbered v) refl s.site s.characters s.pending j;
        pending = pending-back v (character-numbered v) refl s.site s.characters s.pending wholly j;
      }

formed_ranges : (s : State) → well_formed s ≡ true → all_in_range s ≡ true
unfolding well_formed
formed_ranges s h = (seven (all_in_range s) _ _ _ _ _ _ (and_left_lem _ (clock_kept s) h)).0

pub formed_clock : (s : State) → well_formed s ≡ true → clock_kept s ≡ true
unfolding well_formed
formed_clock s h =
    let lists = all_in_range s && shares_kept s && capacity_kept s && identifiers_distinct s && toggles_distinct s && neighbours_ordered s && none_executable s in
    and_right lists (clock_kept s) h

-- a pending operation in range that the form can say is told wholly by it
told-one : (v : Version) (o : Operation) → in_range o ≡ true → operation_within v o ≡ true → told v o ≡ true
unfolding in_range operation_within
told-one First (insert i) h k = refl
told-one First (toggle t) h k = eq-eqb t.toggles 1 (omega (arith, (toggle-in-range t h).least, leb-true t.toggles 1 k))
told-one Second o h k = refl

all_told : (v : Version) (s : State) → well_formed s ≡ true → every (operation_within v) s.pending ≡ true → every (told v) s.pending ≡ true
unfolding all_in_range
all_told v s h k =
    let r = three (site_in_range s.site) (every character_in_range s.characters) (every in_range s.pending) (formed_ranges s h) in
    go s.pending r.2 k
  where
    go : (os : List Operation) → every in_range os ≡ true → every (operation_within v) os ≡ true → every (told v) os ≡ true
    go [] p q = refl
    go (o ∷ os) p q =
        and_intro (told-one v o (and_left_lem (in_range o) (every in_range os) p) (and_left_lem (operation_within v o) (every (operation_within v) os) q))
        (go os (and_right (in_range o) (every in_range os) p) (and_right (operation_within v o) (every (operation_within v) os) q))

-- a state in form that the form can say is read back, and needs no raising
module _ (v : Version) (s : State) (h : well_formed s ≡ true) (k : representable v s ≡ true) where
  pub says_back : state_as v (bytes_as v s) ≡ s
  unfolding representable
  says_back = saved-says v s (all_told v s h (and_right (every (character_within v) s.characters) (every (operation_within v) s.pending) k))

  pub in_range-back : in_range_as v (bytes_as v s) ≡ true
  unfolding in_range_as representable
  in_range-back =
      rw (says_back, and_left_lem (every (character_within v) s.characters) (every (operation_within v) s.pending) k) (formed_ranges s h)

  pub loads_back : loaded_as v (bytes_as v s) ≡ s
  unfolding loaded_as
  loads_back = ap raised says_back ∙ (raising s).still.1 (formed_clock s h)

  pub unraised : raising_as v (bytes_as v s) ≡ false
  unfolding raising_as
  unraised = rw (says_back, formed_clock s h)

pub reads-back_as : ReadsBackAs
reads-back_as v s h k = (saved_laid v s, in_range-back v s h k, loads_back v s h k)

-- the second form says every state
pub second-says : (s : State) → representable Second s ≡ true
unfolding representable character_within operation_within
second-says s = and_intro (every-always s.characters) (every-always s.pending)

pub saved_loads : (s : State) → well_formed s ≡ true → loaded_state (saved_bytes s) ≡ s
saved_loads s h = loads_back Second s h (second-says s)

pub saved-reads-back : SavedReadsBack
saved-reads-back s h =
    let k = second-says s in
    let d = load-done (saved_bytes s) (saved_laid Second s) (in_range-back Second s h k) (ap well_formed (saved_loads s h) ∙ h) in
    (ap (λ w. w.answer) d, ap (λ w. w.replica) d ∙ ap stored (saved_loads s h), unraised Second s h k)

-- ---- what is read, written

module _ (v : Version) (s : List ℕ) (l : laid_out_as v s ≡ true) where
  pub says-saved : bytes_as v (state_as v s) ≡ s
  unfolding state_as is_character character_said character_line
  says-saved = again v (character-numbered v) refl s l

  -- of what loading makes, the first line alone may differ
  pub loaded-again : bytes_as v (loaded_as v s) ≡ site_line v (loaded_as v s).site ++ rest s
  unfolding loaded_as raised character_line later
  loaded-again =
      let t = state_as v s in
      site-first v (character-numbered v) refl (loaded_as v s).site t.characters t.pending
      ∙ ap (λ (b : List ℕ). site_line v (loaded_as v s).site ++ b)
      (sym (ap rest (sym says-saved) ∙ rest-after v (character-numbered v) refl t.site t.characters t.pending))

  pub unraised_again : raising_as v s ≡ false → bytes_as v (loaded_as v s) ≡ s
  unfolding raising_as loaded_as
  unraised_again n = ap (bytes_as v) ((raising (state_as v s)).still.1 (not-false (clock_kept (state_as v s)) n)) ∙ says-saved

-- what was read says the state and is in form
module _ (s : List ℕ) (e : (loaded s).answer ≡ Ok tt) where
  was_read : (saved_laid_out s ≡ true) × (saved_in_range s ≡ true) × (well_formed (loaded_state s) ≡ true)
  unfolding load_number
  was_read = (load_numbers s).3.0 (ap load_number e)

  read-means : meaning (loaded s).replica ≡ loaded_state s
  read-means =
      ap (λ w. meaning w.replica) (load-done s was_read.0 was_read.1 was_read.2)
      ∙ meaning-stored (loaded_state s) (formed-within (loaded_state s) was_read.2)

pub loaded-writes-back : LoadedWritesBack
loaded-writes-back s e n = ap saved_bytes (read-means s e) ∙ unraised_again Second s (was_read s e).0 n

pub raised-writes-back : RaisedWritesBack
raised-writes-back s e = ap saved_bytes (read-means s e) ∙ loaded-again Second s (was_read s e).0

pub loaded-formed : LoadedFormed
loaded-formed s e = ap well_formed (read-means s e) ∙ (was_read s e).2

-- ---- the table

pub loaded_searches : LoadedSearches
loaded_searches s e =
    let w = was_read s e in
    let d = load-done s w.0 w.1 w.2 in
    subst Searches (sym (ap (λ (x : Loaded). x.replica) d)) (stored_searches (loaded_state s) w.2)

pub table_alone_differs : TableAloneDiffers
table_alone_differs r f =
    let means = form_meant r f in
    let back = saved-reads-back (meaning r) means in
    (back.0, ap meaning back.1 ∙ meaning-stored (meaning r) (formed-within (meaning r) means))
