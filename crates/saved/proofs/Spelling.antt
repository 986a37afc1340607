-- A line of a saved replica or an archive is spelled in one way only: what is written is read as it was, and what is read is
-- written as it was.
use mathlib.Core.Path.{◌≡◌, refl, sym, ap, ◌∙◌, subst}
use mathlib.Core.List.{List, [], ◌∷◌, ◌++◌}
use mathlib.Core.Bool.{Bool, true, false}
use Prim.Native.Nat.{ℕ, zero, suc}
use native.Mathlib.Omega.{arith}
use lib.Dec.{eqb}
use lib.ListN.{length, get_or, drop, length-drop, drop_of_length-le}
use borrow.Author.Tests.{eqb-true, eqb-false}
use Rattle.woot.specs.declared.Insert.{Insert}
use Rattle.woot.specs.declared.Toggle.{Toggle}
use Rattle.woot.specs.declared.Operation.{Operation}
use Rattle.woot.specs.declared.Operation.TheVariants.{Insert as insert, Toggle as toggle}
use Rattle.lists.proofs.Tests.{or_right, clash}
use Rattle.lines.specs.Lines.{line_feed, has, lines, rest, closed}
use Rattle.lines.specs.Fields.{tab, fields, has_layout, values_of, columns, line_of}
use Rattle.codec.specs.Operations.{insert_head, toggle_head, delete_head, insert_numbers, toggle_numbers, delete_numbers, identifier_at, insert_of, toggle_of}
use Rattle.codec.specs.Operations.{delete_of, is_insert, is_toggle, is_delete, operation_of, operation_line}
use Rattle.codec.specs.Calls.{as_written, as_written_first}
use Rattle.lines.proofs.Spelling.{layout_line, values_line, spelled, other-letter}
use Rattle.codec.proofs.Trips.{from_place, insert_numbers_back, toggle_numbers_back, delete_numbers_back}
use Rattle.codec.proofs.Letters.{delete_alone}
use Rattle.saved.specs.declared.Version.{Version}
use Rattle.saved.specs.declared.Version.TheVariants.{First, Second}
use Rattle.saved.specs.Format.{site_head, site_numbers, site_of, character_head, toggle_field, character_numbers, character_of, is_operation}
use Rattle.saved.specs.Format.{operation_said, saved_line}
use Rattle.saved.specs.Archive.{placed_head, placed_numbers, placed_of}
use Rattle.lines.proofs.Lines.{whole, lines_line, closed_line, line_rest, respelled}

-- ---- a line of a head word and numbers, whatever it says

-- each value has as many numbers, which say it, and as many numbers are those of what they say
pub record Numbered {A : Type 0} (head : List ℕ) (count : ℕ) (numbers : A → List ℕ) (of : List ℕ → A) : Type 0 where
  pub no-feed : has line_feed head ≡ false
  pub no-tab : has tab head ≡ false
  pub counted : (x : A) → length (numbers x) ≡ count
  pub said : (x : A) → of (numbers x) ≡ x
  pub numbered : (ns : List ℕ) → length ns ≡ count → numbers (of ns) ≡ ns

module _ {A : Type 0} {head : List ℕ} {count : ℕ} {numbers : A → List ℕ} {of : List ℕ → A} (w : Numbered head count numbers of) where
  -- the line without its line feed
  abbrev pub bare : A → List ℕ
  bare x = head ++ columns (numbers x)

  -- it is the first line, whatever bytes follow, and those decide whether the last line is ended
  pub first-line : (x : A) (bytes : List ℕ) → lines (line_of head (numbers x) ++ bytes) ≡ bare x ∷ lines bytes
  first-line x bytes = lines_line head (numbers x) bytes w.no-feed

  pub ends_same : (x : A) (bytes : List ℕ) → closed (line_of head (numbers x) ++ bytes) ≡ closed bytes
  ends_same x bytes = closed_line head (numbers x) bytes

  pub leaves-rest : (x : A) (bytes : List ℕ) → rest (line_of head (numbers x) ++ bytes) ≡ bytes
  leaves-rest x bytes = line_rest head (numbers x) bytes w.no-feed

  -- what is written, read
  pub is_laid : (x : A) → has_layout head count (fields (bare x)) ≡ true
  is_laid x = layout_line head (numbers x) w.no-tab count (w.counted x)

  pub says_it : (x : A) → of (values_of (fields (bare x))) ≡ x
  says_it x = ap of (values_line head (numbers x) w.no-tab) ∙ w.said x

  -- what is read, written
  pub written-again : (line : List ℕ) → has_layout head count (fields line) ≡ true → line_of head (numbers (of (values_of (fields line)))) ≡ whole line
  written-again line h = respelled head count line _ h (w.numbered (values_of (fields line)) (spelled head count line h).1)

-- ---- a site, and a row of either kind

pub site-numbered : (v : Version) → Numbered (site_head v) 2 site_numbers site_of
unfolding site_numbers site_of
site-numbered v =
    record {
      no-feed = feed v;
      no-tab = tabs v;
      counted = λ s. refl;
      said = λ s. refl;
      numbered = λ ns e. sym (from_place ns 0 (omega arith) (from_place ns 1 (omega arith) (drop_of_length-le ns {i = 2} (omega arith))));
    }
  where
    feed : (v : Version) → has line_feed (site_head v) ≡ false
    feed First = refl
    feed Second = refl

    tabs : (v : Version) → has tab (site_head v) ≡ false
    tabs First = refl
    tabs Second = refl

-- the number is told from the toggles and they from it
pub toggle_field-back : (v : Version) (n : ℕ) → toggle_field v (toggle_field v n) ≡ n
unfolding toggle_field
toggle_field-back First zero = refl
toggle_field-back First (suc zero) = refl
toggle_field-back First (suc (suc n)) = refl
toggle_field-back Second n = refl

pub character-numbered : (v : Version) → Numbered character_head 8 (character_numbers v) (character_of v)
unfolding character_numbers character_of identifier_at
character-numbered v =
    record {
      no-feed = refl;
      no-tab = refl;
      counted = λ c. refl;
      said = λ c. rw (toggle_field-back v c.toggles);
      numbered = λ ns e.
          rw (toggle_field-back v (get_or ns 3 0))
          (sym
          (from_place ns 0 (omega arith)
          (from_place ns 1 (omega arith)
          (from_place ns 2 (omega arith)
          (from_place ns 3 (omega arith)
          (from_place ns 4 (omega arith)
          (from_place ns 5 (omega arith)
          (from_place ns 6 (omega arith) (from_place ns 7 (omega arith) (drop_of_length-le ns {i = 8} (omega arith)))))))))));
    }

-- a place before what the second form has
pub placed-numbered : Numbered placed_head 9 placed_numbers placed_of
unfolding placed_numbers placed_of
placed-numbered =
    let w = character-numbered Second in
    record {
      no-feed = refl;
      no-tab = refl;
      counted = λ p. ap suc (w.counted p.character);
      said = λ p i. record { place = p.place; character = w.said p.character i };
      numbered = λ ns e.
          ap (λ (ms : List ℕ). get_or ns 0 0 ∷ ms) (w.numbered (drop 1 ns) (omega (arith, length-drop 1 ns)))
          ∙ sym (from_place ns 0 (omega arith) refl);
    }

-- ---- a pending operation

-- the head word and the numbers of a toggle
abbrev pub bare_toggle : Version → Toggle → List ℕ
bare_toggle First t = delete_head ++ columns (delete_numbers t)
bare_toggle Second t = toggle_head ++ columns (toggle_numbers t)

abbrev pub bare_operation : Version → Operation → List ℕ
bare_operation v (insert i) = insert_head ++ columns (insert_numbers i)
bare_operation v (toggle t) = bare_toggle v t

pub operation-lines : (v : Version) (bytes : List ℕ) (o : Operation) → lines (saved_line v o ++ bytes) ≡ bare_operation v o ∷ lines bytes
unfolding saved_line operation_line
operation-lines First bytes (insert i) = lines_line insert_head (insert_numbers i) bytes refl
operation-lines First bytes (toggle t) = lines_line delete_head (delete_numbers t) bytes refl
operation-lines Second bytes (insert i) = lines_line insert_head (insert_numbers i) bytes refl
operation-lines Second bytes (toggle t) = lines_line toggle_head (toggle_numbers t) bytes refl

pub operation_closed : (v : Version) (bytes : List ℕ) (o : Operation) → closed (saved_line v o ++ bytes) ≡ closed bytes
unfolding saved_line operation_line
operation_closed First bytes (insert i) = closed_line insert_head (insert_numbers i) bytes
operation_closed First bytes (toggle t) = closed_line delete_head (delete_numbers t) bytes
operation_closed Second bytes (insert i) = closed_line insert_head (insert_numbers i) bytes
operation_closed Second bytes (toggle t) = closed_line toggle_head (toggle_numbers t) bytes

pub operation_laid : (v : Version) (o : Operation) → is_operation v (bare_operation v o) ≡ true
unfolding is_operation as_written as_written_first is_insert is_toggle is_delete insert_numbers toggle_numbers delete_numbers
operation_laid First (insert i) = rw (layout_line insert_head (insert_numbers i) refl 7 refl)
operation_laid First (toggle t) = or_right (is_insert (fields (bare_toggle First t))) _ (layout_line delete_head (delete_numbers t) refl 3 refl)
operation_laid Second (insert i) = rw (layout_line insert_head (insert_numbers i) refl 7 refl)
operation_laid Second (toggle t) = or_right (is_insert (fields (bare_toggle Second t))) _ (layout_line toggle_head (toggle_numbers t) refl 4 refl)

-- what a waiting line of the form says wholly: in the first it does not say the toggles, which are 1
abbrev pub told : Version → Operation → Bool
told First (insert i) = true
told First (toggle t) = eqb t.toggles 1
told Second o = true

insert-back : (i : Insert) → operation_said (insert_head ++ columns (insert_numbers i)) ≡ insert i
unfolding operation_said operation_of is_insert insert_numbers insert_of identifier_at
insert-back i = rw (layout_line insert_head (insert_numbers i) refl 7 refl, values_line insert_head (insert_numbers i) refl)

pub operation_back : (v : Version) (o : Operation) → told v o ≡ true → operation_said (bare_operation v o) ≡ o
unfolding operation_said operation_of is_insert is_toggle toggle_numbers toggle_of delete_numbers delete_of identifier_at
operation_back First (insert i) e = insert-back i
operation_back First (toggle t) e =
    rw (
      other-letter 73 7 (bare_toggle First t) (eqb-false 68 73 refl),
      other-letter 69 4 (bare_toggle First t) (eqb-false 68 69 refl),
      values_line delete_head (delete_numbers t) refl,
    )
    (λ j. toggle (record { sender = t.sender; target = t.target; toggles = sym (eqb-true t.toggles 1 e) j }))
operation_back Second (insert i) e = insert-back i
operation_back Second (toggle t) e =
    rw (
      other-letter 73 7 (bare_toggle Second t) (eqb-false 69 73 refl),
      layout_line toggle_head (toggle_numbers t) refl 4 refl,
      values_line toggle_head (toggle_numbers t) refl,
    )

-- no operation is written with another letter than these
pub operation_other : (v : Version) (letter count : ℕ) → has letter (insert_head ++ delete_head ++ toggle_head) ≡ false → (o : Operation)
    → has_layout (letter ∷ []) count (fields (bare_operation v o)) ≡ false
operation_other v letter count foreign o =
    other-letter letter count (bare_operation v o)
    (λ e. clash (own v o) (subst (λ (b : ℕ). has b (insert_head ++ delete_head ++ toggle_head) ≡ false) (sym e) foreign))
  where
    own : (v : Version) (o : Operation) → has (get_or (bare_operation v o) 0 0) (insert_head ++ delete_head ++ toggle_head) ≡ true
    own First (insert i) = refl
    own First (toggle t) = refl
    own Second (insert i) = refl
    own Second (toggle t) = refl

-- an insert's line is one in both forms
insert-again : (line : List ℕ) → is_insert (fields line) ≡ true → operation_line (operation_said line) ≡ whole line
unfolding is_insert operation_said operation_of operation_line
insert-again line e = rw e (respelled insert_head 7 line _ e (insert_numbers_back (values_of (fields line)) (spelled insert_head 7 line e).1))

pub operation_again : (v : Version) (line : List ℕ) → is_operation v line ≡ true → saved_line v (operation_said line) ≡ whole line
unfolding is_operation as_written as_written_first is_insert is_toggle is_delete operation_said operation_of operation_line saved_line
operation_again First line h = go (is_insert (fields line)) refl
  where
    go : (t : Bool) → is_insert (fields line) ≡ t → saved_line First (operation_said line) ≡ whole line
    go true e = rw e (rw e at (insert-again line e))
    go false e =
        let d : is_delete (fields line) ≡ true = rw e at h in
        let ns = values_of (fields line) in
        rw (e, delete_alone line d) (respelled delete_head 3 line _ d (delete_numbers_back ns (spelled delete_head 3 line d).1))
operation_again Second line h = go (is_insert (fields line)) refl
  where
    go : (t : Bool) → is_insert (fields line) ≡ t → saved_line Second (operation_said line) ≡ whole line
    go true e = insert-again line e
    go false e =
        let d : is_toggle (fields line) ≡ true = rw e at h in
        let ns = values_of (fields line) in
        rw (e, d) (respelled toggle_head 4 line _ d (toggle_numbers_back ns (spelled toggle_head 4 line d).1))
