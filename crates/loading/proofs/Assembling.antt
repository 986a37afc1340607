-- What was read of the lines into lent arrays, put together: where each line has the layout and passes, the arrays hold what
-- the bytes say, as far as they have slots.
use Rattle.std.proofs.Common.{Ok, Err}
use mathlib.Core.Path.{◌≡◌, refl, sym, ap, ap₂, ◌∙◌}
use mathlib.Core.List.{List, [], map}
use mathlib.Core.Bool.{Bool, true, false, ◌&&◌}
use Prim.Native.Nat.{ℕ}
use lib.ListN.{length, take, drop, get_or, length-map}
use Rattle.lists.specs.Lists.{every}
use Rattle.lists.specs.Padding.{pad}
use Rattle.lists.proofs.Tests.{and_right, and_intro}
use Rattle.lists.proofs.Indices.{take-map}
use Rattle.woot.specs.declared.Character.{Character}
use Rattle.woot.specs.declared.Operation.{Operation}
use Rattle.answers.specs.declared.Refusal.TheVariants.{Layout, Range}
use Rattle.answers.specs.Answers.{decided}
use Rattle.woot.specs.Ranges.{site_in_range, character_in_range, in_range}
use Rattle.woot.specs.Memory.{character_slots, pending_slots, toggle_counts}
use Rattle.woot.specs.Form.{all_in_range}
use Rattle.bulk.specs.Archiving.{Placed, characters_of}
use Rattle.lines.specs.Lines.{first_line, rest, lines, closed, leading, trailing}
use Rattle.lines.proofs.Lines.{lines-ended, trailing-drop, lines_rest, closed-rest}
use Rattle.saved.specs.declared.Version.{Version}
use Rattle.saved.specs.declared.Rows.{Rows}
use Rattle.saved.specs.Format.{is_site, site_said, is_operation, operation_said, head_line, row_lines, operation_lines, laid_out_with}
use Rattle.saved.specs.Rows.{version_of, is_row, row_said, row_within, rows_said, rows_laid_out, rows_in_range, rows_checks, rows_answer}
use Rattle.saved.specs.Rows.{characters_held, pending_held, Held}
use Rattle.saved.proofs.Trips.{no-site, every-leading}
use Rattle.std.specs.Prelude.{Result, is_ok}
use Rattle.std.specs.Result.{result_unwrap_or}
use Rattle.decimal.specs.declared.Fault.{Fault}
use Rattle.woot.specs.declared.Site.{Site}
use Rattle.woot.specs.State.{blank_operation}
use Rattle.saved_lines.specs.declared.Row.{Row}
use Rattle.saved_lines.specs.declared.Unread.{Unread}
use Rattle.saved_lines.specs.Judging.{in_layout, said_or, site_read}
use Rattle.saved_lines.proofs.Judging.{site_laid, site-passes, site-says, row-says, operation_says}
use Rattle.loading.specs.declared.filling.Front.{Front}
use Rattle.std.specs.Prelude.{Option, Some, None, is_some}
use Rattle.loading.specs.Reading.{blank_row, line_place, line_character, row_passes, operation_passes}
use Rattle.loading.specs.Filling.{rows_ahead, front_read, line_operation, operations_laid, back_read}
use Rattle.loading.proofs.Collecting.{places-length}
use Rattle.loading.proofs.Gathering.{is-ended}
use Rattle.loading.proofs.Loading.{rows_pass, operations-pass, all_say, map_same, around, skipped}

-- ---- the answer

-- what is read of the operations, where there is any
abbrev read_or_none : Option Front → Front
read_or_none None = record { count = 0; in_range = false }
read_or_none (Some x) = x

module _ (k : Rows) (s : List ℕ) where
  answer-layout : rows_laid_out k s ≡ false → rows_answer k s ≡ Err Layout
  unfolding rows_answer rows_checks decided
  answer-layout e = rw e

  module _ (l : rows_laid_out k s ≡ true) where
    answer-range : rows_in_range k s ≡ false → rows_answer k s ≡ Err Range
    unfolding rows_answer rows_checks decided
    answer-range e = rw (l, e)

    answer-done : rows_in_range k s ≡ true → rows_answer k s ≡ Ok tt
    unfolding rows_answer rows_checks decided
    answer-done e = rw (l, e)

module _ (k : Rows) (s : List ℕ) (first : Result Site (Unread Site)) (f : first ≡ site_read (version_of k) (get_or (lines s) 0 [])) where
  is-site : in_layout first ≡ is_site (version_of k) (head_line s)
  unfolding head_line
  is-site = ap in_layout f ∙ site_laid (version_of k) (head_line s)

  -- the first line is no site's
  pub no-first : in_layout first ≡ false → Err Layout ≡ rows_answer k s
  unfolding rows_laid_out laid_out_with
  no-first e = sym (answer-layout k s (rw (sym is-site ∙ e) (none (closed s))))
    where
      none : (b : Bool) → b && false && every (is_operation (version_of k)) (operation_lines (is_row k) s) ≡ false
      none true = refl
      none false = refl

  -- the first line is one, and a line feed ends it
  pub first-line : in_layout first ≡ true → first_line s ≡ get_or (lines s) 0 []
  unfolding head_line
  first-line l =
      let there : is_site (version_of k) (get_or (lines s) 0 []) ≡ true = sym is-site ∙ l in
      sym (rw (lines-ended s (is-ended (is_site (version_of k)) (no-site (version_of k)) s there)))

  module _ (l : in_layout first ≡ true) {body : List ℕ} (b : body ≡ rest s) (cs : Front) (r : cs ≡ front_read k (rows_ahead k body)) where
    body-lines : lines body ≡ drop 1 (lines s)
    body-lines = ap lines b ∙ lines_rest s

    pub rows_are : rows_ahead k body ≡ row_lines (is_row k) s
    unfolding row_lines
    rows_are = ap (leading (is_row k)) body-lines

    module _ (later : List ℕ) (q : (lines later ≡ drop cs.count (lines body)) × (closed later ≡ closed body))
        (read : Option Front) (o : read ≡ back_read (version_of k) later) where
      abbrev v : Version
      v = version_of k

      front-is : cs ≡ front_read k (row_lines (is_row k) s)
      front-is = r ∙ ap (front_read k) rows_are

      operations-are : lines later ≡ operation_lines (is_row k) s
      unfolding operation_lines front_read
      operations-are = q.0 ∙ rw (ap (λ x. x.count) r) (sym (trailing-drop (is_row k) (lines body)) ∙ ap (trailing (is_row k)) body-lines)

      ends_so : closed later ≡ closed s
      unfolding head_line
      ends_so = q.1 ∙ ap closed b ∙ closed-rest s (is-ended (is_site v) (no-site v) s (sym is-site ∙ l))

      back_laid : operations_laid v later ≡ is_some read
      unfolding back_read
      back_laid = go (operations_laid v later) refl ∙ sym (ap is_some o)
        where
          go : (d : Bool) → operations_laid v later ≡ d → operations_laid v later ≡ is_some (back_read v later)
          go true e = rw e
          go false e = rw e

      laid_so : rows_laid_out k s ≡ is_some read
      unfolding rows_laid_out laid_out_with operations_laid
      laid_so =
          rw (sym is-site ∙ l) (skipped (closed s) (every (is_operation v) (operation_lines (is_row k) s)))
          ∙ sym (ap₂ (λ (x : Bool) (ls : List (List ℕ)). x && every (is_operation v) ls) ends_so operations-are)
          ∙ back_laid

      -- a later line lacks the layout
      pub no-later : read ≡ None → Err Layout ≡ rows_answer k s
      no-later e = sym (answer-layout k s (laid_so ∙ ap is_some e))

      module _ (ps : Front) (m : read ≡ Some ps) where
        laid : rows_laid_out k s ≡ true
        laid = laid_so ∙ ap is_some m

        pub later_laid : operations_laid v later ≡ true
        later_laid = back_laid ∙ ap is_some m

        operations-good : every (is_operation v) (operation_lines (is_row k) s) ≡ true
        unfolding rows_laid_out laid_out_with
        operations-good = and_right (closed s && is_site v (head_line s)) (every (is_operation v) (operation_lines (is_row k) s)) laid

        rows-good : every (is_row k) (row_lines (is_row k) s) ≡ true
        unfolding row_lines
        rows-good = every-leading (is_row k) (drop 1 (lines s))

        back_is : ◌≡◌ {A = Front} ps (record {
          count = length (operation_lines (is_row k) s);
          in_range = every (operation_passes v) (operation_lines (is_row k) s);
        })
        unfolding back_read
        back_is = ap read_or_none (sym m ∙ o) ∙ rw (later_laid, operations-are)

        range_so : rows_in_range k s ≡ is_ok first && cs.in_range && ps.in_range
        unfolding rows_in_range rows_said all_in_range front_read head_line
        range_so =
            let said = map (row_said k) (row_lines (is_row k) s) in
            around (every (row_within k) said) (site_in_range (site_said (head_line s))) (every character_in_range (characters_of said))
            (every in_range (map operation_said (operation_lines (is_row k) s)))
            ∙ (λ j. site j && rows j && operations j)
          where
            site : site_in_range (site_said (head_line s)) ≡ is_ok first
            site = sym (ap is_ok f ∙ site-passes v (head_line s) (sym is-site ∙ l))

            rows : every (row_within k) (map (row_said k) (row_lines (is_row k) s))
                && every character_in_range (characters_of (map (row_said k) (row_lines (is_row k) s))) ≡ cs.in_range
            rows = sym (ap (λ x. x.in_range) front-is ∙ rows_pass k (row_lines (is_row k) s) rows-good)

            operations : every in_range (map operation_said (operation_lines (is_row k) s)) ≡ ps.in_range
            operations = sym (ap (λ x. x.in_range) back_is ∙ operations-pass v (operation_lines (is_row k) s) operations-good)

        -- something is out of range
        pub out_of_range_lem : is_ok first && cs.in_range && ps.in_range ≡ false → Err Range ≡ rows_answer k s
        out_of_range_lem e = sym (answer-range k s laid (range_so ∙ e))

        module _ (e₁ : is_ok first ≡ true) (e₂ : cs.in_range ≡ true) (e₃ : ps.in_range ≡ true) where
          pub answer-is : (Ok tt) ≡ rows_answer k s
          answer-is = sym (answer-done k s laid (range_so ∙ and_intro (and_intro e₁ e₂) e₃))

          -- the rows say what they should, and so does what is made of each
          rows-said : {A : Type 0} (of : Placed → A)
              → map (λ (line : List ℕ). of (record { place = line_place k line; character = line_character k line })) (rows_ahead k body)
              ≡ map of (rows_said k s).rows
          unfolding front_read rows_said
          rows-said {A} of =
              let read : List ℕ → A = λ line. of (record { place = line_place k line; character = line_character k line }) in
              ap (map read) rows_are
              ∙ all_say read (row_said k) of (row_passes k) (λ line h.
              ap (λ (w : Result Row (Unread Row)). of (record { place = (said_or w (blank_row k)).place; character = (said_or w (blank_row k)).character }))
              (row-says k line h)) (row_lines (is_row k) s)
              (sym (ap (λ x. x.in_range) front-is) ∙ e₂)

          operations_said : map (line_operation v) (lines later) ≡ (rows_said k s).pending
          unfolding rows_said
          operations_said =
              ap (map (line_operation v)) operations-are
              ∙ all_say (line_operation v) operation_said (λ x. x) (operation_passes v)
              (λ line h. ap (λ (w : Result Operation Fault). result_unwrap_or w blank_operation) (operation_says v line h)) (operation_lines (is_row k) s)
              (sym (ap (λ x. x.in_range) back_is) ∙ e₃)
              ∙ map_same (map operation_said (operation_lines (is_row k) s))

          -- so what the arrays hold is what the bytes say
          module _ (n : ℕ) {places characters toggles pending : List ℕ}
              (p : places ≡ pad n 0 (map (line_place k) (take n (rows_ahead k body))))
              (c : characters ≡ characters_held (take character_slots (map (line_character k) (rows_ahead k body))))
              (t : toggles ≡ pad character_slots 0 (toggle_counts (take character_slots (map (line_character k) (rows_ahead k body)))))
              (w : pending ≡ pending_held (take pending_slots (map (line_operation v) (lines later)))) where
            pub all_held : {site : Site} → first ≡ Ok site → Held (rows_said k s) site places characters toggles cs.count pending ps.count
            unfolding front_read rows_said head_line
            all_held {site} g = record {
              site-held =
                  ap (λ (w : Result Site (Unread Site)). result_unwrap_or w site) (sym g ∙ f ∙ site-says v (head_line s) (sym (ap is_ok f) ∙ e₁));
              places-held =
                  let wide : length places ≡ n = ap length p ∙ places-length k n (rows_ahead k body) in
                  rw wide
                  (p
                  ∙ ap (pad n 0) (sym (take-map (line_place k) n (rows_ahead k body)) ∙ ap (take n) (rows-said (λ (x : Placed). x.place))));
              characters-held = c ∙ ap (λ (x : List Character). characters_held (take character_slots x)) (rows-said (λ (x : Placed). x.character));
              toggles-held =
                  t ∙ ap (λ (x : List Character). pad character_slots 0 (toggle_counts (take character_slots x))) (rows-said (λ (x : Placed). x.character));
              rows-counted = ap (λ x. x.count) front-is ∙ sym (length-map (row_lines (is_row k) s) (row_said k));
              pending-held = w ∙ ap (λ (x : List Operation). pending_held (take pending_slots x)) operations_said;
              pending-counted = ap (λ x. x.count) back_is ∙ sym (length-map (operation_lines (is_row k) s) operation_said);
            }
