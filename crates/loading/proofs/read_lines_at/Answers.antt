-- `loading::read_lines_at` meets its contract: what was read of the lines decides, in the order of the conditions.
use Rattle.std.proofs.Common.{Ok, Err, is_ok}
use Rattle.woot.specs.declared.Site.{Site}
use Rattle.std.specs.Prelude.{Result}
use Rattle.std.specs.Result.{result_ok}
use Rattle.saved_lines.specs.declared.Unread.{Unread}
use Rattle.saved_lines.specs.declared.Unread.TheVariants.{Malformed, Above, OutOfRange}
use mathlib.Core.Path.{◌≡◌, refl, sym, ap, ◌∙◌, subst}
use mathlib.Core.List.{List, [], map}
use mathlib.Core.Bool.{Bool, true, false, ◌&&◌}
use Prim.Native.Nat.{ℕ, ◌+◌}
use native.Mathlib.Omega.{arith}
use lib.ListN.{length, take, drop, get_or}
use Rattle.lists.proofs.Tests.{clash, three}
use Rattle.answers.specs.declared.Refusal.TheVariants.{Layout, Range}
use Rattle.woot.specs.Memory.{pending_slots, pending_numbers}
use Rattle.lists.specs.Padding.{pad}
use Rattle.lines.specs.Lines.{rest, lines, closed}
use Rattle.lines.proofs.Lines.{past-front}
use Rattle.lines.proofs.Fronts.{part_from, part-is}
use Rattle.saved.specs.declared.Version.{Version}
use Rattle.saved.specs.declared.Rows.{Rows}
use Rattle.saved.specs.Format.{head_line}
use Rattle.saved.specs.Rows.{version_of, rows_said, rows_answer, pending_held, Held}
use Rattle.saved.proofs.Refusals.{never_done}
use Rattle.saved_lines.specs.Judging.{in_layout, site_read}
use Rattle.std.specs.Prelude.{Option, Some, None}
use Rattle.loading.specs.declared.filling.Front.{Front}
use Rattle.loading.specs.Filling.{starts_from, line_operation, operations_laid, back_read, RowsNoted}
use Rattle.loading.proofs.Collecting.{lacking, characters-length, toggles-length, pending-length}
use Rattle.loading.proofs.Assembling.{no-first, first-line, rows_are, no-later, later_laid, out_of_range_lem, answer-is, all_held}
use borrow.Author.Rules.{rules}
use Rattle.loading.proofs.read_lines_at.Goals.{After-read_operations-back, After-read_site_front-first, in-Ok, in-Err-Above}
use Rattle.loading.proofs.read_lines_at.Goals as goal

-- the first line, as it is read
first_read : (u : After-read_site_front-first) → let a = u.args in
    u.read_site_front-first.result.line ≡ site_read (version_of a.rows) (get_or (lines a.bytes.now) 0 [])
first_read u = u.read_site_front-first.ensures.line_value ∙ ap (λ (v : Version). site_read v (get_or (lines u.args.bytes.now) 0 [])) u.version-version.ensures

-- the lines of operations, as they are read in a form
abbrev Told : Option Front → List ℕ → List ℕ → Version → Type 0
Told ps later pending v =
    (ps ≡ back_read v later)
    × ((length pending ≡ pending_numbers)
    × (operations_laid v later ≡ true → pending ≡ pending_held (take pending_slots (map (line_operation v) (lines later)))))

-- a line that tells a site, but not one that is taken
laid_above : {w : Result Site (Unread Site)} {u : Unread Site} → w ≡ Err u → (u ≡ Malformed → ⊥) → in_layout w ≡ true
laid_above {u = Above} e h = rw e
laid_above {u = OutOfRange x} e h = rw e
laid_above {u = Malformed} e h = absurd (h refl)

said_so : (w : Result Site (Unread Site)) {site : Site} → result_ok w ≡ Some site → w ≡ Ok site
said_so (Ok x) e = cc
said_so (Err f) e = cc

none_so : (w : Result Site (Unread Site)) → result_ok w ≡ None → is_ok w ≡ false
none_so (Ok x) e = cc
none_so (Err f) e = refl

-- what was read, and what it comes to
module _ (p : After-read_operations-back) where
  abbrev k : Rows
  k = p.args.rows

  abbrev s : List ℕ
  s = p.args.bytes.now

  abbrev body : List ℕ
  body = part_from s p.read_site_front-first.result.next

  abbrev later : List ℕ
  later = part_from body p.read_rows_at-ahead.result.end

  first-told : p.read_site_front-first.result.line ≡ site_read (version_of k) (get_or (lines s) 0 [])
  first-told =
      p.read_site_front-first.ensures.line_value
      ∙ ap (λ (v : Version). site_read v (get_or (lines s) 0 [])) p.version-version.ensures

  site_laid : in_layout p.read_site_front-first.result.line ≡ true
  site_laid =
      elim p.match-first.branch [
        | in-Ok w ↦ rw w.in-Ok.is
        | in-Err-Above w ↦ laid_above w.in-Err-Above.is (search rules)
      ]

  -- the site, if it is in range
  site_is : p.match-first.first_site ≡ result_ok p.read_site_front-first.result.line
  site_is =
      elim p.match-first.branch [
        | in-Ok w ↦ rw w.in-Ok.is w.first_site-is
        | in-Err-Above w ↦ rw w.in-Err-Above.is w.first_site-is
      ]

  -- of which that is what is told
  site_said : {site : Site} → p.match-first.first_site ≡ Some site → p.read_site_front-first.result.line ≡ Ok site
  site_said e = said_so _ (sym site_is ∙ e)

  site_none : p.match-first.first_site ≡ None → is_ok p.read_site_front-first.result.line ≡ false
  site_none e = none_so _ (sym site_is ∙ e)

  body_is : body ≡ rest s
  body_is = part-is s p.read_site_front-first.result.next ∙ past-front s (p.read_site_front-first.ensures.next_value (λ q. clash site_laid (ap in_layout q)))

  later-is : (lines later ≡ drop p.read_rows_at-ahead.result.front.count (lines body)) × (closed later ≡ closed body)
  later-is =
      let whole = part-is body p.read_rows_at-ahead.result.end in
      let past = p.read_rows_at-ahead.ensures.past in (ap lines whole ∙ past.others, ap closed whole ∙ past.shut)

  operations-read : Told p.read_operations-back.result later p.read_operations-back.new.pending (version_of k)
  operations-read = subst (Told p.read_operations-back.result later p.read_operations-back.new.pending) p.version-version.ensures (p.read_operations-back.ensures.value, (p.read_operations-back.ensures.pending_len, p.read_operations-back.ensures.pending_after))

  lacks : p.read_operations-back.result ≡ None → Err Layout ≡ rows_answer k s
  lacks = no-later k s _ first-told site_laid body_is _ p.read_rows_at-ahead.ensures.front_value _ later-is _ operations-read.0

  module _ (ps : Front) (l : p.read_operations-back.result ≡ Some ps) where
    -- the three ranges together
    abbrev ranged : Bool
    ranged = is_ok p.read_site_front-first.result.line && p.read_rows_at-ahead.result.front.in_range && ps.in_range

    out : ranged ≡ false → Err Range ≡ rows_answer k s
    out = out_of_range_lem k s _ first-told site_laid body_is _ p.read_rows_at-ahead.ensures.front_value _ later-is _ operations-read.0 ps l

    module _ (e : ranged ≡ true) where
      each : (is_ok p.read_site_front-first.result.line ≡ true) × (p.read_rows_at-ahead.result.front.in_range ≡ true)
          × (ps.in_range ≡ true)
      each = three (is_ok p.read_site_front-first.result.line) p.read_rows_at-ahead.result.front.in_range ps.in_range e

      done : (Ok tt) ≡ rows_answer k s
      done =
          answer-is k s _ first-told site_laid body_is _ p.read_rows_at-ahead.ensures.front_value _ later-is _
          operations-read.0 ps l each.0 each.1 each.2

      held : {site : Site} → p.read_site_front-first.result.line ≡ Ok site
          → Held (rows_said k s) site p.read_rows_at-ahead.new.places p.read_rows_at-ahead.new.characters
          p.read_rows_at-ahead.new.toggles p.read_rows_at-ahead.result.front.count p.read_operations-back.new.pending ps.count
      held g =
          let i = p.read_rows_at-ahead.ensures in
          all_held k s _ first-told site_laid body_is _ i.front_value _ later-is _ operations-read.0 ps l each.0 each.1 each.2
          (length p.args.places.now) i.places_after i.characters_after i.toggles_after
          (operations-read.1.1 (later_laid k s _ first-told site_laid body_is _ i.front_value _ later-is _ operations-read.0 ps l)) g

  begun : RowsNoted k s p.read_site_front-first.result.next (length p.args.starts.now) p.read_rows_at-ahead.new.starts
  unfolding head_line
  begun = record {
    first = p.read_site_front-first.ensures.next_value (λ q. clash site_laid (ap in_layout q)) ∙ ap (λ (l : List ℕ). length l + 1) (first-line k s _ first-told site_laid);
    begins =
        p.read_rows_at-ahead.ensures.starts_after
        ∙ ap (λ (ls : List (List ℕ)). pad (length p.args.starts.now) 0 (take (length p.args.starts.now) (starts_from 0 ls)))
        (rows_are k s _ first-told site_laid body_is _ p.read_rows_at-ahead.ensures.front_value);
  }

-- the two ranges beside the site's, as the code goes through them
beside : {a b w : Bool} (y z : Bool) → a ≡ true → b ≡ y && z → b ≡ w → a && y && z ≡ w
beside y z e g h = rw (e, ← g) h

pub returns-in-Err-Malformed : goal.returns-in-Err-Malformed
returns-in-Err-Malformed c =
    let z = c.requires in
    record {
      answer_value = c.refuse_into.ensures ∙ no-first c.args.rows c.args.bytes.now _ (first_read (goal.at.returns-in-Err-Malformed c).After-read_site_front-first) (lacking c.in-Err-Malformed.is (search rules));
      places_len_unchanged = refl;
      characters_len = ap length z.characters_value ∙ characters-length [];
      toggles_len = ap length z.toggles_value ∙ toggles-length [];
      pending_len = ap length z.pending_value ∙ pending-length [];
      held = (λ d. absurd (never_done Layout (sym d ∙ c.refuse_into.ensures)));
      rows_noted = (λ d. absurd (never_done Layout (sym d ∙ c.refuse_into.ensures)));
    }

pub read_rows_at-ahead-requires : goal.read_rows_at-ahead-requires
read_rows_at-ahead-requires c =
    let z = c.requires in
    record {
      starts_value = z.starts_value;
      places_value = z.places_value;
      characters_value = z.characters_value;
      toggles_value = z.toggles_value;
    }

pub read_operations-back-requires : goal.read_operations-back-requires
read_operations-back-requires c = c.requires.pending_value

pub shape_of-places-in_default : goal.shape_of-places-in_default
shape_of-places-in_default c = search rules

pub shape_of-characters-in_default : goal.shape_of-characters-in_default
shape_of-characters-in_default c = search rules

pub shape_of-toggles-in_default : goal.shape_of-toggles-in_default
shape_of-toggles-in_default c = search rules

pub returns-in_default : goal.returns-in_default
returns-in_default c =
    let z = c.requires in
    record {
      answer_value = c.refuse_into-in_default.ensures ∙ lacks (goal.at.returns-in_default c).After-read_operations-back c.in_default.is;
      places_len_unchanged = shape_of-places-in_default c;
      characters_len = shape_of-characters-in_default c ∙ ap length z.characters_value ∙ characters-length [];
      toggles_len = shape_of-toggles-in_default c ∙ ap length z.toggles_value ∙ toggles-length [];
      pending_len = (operations-read (goal.at.returns-in_default c).After-read_operations-back).1.0;
      held = (λ d. absurd (never_done Layout (sym d ∙ c.refuse_into-in_default.ensures)));
      rows_noted = (λ d. absurd (never_done Layout (sym d ∙ c.refuse_into-in_default.ensures)));
    }

pub shape_of-places-in_default-first_site : goal.shape_of-places-in_default-first_site
shape_of-places-in_default-first_site c = search rules

pub shape_of-characters-in_default-first_site : goal.shape_of-characters-in_default-first_site
shape_of-characters-in_default-first_site c = search rules

pub shape_of-toggles-in_default-first_site : goal.shape_of-toggles-in_default-first_site
shape_of-toggles-in_default-first_site c = search rules

pub returns-in_default-first_site : goal.returns-in_default-first_site
returns-in_default-first_site c =
    let z = c.requires in
    record {
      answer_value = c.refuse_into-in_default-first_site.ensures ∙ out (goal.at.returns-in_default-first_site c).After-read_operations-back _ c.in-Some.is (rw (site_none (goal.at.returns-in_default-first_site c).After-read_operations-back c.in_default-first_site.is));
      places_len_unchanged = shape_of-places-in_default-first_site c;
      characters_len = shape_of-characters-in_default-first_site c ∙ ap length z.characters_value ∙ characters-length [];
      toggles_len = shape_of-toggles-in_default-first_site c ∙ ap length z.toggles_value ∙ toggles-length [];
      pending_len = (operations-read (goal.at.returns-in_default-first_site c).After-read_operations-back).1.0;
      held = (λ d. absurd (never_done Range (sym d ∙ c.refuse_into-in_default-first_site.ensures)));
      rows_noted = (λ d. absurd (never_done Range (sym d ∙ c.refuse_into-in_default-first_site.ensures)));
    }

pub shape_of-places-then-not-both : goal.shape_of-places-then-not-both
shape_of-places-then-not-both c = search rules

pub shape_of-characters-then-not-both : goal.shape_of-characters-then-not-both
shape_of-characters-then-not-both c = search rules

pub shape_of-toggles-then-not-both : goal.shape_of-toggles-then-not-both
shape_of-toggles-then-not-both c = search rules

pub returns-then-not-both : goal.returns-then-not-both
returns-then-not-both c =
    let z = c.requires in
    let g = site_said (goal.at.returns-then-not-both c).After-read_operations-back c.in-Some-first_site.is in
    let e = beside _ _ (ap is_ok g) c.both.ensures c.if-not-both.true in
    record {
      answer_value = c.refuse_into-then-not-both.ensures ∙ out (goal.at.returns-then-not-both c).After-read_operations-back _ c.in-Some.is e;
      places_len_unchanged = shape_of-places-then-not-both c;
      characters_len = shape_of-characters-then-not-both c ∙ ap length z.characters_value ∙ characters-length [];
      toggles_len = shape_of-toggles-then-not-both c ∙ ap length z.toggles_value ∙ toggles-length [];
      pending_len = (operations-read (goal.at.returns-then-not-both c).After-read_operations-back).1.0;
      held = (λ d. absurd (never_done Range (sym d ∙ c.refuse_into-then-not-both.ensures)));
      rows_noted = (λ d. absurd (never_done Range (sym d ∙ c.refuse_into-then-not-both.ensures)));
    }

pub shape_of-places : goal.shape_of-places
shape_of-places c = search rules

pub shape_of-characters : goal.shape_of-characters
shape_of-characters c = search rules

pub shape_of-toggles : goal.shape_of-toggles
shape_of-toggles c = search rules

pub returns : goal.returns
returns c =
    let z = c.requires in
    let g = site_said (goal.at.returns c).After-read_operations-back c.in-Some-first_site.is in
    let e = beside _ _ (ap is_ok g) c.both.ensures c.if-not-both.false in
    record {
      answer_value = done (goal.at.returns c).After-read_operations-back _ c.in-Some.is e;
      places_len_unchanged = shape_of-places c;
      characters_len = shape_of-characters c ∙ ap length z.characters_value ∙ characters-length [];
      toggles_len = shape_of-toggles c ∙ ap length z.toggles_value ∙ toggles-length [];
      pending_len = (operations-read (goal.at.returns c).After-read_operations-back).1.0;
      held = (λ told. held (goal.at.returns c).After-read_operations-back _ c.in-Some.is e g);
      rows_noted = (λ told. begun (goal.at.returns c).After-read_operations-back);
    }

pub slice_bounds-body-count : goal.slice_bounds-body-count
slice_bounds-body-count c = c.read_site_front-first.ensures.next_in_bounds

pub slice_bounds-body-start : goal.slice_bounds-body-start
slice_bounds-body-start c = omega (arith, c.read_site_front-first.ensures.next_in_bounds)

pub slice_bounds-read_operations-count : goal.slice_bounds-read_operations-count
slice_bounds-read_operations-count c = c.read_rows_at-ahead.ensures.past.within

pub slice_bounds-read_operations-start : goal.slice_bounds-read_operations-start
slice_bounds-read_operations-start c = omega (arith, c.read_rows_at-ahead.ensures.past.within)
