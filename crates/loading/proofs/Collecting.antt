-- The invariants of the loops that read lines into lent arrays: the lines that are done and those that are left are the whole,
-- and the lines that are done are in the columns as far as these go.
use mathlib.Core.Path.{◌≡◌, refl, sym, ap, ◌∙◌}
use mathlib.Core.List.{List, [], ◌∷◌, ◌++◌, map, map-append, append-nil}
use mathlib.Core.Bool.{Bool, true, false, ◌&&◌}
use Prim.Native.Nat.{ℕ, suc, ◌+◌, ◌-◌, ◌≤◌, ◌<◌}
use native.Mathlib.Omega.{arith}
use lib.ListN.{length, take, drop, get_or, length-append, length-map, length-take}
use lib.Seq.{append_snoc, take-nil, drop-drop, drop-append_seam}
use Rattle.lists.specs.Lists.{every}
use Rattle.lists.specs.Padding.{pad}
use Rattle.lists.proofs.Tests.{clash}
use Rattle.lists.proofs.Members.{every_append}
use Rattle.lists.proofs.Padding.{pad-length}
use Rattle.woot.specs.declared.Character.{Character}
use Rattle.woot.specs.declared.Operation.{Operation}
use Rattle.woot.specs.Memory.{character_slots, pending_slots, toggle_counts, own_key, first_key, second_key, value_of}
use Rattle.woot.specs.Table.{key}
use Rattle.lines.specs.Lines.{ended, first_line, rest, lines, closed, leading}
use Rattle.lines.proofs.Lines.{lines-ended, past-front, whole_length, closed-rest, closed_unended, rest_shorter}
use Rattle.lines.proofs.Fronts.{part_from, part-is}
use Rattle.saved.specs.declared.Version.{Version}
use Rattle.saved.specs.declared.Rows.{Rows}
use Rattle.saved.specs.Format.{is_operation}
use Rattle.saved.specs.Rows.{is_row, characters_held, pending_held}
use Rattle.std.specs.Prelude.{Result, Ok, Err, is_ok}
use Rattle.std.specs.Result.{result_unwrap_or}
use Rattle.decimal.specs.declared.Fault.{Fault}
use Rattle.decimal.specs.declared.Fault.TheVariants.{Malformed as NumberMalformed, Above as NumberAbove}
use Rattle.woot.specs.State.{blank_operation}
use Rattle.saved_lines.specs.declared.Row.{Row}
use Rattle.saved_lines.specs.declared.Unread.{Unread}
use Rattle.saved_lines.specs.declared.Unread.TheVariants.{Malformed, Above, OutOfRange}
use Rattle.saved_lines.specs.Judging.{in_layout, said_or, row_read, operation_in_layout, operation_read}
use Rattle.saved_lines.proofs.Judging.{row_laid, operation_laid}
use Rattle.loading.specs.declared.filling.Front.{Front}
use Rattle.std.specs.Prelude.{Option, Some, None}
use Rattle.loading.specs.Reading.{blank_row, line_place, line_character, row_passes, operation_passes}
use Rattle.loading.specs.Filling.{kept_in, kept_at, rows_ahead, front_read, starts_from, Past, line_operation, operations_laid, back_read}
use Rattle.loading.proofs.Gathering.{and_true, and_none, every_more, no_row, no-operation, there, some_left, is-ended}
use Rattle.loading.proofs.Storing.{kept-number, kept-at, kept_in_lem, in_slots-length}

-- ---- what was told of a line

-- it has the layout: what is stored of it is what it says, and whether all are in range so far
pub record Stored {A : Type 0} (laid passes : Bool) (said stored : A) (good good' : Bool) : Type 0 where
  pub in_layout_so : laid ≡ true
  pub is : stored ≡ said
  pub ranged : good' ≡ good && passes

-- of a row or a site
module _ {A : Type 0} {w : Result A (Unread A)} where
  pub lacking : {u : Unread A} → w ≡ Err u → u ≡ Malformed → in_layout w ≡ false
  lacking e h = rw (e, h)

  module _ (blank : A) {stored : A} {good good' : Bool} where
    pub stored_said : {x : A} → w ≡ Ok x → stored ≡ x → good' ≡ good → Stored (in_layout w) (is_ok w) (said_or w blank) stored good good'
    stored_said e s g = record { in_layout_so = rw e; is = rw e s; ranged = rw e (g ∙ sym (and_true good)) }

    pub stored_out : {u : Unread A} {x : A} → w ≡ Err u → u ≡ OutOfRange x → stored ≡ x → good' ≡ false
        → Stored (in_layout w) (is_ok w) (said_or w blank) stored good good'
    stored_out e h s g = record { in_layout_so = rw (e, h); is = rw (e, h) s; ranged = rw e (g ∙ sym (and_none good)) }

    pub stored_blank : {u : Unread A} → w ≡ Err u → u ≡ Above → stored ≡ blank → good' ≡ false
        → Stored (in_layout w) (is_ok w) (said_or w blank) stored good good'
    stored_blank e h s g = record { in_layout_so = rw (e, h); is = rw (e, h) s; ranged = rw e (g ∙ sym (and_none good)) }

-- of an operation
module _ {w : Result Operation Fault} where
  pub operation_lacking : {f : Fault} → w ≡ Err f → f ≡ NumberMalformed → operation_in_layout w ≡ false
  operation_lacking e h = rw (e, h)

  module _ {operation : Operation} {good good' : Bool} where
    pub operation_stored : {o : Operation} → w ≡ Ok o → operation ≡ o → good' ≡ good
        → Stored (operation_in_layout w) (is_ok w) (result_unwrap_or w blank_operation) operation good good'
    operation_stored e s g = record { in_layout_so = rw e; is = rw e s; ranged = rw e (g ∙ sym (and_true good)) }

    pub operation-blank : {f : Fault} → w ≡ Err f → f ≡ NumberAbove → operation ≡ blank_operation → good' ≡ false
        → Stored (operation_in_layout w) (is_ok w) (result_unwrap_or w blank_operation) operation good good'
    operation-blank e h s g = record { in_layout_so = rw (e, h); is = rw e s; ranged = rw e (g ∙ sym (and_none good)) }

-- ---- what is held

-- as many slots as the arrays have
pub characters-length : (cs : List Character) → length (characters_held (take character_slots cs)) ≡ 4096
unfolding characters_held
characters-length cs =
    in_slots-length 1024 (λ (c : Character). key c.id) (λ c. key c.previous) (λ c. key c.next) (λ c. c.code_point) cs

pub toggles-length : (cs : List Character) → length (pad character_slots 0 (toggle_counts (take character_slots cs))) ≡ 1024
toggles-length cs =
    pad-length 1024 0 (toggle_counts (take 1024 cs)) (omega (arith, length-map (take 1024 cs) (λ (c : Character). c.toggles), length-take 1024 cs))

pub places-length : (k : Rows) (m : ℕ) (ls : List (List ℕ)) → length (pad m 0 (map (line_place k) (take m ls))) ≡ m
places-length k m ls = pad-length m 0 (map (line_place k) (take m ls)) (omega (arith, length-map (take m ls) (line_place k), length-take m ls))

pub pending-length : (ps : List Operation) → length (pending_held (take pending_slots ps)) ≡ 2048
unfolding pending_held
pending-length ps = in_slots-length 512 own_key first_key second_key value_of ps

-- the lines that are done: how many they are, and whether each passes
pub record Counted (passes : List ℕ → Bool) (done : List (List ℕ)) (count : ℕ) (good : Bool) : Type 0 where
  pub counted : count ≡ length done
  pub judged : good ≡ every passes done

module _ {passes : List ℕ → Bool} {done : List (List ℕ)} {count : ℕ} {good : Bool} (g : Counted passes done count good) (line : List ℕ) where
  one_more : {good' : Bool} → good' ≡ good && passes line → Counted passes (done ++ line ∷ []) (count + 1) good'
  one_more q = record {
    counted = omega (arith, g.counted, length-append done (line ∷ []));
    judged = q ∙ ap (λ (b : Bool). b && passes line) g.judged ∙ sym (every_more passes done line);
  }

  items : {A : Type 0} (item : List ℕ → A) → map item (done ++ line ∷ []) ≡ map item done ++ item line ∷ []
  items item = map-append item done (line ∷ [])

  size : {A : Type 0} (item : List ℕ → A) → count ≡ length (map item done)
  size item = g.counted ∙ sym (length-map done item)

-- ---- where the lines lie

-- how many bytes lines take, each with its line feed
abbrev span : List (List ℕ) → ℕ
span [] = 0
span (l ∷ ls) = suc (length l) + span ls

span_more : (ls : List (List ℕ)) (l : List ℕ) → span (ls ++ l ∷ []) ≡ span ls + suc (length l)
span_more [] l = omega arith
span_more (x ∷ ls) l = omega (arith, span_more ls l)

starts-length : (at : ℕ) (ls : List (List ℕ)) → length (starts_from at ls) ≡ length ls
starts-length at [] = refl
starts-length at (l ∷ ls) = ap suc (starts-length (at + suc (length l)) ls)

starts_more : (at : ℕ) (ls : List (List ℕ)) (l : List ℕ) → starts_from at (ls ++ l ∷ []) ≡ starts_from at ls ++ (at + span ls) ∷ []
starts_more at [] l = ap (λ (n : ℕ). n ∷ []) (omega arith)
starts_more at (x ∷ ls) l =
    ap (λ (ns : List ℕ). at ∷ ns)
    (starts_more (at + suc (length x)) ls l ∙ ap (λ (n : ℕ). starts_from (at + suc (length x)) ls ++ n ∷ []) (omega arith))

-- the bytes that are left behind the lines that are done
pub record Behind (s : List ℕ) (done : List (List ℕ)) (left : List ℕ) : Type 0 where
  pub within : length left ≤ length s
  pub suffix : drop (length s - length left) s ≡ left
  pub passed : length s - length left ≡ span done
  pub whole : lines s ≡ done ++ lines left
  pub shut : closed left ≡ closed s

behind-none : (s : List ℕ) → Behind s [] s
behind-none s = record {
  within = omega arith;
  suffix = let z : length s - length s ≡ 0 = omega arith in rw z;
  passed = omega arith;
  whole = refl;
  shut = refl;
}

module _ {s : List ℕ} {done : List (List ℕ)} {left : List ℕ} (b : Behind s done left) where
  behind-past : {count : ℕ} → count ≡ length done → Past s (length s - length left) count
  behind-past e = record {
    within = omega arith;
    others = rw (b.suffix, b.whole, e) (sym (drop-append_seam done (lines left)));
    shut = rw b.suffix b.shut;
  }

  behind_more : ended left ≡ true → {left' : List ℕ} → left' ≡ rest left → Behind s (done ++ first_line left ∷ []) left'
  behind_more e {left'} t =
      let long : length left ≡ suc (length (first_line left)) + length (rest left) = whole_length left e in
      let short : length left' ≡ length (rest left) = ap length t in
      record {
        within = omega (arith, b.within, long, short);
        suffix =
            let far : length s - length left' ≡ (length s - length left) + (length (first_line left) + 1) = omega (arith, b.within, long, short) in
            rw far (sym (drop-drop (length (first_line left) + 1) (length s - length left) s) ∙ rw b.suffix (past-front left refl ∙ sym t));
        passed = omega (arith, b.within, b.passed, long, short, span_more done (first_line left));
        whole = b.whole ∙ rw (lines-ended left e, t) (sym (append_snoc done (first_line left) (lines (rest left))));
        shut = ap closed t ∙ closed-rest left e ∙ b.shut;
      }

-- ---- the loop of `read_rows_at`

pub record FrontLoop (k : Rows) (s : List ℕ) (o : ℕ) (starts : List ℕ) (m : ℕ) (places characters toggles : List ℕ) (count : ℕ) (good : Bool)
    (left : List ℕ) : Type 0 where
  pub done : List (List ℕ)
  pub behind : Behind s done left
  pub whole : rows_ahead k s ≡ done ++ rows_ahead k left
  pub begins : starts ≡ pad o 0 (take o (starts_from 0 done))
  pub placed : places ≡ pad m 0 (map (line_place k) (take m done))
  pub filled : characters ≡ characters_held (take character_slots (map (line_character k) done))
  pub toggled : toggles ≡ pad character_slots 0 (toggle_counts (take character_slots (map (line_character k) done)))
  pub gathered : Counted (row_passes k) done count good
  pub small : count + length left ≤ length s

pub front-begun : (k : Rows) (s : List ℕ) (o m : ℕ) {starts places characters toggles : List ℕ}
    → starts ≡ pad o 0 [] → places ≡ pad m 0 [] → characters ≡ characters_held [] → toggles ≡ pad character_slots 0 []
    → FrontLoop k s o starts m places characters toggles 0 true s
front-begun k s o m b p e t = record {
  done = [];
  behind = behind-none s;
  whole = refl;
  begins = b ∙ ap (pad o 0) (sym (take-nil o));
  placed = p ∙ ap (λ (ls : List (List ℕ)). pad m 0 (map (line_place k) ls)) (sym (take-nil m));
  filled = e;
  toggled = t;
  gathered = record { counted = refl; judged = refl };
  small = omega arith;
}

module _ {k : Rows} {s : List ℕ} {o : ℕ} {starts : List ℕ} {m : ℕ} {places characters toggles : List ℕ} {count : ℕ} {good : Bool} {left : List ℕ}
    (l : FrontLoop k s o starts m places characters toggles count good left) where
  pub front-starts : length starts ≡ o
  front-starts = ap length l.begins ∙ pad-length o 0 (take o (starts_from 0 l.done)) (omega (arith, length-take o (starts_from 0 l.done)))

  pub front-places : length places ≡ m
  front-places = ap length l.placed ∙ places-length k m l.done

  pub front-characters : length characters ≡ 4096
  front-characters = ap length l.filled ∙ characters-length (map (line_character k) l.done)

  pub front-toggles : length toggles ≡ 1024
  front-toggles = ap length l.toggled ∙ toggles-length (map (line_character k) l.done)

  module _ (w : Result Row (Unread Row)) (r : w ≡ row_read k (get_or (lines left) 0 [])) where
    read-row : in_layout w ≡ is_row k (get_or (lines left) 0 [])
    read-row = ap in_layout r ∙ row_laid k (get_or (lines left) 0 [])

    -- the next line is no row
    module _ (e : in_layout w ≡ false) where
      all_done : rows_ahead k s ≡ l.done
      all_done =
          l.whole ∙ ap (λ (ls : List (List ℕ)). l.done ++ ls) (ends (lines left) (sym read-row ∙ e)) ∙ append-nil l.done
        where
          ends : (ls : List (List ℕ)) → is_row k (get_or ls 0 []) ≡ false → leading (is_row k) ls ≡ []
          ends [] p = refl
          ends (x ∷ ls) p = rw p

      pub front-end : ◌≡◌ {A = Front} (record { count = count; in_range = good }) (front_read k (rows_ahead k s))
      unfolding front_read
      front-end = rw all_done (λ j. record { count = l.gathered.counted j; in_range = l.gathered.judged j })

      pub front-past : Past s (length s - length left) count
      front-past = behind-past l.behind l.gathered.counted

      pub front-begins : starts ≡ pad o 0 (take o (starts_from 0 (rows_ahead k s)))
      front-begins = rw all_done l.begins

      pub front-placed : places ≡ pad m 0 (map (line_place k) (take m (rows_ahead k s)))
      front-placed = rw all_done l.placed

      pub front-filled : characters ≡ characters_held (take character_slots (map (line_character k) (rows_ahead k s)))
      front-filled = rw all_done l.filled

      pub front-toggled : toggles ≡ pad character_slots 0 (toggle_counts (take character_slots (map (line_character k) (rows_ahead k s))))
      front-toggled = rw all_done l.toggled

    -- it is one
    module _ (e : in_layout w ≡ true) where
      is-row : is_row k (get_or (lines left) 0 []) ≡ true
      is-row = sym read-row ∙ e

      pub front-left : 0 < length left
      front-left = some_left (is_row k) (no_row k) left is-row

      row-ended : ended left ≡ true
      row-ended = is-ended (is_row k) (no_row k) left is-row

      row_first : get_or (lines left) 0 [] ≡ first_line left
      row_first = rw (lines-ended left row-ended)

      pub front-next : {next : ℕ} → ((w ≡ Err Malformed → ⊥) → next ≡ length (first_line left) + 1) → part_from left next ≡ rest left
      front-next {next} h = part-is left next ∙ past-front left (h (λ q. clash e (ap in_layout q)))

      pub front-more : {starts' places' characters' toggles' : List ℕ} {row : Row} {good' : Bool} {left' : List ℕ}
          → Stored (in_layout w) (is_ok w) (said_or w (blank_row k)) row good good'
          → starts' ≡ kept_at (length starts) count (length s - length left) starts
          → places' ≡ kept_at (length places) count row.place places
          → characters' ≡ kept_in character_slots count (key row.character.id) (key row.character.previous) (key row.character.next)
          row.character.code_point characters
          → toggles' ≡ kept_at character_slots count row.character.toggles toggles
          → left' ≡ rest left → FrontLoop k s o starts' m places' characters' toggles' (count + 1) good' left'
      unfolding characters_held
      front-more d b f g u t =
          let line = get_or (lines left) 0 [] in
          let cs = map (line_character k) l.done in
          record {
            done = l.done ++ line ∷ [];
            behind = rw row_first (behind_more l.behind row-ended t);
            begins =
                b
                ∙ rw (front-starts, l.begins, l.behind.passed)
                (kept-number o (starts_from 0 l.done) (span l.done) count (l.gathered.counted ∙ sym (starts-length 0 l.done))
                ∙ ap (λ (ns : List ℕ). pad o 0 (take o ns)) (sym (starts_more 0 l.done line ∙ ap (λ (n : ℕ). starts_from 0 l.done ++ n ∷ []) (omega arith))));
            whole =
                l.whole
                ∙ rw (there (is_row k) (no_row k) left is-row, is-row, t)
                (sym (append_snoc l.done line (rows_ahead k (rest left))));
            placed = f ∙ rw (front-places, d.is, r, l.placed) (kept-at m (line_place k) l.done line count l.gathered.counted);
            filled =
                g
                ∙ rw (d.is, r, l.filled, items l.gathered line (line_character k))
                (kept_in_lem 1024 (λ (c : Character). key c.id) (λ c. key c.previous) (λ c. key c.next) (λ c. c.code_point) cs
                (line_character k line) count (size l.gathered line (line_character k)));
            toggled =
                u
                ∙ rw (d.is, r, l.toggled, items l.gathered line (line_character k))
                (kept-at 1024 (λ (c : Character). c.toggles) cs (line_character k line) count (size l.gathered line (line_character k)));
            gathered = one_more l.gathered line (rw r at d.ranged);
            small = omega (arith, l.small, rest_shorter left front-left, ap length t);
          }

-- ---- the loop of `read_operations`

pub record BackLoop (v : Version) (s pending : List ℕ) (count : ℕ) (good : Bool) (left : List ℕ) : Type 0 where
  pub done : List (List ℕ)
  pub whole : lines s ≡ done ++ lines left
  pub laid : every (is_operation v) done ≡ true
  pub ends : closed left ≡ closed s
  pub filled : pending ≡ pending_held (take pending_slots (map (line_operation v) done))
  pub gathered : Counted (operation_passes v) done count good
  pub small : count + length left ≤ length s

pub back-begun : (v : Version) (s : List ℕ) {pending : List ℕ} → pending ≡ pending_held [] → BackLoop v s pending 0 true s
back-begun v s e = record {
  done = [];
  whole = refl;
  laid = refl;
  ends = refl;
  filled = e;
  gathered = record { counted = refl; judged = refl };
  small = omega arith;
}

module _ {v : Version} {s pending : List ℕ} {count : ℕ} {good : Bool} {left : List ℕ} (l : BackLoop v s pending count good left) where
  pub back-length : length pending ≡ 2048
  back-length = ap length l.filled ∙ pending-length (map (line_operation v) l.done)

  -- no byte is left
  module _ (h : length left ≤ 0) where
    none : (x : List ℕ) → length x ≤ 0 → x ≡ []
    none [] p = refl
    none (b ∷ x) p = absurd (omega arith)

    all_lines : lines s ≡ l.done
    all_lines = l.whole ∙ rw (none left h) (append-nil l.done)

    all_laid : operations_laid v s ≡ true
    unfolding operations_laid closed
    all_laid = let shut : closed s ≡ true = sym l.ends ∙ ap closed (none left h) in rw (shut, all_lines, l.laid)

    pub back_end : ◌≡◌ {A = Option Front} (Some (record { count = count; in_range = good })) (back_read v s)
    unfolding back_read
    back_end = rw (all_laid, all_lines) (λ j. Some (record { count = l.gathered.counted j; in_range = l.gathered.judged j }))

    pub back-filled : pending ≡ pending_held (take pending_slots (map (line_operation v) (lines s)))
    back-filled = rw all_lines l.filled

  module _ (h : 0 < length left) (w : Result Operation Fault) (r : w ≡ operation_read v (get_or (lines left) 0 [])) where
    read-operation : operation_in_layout w ≡ is_operation v (get_or (lines left) 0 [])
    read-operation = ap operation_in_layout r ∙ operation_laid v (get_or (lines left) 0 [])

    -- the next line lacks the layout, or no line feed ends it
    module _ (e : operation_in_layout w ≡ false) where
      pub back-lacks : operations_laid v s ≡ false
      unfolding operations_laid
      back-lacks = go (ended left) refl
        where
          other : is_operation v (get_or (lines left) 0 []) ≡ false
          other = sym read-operation ∙ e

          broken : (ls : List (List ℕ)) → is_operation v (get_or (first_line left ∷ ls) 0 []) ≡ false
              → every (is_operation v) (l.done ++ first_line left ∷ ls) ≡ false
          broken ls p = every_append (is_operation v) l.done (first_line left ∷ ls) ∙ rw (l.laid, p)

          go : (b : Bool) → ended left ≡ b → closed s && every (is_operation v) (lines s) ≡ false
          go true p =
              let q : every (is_operation v) (lines s) ≡ false =
              rw (l.whole, lines-ended left p) (broken (lines (rest left)) (rw (lines-ended left p) at other)) in
              rw q (and_none (closed s))
          go false p = rw (sym l.ends ∙ closed_unended left h p)

      pub back_none : ◌≡◌ {A = Option Front} None (back_read v s)
      unfolding back_read
      back_none = rw back-lacks

    -- it has the layout
    module _ (e : operation_in_layout w ≡ true) where
      is-operation : is_operation v (get_or (lines left) 0 []) ≡ true
      is-operation = sym read-operation ∙ e

      pub back_more : {pending' : List ℕ} {operation : Operation} {good' : Bool} {left' : List ℕ}
          → Stored (operation_in_layout w) (is_ok w) (result_unwrap_or w blank_operation) operation good good'
          → pending' ≡ kept_in pending_slots count (own_key operation) (first_key operation) (second_key operation) (value_of operation) pending
          → left' ≡ rest left → BackLoop v s pending' (count + 1) good' left'
      unfolding pending_held
      back_more d k t =
          let line = get_or (lines left) 0 [] in
          record {
            done = l.done ++ line ∷ [];
            whole =
                l.whole
                ∙ rw (there (is_operation v) (no-operation v) left is-operation, t)
                (sym (append_snoc l.done line (lines (rest left))));
            laid = every_more (is_operation v) l.done line ∙ rw (l.laid, is-operation);
            ends = ap closed t ∙ closed-rest left (is-ended (is_operation v) (no-operation v) left is-operation) ∙ l.ends;
            filled =
                k
                ∙ rw (d.is, r, l.filled, items l.gathered line (line_operation v))
                (kept_in_lem 512 own_key first_key second_key value_of (map (line_operation v) l.done) (line_operation v line) count
                (size l.gathered line (line_operation v)));
            gathered = one_more l.gathered line (rw r at d.ranged);
            small = omega (arith, l.small, rest_shorter left h, ap length t);
          }
