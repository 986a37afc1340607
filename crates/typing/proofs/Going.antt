-- Typing one character after another: at each of them what is left, with what was done so far, comes to what all of them
-- come to, and what was asked before the first holds before each.
use Prim.Native.Nat.{ℕ, suc, ◌+◌, ◌≤◌, ◌<◌}
use native.Mathlib.Nat.{add-zero, zero-add}
use native.Mathlib.Numerals.{add-one}
use native.Mathlib.Omega.{arith}
use mathlib.Core.Path.{◌≡◌, refl, ap, ap₂, sym, ◌∙◌, subst}
use mathlib.Core.Bool.{Bool, true, false, ◌||◌, cond}
use mathlib.Core.List.{List, [], ◌∷◌, ◌++◌, map, append_assoc, append-nil, map-append}
use lib.Dec.{eqb}
use lib.ListN.{length, take, drop, get_or, set, length-append, length-map, drop_of_length-le}
use lib.Seq.{drop-cons, get_or-take, set-get_or, take-suc, take_all}
use Rattle.lists.specs.Lists.{every}
use Rattle.lists.specs.Padding.{pad}
use Rattle.lists.proofs.Padding.{pad-take}
use Rattle.lists.proofs.Tests.{and_left_lem, and_right, or_left}
use Rattle.slots.proofs.Slots.{push-padded, set-padded}
use Rattle.woot.specs.declared.Insert.{Insert}
use Rattle.woot.specs.declared.Operation.{Operation}
use Rattle.woot.specs.declared.Operation.TheVariants.{Insert as insert, Toggle as toggle}
use Rattle.woot.specs.declared.Character.{Character}
use Rattle.answers.specs.declared.Refusal.TheVariants.{Unplaceable as nowhere}
use Rattle.answers.specs.declared.Answer.{Answer}
use Rattle.answers.specs.declared.Answer.TheVariants.{Done, Refused}
use Rattle.woot.specs.Operations.{character, inserts}
use Rattle.woot.specs.Ranges.{is_code_point}
use Rattle.woot.specs.State.{State}
use Rattle.woot.specs.Pending.{unplaceable}
use Rattle.woot.specs.Form.{well_formed}
use Rattle.answers.specs.Answers.{number, reply}
use Rattle.woot.specs.Calls.{Outcome, unchanged, all_integrated, carry_out, generated_insert}
use Rattle.woot.specs.Histories.{inserting, outcome, run, integrated_by, discarded_by}
use Rattle.bulk.specs.Pasting.{typings, own_by, stopped}
use Rattle.woot.specs.Table.{key, keys}
use Rattle.woot.specs.Memory as memory
use Rattle.woot.specs.Memory.{column, in_columns, key_column, previous_column, next_column, code_point_column, previous_keys, next_keys, code_points_of}
use Rattle.memory.specs.Columns.{Replica, meaning, stored, replica_well_formed}
use Rattle.memory.specs.Lent.{viewed}
use Rattle.memory.proofs.Stored.{form_meant, meaning-stored}
use Rattle.memory.proofs.Views.{columns-whole, column-at, view-stored, form_view}
use Rattle.convergence.proofs.Kept.{form_kept}
use Rattle.convergence.proofs.Typings.{Ready, state_after, gap_then, typed-plain, typed-done, typed-stopped, typed_ready}
use Rattle.replica.proofs.Runs.{formed-within, form_stored}
use Rattle.keystroke.specs.declared.Typing.{Typing}
use Rattle.keystroke.specs.declared.Typed.{Typed}
use Rattle.std.proofs.Common.{Option, Some, None}
use Rattle.keystroke.specs.Steps.{Typeable, Taken, OneTyped}
use Rattle.typing.specs.Columns.{characters_by, typed_columns}
use Rattle.typing.specs.Steps.{Unwritten, Inscribed, Written}

-- ---- what typing comes to

-- with what was done before it
pub record Come : Type 0 where
  pub state : State
  pub own : List Operation
  pub integrated : ℕ
  pub discarded : ℕ
  pub stops : Bool

abbrev pub comes_to : List Operation → ℕ → ℕ → State → ℕ → List ℕ → Come
comes_to own n m s g ns =
    let cs = typings s g ns in
    record {
      state = run s cs;
      own = own ++ own_by s cs;
      integrated = n + length (integrated_by s cs);
      discarded = m + length (discarded_by s cs);
      stops = stopped s cs;
    }

-- an insert carried out is its own, and is not refused
module _ (s : State) (i : Insert) {o : Outcome Answer} (e : o ≡ carry_out Done s (insert i)) where
  own_carried : o.own ≡ insert i ∷ []
  unfolding carry_out
  own_carried = ap (λ (w : Outcome Answer). w.own) e

  answer_carried : eqb (reply o.answer).refusal (number nowhere) ≡ false
  unfolding carry_out reply
  answer_carried = ap (λ (w : Outcome Answer). eqb (reply w.answer).refusal (number nowhere)) e

-- and 9 is
refused_stops : {a : Answer} → a ≡ Refused nowhere → eqb (reply a).refusal (number nowhere) ≡ true
unfolding reply
refused_stops e = ap (λ (b : Answer). eqb (reply b).refusal (number nowhere)) e

module _ (s : State) (g c : ℕ) (cs : List ℕ) (ready : Ready s g (suc (length cs))) (coded : is_code_point c ≡ true) where
  abbrev one : Outcome Answer
  one = outcome s (inserting g c)

  -- one of them done
  pub comes_next : (own : List Operation) (n m : ℕ) → unplaceable s.characters (insert (generated_insert s g c)) ≡ false
      → comes_to (own ++ insert (generated_insert s g c) ∷ []) (n + length (all_integrated one)) (m + length one.discarded)
      (state_after s g c) (gap_then s g c) cs
      ≡ comes_to own n m s g (c ∷ cs)
  unfolding stopped
  comes_next own n m placed =
      let rest = typings (state_after s g c) (gap_then s g c) cs in
      let t = state_after s g c in
      λ j.
      record {
        state = run t rest;
        own =
            (append_assoc own (insert (generated_insert s g c) ∷ []) (own_by t rest)
            ∙ ap (λ (os : List Operation). own ++ (os ++ own_by t rest)) (sym (mine placed))) j;
        integrated = sum n (all_integrated one) (integrated_by t rest) j;
        discarded = sum m one.discarded (discarded_by t rest) j;
        stops = ap (λ (b : Bool). b || stopped t rest) (sym (unstopped placed)) j;
      }
    where
      done_so : unplaceable s.characters (insert (generated_insert s g c)) ≡ false → one ≡ carry_out Done s (insert (generated_insert s g c))
      done_so placed =
          typed-plain s g c (length cs) ready coded
          ∙ ap (λ (b : Bool). cond b (unchanged s (Refused nowhere)) (carry_out Done s (insert (generated_insert s g c)))) placed

      sum : (k : ℕ) (os ps : List Operation) → k + length os + length ps ≡ k + length (os ++ ps)
      sum k os ps = omega (arith, length-append os ps)

      mine : unplaceable s.characters (insert (generated_insert s g c)) ≡ false → one.own ≡ insert (generated_insert s g c) ∷ []
      mine placed = own_carried s (generated_insert s g c) (done_so placed)

      unstopped : unplaceable s.characters (insert (generated_insert s g c)) ≡ false → eqb (reply one.answer).refusal (number nowhere) ≡ false
      unstopped placed = answer_carried s (generated_insert s g c) (done_so placed)

  -- or refused
  pub comes_stopped : unplaceable s.characters (insert (generated_insert s g c)) ≡ true → stopped s (typings s g (c ∷ cs)) ≡ true
  unfolding stopped
  comes_stopped u =
      or_left _ (stopped (state_after s g c) (typings (state_after s g c) (gap_then s g c) cs)) (refused_stops (typed-stopped s g c (length cs) ready coded u))

-- ---- before each

typeable_ready : {r : Replica} {g : ℕ} {ns : List ℕ} → Typeable r g ns → Ready (meaning r) g (length ns)
unfolding meaning
typeable_ready {r} x = record { form = form_meant r x.form; gap = x.gap; clock = x.clock; space = x.space }

-- the arrays that a state in form is stored in
module _ (t : State) (f : well_formed t ≡ true) where
  viewed-stored : viewed (memory.stored t) ≡ stored t
  unfolding memory.stored stored
  viewed-stored =
      let w = formed-within t f in
      λ j. record { site = t.site; document = view-stored t.characters t.pending w.characters-fit w.pending-fit j }

  formed-stored : replica_well_formed (stored t) ≡ true
  formed-stored = sym (ap replica_well_formed viewed-stored) ∙ sym (form_view (memory.stored t)) ∙ form_stored t (formed-within t f) ∙ f

  pub meant_stored : meaning (stored t) ≡ t
  meant_stored = meaning-stored t (formed-within t f).storable

  pub ready_stored : {g : ℕ} {ns : List ℕ} → Ready t g (length ns) → every is_code_point ns ≡ true → Typeable (stored t) g ns
  unfolding stored
  ready_stored y coded =
      record {
        form = formed-stored;
        tidy = ap stored (sym meant_stored);
        gap = rw meant_stored y.gap;
        clock = y.clock;
        space = rw meant_stored y.space;
        coded = coded;
      }

-- one of several code points
pub typeable_one : {r : Replica} {g c : ℕ} {cs : List ℕ} → Typeable r g (c ∷ cs) → Typeable r g (c ∷ [])
typeable_one {c = c} {cs = cs} x =
    record {
      form = x.form;
      tidy = x.tidy;
      gap = x.gap;
      clock = omega (arith, x.clock);
      space = omega (arith, x.space);
      coded = rw (and_left_lem (is_code_point c) (every is_code_point cs) x.coded);
    }

-- ---- the columns

inserts-append : (os : List Operation) (i : Insert) → inserts (os ++ insert i ∷ []) ≡ inserts os ++ i ∷ []
inserts-append [] i = refl
inserts-append (insert j ∷ os) i = ap (λ (is : List Insert). j ∷ is) (inserts-append os i)
inserts-append (toggle d ∷ os) i = inserts-append os i

-- one character more
characters-append : (os : List Operation) (i : Insert) → characters_by (os ++ insert i ∷ []) ≡ characters_by os ++ character i ∷ []
characters-append os i = ap (map character) (inserts-append os i) ∙ map-append character (inserts os) (i ∷ [])

-- a column of it
column-more : (f : Character → ℕ) (os : List Operation) (i : Insert) (k : ℕ) → length (characters_by os) ≡ k → k < 1024 → {xs : List ℕ}
    → xs ≡ pad 1024 0 (map f (characters_by os))
    → set xs k (f (character i)) ≡ pad 1024 0 (map f (characters_by (os ++ insert i ∷ [])))
column-more f os i k many room e =
    rw (e, characters-append os i, map-append f (characters_by os) (character i ∷ []))
    (push-padded 1024 0 (f (character i)) (map f (characters_by os)) k (length-map (characters_by os) f ∙ many) room)

-- the columns of what was typed, and of all code points
pub record Columns (own : List Operation) (ns typed : List ℕ) : Type 0 where
  pub ids : key_column typed ≡ pad 1024 0 (keys (characters_by own))
  pub previous : previous_column typed ≡ pad 1024 0 (previous_keys (characters_by own))
  pub next : next_column typed ≡ pad 1024 0 (next_keys (characters_by own))
  pub points : code_point_column typed ≡ pad 1024 0 ns

columns-next : {own : List Operation} {ns typed after : List ℕ} (i : ℕ) (x : Insert) → Columns own ns typed → length (characters_by own) ≡ i
    → i < length ns → length ns ≤ 1024 → x.code_point ≡ get_or ns i 0 → Inscribed typed i x after
    → Columns (own ++ insert x ∷ []) ns after
unfolding character
columns-next {own} {ns} i x c many short few same w =
    record {
      ids = w.ids ∙ column-more (λ (d : Character). key d.id) own x i many (omega arith) c.ids;
      previous = w.previous ∙ column-more (λ (d : Character). key d.previous) own x i many (omega arith) c.previous;
      next = w.next ∙ column-more (λ (d : Character). key d.next) own x i many (omega arith) c.next;
      points =
          w.points ∙ ap₂ (λ (l : List ℕ) (n : ℕ). set l i n) c.points same ∙ set-padded 1024 0 i (get_or ns i 0) ns short
          ∙ ap (pad 1024 0) (set-get_or ns i 0);
    }

codes-next : (own : List Operation) (ns : List ℕ) (i : ℕ) (x : Insert) → code_points_of (characters_by own) ≡ take i ns → i < length ns
    → x.code_point ≡ get_or ns i 0
    → code_points_of (characters_by (own ++ insert x ∷ [])) ≡ take (suc i) ns
unfolding character
codes-next own ns i x codes short same =
    ap (λ (cs : List Character). code_points_of cs) (characters-append own x)
    ∙ map-append (λ (d : Character). d.code_point) (characters_by own) (character x ∷ [])
    ∙ ap₂ (λ (l : List ℕ) (n : ℕ). l ++ n ∷ []) codes same
    ∙ sym (take-suc ns i 0 short)

-- all of them typed
typed-all : {own : List Operation} {ns typed : List ℕ} → Columns own ns typed → code_points_of (characters_by own) ≡ ns → length typed ≡ 4096
    → typed ≡ typed_columns own
unfolding typed_columns in_columns
typed-all {own} {ns} {typed} c codes size =
    sym (columns-whole 1024 typed size)
    ∙ λ j. c.ids j ++ (c.previous j ++ (c.next j ++ (c.points ∙ ap (pad 1024 0) (sym codes)) j))

-- the code point that is read
pub point-read : {own : List Operation} {ns typed : List ℕ} → Columns own ns typed → (i : ℕ) → i < length ns → length ns ≤ 1024
    → get_or typed (3072 + i) 0 ≡ get_or ns i 0
point-read {own} {ns} {typed} c i short few =
    sym (column-at 1024 3 typed i (omega arith))
    ∙ ap (λ (l : List ℕ). get_or l i 0) c.points
    ∙ sym (get_or-take (length ns) (pad 1024 0 ns) i 0 short)
    ∙ ap (λ (l : List ℕ). get_or l i 0) (pad-take 1024 0 ns (length ns) refl)

-- ---- the loop

-- after i of them
pub record Going (s : State) (g w : ℕ) (ns : List ℕ) (r : Replica) (at : Typing) (typed : List ℕ) (i : ℕ) : Type 0 where
  pub within : i ≤ length ns
  pub typeable : Typeable r at.point (drop i ns)
  pub own : List Operation
  pub many : length (characters_by own) ≡ i
  pub codes : code_points_of (characters_by own) ≡ take i ns
  pub columns : Columns own ns typed
  pub balance : at.integrated + at.discarded + r.document.waiting ≡ w + i
  pub comes : comes_to own at.integrated at.discarded (meaning r) at.point (drop i ns) ≡ comes_to [] 0 0 s g ns

pub going_begun : {r : Replica} {at : Typing} {ns typed : List ℕ} → Typeable r at.point ns → Unwritten ns typed → at.integrated ≡ 0
    → at.discarded ≡ 0
    → Going (meaning r) at.point r.document.waiting ns r at typed 0
going_begun {at = at} x u n m =
    record {
      within = omega arith;
      typeable = x;
      own = [];
      many = refl;
      codes = refl;
      columns = record { ids = u.ids; previous = u.previous; next = u.next; points = u.points };
      balance = omega (arith, n, m);
      comes = rw (n, m);
    }

module _ {s : State} {g w : ℕ} {ns : List ℕ} {r : Replica} {at : Typing} {typed : List ℕ} {i : ℕ} (v : Going s g w ns r at typed i) where
  -- the next code point, and those behind it
  module _ (short : i < length ns) where
    abbrev pub point : ℕ
    point = get_or ns i 0

    ahead : drop i ns ≡ point ∷ drop (suc i) ns
    ahead = drop-cons ns i 0 short

    typeable_ahead : Typeable r at.point (point ∷ drop (suc i) ns)
    typeable_ahead = subst (Typeable r at.point) ahead v.typeable

    pub going_typeable : Typeable r at.point (point ∷ [])
    going_typeable = typeable_one typeable_ahead

    coded : is_code_point point ≡ true
    coded = and_left_lem (is_code_point point) (every is_code_point (drop (suc i) ns)) typeable_ahead.coded

    comes_ahead : comes_to v.own at.integrated at.discarded (meaning r) at.point (point ∷ drop (suc i) ns) ≡ comes_to [] 0 0 s g ns
    comes_ahead = ap (comes_to v.own at.integrated at.discarded (meaning r) at.point) (sym ahead) ∙ v.comes

    pub going_stopped : unplaceable (meaning r).characters (insert (generated_insert (meaning r) at.point point)) ≡ true → stopped s (typings s g ns) ≡ true
    going_stopped u =
        ap (λ (x : Come). x.stops) (sym comes_ahead)
        ∙ comes_stopped (meaning r) at.point point (drop (suc i) ns) (typeable_ready typeable_ahead) coded u

    module _ (few : length ns ≤ 1024) {q : Replica} {one : Typed} {after : List ℕ}
        (t : Taken r at point one q) (c : Inscribed typed i one.insert after) where
      abbrev x : Insert
      x = one.insert

      abbrev to : Typing
      to = one.after

      abbrev next : State
      next = state_after (meaning r) at.point point

      formed-next : well_formed next ≡ true
      formed-next = form_kept (meaning r) (inserting at.point point) (typeable_ready typeable_ahead).form

      ready_next : Ready next (gap_then (meaning r) at.point point) (length (drop (suc i) ns))
      ready_next =
          let y = typeable_ready typeable_ahead in
          typed_ready (meaning r) at.point point (length (drop (suc i) ns)) y coded
          (typed-done (meaning r) at.point point (length (drop (suc i) ns)) y coded t.placed)

      typeable_next : Typeable q to.point (drop (suc i) ns)
      typeable_next =
          rw (t.left, t.below)
          (ready_stored next formed-next ready_next (and_right (is_code_point point) (every is_code_point (drop (suc i) ns)) typeable_ahead.coded))

      meant_next : meaning q ≡ next
      meant_next = ap meaning t.left ∙ meant_stored next formed-next

      pub going_next : Going s g w ns q to after (suc i)
      unfolding generated_insert character
      going_next =
          record {
            within = short;
            typeable = typeable_next;
            own = v.own ++ insert x ∷ [];
            many = ap length (characters-append v.own x) ∙ length-append (characters_by v.own) (character x ∷ []) ∙ add-one _ ∙ ap suc v.many;
            codes = codes-next v.own ns i x v.codes short (ap (λ (y : Insert). y.code_point) t.made);
            columns = columns-next i x v.columns v.many short few (ap (λ (y : Insert). y.code_point) t.made) c;
            balance = omega (arith, t.balance, v.balance);
            comes =
                (λ j. comes_to (v.own ++ insert (t.made j) ∷ []) (t.integrated j) (t.discarded j) (meant_next j) (t.below j) (drop (suc i) ns))
                ∙ comes_next (meaning r) at.point point (drop (suc i) ns) (typeable_ready typeable_ahead) coded v.own at.integrated
                at.discarded t.placed
                ∙ comes_ahead;
          }

      pub going_again : Going s g w ns q to after (i + 1)
      going_again = subst (Going s g w ns q to after) (sym (add-one i)) going_next

  -- all of them
  module _ (over : length ns ≤ i) where
    ended : comes_to v.own at.integrated at.discarded (meaning r) at.point [] ≡ comes_to [] 0 0 s g ns
    ended =
        ap (comes_to v.own at.integrated at.discarded (meaning r) at.point) (sym (drop_of_length-le ns {i = i} over)) ∙ v.comes

    pub going_ended : length typed ≡ 4096 → Written s g ns typed at r
    unfolding stopped
    going_ended size =
        record {
          unstopped = ap (λ (c : Come). c.stops) (sym ended);
          left = v.typeable.tidy ∙ ap (λ (c : Come). stored c.state) ended;
          integrated = sym (add-zero at.integrated) ∙ ap (λ (c : Come). c.integrated) ended ∙ zero-add _;
          discarded = sym (add-zero at.discarded) ∙ ap (λ (c : Come). c.discarded) ended ∙ zero-add _;
          own =
              typed-all v.columns (v.codes ∙ take_all i ns over) size
              ∙ ap typed_columns (sym (append-nil v.own) ∙ ap (λ (c : Come). c.own) ended);
        }

-- ---- what one step told

module _ (r : Replica) (at : Typing) {n m : ℕ} (same : n ≡ m) (q : Replica) {t : Option Typed} (w : OneTyped r at n q t) where
  pub told_nowhere : t ≡ None → unplaceable (meaning r).characters (insert (generated_insert (meaning r) at.point m)) ≡ true
  unfolding OneTyped
  told_nowhere e = rw (same, e) at w

  pub told-taken : {x : Typed} → t ≡ Some x → Taken r at m x q
  unfolding OneTyped
  told-taken e = rw (same, e) at w
