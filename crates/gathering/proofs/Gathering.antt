-- The lines of a heap read one after another: the lines that are done and those that are left are the whole. What is
-- told is told of those that are done, and as long as they are in range the arrays hold them.
use Rattle.std.proofs.Common.{Ok, Err}
use mathlib.Core.Path.{◌≡◌, refl, sym, ap, ◌∙◌}
use mathlib.Core.List.{List, [], ◌∷◌, ◌++◌, map, map-append, append-nil}
use mathlib.Core.Bool.{Bool, true, false, ◌&&◌, cond}
use mathlib.Core.Logic.{◌⊎◌, inl, inr, ⊎_elim}
use Prim.Native.Nat.{ℕ, ◌+◌, ◌≤◌, ◌<◌}
use native.Mathlib.Omega.{arith}
use lib.Dec.{eqb}
use lib.ListN.{length, take, get_or, length-append, length-map}
use lib.Seq.{append_snoc}
use borrow.Author.Tests.{eqb-false, eq-eqb, ne_eqb}
use Rattle.lists.specs.Lists.{every}
use Rattle.lists.proofs.Tests.{either, clash, and_left_lem, and_right, or_cases}
use Rattle.lists.proofs.Members.{every_append}
use Rattle.woot.specs.declared.Insert.{Insert}
use Rattle.woot.specs.declared.Toggle.{Toggle}
use Rattle.woot.specs.declared.Operation.{Operation}
use Rattle.woot.specs.declared.Operation.TheVariants.{Insert as insert, Toggle as toggle}
use Rattle.answers.specs.declared.Refusal.{Refusal}
use Rattle.answers.specs.declared.Refusal.TheVariants.{Layout, Range}
use Rattle.woot.specs.Operations.{inserts, toggles_among}
use Rattle.woot.specs.Ranges.{in_range}
use Rattle.woot.specs.Memory.{character_slots}
use Rattle.lines.specs.Lines.{ended, first_line, rest, lines, closed}
use Rattle.lines.specs.Fields.{fields, has_layout}
use Rattle.lines.proofs.Lines.{lines-ended, closed-rest, closed_unended, rest_shorter}
use Rattle.lines.proofs.Spelling.{spelled}
use Rattle.codec.specs.Operations.{is_insert, is_toggle, is_delete, operation_of}
use Rattle.codec.specs.Calls.{as_written, line_laid_out, read_as, read_line}
use Rattle.codec.proofs.Judging.{read-layout, read-range, read-operation}
use Rattle.gathering.specs.declared.Gathered.{Gathered}
use Rattle.heap.specs.Format.{heap_laid_out, line_said, heap_said}
use Rattle.heap.specs.Columns.{InsertsIn, TogglesIn}
use Rattle.gathering.specs.Gathering.{ungathered, gathered_of, gathered, Held, counted_one, and_one, and_line}

-- ---- one operation more

inserts-append : (os ps : List Operation) → inserts (os ++ ps) ≡ inserts os ++ inserts ps
inserts-append [] ps = refl
inserts-append (insert i ∷ os) ps = ap (λ (is : List Insert). i ∷ is) (inserts-append os ps)
inserts-append (toggle t ∷ os) ps = inserts-append os ps

toggles-append : (os ps : List Operation) → toggles_among (os ++ ps) ≡ toggles_among os ++ toggles_among ps
toggles-append [] ps = refl
toggles-append (insert i ∷ os) ps = toggles-append os ps
toggles-append (toggle t ∷ os) ps = ap (λ (ts : List Toggle). t ∷ ts) (toggles-append os ps)

and_true : (b : Bool) → b && true ≡ b
and_true true = refl
and_true false = refl

every_more : {A : Type 0} (p : A → Bool) (xs : List A) (x : A) → every p (xs ++ x ∷ []) ≡ every p xs && p x
every_more p xs x = every_append p xs (x ∷ []) ∙ ap (λ (b : Bool). every p xs && b) (and_true (p x))

-- it is counted by its kind
counted : (os : List Operation) (o : Operation) → and_one (gathered_of os) o ≡ gathered_of (os ++ o ∷ [])
unfolding gathered_of and_one counted_one
counted os (insert i) =
    let more : length (inserts os) + 1 ≡ length (inserts (os ++ insert i ∷ [])) =
    sym (ap length (inserts-append os (insert i ∷ [])) ∙ length-append (inserts os) (i ∷ [])) in
    let same : length (toggles_among os) ≡ length (toggles_among (os ++ insert i ∷ [])) =
    sym (ap length (toggles-append os (insert i ∷ []) ∙ append-nil (toggles_among os))) in
    λ j. record {
      laid_out = true;
      in_range = sym (every_more in_range os (insert i)) j;
      inserts = more j;
      toggles = same j;
    }
counted os (toggle t) =
    let more : length (toggles_among os) + 1 ≡ length (toggles_among (os ++ toggle t ∷ [])) =
    sym (ap length (toggles-append os (toggle t ∷ [])) ∙ length-append (toggles_among os) (t ∷ [])) in
    let same : length (inserts os) ≡ length (inserts (os ++ toggle t ∷ [])) =
    sym (ap length (inserts-append os (toggle t ∷ []) ∙ append-nil (inserts os))) in
    λ j. record {
      laid_out = true;
      in_range = sym (every_more in_range os (toggle t)) j;
      inserts = same j;
      toggles = more j;
    }

module _ (g : Gathered) (o : Operation) (passes : in_range o ≡ true) {r : Gathered} where
  pub kept-insert : (i : Insert) → o ≡ insert i → r ≡ counted_one g true true → r ≡ and_one g o
  unfolding and_one
  kept-insert i e q = q ∙ rw e (ap (counted_one g true) (sym (rw e at passes)))

  pub kept_toggle : (t : Toggle) → o ≡ toggle t → r ≡ counted_one g false true → r ≡ and_one g o
  unfolding and_one
  kept_toggle t e q = q ∙ rw e (ap (counted_one g false) (sym (rw e at passes)))

module _
    {g : Gathered} (o : Operation) (os : List Operation) (p : g ≡ gathered_of os) {xs ts : List ℕ}
    (h : Held xs ts os) where
  pub held-insert : (i : Insert) → o ≡ insert i → {ys : List ℕ}
      → ((is : List Insert) → InsertsIn xs (take character_slots is) → g.inserts ≡ length is
      → InsertsIn ys (take character_slots (is ++ i ∷ [])))
      → Held ys ts (os ++ o ∷ [])
  unfolding gathered_of
  held-insert i e k =
      rw e
      (record {
        inserted =
            rw (inserts-append os (insert i ∷ [])) (k (inserts os) h.inserted (ap (λ (x : Gathered). x.inserts) p));
        toggled = rw (toggles-append os (insert i ∷ []), append-nil (toggles_among os)) h.toggled;
      })

  pub held_toggle : (t : Toggle) → o ≡ toggle t → {us : List ℕ}
      → ((vs : List Toggle) → TogglesIn ts (take character_slots vs) → g.toggles ≡ length vs
      → TogglesIn us (take character_slots (vs ++ t ∷ [])))
      → Held xs us (os ++ o ∷ [])
  unfolding gathered_of
  held_toggle t e k =
      rw e
      (record {
        inserted = rw (inserts-append os (toggle t ∷ []), append-nil (inserts os)) h.inserted;
        toggled =
            rw (toggles-append os (toggle t ∷ []))
            (k (toggles_among os) h.toggled (ap (λ (x : Gathered). x.toggles) p));
      })

-- ---- a line, by what `codec` answers

module _ (line : List ℕ) where
  by_checks : read_line line ≡ read_as (line_laid_out line) (line_said line)
  unfolding read_line line_said
  by_checks = refl

  pub was_read : (o : Operation) → read_line line ≡ Ok o
      → (line_laid_out line ≡ true) × (line_said line ≡ o) × (in_range o ≡ true)
  was_read o e = go (line_laid_out line) (in_range (line_said line)) refl refl (sym by_checks ∙ e)
    where
      go : (a b : Bool) → line_laid_out line ≡ a → in_range (line_said line) ≡ b
          → read_as (line_laid_out line) (line_said line) ≡ Ok o
          → (line_laid_out line ≡ true) × (line_said line ≡ o) × (in_range o ≡ true)
      go false b p q w = let z : Err Layout ≡ Ok o = sym (read-layout _) ∙ rw p at w in (cc, cc, cc)
      go true false p q w = let z : Err Range ≡ Ok o = sym (read-range _ q) ∙ rw p at w in (cc, cc, cc)
      go true true p q w =
          let z : Ok (line_said line) ≡ Ok o = sym (read-operation _ q) ∙ rw p at w in
          let same : line_said line ≡ o = cc in
          (p, same, rw same at q)

  -- with a refusal: it is 2 where the layout holds, and 1 where it does not
  abbrev Told : Refusal → Type 0
  Told r =
      ((r ≡ Range) × (line_laid_out line ≡ true) × (in_range (line_said line) ≡ false))
      ⊎ ((r ≡ Layout) × (line_laid_out line ≡ false))

  refused : (r : Refusal) → read_line line ≡ Err r → Told r
  refused r e = go (line_laid_out line) (in_range (line_said line)) refl refl (sym by_checks ∙ e)
    where
      go : (a b : Bool) → line_laid_out line ≡ a → in_range (line_said line) ≡ b
          → read_as (line_laid_out line) (line_said line) ≡ Err r → Told r
      go false b p q w = let z : Err Layout ≡ Err r = sym (read-layout _) ∙ rw p at w in inr (cc, p)
      go true false p q w =
          let z : Err Range ≡ Err r = sym (read-range _ q) ∙ rw p at w in
          inl (cc, p, q)
      go true true p q w =
          let z : Ok (line_said line) ≡ Err r = sym (read-operation _ q) ∙ rw p at w in
          inr (cc, cc)

  module _ (r : Refusal) (e : read_line line ≡ Err r) where
    pub out_of_range_lem : r ≡ Range → (line_laid_out line ≡ true) × (in_range (line_said line) ≡ false)
    out_of_range_lem h = ⊎_elim (λ w. (w.1, w.2)) (λ w. let z : Layout ≡ Range = sym w.0 ∙ h in (cc, cc)) (refused r e)

    pub lacks-layout : (r ≡ Range → ⊥) → line_laid_out line ≡ false
    lacks-layout h = ⊎_elim (λ w. absurd (h w.0)) (λ w. w.1) (refused r e)

  -- the letter of a line that has the layout tells its kind
  begins : (head count : ℕ) → has_layout (head ∷ []) count (fields line) ≡ true → get_or line 0 0 ≡ head
  begins head count e = ap (λ (l : List ℕ). get_or l 0 0) (spelled (head ∷ []) count line e).0

  insert-letter : line_laid_out line ≡ true → is_insert (fields line) ≡ eqb (get_or line 0 0) 73
  unfolding line_laid_out as_written is_insert is_toggle is_delete
  insert-letter laid =
      ⊎_elim (λ e. e ∙ sym (eq-eqb (get_or line 0 0) 73 (begins 73 7 e))) (λ e. e ∙ sym (other e))
      (either (is_insert (fields line)))
    where
      not_it : (n : ℕ) → (n ≡ 73 → ⊥) → get_or line 0 0 ≡ n → eqb (get_or line 0 0) 73 ≡ false
      not_it n h e = ne_eqb (get_or line 0 0) 73 (λ q. h (sym e ∙ q))

      other : is_insert (fields line) ≡ false → eqb (get_or line 0 0) 73 ≡ false
      other n =
          ⊎_elim (λ e. ⊎_elim (λ i. clash i n) (λ t. not_it 69 (eqb-false 69 73 refl) (begins 69 4 t)) (or_cases _ _ e))
          (λ d. not_it 68 (eqb-false 68 73 refl) (begins 68 3 d)) (or_cases _ _ laid)

  pub counted-letter : (g : Gathered) {b : Bool} {r : Gathered} → line_laid_out line ≡ true
      → in_range (line_said line) ≡ false → b ≡ eqb (get_or line 0 0) 73 → r ≡ counted_one g b false → r ≡ and_line g line
  unfolding and_line line_said operation_of and_one
  counted-letter g {b} {r} laid out e q = q ∙ rw laid (go (is_insert (fields line)) refl out)
    where
      kind : b ≡ is_insert (fields line)
      kind = e ∙ sym (insert-letter laid)

      go : (c : Bool) → is_insert (fields line) ≡ c → in_range (line_said line) ≡ false
          → counted_one g b false ≡ and_one g (line_said line)
      go true p o = rw (kind ∙ p, p) (ap (counted_one g true) (sym (rw p at o)))
      go false p o = rw (kind ∙ p, p) (ap (counted_one g false) (sym (rw p at o)))

  pub kept_line : (g : Gathered) (o : Operation) {r : Gathered} → line_laid_out line ≡ true → line_said line ≡ o
      → r ≡ and_one g o → r ≡ and_line g line
  unfolding and_line
  kept_line g o laid said q = q ∙ rw (laid, said)

  pub no_line : (g : Gathered) {r : Gathered} → line_laid_out line ≡ false → r ≡ ungathered → r ≡ and_line g line
  unfolding and_line
  no_line g laid q = q ∙ rw laid

  -- what is told of it
  pub laid_told : (g : Gathered) → (and_line g line).laid_out ≡ line_laid_out line
  unfolding and_line ungathered and_one counted_one
  laid_told g = go (line_laid_out line) (line_said line)
    where
      go : (b : Bool) (o : Operation) → (cond b (and_one g o) ungathered).laid_out ≡ b
      go false o = refl
      go true (insert i) = refl
      go true (toggle t) = refl

  pub range-told : (g : Gathered) → line_laid_out line ≡ true → (and_line g line).in_range ≡ true
      → (g.in_range ≡ true) × (in_range (line_said line) ≡ true)
  unfolding and_line and_one counted_one
  range-told g laid e = go (line_said line) (rw laid at e)
    where
      both : (b : Bool) → g.in_range && b ≡ true → (g.in_range ≡ true) × (b ≡ true)
      both b h = (and_left_lem g.in_range b h, and_right g.in_range b h)

      go : (o : Operation) → (and_one g o).in_range ≡ true → (g.in_range ≡ true) × (in_range o ≡ true)
      go (insert i) e = both (in_range (insert i)) e
      go (toggle t) e = both (in_range (toggle t)) e

pub no-range-told : {r : Gathered} → r ≡ ungathered → r.in_range ≡ false
unfolding ungathered
no-range-told q = ap (λ (x : Gathered). x.in_range) q

-- ---- the loop of `gather`

pub record GatherLoop (s xs ts : List ℕ) (g : Gathered) (left : List ℕ) : Type 0 where
  pub done : List (List ℕ)
  pub whole : lines s ≡ done ++ lines left
  pub laid : every line_laid_out done ≡ true
  pub ends : closed left ≡ closed s
  pub told : g ≡ gathered_of (map line_said done)
  pub held : g.in_range ≡ true → Held xs ts (map line_said done)
  pub inserts-size : length xs ≡ 4096
  pub toggles-size : length ts ≡ 2048
  pub small : length done + length left ≤ length s

pub gather_begun : (s xs ts : List ℕ) → length xs ≡ 4096 → length ts ≡ 2048
    → GatherLoop s xs ts (record { laid_out = true; in_range = true; inserts = 0; toggles = 0 }) s
unfolding gathered_of
gather_begun s xs ts h k =
    record {
      done = [];
      whole = refl;
      laid = refl;
      ends = refl;
      told = refl;
      held = λ e. record {
        inserted = record { size = h; few = omega arith; ids = refl; previous = refl; next = refl; points = refl };
        toggled = record { size = k; few = omega arith; targets = refl; stamps = refl };
      };
      inserts-size = h;
      toggles-size = k;
      small = omega arith;
    }

module _ {s xs ts : List ℕ} {g : Gathered} {left : List ℕ} (l : GatherLoop s xs ts g left) where
  -- how many there are of either kind is no more than the lines that are done
  kinds : (os : List Operation) → length (inserts os) + length (toggles_among os) ≡ length os
  kinds [] = refl
  kinds (insert i ∷ os) = omega (arith, kinds os)
  kinds (toggle t ∷ os) = omega (arith, kinds os)

  pub gather_few : g.inserts + g.toggles + length left ≤ length s
  unfolding gathered_of
  gather_few =
      let os = map line_said l.done in
      let i : g.inserts ≡ length (inserts os) = ap (λ (x : Gathered). x.inserts) l.told in
      let t : g.toggles ≡ length (toggles_among os) = ap (λ (x : Gathered). x.toggles) l.told in
      omega (arith, i, t, kinds os, length-map l.done line_said, l.small)

  -- no byte is left
  module _ (h : length left ≤ 0) where
    none : (x : List ℕ) → length x ≤ 0 → x ≡ []
    none [] p = refl
    none (b ∷ x) p = absurd (omega arith)

    all_lines : lines s ≡ l.done
    all_lines = l.whole ∙ rw (none left h) (append-nil l.done)

    all_laid : heap_laid_out s ≡ true
    unfolding heap_laid_out closed
    all_laid = let shut : closed s ≡ true = sym l.ends ∙ ap closed (none left h) in rw (shut, all_lines, l.laid)

    pub gather_end : g ≡ gathered s
    unfolding gathered heap_said
    gather_end = rw (all_laid, all_lines) l.told

    pub gather_held : g.in_range ≡ true → Held xs ts (heap_said s)
    unfolding heap_said
    gather_held e = rw all_lines (l.held e)

  module _
      (h : 0 < length left) {line : List ℕ} (f : line ≡ cond (ended left) (first_line left) []) {r : Gathered}
      (q : r ≡ and_line g line) where
    told_laid : r.laid_out ≡ line_laid_out line
    told_laid = ap (λ (x : Gathered). x.laid_out) q ∙ laid_told line g

    -- the next line lacks the layout, or no line feed ends it
    module _ (e : r.laid_out ≡ false) where
      pub gather_lacks : heap_laid_out s ≡ false
      unfolding heap_laid_out
      gather_lacks = go (ended left) refl
        where
          lacks : line_laid_out line ≡ false
          lacks = sym told_laid ∙ e

          and_none : (b : Bool) → b && false ≡ false
          and_none true = refl
          and_none false = refl

          go : (b : Bool) → ended left ≡ b → closed s && every line_laid_out (lines s) ≡ false
          go true p =
              let this : line_laid_out (first_line left) ≡ false = rw (f, p) at lacks in
              let broken : every line_laid_out (lines s) ≡ false =
              rw (l.whole, lines-ended left p)
              (every_append line_laid_out l.done (first_line left ∷ lines (rest left)) ∙ rw (l.laid, this)) in
              rw broken (and_none (closed s))
          go false p = rw (sym l.ends ∙ closed_unended left h p)

      pub gather_none : {u : Gathered} → u ≡ ungathered → u ≡ gathered s
      unfolding gathered
      gather_none z = z ∙ rw gather_lacks

    -- it has the layout
    module _ (e : r.laid_out ≡ true) where
      has-layout : line_laid_out line ≡ true
      has-layout = sym told_laid ∙ e

      is-ended : ended left ≡ true
      unfolding line_laid_out as_written is_insert is_toggle is_delete has_layout
      is-ended = ⊎_elim (λ p. p) (λ p. clash has-layout (nothing p)) (either (ended left))
        where
          nothing : ended left ≡ false → line_laid_out line ≡ false
          nothing p = rw (f, p)

      as_said : and_line g line ≡ and_one g (line_said line)
      unfolding and_line
      as_said = rw has-layout

      is-first : line ≡ first_line left
      is-first = f ∙ rw is-ended

      pub gather_more : {ys us : List ℕ} {next : List ℕ} → next ≡ rest left
          → (r.in_range ≡ true → (os : List Operation) → g ≡ gathered_of os → Held xs ts os
          → Held ys us (os ++ line_said line ∷ []))
          → length ys ≡ 4096 → length us ≡ 2048 → GatherLoop s ys us r next
      gather_more t k a b =
          let os = map line_said l.done in
          let said : map line_said (l.done ++ line ∷ []) ≡ os ++ line_said line ∷ [] =
          map-append line_said l.done (line ∷ []) in
          record {
            done = l.done ++ line ∷ [];
            whole =
                l.whole
                ∙ rw (lines-ended left is-ended, t, is-first)
                (sym (append_snoc l.done (first_line left) (lines (rest left))));
            laid = every_more line_laid_out l.done line ∙ rw (l.laid, has-layout);
            ends = ap closed t ∙ closed-rest left is-ended ∙ l.ends;
            told =
                q ∙ as_said ∙ ap (λ (x : Gathered). and_one x (line_said line)) l.told ∙ counted os (line_said line)
                ∙ ap gathered_of (sym said);
            held = λ p.
                let passed = (range-told line g has-layout (ap (λ (x : Gathered). x.in_range) (sym q) ∙ p)).0 in
                rw said (k p os l.told (l.held passed));
            inserts-size = a;
            toggles-size = b;
            small = omega (arith, l.small, rest_shorter left h, ap length t, length-append l.done (line ∷ []));
          }
