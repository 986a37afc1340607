-- Heaps as bytes: the line of an operation is read as that operation, whatever follows, and no line of one in range is
-- longer than its kind allows.
use mathlib.Core.Path.{◌≡◌, refl, sym, ap, ap₂, ◌∙◌}
use mathlib.Core.List.{List, [], ◌∷◌, ◌++◌, map}
use mathlib.Core.Bool.{Bool, true, false, ◌&&◌, ◌||◌, not}
use mathlib.Core.Logic.{◌⊎◌, inl, inr, ⊎_elim}
use Prim.Native.Nat.{ℕ, zero, suc, ◌+◌, ◌*◌, ◌≤◌}
use native.Mathlib.Nat.{zero-mul, suc-mul}
use native.Mathlib.Omega.{arith}
use lib.Dec.{ltb}
use lib.ListN.{length, replicate, length-append, length-replicate}
use borrow.Author.Tests.{eqb-false, eq-eqb, ltb-false, le-ltb}
use Rattle.lists.specs.Lists.{any, every}
use Rattle.lists.proofs.Tests.{either, clash, and_left_lem, and_right, and_intro}
use Rattle.lists.proofs.Tests.{or_cases, or-false, or-false-left, or-false-right}
use Rattle.lists.proofs.Members.{every_append}
use Rattle.woot.specs.declared.Insert.{Insert}
use Rattle.woot.specs.declared.Toggle.{Toggle}
use Rattle.woot.specs.declared.Operation.{Operation}
use Rattle.woot.specs.declared.Operation.TheVariants.{Insert as insert, Toggle as toggle}
use Rattle.bulk.specs.Building.{heap_full, disagree, disagreeing}
use Rattle.woot.specs.Identifiers.{same}
use Rattle.woot.specs.Limits.{capacity}
use Rattle.woot.specs.Operations.{inserts, toggles_among, same_insert}
use Rattle.woot.specs.Ranges.{in_range}
use Rattle.lines.specs.Lines.{lines, closed, line_feed, concatenated}
use Rattle.lines.specs.Fields.{fields, has_layout, numerals, values_of, columns, line_of}
use Rattle.decimal.specs.Numeral.{is_digit, leading_zero, is_numeral, value_of}
use Rattle.lines.proofs.Lines.{closed_line, lines_line, whole, rejoined, concatenated-append}
use Rattle.lines.proofs.Sizes.{line_length}
use Rattle.lines.proofs.Spelling.{layout_line, values_line, spelled, other-letter}
use Rattle.codec.specs.Operations.{insert_head, toggle_head, delete_head, insert_numbers, toggle_numbers}
use Rattle.codec.specs.Operations.{identifier_at, insert_of, toggle_of, delete_of, is_insert, is_toggle, is_delete}
use Rattle.codec.specs.Operations.{operation_of, operation_line}
use Rattle.codec.specs.Calls.{as_written, line_laid_out}
use Rattle.codec.proofs.Letters.{delete_alone}
use Rattle.codec.proofs.Sizes.{line_lengths, delete_length, longest-lines}
use Rattle.convergence.proofs.Identifiers.{same_refl}
use Rattle.codec.proofs.Trips.{insert_numbers_back, toggle_numbers_back, delete_numbers_back}
use Rattle.heap.specs.Format.{heap_laid_out, line_said, heap_said}
use Rattle.heap.specs.Theorems.{HeapReadsBack, HeapLengths, LongestHeap, HeapExamples}

-- ---- read back

abbrev bare : Operation → List ℕ
bare (insert i) = insert_head ++ columns (insert_numbers i)
bare (toggle t) = toggle_head ++ columns (toggle_numbers t)

lines_more : (o : Operation) (s : List ℕ) → lines (operation_line o ++ s) ≡ bare o ∷ lines s
unfolding operation_line
lines_more (insert i) s = lines_line insert_head (insert_numbers i) s refl
lines_more (toggle t) s = lines_line toggle_head (toggle_numbers t) s refl

closed-more : (o : Operation) (s : List ℕ) → closed (operation_line o ++ s) ≡ closed s
unfolding operation_line
closed-more (insert i) s = closed_line insert_head (insert_numbers i) s
closed-more (toggle t) s = closed_line toggle_head (toggle_numbers t) s

bare_laid : (o : Operation) → line_laid_out (bare o) ≡ true
unfolding line_laid_out as_written is_insert is_toggle insert_numbers toggle_numbers
bare_laid (insert i) = rw (layout_line insert_head (insert_numbers i) refl 7 refl)
bare_laid (toggle t) =
    rw (
      other-letter 73 7 (bare (toggle t)) (eqb-false 69 73 refl),
      layout_line toggle_head (toggle_numbers t) refl 4 refl,
    )

bare_said : (o : Operation) → line_said (bare o) ≡ o
unfolding line_said operation_of is_insert is_toggle insert_numbers insert_of toggle_numbers toggle_of identifier_at
bare_said (insert i) =
    rw (layout_line insert_head (insert_numbers i) refl 7 refl, values_line insert_head (insert_numbers i) refl)
bare_said (toggle t) =
    rw (
      other-letter 73 7 (bare (toggle t)) (eqb-false 69 73 refl),
      layout_line toggle_head (toggle_numbers t) refl 4 refl,
      values_line toggle_head (toggle_numbers t) refl,
    )

shut : (os : List Operation) → closed (concatenated operation_line os) ≡ true
unfolding closed
shut [] = refl
shut (o ∷ os) = closed-more o (concatenated operation_line os) ∙ shut os

in_lines : (os : List Operation) → lines (concatenated operation_line os) ≡ map bare os
in_lines [] = refl
in_lines (o ∷ os) =
    lines_more o (concatenated operation_line os) ∙ ap (λ (ls : List (List ℕ)). bare o ∷ ls) (in_lines os)

all_laid : (os : List Operation) → every line_laid_out (map bare os) ≡ true
all_laid [] = refl
all_laid (o ∷ os) = and_intro (bare_laid o) (all_laid os)

all_said : (os : List Operation) → map line_said (map bare os) ≡ os
all_said [] = refl
all_said (o ∷ os) = ap₂ (λ (p : Operation) (ps : List Operation). p ∷ ps) (bare_said o) (all_said os)

pub heap_reads-back : HeapReadsBack
unfolding heap_laid_out heap_said
heap_reads-back os =
    let laid = ap (every line_laid_out) (in_lines os) ∙ all_laid os in
    (and_intro (shut os) laid, ap (map line_said) (in_lines os) ∙ all_said os)

-- ---- sizes

-- how long a line of an operation may be
abbrev most : Operation → ℕ
most (insert i) = 37
most (toggle t) = 18

module _ (line : List ℕ) where
  abbrev ns : List ℕ
  ns = values_of (fields line)

  -- a line of a kind is as long as the one that is written of its numbers
  as_long : (head : List ℕ) (n : ℕ) {ms : List ℕ} → line ≡ head ++ columns ns → ms ≡ ns → length (line_of head ms) ≤ n
      → length line + 1 ≤ n
  as_long head n e f h =
      omega (
        arith,
        h,
        ap length e,
        length-append head (columns ns),
        line_length head ns,
        ap (λ (l : List ℕ). length (line_of head l)) f,
      )

  line_most : line_laid_out line ≡ true → in_range (line_said line) ≡ true → length line + 1 ≤ most (line_said line)
  unfolding line_laid_out as_written line_said is_insert is_toggle is_delete operation_of operation_line
  line_most laid good =
      ⊎_elim as_insert (λ n. ⊎_elim (as_toggle n) (as_delete n) (kinds n)) (either (is_insert (fields line)))
    where
      kinds : is_insert (fields line) ≡ false → (is_toggle (fields line) ≡ true) ⊎ (is_delete (fields line) ≡ true)
      kinds n =
          ⊎_elim (λ e. ⊎_elim (λ i. clash i n) inl (or_cases (is_insert (fields line)) (is_toggle (fields line)) e)) inr
          (or_cases (is_insert (fields line) || is_toggle (fields line)) (is_delete (fields line)) laid)

      as_insert : is_insert (fields line) ≡ true → length line + 1 ≤ most (operation_of (fields line))
      as_insert e =
          let p = spelled insert_head 7 line e in
          let low = line_lengths.0 (insert_of ns) (rw e at good) in
          rw e (as_long insert_head 37 p.0 (insert_numbers_back ns p.1) low)

      as_toggle : is_insert (fields line) ≡ false → is_toggle (fields line) ≡ true
          → length line + 1 ≤ most (operation_of (fields line))
      as_toggle n e =
          let p = spelled toggle_head 4 line e in
          let low = line_lengths.1 (toggle_of ns) (rw (n, e) at good) in
          rw n (as_long toggle_head 18 p.0 (toggle_numbers_back ns p.1) low)

      as_delete : is_insert (fields line) ≡ false → is_delete (fields line) ≡ true
          → length line + 1 ≤ most (operation_of (fields line))
      as_delete n e =
          let p = spelled delete_head 3 line e in
          let low = delete_length (delete_of ns) (rw (n, delete_alone line e) at good) in
          rw n (as_long delete_head 18 p.0 (delete_numbers_back ns p.1) (omega (arith, low)))

-- as many bytes as operations of either kind may have
abbrev all_most : List Operation → ℕ
all_most os = 37 * length (inserts os) + 18 * length (toggles_among os)

-- all lines
lines-most : (ls : List (List ℕ)) → every line_laid_out ls ≡ true → every in_range (map line_said ls) ≡ true
    → length (concatenated whole ls) ≤ all_most (map line_said ls)
lines-most [] laid good = omega arith
lines-most (line ∷ ls) laid good =
    go (line_said line) (line_most line (and_left_lem (line_laid_out line) _ laid) (and_left_lem (in_range (line_said line)) _ good))
    (lines-most ls (and_right (line_laid_out line) _ laid) (and_right (in_range (line_said line)) _ good))
  where
    more : length (concatenated whole (line ∷ ls)) ≡ length line + 1 + length (concatenated whole ls)
    more = omega (arith, length-append (whole line) (concatenated whole ls), length-append line (line_feed ∷ []))

    go : (o : Operation) → length line + 1 ≤ most o
        → length (concatenated whole ls) ≤ all_most (map line_said ls)
        → length (concatenated whole (line ∷ ls)) ≤ all_most (o ∷ map line_said ls)
    go (insert i) h k = omega (arith, more, h, k)
    go (toggle t) h k = omega (arith, more, h, k)

pub heap_lengths : HeapLengths
unfolding heap_laid_out heap_said heap_full
heap_lengths s laid good few =
    let os = map line_said (lines s) in
    let i : length (inserts os) ≤ 1024 = ltb-false _ _ (or-false-left (ltb capacity (length (inserts os))) _ few) in
    let t : length (toggles_among os) ≤ 1024 =
    ltb-false _ _ (or-false-right (ltb capacity (length (inserts os))) _ few) in
    omega (
      arith,
      i,
      t,
      ap length (rejoined s (and_left_lem (closed s) _ laid)),
      lines-most (lines s) (and_right (closed s) _ laid) good,
    )

-- ---- the longest

every-copy : {A : Type 0} (p : A → Bool) (n : ℕ) (x : A) → p x ≡ true → every p (replicate n x) ≡ true
every-copy p zero x e = refl
every-copy p (suc n) x e = and_intro e (every-copy p n x e)

any_copy : {A : Type 0} (p : A → Bool) (n : ℕ) (x : A) → p x ≡ false → any p (replicate n x) ≡ false
any_copy p zero x e = refl
any_copy p (suc n) x e = or-false e (any_copy p n x e)

copied_length : (n : ℕ) (o : Operation)
    → length (concatenated operation_line (replicate n o)) ≡ n * length (operation_line o)
copied_length zero o = sym (zero-mul (length (operation_line o)))
copied_length (suc n) o =
    omega (
      arith,
      copied_length n o,
      length-append (operation_line o) (concatenated operation_line (replicate n o)),
      suc-mul n (length (operation_line o)),
    )

same-itself : (x : Insert) → same_insert x x ≡ true
unfolding same_insert
same-itself x =
    let point = eq-eqb x.code_point x.code_point refl in
    and_intro (and_intro (and_intro (same_refl x.id) point) (same_refl x.previous)) (same_refl x.next)

pub no_disagreement : {x y : Insert} → (same x.id y.id ≡ true → x ≡ y) → disagree x y ≡ false
unfolding disagree
no_disagreement {x} {y} h = go (same x.id y.id) refl
  where
    go : (b : Bool) → same x.id y.id ≡ b → (same x.id y.id && not (same_insert x y)) ≡ false
    go false e = rw e
    go true e = rw (e, ← h e, same-itself x)

-- n copies of an insert and m of a toggle, over any n and m
abbrev copies : ℕ → ℕ → Insert → Toggle → List Operation
copies n m i t = replicate n (insert i) ++ replicate m (toggle t)

inserts_copied : (n m : ℕ) (i : Insert) (t : Toggle) → inserts (copies n m i t) ≡ replicate n i
inserts_copied zero zero i t = refl
inserts_copied zero (suc m) i t = inserts_copied zero m i t
inserts_copied (suc n) m i t = ap (λ (is : List Insert). i ∷ is) (inserts_copied n m i t)

toggles_copied : (n m : ℕ) (i : Insert) (t : Toggle) → toggles_among (copies n m i t) ≡ replicate m t
toggles_copied zero zero i t = refl
toggles_copied zero (suc m) i t = ap (λ (ts : List Toggle). t ∷ ts) (toggles_copied zero m i t)
toggles_copied (suc n) m i t = toggles_copied n m i t

module _ (n m : ℕ) (i : Insert) (t : Toggle) where
  abbrev first : List Operation
  first = replicate n (insert i)

  abbrev second : List Operation
  second = replicate m (toggle t)

  copies_length : length (concatenated operation_line (copies n m i t))
      ≡ n * length (operation_line (insert i)) + m * length (operation_line (toggle t))
  copies_length =
      ap length (concatenated-append operation_line first second)
      ∙ length-append (concatenated operation_line first) (concatenated operation_line second)
      ∙ ap₂ (λ (a b : ℕ). a + b) (copied_length n (insert i)) (copied_length m (toggle t))

  copies_ranged : in_range (insert i) ≡ true → in_range (toggle t) ≡ true → every in_range (copies n m i t) ≡ true
  copies_ranged a b =
      every_append in_range first second
      ∙ and_intro (every-copy in_range n (insert i) a) (every-copy in_range m (toggle t) b)

  copies_few : n ≤ capacity → m ≤ capacity → heap_full (copies n m i t) ≡ false
  unfolding heap_full
  copies_few a b =
      let some : length (inserts (copies n m i t)) ≡ n = ap length (inserts_copied n m i t) ∙ length-replicate n i in
      let others : length (toggles_among (copies n m i t)) ≡ m =
      ap length (toggles_copied n m i t) ∙ length-replicate m t in
      or-false (le-ltb capacity (length (inserts (copies n m i t))) (omega (arith, a, some)))
      (le-ltb capacity (length (toggles_among (copies n m i t))) (omega (arith, b, others)))

  copies_agree : disagreeing (inserts (copies n m i t)) ≡ false
  unfolding disagreeing
  copies_agree =
      rw (inserts_copied n m i t)
      (any_copy (λ (x : Insert). any (disagree x) (replicate n i)) n i
      (any_copy (disagree i) n i (no_disagreement (λ e. refl))))

-- the operations of `codec`'s longest lines
abbrev i : Insert
i =
    record {
      id = record { site = 16; clock = 65535 };
      code_point = 1114111;
      previous = record { site = 16; clock = 65534 };
      next = record { site = 16; clock = 65533 };
    }

abbrev t : Toggle
t = record { sender = 16; target = record { site = 16; clock = 65535 }; toggles = 255 }

pub longest-heap : LongestHeap
longest-heap =
    let l = longest-lines in (
      copies_length 1024 1024 i t ∙ ap₂ (λ (a b : ℕ). 1024 * a + 1024 * b) l.0.1 l.1.1,
      copies_ranged 1024 1024 i t l.0.0 l.1.0,
      copies_few 1024 1024 i t (omega arith) (omega arith),
      copies_agree 1024 1024 i t,
    )

-- ---- some heaps

pub heap_examples : HeapExamples
unfolding heap_laid_out heap_said line_said closed line_laid_out as_written is_insert is_toggle is_delete has_layout numerals operation_of values_of insert_of toggle_of delete_of identifier_at is_digit leading_zero is_numeral value_of
heap_examples = ((refl, refl), (refl, refl), refl, refl, refl)
