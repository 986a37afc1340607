-- What the lines of a list come to is what the list says: chunk by chunk, in the loop, and at the end.
use Prim.Native.Nat.{ℕ, ◌+◌, ◌≤◌, ◌<◌, min}
use native.Mathlib.Omega.{arith}
use mathlib.Core.Path.{◌≡◌, refl, sym, ap, ◌∙◌, subst}
use mathlib.Core.List.{List, [], ◌∷◌, ◌++◌, map, append-nil}
use mathlib.Core.Bool.{Bool, true, false, ◌&&◌, ◌||◌, not, cond}
use mathlib.Core.Logic.{⊎_elim}
use lib.Count.{ones}
use lib.Dec.{eqb, ltb}
use lib.ListN.{length, length-append}
use lib.Seq.{append_snoc}
use borrow.Author.Tests.{eqb-true, eq-eqb, ne_eqb, not-false}
use Rattle.lists.specs.Lists.{any, every}
use Rattle.lists.proofs.Tests.{either, clash, or-false-left}
use Rattle.lists.proofs.Members.{any_append, every_append}
use Rattle.answers.specs.Answers.{decided}
use Rattle.answers.specs.declared.Refusal.{Refusal}
use Rattle.answers.specs.declared.Refusal.TheVariants.{Layout, Range, Mislisted}
use Rattle.woot.specs.Limits.{capacity}
use Rattle.woot.specs.Ranges.{within, site_number}
use Rattle.bulk.specs.Catching.{Chunk, Listing, ones_in, in_sequence, chunk_in_range, listing_in_range, marks_zero, mislisted}
use Rattle.lines.specs.Lines.{ended, first_line, rest, lines, closed}
use Rattle.lines.specs.Fields.{fields, has_layout}
use Rattle.lines.proofs.Lines.{lines-ended, lines_unended, closed-rest, closed_unended}
use Rattle.chunks.specs.Columns.{chunk_as, chunks_in}
use Rattle.std.proofs.Common.{Result, Ok, Err}
use Rattle.listing.specs.declared.reading.Summary.{Summary}
use Rattle.listing.specs.Format.{list_head, is_chunk, chunk_said, said_by_lines, are_list_lines, list_laid_out, list_said}
use Rattle.listing.specs.Calls.{list_read_checks, list_read}
use Rattle.listing.specs.Reading.{head_for, without_layout, out_of_range, total_alone, header_as, header_read, ones_and}
use Rattle.listing.specs.Reading.{with_chunk, and_chunk, and_line, and_chunks, summary_on, ChunksKept}
use Rattle.listing.specs.Reading.{conclusion, last_head, summary_of, summarized}
use Rattle.listing.proofs.Chunks.{and_true, and_none, and_assoc, bounds, head-back, sequence-more, last_more}
use Rattle.listing.proofs.Chunks.{ones-more, few-chunks}
use Rattle.listing.proofs.Steps.{header_bounds, chunks-range}

-- ---- one chunk more

abbrev with_more : Listing → List Chunk → Listing
with_more l ks = record { site = l.site; total = l.total; chunks = l.chunks ++ ks }

-- on one that is in range so far
module _ (l : Listing) (k : Chunk) where
  range-more : listing_in_range (with_more l (k ∷ [])) ≡ listing_in_range l && chunk_in_range k
  unfolding listing_in_range
  range-more =
      rw (every_append chunk_in_range l.chunks (k ∷ []), and_true (chunk_in_range k))
      (sym
      (and_assoc (site_number l.site && within 0 capacity l.total) (every chunk_in_range l.chunks)
      (chunk_in_range k)))

  module _ (good : listing_in_range l ≡ true) (h : chunk_in_range k ≡ true) where
    sound_more : ((not (any marks_zero l.chunks) && in_sequence l.chunks)
        && ltb (last_head 0 l.chunks) (head_for k))
        && not (marks_zero (chunk_as (head_for k) k.word))
        ≡ not (any marks_zero (l.chunks ++ k ∷ [])) && in_sequence (l.chunks ++ k ∷ [])
    sound_more =
        rw (
          any_append marks_zero l.chunks (k ∷ []),
          sequence-more l.chunks k (chunks-range l good) h,
          head-back k (bounds k h).index-high,
        )
        (regroup (any marks_zero l.chunks) (marks_zero k) (in_sequence l.chunks)
        (ltb (last_head 0 l.chunks) (head_for k)))
      where
        regroup : (a m q r : Bool) → ((not a && q) && r) && not m ≡ not (a || (m || false)) && (q && r)
        regroup true m q r = refl
        regroup false true q r = and_none (q && r)
        regroup false false q r = and_true (q && r)

    counted-more : with_chunk (summary_of l) (head_for k) k.word ≡ summary_of (with_more l (k ∷ []))
    unfolding with_chunk summary_of ones_and
    counted-more =
        let all : ones_in (l.chunks ++ k ∷ []) ≡ ones_in l.chunks + ones k.word = ones-more l.chunks k in
        let some : length (l.chunks ++ k ∷ []) ≡ length l.chunks + 1 = length-append l.chunks (k ∷ []) in
        let ones-are : min 1025 (min 1025 (ones_in l.chunks) + ones k.word)
        ≡ min 1025 (ones_in (l.chunks ++ k ∷ [])) =
        omega arith in
        let count-is : min 1024 (min 1024 (length l.chunks) + 1) ≡ min 1024 (length (l.chunks ++ k ∷ [])) =
        omega arith in
        λ j. record {
          laid_out = true;
          in_range = true;
          total = l.total;
          sound = sound_more j;
          ones = ones-are j;
          last = sym (last_more 0 l.chunks k) j;
          count = count-is j;
        }

  more-one : and_chunk (summarized l) k ≡ summarized (with_more l (k ∷ []))
  unfolding summarized and_chunk summary_of out_of_range
  more-one = rw range-more (go (listing_in_range l) (chunk_in_range k) refl refl)
    where
      go : (a b : Bool) → listing_in_range l ≡ a → chunk_in_range k ≡ b
          → cond ((cond a (summary_of l) out_of_range).in_range && b)
          (with_chunk (cond a (summary_of l) out_of_range) (head_for k) k.word) out_of_range
          ≡ cond (a && b) (summary_of (with_more l (k ∷ []))) out_of_range
      go false b p q = refl
      go true false p q = refl
      go true true p q = counted-more p q

-- all of them
all_more : (l : Listing) (ks : List Chunk) → and_chunks (summarized l) ks ≡ summarized (with_more l ks)
all_more l [] =
    ap summarized (λ j. record { site = l.site; total = l.total; chunks = sym (append-nil l.chunks) j })
all_more l (k ∷ ks) =
    ap (λ (t : Summary). and_chunks t ks) (more-one l k) ∙ all_more (with_more l (k ∷ [])) ks
    ∙ ap summarized (λ j. record { site = l.site; total = l.total; chunks = append_snoc l.chunks k ks j })

-- ---- the end

module _ (l : Listing) where
  -- where the list is in range its answer goes by 18 alone
  sound-or-not : listing_in_range l ≡ true
      → (not (any marks_zero l.chunks) && in_sequence l.chunks) && eqb l.total (min 1025 (ones_in l.chunks))
      ≡ not (mislisted l)
  unfolding mislisted
  sound-or-not good =
      rw total-is
      (go (any marks_zero l.chunks) (in_sequence l.chunks) (eqb l.total (ones_in l.chunks)))
    where
      low : l.total ≤ 1024
      low = (header_bounds l good).total-high

      total-is : eqb l.total (min 1025 (ones_in l.chunks)) ≡ eqb l.total (ones_in l.chunks)
      total-is =
          ⊎_elim
          (λ e.
          let same = eqb-true l.total (ones_in l.chunks) e in
          eq-eqb l.total (min 1025 (ones_in l.chunks)) (omega (arith, low)) ∙ sym e)
          (λ e.
          ne_eqb l.total (min 1025 (ones_in l.chunks))
          (λ q. differs e (omega (arith, low))) ∙ sym e)
          (either (eqb l.total (ones_in l.chunks)))
        where
          differs : eqb l.total (ones_in l.chunks) ≡ false → l.total ≡ ones_in l.chunks → ⊥
          differs e q = clash (eq-eqb l.total (ones_in l.chunks) q) e

      go : (m q t : Bool) → (not m && q) && t ≡ not (not t || m || not q)
      go true true true = refl
      go true true false = refl
      go true false true = refl
      go true false false = refl
      go false true true = refl
      go false true false = refl
      go false false true = refl
      go false false false = refl

  -- a list that is not refused has no more chunks than slots
  pub few-listed : listing_in_range l ≡ true → mislisted l ≡ false → length l.chunks ≤ 1024
  unfolding mislisted
  few-listed good e =
      let same : l.total ≡ ones_in l.chunks =
      eqb-true l.total (ones_in l.chunks)
      (not-false (eqb l.total (ones_in l.chunks))
      (or-false-left (not (eqb l.total (ones_in l.chunks))) (any marks_zero l.chunks)
      (or-false-left (not (eqb l.total (ones_in l.chunks)) || any marks_zero l.chunks)
      (not (in_sequence l.chunks)) e))) in
      omega (arith, few-chunks l.chunks (chunks-range l good), (header_bounds l good).total-high)

-- ---- the loop over the lines after the first

-- what a line adds tells whether it has the layout
chunk-told : (t : Summary) (k : Chunk) → (and_chunk t k).laid_out ≡ true
unfolding and_chunk with_chunk out_of_range
chunk-told t k = go (t.in_range && chunk_in_range k)
  where
    go : (b : Bool) → (cond b (with_chunk t (head_for k) k.word) out_of_range).laid_out ≡ true
    go true = refl
    go false = refl

line_told : (t : Summary) (line : List ℕ) → (and_line t line).laid_out ≡ is_chunk line
unfolding and_line without_layout
line_told t line = go (is_chunk line)
  where
    go : (b : Bool) → (cond b (and_chunk t (chunk_said line)) without_layout).laid_out ≡ b
    go true = chunk-told t (chunk_said line)
    go false = refl

-- and, in range, how many chunks there are
chunk_counts : (t : Summary) (k : Chunk) → (and_chunk t k).in_range ≡ true
    → (t.in_range ≡ true) × ((and_chunk t k).count ≡ min 1024 (t.count + 1))
unfolding and_chunk with_chunk out_of_range
chunk_counts t k e = go t.in_range (chunk_in_range k) refl e
  where
    go : (a b : Bool) → t.in_range ≡ a
        → (cond (a && b) (with_chunk t (head_for k) k.word) out_of_range).in_range ≡ true
        → (t.in_range ≡ true)
        × ((cond (a && b) (with_chunk t (head_for k) k.word) out_of_range).count ≡ min 1024 (t.count + 1))
    go true true p q = (p, refl)
    go true false p q = clash q refl
    go false b p q = clash q refl

pub record ReadLoop (s : List ℕ) (first : Summary) (hs ws : List ℕ) (t : Summary) (left : List ℕ) : Type 0 where
  pub done : List Chunk
  pub whole : map chunk_said (lines s) ≡ done ++ map chunk_said (lines left)
  pub laid : every is_chunk (lines s) ≡ every is_chunk (lines left)
  pub ends : closed left ≡ closed s
  pub told : and_chunks first (map chunk_said (lines s)) ≡ and_chunks t (map chunk_said (lines left))
  pub count : t.in_range ≡ true → t.count ≡ min 1024 (length done)
  pub held : t.in_range ≡ true → ChunksKept hs ws done
  pub heads-size : length hs ≡ 1024
  pub words_size : length ws ≡ 1024

pub read-begun : (s : List ℕ) (first : Summary) (hs ws : List ℕ) → length hs ≡ 1024 → length ws ≡ 1024
    → first.count ≡ 0 → ReadLoop s first hs ws first s
unfolding chunks_in
read-begun s first hs ws h w z =
    record {
      done = [];
      whole = refl;
      laid = refl;
      ends = refl;
      told = refl;
      count = λ e. z;
      held = λ e few. refl;
      heads-size = h;
      words_size = w;
    }

module _
    {s : List ℕ} {first : Summary} {hs ws : List ℕ} {t : Summary} {left : List ℕ}
    (l : ReadLoop s first hs ws t left) where
  -- no byte is left
  module _ (h : length left ≤ 0) where
    none : (x : List ℕ) → length x ≤ 0 → x ≡ []
    none [] p = refl
    none (b ∷ x) p = absurd (omega arith)

    pub read-end : t ≡ summary_on first s
    unfolding summary_on closed
    read-end =
        let shut : closed s ≡ true = sym l.ends ∙ ap closed (none left h) in
        let laid : every is_chunk (lines s) ≡ true =
        l.laid ∙ ap (λ (x : List ℕ). every is_chunk (lines x)) (none left h) in
        let told = l.told ∙ ap (λ (x : List ℕ). and_chunks t (map chunk_said (lines x))) (none left h) in
        rw (shut, laid) (sym told)

    pub read_held : t.in_range ≡ true → ChunksKept hs ws (map chunk_said (lines s))
    read_held e =
        let all : map chunk_said (lines s) ≡ l.done =
        l.whole ∙ ap (λ (x : List ℕ). l.done ++ map chunk_said (lines x)) (none left h) ∙ append-nil l.done in
        rw all (l.held e)

  module _
      (h : 0 < length left) {line : List ℕ} (f : line ≡ cond (ended left) (first_line left) []) {r : Summary}
      (q : r ≡ and_line t line) where
    told_laid : r.laid_out ≡ is_chunk line
    told_laid = ap (λ (x : Summary). x.laid_out) q ∙ line_told t line

    -- the next line lacks the layout, or no line feed ends it
    pub read_none : r.laid_out ≡ false → {u : Summary} → u ≡ without_layout → u ≡ summary_on first s
    unfolding summary_on
    read_none e z = z ∙ rw (lacks (ended left) refl)
      where
        lacks : (b : Bool) → ended left ≡ b → closed s && every is_chunk (lines s) ≡ false
        lacks true p =
            let this : is_chunk (first_line left) ≡ false = rw (f, p) at (sym told_laid ∙ e) in
            rw (l.laid, lines-ended left p, this) (and_none (closed s))
        lacks false p = rw (sym l.ends ∙ closed_unended left h p)

    -- it has the layout
    module _ (e : r.laid_out ≡ true) where
      has-layout : is_chunk line ≡ true
      has-layout = sym told_laid ∙ e

      is-ended : ended left ≡ true
      unfolding is_chunk has_layout
      is-ended = ⊎_elim (λ p. p) (λ p. clash has-layout (nothing p)) (either (ended left))
        where
          nothing : ended left ≡ false → is_chunk line ≡ false
          nothing p = rw (f, p)

      next_line : lines left ≡ line ∷ lines (rest left)
      next_line = lines-ended left is-ended ∙ ap (λ (x : List ℕ). x ∷ lines (rest left)) (sym (f ∙ rw is-ended))

      as_chunk : r ≡ and_chunk t (chunk_said line)
      unfolding and_line
      as_chunk = q ∙ rw has-layout

      told-range : r.in_range ≡ true → (t.in_range ≡ true) × (r.count ≡ min 1024 (t.count + 1))
      told-range p =
          let w = chunk_counts t (chunk_said line) (ap (λ (x : Summary). x.in_range) (sym as_chunk) ∙ p) in
          (w.0, ap (λ (x : Summary). x.count) as_chunk ∙ w.1)

      pub read_more : {hs₁ ws₁ next : List ℕ} → next ≡ rest left
          → (r.in_range ≡ true → (ks : List Chunk) → t.count ≡ min 1024 (length ks) → ChunksKept hs ws ks
          → ChunksKept hs₁ ws₁ (ks ++ chunk_said line ∷ []))
          → length hs₁ ≡ 1024 → length ws₁ ≡ 1024 → ReadLoop s first hs₁ ws₁ r next
      read_more {hs₁} {ws₁} {next} n k a b =
          let k₁ = chunk_said line in
          let others : map chunk_said (lines left) ≡ k₁ ∷ map chunk_said (lines next) =
          ap (map chunk_said) next_line ∙ ap (λ (x : List ℕ). k₁ ∷ map chunk_said (lines x)) (sym n) in
          record {
            done = l.done ++ k₁ ∷ [];
            whole =
                l.whole ∙ ap (λ (ks : List Chunk). l.done ++ ks) others
                ∙ sym (append_snoc l.done k₁ (map chunk_said (lines next)));
            laid = l.laid ∙ rw (next_line, has-layout, n);
            ends = ap closed n ∙ closed-rest left is-ended ∙ l.ends;
            told =
                l.told ∙ ap (and_chunks t) others
                ∙ ap (λ (x : Summary). and_chunks x (map chunk_said (lines next))) (sym as_chunk);
            count = λ p.
                let w = told-range p in
                omega (arith, w.1, l.count w.0, length-append l.done (k₁ ∷ []));
            held = λ p. let w = told-range p in k p l.done (l.count w.0) (l.held w.0);
            heads-size = a;
            words_size = b;
          }

-- ---- the whole

-- a refusal by its condition
module _ (s : List ℕ) where
  pub listed-layout : list_laid_out s ≡ false → list_read s ≡ Err Layout
  unfolding list_read list_read_checks decided
  listed-layout e = rw e

  module _ (laid : list_laid_out s ≡ true) where
    pub listed-range : listing_in_range (list_said s) ≡ false → list_read s ≡ Err Range
    unfolding list_read list_read_checks decided
    listed-range e = rw (laid, e)

    module _ (good : listing_in_range (list_said s) ≡ true) where
      pub listed_wrong : mislisted (list_said s) ≡ true → list_read s ≡ Err Mislisted
      unfolding list_read list_read_checks decided
      listed_wrong e = rw (laid, good, e)

      pub listed-done : mislisted (list_said s) ≡ false → list_read s ≡ Ok (length (list_said s).chunks)
      unfolding list_read list_read_checks decided
      listed-done e = rw (laid, good, e)

  -- what the lines come to decides
  concludes : list_laid_out s ≡ true → conclusion (summarized (list_said s)) ≡ list_read s
  unfolding conclusion summarized summary_of out_of_range
  concludes laid = go (listing_in_range (list_said s)) (mislisted (list_said s)) refl refl
    where
      l : Listing
      l = list_said s

      go : (a b : Bool) → listing_in_range l ≡ a → mislisted l ≡ b → conclusion (summarized l) ≡ list_read s
      go false b p q = rw p (sym (listed-range laid p))
      go true true p q = rw (p, sound-or-not l p, q) (sym (listed_wrong laid p q))
      go true false p q =
          let few : min 1024 (length l.chunks) ≡ length l.chunks = omega (arith, few-listed l p q) in
          rw (p, sound-or-not l p, q) (ap Ok few ∙ sym (listed-done laid p q))

-- a refusal is no count
pub refused-done : {A : Type 0} (q : Refusal) (n : ℕ) → Err q ≡ Ok n → A
refused-done q n e = let z : ◌≡◌ {A = ℕ} 0 1 = cc in absurd (omega arith)

-- a list that is not refused meets no condition
pub done-told : (s : List ℕ) (n : ℕ) → list_read s ≡ Ok n
    → (list_laid_out s ≡ true) × (listing_in_range (list_said s) ≡ true)
    × (mislisted (list_said s) ≡ false)
    × (n ≡ length (list_said s).chunks)
done-told s n d = go (list_laid_out s) (listing_in_range (list_said s)) (mislisted (list_said s)) refl refl refl
  where
    go : (a b c : Bool) → list_laid_out s ≡ a → listing_in_range (list_said s) ≡ b → mislisted (list_said s) ≡ c
        → (list_laid_out s ≡ true) × (listing_in_range (list_said s) ≡ true)
        × (mislisted (list_said s) ≡ false)
        × (n ≡ length (list_said s).chunks)
    go false b c p q r = let z : Err Layout ≡ Ok n = sym (listed-layout s p) ∙ d in (cc, cc, cc, cc)
    go true false c p q r = let z : Err Range ≡ Ok n = sym (listed-range s p q) ∙ d in (cc, cc, cc, cc)
    go true true true p q r = let z : Err Mislisted ≡ Ok n = sym (listed_wrong s p q r) ∙ d in (cc, cc, cc, cc)
    go true true false p q r =
        let z : Ok (length (list_said s).chunks) ≡ Ok n = sym (listed-done s p q r) ∙ d in
        (p, q, r, cc)

module _
    (s : List ℕ) {line : List ℕ} (f : line ≡ cond (ended s) (first_line s) []) {h : Summary}
    (e : h ≡ header_read line) where
  is_header : Bool
  is_header = has_layout list_head 2 (fields line)

  header_told : h.laid_out ≡ is_header
  unfolding is_header header_read header_as total_alone out_of_range without_layout
  header_told = ap (λ (x : Summary). x.laid_out) e ∙ go is_header (listing_in_range (said_by_lines (line ∷ [])))
    where
      go : (a b : Bool)
          → (cond a (cond b (total_alone (said_by_lines (line ∷ [])).total) out_of_range) without_layout).laid_out ≡ a
      go false b = refl
      go true true = refl
      go true false = refl

  -- the first line lacks the layout, or no line feed ends it
  pub header_lacks : h.laid_out ≡ false → Err Layout ≡ list_read s
  unfolding is_header list_laid_out are_list_lines
  header_lacks z = sym (listed-layout s (go (ended s) refl))
    where
      lacks : is_header ≡ false
      lacks = sym header_told ∙ z

      go : (b : Bool) → ended s ≡ b → closed s && are_list_lines (lines s) ≡ false
      go true p =
          let this : has_layout list_head 2 (fields (first_line s)) ≡ false = rw (f, p) at lacks in
          rw (lines-ended s p, this) (and_none (closed s))
      go false p = rw (lines_unended s p) (and_none (closed s))

  -- no chunk is counted yet
  pub header_counts : h.count ≡ 0
  unfolding header_read header_as total_alone out_of_range without_layout
  header_counts =
      ap (λ (x : Summary). x.count) e
      ∙ go (has_layout list_head 2 (fields line)) (listing_in_range (said_by_lines (line ∷ [])))
    where
      go : (a b : Bool)
          → (cond a (cond b (total_alone (said_by_lines (line ∷ [])).total) out_of_range) without_layout).count ≡ 0
      go false b = refl
      go true true = refl
      go true false = refl

  -- it has the layout
  module _ (z : h.laid_out ≡ true) where
    has-head : has_layout list_head 2 (fields line) ≡ true
    unfolding is_header
    has-head = sym header_told ∙ z

    head-ended : ended s ≡ true
    unfolding has_layout
    head-ended = ⊎_elim (λ p. p) (λ p. clash has-head (nothing p)) (either (ended s))
      where
        nothing : ended s ≡ false → has_layout list_head 2 (fields line) ≡ false
        nothing p = rw (f, p)

    all_lines : lines s ≡ line ∷ lines (rest s)
    all_lines = lines-ended s head-ended ∙ ap (λ (x : List ℕ). x ∷ lines (rest s)) (sym (f ∙ rw head-ended))

    laid_by : list_laid_out s ≡ closed (rest s) && every is_chunk (lines (rest s))
    unfolding list_laid_out are_list_lines
    laid_by = rw (closed-rest s head-ended, all_lines, has-head)

    told_header : h ≡ summarized (said_by_lines (line ∷ []))
    unfolding header_read header_as total_alone summarized summary_of said_by_lines ones_in in_sequence
    told_header = e ∙ rw has-head

    said-by : and_chunks h (map chunk_said (lines (rest s))) ≡ summarized (list_said s)
    unfolding list_said said_by_lines
    said-by =
        rw (told_header, all_lines) (all_more (said_by_lines (line ∷ [])) (map chunk_said (lines (rest s))))

    module _ {left : List ℕ} (g : left ≡ rest s) {t : Summary} (p : t ≡ summary_on h left) where
      q : t ≡ summary_on h (rest s)
      q = p ∙ ap (summary_on h) g

      laid_told : list_laid_out s ≡ true → t ≡ summarized (list_said s)
      unfolding summary_on
      laid_told laid = q ∙ rw (sym laid_by ∙ laid) said-by

      pub read_answer_lem : {u : Result ℕ Refusal} → u ≡ conclusion t → u ≡ list_read s
      unfolding summary_on conclusion without_layout
      read_answer_lem {u} c = ⊎_elim with_layout without (either (list_laid_out s))
        where
          with_layout : list_laid_out s ≡ true → u ≡ list_read s
          with_layout laid = c ∙ ap conclusion (laid_told laid) ∙ concludes s laid

          without : list_laid_out s ≡ false → u ≡ list_read s
          without laid =
              let lacking : t ≡ without_layout = q ∙ rw (sym laid_by ∙ laid) in
              c ∙ ap conclusion lacking ∙ sym (listed-layout s laid)

      -- the chunks of a list that is not refused are held
      pub read-chunks : (hs ws : List ℕ) → (t.in_range ≡ true → ChunksKept hs ws (map chunk_said (lines left)))
          → (n : ℕ) → list_read s ≡ Ok n → (n ≤ 1024) × (chunks_in hs ws n ≡ (list_said s).chunks)
      unfolding list_said said_by_lines summarized summary_of
      read-chunks hs ws held n d =
          let w = done-told s n d in
          let few = few-listed (list_said s) w.1 w.2 in
          let range : t.in_range ≡ true =
          ap (λ (x : Summary). x.in_range) (laid_told w.0) ∙ rw w.1 in
          let same : (list_said s).chunks ≡ map chunk_said (lines left) = rw (all_lines, g) in
          let kept : ChunksKept hs ws (list_said s).chunks = subst (ChunksKept hs ws) (sym same) (held range) in
          (omega (arith, few, w.3), ap (chunks_in hs ws) w.3 ∙ kept few)
