-- The lines of a list one by one: what the numbers of a line are read as, and what a line adds to those before it.
use Prim.Native.Nat.{ℕ, ◌+◌, ◌*◌, ◌≤◌, ◌<◌, min}
use native.Mathlib.Numerals.{add-one}
use native.Mathlib.Omega.{arith}
use mathlib.Core.Path.{◌≡◌, refl, sym, ap, ap₂, ◌∙◌}
use mathlib.Core.List.{List, [], ◌∷◌, ◌++◌}
use mathlib.Core.Bool.{Bool, true, false, cond}
use lib.ListN.{length, get_or, set, replicate, length-append}
use lib.Seq.{get_or-set_same, get_or-set_other}
use Rattle.lists.specs.Lists.{every}
use Rattle.lists.proofs.Tests.{fails, clash, and_intro, three}
use Rattle.woot.specs.Limits.{last_site, capacity}
use Rattle.woot.specs.Ranges.{within, site_number}
use Rattle.bulk.specs.Catching.{Chunk, Listing, chunk_in_range, listing_in_range}
use Rattle.convergence.proofs.Ranges.{within_low, within-high, to-within}
use Rattle.memory.proofs.Characters.{each_cong}
use Rattle.lines.specs.Fields.{fields, values_of, at_most}
use Rattle.lines.specs.Answers.{Numbers, numbers_of, by_numbers}
use Rattle.lines.proofs.Values.{at_most_at, at_most_from, at-padded}
use Rattle.lines.proofs.Verdicts.{values-at_most, verdict_says}
use Rattle.chunks.specs.Columns.{chunk_as, chunks_in}
use Rattle.listing.specs.declared.reading.Summary.{Summary}
use Rattle.decimal.specs.declared.Fault.{Fault}
use Rattle.decimal.specs.declared.Fault.TheVariants.{Above, Malformed}
use Rattle.std.proofs.Common.{Result, Ok, Err}
use Rattle.std.specs.Prelude.{IfOk}
use Rattle.listing.specs.Format.{list_head, list_limits, chunk_head, chunk_limits, is_chunk, chunk_said, said_by_lines}
use Rattle.listing.specs.Reading.{header_from, chunk_from, head_for, chunk_read_as, chunk_read}
use Rattle.listing.specs.Reading.{without_layout, out_of_range}
use Rattle.listing.specs.Reading.{total_alone, header_as, header_read, with_chunk, and_chunk, and_line, ChunksKept}
use Rattle.listing.proofs.Chunks.{and_none, bounds, to-range, head-back}

-- ---- the first line

-- what its numbers are in range
pub record HeaderBounds (l : Listing) : Type 0 where
  pub site-low : 1 ≤ l.site
  pub site-high : l.site ≤ 16
  pub total-high : l.total ≤ 1024

pub header_bounds : (l : Listing) → listing_in_range l ≡ true → HeaderBounds l
unfolding listing_in_range site_number
header_bounds l e =
    let r = three (within 1 last_site l.site) (within 0 capacity l.total) (every chunk_in_range l.chunks) e in
    record {
      site-low = within_low 1 last_site l.site r.0;
      site-high = within-high 1 last_site l.site r.0;
      total-high = within-high 0 capacity l.total r.1;
    }

pub chunks-range : (l : Listing) → listing_in_range l ≡ true → every chunk_in_range l.chunks ≡ true
unfolding listing_in_range site_number
chunks-range l e =
    (three (within 1 last_site l.site) (within 0 capacity l.total) (every chunk_in_range l.chunks) e).2

pub to-listing-range : (l : Listing) → HeaderBounds l → every chunk_in_range l.chunks ≡ true → listing_in_range l ≡ true
unfolding listing_in_range site_number
to-listing-range l b r =
    and_intro
    (and_intro (to-within 1 last_site l.site b.site-low b.site-high)
    (to-within 0 capacity l.total (omega arith) b.total-high))
    r

module _ (l : Listing) where
  header_outside : listing_in_range l ≡ false → header_as l ≡ out_of_range
  unfolding header_as
  header_outside e = rw e

  header_within : listing_in_range l ≡ true → header_as l ≡ total_alone l.total
  unfolding header_as
  header_within e = rw e

module _ (ns : List ℕ) where
  header_limits : listing_in_range (header_from ns) ≡ true → at_most list_limits ns ≡ true
  unfolding header_from
  header_limits e =
      let b = header_bounds (header_from ns) e in
      at_most_from 0 list_limits ns b.site-high (at_most_from 1 list_limits ns b.total-high refl)

  pub header_none : get_or ns 0 0 ≡ 0 → out_of_range ≡ header_as (header_from ns)
  unfolding header_from
  header_none z =
      sym (header_outside (header_from ns)
      (fails (listing_in_range (header_from ns)) (λ e. omega (arith, z, (header_bounds (header_from ns) e).site-low))))

  pub header_some : at_most list_limits ns ≡ true → (get_or ns 0 0 ≡ 0 → ⊥)
      → total_alone (get_or ns 1 0) ≡ header_as (header_from ns)
  unfolding header_from
  header_some fits some =
      let b = at_most_at list_limits ns fits in
      let site : get_or ns 0 0 ≤ 16 = b 0 (omega arith) in
      let total : get_or ns 1 0 ≤ 1024 = b 1 (omega arith) in
      sym (header_within (header_from ns)
      (to-listing-range (header_from ns)
      (record { site-low = omega (arith, some); site-high = site; total-high = total }) refl))

module _ (line : List ℕ) (r : Numbers) (e : r ≡ numbers_of list_head list_limits (fields line)) where
  pub header_fits : IfOk r (λ values. at_most list_limits values ≡ true)
  unfolding numbers_of
  header_fits = values-at_most _ list_limits _ r e

  pub header_judged : {x : Summary}
      → x ≡ by_numbers r without_layout out_of_range (λ values. header_as (header_from values)) → x ≡ header_read line
  unfolding numbers_of header_read said_by_lines header_from
  header_judged w =
      let ns = values_of (fields line) in
      let padded : (m : ℕ) (ns : List ℕ) → header_from (ns ++ replicate m 0) ≡ header_from ns =
      λ m ns j. record { site = at-padded m ns 0 j; total = at-padded m ns 1 j; chunks = [] } in
      let large : at_most list_limits ns ≡ false → out_of_range ≡ header_as (header_from ns) =
      λ h. sym (header_outside (header_from ns)
      (fails (listing_in_range (header_from ns)) (λ p. clash (header_limits ns p) h))) in
      w ∙ verdict_says _ list_limits ns r e header_from header_as without_layout out_of_range padded large

-- ---- a chunk's line

module _ (k : Chunk) where
  read-outside : chunk_in_range k ≡ false → chunk_read_as k ≡ Err Above
  unfolding chunk_read_as
  read-outside e = rw e

  read-within : chunk_in_range k ≡ true → chunk_read_as k ≡ Ok (head_for k, k.word)
  unfolding chunk_read_as
  read-within e = rw e

module _ (ns : List ℕ) where
  chunk-limits : chunk_in_range (chunk_from ns) ≡ true → at_most chunk_limits ns ≡ true
  unfolding chunk_from
  chunk-limits e =
      let b = bounds (chunk_from ns) e in
      at_most_from 0 chunk_limits ns b.site-high
      (at_most_from 1 chunk_limits ns b.index-high (at_most_from 2 chunk_limits ns b.word-high refl))

  pub chunk-no-site : get_or ns 0 0 ≡ 0 → Err Above ≡ chunk_read_as (chunk_from ns)
  unfolding chunk_from
  chunk-no-site z =
      sym (read-outside (chunk_from ns)
      (fails (chunk_in_range (chunk_from ns)) (λ e. omega (arith, z, (bounds (chunk_from ns) e).site-low))))

  pub chunk-no-word : get_or ns 2 0 ≡ 0 → Err Above ≡ chunk_read_as (chunk_from ns)
  unfolding chunk_from
  chunk-no-word z =
      sym (read-outside (chunk_from ns)
      (fails (chunk_in_range (chunk_from ns)) (λ e. omega (arith, z, (bounds (chunk_from ns) e).word_low))))

  pub chunk-some : at_most chunk_limits ns ≡ true → (get_or ns 0 0 ≡ 0 → ⊥) → (get_or ns 2 0 ≡ 0 → ⊥)
      → Ok (get_or ns 0 0 * 1024 + get_or ns 1 0, get_or ns 2 0) ≡ chunk_read_as (chunk_from ns)
  unfolding chunk_from head_for
  chunk-some fits site word =
      let b = at_most_at chunk_limits ns fits in
      let s : get_or ns 0 0 ≤ 16 = b 0 (omega arith) in
      let i : get_or ns 1 0 ≤ 1023 = b 1 (omega arith) in
      let w : get_or ns 2 0 ≤ 18446744073709551615 = b 2 (omega arith) in
      sym (read-within (chunk_from ns)
      (to-range (chunk_from ns)
      (record {
        site-low = omega (arith, site);
        site-high = s;
        index-high = i;
        word_low = omega (arith, word);
        word-high = w;
      })))

module _ (line : List ℕ) (r : Numbers) (e : r ≡ numbers_of chunk_head chunk_limits (fields line)) where
  pub chunk-fits : IfOk r (λ values. at_most chunk_limits values ≡ true)
  unfolding numbers_of
  chunk-fits = values-at_most _ chunk_limits _ r e

  pub chunk-judged : {x : Result (ℕ × ℕ) Fault}
      → x ≡ by_numbers r (Err Malformed) (Err Above) (λ values. chunk_read_as (chunk_from values)) → x ≡ chunk_read line
  unfolding numbers_of chunk_read is_chunk chunk_said chunk_from
  chunk-judged w =
      let ns = values_of (fields line) in
      let padded : (m : ℕ) (ns : List ℕ) → chunk_from (ns ++ replicate m 0) ≡ chunk_from ns =
      λ m ns j. record { site = at-padded m ns 0 j; index = at-padded m ns 1 j; word = at-padded m ns 2 j } in
      let large : at_most chunk_limits ns ≡ false → Err Above ≡ chunk_read_as (chunk_from ns) =
      λ h. sym (read-outside (chunk_from ns)
      (fails (chunk_in_range (chunk_from ns)) (λ p. clash (chunk-limits ns p) h))) in
      w ∙ verdict_says _ chunk_limits ns r e chunk_from chunk_read_as (Err Malformed) (Err Above) padded large

-- ---- what it was read as

module _ (line : List ℕ) where
  read_told : {x : Result (ℕ × ℕ) Fault} (a b : Bool) → is_chunk line ≡ a → chunk_in_range (chunk_said line) ≡ b → x ≡ chunk_read line
      → x ≡ cond a (cond b (Ok (head_for (chunk_said line), (chunk_said line).word)) (Err Above)) (Err Malformed)
  unfolding chunk_read chunk_read_as
  read_told a b p q e = e ∙ rw (p, q)

  module _ {x : Result (ℕ × ℕ) Fault} (e : x ≡ chunk_read line) where
    pub told-malformed : {f : Fault} → x ≡ Err f → f ≡ Malformed → is_chunk line ≡ false
    told-malformed m k = go (is_chunk line) (chunk_in_range (chunk_said line)) refl refl
      where
        go : (a b : Bool) → is_chunk line ≡ a → chunk_in_range (chunk_said line) ≡ b → is_chunk line ≡ false
        go false b p q = p
        go true false p q = let z : x ≡ Err Above = read_told true false p q e in cc
        go true true p q =
            let z : x ≡ Ok (head_for (chunk_said line), (chunk_said line).word) = read_told true true p q e in
            cc

    pub told-outside : {f : Fault} → x ≡ Err f → f ≡ Above → (is_chunk line ≡ true) × (chunk_in_range (chunk_said line) ≡ false)
    told-outside m k = go (is_chunk line) (chunk_in_range (chunk_said line)) refl refl
      where
        go : (a b : Bool) → is_chunk line ≡ a → chunk_in_range (chunk_said line) ≡ b
            → (is_chunk line ≡ true) × (chunk_in_range (chunk_said line) ≡ false)
        go false b p q = let z : x ≡ Err Malformed = read_told false b p q e in (cc, cc)
        go true false p q = (p, q)
        go true true p q =
            let z : x ≡ Ok (head_for (chunk_said line), (chunk_said line).word) = read_told true true p q e in
            (cc, cc)

    pub told-read : {h w : ℕ} → x ≡ Ok (h, w)
        → (is_chunk line ≡ true) × (chunk_in_range (chunk_said line) ≡ true)
        × (h ≡ head_for (chunk_said line))
        × (w ≡ (chunk_said line).word)
    told-read {h} {w} m = go (is_chunk line) (chunk_in_range (chunk_said line)) refl refl
      where
        go : (a b : Bool) → is_chunk line ≡ a → chunk_in_range (chunk_said line) ≡ b
            → (is_chunk line ≡ true) × (chunk_in_range (chunk_said line) ≡ true)
            × (h ≡ head_for (chunk_said line))
            × (w ≡ (chunk_said line).word)
        go false b p q = let z : x ≡ Err Malformed = read_told false b p q e in (cc, cc, cc, cc)
        go true false p q = let z : x ≡ Err Above = read_told true false p q e in (cc, cc, cc, cc)
        go true true p q =
            let z : x ≡ Ok (head_for (chunk_said line), (chunk_said line).word) = read_told true true p q e in
            let e : ◌≡◌ {A = ℕ × ℕ} (h, w) (head_for (chunk_said line), (chunk_said line).word) = cc in
            (p, q, ap (λ (c : ℕ × ℕ). c.0) e, ap (λ (c : ℕ × ℕ). c.1) e)

  -- and what it adds
  module _ (t : Summary) where
    pub adds_malformed : {r : Summary} → is_chunk line ≡ false → r ≡ without_layout → r ≡ and_line t line
    unfolding and_line
    adds_malformed p q = q ∙ rw p

    pub adds_outside : {r : Summary} → is_chunk line ≡ true → chunk_in_range (chunk_said line) ≡ false → r ≡ out_of_range
        → r ≡ and_line t line
    unfolding and_line and_chunk
    adds_outside p h q = q ∙ rw (p, h, and_none t.in_range)

    pub adds_none : {r : Summary} → is_chunk line ≡ true → t.in_range ≡ false → r ≡ out_of_range → r ≡ and_line t line
    unfolding and_line and_chunk
    adds_none p h q = q ∙ rw (p, h)

    pub adds_chunk : {r : Summary} {h w : ℕ} → is_chunk line ≡ true → chunk_in_range (chunk_said line) ≡ true
        → h ≡ head_for (chunk_said line) → w ≡ (chunk_said line).word → t.in_range ≡ true → r ≡ with_chunk t h w
        → r ≡ and_line t line
    unfolding and_line and_chunk
    adds_chunk p h a b i q = q ∙ rw (p, h, i, a, b)

  pub told-chunk : {h w : ℕ} → chunk_in_range (chunk_said line) ≡ true → h ≡ head_for (chunk_said line)
      → w ≡ (chunk_said line).word → chunk_as h w ≡ chunk_said line
  told-chunk r a b = ap₂ chunk_as a b ∙ head-back (chunk_said line) (bounds (chunk_said line) r).index-high

pub lacking_range : {r : Summary} → r ≡ without_layout → r.in_range ≡ false
unfolding without_layout
lacking_range q = ap (λ (x : Summary). x.in_range) q

pub outside-range : {r : Summary} → r ≡ out_of_range → r.in_range ≡ false
unfolding out_of_range
outside-range q = ap (λ (x : Summary). x.in_range) q

-- ---- the arrays

module _ (hs ws : List ℕ) (n head word : ℕ) (ks : List Chunk) (e : n ≡ min 1024 (length ks)) where
  pub kept_full : 1024 ≤ n → ChunksKept hs ws (ks ++ chunk_as head word ∷ [])
  kept_full h few = absurd (omega (arith, few, length-append ks (chunk_as head word ∷ [])))

  pub kept_more : n < 1024 → length hs ≡ 1024 → length ws ≡ 1024 → ChunksKept hs ws ks
      → ChunksKept (set hs n head) (set ws n word) (ks ++ chunk_as head word ∷ [])
  unfolding chunks_in
  kept_more h a b k few =
      let all : n ≡ length ks = omega arith in
      let one : length (ks ++ chunk_as head word ∷ []) ≡ length ks + 1 = length-append ks (chunk_as head word ∷ []) in
      let before : chunks_in (set hs n head) (set ws n word) n ≡ ks =
      each_cong (λ i. chunk_as (get_or (set hs n head) i 0) (get_or (set ws n word) i 0))
      (λ i. chunk_as (get_or hs i 0) (get_or ws i 0)) n
      (λ i q.
      ap₂ chunk_as (get_or-set_other hs n i head 0 (λ z. omega arith))
      (get_or-set_other ws n i word 0 (λ z. omega arith)))
      ∙ ap (chunks_in hs ws) all ∙ k (omega arith) in
      let last : chunk_as (get_or (set hs n head) n 0) (get_or (set ws n word) n 0) ≡ chunk_as head word =
      ap₂ chunk_as (get_or-set_same hs n head 0 (omega arith)) (get_or-set_same ws n word 0 (omega arith)) in
      ap (chunks_in (set hs n head) (set ws n word)) (one ∙ ap (λ (m : ℕ). m + 1) (sym all) ∙ add-one n)
      ∙ ap₂ (λ (xs : List Chunk) (x : Chunk). xs ++ x ∷ []) before last
