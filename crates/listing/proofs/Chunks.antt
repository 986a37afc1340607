-- Chunks as numbers: a chunk in range is its head and its word, rising heads are the sequence, and each word has a one.
use Prim.Native.Nat.{ℕ, ◌+◌, ◌-◌, ◌*◌, ◌/◌, ◌%◌, ◌^◌, ◌≤◌, ◌<◌}
use native.Mathlib.Nat.{pow-suc}
use native.Mathlib.Omega.{arith}
use mathlib.Core.Path.{◌≡◌, refl, sym, ap, ◌∙◌}
use mathlib.Core.List.{List, [], ◌∷◌, ◌++◌}
use mathlib.Core.Bool.{Bool, true, false, ◌&&◌, ◌||◌}
use mathlib.Core.Logic.{◌⊎◌, inl, inr}
use lib.Count.{ones, ones_cat, leading_top}
use lib.Dec.{eqb, ltb}
use lib.ListN.{length}
use borrow.Author.Tests.{lt-ltb, le-ltb, eq-eqb, ne_eqb}
use Rattle.lists.specs.Lists.{every}
use Rattle.lists.proofs.Tests.{side, and_left_lem, and_right, and_intro, three}
use Rattle.woot.specs.Limits.{last_site}
use Rattle.woot.specs.Ranges.{within, site_number}
use Rattle.bulk.specs.Catching.{Chunk, last_index, last_word, ones_in, precedes, in_sequence, chunk_in_range}
use Rattle.convergence.proofs.Ranges.{within_low, within-high, to-within}
use Rattle.chunks.specs.Columns.{chunk_as}
use Rattle.listing.specs.Reading.{head_for, last_head}

-- ---- tests

pub and_true : (b : Bool) → b && true ≡ b
and_true true = refl
and_true false = refl

pub and_none : (b : Bool) → b && false ≡ false
and_none true = refl
and_none false = refl

pub and_assoc : (a b c : Bool) → (a && b) && c ≡ a && (b && c)
and_assoc true b c = refl
and_assoc false b c = refl

-- ---- the ranges

pub record Bounds (k : Chunk) : Type 0 where
  pub site-low : 1 ≤ k.site
  pub site-high : k.site ≤ 16
  pub index-high : k.index ≤ 1023
  pub word_low : 1 ≤ k.word
  pub word-high : k.word ≤ 18446744073709551615

module _ (k : Chunk) where
  pub bounds : chunk_in_range k ≡ true → Bounds k
  unfolding chunk_in_range site_number
  bounds e =
      let r = three (within 1 last_site k.site) (within 0 last_index k.index) (within 1 last_word k.word) e in
      record {
        site-low = within_low 1 last_site k.site r.0;
        site-high = within-high 1 last_site k.site r.0;
        index-high = within-high 0 last_index k.index r.1;
        word_low = within_low 1 last_word k.word r.2;
        word-high = within-high 1 last_word k.word r.2;
      }

  pub to-range : Bounds k → chunk_in_range k ≡ true
  unfolding chunk_in_range site_number
  to-range b =
      and_intro
      (and_intro (to-within 1 last_site k.site b.site-low b.site-high)
      (to-within 0 last_index k.index (omega arith) b.index-high))
      (to-within 1 last_word k.word b.word_low b.word-high)

  -- the head and the word are the chunk
  pub head-back : k.index ≤ 1023 → chunk_as (head_for k) k.word ≡ k
  unfolding chunk_as head_for
  head-back h =
      let s : (k.site * 1024 + k.index) / 1024 ≡ k.site = omega arith in
      let i : (k.site * 1024 + k.index) % 1024 ≡ k.index = omega arith in
      λ j. record { site = s j; index = i j; word = k.word }

-- ---- the sequence

pub precedes-head : (k l : Chunk) → k.index ≤ 1023 → l.index ≤ 1023 → precedes k l ≡ ltb (head_for k) (head_for l)
unfolding precedes head_for
precedes-head k l p q = go (side l.site k.site) (side k.site l.site) (side l.index k.index)
  where
    rises : k.site * 1024 + k.index < l.site * 1024 + l.index
        → true ≡ ltb (k.site * 1024 + k.index) (l.site * 1024 + l.index)
    rises h = sym (lt-ltb (k.site * 1024 + k.index) (l.site * 1024 + l.index) h)

    falls : l.site * 1024 + l.index ≤ k.site * 1024 + k.index
        → false ≡ ltb (k.site * 1024 + k.index) (l.site * 1024 + l.index)
    falls h = sym (le-ltb (k.site * 1024 + k.index) (l.site * 1024 + l.index) h)

    go : (l.site ≤ k.site) ⊎ (k.site < l.site) → (k.site ≤ l.site) ⊎ (l.site < k.site)
        → (l.index ≤ k.index) ⊎ (k.index < l.index)
        → (ltb k.site l.site || (eqb k.site l.site && ltb k.index l.index))
        ≡ ltb (k.site * 1024 + k.index) (l.site * 1024 + l.index)
    go (inr a) b c = rw (lt-ltb k.site l.site a) (rises (omega arith))
    go (inl a) (inr b) c =
        rw (le-ltb k.site l.site a, ne_eqb k.site l.site (λ e. omega arith)) (falls (omega arith))
    go (inl a) (inl b) (inl c) =
        rw (
          le-ltb k.site l.site a,
          eq-eqb k.site l.site (omega arith),
          le-ltb k.index l.index c,
        )
        (falls (omega arith))
    go (inl a) (inl b) (inr c) =
        rw (
          le-ltb k.site l.site a,
          eq-eqb k.site l.site (omega arith),
          lt-ltb k.index l.index c,
        )
        (rises (omega arith))

-- one chunk more, behind a chunk
behind : (j : Chunk) (ks : List Chunk) (k : Chunk) → every chunk_in_range (j ∷ ks) ≡ true → chunk_in_range k ≡ true
    → in_sequence (j ∷ ks ++ k ∷ []) ≡ in_sequence (j ∷ ks) && ltb (last_head (head_for j) ks) (head_for k)
unfolding in_sequence
behind j [] k r h =
    let p = (bounds j (and_left_lem (chunk_in_range j) true r)).index-high in
    and_true (precedes j k) ∙ precedes-head j k p (bounds k h).index-high
behind j (l ∷ ks) k r h =
    ap (λ (b : Bool). precedes j l && b) (behind l ks k (and_right (chunk_in_range j) (every chunk_in_range (l ∷ ks)) r) h)
    ∙ sym (and_assoc (precedes j l) (in_sequence (l ∷ ks)) (ltb (last_head (head_for l) ks) (head_for k)))

-- behind any, or the first
pub sequence-more : (ks : List Chunk) (k : Chunk) → every chunk_in_range ks ≡ true → chunk_in_range k ≡ true
    → in_sequence (ks ++ k ∷ []) ≡ in_sequence ks && ltb (last_head 0 ks) (head_for k)
unfolding in_sequence head_for
sequence-more [] k r h = let low = (bounds k h).site-low in sym (lt-ltb 0 (k.site * 1024 + k.index) (omega arith))
sequence-more (j ∷ ks) k r h = behind j ks k r h

pub last_more : (n : ℕ) (ks : List Chunk) (k : Chunk) → last_head n (ks ++ k ∷ []) ≡ head_for k
last_more n [] k = refl
last_more n (j ∷ ks) k = last_more (head_for j) ks k

-- ---- the ones

one : ones 1 ≡ 1
unfolding ones
one = refl

pub ones-some : (w : ℕ) → 1 ≤ w → w ≤ 18446744073709551615 → 1 ≤ ones w
ones-some w low high =
    let t = leading_top 64 w low (omega arith) in
    let above : w < 2 * 2 ^ t.0 = omega (arith, t.3, pow-suc 2 t.0) in
    let rest : ℕ = w - 2 ^ t.0 in
    let parts : w ≡ 1 * 2 ^ t.0 + rest = omega (arith, t.2) in
    omega (arith, ap ones parts, ones_cat t.0 1 rest (omega (arith, t.2)), one)

pub ones-more : (ks : List Chunk) (k : Chunk) → ones_in (ks ++ k ∷ []) ≡ ones_in ks + ones k.word
unfolding ones_in
ones-more [] k = omega arith
ones-more (j ∷ ks) k = omega (arith, ones-more ks k)

-- so there are no more chunks than ones
pub few-chunks : (ks : List Chunk) → every chunk_in_range ks ≡ true → length ks ≤ ones_in ks
unfolding ones_in
few-chunks [] r = omega arith
few-chunks (k ∷ ks) r =
    let b = bounds k (and_left_lem (chunk_in_range k) (every chunk_in_range ks) r) in
    omega (
      arith,
      ones-some k.word b.word_low b.word-high,
      few-chunks ks (and_right (chunk_in_range k) (every chunk_in_range ks) r),
    )
