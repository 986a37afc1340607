-- The list of cases gives RFC 3629's table, and document 01's count of bits: a number below 2 ^ k has at most k significant
-- bits, and any other has more.
use mathlib.Core.Path.{◌≡◌, refl, sym, ◌∙◌}
use mathlib.Core.Bool.{Bool, true, false, cond}
use Prim.Native.Nat.{ℕ, suc, ◌-◌, ◌/◌, ◌%◌, ◌^◌, ◌≤◌, ◌<◌}
use native.Mathlib.Nat.{lt_of_not-le, not-le_of_lt, le_trans, pow-suc, div-one}
use native.Mathlib.Omega.{arith}
use borrow.Author.Tests.{le-leb, lt-leb, leb-true, leb-false}
use lib.Dec.{leb}
use lib.Pow.{pow_mono}
use lib.Count.{count_leading_zeros, leading_length}
use Rattle.utf8.specs.Encoding.{encoded_length, continuation, one_byte, two_bytes, three_bytes, four_bytes}
use Rattle.utf8.specs.Ranges.{LengthByRanges, LengthByBits, EncodeByRanges}
use Rattle.utf8.proofs.CodePoints.{inside, over}
use Rattle.utf8.proofs.Laws.{encode_one, encode-two, encode-three, encode-four}

-- ---- by ranges

pub length-by_ranges : LengthByRanges
unfolding encoded_length
length-by_ranges = record {
  one = λ n h. rw (inside 0 127 n (omega arith) h);
  two = λ n l h. rw (over 0 127 n (omega arith), inside 128 2047 n l h);
  three = λ n l h.
      rw (over 0 127 n (omega arith), over 128 2047 n (omega arith), inside 2048 65535 n l h);
  four = λ n l h.
      rw (
        over 0 127 n (omega arith),
        over 128 2047 n (omega arith),
        over 2048 65535 n (omega arith),
        inside 65536 1114111 n l h,
      );
  beyond = λ n h.
      rw (
        over 0 127 n (omega arith),
        over 128 2047 n (omega arith),
        over 2048 65535 n (omega arith),
        over 65536 1114111 n h,
      );
}

pub encode-by_ranges : EncodeByRanges
unfolding one_byte two_bytes three_bytes four_bytes continuation
encode-by_ranges = record {
  one = λ n h. let low : n % 128 ≡ n = omega arith in rw (encode_one n (length-by_ranges.one n h), low);
  two = λ n l h. let high : n / 64 % 32 ≡ n / 64 = omega arith in rw (encode-two n (length-by_ranges.two n l h), high, div-one);
  three = λ n l h. let high : n / 4096 % 16 ≡ n / 4096 = omega arith in rw (encode-three n (length-by_ranges.three n l h), high, div-one);
  four = λ n l h. let high : n / 262144 % 8 ≡ n / 262144 = omega arith in rw (encode-four n (length-by_ranges.four n l h), high, div-one);
}

-- ---- by significant bits

module _ (n : ℕ) (w : n < 2 ^ 32) where
  abbrev bits : ℕ
  bits = 32 - count_leading_zeros 32 n

  few : (k : ℕ) → n < 2 ^ k → bits ≤ k
  few k h =
      let m = leading_length 32 n w in
      let most : m.0 < suc k = lt_of_not-le (λ g. not-le_of_lt h (omega (arith, pow_mono g, pow-suc 2 k, m.3))) in
      omega (arith, m.1)

  many : (k : ℕ) → 2 ^ k ≤ n → k < bits
  many k h =
      let m = leading_length 32 n w in
      let more : k < m.0 = lt_of_not-le (λ g. not-le_of_lt m.2 (le_trans (pow_mono g) h)) in
      omega (arith, m.1)

  -- the length that the bits give
  abbrev by_bits : ℕ
  by_bits = cond (leb bits 7) 1 (cond (leb bits 11) 2 (cond (leb bits 16) 3 4))

  bits_four : 2 ^ 16 ≤ n → by_bits ≡ 4
  bits_four l =
      rw (
        lt-leb bits 7 (many 7 (omega arith)),
        lt-leb bits 11 (many 11 (omega arith)),
        lt-leb bits 16 (many 16 l),
      )

  by_bits_lem : encoded_length n ≡ by_bits
  by_bits_lem = go (leb n 127) (leb n 2047) (leb n 65535) (leb n 1114111) refl refl refl refl
    where
      go : (a b d e : Bool) → leb n 127 ≡ a → leb n 2047 ≡ b → leb n 65535 ≡ d → leb n 1114111 ≡ e
          → encoded_length n ≡ by_bits
      go true b d e p q r s =
          let h : n ≤ 127 = leb-true n 127 p in
          rw (length-by_ranges.one n h, le-leb bits 7 (few 7 (omega arith)))
      go false true d e p q r s =
          let l : 127 < n = leb-false n 127 p in
          let h : n ≤ 2047 = leb-true n 2047 q in
          rw (
            length-by_ranges.two n (omega arith) h,
            lt-leb bits 7 (many 7 (omega arith)),
            le-leb bits 11 (few 11 (omega arith)),
          )
      go false false true e p q r s =
          let l : 2047 < n = leb-false n 2047 q in
          let h : n ≤ 65535 = leb-true n 65535 r in
          rw (
            length-by_ranges.three n (omega arith) h,
            lt-leb bits 7 (many 7 (omega arith)),
            lt-leb bits 11 (many 11 (omega arith)),
            le-leb bits 16 (few 16 (omega arith)),
          )
      go false false false true p q r s =
          let l : 65535 < n = leb-false n 65535 r in
          length-by_ranges.four n (omega arith) (leb-true n 1114111 s) ∙ sym (bits_four (omega arith))
      go false false false false p q r s =
          let l : 1114111 < n = leb-false n 1114111 s in
          length-by_ranges.beyond n l ∙ sym (bits_four (omega arith))

pub length-by_bits : LengthByBits
length-by_bits = by_bits_lem
