-- What the definitions of `Encoding` give: by RFC 3629's ranges, and by document 01's count of bits. Proved in
-- `proofs/Ranges.antt`.
use Rattle.std.specs.Prelude.{ℕ, ◌+◌, ◌-◌, ◌/◌, ◌%◌, ◌^◌, ◌≤◌, ◌<◌, ◌≡◌, cond, [], ◌∷◌, leb}
use Rattle.std.specs.Int.Count.{count_leading_zeros}
use Rattle.utf8.specs.Encoding.{encode, encoded_length}

-- how many bytes, by the range that the number is in
pub record LengthByRanges : Type 0 where
  pub one : (n : ℕ) → n ≤ 127 → encoded_length n ≡ 1
  pub two : (n : ℕ) → 128 ≤ n → n ≤ 2047 → encoded_length n ≡ 2
  pub three : (n : ℕ) → 2048 ≤ n → n ≤ 65535 → encoded_length n ≡ 3
  pub four : (n : ℕ) → 65536 ≤ n → n ≤ 1114111 → encoded_length n ≡ 4
  pub beyond : (n : ℕ) → 1114111 < n → encoded_length n ≡ 4

-- "every length is as before": document 01's, by the bits that its leading zeros leave of a 32-bit number
abbrev pub LengthByBits : Type 0
LengthByBits =
    (n : ℕ) → n < 2 ^ 32 → let bits = 32 - count_leading_zeros 32 n in
    encoded_length n ≡ cond (leb bits 7) 1 (cond (leb bits 11) 2 (cond (leb bits 16) 3 4))

-- and which bytes
pub record EncodeByRanges : Type 0 where
  pub one : (n : ℕ) → n ≤ 127 → encode n ≡ n ∷ []
  pub two : (n : ℕ) → 128 ≤ n → n ≤ 2047 → encode n ≡ (192 + n / 64) ∷ (128 + n % 64) ∷ []
  pub three : (n : ℕ) → 2048 ≤ n → n ≤ 65535
      → encode n ≡ (224 + n / 4096) ∷ (128 + n / 64 % 64) ∷ (128 + n % 64) ∷ []
  pub four : (n : ℕ) → 65536 ≤ n → n ≤ 1114111
      → encode n ≡ (240 + n / 262144) ∷ (128 + n / 4096 % 64) ∷ (128 + n / 64 % 64) ∷ (128 + n % 64) ∷ []
