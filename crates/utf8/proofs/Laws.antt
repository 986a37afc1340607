-- What a caller may know of `encode` and `encodedLength`, whatever the text of their definitions.
use mathlib.Core.Path.{◌≡◌, refl}
use mathlib.Core.Bool.{Bool, true, false, cond}
use Prim.Native.Nat.{ℕ, ◌+◌, ◌/◌, ◌%◌, ◌≤◌}
use native.Mathlib.Omega.{arith}
use lib.ListN.{length}
use lib.Pow.{are_bytes}
use borrow.Author.Tests.{lt-ltb}
use Rattle.utf8.specs.CodePoints.{within}
use Rattle.utf8.specs.Encoding.{encoded_length, encode, continuation, one_byte, two_bytes, three_bytes, four_bytes}

-- a length is one of four
pub data Length (m : ℕ) : Type 0 where
  one : m ≡ 1 → Length m
  two : m ≡ 2 → Length m
  three : m ≡ 3 → Length m
  four : m ≡ 4 → Length m

chosen : (a b d e : Bool) → Length (cond a 1 (cond b 2 (cond d 3 (cond e 4 4))))
chosen true b d e = one refl
chosen false true d e = two refl
chosen false false true e = three refl
chosen false false false true = four refl
chosen false false false false = four refl

pub lengths : (n : ℕ) → Length (encoded_length n)
unfolding encoded_length
lengths n = chosen (within 0 127 n) (within 128 2047 n) (within 2048 65535 n) (within 65536 1114111 n)

-- the bytes by their number
pub encode_one : (n : ℕ) → encoded_length n ≡ 1 → encode n ≡ one_byte n
unfolding encode
encode_one n e = rw e

pub encode-two : (n : ℕ) → encoded_length n ≡ 2 → encode n ≡ two_bytes n
unfolding encode
encode-two n e = rw e

pub encode-three : (n : ℕ) → encoded_length n ≡ 3 → encode n ≡ three_bytes n
unfolding encode
encode-three n e = rw e

pub encode-four : (n : ℕ) → encoded_length n ≡ 4 → encode n ≡ four_bytes n
unfolding encode
encode-four n e = rw e

pub length-encode : (n : ℕ) → length (encode n) ≡ encoded_length n
unfolding one_byte two_bytes three_bytes four_bytes
length-encode n = go (lengths n)
  where
    go : Length (encoded_length n) → length (encode n) ≡ encoded_length n
    go (one e) = rw (encode_one n e, e)
    go (two e) = rw (encode-two n e, e)
    go (three e) = rw (encode-three n e, e)
    go (four e) = rw (encode-four n e, e)

pub length-bounds : (n : ℕ) → (1 ≤ encoded_length n) × (encoded_length n ≤ 4)
length-bounds n = go (lengths n)
  where
    go : Length (encoded_length n) → (1 ≤ encoded_length n) × (encoded_length n ≤ 4)
    go (one e) = omega arith
    go (two e) = omega arith
    go (three e) = omega arith
    go (four e) = omega arith

-- every byte is below 256
pub encode-bytes : (n : ℕ) → are_bytes (encode n) ≡ true
unfolding one_byte two_bytes three_bytes four_bytes continuation
encode-bytes n = go (lengths n)
  where
    go : Length (encoded_length n) → are_bytes (encode n) ≡ true
    go (one e) = rw (encode_one n e, lt-ltb (n % 128) 256 (omega arith))
    go (two e) = rw (encode-two n e, lt-ltb (192 + n / 64 % 32) 256 (omega arith), lt-ltb (128 + n / 1 % 64) 256 (omega arith))
    go (three e) = rw (encode-three n e, lt-ltb (224 + n / 4096 % 16) 256 (omega arith), lt-ltb (128 + n / 64 % 64) 256 (omega arith), lt-ltb (128 + n / 1 % 64) 256 (omega arith))
    go (four e) = rw (encode-four n e, lt-ltb (240 + n / 262144 % 8) 256 (omega arith), lt-ltb (128 + n / 4096 % 64) 256 (omega arith), lt-ltb (128 + n / 64 % 64) 256 (omega arith), lt-ltb (128 + n / 1 % 64) 256 (omega arith))
