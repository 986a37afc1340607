-- A code point's length and bytes in UTF-8: the ranges and the table of RFC 3629, section 3.
use Rattle.std.specs.Prelude.{ℕ, ◌+◌, ◌/◌, ◌%◌, List, [], ◌∷◌, cond, eqb}
use Rattle.utf8.specs.CodePoints.{within}

-- "a list of cases on the RFC's own ranges"; a number above 1,114,111 is no code point, and counts 4
unfoldable pub encoded_length : ℕ → ℕ
encoded_length n =
    cond (within 0 127 n) 1
    (cond (within 128 2047 n) 2
    (cond (within 2048 65535 n) 3
    (cond (within 65536 1114111 n) 4
    4)))

-- the byte 10xxxxxx with the six bits of n from the given weight up
unfoldable pub continuation : ℕ → ℕ → ℕ
continuation weight n = 128 + n / weight % 64

-- the RFC's table: 0xxxxxxx
unfoldable pub one_byte : ℕ → List ℕ
one_byte n = n % 128 ∷ []

-- 110xxxxx 10xxxxxx
unfoldable pub two_bytes : ℕ → List ℕ
two_bytes n = (192 + n / 64 % 32) ∷ continuation 1 n ∷ []

-- 1110xxxx 10xxxxxx 10xxxxxx
unfoldable pub three_bytes : ℕ → List ℕ
three_bytes n = (224 + n / 4096 % 16) ∷ continuation 64 n ∷ continuation 1 n ∷ []

-- 11110xxx 10xxxxxx 10xxxxxx 10xxxxxx
unfoldable pub four_bytes : ℕ → List ℕ
four_bytes n = (240 + n / 262144 % 8) ∷ continuation 4096 n ∷ continuation 64 n ∷ continuation 1 n ∷ []

-- the bytes of the code point n; of a number beyond 21 bits, those of its lowest 21
unfoldable pub encode : ℕ → List ℕ
encode n =
    cond (eqb (encoded_length n) 1) (one_byte n)
    (cond (eqb (encoded_length n) 2) (two_bytes n) (cond (eqb (encoded_length n) 3) (three_bytes n) (four_bytes n)))
