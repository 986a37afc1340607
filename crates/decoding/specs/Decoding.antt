-- Document 02, Req 11: a text in UTF-8, of which it "reads RFC 3629 strictly": the table of section 3, which `Encoding`
-- has, read backwards.
use Rattle.std.specs.Prelude.{ℕ, zero, suc, ◌+◌, ◌*◌, ◌%◌, Bool, ◌&&◌, cond, List, [], ◌∷◌, ◌++◌, eqb, length}
use Rattle.std.proofs.Math.Option.{Option, none, some}
use Rattle.utf8.specs.CodePoints.{within, is_code_point}
use Rattle.utf8.specs.Encoding.{encode, encoded_length}

-- the bytes of code points, one after another
abbrev pub encodings : List ℕ → List ℕ
encodings [] = []
encodings (n ∷ ns) = encode n ++ encodings ns

-- ---- one character

-- what a text begins with: nothing is left; a code point, and the bytes behind it; anything else
pub data Head : Type 0 where
  ended : Head
  character : ℕ → List ℕ → Head
  malformed : Head

-- a number that so many bytes stand for: "no longer form than needed, no surrogates, nothing above U+10FFFF"
unfoldable pub accepted : ℕ → ℕ → List ℕ → Head
accepted size n rest = cond (is_code_point n && eqb (encoded_length n) size) (character n rest) malformed

-- the byte 10xxxxxx
unfoldable pub continues : ℕ → Bool
continues b = within 128 191 b

-- so many such bytes are left of a character of the size, each with six bits more of its number; "no cut character"
unfoldable pub continued : ℕ → ℕ → ℕ → List ℕ → Head
continued size zero n rest = accepted size n rest
continued size (suc k) n [] = malformed
continued size (suc k) n (b ∷ rest) = cond (continues b) (continued size k (n * 64 + b % 64) rest) malformed

-- by the first byte: 0xxxxxxx, 110xxxxx, 1110xxxx or 11110xxx
unfoldable pub head_of : List ℕ → Head
head_of [] = ended
head_of (a ∷ rest) =
    cond (within 0 127 a) (character a rest)
    (cond (within 192 223 a) (continued 2 1 (a % 32) rest)
    (cond (within 224 239 a) (continued 3 2 (a % 16) rest)
    (cond (within 240 247 a) (continued 4 3 (a % 8) rest)
    malformed)))

-- ---- a whole text

abbrev pub before : ℕ → Option (List ℕ) → Option (List ℕ)
before n none = none
before n (some ns) = some (n ∷ ns)

-- the code points from this head on, with what the bytes behind a character are read as
abbrev pub read_on : (List ℕ → Option (List ℕ)) → Head → Option (List ℕ)
read_on behind ended = some []
read_on behind (character n rest) = before n (behind rest)
read_on behind malformed = none

-- so many steps of reading, the end being one
unfoldable pub decoded_steps : ℕ → List ℕ → Option (List ℕ)
decoded_steps zero bytes = none
decoded_steps (suc k) bytes = read_on (decoded_steps k) (head_of bytes)

-- the code points of a text, none where it is not UTF-8; each has a byte at least, so these steps are enough
unfoldable pub decoded : List ℕ → Option (List ℕ)
decoded bytes = decoded_steps (suc (length bytes)) bytes
