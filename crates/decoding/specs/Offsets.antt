-- What `decoding::decode` and `decoding::count` answer, as values of their types.
use Rattle.std.specs.Prelude.{ℕ, ◌+◌, ◌%◌, ◌≡◌, ◌&&◌, cond, List, [], ◌∷◌, eqb, length, drop}
use Rattle.std.specs.Prelude.{Option as Answer, None, Some}
use Rattle.std.proofs.Math.Option.{Option, none, some}
use Rattle.decoding.specs.declared.Decoded.{Decoded}
use Rattle.decoding.specs.declared.Decoded.TheVariants.{CodePoint, End, Malformed}
use Rattle.utf8.specs.CodePoints.{is_code_point}
use Rattle.utf8.specs.Encoding.{encoded_length}
use Rattle.decoding.specs.Decoding.{Head, ended, character, malformed, continues, head_of, before, decoded}

-- a code point with the offset just past its bytes, which start at the offset
unfoldable pub answer_at : ℕ → Head → Decoded
answer_at at ended = End
answer_at at (character n rest) = CodePoint n (at + encoded_length n)
answer_at at malformed = Malformed

-- what stands at an offset
unfoldable pub decoded_at : List ℕ → ℕ → Decoded
decoded_at bytes at = answer_at at (head_of (drop at bytes))

-- the text from where this was answered: the code point, and then the text from the next offset on
abbrev pub on_from : List ℕ → Decoded → Option (List ℕ)
on_from bytes (CodePoint n next) = before n (decoded (drop next bytes))
on_from bytes End = some []
on_from bytes Malformed = none

-- so a text is read by going from offset to offset. Proved in `proofs/Offsets.antt`
abbrev pub DecodedOn : Type 0
DecodedOn = (bytes : List ℕ) (at : ℕ) → decoded (drop at bytes) ≡ on_from bytes (decoded_at bytes at)

-- with so many characters before them
unfoldable pub count_after : ℕ → Option (List ℕ) → Answer ℕ
count_after k none = None
count_after k (some ns) = Some (k + length ns)

-- how many characters a text has, none where it is not UTF-8
unfoldable pub count_of : Option (List ℕ) → Answer ℕ
count_of m = count_after 0 m

-- ---- for the steps of the code

-- the six bits of a byte 10xxxxxx in front
unfoldable pub tail_bits : List ℕ → Answer ℕ
tail_bits [] = None
tail_bits (b ∷ rest) = cond (continues b) (Some (b % 64)) None

-- of the one at an offset
unfoldable pub tail_at : List ℕ → ℕ → Answer ℕ
tail_at bytes at = tail_bits (drop at bytes)

-- a number that so many bytes stand for, which end at the offset
unfoldable pub accepted_at : ℕ → ℕ → ℕ → Decoded
accepted_at size n next = cond (is_code_point n && eqb (encoded_length n) size) (CodePoint n next) Malformed
