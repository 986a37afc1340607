-- What strict reading gives, each proved in proofs/ under its name in small letters.
use Rattle.std.specs.Prelude.{ℕ, ◌≡◌, true, List, [], ◌∷◌, map, ◌↔◌}
use Rattle.std.proofs.Math.Option.{none, some}
use Rattle.lists.specs.Lists.{every, missing}
use Rattle.utf8.specs.CodePoints.{is_code_point}
use Rattle.decoding.specs.Decoding.{encodings, head_of, read_on, decoded}

-- the bytes are those of these code points, one after another
abbrev pub Encodes : List ℕ → List ℕ → Type 0
Encodes bytes ns = (every is_code_point ns ≡ true) × (bytes ≡ encodings ns)

-- "reads RFC 3629 strictly": bytes are read as code points exactly when they are their encodings, one after another
abbrev pub DecodedExactly : Type 0
DecodedExactly = (bytes ns : List ℕ) → (decoded bytes ≡ some ns) ↔ Encodes bytes ns

-- "bytes that aren't UTF-8": they are not read exactly where no list of code points has them
abbrev pub UndecodedExactly : Type 0
UndecodedExactly = (bytes : List ℕ) → (decoded bytes ≡ none) ↔ ((ns : List ℕ) → Encodes bytes ns → ⊥)

-- so two lists of code points never have the same bytes
abbrev pub EncodingsDiffer : Type 0
EncodingsDiffer =
    (ns ms : List ℕ) → every is_code_point ns ≡ true → every is_code_point ms ≡ true → encodings ns ≡ encodings ms → ns ≡ ms

-- reading goes character by character, with no count of steps
abbrev pub DecodingRecurs : Type 0
DecodingRecurs = (bytes : List ℕ) → decoded bytes ≡ read_on decoded (head_of bytes)

-- ---- by computation

-- "no longer form than needed": the first and the last of each length
abbrev pub longer : List (List ℕ)
longer =
    (0xC0 ∷ 0x80 ∷ []) ∷ (0xC1 ∷ 0xBF ∷ []) ∷ (0xE0 ∷ 0x80 ∷ 0x80 ∷ []) ∷ (0xE0 ∷ 0x9F ∷ 0xBF ∷ [])
    ∷ (0xF0 ∷ 0x80 ∷ 0x80 ∷ 0x80 ∷ [])
    ∷ (0xF0 ∷ 0x8F ∷ 0xBF ∷ 0xBF ∷ [])
    ∷ []

-- "no surrogates, nothing above U+10FFFF": both ends of the surrogates, F4 90, and first bytes from F5 to FF
abbrev pub outside : List (List ℕ)
outside =
    (0xED ∷ 0xA0 ∷ 0x80 ∷ []) ∷ (0xED ∷ 0xBF ∷ 0xBF ∷ []) ∷ (0xF4 ∷ 0x90 ∷ 0x80 ∷ 0x80 ∷ [])
    ∷ (0xF5 ∷ 0x80 ∷ 0x80 ∷ 0x80 ∷ [])
    ∷ (0xF7 ∷ 0xBF ∷ 0xBF ∷ 0xBF ∷ [])
    ∷ (0xF8 ∷ 0x88 ∷ 0x80 ∷ 0x80 ∷ 0x80 ∷ [])
    ∷ (0xFC ∷ 0x84 ∷ 0x80 ∷ 0x80 ∷ 0x80 ∷ 0x80 ∷ [])
    ∷ (0xFE ∷ [])
    ∷ (0xFF ∷ [])
    ∷ []

-- "no cut character", a byte 10xxxxxx alone, and another byte where one of these is due
abbrev pub cut : List (List ℕ)
cut =
    (0xC3 ∷ []) ∷ (0xE2 ∷ []) ∷ (0xE2 ∷ 0x82 ∷ []) ∷ (0xF0 ∷ []) ∷ (0xF0 ∷ 0x9F ∷ []) ∷ (0xF0 ∷ 0x9F ∷ 0x98 ∷ [])
    ∷ (0x80 ∷ [])
    ∷ (0xBF ∷ [])
    ∷ (0xC3 ∷ 0x41 ∷ [])
    ∷ (0xE2 ∷ 0x82 ∷ 0xC0 ∷ [])
    ∷ (0xF0 ∷ 0x9F ∷ 0x7F ∷ 0x80 ∷ [])
    ∷ (0x41 ∷ 0xC3 ∷ [])
    ∷ []

-- the RFC's own: section 3's surrogate pair, and section 10's longer form in the middle of "/../"
abbrev pub invalid : List (List ℕ)
invalid =
    (0xED ∷ 0xA1 ∷ 0x8C ∷ 0xED ∷ 0xBE ∷ 0xB4 ∷ []) ∷ (0x2F ∷ 0xC0 ∷ 0xAE ∷ 0x2E ∷ 0x2F ∷ []) ∷ []

abbrev pub NoneDecoded : List (List ℕ) → Type 0
NoneDecoded texts = every (λ bytes. missing (decoded bytes)) texts ≡ true

abbrev pub StrictCases : Type 0
StrictCases = NoneDecoded longer × NoneDecoded outside × NoneDecoded cut × NoneDecoded invalid

-- the ends of the ranges, and the surrogates' neighbours
abbrev pub EdgesDecoded : Type 0
EdgesDecoded =
    map decoded
    ((0 ∷ 0x7F ∷ []) ∷ (0xC2 ∷ 0x80 ∷ 0xDF ∷ 0xBF ∷ []) ∷ (0xE0 ∷ 0xA0 ∷ 0x80 ∷ 0xEF ∷ 0xBF ∷ 0xBF ∷ [])
    ∷ (0xED ∷ 0x9F ∷ 0xBF ∷ 0xEE ∷ 0x80 ∷ 0x80 ∷ [])
    ∷ (0xF0 ∷ 0x90 ∷ 0x80 ∷ 0x80 ∷ 0xF4 ∷ 0x8F ∷ 0xBF ∷ 0xBF ∷ [])
    ∷ [])
    ≡ some (0 ∷ 127 ∷ []) ∷ some (128 ∷ 2047 ∷ []) ∷ some (2048 ∷ 65535 ∷ []) ∷ some (55295 ∷ 57344 ∷ [])
    ∷ some (65536 ∷ 1114111 ∷ [])
    ∷ []

-- the examples of the RFC's section 7: U+0041 U+2262 U+0391 U+002E, U+D55C U+AD6D U+C5B4, U+65E5 U+672C U+8A9E and
-- U+FEFF U+233B4
abbrev pub ExamplesDecoded : Type 0
ExamplesDecoded =
    map decoded
    ((0x41 ∷ 0xE2 ∷ 0x89 ∷ 0xA2 ∷ 0xCE ∷ 0x91 ∷ 0x2E ∷ [])
    ∷ (0xED ∷ 0x95 ∷ 0x9C ∷ 0xEA ∷ 0xB5 ∷ 0xAD ∷ 0xEC ∷ 0x96 ∷ 0xB4 ∷ [])
    ∷ (0xE6 ∷ 0x97 ∷ 0xA5 ∷ 0xE6 ∷ 0x9C ∷ 0xAC ∷ 0xE8 ∷ 0xAA ∷ 0x9E ∷ [])
    ∷ (0xEF ∷ 0xBB ∷ 0xBF ∷ 0xF0 ∷ 0xA3 ∷ 0x8E ∷ 0xB4 ∷ [])
    ∷ [])
    ≡ some (0x41 ∷ 0x2262 ∷ 0x391 ∷ 0x2E ∷ []) ∷ some (0xD55C ∷ 0xAD6D ∷ 0xC5B4 ∷ [])
    ∷ some (0x65E5 ∷ 0x672C ∷ 0x8A9E ∷ [])
    ∷ some (0xFEFF ∷ 0x233B4 ∷ [])
    ∷ []
