-- How long lines are, and which bytes they have. A number within its limit has no more digits than the limit.
use mathlib.Core.Path.{◌≡◌, refl, ◌∙◌}
use mathlib.Core.List.{List, [], ◌∷◌, ◌++◌, append_assoc}
use mathlib.Core.Logic.{◌↔◌}
use mathlib.Core.Bool.{Bool, true, false}
use Prim.Native.Nat.{ℕ, zero, suc, ◌≤◌, ◌<◌, ◌+◌}
use native.Mathlib.Numerals.{add-one}
use native.Mathlib.Omega.{arith}
use lib.Dec.{leb, ltb, eqb}
use lib.ListN.{length, drop, get_or, length-append, get_or-append}
use lib.Seq.{drop-cons, get_or-append_seam}
use borrow.Author.Tests.{leb-true, lt-ltb, ltb-true, ltb-false, eqb-false}
use Rattle.lists.specs.Lists.{every}
use Rattle.lists.proofs.Tests.{and_left_lem, and_right, and_intro, or-false-left, or-false-right}
use Rattle.lists.proofs.Members.{every_append}
use Rattle.decimal.specs.Numeral.{is_digit, all_digits, digits}
use Rattle.decimal.proofs.Laws.{width-monotone, digit-range, all_digits_lem}
use Rattle.lines.specs.Lines.{line_feed, has}
use Rattle.lines.specs.Fields.{columns, at_most, line_of}
use Rattle.lines.proofs.Lines.{no-feed}

-- ---- lengths

-- the bytes of one number, and of those after it
pub columns-length : (ns : List ℕ) (i : ℕ) → i < length ns
    → length (columns (drop i ns)) ≡ 1 + length (digits (get_or ns i 0)) + length (columns (drop (i + 1) ns))
columns-length ns i h = rw (add-one i, drop-cons ns i 0 h) (omega (arith, length-append (digits (get_or ns i 0)) (columns (drop (suc i) ns))))

pub line_length : (head ns : List ℕ) → length (line_of head ns) ≡ length head + (length (columns ns) + 1)
unfolding line_of
line_length head ns =
    omega (arith, length-append head (columns ns ++ (line_feed ∷ [])), length-append (columns ns) (line_feed ∷ []))

-- a line has a byte at least
pub line_some : (head ns : List ℕ) → 1 ≤ length (line_of head ns)
line_some head ns = omega (arith, line_length head ns)

-- numbers within their limits take no more bytes than the limits
columns-le : (ls ns : List ℕ) → length ns ≤ length ls → at_most ls ns ≡ true → length (columns ns) ≤ length (columns ls)
columns-le ls [] h e = omega arith
columns-le [] (n ∷ ns) h e = absurd (omega arith)
columns-le (l ∷ ls) (n ∷ ns) h e =
    omega (
      arith,
      columns-le ls ns (omega arith) (and_right (leb n l) (at_most ls ns) e),
      width-monotone n l (leb-true n l (and_left_lem (leb n l) (at_most ls ns) e)),
      length-append (digits n) (columns ns),
      length-append (digits l) (columns ls),
    )

pub line_le : (head ls ns : List ℕ) → length ns ≤ length ls → at_most ls ns ≡ true → length (line_of head ns) ≤ length (line_of head ls)
line_le head ls ns h e = omega (arith, line_length head ns, line_length head ls, columns-le ls ns h e)

-- ---- bytes

abbrev pub is_byte : ℕ → Bool
is_byte b = ltb b 256

digit-bytes : (s : List ℕ) → all_digits s ≡ true → every is_byte s ≡ true
digit-bytes [] e = refl
digit-bytes (b ∷ s) e =
    let r = digit-range b (and_left_lem (is_digit b) (all_digits s) e) in
    and_intro (lt-ltb b 256 (omega (arith, r.1))) (digit-bytes s (and_right (is_digit b) (all_digits s) e))

column-bytes : (ns : List ℕ) → every is_byte (columns ns) ≡ true
column-bytes [] = refl
column-bytes (n ∷ ns) = every_append is_byte (digits n) (columns ns) ∙ and_intro (digit-bytes (digits n) (all_digits_lem n)) (column-bytes ns)

-- what holds of every byte, at any place
byte_at : (s : List ℕ) (k : ℕ) → every is_byte s ≡ true → k < length s → get_or s k 0 < 256
byte_at [] k e h = absurd (omega arith)
byte_at (b ∷ s) zero e h = ltb-true b 256 (and_left_lem (is_byte b) (every is_byte s) e)
byte_at (b ∷ s) (suc k) e h = byte_at s k (and_right (is_byte b) (every is_byte s) e) (omega arith)

absent-at : (b : ℕ) (s : List ℕ) (k : ℕ) → has b s ≡ false → k < length s → get_or s k 0 ≡ b → ⊥
absent-at b [] k e h = absurd (omega arith)
absent-at b (x ∷ s) zero e h = eqb-false x b (or-false-left (eqb x b) (has b s) e)
absent-at b (x ∷ s) (suc k) e h = absent-at b s k (or-false-right (eqb x b) (has b s) e) (omega arith)

-- bytes without a line feed, and one line feed after them
ended-bytes : (s : List ℕ) → every is_byte s ≡ true → has line_feed s ≡ false → (k : ℕ) → k < length (s ++ (line_feed ∷ []))
    → (get_or (s ++ (line_feed ∷ [])) k 0 < 256) × ((get_or (s ++ (line_feed ∷ [])) k 0 ≡ line_feed) ↔ (suc k ≡ length (s ++ (line_feed ∷ []))))
ended-bytes s e f k h = go (ltb k (length s)) refl
  where
    size : length (s ++ (line_feed ∷ [])) ≡ length s + 1
    size = length-append s (line_feed ∷ [])

    go : (b : Bool) → ltb k (length s) ≡ b → (get_or (s ++ (line_feed ∷ [])) k 0 < 256) × ((get_or (s ++ (line_feed ∷ [])) k 0 ≡ line_feed) ↔ (suc k ≡ length (s ++ (line_feed ∷ []))))
    go true t =
        let l : k < length s = ltb-true k (length s) t in
        rw (get_or-append s (line_feed ∷ []) 0 k l)
        (byte_at s k e l, (λ q. absurd (absent-at line_feed s k f l q), λ q. absurd (omega (arith, size))))
    go false t =
        let l : k ≡ length s = omega (arith, ltb-false k (length s) t, size) in
        rw (l, get_or-append_seam s line_feed [] 0) (omega arith, (λ q. omega (arith, size), λ q. refl))

-- each byte of a line is a byte, and the last alone is a line feed, where neither is otherwise in its head word
pub line-bytes : (head ns : List ℕ) → every is_byte head ≡ true → has line_feed head ≡ false → (k : ℕ) → k < length (line_of head ns)
    → (get_or (line_of head ns) k 0 < 256) × ((get_or (line_of head ns) k 0 ≡ line_feed) ↔ (suc k ≡ length (line_of head ns)))
unfolding line_of
line-bytes head ns e f =
    rw (← append_assoc head (columns ns) (line_feed ∷ []))
    (ended-bytes (head ++ columns ns) (every_append is_byte head (columns ns) ∙ and_intro e (column-bytes ns)) (no-feed head ns [] f))
