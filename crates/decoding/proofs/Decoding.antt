-- The table of RFC 3629 read backwards gives back what was encoded, and nothing else passes: each byte 10xxxxxx holds
-- six bits of the number, and the bits before it are those of a quotient by 64.
use Prim.Native.Nat.{ℕ, zero, suc, ◌+◌, ◌*◌, ◌/◌, ◌%◌, ◌≤◌, ◌<◌}
use native.Mathlib.Nat.{div-one}
use native.Mathlib.Omega.{arith}
use mathlib.Core.Path.{◌≡◌, refl, ap, ap₂, sym, ◌∙◌, subst}
use mathlib.Core.Bool.{Bool, true, false, ◌&&◌, cond}
use mathlib.Core.List.{List, [], ◌∷◌, ◌++◌}
use mathlib.Core.Option.{Option, none, some}
use mathlib.Core.Logic.{⊎_elim}
use lib.Dec.{eqb}
use lib.ListN.{length, length-append}
use borrow.Author.Tests.{eqb-true, eq-eqb}
use Rattle.lists.specs.Lists.{every}
use Rattle.lists.proofs.Tests.{side, and_left_lem, and_right, and_intro, some-eq, no-some}
use Rattle.utf8.specs.CodePoints.{within, is_code_point}
use Rattle.utf8.specs.Encoding.{encode, encoded_length, continuation, two_bytes, three_bytes, four_bytes}
use Rattle.decoding.specs.Decoding.{encodings, Head, ended, character, malformed, accepted, continues, continued, head_of, before, read_on, decoded_steps, decoded}
use Rattle.decoding.specs.Theorems.{Encodes, DecodedExactly, UndecodedExactly, EncodingsDiffer, DecodingRecurs, StrictCases, EdgesDecoded, ExamplesDecoded}
use Rattle.utf8.proofs.CodePoints.{inside, over, at_least, at_most, below_surrogates, not_beyond}
use Rattle.utf8.proofs.Laws.{encode-two, encode-three, encode-four, length-encode, length-bounds}
use Rattle.utf8.proofs.Ranges.{length-by_ranges, encode-by_ranges}

-- ---- the bits of a number by sixes

-- without its last k sixes
abbrev quotient : ℕ → ℕ → ℕ
quotient zero n = n
quotient (suc k) n = quotient k n / 64

-- the bytes 10xxxxxx of its last k sixes
abbrev tail : ℕ → ℕ → List ℕ
tail zero n = []
tail (suc k) n = (128 + quotient k n % 64) ∷ tail k n

-- the table of `encode`, so written
module _ (n : ℕ) where
  two-encoded : encoded_length n ≡ 2 → encode n ≡ (192 + quotient 1 n % 32) ∷ tail 1 n
  unfolding two_bytes continuation
  two-encoded e = encode-two n e ∙ rw div-one

  three-encoded : encoded_length n ≡ 3 → encode n ≡ (224 + quotient 2 n % 16) ∷ tail 2 n
  unfolding three_bytes continuation
  three-encoded e =
      let high : n / 4096 ≡ n / 64 / 64 = omega arith in
      encode-three n e ∙ rw (div-one, high)

  four-encoded : encoded_length n ≡ 4 → encode n ≡ (240 + quotient 3 n % 8) ∷ tail 3 n
  unfolding four_bytes continuation
  four-encoded e =
      let middle : n / 4096 ≡ n / 64 / 64 = omega arith in
      let high : n / 262144 ≡ n / 64 / 64 / 64 = omega arith in
      encode-four n e ∙ rw (div-one, middle, high)

-- ---- what one head says

no-character : {A : Type 0} {n : ℕ} {rest : List ℕ} → malformed ≡ character n rest → A
no-character e = absurd (let z : ◌≡◌ {A = ℕ} 0 1 = cc in omega arith)

not-ended : {A : Type 0} {n : ℕ} {rest : List ℕ} → ended ≡ character n rest → A
not-ended e = absurd (let z : ◌≡◌ {A = ℕ} 0 1 = cc in omega arith)

no_end : {A : Type 0} {n : ℕ} {rest : List ℕ} → character n rest ≡ ended → A
no_end e = absurd (let z : ◌≡◌ {A = ℕ} 0 1 = cc in omega arith)

malformed-no-end : {A : Type 0} → malformed ≡ ended → A
malformed-no-end e = absurd (let z : ◌≡◌ {A = ℕ} 0 1 = cc in omega arith)

same_number : {n m : ℕ} {rest more : List ℕ} → character n rest ≡ character m more → n ≡ m
same_number e = cc

same_rest : {n m : ℕ} {rest more : List ℕ} → character n rest ≡ character m more → rest ≡ more
same_rest e = cc

-- ---- encoded and read

accepted_so : (size n : ℕ) (rest : List ℕ) → is_code_point n ≡ true → encoded_length n ≡ size → accepted size n rest ≡ character n rest
unfolding accepted
accepted_so size n rest p e = rw (p, eq-eqb (encoded_length n) size e)

-- a quotient and the bytes of the sixes behind it come to the number
tail-read : (size k n : ℕ) (rest : List ℕ) → continued size k (quotient k n) (tail k n ++ rest) ≡ accepted size n rest
unfolding continued continues
tail-read size zero n rest = refl
tail-read size (suc k) n rest =
    let m = quotient k n in
    let bits : (128 + m % 64) % 64 ≡ m % 64 = omega arith in
    let whole : m / 64 * 64 + m % 64 ≡ m = omega arith in
    rw (inside 128 191 (128 + m % 64) (omega arith) (omega arith), bits, whole) (tail-read size k n rest)

module _ (n : ℕ) (rest : List ℕ) (p : is_code_point n ≡ true) where
  one-read : n ≤ 127 → head_of (encode n ++ rest) ≡ character n rest
  unfolding head_of
  one-read h = rw (encode-by_ranges.one n h, inside 0 127 n (omega arith) h)

  two-read : 127 < n → n ≤ 2047 → head_of (encode n ++ rest) ≡ character n rest
  unfolding head_of
  two-read l h =
      let e = length-by_ranges.two n (omega arith) h in
      let a = 192 + quotient 1 n % 32 in
      let bits : a % 32 ≡ quotient 1 n = omega arith in
      rw (two-encoded n e, over 0 127 a (omega arith), inside 192 223 a (omega arith) (omega arith), bits)
      (tail-read 2 1 n rest ∙ accepted_so 2 n rest p e)

  three-read : 2047 < n → n ≤ 65535 → head_of (encode n ++ rest) ≡ character n rest
  unfolding head_of
  three-read l h =
      let e = length-by_ranges.three n (omega arith) h in
      let a = 224 + quotient 2 n % 16 in
      let bits : a % 16 ≡ quotient 2 n = omega arith in
      rw (three-encoded n e, over 0 127 a (omega arith), over 192 223 a (omega arith), inside 224 239 a (omega arith) (omega arith), bits)
      (tail-read 3 2 n rest ∙ accepted_so 3 n rest p e)

  four-read : 65535 < n → head_of (encode n ++ rest) ≡ character n rest
  unfolding head_of
  four-read l =
      let h = not_beyond n p in
      let e = length-by_ranges.four n (omega arith) h in
      let a = 240 + quotient 3 n % 8 in
      let bits : a % 8 ≡ quotient 3 n = omega arith in
      rw (
        four-encoded n e,
        over 0 127 a (omega arith),
        over 192 223 a (omega arith),
        over 224 239 a (omega arith),
        inside 240 247 a (omega arith) (omega arith),
        bits,
      )
      (tail-read 4 3 n rest ∙ accepted_so 4 n rest p e)

  pub head-encoded : head_of (encode n ++ rest) ≡ character n rest
  head-encoded =
      ⊎_elim one-read (λ a. ⊎_elim (two-read a) (λ b. ⊎_elim (three-read b) four-read (side n 65535)) (side n 2047))
      (side n 127)

-- ---- read and encoded

-- a head that is a character: it is a code point, and these are its bytes
pub record Begins (bytes : List ℕ) (n : ℕ) (rest : List ℕ) : Type 0 where
  pub point : is_code_point n ≡ true
  pub bytes-are : bytes ≡ encode n ++ rest

-- what led to a character of the size, with so many bytes of it left and the number so far
record Continues (size k m n : ℕ) (more rest : List ℕ) : Type 0 where
  point : is_code_point n ≡ true
  needed : encoded_length n ≡ size
  number : m ≡ quotient k n
  bytes_left : more ≡ tail k n ++ rest

-- a test that chose something else passed, and led to it
chosen : {A : Type 0} (t : Bool) {h g : Head} → cond t h malformed ≡ g → (malformed ≡ g → A) → (t ≡ true → h ≡ g → A) → A
chosen true e stop go = go refl e
chosen false e stop go = stop e

accepted-back : (size m n : ℕ) (more rest : List ℕ) → accepted size m more ≡ character n rest → Continues size 0 m n more rest
unfolding accepted
accepted-back size m n more rest e =
    chosen (is_code_point m && eqb (encoded_length m) size) e no-character
    (λ t h. record {
      point = subst (λ (x : ℕ). is_code_point x ≡ true) (same_number h) (and_left_lem (is_code_point m) (eqb (encoded_length m) size) t);
      needed = ap encoded_length (sym (same_number h)) ∙ eqb-true (encoded_length m) size (and_right (is_code_point m) (eqb (encoded_length m) size) t);
      number = same_number h;
      bytes_left = same_rest h;
    })

tail-back : (size k m n : ℕ) (more rest : List ℕ) → continued size k m more ≡ character n rest → Continues size k m n more rest
unfolding continued continues
tail-back size zero m n more rest e = accepted-back size m n more rest e
tail-back size (suc k) m n [] rest e = no-character e
tail-back size (suc k) m n (b ∷ more) rest e =
    chosen (within 128 191 b) e no-character (λ t f. one_more t (tail-back size k (m * 64 + b % 64) n more rest f))
  where
    one_more : within 128 191 b ≡ true → Continues size k (m * 64 + b % 64) n more rest → Continues size (suc k) m n (b ∷ more) rest
    one_more t w =
        let low = at_least 128 191 b t in
        let high = at_most 128 191 b t in
        let byte : b ≡ 128 + quotient k n % 64 = omega (arith, w.number) in
        record {
          point = w.point;
          needed = w.needed;
          number = omega (arith, w.number);
          bytes_left = ap₂ (λ (x : ℕ) (l : List ℕ). x ∷ l) byte w.bytes_left;
        }

module _ (a n : ℕ) (more rest : List ℕ) where
  one-back : a ≤ 127 → character a more ≡ character n rest → Begins (a ∷ more) n rest
  one-back h e =
      record {
        point = subst (λ (x : ℕ). is_code_point x ≡ true) (same_number e) (below_surrogates a (omega arith));
        bytes-are = sym (rw (encode-by_ranges.one a h)) ∙ ap₂ (λ (x : ℕ) (l : List ℕ). encode x ++ l) (same_number e) (same_rest e);
      }

  -- the first byte and what is left are the encoding
  joined : {size k m : ℕ} → Continues size k m n more rest → encode n ≡ a ∷ tail k n → Begins (a ∷ more) n rest
  joined w e =
      record {
        point = w.point;
        bytes-are = ap (λ (l : List ℕ). a ∷ l) w.bytes_left ∙ ap (λ (l : List ℕ). l ++ rest) (sym e);
      }

  two_back : within 192 223 a ≡ true → continued 2 1 (a % 32) more ≡ character n rest → Begins (a ∷ more) n rest
  two_back t e =
      let w = tail-back 2 1 (a % 32) n more rest e in
      let first : 192 + quotient 1 n % 32 ≡ a = omega (arith, w.number, at_least 192 223 a t, at_most 192 223 a t) in
      joined w (two-encoded n w.needed ∙ ap (λ (x : ℕ). x ∷ tail 1 n) first)

  three_back : within 224 239 a ≡ true → continued 3 2 (a % 16) more ≡ character n rest → Begins (a ∷ more) n rest
  three_back t e =
      let w = tail-back 3 2 (a % 16) n more rest e in
      let first : 224 + quotient 2 n % 16 ≡ a = omega (arith, w.number, at_least 224 239 a t, at_most 224 239 a t) in
      joined w (three-encoded n w.needed ∙ ap (λ (x : ℕ). x ∷ tail 2 n) first)

  four-back : within 240 247 a ≡ true → continued 4 3 (a % 8) more ≡ character n rest → Begins (a ∷ more) n rest
  four-back t e =
      let w = tail-back 4 3 (a % 8) n more rest e in
      let first : 240 + quotient 3 n % 8 ≡ a = omega (arith, w.number, at_least 240 247 a t, at_most 240 247 a t) in
      joined w (four-encoded n w.needed ∙ ap (λ (x : ℕ). x ∷ tail 3 n) first)

-- what the four tests of the first byte choose
abbrev by_lead : Bool → Bool → Bool → Bool → ℕ → List ℕ → Head
by_lead p q r s a more =
    cond p (character a more)
    (cond q (continued 2 1 (a % 32) more) (cond r (continued 3 2 (a % 16) more) (cond s (continued 4 3 (a % 8) more) malformed)))

pub head-back : (bytes : List ℕ) (n : ℕ) (rest : List ℕ) → head_of bytes ≡ character n rest → Begins bytes n rest
unfolding head_of
head-back [] n rest e = not-ended e
head-back (a ∷ more) n rest e = go (within 0 127 a) (within 192 223 a) (within 224 239 a) (within 240 247 a) refl refl refl refl e
  where
    go : (p q r s : Bool) → within 0 127 a ≡ p → within 192 223 a ≡ q → within 224 239 a ≡ r → within 240 247 a ≡ s
        → by_lead p q r s a more ≡ character n rest → Begins (a ∷ more) n rest
    go true q r s tp tq tr ts e = one-back a n more rest (at_most 0 127 a tp) e
    go false true r s tp tq tr ts e = two_back a n more rest tq e
    go false false true s tp tq tr ts e = three_back a n more rest tr e
    go false false false true tp tq tr ts e = four-back a n more rest ts e
    go false false false false tp tq tr ts e = no-character e

-- bytes do not end where a character is begun
tail-no-end : {A : Type 0} (size k m : ℕ) (more : List ℕ) → continued size k m more ≡ ended → A
unfolding continued accepted
tail-no-end size zero m more e = chosen (is_code_point m && eqb (encoded_length m) size) e malformed-no-end (λ t. no_end)
tail-no-end size (suc k) m [] e = malformed-no-end e
tail-no-end size (suc k) m (b ∷ more) e =
    chosen (continues b) e malformed-no-end (λ t. tail-no-end size k (m * 64 + b % 64) more)

head-ended : (bytes : List ℕ) → head_of bytes ≡ ended → bytes ≡ []
unfolding head_of
head-ended [] e = refl
head-ended (a ∷ more) e = go (within 0 127 a) (within 192 223 a) (within 224 239 a) (within 240 247 a) e
  where
    go : (p q r s : Bool) → by_lead p q r s a more ≡ ended → a ∷ more ≡ []
    go true q r s e = no_end e
    go false true r s e = tail-no-end 2 1 (a % 32) more e
    go false false true s e = tail-no-end 3 2 (a % 16) more e
    go false false false true e = tail-no-end 4 3 (a % 8) more e
    go false false false false e = malformed-no-end e

-- ---- a whole text

-- what is read behind a character is shorter
shorter : (bytes : List ℕ) (n : ℕ) (rest : List ℕ) → Begins bytes n rest → length rest < length bytes
shorter bytes n rest w =
    let sum : length bytes ≡ length (encode n) + length rest = ap (λ (l : List ℕ). length l) w.bytes-are ∙ length-append (encode n) rest in
    omega (arith, sum, length-encode n, length-bounds n)

steps_to : (k : ℕ) (bytes ns : List ℕ) → decoded_steps k bytes ≡ some ns → Encodes bytes ns
unfolding decoded_steps
steps_to zero bytes ns e = no-some e
steps_to (suc k) bytes ns e = go (steps_to k) (head_of bytes) refl e
  where
    go : ((rest ms : List ℕ) → decoded_steps k rest ≡ some ms → Encodes rest ms) → (h : Head) → head_of bytes ≡ h
        → read_on (decoded_steps k) h ≡ some ns → Encodes bytes ns
    go behind ended e f =
        let none_left : [] ≡ ns = some-eq f in
        subst (λ (l : List ℕ). Encodes bytes l) none_left (refl, head-ended bytes e)
    go behind malformed e f = no-some f
    go behind (character n rest) e f = later (decoded_steps k rest) refl f
      where
        later : (m : Option (List ℕ)) → decoded_steps k rest ≡ m → before n m ≡ some ns → Encodes bytes ns
        later none g f = no-some f
        later (some ms) g f =
            let w = head-back bytes n rest e in
            let v = behind rest ms g in
            subst (λ (l : List ℕ). Encodes bytes l) (some-eq f)
            (and_intro w.point v.0, w.bytes-are ∙ ap (λ (l : List ℕ). encode n ++ l) v.1)

steps_from : (k : ℕ) (ns : List ℕ) → every is_code_point ns ≡ true → length (encodings ns) < k → decoded_steps k (encodings ns) ≡ some ns
unfolding decoded_steps head_of
steps_from zero ns p l = absurd (omega arith)
steps_from (suc k) [] p l = refl
steps_from (suc k) (n ∷ ns) p l =
    let here = and_left_lem (is_code_point n) (every is_code_point ns) p in
    let there = and_right (is_code_point n) (every is_code_point ns) p in
    let few : length (encodings ns) < k = omega (arith, length-append (encode n) (encodings ns), length-encode n, length-bounds n) in
    rw (head-encoded n (encodings ns) here, steps_from k ns there few)

pub decoded_exactly : DecodedExactly
unfolding decoded
decoded_exactly bytes ns = (
  steps_to (suc (length bytes)) bytes ns,
  λ w. subst (λ (l : List ℕ). decoded_steps (suc (length l)) l ≡ some ns) (sym w.1) (steps_from (suc (length (encodings ns))) ns w.0 (omega arith)),
)

pub undecoded_exactly : UndecodedExactly
undecoded_exactly bytes = (λ e ns w. no-some (sym e ∙ (decoded_exactly bytes ns).1 w), go (decoded bytes) refl)
  where
    go : (m : Option (List ℕ)) → decoded bytes ≡ m → ((ns : List ℕ) → Encodes bytes ns → ⊥) → decoded bytes ≡ none
    go none e f = e
    go (some ns) e f = absurd (f ns ((decoded_exactly bytes ns).0 e))

pub encodings-differ : EncodingsDiffer
encodings-differ ns ms p q e =
    some-eq (sym ((decoded_exactly (encodings ns) ns).1 (p, refl)) ∙ (decoded_exactly (encodings ns) ms).1 (q, e))

-- two readers that agree on what is shorter read on alike
on-enough : (f g : List ℕ → Option (List ℕ)) (bytes : List ℕ) → ((rest : List ℕ) → length rest < length bytes → f rest ≡ g rest)
    → read_on f (head_of bytes) ≡ read_on g (head_of bytes)
on-enough f g bytes alike = go (head_of bytes) refl
  where
    go : (d : Head) → head_of bytes ≡ d → read_on f d ≡ read_on g d
    go ended e = refl
    go malformed e = refl
    go (character n rest) e = ap (before n) (alike rest (shorter bytes n rest (head-back bytes n rest e)))

-- as many steps as there are bytes, and one, are enough
steps_enough : (k m : ℕ) (bytes : List ℕ) → length bytes < k → length bytes < m → decoded_steps k bytes ≡ decoded_steps m bytes
unfolding decoded_steps
steps_enough zero m bytes l h = absurd (omega arith)
steps_enough (suc k) zero bytes l h = absurd (omega arith)
steps_enough (suc k) (suc m) bytes l h = on-enough (decoded_steps k) (decoded_steps m) bytes (λ rest s. steps_enough k m rest (omega arith) (omega arith))

pub decoding_recurs : DecodingRecurs
unfolding decoded decoded_steps
decoding_recurs bytes = on-enough (decoded_steps (length bytes)) decoded bytes (λ rest s. steps_enough (length bytes) (suc (length rest)) rest s (omega arith))

-- ---- by computation

pub strict-cases : StrictCases
unfolding within is_code_point encoded_length accepted continues continued head_of decoded_steps decoded
strict-cases = (refl, refl, refl, refl)

pub edges-decoded : EdgesDecoded
unfolding within is_code_point encoded_length accepted continues continued head_of decoded_steps decoded
edges-decoded = refl

pub examples_decoded : ExamplesDecoded
unfolding within is_code_point encoded_length accepted continues continued head_of decoded_steps decoded
examples_decoded = refl
