-- What stands at an offset, byte by byte, and how many characters were counted up to one.
use Prim.Native.Nat.{ℕ, suc, ◌+◌, ◌-◌, ◌*◌, ◌%◌, ◌^◌, ◌≤◌, ◌<◌}
use native.Mathlib.Nat.{pow-suc, pow-le-pow_right, zero-lt-suc}
use native.Mathlib.Omega.{arith}
use mathlib.Core.Path.{◌≡◌, refl, ap, sym, ◌∙◌}
use mathlib.Core.Bool.{Bool, true, false, ◌&&◌, cond}
use mathlib.Core.List.{List, [], ◌∷◌}
use mathlib.Core.Option.{Option, none, some}
use lib.Dec.{eqb}
use lib.ListN.{length, drop, get_or, drop_of_length-le, length-drop, length-append}
use lib.Seq.{drop-cons, drop-drop, drop_at}
use borrow.Author.Tests.{eqb-true, eq-eqb, ne_eqb}
use Rattle.lists.proofs.Tests.{and_right}
use Rattle.decoding.specs.declared.Decoded.{Decoded}
use Rattle.decoding.specs.declared.Decoded.TheVariants.{CodePoint, End, Malformed}
use Rattle.std.specs.Prelude.{None, Some}
use Rattle.utf8.specs.CodePoints.{is_code_point}
use Rattle.utf8.specs.Encoding.{encode, encoded_length}
use Rattle.decoding.specs.Decoding.{Head, ended, character, malformed, accepted, continues, continued, head_of, before, read_on, decoded}
use Rattle.decoding.specs.Offsets.{answer_at, decoded_at, on_from, DecodedOn, count_after, count_of, tail_bits, tail_at, accepted_at}
use Rattle.utf8.proofs.CodePoints.{inside, under, over}
use Rattle.utf8.proofs.Laws.{length-encode, length-bounds}
use Rattle.utf8.proofs.Ranges.{length-by_ranges}
use Rattle.decoding.proofs.Decoding.{head-back, decoding_recurs}

-- ---- one byte 10xxxxxx

pub tail-ended : (bytes : List ℕ) (at : ℕ) → length bytes ≤ at → tail_at bytes at ≡ None
unfolding tail_at tail_bits
tail-ended bytes at h = rw (drop_of_length-le bytes h)

module _ (bytes : List ℕ) (at b : ℕ) (h : at < length bytes) (e : b ≡ get_or bytes at 0) where
  pub tail-inside : 128 ≤ b → b ≤ 191 → tail_at bytes at ≡ Some (b % 64)
  unfolding tail_at tail_bits continues
  tail-inside l g = rw (drop-cons bytes at 0 h, ← e, inside 128 191 b l g)

  pub tail-under : b < 128 → tail_at bytes at ≡ None
  unfolding tail_at tail_bits continues
  tail-under l = rw (drop-cons bytes at 0 h, ← e, under 128 191 b l)

  pub tail-over : 191 < b → tail_at bytes at ≡ None
  unfolding tail_at tail_bits continues
  tail-over l = rw (drop-cons bytes at 0 h, ← e, over 128 191 b l)

-- where there are bits they go into the number, and where there are none the character is cut
module _ (size k n : ℕ) where
  tail_stops : (l : List ℕ) → None ≡ tail_bits l → continued size (suc k) n l ≡ malformed
  unfolding continued tail_bits
  tail_stops [] q = refl
  tail_stops (b ∷ rest) q = go (continues b) q
    where
      go : (t : Bool) → None ≡ cond t (Some (b % 64)) None → cond t (continued size k (n * 64 + b % 64) rest) malformed ≡ malformed
      go true q = absurd (let z : ◌≡◌ {A = ℕ} 0 1 = cc in omega arith)
      go false q = refl

  tail_goes : (x : ℕ) (l : List ℕ) → Some x ≡ tail_bits l → continued size (suc k) n l ≡ continued size k (n * 64 + x) (drop 1 l)
  unfolding continued tail_bits
  tail_goes x [] q = absurd (let z : ◌≡◌ {A = ℕ} 0 1 = cc in omega arith)
  tail_goes x (b ∷ rest) q = go (continues b) q
    where
      go : (t : Bool) → Some x ≡ cond t (Some (b % 64)) None → cond t (continued size k (n * 64 + b % 64) rest) malformed ≡ continued size k (n * 64 + x) rest
      go true q = let same : x ≡ b % 64 = cc in ap (λ (m : ℕ). continued size k (n * 64 + m) rest) (sym same)
      go false q = absurd (let z : ◌≡◌ {A = ℕ} 0 1 = cc in omega arith)

-- ---- one character

pub accepted-answer : (at size n : ℕ) (rest : List ℕ) → answer_at at (accepted size n rest) ≡ accepted_at size n (at + size)
unfolding accepted answer_at accepted_at
accepted-answer at size n rest = go (is_code_point n && eqb (encoded_length n) size) refl
  where
    go : (t : Bool) → (is_code_point n && eqb (encoded_length n) size) ≡ t
        → answer_at at (cond t (character n rest) malformed) ≡ cond t (CodePoint n (at + size)) Malformed
    go true e = ap (λ (m : ℕ). CodePoint n (at + m)) (eqb-true (encoded_length n) size (and_right (is_code_point n) (eqb (encoded_length n) size) e))
    go false e = refl

pub accepted_wrong : (size n next : ℕ) → is_code_point n ≡ false → accepted_at size n next ≡ Malformed
unfolding accepted_at
accepted_wrong size n next e = rw e

pub accepted-longer : (size n m next : ℕ) → is_code_point n ≡ true → m ≡ encoded_length n → (m ≡ size → ⊥) → accepted_at size n next ≡ Malformed
unfolding accepted_at
accepted-longer size n m next p e f = rw (p, ne_eqb (encoded_length n) size (λ q. f (e ∙ q)))

pub accepted-right : (size n m next : ℕ) → is_code_point n ≡ true → m ≡ encoded_length n → m ≡ size → accepted_at size n next ≡ CodePoint n next
unfolding accepted_at
accepted-right size n m next p e f = rw (p, eq-eqb (encoded_length n) size (sym e ∙ f))

-- with i bytes of a character of the size read from the offset on
pub record Along (bytes : List ℕ) (at size lead i n : ℕ) : Type 0 where
  pub same : continued size (size - i) n (drop (at + i) bytes) ≡ continued size (size - 1) lead (drop (at + 1) bytes)
  pub begun : 1 ≤ i
  pub few : i ≤ size
  pub small : n < 64 ^ i

module _ (bytes : List ℕ) (at size lead : ℕ) where
  pub along-begun : 1 ≤ size → lead < 64 → Along bytes at size lead 1 lead
  along-begun l h = record { same = refl; begun = omega arith; few = l; small = h }

  module _ (i n : ℕ) (w : Along bytes at size lead i n) where
    -- what a number so far can grow to
    pub along-small : size ≤ 4 → i < size → n < 262144
    along-small f h = let few-so-far : i ≤ 3 = omega arith in omega (arith, w.small, pow-le-pow_right (zero-lt-suc 63) few-so-far)

    module _ (h : i < size) where
      abbrev left : ℕ
      left = size - (i + 1)

      one_left : size - i ≡ suc left
      one_left = omega arith

      pub along-cut : None ≡ tail_at bytes (at + i) → Malformed ≡ answer_at at (continued size (size - 1) lead (drop (at + 1) bytes))
      unfolding answer_at tail_at
      along-cut e =
          ap (answer_at at)
          (sym (tail_stops size left n (drop (at + i) bytes) e) ∙ ap (λ (k : ℕ). continued size k n (drop (at + i) bytes)) (sym one_left) ∙ w.same)

      pub along-again : (x : ℕ) → Some x ≡ tail_at bytes (at + i) → x < 64 → Along bytes at size lead (i + 1) (n * 64 + x)
      unfolding tail_at
      along-again x e b =
          let further : at + i + 1 ≡ at + (i + 1) = omega arith in
          let next : drop 1 (drop (at + i) bytes) ≡ drop (at + (i + 1)) bytes = drop-drop 1 (at + i) bytes ∙ ap (λ (k : ℕ). drop k bytes) further in
          let one : i + 1 ≡ suc i = omega arith in
          let power : 64 ^ (i + 1) ≡ 64 ^ i * 64 = ap (λ (k : ℕ). 64 ^ k) one ∙ pow-suc 64 i in
          record {
            same =
                ap (continued size left (n * 64 + x)) (sym next)
                ∙ sym (tail_goes size left n x (drop (at + i) bytes) e)
                ∙ ap (λ (k : ℕ). continued size k n (drop (at + i) bytes)) (sym one_left)
                ∙ w.same;
            begun = omega arith;
            few = omega arith;
            small = omega (arith, w.small);
          }

    pub along-whole : size ≤ i → accepted_at size n (at + size) ≡ answer_at at (continued size (size - 1) lead (drop (at + 1) bytes))
    unfolding continued
    along-whole h =
        let none_left : size - i ≡ 0 = omega arith in
        sym (accepted-answer at size n (drop (at + i) bytes))
        ∙ ap (answer_at at) (ap (λ (k : ℕ). continued size k n (drop (at + i) bytes)) (sym none_left) ∙ w.same)

-- ---- by the first byte

pub decoded-end : (bytes : List ℕ) (at : ℕ) → length bytes ≤ at → decoded_at bytes at ≡ End
unfolding decoded_at head_of answer_at
decoded-end bytes at h = rw (drop_of_length-le bytes h)

module _ (bytes : List ℕ) (at b : ℕ) (h : at < length bytes) (e : b ≡ get_or bytes at 0) where
  front : drop at bytes ≡ b ∷ drop (at + 1) bytes
  front = let next : suc at ≡ at + 1 = omega arith in rw (drop-cons bytes at 0 h, ← e, next)

  pub decoded-one : b ≤ 127 → decoded_at bytes at ≡ CodePoint b (at + 1)
  unfolding decoded_at head_of answer_at
  decoded-one g = rw (front, inside 0 127 b (omega arith) g, length-by_ranges.one b g)

  pub decoded-two : 192 ≤ b → b ≤ 223 → decoded_at bytes at ≡ answer_at at (continued 2 1 (b % 32) (drop (at + 1) bytes))
  unfolding decoded_at head_of
  decoded-two l g = rw (front, over 0 127 b (omega arith), inside 192 223 b l g)

  pub decoded-three : 224 ≤ b → b ≤ 239 → decoded_at bytes at ≡ answer_at at (continued 3 2 (b % 16) (drop (at + 1) bytes))
  unfolding decoded_at head_of
  decoded-three l g = rw (front, over 0 127 b (omega arith), over 192 223 b (omega arith), inside 224 239 b l g)

  pub decoded-four : 240 ≤ b → b ≤ 247 → decoded_at bytes at ≡ answer_at at (continued 4 3 (b % 8) (drop (at + 1) bytes))
  unfolding decoded_at head_of
  decoded-four l g = rw (front, over 0 127 b (omega arith), over 192 223 b (omega arith), over 224 239 b (omega arith), inside 240 247 b l g)

  pub decoded-tail : 128 ≤ b → b ≤ 191 → decoded_at bytes at ≡ Malformed
  unfolding decoded_at head_of answer_at
  decoded-tail l g = rw (front, over 0 127 b (omega arith), under 192 223 b (omega arith), under 224 239 b (omega arith), under 240 247 b (omega arith))

  pub decoded-over : 248 ≤ b → decoded_at bytes at ≡ Malformed
  unfolding decoded_at head_of answer_at
  decoded-over l = rw (front, over 0 127 b (omega arith), over 192 223 b (omega arith), over 224 239 b (omega arith), over 240 247 b (omega arith))

-- ---- from an offset on

rest_follows : (bytes : List ℕ) (at n : ℕ) (rest : List ℕ) → head_of (drop at bytes) ≡ character n rest → rest ≡ drop (at + encoded_length n) bytes
rest_follows bytes at n rest e =
    let w = head-back (drop at bytes) n rest e in
    sym (drop_at (encode n) rest (encoded_length n) (length-encode n)) ∙ ap (drop (encoded_length n)) (sym w.bytes-are) ∙ drop-drop (encoded_length n) at bytes

pub decoded-on : DecodedOn
unfolding decoded_at answer_at
decoded-on bytes at = decoding_recurs (drop at bytes) ∙ go (head_of (drop at bytes)) refl
  where
    go : (h : Head) → head_of (drop at bytes) ≡ h → read_on decoded h ≡ on_from bytes (answer_at at h)
    go ended e = refl
    go malformed e = refl
    go (character n rest) e = ap (λ (l : List ℕ). before n (decoded l)) (rest_follows bytes at n rest e)

-- a character of the text at an offset, and the offset past it
record Stands (bytes : List ℕ) (at n next : ℕ) : Type 0 where
  rest : List ℕ
  head : head_of (drop at bytes) ≡ character n rest
  past : next ≡ at + encoded_length n

stands : (bytes : List ℕ) (at n next : ℕ) → CodePoint n next ≡ decoded_at bytes at → Stands bytes at n next
unfolding decoded_at answer_at
stands bytes at n next = go (head_of (drop at bytes)) refl
  where
    go : (h : Head) → head_of (drop at bytes) ≡ h → CodePoint n next ≡ answer_at at h → Stands bytes at n next
    go ended p e = absurd (let z : ◌≡◌ {A = ℕ} 0 1 = cc in omega arith)
    go malformed p e = absurd (let z : ◌≡◌ {A = ℕ} 0 1 = cc in omega arith)
    go (character m rest) p e =
        let number : n ≡ m = cc in
        let place : next ≡ at + encoded_length m = cc in
        record {
          rest = rest;
          head = p ∙ ap (λ (k : ℕ). character k rest) (sym number);
          past = place ∙ ap (λ (k : ℕ). at + encoded_length k) (sym number);
        }

-- it goes on, and stays within the text
module _ (bytes : List ℕ) (at n next : ℕ) (e : CodePoint n next ≡ decoded_at bytes at) where
  pub next-further : at < next
  next-further = omega (arith, (stands bytes at n next e).past, length-bounds n)

  pub next-within : at ≤ length bytes → next ≤ length bytes
  next-within h =
      let w = stands bytes at n next e in
      let b = (head-back (drop at bytes) n w.rest w.head).bytes-are in
      omega (
        arith,
        w.past,
        length-encode n,
        length-append (encode n) w.rest,
        ap (λ (l : List ℕ). length l) b,
        length-drop at bytes,
        length-bounds n,
      )

-- ---- a whole text

-- from an offset on, with so many characters before it
pub record Counting (bytes : List ℕ) (at count : ℕ) : Type 0 where
  pub same : count_after count (decoded (drop at bytes)) ≡ count_of (decoded bytes)
  pub few : count ≤ at
  pub within : at ≤ length bytes

pub counting-begun : (bytes : List ℕ) → Counting bytes 0 0
unfolding count_of
counting-begun bytes = record { same = refl; few = omega arith; within = omega arith }

module _ (bytes : List ℕ) (at count : ℕ) (c : Counting bytes at count) where
  -- with what `decode` answered there
  counting-on : (d : Decoded) → d ≡ decoded_at bytes at → count_after count (on_from bytes d) ≡ count_of (decoded bytes)
  counting-on d e = ap (count_after count) (ap (on_from bytes) e ∙ sym (decoded-on bytes at)) ∙ c.same

  pub counting-again : (n next : ℕ) → CodePoint n next ≡ decoded_at bytes at → Counting bytes next (count + 1)
  unfolding count_after
  counting-again n next e =
      record {
        same = one_more (decoded (drop next bytes)) ∙ counting-on (CodePoint n next) e;
        few = omega (arith, next-further bytes at n next e, c.few);
        within = next-within bytes at n next e c.within;
      }
    where
      one_more : (m : Option (List ℕ)) → count_after (count + 1) m ≡ count_after count (before n m)
      one_more none = refl
      one_more (some ns) = let sum : count + 1 + length ns ≡ count + suc (length ns) = omega arith in ap Some sum

  pub counting-malformed : Malformed ≡ decoded_at bytes at → None ≡ count_of (decoded bytes)
  unfolding count_after
  counting-malformed e = counting-on Malformed e

  pub counting-ended : End ≡ decoded_at bytes at → Some count ≡ count_of (decoded bytes)
  unfolding count_after
  counting-ended e = let none_left : count ≡ count + 0 = omega arith in ap Some none_left ∙ counting-on End e

  pub counting-done : length bytes ≤ at → Some count ≡ count_of (decoded bytes)
  counting-done h = counting-ended (sym (decoded-end bytes at h))

-- what a count says of the text
pub counted-some : (m : Option (List ℕ)) (k : ℕ) → Some k ≡ count_of m → (ns : List ℕ) × (m ≡ some ns) × (k ≡ length ns)
unfolding count_of count_after
counted-some none k e = absurd (let z : ◌≡◌ {A = ℕ} 0 1 = cc in omega arith)
counted-some (some ns) k e = let number : k ≡ 0 + length ns = cc in (ns, refl, omega arith)

pub counted_none : (m : Option (List ℕ)) → None ≡ count_of m → m ≡ none
unfolding count_of count_after
counted_none none e = refl
counted_none (some ns) e = absurd (let z : ◌≡◌ {A = ℕ} 0 1 = cc in omega arith)
