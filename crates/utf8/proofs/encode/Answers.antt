-- `utf8::encode` meets its contract: at each `return` the length is known, and with it the row of the table.
use mathlib.Core.Path.{◌≡◌, sym, ◌∙◌}
use mathlib.Core.List.{List, [], ◌∷◌, ◌++◌}
use Prim.Native.Nat.{ℕ, ◌+◌, ◌-◌, ◌/◌, ◌%◌}
use native.Mathlib.Nat.{div-one, zero-add}
use native.Mathlib.Omega.{arith}
use lib.ListN.{length, replicate}
use Rattle.utf8.specs.declared.Encoded.{Encoded}
use Rattle.utf8.specs.Encoding.{encode, encoded_length, continuation, one_byte, two_bytes, three_bytes, four_bytes}
use Rattle.utf8.specs.Encoded.{encoding}
use Rattle.utf8.proofs.Laws.{encode_one, encode-two, encode-three, encode-four, length-bounds}
use Rattle.utf8.proofs.encode.Goals as goal

abbrev filled : ℕ → List ℕ
filled n = encode n ++ replicate (4 - length (encode n)) 0

answer : (n m : ℕ) (xs : List ℕ) → m ≡ encoded_length n → xs ≡ filled n → ◌≡◌ {A = Encoded} (record { bytes = xs; length = m }) (encoding n)
unfolding encoding
answer n m xs p q = λ k. record { bytes = q k; length = p k }

filled-one : (n a : ℕ) → encoded_length n ≡ 1 → a ≡ 0 + n % 128 → a ∷ 0 ∷ 0 ∷ 0 ∷ [] ≡ filled n
unfolding one_byte
filled-one n a e p = rw (encode_one n e, p, zero-add)

filled-two : (n a b : ℕ) → encoded_length n ≡ 2 → a ≡ 192 + n / 64 % 32 → b ≡ 128 + n % 64 → a ∷ b ∷ 0 ∷ 0 ∷ [] ≡ filled n
unfolding two_bytes continuation
filled-two n a b e p q = rw (encode-two n e, p, q, div-one)

filled-three : (n a b d : ℕ) → encoded_length n ≡ 3 → a ≡ 224 + n / 4096 % 16 → b ≡ 128 + n / 64 % 64 → d ≡ 128 + n % 64
    → a ∷ b ∷ d ∷ 0 ∷ [] ≡ filled n
unfolding three_bytes continuation
filled-three n a b d e p q r = rw (encode-three n e, p, q, r, div-one)

filled-four : (n a b d e : ℕ) → encoded_length n ≡ 4 → a ≡ 240 + n / 262144 % 8 → b ≡ 128 + n / 4096 % 64 → d ≡ 128 + n / 64 % 64
    → e ≡ 128 + n % 64 → a ∷ b ∷ d ∷ e ∷ [] ≡ filled n
unfolding four_bytes continuation
filled-four n a b d e l p q r s = rw (encode-four n l, p, q, r, s, div-one)

pub returns-then-length-eq1 : goal.returns-then-length-eq1
returns-then-length-eq1 c =
    let l = c.encoded_length-length in
    answer _ _ _ l.ensures (filled-one _ _ (sym l.ensures ∙ c.if-length-eq1.true) c.byte-only.ensures)

pub returns-then-length-eq2 : goal.returns-then-length-eq2
returns-then-length-eq2 c =
    let l = c.encoded_length-length in
    answer _ _ _ l.ensures (filled-two _ _ _ (sym l.ensures ∙ c.if-length-eq2.true) c.byte-first.ensures c.byte-last.ensures)

pub returns-then-length-eq3 : goal.returns-then-length-eq3
returns-then-length-eq3 c =
    let l = c.encoded_length-length in
    answer _ _ _ l.ensures
    (filled-three _ _ _ _ (sym l.ensures ∙ c.if-length-eq3.true) c.byte-first-then-length-eq3.ensures c.byte-third.ensures c.byte-last.ensures)

-- what is left when a length is neither 1, 2 nor 3
fourth : (n m : ℕ) → m ≡ encoded_length n → (m ≡ 1 → ⊥) → (m ≡ 2 → ⊥) → (m ≡ 3 → ⊥) → encoded_length n ≡ 4
fourth n m e a b d = omega (arith, length-bounds n)

pub returns : goal.returns
returns c =
    let l = c.encoded_length-length in
    let four = fourth _ _ l.ensures c.if-length-eq1.false c.if-length-eq2.false c.if-length-eq3.false in
    answer _ _ _ l.ensures
    (filled-four _ _ _ _ _ four c.byte-first-2.ensures c.byte-second.ensures c.byte-third.ensures c.byte-last.ensures)
