-- The laws of numbers as text. All go by the last digit: of a number of more than one, the digits before it are those of its tenth.
use mathlib.Core.Path.{◌≡◌, refl, sym, ap, ◌∙◌}
use mathlib.Core.Logic.{◌⊎◌, inl, inr, ◌↔◌}
use mathlib.Core.List.{List, [], ◌∷◌, ◌++◌, append-nil}
use mathlib.Core.Bool.{Bool, true, false, not, ◌&&◌}
use Prim.Native.Nat.{ℕ, zero, suc, ◌+◌, ◌-◌, ◌*◌, ◌/◌, ◌%◌, ◌^◌, ◌≤◌, ◌<◌}
use native.Mathlib.Nat.{one-le-pow, le_refl, pow-suc, lt_of_le_of_lt}
use native.Mathlib.Omega.{arith}
use lib.ListN.{length, take, get_or, length-append, get_or-append}
use lib.Seq.{append_snoc}
use lib.Dec.{leb, ltb, eqb}
use borrow.Author.Tests.{lt-ltb, le-ltb, ltb-true, ltb-false, le-leb, leb-true, leb-false, ne_eqb, eqb-false, not-true}
use Rattle.std.specs.Prelude.{Ok, Err}
use Rattle.decimal.specs.declared.Fault.TheVariants.{Above, Malformed}
use Rattle.decimal.specs.Numeral.{is_digit, all_digits, leading_zero, is_numeral, value_from, value_of, digits_in, digits}
use Rattle.decimal.specs.Answers.{field_of}
use Rattle.decimal.specs.Theorems.{DigitsAreNumeral, DigitsReadBack, FieldReadsBack, NumeralWritesBack, FieldWritesBack, WidthByPower, WidthMonotone, DigitBytes}

-- ---- the digits, by the last

-- a number has one digit or more
one-or-more : (n : ℕ) → (n < 10) ⊎ (10 ≤ n)
one-or-more n = go (ltb n 10) refl
  where
    go : (b : Bool) → ltb n 10 ≡ b → (n < 10) ⊎ (10 ≤ n)
    go true e = inl (ltb-true n 10 e)
    go false e = inr (ltb-false n 10 e)

-- with room for all of them, more room gives no other digits
enough : (f g n : ℕ) → n < f → n < g → digits_in f n ≡ digits_in g n
unfolding digits_in
enough zero g n h k = absurd (omega arith)
enough (suc f) zero n h k = absurd (omega arith)
enough (suc f) (suc g) n h k = go (enough f g (n / 10)) (one-or-more n)
  where
    go : (n / 10 < f → n / 10 < g → digits_in f (n / 10) ≡ digits_in g (n / 10)) → (n < 10) ⊎ (10 ≤ n) → digits_in (suc f) n ≡ digits_in (suc g) n
    go rest (inl l) = rw (lt-ltb n 10 l)
    go rest (inr l) = rw (le-ltb n 10 l, rest (omega arith) (omega arith))

pub digits-one : (n : ℕ) → n < 10 → digits n ≡ (48 + n) ∷ []
unfolding digits digits_in
digits-one n h = let low : n % 10 ≡ n = omega arith in rw (lt-ltb n 10 h, low)

pub digits_more : (n : ℕ) → 10 ≤ n → digits n ≡ digits (n / 10) ++ ((48 + n % 10) ∷ [])
unfolding digits digits_in
digits_more n h = rw (le-ltb n 10 h, enough n (suc (n / 10)) (n / 10) (omega arith) (omega arith))

-- induction by the last digit
by_tenth : (P : ℕ → Type 0) → ((n : ℕ) → n < 10 → P n) → ((n : ℕ) → 10 ≤ n → P (n / 10) → P n) → (n : ℕ) → P n
by_tenth P one more n = go (suc n) n (omega arith)
  where
    pick : (m : ℕ) → (10 ≤ m → P (m / 10)) → (m < 10) ⊎ (10 ≤ m) → P m
    pick m rest (inl l) = one m l
    pick m rest (inr l) = more m l (rest l)

    go : (f m : ℕ) → m < f → P m
    go zero m h = absurd (omega arith)
    go (suc f) m h = pick m (λ l. go f (m / 10) (omega arith)) (one-or-more m)

-- ---- the layout

both : (a b : Bool) → a && b ≡ true → (a ≡ true) × (b ≡ true)
both true b e = (refl, e)
both false b e = (e, cc)

pub digit-range : (b : ℕ) → is_digit b ≡ true → (48 ≤ b) × (b ≤ 57)
unfolding is_digit
digit-range b e = let p = both (leb 48 b) (leb b 57) e in (leb-true 48 b p.0, leb-true b 57 p.1)

digit-of : (n : ℕ) → n < 10 → is_digit (48 + n) ≡ true
unfolding is_digit
digit-of n h = rw (le-leb 48 (48 + n) (omega arith), le-leb (48 + n) 57 (omega arith))

all_snoc : (s : List ℕ) (b : ℕ) → all_digits s ≡ true → is_digit b ≡ true → all_digits (s ++ (b ∷ [])) ≡ true
all_snoc [] b e d = rw d
all_snoc (x ∷ s) b e d = let p = both (is_digit x) (all_digits s) e in rw (p.0, all_snoc s b p.1 d)

all-at : (s : List ℕ) (i : ℕ) → all_digits s ≡ true → i < length s → is_digit (get_or s i 0) ≡ true
all-at [] i e h = absurd (omega arith)
all-at (x ∷ s) zero e h = (both (is_digit x) (all_digits s) e).0
all-at (x ∷ s) (suc i) e h = all-at s i (both (is_digit x) (all_digits s) e).1 (omega arith)

pub all_digits_lem : (n : ℕ) → all_digits (digits n) ≡ true
all_digits_lem =
    by_tenth (λ n. all_digits (digits n) ≡ true)
    (λ n h. rw (digits-one n h, digit-of n h))
    (λ n h t. rw (digits_more n h) (all_snoc (digits (n / 10)) (48 + n % 10) t (digit-of (n % 10) (omega arith))))

pub width-more : (n : ℕ) → 10 ≤ n → length (digits n) ≡ length (digits (n / 10)) + 1
width-more n h = rw (digits_more n h) (length-append (digits (n / 10)) ((48 + n % 10) ∷ []))

pub one-le-width : (n : ℕ) → 1 ≤ length (digits n)
one-le-width =
    by_tenth (λ n. 1 ≤ length (digits n)) (λ n h. rw (digits-one n h) (omega arith)) (λ n h t. omega (arith, width-more n h))

first-digit : (n : ℕ) → 1 ≤ n → 49 ≤ get_or (digits n) 0 0
first-digit =
    by_tenth (λ n. 1 ≤ n → 49 ≤ get_or (digits n) 0 0)
    (λ n h p. rw (digits-one n h) (omega arith))
    (λ n h t p. rw (digits_more n h, get_or-append (digits (n / 10)) ((48 + n % 10) ∷ []) 0 0 (one-le-width (n / 10))) (t (omega arith)))

no-leading-zero : (n : ℕ) → leading_zero (digits n) ≡ false
unfolding leading_zero
no-leading-zero n = go (one-or-more n)
  where
    go : (n < 10) ⊎ (10 ≤ n) → leading_zero (digits n) ≡ false
    go (inl h) = rw (digits-one n h)
    go (inr h) =
        let two : 1 < length (digits n) = omega (arith, width-more n h, one-le-width (n / 10)) in
        let first : 49 ≤ get_or (digits n) 0 0 = first-digit n (omega arith) in
        rw (lt-ltb 1 (length (digits n)) two, ne_eqb (get_or (digits n) 0 0) 48 (λ e. omega arith))

pub digits-are_numeral : DigitsAreNumeral
unfolding is_numeral
digits-are_numeral n = rw (lt-ltb 0 (length (digits n)) (one-le-width n), no-leading-zero n, all_digits_lem n)

-- of whatever has the layout each byte is a digit
pub numeral_digits : (s : List ℕ) → is_numeral s ≡ true → all_digits s ≡ true
unfolding is_numeral
numeral_digits s e = (both (ltb 0 (length s) && not (leading_zero s)) (all_digits s) e).1

pub numeral_bytes : (s : List ℕ) (i : ℕ) → is_numeral s ≡ true → i < length s → (48 ≤ get_or s i 0) × (get_or s i 0 ≤ 57)
numeral_bytes s i e h = digit-range (get_or s i 0) (all-at s i (numeral_digits s e) h)

pub digit-bytes : DigitBytes
digit-bytes n i h = numeral_bytes (digits n) i (digits-are_numeral n) h

-- ---- the value

pub value-snoc : (v : ℕ) (s : List ℕ) (b : ℕ) → value_from v (s ++ (b ∷ [])) ≡ value_from v s * 10 + (b - 48)
value-snoc v [] b = refl
value-snoc v (x ∷ s) b = value-snoc (v * 10 + (x - 48)) s b

-- more digits make no smaller number
grows : (v : ℕ) (s : List ℕ) → v ≤ value_from v s
grows v [] = omega arith
grows v (b ∷ s) = omega (arith, grows (v * 10 + (b - 48)) s)

front-le : (v : ℕ) (s : List ℕ) (i : ℕ) → value_from v (take i s) ≤ value_from v s
front-le v s zero = grows v s
front-le v [] (suc i) = omega arith
front-le v (b ∷ s) (suc i) = front-le (v * 10 + (b - 48)) s i

pub value-front : (s : List ℕ) (i : ℕ) → value_of (take i s) ≤ value_of s
unfolding value_of
value-front s i = front-le 0 s i

pub digits-read-back : DigitsReadBack
unfolding value_of
digits-read-back =
    by_tenth (λ n. value_of (digits n) ≡ n)
    (λ n h. rw (digits-one n h) (omega arith))
    (λ n h t. rw (digits_more n h, value-snoc 0 (digits (n / 10)) (48 + n % 10), t) (omega arith))

-- digits that follow a number other than 0 follow its digits
extend : (v : ℕ) (s : List ℕ) → 1 ≤ v → all_digits s ≡ true → digits (value_from v s) ≡ digits v ++ s
extend v [] h e = sym (append-nil (digits v))
extend v (b ∷ s) h e =
    let p : (is_digit b ≡ true) × (all_digits s ≡ true) = both (is_digit b) (all_digits s) e in
    let r : (48 ≤ b) × (b ≤ 57) = digit-range b p.0 in
    let w : ℕ = v * 10 + (b - 48) in
    let above : w / 10 ≡ v = omega arith in
    let last : 48 + w % 10 ≡ b = omega arith in
    let next : digits w ≡ digits v ++ (b ∷ []) = digits_more w (omega arith) ∙ rw (above, last) in
    extend w s (omega arith) p.1 ∙ rw next (append_snoc (digits v) b s)

written : (b : ℕ) → is_digit b ≡ true → digits (0 * 10 + (b - 48)) ≡ b ∷ []
written b e =
    let r : (48 ≤ b) × (b ≤ 57) = digit-range b e in
    let back : 48 + (0 * 10 + (b - 48)) ≡ b = omega arith in
    digits-one (0 * 10 + (b - 48)) (omega arith) ∙ rw back

pub numeral_writes-back : NumeralWritesBack
unfolding is_numeral leading_zero value_of
numeral_writes-back [] e = cc
numeral_writes-back (b ∷ []) e = written b (both (is_digit b) true e).0
numeral_writes-back (b ∷ d ∷ s) e =
    let p : (not (eqb b 48) ≡ true) × (all_digits (b ∷ d ∷ s) ≡ true) =
    both (not (eqb b 48)) (all_digits (b ∷ d ∷ s)) (rw (lt-ltb 0 (suc (suc (length s))) (omega arith), lt-ltb 1 (suc (suc (length s))) (omega arith)) at e) in
    let q : (is_digit b ≡ true) × (all_digits (d ∷ s) ≡ true) = both (is_digit b) (all_digits (d ∷ s)) p.1 in
    let r : (48 ≤ b) × (b ≤ 57) = digit-range b q.0 in
    let other : b ≡ 48 → ⊥ = eqb-false b 48 (not-true (eqb b 48) p.0) in
    extend (0 * 10 + (b - 48)) (d ∷ s) (omega arith) q.1 ∙ ap (λ (l : List ℕ). l ++ d ∷ s) (written b q.0)

-- ---- the width

power_more : (n : ℕ) → 10 ≤ n → ((j : ℕ) → (length (digits (n / 10)) ≤ suc j) ↔ (n / 10 < 10 ^ suc j))
    → (j : ℕ) → (length (digits n) ≤ suc j) ↔ (n < 10 ^ suc j)
power_more n h t zero = omega (arith, width-more n h, one-le-width (n / 10))
power_more n h t (suc j) = (
  λ l. let k : n / 10 < 10 ^ suc j = (t j).0 (omega (arith, width-more n h)) in omega (arith, pow-suc 10 (suc j)),
  λ l. let k : length (digits (n / 10)) ≤ suc j = (t j).1 (omega (arith, pow-suc 10 (suc j))) in omega (arith, width-more n h),
)

pub width-by_power : WidthByPower
width-by_power n zero h = absurd (omega arith)
width-by_power n (suc j) h =
    by_tenth (λ m. (i : ℕ) → (length (digits m) ≤ suc i) ↔ (m < 10 ^ suc i))
    (λ m l i. rw (digits-one m l) (omega (arith, one-le-pow i 10 (omega arith), pow-suc 10 i)))
    power_more
    n
    j

pub width-monotone : WidthMonotone
width-monotone m n h =
    let k = length (digits n) in
    (width-by_power m k (one-le-width n)).1 (lt_of_le_of_lt h ((width-by_power n k (one-le-width n)).0 (le_refl k)))

-- a number of 64 bits has at most 20
pub width-le : (n : ℕ) → n < 2 ^ 64 → length (digits n) ≤ 20
width-le n h = (width-by_power n 20 (omega arith)).1 (omega arith)

-- ---- a field

pub field-reads-back : FieldReadsBack
unfolding field_of
field-reads-back n limit = rw (digits-are_numeral n, digits-read-back n)

-- two answers that are not one
clash : {A : Type 0} → ◌≡◌ {A = ℕ} 0 1 → A
clash e = absurd (omega arith)

-- what an answer tells of the bytes
pub field-number : (s : List ℕ) (n limit : ℕ) → field_of s limit ≡ Ok n → (is_numeral s ≡ true) × (n ≡ value_of s) × (n ≤ limit)
unfolding field_of
field-number s n limit e = go (is_numeral s) (leb (value_of s) limit) refl refl
  where
    go : (b c : Bool) → is_numeral s ≡ b → leb (value_of s) limit ≡ c → (is_numeral s ≡ true) × (n ≡ value_of s) × (n ≤ limit)
    go true true p l = let q : Ok (value_of s) ≡ Ok n = rw (p, l) at e in
        let v : n ≡ value_of s = cc in (p, v, omega (arith, leb-true (value_of s) limit l))
    go true false p l = let q : (Err Above) ≡ Ok n = rw (p, l) at e in clash cc
    go false c p l = let q : (Err Malformed) ≡ Ok n = rw p at e in clash cc

pub field-above : (s : List ℕ) (limit : ℕ) → field_of s limit ≡ (Err Above) → (is_numeral s ≡ true) × (limit < value_of s)
unfolding field_of
field-above s limit e = go (is_numeral s) (leb (value_of s) limit) refl refl
  where
    go : (b c : Bool) → is_numeral s ≡ b → leb (value_of s) limit ≡ c → (is_numeral s ≡ true) × (limit < value_of s)
    go true true p l = let q : Ok (value_of s) ≡ (Err Above) = rw (p, l) at e in clash cc
    go true false p l = (p, leb-false (value_of s) limit l)
    go false c p l = let q : (Err Malformed) ≡ (Err Above) = rw p at e in clash cc

pub field-malformed : (s : List ℕ) (limit : ℕ) → field_of s limit ≡ (Err Malformed) → is_numeral s ≡ false
unfolding field_of
field-malformed s limit e = go (is_numeral s) (leb (value_of s) limit) refl refl
  where
    go : (b c : Bool) → is_numeral s ≡ b → leb (value_of s) limit ≡ c → is_numeral s ≡ false
    go true true p l = let q : Ok (value_of s) ≡ (Err Malformed) = rw (p, l) at e in cc
    go true false p l = let q : (Err Above) ≡ (Err Malformed) = rw (p, l) at e in cc
    go false c p l = p

pub field-writes-back : FieldWritesBack
field-writes-back s n limit e =
    let f : (is_numeral s ≡ true) × (n ≡ value_of s) × (n ≤ limit) = field-number s n limit e in
    rw f.1 (numeral_writes-back s f.0)
