-- Tests on Bools taken apart and put together, and going by a test.
use Prim.Native.Nat.{ℕ, ◌≤◌, ◌<◌}
use mathlib.Core.Path.{◌≡◌, refl, sym, ◌∙◌}
use mathlib.Core.Bool.{Bool, true, false, ◌&&◌, ◌||◌, not, false≢true, true≢false}
use mathlib.Core.Logic.{◌⊎◌, inl, inr, ⊎_elim}
use mathlib.Core.Option.{none, some}
use native.Mathlib.Omega.{arith}
use lib.Dec.{leb}
use borrow.Author.Tests.{leb-true, leb-false, not-true, not-false}

-- the two ways that a test can come out
pub either : (b : Bool) → (b ≡ true) ⊎ (b ≡ false)
either true = inl refl
either false = inr refl

-- an option that is there is no other, and not none
module _ {A : Type 0} where
  pub some-eq : {x y : A} → some x ≡ some y → x ≡ y
  some-eq e = cc

  pub no-some : {x : A} {B : Type 0} → none ≡ some x → B
  no-some e = absurd (let z : ◌≡◌ {A = ℕ} 0 1 = cc in omega arith)

-- two numbers stand one way or the other
pub side : (a b : ℕ) → (a ≤ b) ⊎ (b < a)
side a b = ⊎_elim (λ e. inl (leb-true a b e)) (λ e. inr (leb-false a b e)) (either (leb a b))

pub clash : {b : Bool} {A : Type 0} → b ≡ true → b ≡ false → A
clash {b} p q = absurd (go b p q)
  where
    go : (b : Bool) → b ≡ true → b ≡ false → ⊥
    go true p q = true≢false q
    go false p q = false≢true p

pub and_intro : {a b : Bool} → a ≡ true → b ≡ true → a && b ≡ true
and_intro {a} {b} p q = rw (p, q)

pub and_left_lem : (a b : Bool) → a && b ≡ true → a ≡ true
and_left_lem true b p = refl
and_left_lem false b p = p

pub and_right : (a b : Bool) → a && b ≡ true → b ≡ true
and_right true b p = p
and_right false b p = absurd (false≢true p)

-- a conjunction that fails, with its first part passed, fails in its second
pub and-false : (a b : Bool) → a && b ≡ false → a ≡ true → b ≡ false
and-false true b p q = p
and-false false b p q = absurd (false≢true q)

pub or_cases : (a b : Bool) → a || b ≡ true → (a ≡ true) ⊎ (b ≡ true)
or_cases true b p = inl refl
or_cases false b p = inr p

pub or_left : (a b : Bool) → a ≡ true → a || b ≡ true
or_left a b p = rw p

pub or_right : (a b : Bool) → b ≡ true → a || b ≡ true
or_right true b p = refl
or_right false b p = p

pub or-false-left : (a b : Bool) → a || b ≡ false → a ≡ false
or-false-left true b p = p
or-false-left false b p = refl

pub or-false-right : (a b : Bool) → a || b ≡ false → b ≡ false
or-false-right true b p = absurd (true≢false p)
or-false-right false b p = p

pub or-false : {a b : Bool} → a ≡ false → b ≡ false → a || b ≡ false
or-false {a} {b} p q = rw (p, q)

pub not-intro : {b : Bool} → b ≡ false → not b ≡ true
not-intro {b} p = rw p

-- a test that cannot pass fails
pub fails : (b : Bool) → (b ≡ true → ⊥) → b ≡ false
fails true f = absurd (f refl)
fails false f = refl

-- a test that cannot fail passes
pub passes : (b : Bool) → (b ≡ false → ⊥) → b ≡ true
passes true f = refl
passes false f = absurd (f refl)

-- two tests that imply each other are equal
pub agree : (a b : Bool) → (a ≡ true → b ≡ true) → (b ≡ true → a ≡ true) → a ≡ b
agree true true f g = refl
agree true false f g = sym (f refl)
agree false true f g = g refl
agree false false f g = refl

-- so are two that fail together
pub agree-false : (a b : Bool) → (a ≡ false → b ≡ false) → (b ≡ false → a ≡ false) → a ≡ b
agree-false true true f g = refl
agree-false true false f g = g refl
agree-false false true f g = sym (f refl)
agree-false false false f g = refl

-- conjunctions of three, of four and of seven, taken apart
pub three : (a b c : Bool) → a && b && c ≡ true → (a ≡ true) × (b ≡ true) × (c ≡ true)
three a b c h = (and_left_lem a b (and_left_lem (a && b) c h), and_right a b (and_left_lem (a && b) c h), and_right (a && b) c h)

pub four : (a b c d : Bool) → a && b && c && d ≡ true → (a ≡ true) × (b ≡ true) × (c ≡ true) × (d ≡ true)
four a b c d h =
    let t = three a b c (and_left_lem (a && b && c) d h) in
    (t.0, t.1, t.2, and_right (a && b && c) d h)

pub seven : (a b c d e f g : Bool) → a && b && c && d && e && f && g ≡ true → (a ≡ true) × (b ≡ true) × (c ≡ true) × (d ≡ true) × (e ≡ true) × (f ≡ true) × (g ≡ true)
seven a b c d e f g h =
    let t = four a b c d (and_left_lem (a && b && c && d) e (and_left_lem (a && b && c && d && e) f (and_left_lem (a && b && c && d && e && f) g h))) in
    (t.0, t.1, t.2, t.3, and_right (a && b && c && d) e (and_left_lem (a && b && c && d && e) f (and_left_lem (a && b && c && d && e && f) g h)), and_right (a && b && c && d && e) f (and_left_lem (a && b && c && d && e && f) g h), and_right (a && b && c && d && e && f) g h)

-- what a call's answer, tested, says of the test that it stands for
pub failed : {t u : Bool} → t ≡ u → not t ≡ true → u ≡ false
failed {t} e h = sym e ∙ not-true t h

pub passed : {t u : Bool} → t ≡ u → not t ≡ false → u ≡ true
passed {t} e h = sym e ∙ not-false t h
