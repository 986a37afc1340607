-- `same` is equality of identifiers, and `below` a strict total order of them.
use Prim.Native.Nat.{◌<◌}
use native.Mathlib.Omega.{arith}
use mathlib.Core.Path.{◌≡◌, refl, sym, ◌∙◌, subst}
use mathlib.Core.Bool.{true, false}
use mathlib.Core.Logic.{◌⊎◌, inl, inr, ⊎_elim}
use borrow.Author.Tests.{ltb-true, ltb-false, eqb-true, lt-ltb, eq-eqb}
use lib.Dec.{eqb, ltb}
use Rattle.woot.specs.declared.Identifier.{Identifier}
use Rattle.woot.specs.Identifiers.{same, below}
use Rattle.lists.proofs.Tests.{either, and_left_lem, and_right, and_intro, or_cases, or_left, or_right, or-false-left, or-false-right, or-false, fails, clash}

pub identifier-path : {x y : Identifier} → x.site ≡ y.site → x.clock ≡ y.clock → x ≡ y
identifier-path p q = λ i. record { site = p i; clock = q i }

pub same_refl : (x : Identifier) → same x x ≡ true
unfolding same
same_refl x = rw (eq-eqb x.site x.site refl, eq-eqb x.clock x.clock refl)

pub same-eq : (x y : Identifier) → same x y ≡ true → x ≡ y
unfolding same
same-eq x y h =
    identifier-path (eqb-true _ _ (and_left_lem (eqb x.site y.site) (eqb x.clock y.clock) h))
    (eqb-true _ _ (and_right (eqb x.site y.site) (eqb x.clock y.clock) h))

pub eq-same : {x y : Identifier} → x ≡ y → same x y ≡ true
eq-same {x} {y} e = subst (λ (z : Identifier). same x z ≡ true) e (same_refl x)

pub ne_same : (x y : Identifier) → (x ≡ y → ⊥) → same x y ≡ false
ne_same x y f = fails (same x y) (λ h. f (same-eq x y h))

pub same-ne : (x y : Identifier) → same x y ≡ false → x ≡ y → ⊥
same-ne x y h e = clash (eq-same e) h

pub same_sym : (x y : Identifier) → same x y ≡ same y x
same_sym x y = ⊎_elim (λ h. h ∙ sym (eq-same (sym (same-eq x y h)))) (λ h. h ∙ sym (ne_same y x (λ e. same-ne x y h (sym e)))) (either (same x y))

-- x's site is the lower, or the sites are equal and x's clock is the lower
abbrev Below : Identifier → Identifier → Type 0
Below x y = (x.site < y.site) ⊎ ((x.site ≡ y.site) × (x.clock < y.clock))

below_true : (x y : Identifier) → below x y ≡ true → Below x y
unfolding below
below_true x y h =
    ⊎_elim (λ p. inl (ltb-true _ _ p))
    (λ p. inr (eqb-true _ _ (and_left_lem (eqb x.site y.site) (ltb x.clock y.clock) p), ltb-true _ _ (and_right (eqb x.site y.site) (ltb x.clock y.clock) p)))
    (or_cases (ltb x.site y.site) _ h)

true_below : (x y : Identifier) → Below x y → below x y ≡ true
unfolding below
true_below x y (inl h) = or_left (ltb x.site y.site) _ (lt-ltb _ _ h)
true_below x y (inr h) = or_right (ltb x.site y.site) _ (and_intro (eq-eqb _ _ h.0) (lt-ltb _ _ h.1))

pub below_irrefl : (x : Identifier) → below x x ≡ true → ⊥
below_irrefl x h = ⊎_elim (λ p. omega arith) (λ p. omega arith) (below_true x x h)

pub below-trans : (x y z : Identifier) → below x y ≡ true → below y z ≡ true → below x z ≡ true
below-trans x y z h k = true_below x z (go (below_true x y h) (below_true y z k))
  where
    go : Below x y → Below y z → Below x z
    go (inl p) (inl q) = inl (omega arith)
    go (inl p) (inr q) = inl (omega arith)
    go (inr p) (inl q) = inl (omega arith)
    go (inr p) (inr q) = inr (p.0 ∙ q.0, omega arith)

pub below-asym : (x y : Identifier) → below x y ≡ true → below y x ≡ true → ⊥
below-asym x y h k = below_irrefl x (below-trans x y x h k)

-- of two identifiers that differ, the one that is not below the other is above it
pub below_total : (x y : Identifier) → (x ≡ y → ⊥) → below x y ≡ false → below y x ≡ true
unfolding below
below_total x y d h = true_below y x (go (either (ltb y.site x.site)))
  where
    sites : x.site < y.site → ⊥
    sites p = clash (lt-ltb _ _ p) (or-false-left (ltb x.site y.site) _ h)

    clocks : x.site ≡ y.site → x.clock < y.clock → ⊥
    clocks p q = clash (and_intro (eq-eqb _ _ p) (lt-ltb _ _ q)) (or-false-right (ltb x.site y.site) _ h)

    go : (ltb y.site x.site ≡ true) ⊎ (ltb y.site x.site ≡ false) → Below y x
    go (inl p) = inl (ltb-true _ _ p)
    go (inr p) = inr (level, lower (either (ltb y.clock x.clock)))
      where
        level : y.site ≡ x.site
        level = ⊎_elim (λ a. absurd (sites (ltb-true _ _ a))) (λ a. omega (arith, ltb-false y.site x.site p, ltb-false x.site y.site a)) (either (ltb x.site y.site))

        lower : (ltb y.clock x.clock ≡ true) ⊎ (ltb y.clock x.clock ≡ false) → y.clock < x.clock
        lower (inl q) = ltb-true _ _ q
        lower (inr q) = ⊎_elim (λ a. absurd (clocks (sym level) (ltb-true _ _ a))) (λ a. absurd (d (identifier-path (sym level) (omega (arith, ltb-false y.clock x.clock q, ltb-false x.clock y.clock a))))) (either (ltb x.clock y.clock))
