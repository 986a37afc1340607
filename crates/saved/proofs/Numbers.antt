-- What a writer answers, by number: that of a condition where its test fails and none before it does, and 12 or the length where
-- every test passes.
use Rattle.std.proofs.Common.{Err}
use Prim.Native.Nat.{ℕ, ◌≤◌, ◌<◌}
use native.Mathlib.Omega.{arith}
use mathlib.Core.Path.{◌≡◌, refl, sym, ap, ◌∙◌}
use mathlib.Core.Bool.{Bool, true, false, not, true≢false, false≢true}
use mathlib.Core.Logic.{◌↔◌, ◌⊎◌, inl, inr}
use mathlib.Core.List.{List, [], ◌∷◌}
use lib.ListN.{length}
use Rattle.lists.proofs.Tests.{side}
use Rattle.answers.specs.declared.Refusal.{Refusal}
use Rattle.answers.specs.declared.Refusal.TheVariants.{Output}
use Rattle.answers.specs.Answers.{number, rank, Check, ◌⇒◌, decided}
use Rattle.woot.specs.Writing.{Written}
use Rattle.woot.specs.Writing.{refusing, writing_checks, written_as, written_number, written_length}
use Rattle.convergence.proofs.Replies.{numbers_differ, positive}
use Rattle.convergence.proofs.Writing.{too_short, has_room_lem}

-- refusals one after the other in the checking order have different numbers
apart : (p q : Refusal) → rank p < rank q → number p ≡ number q → ⊥
apart p q h e = omega (arith, h, ap rank (numbers_differ p q e))

-- conditions that were met one by one, side by side
module _ {X A B C : Type 0} where
  flat-three : (X ↔ (A × (B × C))) → X ↔ (A × B × C)
  flat-three e = (λ x. let p = e.0 x in (p.0, p.1.0, p.1.1), λ p. e.1 (p.0, (p.1, p.2)))

  flat-four : {D : Type 0} → (X ↔ (A × (B × (C × D)))) → X ↔ (A × B × C × D)
  flat-four e = (λ x. let p = e.0 x in (p.0, p.1.0, p.1.1.0, p.1.1.1), λ p. e.1 (p.0, (p.1, (p.2, p.3))))

  all-four : {D P : Type 0} → (X ↔ (A × (B × (C × (D × P))))) → X ↔ ((A × B × C × D) × P)
  all-four e = (
    λ x. let p = e.0 x in ((p.0, p.1.0, p.1.1.0, p.1.1.1.0), p.1.1.1.1),
    λ p. e.1 (p.0.0, (p.0.1, (p.0.2, (p.0.3, p.1)))),
  )

module _ (bytes out : List ℕ) where
  abbrev answered : List (Check Refusal) → Written
  answered rs = written_as (refusing rs) bytes out

  -- a condition in front of others: what they answer is answered where its test passes
  module _ (q : Refusal) (rs : List (Check Refusal)) where
    goes_on_lem : (view : Written → ℕ) (n : ℕ) → (view (Err q) ≡ n → ⊥) → {P : Type 0} → ((view (answered rs) ≡ n) ↔ P) → (a : Bool)
        → (view (answered ((not a ⇒ q) ∷ rs)) ≡ n) ↔ ((a ≡ true) × P)
    unfolding written_as writing_checks decided
    goes_on_lem view n other e true = (λ k. (refl, e.0 k), λ p. e.1 p.1)
    goes_on_lem view n other e false = (λ k. absurd (other k), λ p. absurd (false≢true p.0))

    past : (p : Refusal) → rank q < rank p → {P : Type 0} → ((written_number (answered rs) ≡ number p) ↔ P) → (a : Bool)
        → (written_number (answered ((not a ⇒ q) ∷ rs)) ≡ number p) ↔ ((a ≡ true) × P)
    unfolding written_number
    past p r e a = goes_on_lem written_number (number p) (apart q p r) e a

    -- and its own refusal where it fails
    stops : (written_number (answered rs) ≡ number q → ⊥) → (a : Bool) → (written_number (answered ((not a ⇒ q) ∷ rs)) ≡ number q) ↔ (a ≡ false)
    unfolding written_as writing_checks decided written_number
    stops never true = (λ k. absurd (never k), λ p. absurd (true≢false p))
    stops never false = (λ k. refl, λ p. refl)

  -- a refusal before all of theirs, and before 12, is not answered
  abbrev Later : Refusal → List (Check Refusal) → Type 0
  Later q [] = rank q < rank Output
  Later q (c ∷ rs) = (rank q < rank c.answer) × Later q rs

  silent : (q : Refusal) (rs : List (Check Refusal)) → Later q rs → written_number (answered rs) ≡ number q → ⊥
  unfolding written_as writing_checks decided written_number
  silent q [] h k = go (side (length bytes) (length out))
    where
      go : (length bytes ≤ length out) ⊎ (length out < length bytes) → ⊥
      go (inl l) = positive q (sym (ap written_number (has_room_lem [] bytes out refl l).0) ∙ k)
      go (inr l) = apart q Output h (sym k ∙ ap written_number (too_short [] bytes out refl l).0)
  silent q (c ∷ rs) h k = go c.holds refl (silent q rs h.1)
    where
      go : (b : Bool) → c.holds ≡ b → (written_number (answered rs) ≡ number q → ⊥) → ⊥
      go true e none = apart q c.answer h.0 (sym (rw e at k))
      go false e none = none (rw e at k)

  -- with no condition left the room decides
  module _ (long : 1 ≤ length bytes) where
    abbrev ByRoom : Type 0
    ByRoom =
        ((written_number (answered []) ≡ 12) ↔ (length out < length bytes))
        × ((written_number (answered []) ≡ 0) ↔ (length bytes ≤ length out))
        × ((written_length (answered []) ≡ length bytes) ↔ (length bytes ≤ length out))

    by-room : ByRoom
    unfolding written_number written_length
    by-room = go (side (length bytes) (length out))
      where
        go : (length bytes ≤ length out) ⊎ (length out < length bytes) → ByRoom
        go (inl h) =
            let e = (has_room_lem [] bytes out refl h).0 in
            let n : written_number (answered []) ≡ 0 = ap written_number e in (
              (λ k. absurd (omega arith), λ p. absurd (omega (arith, p))),
              (λ k. h, λ p. n),
              (λ k. h, λ p. ap written_length e),
            )
        go (inr h) =
            let e = (too_short [] bytes out refl h).0 in
            let n : written_number (answered []) ≡ 12 = ap written_number e in
            let l : written_length (answered []) ≡ 0 = ap written_length e in (
              (λ k. h, λ p. n),
              (λ k. absurd (omega arith), λ p. absurd (omega (arith, p))),
              (λ k. absurd (omega arith), λ p. absurd (omega (arith, p))),
            )

    -- four conditions in the checking order, each by a test that fails where it holds
    module _ (q₁ q₂ q₃ q₄ : Refusal) (r₁ : rank q₁ < rank q₂) (r₂ : rank q₂ < rank q₃) (r₃ : rank q₃ < rank q₄) (r₄ : rank q₄ < rank Output)
        (a b c d : Bool) where
      abbrev fourth : List (Check Refusal)
      fourth = (not d ⇒ q₄) ∷ []

      abbrev third : List (Check Refusal)
      third = (not c ⇒ q₃) ∷ fourth

      abbrev second : List (Check Refusal)
      second = (not b ⇒ q₂) ∷ third

      abbrev four : List (Check Refusal)
      four = (not a ⇒ q₁) ∷ second

      abbrev All : Type 0
      All = (a ≡ true) × (b ≡ true) × (c ≡ true) × (d ≡ true)

      through : (view : Written → ℕ) (n : ℕ) → ((q : Refusal) → rank q < rank Output → view (Err q) ≡ n → ⊥) → {P : Type 0}
          → ((view (answered []) ≡ n) ↔ P) → (view (answered four) ≡ n) ↔ (All × P)
      through view n never e =
          all-four
          (goes_on_lem q₁ second view n (never q₁ (omega (arith, r₁, r₂, r₃, r₄)))
          (goes_on_lem q₂ third view n (never q₂ (omega (arith, r₂, r₃, r₄)))
          (goes_on_lem q₃ fourth view n (never q₃ (omega (arith, r₃, r₄))) (goes_on_lem q₄ [] view n (never q₄ r₄) e d) c) b) a)

      pub by-four :
          ((written_number (answered four) ≡ number q₁) ↔ (a ≡ false))
          × ((written_number (answered four) ≡ number q₂) ↔ ((a ≡ true) × (b ≡ false)))
          × ((written_number (answered four) ≡ number q₃) ↔ ((a ≡ true) × (b ≡ true) × (c ≡ false)))
          × ((written_number (answered four) ≡ number q₄) ↔ ((a ≡ true) × (b ≡ true) × (c ≡ true) × (d ≡ false)))
          × ((written_number (answered four) ≡ 12) ↔ (All × (length out < length bytes)))
          × ((written_number (answered four) ≡ 0) ↔ (All × (length bytes ≤ length out)))
          × ((written_length (answered four) ≡ length bytes) ↔ (All × (length bytes ≤ length out)))
      unfolding written_number written_length
      by-four =
          let at₂ = stops q₂ third (silent q₂ third (r₂, (omega (arith, r₂, r₃), omega (arith, r₂, r₃, r₄)))) b in
          let at₃ = stops q₃ fourth (silent q₃ fourth (r₃, omega (arith, r₃, r₄))) c in
          let at₄ = stops q₄ [] (silent q₄ [] r₄) d in (
            stops q₁ second (silent q₁ second (r₁, (omega (arith, r₁, r₂), (omega (arith, r₁, r₂, r₃), omega (arith, r₁, r₂, r₃, r₄))))) a,
            past q₁ second q₂ r₁ at₂ a,
            flat-three (past q₁ second q₃ (omega (arith, r₁, r₂)) (past q₂ third q₃ r₂ at₃ b) a),
            flat-four (past q₁ second q₄ (omega (arith, r₁, r₂, r₃)) (past q₂ third q₄ (omega (arith, r₂, r₃)) (past q₃ fourth q₄ r₃ at₄ c) b) a),
            through written_number 12 (λ q r. apart q Output r) by-room.0,
            through written_number 0 (λ q r k. positive q (sym k)) by-room.1,
            through written_length (length bytes) (λ q r k. omega (arith, long)) by-room.2,
          )
