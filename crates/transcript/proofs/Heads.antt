-- The head of a report line: a number, a tab and a word, put into an array that has room for the longest.
use mathlib.Core.Path.{◌≡◌, ap, ◌∙◌}
use mathlib.Core.List.{List, [], ◌∷◌, ◌++◌}
use Prim.Native.Nat.{ℕ, ◌+◌, ◌^◌, ◌<◌, ◌≤◌}
use native.Mathlib.Omega.{arith}
use lib.ListN.{length, take, drop, length-append}
use lib.Seq.{append_snoc, take-append_seam}
use Rattle.output.specs.Output.{placed, past}
use Rattle.output.proofs.Laws.{placed-room, length-placed}
use Rattle.decimal.specs.Numeral.{digits}
use Rattle.decimal.proofs.Laws.{width-le}
use Rattle.lines.specs.Fields.{tab}
use Rattle.lines.proofs.Rooms.{Run, run_none, run_on}

-- the bytes a are the first `end` of the array
pub record Front (a h : List ℕ) (end : ℕ) : Type 0 where
  pub fits : end ≤ length h
  pub bytes : take end h ≡ a

front : {h₀ a h : List ℕ} {end : ℕ} → length a ≤ length h₀ → Run h₀ 0 a h end → Front a h end
front {h₀} {a} {h} {end} room r =
    let size : end ≡ length a = omega (arith, r.offset) in
    let kept : length h ≡ length h₀ = ap length r.bytes ∙ length-placed h₀ 0 a in
    record {
      fits = omega arith;
      bytes = rw (size, r.bytes, placed-room h₀ 0 a (omega arith)) (take-append_seam a (drop (0 + length a) h₀));
    }

module _ (n : ℕ) (word h₀ : List ℕ) (size : length h₀ ≡ 28) (few : n < 2 ^ 64) (short : length word ≤ 7) where
  pub head-put : {h₁ h₂ h₃ : List ℕ} {e₁ e₂ e₃ : ℕ}
      → e₁ ≡ past h₀ 0 (digits n) → h₁ ≡ placed h₀ 0 (digits n)
      → e₂ ≡ past h₁ e₁ (tab ∷ []) → h₂ ≡ placed h₁ e₁ (tab ∷ [])
      → e₃ ≡ past h₂ e₂ word → h₃ ≡ placed h₂ e₂ word
      → Front (digits n ++ tab ∷ word) h₃ e₃
  head-put p₁ q₁ p₂ q₂ p₃ q₃ =
      let width : length (digits n) ≤ 20 = width-le n few in
      let room₂ : length (digits n ++ (tab ∷ [])) ≡ length (digits n) + 1 = length-append (digits n) (tab ∷ []) in
      let room₃ : length (digits n ++ (tab ∷ []) ++ word) ≡ length (digits n) + 1 + length word = length-append (digits n ++ (tab ∷ [])) word ∙ ap (λ (k : ℕ). k + length word) room₂ in
      let r₁ = run_on (run_none h₀ 0 (omega arith)) (digits n) (omega arith) p₁ q₁ in
      let r₂ = run_on r₁ (tab ∷ []) (omega arith) p₂ q₂ in
      rw (← append_snoc (digits n) tab word) (front (omega arith) (run_on r₂ word (omega arith) p₃ q₃))
