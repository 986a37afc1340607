-- `saved_lines::character_of` meets its contract: each number fits its field, since its limit does.
use mathlib.Core.Path.{◌≡◌, refl, sym, ap, ◌∙◌, subst}
use mathlib.Core.List.{List}
use mathlib.Core.Bool.{true}
use Prim.Native.Nat.{ℕ, ◌+◌, ◌%◌, ◌<◌, ◌≤◌}
use native.Mathlib.Omega.{arith}
use lib.ListN.{length, drop, get_or}
use lib.Seq.{get_or-drop}
use Rattle.woot.specs.declared.Identifier.{Identifier}
use Rattle.codec.specs.Operations.{identifier_at}
use Rattle.codec.proofs.Fitting.{fits_whole}
use Rattle.lines.specs.Fields.{at_most}
use Rattle.lines.proofs.Values.{at_most_at}
use Rattle.saved.specs.Format.{character_limits, character_of, toggle_field}
use Rattle.saved.proofs.Bounds.{toggle_field-kept, last_fits}
use Rattle.saved_lines.proofs.character_of.Goals as goal

-- the numbers from one on, and their limits
module _ (from : ℕ) (ns : List ℕ) where
  at : (k : ℕ) → get_or ns (from + k) 0 ≡ get_or (drop from ns) k 0
  at k = sym (get_or-drop from ns k 0)

  bound : (ls : List ℕ) → at_most ls (drop from ns) ≡ true → (k : ℕ) → k < length ls → get_or ns (from + k) 0 ≤ get_or ls k 0
  bound ls e k h = subst (λ (n : ℕ). n ≤ get_or ls k 0) (sym (at k)) (at_most_at ls (drop from ns) e k h)

  whole : {x : Identifier} (k i : ℕ) → i ≡ from + k → get_or ns (from + k) 0 ≤ 16 → get_or ns (from + (k + 1)) 0 ≤ 65535
      → x ≡ record { site = get_or ns i 0 % 256; clock = get_or ns (from + (k + 1)) 0 % 65536 } → x ≡ identifier_at k (drop from ns)
  unfolding identifier_at
  whole k i s p q e =
      fits_whole (e ∙ (λ j. record { site = get_or ns (s j) 0 % 256; clock = get_or ns (from + (k + 1)) 0 % 65536 })) (omega (arith, p)) (omega (arith, q))
      ∙ (λ j. record { site = at k j; clock = at (k + 1) j })

pub overflow_cast-result : goal.overflow_cast-result
overflow_cast-result c =
    let a = c.args in
    omega (arith, bound a.from a.values (character_limits a.version) c.requires.values_value 2 (omega arith))

pub overflow_cast-result-2 : goal.overflow_cast-result-2
overflow_cast-result-2 c =
    let a = c.args in
    let b = bound a.from a.values (character_limits a.version) c.requires.values_value 3 (omega arith) in
    omega (arith, c.toggle_field.ensures, toggle_field-kept a.version _ b, last_fits a.version)

pub returns : goal.returns
unfolding character_of
returns c =
    let a = c.args in
    let b = bound a.from a.values (character_limits a.version) c.requires.values_value in
    let n = at a.from a.values in
    λ j. record {
      id = whole a.from a.values 0 _ (omega arith) (b 0 (omega arith)) (b 1 (omega arith)) c.identifier.ensures j;
      code_point = n 2 j;
      toggles = (c.toggle_field.ensures ∙ ap (toggle_field a.version) (n 3)) j;
      previous = whole a.from a.values 4 _ refl (b 4 (omega arith)) (b 5 (omega arith)) c.identifier-2.ensures j;
      next = whole a.from a.values 6 _ refl (b 6 (omega arith)) (b 7 (omega arith)) c.identifier-3.ensures j;
    }
