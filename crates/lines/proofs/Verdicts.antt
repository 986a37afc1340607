-- From what the reader answers to what the line says: one argument for every kind of line, over what numbers say and over
-- their limits.
use Rattle.std.proofs.Common.{◌≡◌, ℕ, ◌-◌, List, ◌++◌, Bool, true, false, cond, length, replicate, refl, ap, Ok, Err}
use Rattle.std.specs.Prelude.{IfOk}
use Rattle.lists.specs.Padding.{pad}
use Rattle.decimal.specs.declared.Fault.TheVariants.{Above, Malformed}
use Rattle.lines.specs.Fields.{at_most}
use Rattle.lines.specs.Answers.{slots, Numbers, verdict_on, by_numbers}
use Rattle.lines.proofs.Values.{at_most_padded}

module _ (laid : Bool) (limits ns : List ℕ) (r : Numbers) (e : r ≡ verdict_on laid limits ns) where
  abbrev read : Bool → Bool → Numbers
  read b c = cond b (cond c (Ok (pad slots 0 ns)) (Err Above)) (Err Malformed)

  -- no number that is taken is above its limit
  pub values-at_most : IfOk r (λ values. at_most limits values ≡ true)
  unfolding verdict_on pad
  values-at_most = rw e (go laid (at_most limits ns) refl)
    where
      go : (b c : Bool) → at_most limits ns ≡ c → IfOk (read b c) (λ values. at_most limits values ≡ true)
      go true true q = at_most_padded (slots - length ns) limits ns q
      go true false q = tt
      go false c q = tt

  -- what is answered by the numbers is what the line says, where zeros after its numbers change nothing of that, and a
  -- number above its limit is answered the same by what it says
  pub verdict_says : {A B : Type 0} (say : List ℕ → A) (answer : A → B) (malformed above : B)
      → ((m : ℕ) (ns : List ℕ) → say (ns ++ replicate m 0) ≡ say ns) → (at_most limits ns ≡ false → above ≡ answer (say ns))
      → by_numbers r malformed above (λ values. answer (say values)) ≡ cond laid (answer (say ns)) malformed
  unfolding verdict_on pad
  verdict_says {A} {B} say answer malformed above padded large = rw e (go laid (at_most limits ns) refl)
    where
      go : (b c : Bool) → at_most limits ns ≡ c → by_numbers (read b c) malformed above (λ values. answer (say values)) ≡ cond b (answer (say ns)) malformed
      go true true q = ap answer (padded (slots - length ns) ns)
      go true false q = large q
      go false c q = refl
