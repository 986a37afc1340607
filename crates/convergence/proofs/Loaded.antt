-- Characters are what is left of their inserts and of a toggle for each that has been toggled.
use Prim.Native.Nat.{ℕ}
use native.Mathlib.Omega.{arith}
use mathlib.Core.Path.{◌≡◌, refl, ap, sym, ◌∙◌, subst}
use mathlib.Core.Bool.{Bool, true, false, not, cond}
use mathlib.Core.List.Memᴰ
use mathlib.Core.List.{List, [], ◌∷◌, ◌++◌, Memᴰ}
use lib.Dec.{eqb}
use borrow.Author.Tests.{not-true, eqb-true}
use Rattle.woot.specs.declared.Identifier.{Identifier}
use Rattle.woot.specs.declared.Operation.{Operation}
use Rattle.woot.specs.declared.Operation.TheVariants.{Toggle as toggle}
use Rattle.woot.specs.declared.Character.{Character}
use Rattle.woot.specs.Identifiers.{same}
use Rattle.woot.specs.Placing.{identifiers}
use Rattle.woot.specs.Histories.{largest_in}
use Rattle.bulk.specs.Loading.{arrivals, turnings}
use Rattle.lists.specs.Lists.{any, distinct}
use Rattle.lists.proofs.Tests.{and_left_lem, and_right, or-false-left, or-false-right}
use Rattle.lists.proofs.Members.{any_none}
use Rattle.convergence.specs.Agreement.{Standing}
use Rattle.convergence.proofs.Identifiers.{same_sym, eq-same}
use Rattle.convergence.proofs.Places.{not-held}
use Rattle.convergence.proofs.Faithful.{Faithful}
use Rattle.convergence.proofs.Arrivals.{turn, origin_arrives, arrived_origin, arrivals-count, turnings-count}

largest_arrivals : (x : Identifier) (cs : List Character) (os : List Operation)
    → largest_in x (arrivals cs ++ os) ≡ largest_in x os
largest_arrivals x [] os = refl
largest_arrivals x (c ∷ cs) os = largest_arrivals x cs os

none-turned : (n : ℕ) (x : Identifier) (cs : List Character) → any (same x) (identifiers cs) ≡ false
    → largest_in x (turnings n cs) ≡ 0
unfolding turnings
none-turned n x [] h = refl
none-turned n x (c ∷ cs) h =
    go (eqb c.toggles 0)
    (same_sym c.id x ∙ or-false-left (same x c.id) (any (same x) (identifiers cs)) h)
    (none-turned n x cs (or-false-right (same x c.id) (any (same x) (identifiers cs)) h))
  where
    go : (b : Bool) → same c.id x ≡ false → largest_in x (turnings n cs) ≡ 0
        → largest_in x (cond b (turnings n cs) (toggle (turn n c) ∷ turnings n cs)) ≡ 0
    go true e r = r
    go false e r = rw e r

one-turned : (n : ℕ) (cs : List Character) → distinct same (identifiers cs) ≡ true → {c : Character}
    → Memᴰ c cs → c.toggles ≡ largest_in c.id (turnings n cs)
unfolding turnings
one-turned n [] apart {c = c} m = elim m [ ]
one-turned n (d ∷ cs) apart {c} m =
    go (eqb d.toggles 0) refl m
    (λ k. one-turned n cs
    (and_right (not (any (same d.id) (identifiers cs))) (distinct same (identifiers cs)) apart) k)
  where
    others : any (same d.id) (identifiers cs) ≡ false
    others =
        not-true (any (same d.id) (identifiers cs))
        (and_left_lem (not (any (same d.id) (identifiers cs))) (distinct same (identifiers cs)) apart)

    rest : (c : Character) → c ≡ d → largest_in c.id (turnings n cs) ≡ 0
    rest c e =
        none-turned n c.id cs
        (subst (λ (b : Character). any (same b.id) (identifiers cs) ≡ false) (sym e) others)

    go : (b : Bool) → eqb d.toggles 0 ≡ b → Memᴰ c (d ∷ cs)
        → (Memᴰ c cs → c.toggles ≡ largest_in c.id (turnings n cs))
        → c.toggles ≡ largest_in c.id (cond b (turnings n cs) (toggle (turn n d) ∷ turnings n cs))
    go true e (Memᴰ.head k) r = ap (λ (b : Character). b.toggles) k ∙ eqb-true d.toggles 0 e ∙ sym (rest c k)
    go true e (Memᴰ.tail k) r = r k
    go false e (Memᴰ.head k) r =
        let here : same d.id c.id ≡ true = eq-same (ap (λ (b : Character). b.id) (sym k)) in
        rw here (omega (arith, ap (λ (b : Character). b.toggles) k, rest c k))
    go false e (Memᴰ.tail k) r =
        let other : same d.id c.id ≡ false =
        any_none (same d.id) others (Memᴰ.map (λ (b : Character). b.id) k) in
        rw other (r k)

pub loaded_faithful : (n : ℕ) (cs : List Character) → Standing cs → Faithful cs (arrivals cs ++ turnings n cs)
loaded_faithful n cs s =
    record {
      inserted = λ i. (λ m. Memᴰ.append_left (turnings n cs) (origin_arrives cs i m), arrived_origin n cs i);
      counted = omega (arith, arrivals-count cs (turnings n cs), turnings-count n cs);
      largest = λ c m. one-turned n cs s.apart m ∙ sym (largest_arrivals c.id cs (turnings n cs));
      untoggled = λ x h. largest_arrivals x cs (turnings n cs) ∙ none-turned n x cs (not-held cs x h);
    }
