-- Draining as a relation: each step takes the earliest executable operation out and carries it out or discards it, and
-- the fuel is always enough. What holds of a drained list is proved by induction on that relation.
use Prim.Native.Nat.{ℕ, zero, suc, ◌≤◌}
use native.Mathlib.Omega.{arith}
use mathlib.Core.Path.{◌≡◌, refl, sym, subst}
use mathlib.Core.Bool.{Bool, true, false, ◌||◌, cond}
use mathlib.Core.Option.{Option, none, some}
use mathlib.Core.Logic.{◌⊎◌}
use mathlib.Core.List.{List, [], ◌∷◌}
use lib.ListN.{length}
use Rattle.woot.specs.declared.Operation.{Operation}
use Rattle.woot.specs.declared.Character.{Character}
use Rattle.woot.specs.Pending.{executable, crossed, unplaceable, integrate, Extracted, earliest, Drained, and_integrated, and_discarded, drained, drain_steps, drain}
use Rattle.convergence.specs.Theorems.{drain_next, DrainingRecurs}
use Rattle.lists.specs.Lists.{any}
use Rattle.lists.proofs.Tests.{some-eq, no-some, or_cases, or-false-left, or-false-right, or-false}
use Rattle.convergence.proofs.Extract.{Extract, front, past, extract_length}

-- what the earliest is: it passes the test and was taken out of the list
pub record Found (p : Operation → Bool) (ps : List Operation) (t : Extracted) : Type 0 where
  pub passed : p t.operation ≡ true
  pub extracted : Extract t.operation t.others ps

pub earliest-found : (p : Operation → Bool) (ps : List Operation) (t : Extracted) → earliest p ps ≡ some t → Found p ps t
unfolding earliest
earliest-found p [] t h = no-some h
earliest-found p (o ∷ ps) t h = go (p o) refl (earliest p ps) refl (earliest-found p ps)
  where
    go : (b : Bool) → p o ≡ b → (m : Option Extracted) → earliest p ps ≡ m → ((u : Extracted) → earliest p ps ≡ some u → Found p ps u) → Found p (o ∷ ps) t
    go true e m f rest = subst (λ (u : Extracted). Found p (o ∷ ps) u) (some-eq (rw e at h)) (record { passed = e; extracted = front })
    go false e none f rest = no-some (rw (e, f) at h)
    go false e (some u) f rest =
        subst (λ (u : Extracted). Found p (o ∷ ps) u) (some-eq (rw (e, f) at h)) (record { passed = (rest u f).passed; extracted = past (rest u f).extracted })

pub earliest-none : (p : Operation → Bool) (ps : List Operation) → earliest p ps ≡ none → any p ps ≡ false
unfolding earliest
earliest-none p [] h = refl
earliest-none p (o ∷ ps) h = go (p o) refl (earliest p ps) refl (earliest-none p ps)
  where
    go : (b : Bool) → p o ≡ b → (m : Option Extracted) → earliest p ps ≡ m → (earliest p ps ≡ none → any p ps ≡ false) → any p (o ∷ ps) ≡ false
    go true e m f rest = no-some (sym (rw e at h))
    go false e none f rest = or-false e (rest f)
    go false e (some u) f rest = no-some (sym (rw (e, f) at h))

-- one run of draining, step by step
pub data Draining : List Character → List Operation → Drained → Type 0 where
  stop : {cs : List Character} {ps : List Operation} → any (executable cs) ps ≡ false → Draining cs ps (drained cs ps)
  discard : {cs : List Character} {ps : List Operation} {d : Drained} (t : Extracted) → Found (executable cs) ps t → (crossed cs t.operation ≡ true) ⊎ (unplaceable cs t.operation ≡ true) → Draining cs t.others d → Draining cs ps (and_discarded t.operation d)
  carry : {cs : List Character} {ps : List Operation} {d : Drained} (t : Extracted) → Found (executable cs) ps t → crossed cs t.operation ≡ false → unplaceable cs t.operation ≡ false → Draining (integrate cs t.operation) t.others d → Draining cs ps (and_integrated t.operation d)

draining_steps : (n : ℕ) (cs : List Character) (ps : List Operation) → length ps ≤ n → Draining cs ps (drain_steps n cs ps)
unfolding drain_steps
draining_steps zero cs [] h = stop refl
draining_steps zero cs (o ∷ ps) h = absurd (omega arith)
draining_steps (suc n) cs ps h = go (earliest (executable cs) ps) refl (draining_steps n)
  where
    on : (t : Extracted) → Found (executable cs) ps t → ((cs : List Character) (ps : List Operation) → length ps ≤ n → Draining cs ps (drain_steps n cs ps)) → (b : Bool) → crossed cs t.operation || unplaceable cs t.operation ≡ b → Draining cs ps (cond b (and_discarded t.operation (drain_steps n cs t.others)) (and_integrated t.operation (drain_steps n (integrate cs t.operation) t.others)))
    on t f rest true e = discard t f (or_cases (crossed cs t.operation) (unplaceable cs t.operation) e) (rest cs t.others (omega (arith, extract_length f.extracted)))
    on t f rest false e = carry t f (or-false-left (crossed cs t.operation) (unplaceable cs t.operation) e) (or-false-right (crossed cs t.operation) (unplaceable cs t.operation) e) (rest (integrate cs t.operation) t.others (omega (arith, extract_length f.extracted)))

    go : (m : Option Extracted) → earliest (executable cs) ps ≡ m → ((cs : List Character) (ps : List Operation) → length ps ≤ n → Draining cs ps (drain_steps n cs ps)) → Draining cs ps (drain_steps (suc n) cs ps)
    go none e rest = rw (e, drain_steps) (stop (earliest-none (executable cs) ps e))
    go (some t) e rest = rw (e, drain_steps) (on t (earliest-found (executable cs) ps t e) rest (crossed cs t.operation || unplaceable cs t.operation) refl)

pub draining : (cs : List Character) (ps : List Operation) → Draining cs ps (drain cs ps)
unfolding drain
draining cs ps = draining_steps (length ps) cs ps (omega arith)

pub draining_recurs : DrainingRecurs
unfolding drain drain_steps earliest drained
draining_recurs cs [] = refl
draining_recurs cs (o ∷ ps) = go (earliest (executable cs) (o ∷ ps)) refl
  where
    go : (m : Option Extracted) → earliest (executable cs) (o ∷ ps) ≡ m → drain cs (o ∷ ps) ≡ drain_next cs (o ∷ ps) m
    go none e = rw (e, drain_steps)
    go (some t) e =
        let n : length t.others ≡ length ps = omega (arith, extract_length (earliest-found (executable cs) (o ∷ ps) t e).extracted) in
        rw (e, drain_steps, n)
