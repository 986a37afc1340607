-- The inserts of characters and a toggle for each that has been toggled: which operations these are, and how many.
use Prim.Native.Nat.{ℕ, ◌+◌, ◌<◌}
use native.Mathlib.Omega.{arith}
use mathlib.Core.Path.{◌≡◌, refl, ap, ◌∙◌, subst}
use mathlib.Core.Bool.{Bool, true, false, cond}
use mathlib.Core.Logic.{◌⊎◌, inl, inr, ⊎_elim}
use mathlib.Core.List.Memᴰ
use mathlib.Core.List.{List, [], ◌∷◌, ◌++◌, map, Memᴰ}
use lib.Dec.{eqb, ltb}
use lib.ListN.{length}
use borrow.Author.Tests.{eqb-true, eqb-false, lt-ltb, le-ltb}
use Rattle.lists.specs.Lists.{keep}
use Rattle.lists.proofs.Tests.{either}
use Rattle.woot.specs.declared.Insert.{Insert}
use Rattle.woot.specs.declared.Toggle.{Toggle}
use Rattle.woot.specs.declared.Operation.{Operation}
use Rattle.woot.specs.declared.Operation.TheVariants.{Insert as insert, Toggle as toggle}
use Rattle.woot.specs.declared.Character.{Character}
use Rattle.woot.specs.Operations.{origin, inserts}
use Rattle.bulk.specs.Loading.{arrivals, turnings}

-- the toggle for a character
abbrev pub turn : ℕ → Character → Toggle
turn n c = record { sender = n; target = c.id; toggles = c.toggles }

pub insert-eq : {i j : Insert} → insert i ≡ insert j → i ≡ j
insert-eq e = cc

pub toggle_eq : {t u : Toggle} → toggle t ≡ toggle u → t ≡ u
toggle_eq e = cc

-- ---- which they are

pub arrival : (cs : List Character) {o : Operation} → Memᴰ o (arrivals cs)
    → (c : Character) × Memᴰ c cs × (insert (origin c) ≡ o)
arrival cs m = Memᴰ.of_map (λ c. insert (origin c)) cs m

pub turning : (n : ℕ) (cs : List Character) {o : Operation} → Memᴰ o (turnings n cs)
    → (c : Character) × Memᴰ c cs × (o ≡ toggle (turn n c)) × (0 < c.toggles)
unfolding turnings
turning n [] m = absurd (Memᴰ.not-nil m)
turning n (c ∷ cs) {o} m = go (eqb c.toggles 0) refl m (λ k. turning n cs k)
  where
    Found : List Character → Type 0
    Found ds = (d : Character) × Memᴰ d ds × (o ≡ toggle (turn n d)) × (0 < d.toggles)

    go : (b : Bool) → eqb c.toggles 0 ≡ b
        → Memᴰ o (cond b (turnings n cs) (toggle (turn n c) ∷ turnings n cs))
        → (Memᴰ o (turnings n cs) → Found cs) → Found (c ∷ cs)
    go true e k r = let w = r k in (w.0, Memᴰ.tail w.1, w.2, w.3)
    go false e k r =
        ⊎_elim (λ q. (c, Memᴰ.head refl, q, omega (arith, eqb-false c.toggles 0 e)))
        (λ q. let w = r q in (w.0, Memᴰ.tail w.1, w.2, w.3))
        (Memᴰ.cases_cons k)

pub turned_in : (n : ℕ) (cs : List Character) {c : Character} → Memᴰ c cs
    → (c.toggles ≡ 0) ⊎ Memᴰ (toggle (turn n c)) (turnings n cs)
unfolding turnings
turned_in n [] {c = c} m = elim m [ ]
turned_in n (d ∷ cs) {c} m = go (eqb d.toggles 0) refl (Memᴰ.cases_cons m) (λ k. turned_in n cs k)
  where
    go : (b : Bool) → eqb d.toggles 0 ≡ b → (c ≡ d) ⊎ Memᴰ c cs
        → (Memᴰ c cs → (c.toggles ≡ 0) ⊎ Memᴰ (toggle (turn n c)) (turnings n cs))
        → (c.toggles ≡ 0)
        ⊎ Memᴰ (toggle (turn n c)) (cond b (turnings n cs) (toggle (turn n d) ∷ turnings n cs))
    go true e (inl q) r = inl (ap (λ (b : Character). b.toggles) q ∙ eqb-true d.toggles 0 e)
    go true e (inr k) r = r k
    go false e (inl q) r = inr (Memᴰ.head (ap (λ (b : Character). toggle (turn n b)) q))
    go false e (inr k) r = ⊎_elim (λ z. inl z) (λ z. inr (Memᴰ.tail z)) (r k)

pub turnings-are : (n : ℕ) (cs : List Character)
    → turnings n cs ≡ map (λ c. toggle (turn n c)) (keep (λ c. ltb 0 c.toggles) cs)
unfolding turnings
turnings-are n [] = refl
turnings-are n (c ∷ cs) =
    ⊎_elim
    (λ e. rw (e, le-ltb 0 c.toggles (omega (arith, eqb-true c.toggles 0 e))) (turnings-are n cs))
    (λ e. rw (e, lt-ltb 0 c.toggles (omega (arith, eqb-false c.toggles 0 e)))
    (ap (λ os. toggle (turn n c) ∷ os) (turnings-are n cs)))
    (either (eqb c.toggles 0))

pub origin_arrives : (cs : List Character) (i : Insert) → Memᴰ i (map origin cs)
    → Memᴰ (insert i) (arrivals cs)
origin_arrives cs i m =
    let w = Memᴰ.of_map origin cs m in
    subst (λ (j : Insert). Memᴰ (insert j) (arrivals cs)) w.2 (Memᴰ.map (λ c. insert (origin c)) w.1)

-- an insert among them is that of a character
pub arrived_origin : (n : ℕ) (cs : List Character) (i : Insert)
    → Memᴰ (insert i) (arrivals cs ++ turnings n cs) → Memᴰ i (map origin cs)
arrived_origin n cs i m =
    ⊎_elim (λ k. let w = arrival cs k in
    subst (λ (j : Insert). Memᴰ j (map origin cs)) (insert-eq w.2) (Memᴰ.map origin w.1))
    (λ k. let q = (turning n cs k).2 in absurd (let z : ◌≡◌ {A = ℕ} 0 1 = cc in omega arith))
    (Memᴰ.append_cases (arrivals cs) m)

-- ---- how many inserts

pub arrivals-count : (cs : List Character) (os : List Operation)
    → length (inserts (arrivals cs ++ os)) ≡ length cs + length (inserts os)
arrivals-count [] os = omega arith
arrivals-count (c ∷ cs) os = omega (arith, arrivals-count cs os)

-- the toggles bring none
no-inserts : (n : ℕ) (cs : List Character) → inserts (turnings n cs) ≡ []
unfolding turnings
no-inserts n [] = refl
no-inserts n (c ∷ cs) = go (eqb c.toggles 0) (no-inserts n cs)
  where
    go : (b : Bool) → inserts (turnings n cs) ≡ []
        → inserts (cond b (turnings n cs) (toggle (turn n c) ∷ turnings n cs)) ≡ []
    go true r = r
    go false r = r

pub turnings-count : (n : ℕ) (cs : List Character) → length (inserts (turnings n cs)) ≡ 0
turnings-count n cs = ap length (no-inserts n cs)

pub arrivals_alone : (cs : List Character) (n : ℕ) (ds : List Character)
    → inserts (arrivals cs ++ turnings n ds) ≡ map origin cs
arrivals_alone [] n ds = no-inserts n ds
arrivals_alone (c ∷ cs) n ds = ap (λ (is : List Insert). origin c ∷ is) (arrivals_alone cs n ds)
