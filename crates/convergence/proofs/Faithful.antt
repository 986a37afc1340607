-- The characters are what the operations carried out say: each insert of them and no other, with the most toggles of it
-- among them. Nothing is toggled before it is held, so a new character starts with none rightly.
use Prim.Native.Nat.{ℕ, ◌+◌, max}
use native.Mathlib.Omega.{arith}
use mathlib.Core.Path.{◌≡◌, refl, ap, sym, ◌∙◌, subst}
use mathlib.Core.Bool.{Bool, true, false, cond}
use mathlib.Core.Logic.{◌↔◌, ◌⊎◌, inl, inr, ⊎_elim}
use mathlib.Core.List.Memᴰ
use mathlib.Core.List.{List, [], ◌∷◌, ◌++◌, map, append-nil, Memᴰ}
use lib.ListN.{length, length-append}
use Rattle.woot.specs.declared.Identifier.{Identifier}
use Rattle.woot.specs.declared.Insert.{Insert}
use Rattle.woot.specs.declared.Toggle.{Toggle}
use Rattle.woot.specs.declared.Operation.{Operation}
use Rattle.woot.specs.declared.Operation.TheVariants.{Insert as insert, Toggle as toggle}
use Rattle.woot.specs.declared.Character.{Character}
use Rattle.woot.specs.Identifiers.{same}
use Rattle.woot.specs.Operations.{character, origin, toggled_by, inserts, toggles_among}
use Rattle.woot.specs.Placing.{held, integrate_toggle}
use Rattle.woot.specs.Histories.{InsertedIn, largest_in}
use Rattle.lists.proofs.Tests.{either, clash}
use Rattle.convergence.proofs.Extract.{Extract, extract_length, extract_cases, extract_itself, extract_old, extract_map}
use Rattle.convergence.proofs.Identifiers.{same-eq}
use Rattle.convergence.proofs.Toggling.{toggled-id, toggled-toggles, toggle_length, toggle_origins, toggle_held, toggle_member}

pub record Faithful (cs : List Character) (os : List Operation) : Type 0 where
  pub inserted : (i : Insert) → Memᴰ i (map origin cs) ↔ InsertedIn i os
  pub counted : length cs ≡ length (inserts os)
  pub largest : (c : Character) → Memᴰ c cs → c.toggles ≡ largest_in c.id os
  pub untoggled : (x : Identifier) → held cs x ≡ false → largest_in x os ≡ 0

pub faithful_empty : Faithful [] []
faithful_empty =
    record {
      inserted = λ i. (λ m. absurd (Memᴰ.not-nil m), λ m. absurd (Memᴰ.not-nil m));
      counted = refl;
      largest = λ c m. absurd (Memᴰ.not-nil m);
      untoggled = λ x h. refl;
    }

-- ---- one operation more at the end of a history

pub inserts-append : (os ps : List Operation) → inserts (os ++ ps) ≡ inserts os ++ inserts ps
inserts-append [] ps = refl
inserts-append (insert i ∷ os) ps = ap (λ js. i ∷ js) (inserts-append os ps)
inserts-append (toggle d ∷ os) ps = inserts-append os ps

pub toggles-append : (os ps : List Operation) → toggles_among (os ++ ps) ≡ toggles_among os ++ toggles_among ps
toggles-append [] ps = refl
toggles-append (insert i ∷ os) ps = toggles-append os ps
toggles-append (toggle d ∷ os) ps = ap (λ es. d ∷ es) (toggles-append os ps)

insert-eq : {i j : Insert} → insert i ≡ insert j → i ≡ j
insert-eq e = cc

insert_toggle : {i : Insert} {d : Toggle} → insert i ≡ toggle d → ⊥
insert_toggle e = let z : ◌≡◌ {A = ℕ} 0 1 = cc in omega arith

largest_insert : (x : Identifier) (os : List Operation) (i : Insert) → largest_in x (os ++ insert i ∷ []) ≡ largest_in x os
largest_insert x [] i = refl
largest_insert x (insert j ∷ os) i = largest_insert x os i
largest_insert x (toggle d ∷ os) i = rw (largest_insert x os i)

largest_toggle : (x : Identifier) (os : List Operation) (d : Toggle) → largest_in x (os ++ toggle d ∷ []) ≡ cond (same d.target x) (max (largest_in x os) d.toggles) (largest_in x os)
largest_toggle x [] d = go (same d.target x)
  where
    go : (b : Bool) → cond b (max d.toggles 0) 0 ≡ cond b (max 0 d.toggles) 0
    go true = omega arith
    go false = refl
largest_toggle x (insert j ∷ os) d = largest_toggle x os d
largest_toggle x (toggle f ∷ os) d =
    ap (λ (n : ℕ). cond (same f.target x) (max f.toggles n) n) (largest_toggle x os d)
    ∙ go (same f.target x) (same d.target x) (largest_in x os)
  where
    go : (a b : Bool) (n : ℕ) →
        cond a (max f.toggles (cond b (max n d.toggles) n)) (cond b (max n d.toggles) n)
        ≡ cond b (max (cond a (max f.toggles n) n) d.toggles) (cond a (max f.toggles n) n)
    go true true n = omega arith
    go true false n = refl
    go false true n = refl
    go false false n = refl

-- ---- an insert carried out

pub faithful_insert : {cs ds : List Character} {os : List Operation} (i : Insert) → Extract (character i) cs ds → held cs i.id ≡ false → ((x : Identifier) → held cs x ≡ true → held ds x ≡ true) → Faithful cs os → Faithful ds (os ++ insert i ∷ [])
unfolding character origin
faithful_insert {cs} {ds} {os} i e fresh grows f =
    record {
      inserted = λ j. (to j, from j);
      counted = omega (arith, extract_length e, f.counted, ap length (inserts-append os (insert i ∷ [])), length-append (inserts os) (i ∷ []));
      largest = λ c m. ⊎_elim (λ k. subst (λ (b : Character). b.toggles ≡ largest_in b.id (os ++ insert i ∷ [])) (sym k) (sym (largest_insert i.id os i ∙ f.untoggled i.id fresh))) (λ k. f.largest c k ∙ sym (largest_insert c.id os i)) (extract_cases e m);
      untoggled = λ x h. largest_insert x os i ∙ ⊎_elim (λ k. clash (grows x k) h) (λ k. f.untoggled x k) (either (held cs x));
    }
  where
    to : (j : Insert) → Memᴰ j (map origin ds) → InsertedIn j (os ++ insert i ∷ [])
    to j m = ⊎_elim (λ k. Memᴰ.append_right os (Memᴰ.head (ap insert k))) (λ k. Memᴰ.append_left (insert i ∷ []) ((f.inserted j).0 k)) (extract_cases (extract_map origin e) m)

    from : (j : Insert) → InsertedIn j (os ++ insert i ∷ []) → Memᴰ j (map origin ds)
    from j m = ⊎_elim (λ k. extract_old (extract_map origin e) ((f.inserted j).1 k)) (λ k. subst (λ (l : Insert). Memᴰ l (map origin ds)) (sym (insert-eq (Memᴰ.eq_of_singleton k))) (extract_itself (extract_map origin e))) (Memᴰ.append_cases os m)

-- ---- a toggle carried out

pub faithful_toggle : {cs : List Character} {os : List Operation} (d : Toggle) → held cs d.target ≡ true → Faithful cs os → Faithful (integrate_toggle cs d) (os ++ toggle d ∷ [])
faithful_toggle {cs} {os} d ready f =
    record {
      inserted = λ j. (to j, from j);
      counted = toggle_length cs d ∙ f.counted ∙ sym (ap length (inserts-append os (toggle d ∷ []) ∙ append-nil (inserts os)));
      largest = λ c m. let w = toggle_member cs d m in subst (λ (b : Character). b.toggles ≡ largest_in b.id (os ++ toggle d ∷ [])) w.2 (each w.0 w.1);
      untoggled = λ x h. largest_toggle x os d ∙ elsewhere x (sym (toggle_held cs d x) ∙ h) (either (same d.target x));
    }
  where
    to : (j : Insert) → Memᴰ j (map origin (integrate_toggle cs d)) → InsertedIn j (os ++ toggle d ∷ [])
    to j m = Memᴰ.append_left (toggle d ∷ []) ((f.inserted j).0 (subst (λ (js : List Insert). Memᴰ j js) (toggle_origins cs d) m))

    from : (j : Insert) → InsertedIn j (os ++ toggle d ∷ []) → Memᴰ j (map origin (integrate_toggle cs d))
    from j m = ⊎_elim (λ k. subst (λ (js : List Insert). Memᴰ j js) (sym (toggle_origins cs d)) ((f.inserted j).1 k)) (λ k. absurd (insert_toggle (Memᴰ.eq_of_singleton k))) (Memᴰ.append_cases os m)

    each : (c : Character) → Memᴰ c cs → (toggled_by d c).toggles ≡ largest_in (toggled_by d c).id (os ++ toggle d ∷ [])
    each c m =
        toggled-toggles d c
        ∙ ap (λ (n : ℕ). cond (same d.target c.id) (max n d.toggles) n) (f.largest c m)
        ∙ sym (largest_toggle c.id os d)
        ∙ ap (λ (x : Identifier). largest_in x (os ++ toggle d ∷ [])) (sym (toggled-id d c))

    elsewhere : (x : Identifier) → held cs x ≡ false → (same d.target x ≡ true) ⊎ (same d.target x ≡ false) → cond (same d.target x) (max (largest_in x os) d.toggles) (largest_in x os) ≡ 0
    elsewhere x h (inl k) = clash (subst (λ (y : Identifier). held cs y ≡ true) (same-eq d.target x k) ready) h
    elsewhere x h (inr k) = rw k (f.untoggled x h)
