-- A name among distinct names stands for one element, and that one decides what is asked of all that have it.
use mathlib.Core.Path.{◌≡◌, refl, sym, ap, ◌∙◌}
use mathlib.Core.Bool.{Bool, true, false, ◌&&◌, ◌||◌, not}
use mathlib.Core.List.{List, [], ◌∷◌, map, Memᴰ}
use borrow.Author.Tests.{not-true}
use Rattle.woot.specs.declared.Identifier.{Identifier}
use Rattle.woot.specs.Identifiers.{same}
use Rattle.lists.specs.Lists.{any, distinct}
use Rattle.lists.proofs.Tests.{and_left_lem, and_right, or-false-left, or-false-right}
use Rattle.lists.proofs.Members.{any_none}
use Rattle.convergence.proofs.Identifiers.{eq-same, same_sym}
use Rattle.convergence.proofs.Steps.{any-map}

module _ {A : Type 0} (f : A → Identifier) (p : A → Bool) (y : Identifier) where
  -- nothing with the name passes the test, where nothing has the name
  pub none_named : (xs : List A) → any (λ z. same y (f z)) xs ≡ false → any (λ z. same y (f z) && p z) xs ≡ false
  none_named [] h = refl
  none_named (x ∷ xs) h =
      rw (or-false-left (same y (f x)) (any (λ z. same y (f z)) xs) h)
      (none_named xs (or-false-right (same y (f x)) (any (λ z. same y (f z)) xs) h))

  others : (z : A) (zs : List A) → distinct same (map f (z ∷ zs)) ≡ true → any (λ w. same (f z) (f w)) zs ≡ false
  others z zs d =
      sym (any-map (same (f z)) f zs) ∙ not-true (any (same (f z)) (map f zs)) (and_left_lem (not (any (same (f z)) (map f zs))) (distinct same (map f zs)) d)

  -- where one has the name, the test is that one's
  pub one-named : {x : A} (xs : List A) → distinct same (map f xs) ≡ true → Memᴰ x xs → y ≡ f x → any (λ z. same y (f z) && p z) xs ≡ p x
  one-named {x = x} [] d x4 i = elim x4 [ ]
  one-named {x} (z ∷ zs) d (Memᴰ.head e) i =
      let named : y ≡ f z = i ∙ ap f e in
      let rest : any (λ w. same y (f w)) zs ≡ false = rw named (others z zs d) in
      rw (eq-same named, none_named zs rest, e) (or-none (p z))
    where
      or-none : (b : Bool) → (b || false) ≡ b
      or-none true = refl
      or-none false = refl
  one-named {x} (z ∷ zs) d (Memᴰ.tail m) i =
      let apart : same y (f z) ≡ false = same_sym y (f z) ∙ rw i (any_none (λ w. same (f z) (f w)) (others z zs d) m) in
      rw apart (one-named zs (and_right (not (any (same (f z)) (map f zs))) (distinct same (map f zs)) d) m i)
