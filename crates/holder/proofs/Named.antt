-- An identifier that is in use stands for one insert, and that one decides what a received insert with it is.
use mathlib.Core.Path.{◌≡◌, refl, sym, ap, subst, ◌∙◌}
use mathlib.Core.Bool.{Bool, true, false, ◌&&◌, ◌||◌, not}
use mathlib.Core.List.{List, [], ◌∷◌, map, Memᴰ}
use mathlib.Core.Logic.{⊎_elim}
use Rattle.woot.specs.declared.Identifier.{Identifier}
use Rattle.woot.specs.declared.Insert.{Insert}
use Rattle.woot.specs.declared.Operation.{Operation}
use Rattle.woot.specs.declared.Operation.TheVariants.{Insert as insert, Toggle as toggle}
use Rattle.woot.specs.Identifiers.{same}
use Rattle.lists.specs.Lists.{any, distinct}
use Rattle.woot.specs.Operations.{origin, inserts, same_insert, same_operation}
use Rattle.woot.specs.State.{State}
use Rattle.woot.specs.Form.{present_inserts}
use Rattle.woot.specs.Calls.{duplicate, conflicting}
use Rattle.lists.proofs.Tests.{either}
use Rattle.lists.proofs.Members.{any_append}
use Rattle.convergence.proofs.Forms.{Formed, known-ids}
use Rattle.convergence.proofs.Steps.{any-map}
use Rattle.convergence.proofs.Named.{none_named, one-named}
use Rattle.holder.specs.declared.Seen.TheVariants.{New}
use Rattle.holder.specs.Holder.{compared_to, seen_of}

-- ---- the inserts that a state knows

any-inserts : (i : Insert) (ps : List Operation) → any (same_insert i) (inserts ps) ≡ any (same_operation (insert i)) ps
unfolding same_operation
any-inserts i [] = refl
any-inserts i (insert j ∷ ps) = ap (λ (b : Bool). same_insert i j || b) (any-inserts i ps)
any-inserts i (toggle d ∷ ps) = any-inserts i ps

-- an equal insert has the identifier
named-same : (i j : Insert) → same_insert i j ≡ (same i.id j.id && same_insert i j)
unfolding same_insert
named-same i j = ⊎_elim (λ e. rw e) (λ e. rw e) (either (same i.id j.id))

any-each : {A : Type 0} (p q : A → Bool) → ((x : A) → p x ≡ q x) → (xs : List A) → any p xs ≡ any q xs
any-each p q f [] = refl
any-each p q f (x ∷ xs) = rw (f x, any-each p q f xs)

module _ (s : State) (i : Insert) where
  known-duplicate : duplicate s (insert i) ≡ any (λ j. same i.id j.id && same_insert i j) (present_inserts s)
  unfolding duplicate present_inserts
  known-duplicate =
      sym (any_append (same_insert i) (map origin s.characters) (inserts s.pending)
      ∙ rw (any-map (same_insert i) origin s.characters, any-inserts i s.pending))
      ∙ any-each (same_insert i) (λ j. same i.id j.id && same_insert i j) (named-same i) (present_inserts s)

  -- one of them has the identifier
  pub seen-held : Formed s → (j : Insert) → Memᴰ j (present_inserts s) → i.id ≡ j.id → seen_of s i ≡ compared_to i j
  unfolding seen_of compared_to conflicting
  seen-held f j m e =
      let apart : distinct same (map (λ (k : Insert). k.id) (present_inserts s)) ≡ true =
      subst (λ (xs : List Identifier). distinct same xs ≡ true) (sym (known-ids s)) f.sound.apart
      in
      let equal = one-named (λ k. k.id) (same_insert i) i.id (present_inserts s) apart m e in
      let unequal = one-named (λ k. k.id) (λ k. not (same_insert i k)) i.id (present_inserts s) apart m e in
      rw (known-duplicate, equal, unequal)
      (⊎_elim (λ h. rw h) (λ h. rw h) (either (same_insert i j)))

  -- none of them has it
  pub seen-new : any (λ j. same i.id j.id) (present_inserts s) ≡ false → seen_of s i ≡ New
  unfolding seen_of conflicting
  seen-new h =
      let unequal = none_named (λ k. k.id) (λ k. not (same_insert i k)) i.id (present_inserts s) h in
      rw (known-duplicate, none_named (λ k. k.id) (same_insert i) i.id (present_inserts s) h, unequal)
