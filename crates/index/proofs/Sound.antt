-- Lists that are sound have a table that agrees: no identifier stands twice, and there are no more than it has links.
use native.Mathlib.Omega.{arith}
use mathlib.Core.Path.{◌≡◌, refl, sym, ◌∙◌}
use mathlib.Core.Bool.{Bool, true, false, not}
use mathlib.Core.List.{List, [], ◌∷◌, ◌++◌}
use borrow.Author.Tests.{not-true}
use Rattle.lists.specs.Lists.{any, distinct}
use Rattle.lists.proofs.Tests.{and_intro, and_left_lem, and_right, not-intro, or-false-left}
use Rattle.lists.proofs.Members.{any_append, every_member}
use Rattle.woot.specs.declared.Operation.{Operation}
use Rattle.woot.specs.declared.Character.{Character}
use Rattle.woot.specs.Identifiers.{same}
use Rattle.woot.specs.Ranges.{character_in_range}
use Rattle.woot.specs.Placing.{identifiers}
use Rattle.woot.specs.Table.{keys, table_of}
use Rattle.convergence.specs.Invariants.{Sound, pending_ids}
use Rattle.index.specs.Keys.{AllSmall}
use Rattle.index.specs.Tabled.{Tabled}
use Rattle.index.proofs.Keys.{all-range-small}
use Rattle.index.proofs.Agreement.{tabled_characters}

distinct-left : {A : Type 0} (same : A → A → Bool) (xs ys : List A) → distinct same (xs ++ ys) ≡ true → distinct same xs ≡ true
distinct-left same [] ys h = refl
distinct-left same (x ∷ xs) ys h =
    let none : any (same x) (xs ++ ys) ≡ false = not-true (any (same x) (xs ++ ys)) (and_left_lem (not (any (same x) (xs ++ ys))) (distinct same (xs ++ ys)) h) in
    and_intro (not-intro (or-false-left (any (same x) xs) (any (same x) ys) (sym (any_append (same x) xs ys) ∙ none)))
    (distinct-left same xs ys (and_right (not (any (same x) (xs ++ ys))) (distinct same (xs ++ ys)) h))

module _ {cs : List Character} {ps : List Operation} (s : Sound cs ps) where
  pub sound-small : AllSmall cs
  sound-small = all-range-small cs (λ c m. every_member character_in_range s.ranges m)

  pub sound-apart : distinct same (identifiers cs) ≡ true
  sound-apart = distinct-left same (identifiers cs) (pending_ids ps) s.apart

  pub sound_tabled : Tabled (table_of (keys cs)) (keys cs)
  sound_tabled = tabled_characters cs sound-small sound-apart (omega (arith, s.room))
