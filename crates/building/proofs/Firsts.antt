-- The inserts that are kept once: they are in range, no identifier stands twice, and so they can be offered to
-- nothing.
use Prim.Native.Nat.{◌≤◌}
use native.Mathlib.Omega.{arith}
use mathlib.Core.Path.{◌≡◌, refl, ◌∙◌}
use mathlib.Core.Bool.{true}
use mathlib.Core.Logic.{⊎_elim}
use mathlib.Core.List.{List, [], ◌∷◌, ◌++◌, map}
use lib.ListN.{length}
use Rattle.lists.specs.Lists.{any, every, distinct}
use Rattle.lists.proofs.Tests.{either, and_left_lem, and_right, and_intro}
use Rattle.lists.proofs.Members.{every_append}
use Rattle.woot.specs.declared.Insert.{Insert}
use Rattle.woot.specs.Identifiers.{same}
use Rattle.woot.specs.Ranges.{insert_in_range}
use Rattle.convergence.specs.Passes.{kept_once, firsts}
use Rattle.convergence.proofs.Identifiers.{same_sym}
use Rattle.convergence.proofs.Extract.{extract_last, extract_map, extract_distinct}
use Rattle.convergence.proofs.Steps.{any-map}
use Rattle.passes.specs.Steps.{Offered}

kept_ranged : (kept is : List Insert) → every insert_in_range kept ≡ true → every insert_in_range is ≡ true → every insert_in_range (kept_once kept is) ≡ true
unfolding kept_once
kept_ranged kept [] k r = k
kept_ranged kept (i ∷ is) k r =
    let rest = and_right (insert_in_range i) _ r in
    ⊎_elim (λ e. rw e (kept_ranged kept is k rest))
    (λ e. rw e (kept_ranged (kept ++ i ∷ []) is
    (every_append insert_in_range kept (i ∷ []) ∙ and_intro k (and_intro (and_left_lem (insert_in_range i) _ r) refl)) rest))
    (either (any (λ j. same i.id j.id) kept))

kept-apart : (kept is : List Insert) → distinct same (map (λ (j : Insert). j.id) kept) ≡ true
    → distinct same (map (λ (j : Insert). j.id) (kept_once kept is)) ≡ true
unfolding kept_once
kept-apart kept [] d = d
kept-apart kept (i ∷ is) d =
    ⊎_elim (λ e. rw e (kept-apart kept is d))
    (λ e. rw e (kept-apart (kept ++ i ∷ []) is
    (extract_distinct same same_sym (extract_map (λ (j : Insert). j.id) (extract_last i kept))
    (any-map (same i.id) (λ j. j.id) kept ∙ e) d)))
    (either (any (λ j. same i.id j.id) kept))

pub firsts_offered : (is : List Insert) → every insert_in_range is ≡ true → length (firsts is) ≤ 1024 → Offered [] (firsts is)
firsts_offered is r few =
    record {
      characters = refl;
      inserts = kept_ranged [] is refl r;
      apart = kept-apart [] is refl;
      room = omega arith;
    }
