-- Operations equal in every field are equal.
use mathlib.Core.Path.{◌≡◌, refl, ap}
use mathlib.Core.Bool.{true, false≢true}
use lib.Dec.{eqb}
use borrow.Author.Tests.{eqb-true, eq-eqb}
use Rattle.woot.specs.declared.Insert.{Insert}
use Rattle.woot.specs.declared.Toggle.{Toggle}
use Rattle.woot.specs.declared.Operation.{Operation}
use Rattle.woot.specs.declared.Operation.TheVariants.{Insert as insert, Toggle as toggle}
use Rattle.woot.specs.Identifiers.{same}
use Rattle.woot.specs.Operations.{same_insert, same_toggle, same_operation}
use Rattle.lists.proofs.Tests.{three, four}
use Rattle.convergence.proofs.Identifiers.{same_refl, same-eq}

pub insert-same : (i j : Insert) → same_insert i j ≡ true → i ≡ j
unfolding same_insert
insert-same i j h =
    let w = four (same i.id j.id) (eqb i.code_point j.code_point) (same i.previous j.previous)
    (same i.next j.next) h in
    let a : i.id ≡ j.id = same-eq i.id j.id w.0 in
    let b = eqb-true i.code_point j.code_point w.1 in
    let c : i.previous ≡ j.previous = same-eq i.previous j.previous w.2 in
    let d : i.next ≡ j.next = same-eq i.next j.next w.3 in
    λ k. record { id = a k; code_point = b k; previous = c k; next = d k }

pub insert-refl : (i : Insert) → same_insert i i ≡ true
unfolding same_insert
insert-refl i =
    rw (
      same_refl i.id,
      eq-eqb i.code_point i.code_point refl,
      same_refl i.previous,
      same_refl i.next,
    )

pub toggle_same : (t u : Toggle) → same_toggle t u ≡ true → t ≡ u
unfolding same_toggle
toggle_same t u h =
    let w = three (eqb t.sender u.sender) (same t.target u.target) (eqb t.toggles u.toggles) h in
    let a = eqb-true t.sender u.sender w.0 in
    let b : t.target ≡ u.target = same-eq t.target u.target w.1 in
    let c = eqb-true t.toggles u.toggles w.2 in
    λ k. record { sender = a k; target = b k; toggles = c k }

pub toggle_refl : (t : Toggle) → same_toggle t t ≡ true
unfolding same_toggle
toggle_refl t = rw (eq-eqb t.sender t.sender refl, same_refl t.target, eq-eqb t.toggles t.toggles refl)

pub operation_same : (o p : Operation) → same_operation o p ≡ true → o ≡ p
unfolding same_operation
operation_same (insert i) (insert j) h = ap insert (insert-same i j h)
operation_same (insert i) (toggle u) h = absurd (false≢true h)
operation_same (toggle t) (insert j) h = absurd (false≢true h)
operation_same (toggle t) (toggle u) h = ap toggle (toggle_same t u h)

pub operation_refl : (o : Operation) → same_operation o o ≡ true
unfolding same_operation
operation_refl (insert i) = insert-refl i
operation_refl (toggle t) = toggle_refl t
