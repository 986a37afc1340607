-- What is decided of a toggle: by the one character that is its target, or by the pending toggles where none is.
use Prim.Native.Nat.{ℕ, ◌≤◌, ◌<◌}
use mathlib.Core.Path.{◌≡◌, refl, sym, subst, ◌∙◌}
use mathlib.Core.Bool.{Bool, true, false, ◌&&◌, cond}
use mathlib.Core.List.{List}
use borrow.Author.Tests.{le-leb, lt-leb}
use lib.Dec.{eqb, leb}
use lib.ListN.{take, get_or}
use Rattle.lists.specs.Lists.{any}
use Rattle.lists.proofs.Tests.{three, fails, clash}
use Rattle.lists.proofs.Members.{any_none, none_any}
use Rattle.woot.specs.declared.Identifier.{Identifier}
use Rattle.woot.specs.declared.Toggle.{Toggle}
use Rattle.woot.specs.declared.Operation.{Operation}
use Rattle.woot.specs.declared.Operation.TheVariants.{Insert as insert, Toggle as toggle}
use Rattle.woot.specs.declared.Character.{Character}
use Rattle.answers.specs.declared.Answer.TheVariants.{Duplicate}
use Rattle.memory.specs.Columns.{Replica}
use Rattle.woot.specs.Identifiers.{same}
use Rattle.woot.specs.Operations.{same_toggle, same_operation}
use Rattle.woot.specs.Ranges.{character_id, toggle_in_range, in_range}
use Rattle.woot.specs.Placing.{held, identifiers}
use Rattle.woot.specs.Pending.{executable, crossed, unplaceable}
use Rattle.answers.specs.Answers.{changes}
use Rattle.woot.specs.Calls.{duplicate, conflicting, sender_full, document_full}
use Rattle.woot.specs.Table.{key}
use Rattle.woot.specs.Memory.{character_of, value_of}
use Rattle.memory.specs.Columns.{meaning}
use Rattle.convergence.proofs.Identifiers.{same-eq}
use Rattle.convergence.proofs.Ranges.{toggle-in-range}
use Rattle.convergence.proofs.Places.{held-id}
use Rattle.convergence.proofs.Soundness.{unheld}
use Rattle.convergence.proofs.Steps.{any-map}
use Rattle.convergence.proofs.Named.{none_named, one-named}
use Rattle.std.proofs.Common.{Some}
use Rattle.index.specs.Keys.{first_index}
use Rattle.memory.proofs.Operations.{range_keyed}
use Rattle.pending.specs.Counts.{has_toggle}
use Rattle.pending.proofs.Pending.{toggle_found}
use Rattle.well_formed.specs.Examined.{Examined}
use Rattle.well_formed.proofs.Examining.{form, keyed, own_used, first_used, values_used}
use Rattle.reception.specs.declared.Decision.TheVariants.{Answered, Toggle as toggleAt}
use Rattle.reception.specs.Decisions.{lacking_in, absent_in}
use Rattle.reception.proofs.Judging.{Decided}
use Rattle.holder.proofs.Holders.{CharacterAt}
use Rattle.holder.proofs.Having.{in_slot, character_member, character-named, characters-apart}
use Rattle.reception.proofs.Deferring.{lacking_decided}
use Rattle.reception.proofs.Outcomes as outcomes

pub target_ranged : (t : Toggle) → toggle_in_range t ≡ true → character_id t.target ≡ true
target_ranged t h = (toggle-in-range t h).target

-- an equal toggle has what it needs where this one has
equal_ready : (cs : List Character) (t : Toggle) → held cs t.target ≡ true → (o : Operation) → same_operation (toggle t) o ≡ true → executable cs o ≡ true
unfolding same_operation same_toggle executable
equal_ready cs t h (insert j) e = clash e refl
equal_ready cs t h (toggle u) e =
    let equal = (three (eqb t.sender u.sender) (same t.target u.target) (eqb t.toggles u.toggles) e).1 in
    subst (λ (x : Identifier). held cs x ≡ true) (same-eq t.target u.target equal) h

module _ (r : Replica) (x : Examined r) (t : Toggle) (ranged : toggle_in_range t ≡ true) where
  -- ---- the target is a character

  module _ (k : ℕ) (at : CharacterAt t.target (meaning r).characters k) where
    abbrev here : Character
    here = in_slot r x t.target (target_ranged t ranged) k at

    ready : held (meaning r).characters t.target ≡ true
    ready =
        rw (character-named r x t.target (target_ranged t ranged) k at)
        (held-id (meaning r).characters (character_member r x t.target (target_ranged t ranged) k at))

    reached : any (λ z. same t.target z.id && leb t.toggles z.toggles) (meaning r).characters ≡ leb t.toggles here.toggles
    reached =
        one-named (λ z. z.id) (λ z. leb t.toggles z.toggles) t.target (meaning r).characters (characters-apart r x)
        (character_member r x t.target (target_ranged t ranged) k at) (character-named r x t.target (target_ranged t ranged) k at)

    -- nothing pending could be carried out, so no equal toggle is pending
    none_equal : any (same_operation (toggle t)) (meaning r).pending ≡ false
    none_equal =
        none_any (same_operation (toggle t)) (meaning r).pending
        (λ o n.
        fails (same_operation (toggle t) o)
        (λ e. clash (equal_ready (meaning r).characters t ready o e) (any_none (executable (meaning r).characters) (form r x).unready n)))

    pub again-decided : t.toggles ≤ get_or r.document.toggles k 0 → Decided r (toggle t) (Answered Duplicate)
    unfolding Decided changes in_range duplicate character_of
    again-decided v = (outcomes.known (meaning r) (toggle t) ranged (rw (reached, le-leb t.toggles here.toggles v)), refl)

    pub toggle_decided : first_index (λ c. same t.target c.id) (meaning r).characters ≡ Some k → get_or r.document.toggles k 0 < t.toggles
        → Decided r (toggle t) (toggleAt k)
    unfolding Decided in_range duplicate conflicting crossed unplaceable sender_full document_full executable character_of
    toggle_decided f v =
        let new : duplicate (meaning r) (toggle t) ≡ false = rw (reached, lt-leb t.toggles here.toggles v, none_equal) in (
          outcomes.carried (meaning r) (toggle t) ranged new refl refl refl (rw ready) refl ready,
          record { at = f; apart = characters-apart r x },
        )

  -- ---- no character is

  module _ (nowhere : any (same t.target) (identifiers (meaning r).characters) ≡ false) where
    none-reached : any (λ c. same t.target c.id && leb t.toggles c.toggles) (meaning r).characters ≡ false
    none-reached =
        none_named (λ c. c.id) (λ c. leb t.toggles c.toggles) t.target (meaning r).characters
        (sym (any-map (same t.target) (λ c. c.id) (meaning r).characters) ∙ nowhere)

    -- it is known where an equal one is pending
    absent-known : duplicate (meaning r) (toggle t) ≡ any (same_operation (toggle t)) (meaning r).pending
    unfolding duplicate
    absent-known = rw none-reached

    absent-found : has_toggle (key t.target) (value_of (toggle t)) (take r.document.waiting r.document.own)
        (take r.document.waiting r.document.firstKeys) (take r.document.waiting r.document.values)
        ≡ duplicate (meaning r) (toggle t)
    unfolding in_range
    absent-found =
        rw (own_used r x, first_used r x, values_used r x)
        (toggle_found t (range_keyed (toggle t) ranged) (meaning r).pending (keyed r x) ∙ sym absent-known)

    unready : executable (meaning r).characters (toggle t) ≡ false
    unfolding executable
    unready = unheld (meaning r).characters t.target (target_ranged t ranged) nowhere

    by-known : (b : Bool) → duplicate (meaning r) (toggle t) ≡ b
        → Decided r (toggle t)
        (cond b (Answered Duplicate)
        (lacking_in r.document.length (take r.document.waiting r.document.own) (take r.document.waiting r.document.values) (toggle t)))
    unfolding Decided changes in_range conflicting
    by-known true e = (outcomes.known (meaning r) (toggle t) ranged e, refl)
    by-known false e = lacking_decided r x (toggle t) (record { ranged = ranged; new = e; sole = refl }) unready

    pub absent-decided : Decided r (toggle t)
        (absent_in r.document.length (take r.document.waiting r.document.own) (take r.document.waiting r.document.firstKeys)
        (take r.document.waiting r.document.values) t)
    unfolding absent_in
    absent-decided = rw absent-found (by-known _ refl)
