-- What carrying out an operation changes of the rows, where nothing waits: an insert puts one in, and a toggle alters one.
use mathlib.Core.Path.{◌≡◌, refl, sym, ap, ap₂, ◌∙◌}
use mathlib.Core.List.{List, [], ◌∷◌, ◌++◌, map}
use mathlib.Core.Bool.{Bool, true, false, not, ◌||◌, ◌&&◌, cond}
use Prim.Native.Nat.{ℕ, zero, suc, ◌+◌, ◌<◌, ◌≤◌}
use native.Mathlib.Nat.{add-zero}
use native.Mathlib.Numerals.{add-one, one-add}
use native.Mathlib.Omega.{arith}
use lib.ListN.{length, take, drop, get_or}
use borrow.Author.Tests.{not-true}
use Rattle.lists.specs.Lists.{any, distinct}
use Rattle.lists.proofs.Tests.{and_left_lem, and_right, or-false-left, or-false-right}
use Rattle.woot.specs.declared.Character.{Character}
use Rattle.woot.specs.declared.Insert.{Insert}
use Rattle.woot.specs.declared.Toggle.{Toggle}
use Rattle.woot.specs.declared.Operation.TheVariants.{Insert as insert, Toggle as toggle}
use Rattle.woot.specs.State.{State}
use Rattle.woot.specs.Identifiers.{same}
use Rattle.woot.specs.Operations.{character, toggled_by}
use Rattle.woot.specs.Placing.{identifiers, integrate_insert, integrate_toggle}
use Rattle.woot.specs.Pending.{drained, drain_steps, drain}
use Rattle.woot.specs.Calls.{with_characters, after_drain, insert_carried, carry_out}
use Rattle.convergence.proofs.Identifiers.{same-eq}
use Rattle.convergence.proofs.Insertion.{insert-split}
use Rattle.std.proofs.Common.{Option, Some, None}
use Rattle.index.specs.Keys.{first_index, further}
use Rattle.reception.specs.Decisions.{Placed, Target}
use Rattle.splicing.specs.Splicing.{Spelled, Spliced}

-- ---- the target of a toggle, and no other

pub record Altered (f : Character → Character) (cs : List Character) (k : ℕ) : Type 0 where
  pub there : k < length cs
  pub row : Character
  pub result : map f cs ≡ take k cs ++ row ∷ drop (suc k) cs

no_place : {k : ℕ} {B : Type 0} → None ≡ Some k → B
no_place e = absurd (let z : ◌≡◌ {A = ℕ} 0 1 = cc in omega arith)

module _ (x : Toggle) where
  abbrev targeted : Character → Bool
  targeted c = same x.target c.id

  other-kept : (c : Character) → targeted c ≡ false → toggled_by x c ≡ c
  unfolding toggled_by
  other-kept c e = rw e

  none_altered : (cs : List Character) → any (same x.target) (identifiers cs) ≡ false → map (toggled_by x) cs ≡ cs
  none_altered [] e = refl
  none_altered (c ∷ cs) e =
      ap₂ (λ (d : Character) (ds : List Character). d ∷ ds) (other-kept c (or-false-left (targeted c) _ e)) (none_altered cs (or-false-right (targeted c) _ e))

  one_altered : (cs : List Character) → distinct same (identifiers cs) ≡ true → (k : ℕ) → first_index targeted cs ≡ Some k → Altered (toggled_by x) cs k
  unfolding first_index
  one_altered [] d k e = no_place e
  one_altered (c ∷ cs) d k e = go (targeted c) refl e (one_altered cs (and_right (not (any (same c.id) (identifiers cs))) _ d))
    where
      alone : any (same c.id) (identifiers cs) ≡ false
      alone = not-true _ (and_left_lem (not (any (same c.id) (identifiers cs))) _ d)

      later : (r : Option ℕ) → further 1 r ≡ Some k → targeted c ≡ false → ((i : ℕ) → r ≡ Some i → Altered (toggled_by x) cs i) → Altered (toggled_by x) (c ∷ cs) k
      later None g t others = no_place g
      later (Some j) g t others =
          let next : 1 + j ≡ k = cc in
          let a = others j refl in
          rw (← next, one-add j) (record {
            there = omega (arith, a.there);
            row = a.row;
            result = ap₂ (λ (y : Character) (ys : List Character). y ∷ ys) (other-kept c t) a.result;
          })

      go : (b : Bool) → targeted c ≡ b → cond b (Some 0) (further 1 (first_index targeted cs)) ≡ Some k → ((i : ℕ) → first_index targeted cs ≡ Some i → Altered (toggled_by x) cs i)
          → Altered (toggled_by x) (c ∷ cs) k
      go true t f others =
          let first : 0 ≡ k = cc in
          let is : x.target ≡ c.id = same-eq x.target c.id t in
          rw (← first) (record { there = omega arith; row = toggled_by x c; result = ap (λ (ds : List Character). toggled_by x c ∷ ds) (none_altered cs (rw is alone)) })
      go false t f others = later (first_index targeted cs) f t others

-- ---- what is left of the lines

module _ {A : Type 0} (done : ℕ → ℕ → A) {s : State} {body starts : List ℕ} (still : s.pending ≡ []) (p : Spelled body starts s.characters) where
  pub inserted_spliced : {i : Insert} {k : ℕ} → Placed s i k → Spliced body starts k 0 (carry_out done s (insert i)).state
  unfolding carry_out insert_carried after_drain drain drain_steps drained
  inserted_spliced {i} {k} q = record {
    old = s.characters;
    spelled = p;
    place = rw (add-zero k) q.place;
    row = character i;
    result = rw (still, q.result, add-zero k) (insert-split k (character i) s.characters);
    still = rw still;
  }

  pub altered_spliced : {x : Toggle} {k : ℕ} → Target s x k → Spliced body starts k 1 (carry_out done s (toggle x)).state
  unfolding carry_out with_characters integrate_toggle
  altered_spliced {x} {k} q =
      let a = one_altered x s.characters q.apart k q.at in
      record {
        old = s.characters;
        spelled = p;
        place = omega (arith, a.there);
        row = a.row;
        result = rw (add-one k) a.result;
        still = still;
      }
