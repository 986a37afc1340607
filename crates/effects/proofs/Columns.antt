-- The inserts that a block typed are read back from the columns that hold their characters: these are the columns of the
-- operations, in as many slots.
use Prim.Native.Nat.{ℕ, ◌≤◌}
use native.Mathlib.Omega.{arith}
use mathlib.Core.Path.{◌≡◌, refl, ap, ap₂, ◌∙◌}
use mathlib.Core.Bool.{true}
use mathlib.Core.List.{List, [], ◌∷◌, map}
use lib.ListN.{length, length-map}
use Rattle.lists.specs.Lists.{every}
use Rattle.lists.specs.Padding.{pad}
use Rattle.lists.proofs.Padding.{pad-length}
use Rattle.woot.specs.declared.Insert.{Insert}
use Rattle.woot.specs.declared.Operation.{Operation}
use Rattle.woot.specs.declared.Operation.TheVariants.{Insert as insert}
use Rattle.woot.specs.declared.Character.{Character}
use Rattle.woot.specs.declared.Replica.{Replica}
use Rattle.answers.specs.declared.Answer.{Answer}
use Rattle.woot.specs.Operations.{character, inserts}
use Rattle.woot.specs.Ranges.{in_range}
use Rattle.woot.specs.State.{State}
use Rattle.woot.specs.Table.{key, keys}
use Rattle.woot.specs.Memory.{character_slots, previous_keys, next_keys, code_points_of, own_key, first_key, second_key, value_of, in_columns}
use Rattle.memory.proofs.Views.{first-column, second-column, third-column, fourth_column}
use Rattle.memory.proofs.Operations.{all_keyed}
use Rattle.memory.proofs.Stored.{operations-back}
use Rattle.typing.specs.Columns.{characters_by, typed_columns}
use Rattle.saved.specs.Format.{saved_bytes}
use Rattle.saved.specs.Calls.{bytes_of}
use Rattle.saving.specs.Documents.{operations_among, lines_in}
use Rattle.effects.specs.Effects.{sending_all}
use Rattle.effects.specs.Steps.{lines_left}

-- a number of a character is one of the insert that brought it
same-column : (f : Character → ℕ) (h : Operation → ℕ) → ((i : Insert) → f (character i) ≡ h (insert i)) → (is : List Insert) →
    map f (map character is) ≡ map h (map insert is)
same-column f h e [] = refl
same-column f h e (i ∷ is) = ap₂ (λ (n : ℕ) (ns : List ℕ). n ∷ ns) (e i) (same-column f h e is)

module _ (os : List Operation) (ranged : every in_range os ≡ true) (all : map insert (inserts os) ≡ os) (few : length os ≤ character_slots) where
  abbrev cs : List Character
  cs = characters_by os

  column-of : (f : Character → ℕ) (h : Operation → ℕ) → ((i : Insert) → f (character i) ≡ h (insert i)) → map f cs ≡ map h os
  column-of f h e = same-column f h e (inserts os) ∙ ap (map h) all

  wide : (f : Character → ℕ) → length (pad character_slots 0 (map f cs)) ≡ character_slots
  wide f =
      pad-length character_slots 0 (map f cs)
      (omega (arith, length-map cs f, length-map (inserts os) character, length-map (inserts os) insert, ap length all, few))

  pub inserts-back : operations_among (typed_columns os) (length os) ≡ os
  unfolding operations_among typed_columns in_columns character own_key first_key second_key value_of
  inserts-back =
      let i = wide (λ c. key c.id) in
      let p = wide (λ c. key c.previous) in
      let n = wide (λ c. key c.next) in
      let t = wide (λ c. c.code_point) in
      let m = character_slots in
      let ws = pad m 0 (keys cs) in
      let xs = pad m 0 (previous_keys cs) in
      let ys = pad m 0 (next_keys cs) in
      let zs = pad m 0 (code_points_of cs) in
      rw (
        first-column m ws xs ys zs i p n t,
        second-column m ws xs ys zs i p n t,
        third-column m ws xs ys zs i p n t,
        fourth_column m ws xs ys zs i p n t,
        column-of (λ c. key c.id) own_key (λ j. refl),
        column-of (λ c. key c.previous) first_key (λ j. refl),
        column-of (λ c. key c.next) second_key (λ j. refl),
        column-of (λ c. c.code_point) value_of (λ j. refl),
      )
      (operations-back character_slots os (all_keyed os ranged))

-- so the lines are theirs, and the sheet is the one of the state that the replica holds
pub lines_left_lem : (s : State) (a : Answer) (x : Replica) (typed : List ℕ) (os : List Operation) (out line : List ℕ) →
    ((os ≡ [] → ⊥) → bytes_of x ≡ saved_bytes s) → operations_among typed (length os) ≡ os →
    sending_all s a os out line ≡ lines_left a x typed (length os) out line
unfolding sending_all lines_left lines_in
lines_left_lem s a x typed [] out line saved back = refl
lines_left_lem s a x typed (o ∷ os) out line saved back =
    rw (saved (λ e. let z : ◌≡◌ {A = ℕ} 0 1 = cc in omega arith), back)
