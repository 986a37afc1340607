-- An insert beside another that is given by its numbers: each comparison of keys is one of identifiers.
use Prim.Native.Nat.{ℕ, ◌+◌, ◌*◌, ◌<◌}
use native.Mathlib.Omega.{arith}
use mathlib.Core.Path.{◌≡◌, sym, ap, ap₂, ◌∙◌}
use mathlib.Core.Bool.{Bool, ◌&&◌}
use mathlib.Core.List.{List}
use lib.Dec.{eqb}
use lib.ListN.{get_or}
use Rattle.woot.specs.declared.Identifier.{Identifier}
use Rattle.woot.specs.declared.Insert.{Insert}
use Rattle.woot.specs.Identifiers.{same}
use Rattle.woot.specs.Operations.{origin, same_insert}
use Rattle.woot.specs.Table.{key}
use Rattle.woot.specs.Memory.{identifier, character_of, column}
use Rattle.index.specs.Keys.{Small}
use Rattle.index.proofs.Keys.{key-same}
use Rattle.memory.proofs.Characters.{key-identifier, identifier-small}
use Rattle.memory.proofs.Views.{column-at}
use Rattle.holder.specs.Holder.{insert_in}

pub key-told : (x : Identifier) (k r : ℕ) → (r ≡ key x) × Small x → eqb r k ≡ same x (identifier k)
key-told x k r h = ap₂ eqb h.0 (sym (key-identifier k)) ∙ key-same x (identifier k) h.1 (identifier-small k)

pub insert-read : (i : Insert) (a p n c : ℕ) {q r s t : Bool} → same i.id (identifier a) ≡ q → eqb i.code_point c ≡ r
    → same i.previous (identifier p) ≡ s
    → same i.next (identifier n) ≡ t
    → same_insert i (origin (character_of a p n c 0)) ≡ q && r && s && t
unfolding same_insert origin character_of
insert-read i a p n c e f g h = λ k. e k && f k && g k && h k

-- the insert in a slot of four columns has the numbers that lie there
pub in-columns : (m : ℕ) (xs : List ℕ) (k : ℕ) → k < m
    → insert_in (column m 0 xs) (column m 1 xs) (column m 2 xs) (column m 3 xs) k
    ≡ origin (character_of (get_or xs k 0) (get_or xs (m + k) 0) (get_or xs (2 * m + k) 0) (get_or xs (3 * m + k) 0) 0)
in-columns m xs k h =
    let first : 0 * m + k ≡ k = omega arith in
    let second : 1 * m + k ≡ m + k = omega arith in
    let a = column-at m 0 xs k h ∙ ap (λ (n : ℕ). get_or xs n 0) first in
    let p = column-at m 1 xs k h ∙ ap (λ (n : ℕ). get_or xs n 0) second in
    λ i. origin (character_of (a i) (p i) (column-at m 2 xs k h i) (column-at m 3 xs k h i) 0)
