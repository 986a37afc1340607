-- The insert between two keys: they are the keys of the neighbours that the rules give it, and have the bits of theirs.
use Prim.Native.Nat.{ℕ, ◌<◌}
use mathlib.Core.Path.{◌≡◌, ap, ◌∙◌}
use mathlib.Core.Bool.{true}
use mathlib.Core.List.{[], ◌∷◌, ◌++◌}
use lib.ListN.{get_or}
use Rattle.woot.specs.declared.Site.{Site}
use Rattle.woot.specs.declared.Insert.{Insert}
use Rattle.woot.specs.declared.Operation.TheVariants.{Insert as insert}
use Rattle.woot.specs.Identifiers.{begin, end}
use Rattle.woot.specs.Ranges.{previous_id, next_id, insert_in_range, in_range}
use Rattle.woot.specs.State.{State}
use Rattle.woot.specs.Calls.{visibles, next_identifier, generated_insert}
use Rattle.woot.specs.Table.{key}
use Rattle.woot.specs.Memory.{identifier}
use Rattle.convergence.proofs.Ranges.{in-range}
use Rattle.memory.proofs.Characters.{identifier-key}
use Rattle.memory.proofs.Operations.{KeyedInsert, range_keyed}
use Rattle.memory.proofs.Bits.{previous_bits, next_bits}

module _ (s : State) (g n : ℕ) (ranged : insert_in_range (generated_insert s g n) ≡ true) (left right : ℕ)
    (a : left ≡ key (get_or (begin ∷ visibles s.characters) g begin)) (b : right ≡ key (get_or (visibles s.characters ++ end ∷ []) g end)) where
  abbrev here : Insert
  here = generated_insert s g n

  sides : KeyedInsert here
  unfolding in_range
  sides = range_keyed (insert here) ranged

  previous-told : identifier left ≡ here.previous
  unfolding generated_insert
  previous-told = ap identifier a ∙ identifier-key here.previous sides.previous

  next-told : identifier right ≡ here.next
  unfolding generated_insert
  next-told = ap identifier b ∙ identifier-key here.next sides.next

  pub left_bits : left < 16777216
  left_bits = previous_bits left (ap previous_id previous-told ∙ (in-range here ranged).previous)

  pub right_bits : right < 16777216
  right_bits = next_bits right (ap next_id next-told ∙ (in-range here ranged).next)

  pub insert_made : (t : Site) → t ≡ s.site → {i : Insert}
      → i ≡ record { id = next_identifier t; code_point = n; previous = identifier left; next = identifier right } → i ≡ here
  unfolding generated_insert
  insert_made t h e =
      e ∙ (λ j. record { id = next_identifier (h j); code_point = n; previous = previous-told j; next = next-told j })
