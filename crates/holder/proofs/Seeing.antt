-- What a received insert is: the one that has its identifier decides.
use Prim.Native.Nat.{ℕ, ◌+◌, ◌*◌, ◌/◌, ◌%◌}
use native.Mathlib.Omega.{arith}
use mathlib.Core.Path.{◌≡◌, sym, ◌∙◌}
use mathlib.Core.Bool.{Bool, true, false, cond}
use mathlib.Core.List.Memᴰ
use mathlib.Core.List.{map}
use lib.Dec.{eqb}
use Rattle.woot.specs.declared.Insert.{Insert}
use Rattle.woot.specs.declared.Operation.{Operation}
use Rattle.woot.specs.declared.Operation.TheVariants.{Insert as insert, Toggle as toggle}
use Rattle.memory.specs.Columns.{Replica}
use Rattle.woot.specs.Operations.{origin, inserts}
use Rattle.woot.specs.Ranges.{character_id, insert_in_range}
use Rattle.woot.specs.State.{blank_operation}
use Rattle.woot.specs.Form.{present_inserts}
use Rattle.woot.specs.Memory.{identifier, character_of, operation_of}
use Rattle.memory.specs.Columns.{meaning}
use Rattle.convergence.proofs.Ranges.{in-range}
use Rattle.well_formed.specs.Examined.{Examined}
use Rattle.well_formed.proofs.Examining.{form, pending-read}
use Rattle.holder.specs.declared.Holder.TheVariants.{Character as ofCharacter, Pending as ofPending, Nobody}
use Rattle.holder.specs.declared.Seen.TheVariants.{New}
use Rattle.holder.specs.Holder.{insert_in, compared_to, seen_of}
use Rattle.holder.proofs.Named.{seen-held, seen-new}
use Rattle.holder.proofs.Having.{Has, nobody, pending-within, in_slot, character_member, character-named}

-- numbers that stand for an insert are those of its own
numbers_insert : (a b c v : ℕ) (j : Insert) → operation_of a b c v ≡ insert j → origin (character_of a b c v 0) ≡ j
unfolding operation_of origin character_of
numbers_insert a b c v j e = go (eqb a 0) e
  where
    other : Operation
    other = toggle (record { sender = c * 256 + v / 256; target = identifier b; toggles = v % 256 })

    here : Insert
    here = record { id = identifier a; code_point = v; previous = identifier b; next = identifier c }

    go : (t : Bool) → cond t other (insert here) ≡ insert j → here ≡ j
    go true p = absurd (let z : ◌≡◌ {A = ℕ} 0 1 = cc in omega arith)
    go false p = cc

module _ (r : Replica) (x : Examined r) (i : Insert) (ranged : insert_in_range i ≡ true) where
  abbrev id_ranged : character_id i.id ≡ true
  id_ranged = (in-range i ranged).id

  pub seen-character : (k : ℕ) → Has r x i.id id_ranged (ofCharacter k)
      → compared_to i (insert_in r.document.ids r.document.previous r.document.next r.document.code_points k) ≡ seen_of (meaning r) i
  unfolding present_inserts origin character_of
  seen-character k h =
      let m = Memᴰ.append_left (inserts (meaning r).pending) (Memᴰ.map origin (character_member r x i.id id_ranged k h)) in
      sym (seen-held (meaning r) i (form r x) (origin (in_slot r x i.id id_ranged k h)) m (character-named r x i.id id_ranged k h))

  pub seen-pending : (j : ℕ) → Has r x i.id id_ranged (ofPending j)
      → compared_to i (insert_in r.document.own r.document.firstKeys r.document.secondKeys r.document.values j) ≡ seen_of (meaning r) i
  unfolding present_inserts
  seen-pending j h =
      let read = pending-read r x j blank_operation (pending-within r x i.id id_ranged j h) in
      let here = numbers_insert _ _ _ _ _ (sym read ∙ h.1.at blank_operation) in
      let m = Memᴰ.append_right (map origin (meaning r).characters) h.1.member in
      rw here (sym (seen-held (meaning r) i (form r x) h.1.here m h.1.is))

  pub seen_nobody : Has r x i.id id_ranged Nobody → New ≡ seen_of (meaning r) i
  seen_nobody h = sym (seen-new (meaning r) i (nobody r x i.id id_ranged h))
