-- What inserting here makes is what the rules say: its checks, in their order, and the insert between two keys.
use Prim.Native.Nat.{ℕ, ◌≤◌, ◌<◌}
use mathlib.Core.Path.{◌≡◌, refl, sym}
use mathlib.Core.Bool.{Bool, true, false, cond}
use mathlib.Core.List.{List}
use borrow.Author.Tests.{lt-ltb, le-ltb, le-leb, lt-leb}
use lib.Dec.{leb}
use lib.ListN.{length, take}
use Rattle.lists.proofs.Tests.{clash}
use Rattle.woot.specs.declared.Insert.{Insert}
use Rattle.woot.specs.declared.Operation.TheVariants.{Insert as insert}
use Rattle.woot.specs.declared.Character.{Character}
use Rattle.answers.specs.declared.Refusal.TheVariants.{Position, Clock, Unplaceable as placeless, DocumentFull}
use Rattle.memory.specs.Columns.{Replica}
use Rattle.woot.specs.Limits.{last_clock}
use Rattle.woot.specs.Ranges.{is_code_point}
use Rattle.woot.specs.State.{State}
use Rattle.woot.specs.Pending.{unplaceable}
use Rattle.answers.specs.Answers.{decided}
use Rattle.woot.specs.Cursor.{left_of}
use Rattle.woot.specs.Calls.{unchanged, visibles, next_identifier, generated_insert, beyond_visible, document_full, insert_checks, send_insert, local_insert_when}
use Rattle.woot.specs.Table.{key}
use Rattle.woot.specs.Memory.{identifier, toggle_counts}
use Rattle.memory.specs.Columns.{meaning}
use Rattle.convergence.specs.Invariants.{Made}
use Rattle.convergence.proofs.Forms.{Formed}
use Rattle.convergence.proofs.InsertionPoint.{right_of}
use Rattle.convergence.proofs.Steps.{Addable, space_insert, formed_untaken, generated_made}
use Rattle.integration.specs.declared.Placement.{Placement}
use Rattle.integration.specs.declared.Placement.TheVariants.{Missing, Crossed, Unplaceable, Below}
use Rattle.integration.specs.Placements.{placement_of}
use Rattle.integration.proofs.Placements.{says}
use Rattle.well_formed.specs.Examined.{Examined}
use Rattle.well_formed.proofs.Examining.{form, toggles_used, room-counted}
use Rattle.reception.specs.declared.Decision.TheVariants.{Place}
use Rattle.reception.specs.Decisions.{full_in, Executed}
use Rattle.reception.proofs.Inserting.{addable_placed}
use Rattle.generation.proofs.Neighbours as neighbours
use Rattle.generation.specs.Decisions.{sent_in, MadeFor, InsertMade}
use Rattle.std.proofs.Common.{Ok, Err}

-- ---- what inserting is, by the conditions of its list

module _ (s : State) (g n : ℕ) (coded : is_code_point n ≡ true) where
  beyond : beyond_visible s g ≡ true → local_insert_when true s g n ≡ unchanged s (Err Position)
  unfolding local_insert_when insert_checks decided
  beyond e = rw (coded, e)

  module _ (visible : beyond_visible s g ≡ false) where
    late : leb last_clock s.site.clock ≡ true → local_insert_when true s g n ≡ unchanged s (Err Clock)
    unfolding local_insert_when insert_checks decided
    late e = rw (coded, visible, e)

    module _ (early : leb last_clock s.site.clock ≡ false) (f : Formed s) where
      nowhere : unplaceable s.characters (insert (generated_insert s g n)) ≡ true
          → local_insert_when true s g n ≡ unchanged s (Err placeless)
      unfolding local_insert_when insert_checks decided
      nowhere e = rw (coded, visible, early, formed_untaken s f, e)

      module _ (placed : unplaceable s.characters (insert (generated_insert s g n)) ≡ false) where
        full : document_full s (insert (generated_insert s g n)) ≡ true → local_insert_when true s g n ≡ unchanged s (Err DocumentFull)
        unfolding local_insert_when insert_checks decided
        full e = rw (coded, visible, early, formed_untaken s f, placed, e)

        carried : document_full s (insert (generated_insert s g n)) ≡ false → local_insert_when true s g n ≡ send_insert s (generated_insert s g n)
        unfolding local_insert_when insert_checks decided
        carried e = rw (coded, visible, early, formed_untaken s f, placed, e)

module _ (r : Replica) (x : Examined r) (g n : ℕ) (coded : is_code_point n ≡ true) where
  -- ---- the tests

  module _ (count : ℕ) (e : (cs : List Character) → toggle_counts cs ≡ take r.document.length r.document.toggles → count ≡ length (visibles cs)) where
    counted : count ≡ length (visibles (meaning r).characters)
    counted = e (meaning r).characters (sym (toggles_used r x))

    pub insert_beyond : count < g → InsertMade r g n (Err Position)
    unfolding MadeFor beyond_visible
    insert_beyond h = rw x.form (beyond (meaning r) g n coded (rw (← counted) (lt-ltb count g h)))

    pub insert-within : g ≤ count → beyond_visible (meaning r) g ≡ false
    unfolding beyond_visible
    insert-within h = rw (← counted) (le-ltb count g h)

  module _ (visible : beyond_visible (meaning r) g ≡ false) where
    pub insert_late : last_clock ≤ r.site.clock → InsertMade r g n (Err Clock)
    unfolding MadeFor meaning
    insert_late h = rw x.form (late (meaning r) g n coded visible (le-leb last_clock r.site.clock h))

    module _ (low : r.site.clock < last_clock) where
      early : leb last_clock (meaning r).site.clock ≡ false
      unfolding meaning
      early = lt-leb last_clock r.site.clock low

      -- ---- the insert

      abbrev here : Insert
      here = generated_insert (meaning r) g n

      made : Made (meaning r) here
      made = generated_made (meaning r) g n (form r x) coded visible early (formed_untaken (meaning r) (form r x))

      module _ (left right : ℕ) (a : left ≡ key (left_of (meaning r).characters g)) (b : right ≡ key (right_of (meaning r).characters g)) where
        pub left_bits : left < 16777216
        left_bits = neighbours.left_bits (meaning r) g n made.ranged left right a b

        pub right_bits : right < 16777216
        right_bits = neighbours.right_bits (meaning r) g n made.ranged left right a b

        -- what is made between the two keys
        pub insert_made : (i : Insert)
            → i ≡ record { id = next_identifier r.site; code_point = n; previous = identifier left; next = identifier right } → i ≡ here
        unfolding meaning
        insert_made i e = neighbours.insert_made (meaning r) g n made.ranged left right a b r.site refl e

      -- ---- its place

      by-room : (k : ℕ) → placement_of (meaning r).characters here ≡ Below k → (b : Bool) → document_full (meaning r) (insert here) ≡ b
          → InsertMade r g n (cond b (Err DocumentFull) (Ok (insert here, Place k)))
      unfolding MadeFor Executed send_insert
      by-room k p true q =
          rw x.form (full (meaning r) g n coded visible early (form r x) (says (meaning r).characters here (Below k) p).2 q)
      by-room k p false q =
          let placeable = (says (meaning r).characters here (Below k) p).2 in
          let able : Addable (meaning r) here =
          record {
            formed = form r x;
            ranged = made.ranged;
            fresh = made.fresh;
            space = space_insert (meaning r) here q;
            ready = made.ready;
            uncrossed = made.uncrossed;
            placeable = placeable;
          }
          in
          rw x.form (carried (meaning r) g n coded visible early (form r x) placeable q, (x, addable_placed (meaning r) here k able p))

      placed-decided : (p : Placement) → p ≡ placement_of (meaning r).characters here
          → InsertMade r g n (sent_in r.document.length (take r.document.waiting r.document.own) here p)
      unfolding sent_in MadeFor full_in document_full
      placed-decided Missing e = clash made.ready (says (meaning r).characters here Missing (sym e))
      placed-decided Crossed e = clash (says (meaning r).characters here Crossed (sym e)).1 made.uncrossed
      placed-decided Unplaceable e =
          rw x.form (nowhere (meaning r) g n coded visible early (form r x) (says (meaning r).characters here Unplaceable (sym e)).2)
      placed-decided (Below k) e = rw (room-counted r x) (by-room k (sym e) _ refl)

      pub sent-decided : (i : Insert) → i ≡ here → (p : Placement) → p ≡ placement_of (meaning r).characters i
          → InsertMade r g n (sent_in r.document.length (take r.document.waiting r.document.own) i p)
      sent-decided i e p q = rw e (placed-decided p (rw e at q))
