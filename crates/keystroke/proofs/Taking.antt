-- One character typed on a replica that is in form and has room for it: the insert, its place, the state that is left and
-- the next gap are those of the rules' typing call.
use Prim.Native.Nat.{ℕ, suc, ◌+◌, ◌≤◌, ◌<◌}
use native.Mathlib.Nat.{zero-add}
use native.Mathlib.Numerals.{one-add}
use native.Mathlib.Omega.{arith}
use mathlib.Core.Path.{◌≡◌, refl, ap, sym, ◌∙◌}
use mathlib.Core.Bool.{Bool, true, false, cond}
use mathlib.Core.List.{List, [], ◌∷◌}
use borrow.Author.Tests.{lt-leb}
use lib.Dec.{leb}
use lib.ListN.{length, take}
use lib.Seq.{take-take}
use Rattle.lists.proofs.Tests.{clash, and_left_lem}
use Rattle.woot.specs.declared.Insert.{Insert}
use Rattle.woot.specs.declared.Operation.TheVariants.{Insert as insert}
use Rattle.woot.specs.declared.Character.{Character}
use Rattle.answers.specs.declared.Refusal.TheVariants.{Unplaceable as nowhere}
use Rattle.answers.specs.declared.Answer.{Answer}
use Rattle.answers.specs.declared.Answer.TheVariants.{Done, Refused}
use Rattle.woot.specs.Limits.{last_clock}
use Rattle.woot.specs.Ranges.{is_code_point, in_range}
use Rattle.woot.specs.State.{State}
use Rattle.woot.specs.Placing.{integrate_insert}
use Rattle.woot.specs.Pending.{unplaceable}
use Rattle.woot.specs.Form.{well_formed}
use Rattle.answers.specs.Answers.{done, reply}
use Rattle.woot.specs.Calls.{Outcome, unchanged, all_integrated, insert_carried, after_drain, carry_out, next_identifier, generated_insert}
use Rattle.woot.specs.Cursor.{visible_through}
use Rattle.woot.specs.Histories.{inserting, outcome}
use Rattle.bulk.specs.Pasting.{gap_below}
use Rattle.woot.specs.Table.{key, keys}
use Rattle.woot.specs.Memory.{identifier, previous_keys, next_keys, toggle_counts, key_column}
use Rattle.memory.specs.Columns.{Replica, meaning, stored, document_of, characters_in, operations_in}
use Rattle.memory.specs.Lent.{Slots}
use Rattle.memory.proofs.Characters.{identifier-key}
use Rattle.memory.proofs.Operations.{range_keyed}
use Rattle.memory.proofs.Stored.{Parts, document-parts, form_meant}
use Rattle.convergence.specs.Invariants.{Made}
use Rattle.convergence.proofs.Forms.{formed}
use Rattle.convergence.proofs.Draining.{drained_balance}
use Rattle.convergence.proofs.Steps.{Addable, after-insert, formed_untaken, generated_made}
use Rattle.convergence.proofs.Kept.{form_kept}
use Rattle.convergence.proofs.Hearing.{typing_advances}
use Rattle.convergence.proofs.Typings.{Ready, state_after, typed-plain, typed-done}
use Rattle.std.proofs.Common.{Some, None}
use Rattle.index.specs.Keys.{AllSmall}
use Rattle.index.proofs.Sound.{sound-small}
use Rattle.integration.specs.declared.Placement.{Placement}
use Rattle.integration.specs.declared.Placement.TheVariants.{Missing, Crossed, Unplaceable, Below}
use Rattle.integration.specs.Placements.{placement_of}
use Rattle.integration.proofs.Placements.{says}
use Rattle.well_formed.specs.Examined.{Examined}
use Rattle.well_formed.proofs.Examining.{form, small, characters-counted, pending-counted, ids_used, previous_used, next_used, toggles_used}
use Rattle.reception.specs.Decisions.{Placed}
use Rattle.reception.proofs.Inserting.{addable_placed}
use Rattle.delivery.specs.Steps.{place_of}
use Rattle.delivery.specs.Work.{Work, work_of, finished, PlacedAs}
use Rattle.delivery.proofs.Works.{used}
use Rattle.delivery.proofs.Stepping.{at-below}
use Rattle.keystroke.specs.Steps.{Typeable, Neighboured}

-- the keys in use at the front of the array are those in use of its first column
pub front-keys : (xs : List ℕ) (n : ℕ) → n ≤ 1024 → take n xs ≡ take n (key_column xs)
front-keys xs n h = sym (take-take n 1024 xs h)

module _ (r : Replica) (slots : Slots r.document) (g n : ℕ) (x : Typeable r g (n ∷ [])) where
  abbrev here : Insert
  here = generated_insert (meaning r) g n

  abbrev next : State
  next = state_after (meaning r) g n

  pub examined : Examined r
  examined = record { form = x.form; slots = slots }

  coded : is_code_point n ≡ true
  coded = and_left_lem (is_code_point n) true x.coded

  pub low : r.site.clock < last_clock
  low = omega (arith, x.clock)

  early : leb last_clock (meaning r).site.clock ≡ false
  unfolding meaning
  early = lt-leb last_clock r.site.clock low

  ready : Ready (meaning r) g 1
  unfolding meaning
  ready = record { form = form_meant r x.form; gap = x.gap; clock = x.clock; space = x.space }

  -- ---- the insert

  pub made : Made (meaning r) here
  made = generated_made (meaning r) g n (form r examined) coded x.gap early (formed_untaken (meaning r) (form r examined))

  pub same-site : r.site ≡ (meaning r).site
  unfolding meaning
  same-site = refl

  pub neighboured : Neighboured r g n
  neighboured =
      record {
        state = meaning r;
        site = same-site;
        keyed = sym (ids_used r examined);
        toggled = sym (toggles_used r examined);
        ranged = made.ranged;
      }

  -- ---- its place

  module _ {i : Insert} (is : i ≡ here) (p : Placement)
      (f : (cs : List Character) → take r.document.length r.document.ids ≡ keys cs
      → take r.document.length r.document.previous ≡ previous_keys cs
      → take r.document.length r.document.next ≡ next_keys cs → AllSmall cs → p ≡ placement_of cs i) where
    sought : placement_of (meaning r).characters here ≡ p
    sought =
        sym (f (meaning r).characters (ids_used r examined) (previous_used r examined) (next_used r examined) (small r examined)
        ∙ ap (placement_of (meaning r).characters) is)

    pub found_below : (k : ℕ) → place_of p ≡ Some k → placement_of (meaning r).characters here ≡ Below k
    found_below k e = sought ∙ at-below p k e

    pub found_nowhere : place_of p ≡ None → unplaceable (meaning r).characters (insert here) ≡ true
    found_nowhere e = go p sought e
      where
        go : (q : Placement) → placement_of (meaning r).characters here ≡ q → place_of q ≡ None
            → unplaceable (meaning r).characters (insert here) ≡ true
        go Missing h z = clash made.ready (says (meaning r).characters here Missing h)
        go Crossed h z = clash (says (meaning r).characters here Crossed h).1 made.uncrossed
        go Unplaceable h z = (says (meaning r).characters here Unplaceable h).2
        go (Below k) h z = absurd (let y : ◌≡◌ {A = ℕ} 0 1 = cc in omega arith)

  module _ (k : ℕ) (at : placement_of (meaning r).characters here ≡ Below k) where
    pub placeable : unplaceable (meaning r).characters (insert here) ≡ false
    placeable = (says (meaning r).characters here (Below k) at).2

    there : Placed (meaning r) here k
    there =
        let able : Addable (meaning r) here =
        record {
          formed = form r examined;
          ranged = made.ranged;
          fresh = made.fresh;
          space = omega (arith, x.space);
          ready = made.ready;
          uncrossed = made.uncrossed;
          placeable = placeable;
        }
        in
        addable_placed (meaning r) here k able at

    tidy_parts : Parts r.document (characters_in r.document) (operations_in r.document)
    unfolding stored meaning
    tidy_parts = document-parts (ap (λ (q : Replica). q.document) x.tidy)

    pub placed-there : PlacedAs r.document here k (characters_in r.document) (operations_in r.document)
    unfolding meaning
    placed-there =
        let t = tidy_parts in
        let p = there in
        record {
          swept =
              record {
                ids = t.ids;
                previous = t.previous;
                next = t.next;
                points = t.points;
                toggles = t.toggles;
                length-is = t.length-is;
                own = t.own;
                firstKeys = t.firstKeys;
                secondKeys = t.secondKeys;
                values = t.values;
                waiting-is = t.waiting-is;
              };
          toggles = slots.toggles;
          heads = slots.heads;
          links = slots.links;
          place = omega (arith, p.place, characters-counted r examined);
          room = omega (arith, p.room, characters-counted r examined);
          result = p.result;
          sound = p.sound;
        }

    -- ---- what is left

    carried : outcome (meaning r) (inserting g n) ≡ carry_out Done (meaning r) (insert here)
    carried = typed-plain (meaning r) g n 0 ready coded ∙ ap after placeable
      where
        after : Bool → Outcome Answer
        after b = cond b (unchanged (meaning r) (Refused nowhere)) (carry_out Done (meaning r) (insert here))

    pub all_done : (reply (outcome (meaning r) (inserting g n)).answer).word ≡ done
    all_done = typed-done (meaning r) g n 0 ready coded placeable

    formed-next : well_formed next ≡ true
    formed-next = form_kept (meaning r) (inserting g n) (form_meant r x.form)

    module _ {w : Work} (e : w ≡ finished (integrate_insert (characters_in r.document) here) (operations_in r.document) 1 0) where
      document-next : w.document ≡ document_of next.characters next.pending
      unfolding finished work_of meaning insert_carried carry_out after_drain
      document-next =
          ap (λ (v : Work). v.document) e
          ∙ sym (ap (λ (o : Outcome Answer). document_of o.state.characters o.state.pending) carried)

      pub integrated_next : w.integrated ≡ length (all_integrated (outcome (meaning r) (inserting g n)))
      unfolding finished work_of meaning insert_carried carry_out all_integrated
      integrated_next =
          ap (λ (v : Work). v.integrated) e ∙ one-add _
          ∙ sym (ap (λ (o : Outcome Answer). length (all_integrated o)) carried)

      pub discarded_next : w.discarded ≡ length (outcome (meaning r) (inserting g n)).discarded
      unfolding finished work_of meaning insert_carried carry_out
      discarded_next =
          ap (λ (v : Work). v.discarded) e ∙ zero-add _
          ∙ sym (ap (λ (o : Outcome Answer). length o.discarded) carried)

      pub balance_next : w.integrated + w.discarded + w.document.waiting ≡ suc r.document.waiting
      unfolding finished work_of document_of meaning insert_carried
      balance_next =
          omega (
            arith,
            ap (λ (v : Work). v.integrated) e,
            ap (λ (v : Work). v.discarded) e,
            ap (λ (v : Work). v.document.waiting) e,
            drained_balance (after-insert (meaning r) here),
            pending-counted r examined,
          )

      pub stored_next : ◌≡◌ {A = Replica}
          (record { site = record { number = r.site.number; clock = r.site.clock + 1 }; document = w.document }) (stored next)
      unfolding stored meaning
      stored_next =
          λ j. record { site = sym (typing_advances (meaning r) g n all_done) j; document = document-next j }

      parts_next : Parts w.document next.characters next.pending
      parts_next = document-parts document-next

      pub few-next : w.document.length ≤ 1024
      few-next = omega (arith, parts_next.length-is, (formed next formed-next).sound.room)

      -- ---- the next gap

      pub below_next : {point : ℕ}
          → ((cs : List Character) → keys cs ≡ take w.document.length w.document.ids
          → toggle_counts cs ≡ take w.document.length w.document.toggles → AllSmall cs
          → point ≡ visible_through cs (identifier (key here.id)))
          → point ≡ gap_below next (next_identifier (meaning r).site)
      unfolding gap_below generated_insert in_range
      below_next f =
          f next.characters
          (sym (used 1024 (λ (c : Character). key c.id) next.characters w.document.length parts_next.ids parts_next.length-is))
          (sym (used 1024 (λ (c : Character). c.toggles) next.characters w.document.length parts_next.toggles parts_next.length-is))
          (sound-small (formed next formed-next).sound)
          ∙ ap (visible_through next.characters) (identifier-key (next_identifier (meaning r).site) (omega (arith, low-next)))
        where
          low-next : (next_identifier (meaning r).site).clock < 65536
          low-next = (range_keyed (insert here) made.ranged).id
