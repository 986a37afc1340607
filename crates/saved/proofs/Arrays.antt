-- A state as arrays of numbers hold it: within them it is the state as it is stored, and above them neither is in form.
use Prim.Native.Nat.{◌≤◌}
use mathlib.Core.Path.{◌≡◌, refl, sym, ap, ◌∙◌}
use mathlib.Core.Bool.{Bool, true, false}
use native.Mathlib.Omega.{arith}
use lib.Dec.{leb}
use lib.ListN.{length}
use lib.Seq.{take_all}
use borrow.Author.Tests.{leb-true, leb-false}
use Rattle.lists.specs.Lists.{every}
use Rattle.lists.proofs.Members.{every_member}
use Rattle.lists.proofs.Tests.{fails, and_left_lem, and_right, three}
use Rattle.woot.specs.declared.Replica.{Replica}
use Rattle.woot.specs.Ranges.{site_in_range, character_in_range, in_range}
use Rattle.woot.specs.State.{State}
use Rattle.woot.specs.Memory.{character_slots, pending_slots}
use Rattle.woot.specs.Memory.{meaning, document_of, stored, counted, table_agrees, replica_well_formed}
use Rattle.woot.specs.Form.{all_in_range, well_formed, raised}
use Rattle.index.proofs.Keys.{all-range-small}
use Rattle.memory.proofs.Operations.{all_keyed}
use Rattle.replica.proofs.Runs.{Within, formed-within, form_stored, meaning-stored}
use Rattle.saved.specs.Format.{state_as, character_within, in_range_as}
use Rattle.saved.specs.Calls.{loaded_as}
use Rattle.saved.specs.Calls.{fitting, in_arrays, raised_in_arrays, saved_read}
use Rattle.saved.specs.Theorems.{RaisedForm, ArraysForm, ReadForm}
use Rattle.saved.proofs.Refusals.{read_done, read_well}

-- the lists are within the arrays
pub record Fits (s : State) : Type 0 where
  pub characters-fit : length s.characters ≤ character_slots
  pub pending-fit : length s.pending ≤ pending_slots

-- a replica with the counts of a state, which is the state as it is stored where its lists fit
pub record Holding (s : State) (r : Replica) : Type 0 where
  pub rows-counted : r.document.length ≡ length s.characters
  pub pending-counted : r.document.waiting ≡ length s.pending
  pub whole : Fits s → r ≡ stored s

module _ (s : State) (r : Replica) (held : Holding s r) where
  not-counted : (Fits s → ⊥) → replica_well_formed r ≡ false
  unfolding replica_well_formed counted
  not-counted h = fails (replica_well_formed r) (λ p. h (fit (three (counted r) (well_formed (meaning r)) (table_agrees r) p).0))
    where
      fit : counted r ≡ true → Fits s
      fit q =
          let few = leb r.document.length character_slots in
          let fewer = leb r.document.waiting pending_slots in
          record {
            characters-fit = omega (arith, held.rows-counted, leb-true r.document.length character_slots (and_left_lem few fewer q));
            pending-fit = omega (arith, held.pending-counted, leb-true r.document.waiting pending_slots (and_right few fewer q));
          }

  module _ (rows : every character_in_range s.characters ≡ true) (waiting : every in_range s.pending ≡ true) where
    within_arrays : Fits s → Within s
    within_arrays w =
        record {
          characters-fit = w.characters-fit;
          pending-fit = w.pending-fit;
          storable = record {
            characters = all-range-small s.characters (λ c m. every_member character_in_range rows m);
            pending = all_keyed s.pending waiting;
          };
        }

    form_so : replica_well_formed r ≡ well_formed s
    form_so = go (leb (length s.characters) character_slots) (leb (length s.pending) pending_slots) refl refl
      where
        apart_so : (Fits s → ⊥) → replica_well_formed r ≡ well_formed s
        apart_so h =
            not-counted h
            ∙ sym (fails (well_formed s) (λ p. let w = formed-within s p in h (record { characters-fit = w.characters-fit; pending-fit = w.pending-fit })))

        go : (a b : Bool) → leb (length s.characters) character_slots ≡ a → leb (length s.pending) pending_slots ≡ b
            → replica_well_formed r ≡ well_formed s
        go true true p q =
            let w : Fits s = record {
              characters-fit = leb-true (length s.characters) character_slots p;
              pending-fit = leb-true (length s.pending) pending_slots q;
            } in
            ap replica_well_formed (held.whole w) ∙ form_stored s (within_arrays w)
        go true false p q = apart_so (λ w. omega (arith, w.pending-fit, leb-false (length s.pending) pending_slots q))
        go false b p q = apart_so (λ w. omega (arith, w.characters-fit, leb-false (length s.characters) character_slots p))

  means_so : well_formed s ≡ true → (r ≡ stored s) × (meaning r ≡ s)
  means_so h =
      let w = formed-within s h in
      let e = held.whole (record { characters-fit = w.characters-fit; pending-fit = w.pending-fit }) in
      (e, ap meaning e ∙ meaning-stored s w)

module _ (s : State) where
  -- as it stands, and with its clock raised
  arrays_hold : Holding s (in_arrays s)
  unfolding in_arrays fitting stored document_of
  arrays_hold =
      record {
        rows-counted = refl;
        pending-counted = refl;
        whole = λ w. rw (take_all 1024 s.characters w.characters-fit, take_all 512 s.pending w.pending-fit);
      }

  raised-holds : Holding (raised s) (raised_in_arrays s)
  unfolding raised_in_arrays in_arrays fitting stored raised document_of
  raised-holds =
      record {
        rows-counted = refl;
        pending-counted = refl;
        whole = λ w. rw (take_all 1024 s.characters w.characters-fit, take_all 512 s.pending w.pending-fit);
      }

  -- the ranges of its lists, which raising leaves as they are
  lists_ranged : all_in_range s ≡ true → (every character_in_range s.characters ≡ true) × (every in_range s.pending ≡ true)
  unfolding all_in_range
  lists_ranged h =
      let w = three (site_in_range s.site) (every character_in_range s.characters) (every in_range s.pending) h in
      (w.1, w.2)

pub arrays_form : ArraysForm
arrays_form s = (
  λ h. let w = lists_ranged s h in form_so s (in_arrays s) (arrays_hold s) w.0 w.1,
  means_so s (in_arrays s) (arrays_hold s),
)

pub raised_form : RaisedForm
unfolding raised
raised_form s = (
  λ h. let w = lists_ranged s h in form_so (raised s) (raised_in_arrays s) (raised-holds s) w.0 w.1,
  means_so (raised s) (raised_in_arrays s) (raised-holds s),
)

pub read_form : ReadForm
unfolding loaded_as in_range_as
read_form v s h =
    let w = read_well v s h in
    let e : (saved_read v s).replica ≡ raised_in_arrays (state_as v s) = ap (λ x. x.replica) (read_done v s w.0 w.1) in
    let ranged = and_right (every (character_within v) (state_as v s).characters) (all_in_range (state_as v s)) w.1 in
    let f = raised_form (state_as v s) in (
      ap replica_well_formed e ∙ f.0 ranged,
      λ p. (e ∙ (f.1 p).0, ap meaning e ∙ (f.1 p).1),
    )
