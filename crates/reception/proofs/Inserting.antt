-- What is decided of an insert: by what it is to the replica, and where that says nothing, by its place.
use Prim.Native.Nat.{ℕ}
use native.Mathlib.Omega.{arith}
use mathlib.Core.Path.{◌≡◌, refl, sym, subst}
use mathlib.Core.Bool.{Bool, true, false, cond}
use lib.ListN.{take}
use Rattle.woot.specs.declared.Insert.{Insert}
use Rattle.woot.specs.declared.Operation.TheVariants.{Insert as insert}
use Rattle.answers.specs.declared.Refusal.TheVariants.{Conflict, DocumentFull}
use Rattle.answers.specs.declared.Answer.TheVariants.{Duplicate, Refused}
use Rattle.memory.specs.Columns.{Replica}
use Rattle.woot.specs.Ranges.{insert_in_range, in_range}
use Rattle.woot.specs.State.{State}
use Rattle.woot.specs.Pending.{executable, crossed, unplaceable}
use Rattle.answers.specs.Answers.{changes}
use Rattle.woot.specs.Calls.{duplicate, conflicting, sender_full, document_full}
use Rattle.memory.specs.Columns.{meaning}
use Rattle.convergence.proofs.Soundness.{sound_in}
use Rattle.convergence.proofs.Steps.{Addable, drained-still, fresh_insert, space_insert}
use Rattle.integration.specs.declared.Placement.{Placement}
use Rattle.integration.specs.declared.Placement.TheVariants.{Missing, Crossed as crossing, Unplaceable as placeless, Below}
use Rattle.integration.specs.Placements.{placement_of}
use Rattle.integration.proofs.Placements.{says}
use Rattle.well_formed.specs.Examined.{Examined}
use Rattle.well_formed.proofs.Examining.{form, room-counted}
use Rattle.holder.specs.declared.Seen.{Seen}
use Rattle.holder.specs.declared.Seen.TheVariants.{New as unseen, Same, Other}
use Rattle.reception.specs.declared.Decision.{Decision}
use Rattle.reception.specs.declared.Decision.TheVariants.{Answered, Place}
use Rattle.holder.specs.Holder.{seen_of}
use Rattle.reception.specs.Decisions.{full_in, placed_in, Placed}
use Rattle.reception.proofs.Judging.{Decided}
use Rattle.reception.proofs.Deferring.{New, lacking_decided}
use Rattle.reception.proofs.Outcomes as outcomes

-- ---- what was seen

module _ (s : State) (i : Insert) where
  -- what each answer says
  abbrev SeenSays : Seen → Type 0
  SeenSays unseen = (duplicate s (insert i) ≡ false) × (conflicting s (insert i) ≡ false)
  SeenSays Same = duplicate s (insert i) ≡ true
  SeenSays Other = (duplicate s (insert i) ≡ false) × (conflicting s (insert i) ≡ true)

  seen-says : (t : Seen) → seen_of s i ≡ t → SeenSays t
  unfolding seen_of
  seen-says t e = subst SeenSays e (go (duplicate s (insert i)) refl (conflicting s (insert i)) refl)
    where
      go : (a : Bool) → duplicate s (insert i) ≡ a → (b : Bool) → conflicting s (insert i) ≡ b → SeenSays (cond a Same (cond b Other unseen))
      go true p b q = p
      go false p true q = (p, q)
      go false p false q = (p, q)

-- ---- an insert that may be carried out

pub addable_placed : (s : State) (i : Insert) (k : ℕ) → Addable s i → placement_of s.characters i ≡ Below k → Placed s i k
addable_placed s i k a p =
    let w = says s.characters i (Below k) p in
    record {
      place = w.4;
      room = omega (arith, a.space);
      result = w.3;
      sound = sound_in i a.formed.sound a.ranged a.fresh a.space a.ready a.uncrossed a.placeable;
      still = drained-still s i a;
    }

-- ---- what is decided

module _ (r : Replica) (x : Examined r) (i : Insert) where
  -- with the numbers of the replica
  abbrev numbered : Placement → Decision
  numbered = placed_in r.document.length (take r.document.waiting r.document.own) (take r.document.waiting r.document.values) i

  module _ (n : New (meaning r) (insert i)) where
    module _ (k : ℕ) (p : placement_of (meaning r).characters i ≡ Below k) where
      ready : executable (meaning r).characters (insert i) ≡ true
      ready = (says (meaning r).characters i (Below k) p).0

      uncrossed : crossed (meaning r).characters (insert i) ≡ false
      uncrossed = (says (meaning r).characters i (Below k) p).1

      placeable : unplaceable (meaning r).characters (insert i) ≡ false
      placeable = (says (meaning r).characters i (Below k) p).2

      prompt : sender_full (meaning r) (insert i) ≡ false
      unfolding sender_full
      prompt = rw ready

      by-room : (b : Bool) → document_full (meaning r) (insert i) ≡ b → Decided r (insert i) (cond b (Answered (Refused DocumentFull)) (Place k))
      unfolding Decided changes in_range
      by-room true q = (outcomes.document-full (meaning r) (insert i) n.ranged n.new n.sole uncrossed placeable prompt q, refl)
      by-room false q =
          let able : Addable (meaning r) i =
          record {
            formed = form r x;
            ranged = n.ranged;
            fresh = fresh_insert (meaning r) i n.new n.sole;
            space = space_insert (meaning r) i q;
            ready = ready;
            uncrossed = uncrossed;
            placeable = placeable;
          }
          in
          (outcomes.carried (meaning r) (insert i) n.ranged n.new n.sole uncrossed placeable prompt q ready, addable_placed (meaning r) i k able p)

    pub placed-decided : (p : Placement) → p ≡ placement_of (meaning r).characters i → Decided r (insert i) (numbered p)
    unfolding placed_in Decided changes full_in document_full
    placed-decided Missing e = lacking_decided r x (insert i) n (says (meaning r).characters i Missing (sym e))
    placed-decided crossing e =
        (outcomes.cross (meaning r) (insert i) n.ranged n.new n.sole (says (meaning r).characters i crossing (sym e)).1, refl)
    placed-decided placeless e =
        let w = says (meaning r).characters i placeless (sym e) in
        (outcomes.placeless (meaning r) (insert i) n.ranged n.new n.sole w.1 w.2, refl)
    placed-decided (Below k) e = rw (room-counted r x) (by-room k (sym e) _ refl)

  module _ (ranged : insert_in_range i ≡ true) where
    pub seen-new : seen_of (meaning r) i ≡ unseen → New (meaning r) (insert i)
    unfolding in_range
    seen-new e = let w = seen-says (meaning r) i unseen e in record { ranged = ranged; new = w.0; sole = w.1 }

    pub same-decided : seen_of (meaning r) i ≡ Same → Decided r (insert i) (Answered Duplicate)
    unfolding Decided changes in_range
    same-decided e = (outcomes.known (meaning r) (insert i) ranged (seen-says (meaning r) i Same e), refl)

    pub other-decided : seen_of (meaning r) i ≡ Other → Decided r (insert i) (Answered (Refused Conflict))
    unfolding Decided changes in_range
    other-decided e = let w = seen-says (meaning r) i Other e in (outcomes.conflict (meaning r) (insert i) ranged w.0 w.1, refl)
