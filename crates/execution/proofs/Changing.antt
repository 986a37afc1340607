-- What a change asks of a replica that was examined, and what it holds afterwards.
use Prim.Native.Nat.{ℕ, ◌<◌}
use native.Mathlib.Omega.{arith}
use native.Mathlib.Numerals.{one-add}
use native.Mathlib.Nat.{zero-add}
use mathlib.Core.Path.{◌≡◌, refl, ap, sym, ◌∙◌}
use mathlib.Core.List.{[], ◌∷◌, ◌++◌}
use lib.ListN.{length}
use Rattle.woot.specs.Memory.{character_numbers, pending_numbers}
use Rattle.woot.specs.declared.Document.{Document as InMemory}
use Rattle.woot.specs.declared.Site.{Site}
use Rattle.woot.specs.declared.Insert.{Insert}
use Rattle.woot.specs.declared.Toggle.{Toggle}
use Rattle.woot.specs.declared.Operation.{Operation}
use Rattle.woot.specs.declared.Operation.TheVariants.{Insert as insert, Toggle as toggle}
use Rattle.answers.specs.declared.Answer.{Answer}
use Rattle.woot.specs.Operations.{inserts}
use Rattle.woot.specs.Clock.{heard, heard_all}
use Rattle.woot.specs.Placing.{integrate_insert, integrate_toggle}
use Rattle.woot.specs.Calls.{all_integrated, insert_carried, after_drain, with_characters, with_pending, carry_out, defer}
use Rattle.memory.specs.Columns.{Document, Replica, meaning, stored, document_of, characters_in, operations_in}
use Rattle.memory.specs.Lent.{document_as, view, FullDocument}
use Rattle.well_formed.specs.Examined.{Examined}
use Rattle.well_formed.proofs.Examining.{few, form, characters-counted, pending-counted, examined_tabled}
use Rattle.delivery.specs.Work.{SameLengths, Lent, Work, work_of, finished, Placed as Placeable, Targeted}
use Rattle.reception.specs.Decisions.{Executed, Feasible}
use Rattle.reception.specs.declared.Decision.{Decision}
use Rattle.reception.specs.declared.Decision.TheVariants.{Answered, Defer, Place, Toggle as toggleAt}
use Rattle.execution.specs.Outcomes.{Left, left_of, left_by}

-- ---- lengths

pub same_lengths : {d e : InMemory} → FullDocument d → FullDocument e → SameLengths d e
same_lengths a b =
    record {
      characters = a.characters ∙ sym b.characters;
      toggles = a.toggles ∙ sym b.toggles;
      pending = a.pending ∙ sym b.pending;
      heads = a.heads ∙ sym b.heads;
      links = a.links ∙ sym b.links;
    }

-- the lengths of what is lent are told but for two
pub full_lent : {d : InMemory} → length d.characters ≡ character_numbers → length d.pending ≡ pending_numbers → Lent (view d) → FullDocument d
full_lent a b l =
    record {
      characters = a;
      toggles = l.slots.toggles;
      pending = b;
      heads = l.slots.heads;
      links = l.slots.links;
    }

-- ---- what was examined

lent : (r : Replica) → Examined r → Lent r.document
unfolding meaning
lent r e =
    let f = few r e in
    record {
      slots = e.slots;
      few = f.characters;
      few-pending = f.pending;
      ranged = (form r e).sound.pending-ranges;
      tabled = examined_tabled r e;
    }

-- ---- what is asked

module _ (r : Replica) where
  -- by the kinds that a branch tells
  pub told : {o p : Operation} {d e : Decision} → Feasible r o d → o ≡ p → d ≡ e → Feasible r p e
  told h a c = rw (a, c) at h

  pub defer-lent : (o : Operation) → Feasible r o Defer → Lent r.document
  unfolding Feasible
  defer-lent o h = lent r h.0

  pub defer-slot : (o : Operation) → Feasible r o Defer → r.document.waiting < 512
  unfolding Feasible
  defer-slot o h = omega (arith, h.1, pending-counted r h.0)

  pub placeable : (i : Insert) (k : ℕ) → Feasible r (insert i) (Place k) → Placeable r.document i k
  unfolding Feasible Executed meaning
  placeable i k h =
      let p = h.1 in
      record {
        lent = lent r h.0;
        place = omega (arith, p.place, characters-counted r h.0);
        room = omega (arith, p.room, characters-counted r h.0);
        result = p.result;
        sound = p.sound;
      }

  pub targeted : (t : Toggle) (k : ℕ) → Feasible r (toggle t) (toggleAt k) → Targeted r.document t k
  unfolding Feasible Executed meaning
  targeted t k h = record { lent = lent r h.0; place = h.1.at; apart = h.1.apart }

  -- what cannot be
  pub no_place : {A : Type 0} (t : Toggle) (k : ℕ) → Feasible r (toggle t) (Place k) → A
  unfolding Feasible Executed
  no_place t k h = absurd h

  pub no_target : {A : Type 0} (i : Insert) (k : ℕ) → Feasible r (insert i) (toggleAt k) → A
  unfolding Feasible Executed
  no_target i k h = absurd h

  -- ---- what is left

  pub answered_left : (o : Operation) (a : Answer) → ◌≡◌ {A = Left} (record { replica = r; integrated = 0; discarded = 0 }) (left_by r o (Answered a))
  unfolding left_by
  answered_left o a = refl

  -- a document with another count of pending operations
  abbrev with_waiting : ℕ → Document → Document
  with_waiting w d =
      document_as d.ids d.previous d.next d.code_points d.toggles d.length
      d.own d.firstKeys d.secondKeys d.values w d.table.heads d.table.links

  module _ (d : Document) (t : Site) where
    -- the document with the count that is handed back, which is its own
    pub deferred_left : (o : Operation) (w : ℕ) → t ≡ heard_all r.site (inserts (o ∷ []))
        → d ≡ document_of (characters_in r.document) (operations_in r.document ++ o ∷ [])
        → w ≡ d.waiting
        → ◌≡◌ {A = Left} (record { replica = record { site = t; document = with_waiting w d }; integrated = 0; discarded = 0 }) (left_by r o Defer)
    unfolding left_by left_of defer with_pending stored meaning all_integrated
    deferred_left o w h e same =
        λ j. record { replica = record { site = h j; document = (ap (λ (m : ℕ). with_waiting m d) same ∙ e) j }; integrated = 0; discarded = 0 }

    pub integrated_left : (i : Insert) (k n m : ℕ) → Feasible r (insert i) (Place k) → t ≡ heard r.site i
        → ◌≡◌ {A = Work} (record { document = d; integrated = n; discarded = m }) (finished (integrate_insert (characters_in r.document) i) (operations_in r.document) 1 0)
        → ◌≡◌ {A = Left} (record { replica = record { site = t; document = d }; integrated = n; discarded = m }) (left_by r (insert i) (Place k))
    unfolding Feasible Executed left_by left_of carry_out after_drain insert_carried stored meaning all_integrated finished work_of
    integrated_left i k n m f h e =
        λ j.
        record {
          replica = record { site = (h ∙ sym f.1.still) j; document = ap (λ (w : Work). w.document) e j };
          integrated = (ap (λ (w : Work). w.integrated) e ∙ one-add _) j;
          discarded = (ap (λ (w : Work). w.discarded) e ∙ zero-add _) j;
        }

  pub toggled-left : (d : Document) (x : Toggle) (k : ℕ) → d ≡ document_of (integrate_toggle (characters_in r.document) x) (operations_in r.document)
      → ◌≡◌ {A = Left} (record { replica = record { site = r.site; document = d }; integrated = 1; discarded = 0 }) (left_by r (toggle x) (toggleAt k))
  unfolding left_by left_of carry_out with_characters stored meaning all_integrated
  toggled-left d x k e = λ j. record { replica = record { site = r.site; document = e j }; integrated = 1; discarded = 0 }
