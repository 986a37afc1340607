-- `keystroke::type_next` makes the insert, looks for its place, puts it in with what it releases, and counts the visible
-- characters through it.
use Rattle.std.proofs.Common.{ℕ, ◌+◌, ◌≡◌, ap, sym, ◌∙◌, subst, Some}
use native.Mathlib.Omega.{arith}
use Rattle.woot.specs.declared.Insert.{Insert}
use Rattle.woot.specs.Placing.{integrate_insert}
use Rattle.woot.specs.Cursor.{visible_through}
use Rattle.woot.specs.Calls.{generated_insert}
use Rattle.woot.specs.Table.{key}
use Rattle.woot.specs.Memory.{identifier}
use Rattle.memory.specs.Columns.{Replica, meaning, characters_in, operations_in}
use Rattle.memory.specs.Lent.{viewed, Slots}
use Rattle.memory.proofs.Fullness.{full-view}
use Rattle.integration.specs.declared.Placement.TheVariants.{Below}
use Rattle.integration.specs.Placements.{placement_of}
use Rattle.well_formed.proofs.Examining.{few, examined_tabled, ids_used, toggles_used}
use Rattle.delivery.specs.Steps.{place_of}
use Rattle.delivery.specs.Work.{work_in, finished, PlacedAs}
use Rattle.keystroke.specs.declared.Typing.{Typing}
use Rattle.keystroke.specs.Steps.{OneTyped}
use Rattle.keystroke.proofs.Taking.{front-keys, examined, made, same-site, neighboured, found_below, found_nowhere, placeable, placed-there}
use Rattle.keystroke.proofs.Taking.{integrated_next, discarded_next, balance_next, stored_next, few-next, below_next}
use Rattle.keystroke.proofs.type_next.Goals.{After-find_place-placement, After-put_in-done}
use Rattle.keystroke.proofs.type_next.Goals as goal

pub make-insert-requires-clause-length_le_character_slots : goal.make-insert-requires-clause-length_le_character_slots
make-insert-requires-clause-length_le_character_slots c =
    (few _ (examined (viewed c.args.replica.now) (full-view _ c.requires.full) _ _ c.requires.typeable)).characters

pub make-insert-requires-clause-n_in_bounds : goal.make-insert-requires-clause-n_in_bounds
make-insert-requires-clause-n_in_bounds c =
    let before = (few _ (examined (viewed c.args.replica.now) (full-view _ c.requires.full) _ _ c.requires.typeable)).characters in
    omega (arith, before, c.requires.full.toggles)

pub make-insert-requires-clause-neighboured : goal.make-insert-requires-clause-neighboured
make-insert-requires-clause-neighboured c =
    neighboured (viewed c.args.replica.now) (full-view _ c.requires.full) _ _ c.requires.typeable

pub find_place-placement-requires-clause-n_le_character_slots :
    goal.find_place-placement-requires-clause-n_le_character_slots
find_place-placement-requires-clause-n_le_character_slots c =
    (few _ (examined (viewed c.args.replica.now) (full-view _ c.requires.full) _ _ c.requires.typeable)).characters

pub find_place-placement-requires-clause-tabled : goal.find_place-placement-requires-clause-tabled
find_place-placement-requires-clause-tabled c =
    examined_tabled _ (examined (viewed c.args.replica.now) (full-view _ c.requires.full) _ _ c.requires.typeable)

-- ---- the insert with its place

module _ (c : After-find_place-placement) where
  -- the replica as its columns
  abbrev given : Replica
  given = viewed c.args.replica.now

  slots : Slots given.document
  slots = full-view _ c.requires.full

  -- the insert that the rules make
  abbrev ruled : Insert
  ruled = generated_insert (meaning given) c.args.at.point c.args.code_point

  inserted-is : c.make-insert.result ≡ ruled
  inserted-is =
      let x = examined given slots _ _ c.requires.typeable in
      c.make-insert.ensures (meaning given) (same-site given slots _ _ c.requires.typeable) (sym (ids_used _ x)) (sym (toggles_used _ x)) (made given slots _ _ c.requires.typeable).ranged

  placed_at : (k : ℕ) → place_of c.find_place-placement.result ≡ Some k → placement_of (meaning given).characters ruled ≡ Below k
  placed_at k told = found_below given slots _ _ c.requires.typeable inserted-is _ c.find_place-placement.ensures k told

  placed-here : (k : ℕ) → place_of c.find_place-placement.result ≡ Some k
      → PlacedAs given.document c.make-insert.result k (characters_in given.document) (operations_in given.document)
  placed-here k told =
      subst (λ (i : Insert). PlacedAs given.document i k (characters_in given.document) (operations_in given.document)) (sym inserted-is)
      (placed-there given slots _ _ c.requires.typeable k (placed_at k told))

pub put_in-done-requires-clause-insertable : goal.put_in-done-requires-clause-insertable
put_in-done-requires-clause-insertable c =
    let f = (goal.at.put_in-done-requires-clause-insertable c).After-find_place-placement in
    record { characters = _; pending = _; placed = placed-here f _ (sym c.place_of.ensures ∙ c.in_ok-k.was) }

pub returns-in_err-k-clause-value : goal.returns-in_err-k-clause-value
unfolding OneTyped
returns-in_err-k-clause-value c =
    let f = (goal.at.returns-in_err-k-clause-value c).After-find_place-placement in
    rw c.from_residual.ensures
    (found_nowhere (given f) (slots f) _ _ c.requires.typeable (inserted-is f) _ f.find_place-placement.ensures (sym c.place_of.ensures ∙ c.in_err-k.was))

-- ---- what is left where the insert stands

-- the place is one, and what is left is what putting it in leaves
module _ (c : After-put_in-done) where
  abbrev before : Replica
  before = viewed c.args.replica.now

  worked : (i : Insert) → c.make-insert.result ≡ i
      → PlacedAs before.document c.make-insert.result c.in_ok-k.k (characters_in before.document) (operations_in before.document)
      → work_in c.put_in-done.new.document c.put_in-done.result ≡ finished (integrate_insert (characters_in before.document) i) (operations_in before.document) 1 0
  worked i is placed =
      c.put_in-done.ensures.value _ _ placed
      ∙ ap (λ (j : Insert). finished (integrate_insert (characters_in before.document) j) (operations_in before.document) 1 0) is

pub visible_through-point-requires-clause-n_in_bounds : goal.visible_through-point-requires-clause-n_in_bounds
visible_through-point-requires-clause-n_in_bounds c =
    let f = (goal.at.visible_through-point-requires-clause-n_in_bounds c).After-find_place-placement in
    let told = sym c.place_of.ensures ∙ c.in_ok-k.was in
    let before = (few _ (examined (given f) (slots f) _ _ c.requires.typeable)).characters in
    let e = worked (goal.at.visible_through-point-requires-clause-n_in_bounds c).After-put_in-done _ (inserted-is f) (placed-here f _ told) in
    omega (arith, few-next (given f) (slots f) _ _ c.requires.typeable _ (placed_at f _ told) e, before, c.put_in-done.ensures.full_after.characters)

pub visible_through-point-requires-clause-n_in_bounds_2 : goal.visible_through-point-requires-clause-n_in_bounds_2
visible_through-point-requires-clause-n_in_bounds_2 c =
    let f = (goal.at.visible_through-point-requires-clause-n_in_bounds_2 c).After-find_place-placement in
    let told = sym c.place_of.ensures ∙ c.in_ok-k.was in
    let before = (few _ (examined (given f) (slots f) _ _ c.requires.typeable)).characters in
    let e = worked (goal.at.visible_through-point-requires-clause-n_in_bounds_2 c).After-put_in-done _ (inserted-is f) (placed-here f _ told) in
    omega (arith, few-next (given f) (slots f) _ _ c.requires.typeable _ (placed_at f _ told) e, before, c.put_in-done.ensures.full_after.toggles)

pub further-requires-clause-integrated_bound : goal.further-requires-clause-integrated_bound
further-requires-clause-integrated_bound c =
    let f = (goal.at.further-requires-clause-integrated_bound c).After-find_place-placement in
    let told = sym c.place_of.ensures ∙ c.in_ok-k.was in
    let e = worked (goal.at.further-requires-clause-integrated_bound c).After-put_in-done _ (inserted-is f) (placed-here f _ told) in
    omega (arith, balance_next (given f) (slots f) _ _ c.requires.typeable _ (placed_at f _ told) e, c.requires.waiting_bound)

pub further-requires-clause-discarded_bound : goal.further-requires-clause-discarded_bound
further-requires-clause-discarded_bound c =
    let f = (goal.at.further-requires-clause-discarded_bound c).After-find_place-placement in
    let told = sym c.place_of.ensures ∙ c.in_ok-k.was in
    let e = worked (goal.at.further-requires-clause-discarded_bound c).After-put_in-done _ (inserted-is f) (placed-here f _ told) in
    omega (arith, balance_next (given f) (slots f) _ _ c.requires.typeable _ (placed_at f _ told) e, c.requires.waiting_bound)

pub returns-clause-value : goal.returns-clause-value
unfolding OneTyped
returns-clause-value c =
    let place = (goal.at.returns-clause-value c).After-find_place-placement in
    let r = given place in
    let s = slots place in
    let t = c.requires.typeable in
    let told = sym c.place_of.ensures ∙ c.in_ok-k.was in
    let p = placed_at place _ told in
    let is = inserted-is place in
    let e = worked (goal.at.returns-clause-value c).After-put_in-done _ is (placed-here place _ told) in
    let d = c.put_in-done.new.document in
    let f = c.further.ensures in
    let seen = c.visible_through-point.ensures.value in
    let below =
    below_next r s _ _ t _ p e
    (λ cs k q sm. seen cs (k ∙ sym (front-keys d.characters _ (few-next r s _ _ t _ p e))) q sm
    ∙ ap (λ (x : ℕ). visible_through cs (identifier x)) (c.key.ensures.value ∙ ap (λ (i : Insert). key i.id) is))
    in
    record {
      placed = placeable r s _ _ t _ p;
      made = is;
      left = stored_next r s _ _ t _ p e;
      below = ap (λ (v : Typing). v.point) f ∙ below;
      integrated = ap (λ (v : Typing). v.integrated) f ∙ ap (λ (m : ℕ). c.args.at.integrated + m) (integrated_next r s _ _ t _ p e);
      discarded = ap (λ (v : Typing). v.discarded) f ∙ ap (λ (m : ℕ). c.args.at.discarded + m) (discarded_next r s _ _ t _ p e);
      balance =
          omega (
            arith,
            balance_next r s _ _ t _ p e,
            ap (λ (v : Typing). v.integrated) f,
            ap (λ (v : Typing). v.discarded) f,
          );
    }
