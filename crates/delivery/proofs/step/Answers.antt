-- `delivery::step` carries out what it takes out: by the kind of the operation, and for an insert by its place.
use Rattle.std.proofs.Common.{refl, sym, ◌∙◌}
use native.Mathlib.Omega.{arith}
use Rattle.index.proofs.Sound.{sound-apart}
use Rattle.memory.proofs.Stored.{document-parts}
use Rattle.delivery.specs.Work.{work_in}
use Rattle.delivery.proofs.Works.{work_path, parts_swept}
use Rattle.delivery.proofs.Changes.{removed-parts, found-parts}
use Rattle.delivery.proofs.Stepping.{Goes, workable_parts, workable_few, workable_tabled, due_within, due_ranged, goes_at, goes_nowhere, toggles_becomes, toggles-found}
use Rattle.delivery.proofs.step.Goals.{Start, In-Some}
use Rattle.delivery.proofs.step.Goals as goal

pub operation_at-operation-requires-clause-j_lt_pending_slots :
    goal.operation_at-operation-requires-clause-j_lt_pending_slots
operation_at-operation-requires-clause-j_lt_pending_slots c =
    let k = c.requires.workable in
    omega (arith, due_within k _ c.requires.j_value, (workable_few k).1)

pub operation_at-operation-requires-clause-j_value : goal.operation_at-operation-requires-clause-j_value
operation_at-operation-requires-clause-j_value c = due_ranged c.requires.workable _ c.requires.j_value

pub remove-requires-clause-j_lt_w : goal.remove-requires-clause-j_lt_w
remove-requires-clause-j_lt_w c = due_within c.requires.workable _ c.requires.j_value

pub remove-requires-clause-w_le_pending_slots : goal.remove-requires-clause-w_le_pending_slots
remove-requires-clause-w_le_pending_slots c = (workable_few c.requires.workable).1

pub overflow_sub-document : goal.overflow_sub-document
overflow_sub-document c = omega (arith, due_within c.requires.workable _ c.requires.j_value)

pub find_place-placement-requires-clause-n_le_character_slots :
    goal.find_place-placement-requires-clause-n_le_character_slots
find_place-placement-requires-clause-n_le_character_slots c = (workable_few c.requires.workable).0

pub find_place-placement-requires-clause-tabled : goal.find_place-placement-requires-clause-tabled
find_place-placement-requires-clause-tabled c = workable_tabled c.requires.workable

-- where the insert that is due goes
goes : (c : In-Some) → Goes (work_in c.args.document.now c.args.counts) c.in-Insert.i c.args.j c.in-Some.k
goes c =
    goes_at c.requires.workable _ c.requires.j_value _ (sym c.operation_at-operation.ensures ∙ c.in-Insert.is) _ c.find_place-placement.ensures _
    (sym c.place_of.ensures ∙ c.in-Some.is)

pub place-requires-clause-k_le_length : goal.place-requires-clause-k_le_length
place-requires-clause-k_le_length c = (goes (goal.at.place-requires-clause-k_le_length c).In-Some).place

pub place-requires-clause-length_lt_character_slots : goal.place-requires-clause-length_lt_character_slots
place-requires-clause-length_lt_character_slots c =
    (goes (goal.at.place-requires-clause-length_lt_character_slots c).In-Some).room

pub overflow_add-result : goal.overflow_add-result
overflow_add-result c =
    let k = c.requires.workable in
    omega (arith, due_within k _ c.requires.j_value, k.integrated-fits)

pub overflow_add-result-in-None : goal.overflow_add-result-in-None
overflow_add-result-in-None c =
    let k = c.requires.workable in
    omega (arith, due_within k _ c.requires.j_value, k.discarded-fits)

pub carry_toggle-requires-clause-n_le_character_slots : goal.carry_toggle-requires-clause-n_le_character_slots
carry_toggle-requires-clause-n_le_character_slots c = (workable_few c.requires.workable).0

pub carry_toggle-requires-clause-n_in_bounds : goal.carry_toggle-requires-clause-n_in_bounds
carry_toggle-requires-clause-n_in_bounds c =
    omega (arith, (workable_few c.requires.workable).0, c.requires.full.toggles)

pub carry_toggle-requires-clause-tabled : goal.carry_toggle-requires-clause-tabled
carry_toggle-requires-clause-tabled c = workable_tabled c.requires.workable

pub overflow_add-result-in-Toggle : goal.overflow_add-result-in-Toggle
overflow_add-result-in-Toggle c =
    let k = c.requires.workable in
    omega (arith, due_within k _ c.requires.j_value, k.integrated-fits)

pub returns-in-Some-clause-value : goal.returns-in-Some-clause-value
returns-in-Some-clause-value c =
    let k = c.requires.workable in
    let e = c.remove.ensures in
    let p = removed-parts (workable_parts k) _ (due_within k _ c.requires.j_value) (workable_few k).1 e.pending_after e.pending_after_2 e.pending_after_3 e.pending_after_4 in
    work_path (document-parts (c.place.ensures.value _ _ (parts_swept p))) refl refl
    ∙ sym (goes (goal.at.returns-in-Some-clause-value c).In-Some).becomes

pub returns-in-None-clause-value : goal.returns-in-None-clause-value
returns-in-None-clause-value c =
    let k = c.requires.workable in
    let at = c.requires.j_value in
    let e = c.remove.ensures in
    let p = removed-parts (workable_parts k) _ (due_within k _ at) (workable_few k).1 e.pending_after e.pending_after_2 e.pending_after_3 e.pending_after_4 in
    let g = goes_nowhere k _ at _ (sym c.operation_at-operation.ensures ∙ c.in-Insert.is) _ c.find_place-placement.ensures (sym c.place_of.ensures ∙ c.in-None.is) in
    work_path p refl refl ∙ sym g

pub returns-in-Toggle-clause-value : goal.returns-in-Toggle-clause-value
returns-in-Toggle-clause-value c =
    let k = c.requires.workable in
    let at = c.requires.j_value in
    let e = c.remove.ensures in
    let p = removed-parts (workable_parts k) _ (due_within k _ at) (workable_few k).1 e.pending_after e.pending_after_2 e.pending_after_3 e.pending_after_4 in
    let is = sym c.operation_at-operation.ensures ∙ c.in-Toggle.is in
    work_path (found-parts p _ _ (sym (toggles-found k _ at _ is)) (sound-apart k.sound) c.carry_toggle.ensures) refl refl
    ∙ sym (toggles_becomes k _ at _ is)
