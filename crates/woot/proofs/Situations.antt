-- The tables of situations hold by computation, straight from the definitions. Each state is computed to its end
-- before the next call, so that no call is computed again for each look at what it left.
use mathlib.Core.Bool.{Bool}
use mathlib.Core.Path.{◌≡◌, refl, ap, ap₂, sym, ◌∙◌}
use mathlib.Core.List.{List, [], ◌∷◌, ◌++◌, map}
use Rattle.utf8.specs.Encoding.{encoded_length, continuation, one_byte, two_bytes, three_bytes, four_bytes, encode}
use Rattle.woot.specs.Identifiers.{same, below}
use Rattle.woot.specs.Operations.{sender, character, origin, is_visible, with_toggles, toggled_by, same_insert, same_toggle, same_operation}
use Rattle.woot.specs.Ranges.{within, site_number, is_code_point, character_id, previous_id, next_id, site_in_range, insert_in_range, toggle_in_range, in_range, character_in_range}
use Rattle.woot.specs.State.{initial}
use Rattle.woot.specs.Placing.{sequence, index_of, place_of, held, above, adjacent, candidate, candidates, narrowed, search, position, between, insert_at, integrate_insert, integrate_toggle}
use Rattle.woot.specs.Pending.{executable, crossed, unplaceable, integrate, pending_from, earliest, and_integrated, and_discarded, drained, drain_steps, drain}
use Rattle.woot.specs.Form.{present_inserts, all_in_range, shares_kept, capacity_kept, identifiers_distinct, toggles_distinct, ordered, neighbours_ordered, none_executable, clock_reaches, clock_kept, well_formed}
use Rattle.woot.specs.Clock.{own_insert, heard}
use Rattle.answers.specs.Answers.{number, reply, changes, decided}
use Rattle.woot.specs.Sending.{answer_of}
use Rattle.woot.specs.Calls.{unchanged, all_integrated, with_characters, with_pending, after_drain, insert_carried, duplicate, conflicting, sender_full, document_full, receive_checks, carry_out, defer, accept, receive_when, receive, visibles, next_identifier, generated_insert, beyond_visible, identifier_taken, insert_checks, send_insert, local_insert_when, local_insert, toggles_of, generated_toggle, send_toggle, not_visible, delete_checks, generated_delete, local_delete_when, local_delete, not_hidden, exhausted, restore_checks, local_restore_when, local_restore}
use Rattle.woot.specs.Cursor.{through, visible_through, cursor_after, receive_at_checks, receive_at_when, receive_at, new_gap, shift_of, shift_at}
use Rattle.woot.specs.Text.{unprintable, printed, encoded, text}
use Rattle.woot.specs.Histories.{outcome}
use Rattle.woot.specs.declared.Identifier.{Identifier}
use Rattle.woot.specs.declared.Character.{Character}
use Rattle.woot.specs.declared.Operation.{Operation}
use Rattle.woot.specs.State.{State}
use Rattle.woot.specs.Placing.{identifiers}
use Rattle.answers.specs.Answers.{Reply}
use Rattle.woot.specs.Histories.{Call, run, integrated_by}
use Rattle.woot.specs.Situations.{Given, calling, carrying, showing, pointing, Seen, calls, operations, bytes, shifted, replies, seen, Situation, table, slip_cases, answer_cases, clock_cases, toggle_cases, cursor_cases, SituationsHold, full, FullTells, LowestShift, TypedElsewhere, CasesTell, LargestTells, CheckingOrder}

-- k at xs, whose cells are computed first
whole : {A B : Type 0} → List A → (List A → B) → B
whole [] k = k []
whole (x ∷ xs) k = whole xs (λ ys. k (x ∷ ys))

whole_same : {A B : Type 0} (xs : List A) (k : List A → B) → whole xs k ≡ k xs
unfolding whole
whole_same [] k = refl
whole_same (x ∷ xs) k = whole_same xs (λ ys. k (x ∷ ys))

-- k at s, whose lists are computed first
settled : {B : Type 0} → State → (State → B) → B
settled s k =
    whole s.characters (λ cs. whole s.pending (λ ps. k (record { site = s.site; characters = cs; pending = ps })))

settled_same : {B : Type 0} (s : State) (k : State → B) → settled s k ≡ k s
unfolding settled
settled_same s k = whole_same s.characters _ ∙ whole_same s.pending _

-- k at what is carried out, state by state
carried_in : {B : Type 0} → State → List Call → (List Operation → B) → B
carried_in s [] k = k []
carried_in s (c ∷ cs) k = let r = outcome s c in settled r.state (λ t. carried_in t cs (λ os. k (all_integrated r ++ os)))

carried_same : {B : Type 0} (s : State) (cs : List Call) (k : List Operation → B) → carried_in s cs k ≡ k (integrated_by s cs)
unfolding carried_in
carried_same s [] k = refl
carried_same s (c ∷ cs) k =
    settled_same (outcome s c).state _ ∙ carried_same (outcome s c).state cs (λ os. k (all_integrated (outcome s c) ++ os))

-- k at the replies and the identifiers, state by state
stepped : {B : Type 0} → State → List Call → (List Reply → List Identifier → B) → B
stepped s [] k = k [] (identifiers s.characters)
stepped s (c ∷ cs) k =
    let r = outcome s c in
    settled r.state (λ t. stepped t cs (λ rs xs. k (reply r.answer ∷ rs) xs))

stepped_same : {B : Type 0} (s : State) (cs : List Call) (k : List Reply → List Identifier → B) → stepped s cs k ≡ k (replies s cs) (identifiers (run s cs).characters)
unfolding stepped
stepped_same s [] k = refl
stepped_same s (c ∷ cs) k =
    settled_same (outcome s c).state _
    ∙ stepped_same (outcome s c).state cs (λ rs xs. k (reply (outcome s c).answer ∷ rs) xs)

computed : Given → Seen
computed (calling s cs) = stepped s cs calls
computed (carrying s cs) = carried_in s cs operations
computed (showing s cs) = bytes (text (run s cs).characters)
computed (pointing s o g) = shifted (reply (receive_at s o g).answer) (shift_at s o g)

computed_same : (g : Given) → computed g ≡ seen g
unfolding computed seen
computed_same (calling s cs) = stepped_same s cs calls
computed_same (carrying s cs) = carried_same s cs operations
computed_same (showing s cs) = refl
computed_same (pointing s o g) = refl

all_computed : (ts : List Situation) → map (λ t. seen t.given) ts ≡ map (λ t. computed t.given) ts
all_computed [] = refl
all_computed (t ∷ ts) = ap₂ (λ a bs. a ∷ bs) (sym (computed_same t.given)) (all_computed ts)

all : SituationsHold × CasesTell × LowestShift × TypedElsewhere
unfolding table carried_in slip_cases answer_cases clock_cases toggle_cases cursor_cases whole settled stepped computed encoded_length continuation one_byte two_bytes three_bytes four_bytes encode unprintable printed encoded text same below sender character origin is_visible with_toggles toggled_by same_insert same_toggle same_operation within site_number is_code_point character_id previous_id next_id site_in_range insert_in_range toggle_in_range in_range character_in_range initial sequence index_of place_of held above adjacent candidate candidates narrowed search position between insert_at integrate_insert integrate_toggle executable crossed unplaceable integrate pending_from earliest and_integrated and_discarded drained drain_steps drain present_inserts all_in_range shares_kept capacity_kept identifiers_distinct toggles_distinct ordered neighbours_ordered none_executable clock_reaches clock_kept own_insert heard well_formed reply answer_of unchanged decided all_integrated with_characters with_pending after_drain insert_carried duplicate conflicting sender_full document_full receive_checks carry_out defer accept receive_when receive visibles next_identifier generated_insert beyond_visible identifier_taken insert_checks send_insert local_insert_when local_insert toggles_of generated_toggle send_toggle not_visible delete_checks generated_delete local_delete_when local_delete not_hidden exhausted restore_checks local_restore_when local_restore outcome through visible_through cursor_after changes receive_at_checks receive_at_when receive_at new_gap shift_of shift_at
all = (all_computed table ∙ refl, (all_computed slip_cases ∙ refl, all_computed answer_cases ∙ refl, all_computed clock_cases ∙ refl, all_computed toggle_cases ∙ refl, all_computed cursor_cases ∙ refl), sym (computed_same _) ∙ refl, (refl, refl, refl, refl))

pub situations_hold : SituationsHold
situations_hold = all.0

pub cases_tell : CasesTell
cases_tell = all.1

pub lowest-shift : LowestShift
lowest-shift = all.2

pub typed_elsewhere : TypedElsewhere
typed_elsewhere = all.3

pub largest_tells : LargestTells
unfolding same
largest_tells = (refl, refl, refl)

-- a call on the full state goes down its rows a few times
pub full_tells : FullTells
unfolding full same sender character origin is_visible same_insert same_toggle same_operation within site_number is_code_point character_id previous_id next_id insert_in_range toggle_in_range in_range sequence index_of place_of held above adjacent search position between executable crossed unplaceable pending_from present_inserts reply answer_of unchanged decided duplicate conflicting sender_full document_full receive_checks carry_out defer accept receive_when visibles next_identifier generated_insert beyond_visible identifier_taken insert_checks local_insert_when
full_tells = (refl, refl, refl, refl, refl, refl, refl)

pub checking_order : (formed : Bool) (s : State) → CheckingOrder formed s
unfolding receive_checks receive_at_checks insert_checks delete_checks restore_checks reply answer_of
checking_order formed s = record { receiving-meets = λ o. refl; receiving-at-meets = λ o g. refl; inserting-meets = λ g n. refl; deleting-meets = λ p. refl; restoring-meets = λ x. refl; receiving-rises = λ o. refl; receiving-at-rises = λ o g. refl; inserting-rises = λ g n. refl; deleting-rises = λ p. refl; restoring-rises = λ x. refl }
