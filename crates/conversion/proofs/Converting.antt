-- What was read decides, in the order of the conditions; in form, the replica that was read means the state that is written.
use Rattle.std.proofs.Common.{Err, Ok}
use mathlib.Core.Path.{◌≡◌, sym, ap, ◌∙◌}
use mathlib.Core.List.{List, [], map}
use mathlib.Core.Bool.{Bool, true, false}
use mathlib.Core.Logic.{⊎_elim}
use Prim.Native.Nat.{ℕ}
use Rattle.answers.specs.declared.Refusal.{Refusal}
use Rattle.answers.specs.declared.Refusal.TheVariants.{Form, Unrepresentable}
use Rattle.woot.specs.Memory.{meaning, replica_well_formed, toggle_counts, own_key, value_of}
use Rattle.woot.specs.Form.{well_formed}
use Rattle.woot.specs.Writing.{written_as, output_after}
use Rattle.saved.specs.declared.Loaded.{Loaded}
use Rattle.saved.specs.declared.Version.{Version}
use Rattle.saved.specs.Format.{representable, bytes_as}
use Rattle.saved.specs.Calls.{loaded_as, saved_read}
use Rattle.saved.specs.Conversion.{converted, converted_out}
use Rattle.saved.proofs.Conversions.{lacks-layout, out_of_range_lem, out-of_form, not_said, said}
use Rattle.loading.proofs.Forming.{refused_for, both, form_is, means_so}
use lib.ListN.{take}
use Rattle.lists.specs.Lists.{every}
use Rattle.woot.specs.declared.Replica.{Replica}
use Rattle.woot.specs.State.{State}
use Rattle.woot.specs.Ranges.{in_range}
use Rattle.memory.specs.Lent.{viewed}
use Rattle.memory.proofs.Views.{meaning-view}
use Rattle.well_formed.specs.Examined.{Examined}
use Rattle.well_formed.proofs.Examining.{form, toggles_used, own_used, values_used}
use Rattle.memory.specs.Columns as columns

-- ---- by what was read

module _ (v w : Version) (s out : List ℕ) where
  -- an answer that leaves the slice, and one that fills it
  abbrev Turned : Refusal → Type 0
  Turned q = (Err q ≡ converted v w s out) × (out ≡ converted_out v w s out)

  abbrev Filled : List ℕ → Type 0
  Filled bytes = (written_as [] bytes out ≡ converted v w s out) × (output_after [] bytes out ≡ converted_out v w s out)

  module _ (x : Loaded) (e : x ≡ saved_read v s) where
    pub not-read : (q : Refusal) → x.answer ≡ Err q → Turned q
    not-read q h =
        ⊎_elim (λ r. rw r.1 (lacks-layout v w s out r.0)) (λ r. rw r.2 (out_of_range_lem v w s out r.0 r.1))
        (refused_for v s x e q h)

    module _ (h : x.answer ≡ Ok tt) where
      pub not-formed : replica_well_formed x.replica ≡ false → Turned Form
      not-formed p =
          let b = both v s x e h in
          out-of_form v w s out b.0 b.1 (sym (form_is v s x e h) ∙ p)

      module _ (p : replica_well_formed x.replica ≡ true) where
        formed : well_formed (loaded_as v s) ≡ true
        formed = sym (form_is v s x e h) ∙ p

        pub not-representable : representable w (meaning x.replica) ≡ false → Turned Unrepresentable
        not-representable r =
            let b = both v s x e h in
            not_said v w s out b.0 b.1 formed (ap (representable w) (sym (means_so v s x e h p)) ∙ r)

        pub written_so : representable w (meaning x.replica) ≡ true → Filled (bytes_as w (meaning x.replica))
        written_so r =
            let b = both v s x e h in
            let m = means_so v s x e h p in
            rw m (said v w s out b.0 b.1 formed (ap (representable w) (sym m) ∙ r))

-- ---- by the arrays

-- what is said of them is said of the replica
pub told-representable : (r : Replica) → Examined (viewed r) → (v : Version) {b : Bool}
    → ((s : State) → toggle_counts s.characters ≡ take r.document.length r.document.toggles
    → map own_key s.pending ≡ take r.document.waiting (viewed r).document.own
    → map value_of s.pending ≡ take r.document.waiting (viewed r).document.values
    → every in_range s.pending ≡ true → b ≡ representable v s)
    → b ≡ representable v (meaning r)
told-representable r x v said =
    said (columns.meaning (viewed r)) (sym (toggles_used (viewed r) x)) (sym (own_used (viewed r) x)) (sym (values_used (viewed r) x)) (form (viewed r) x).sound.pending-ranges
    ∙ ap (representable v) (sym (meaning-view r))
