-- A replica that there is room on, once its arrays are cleared: it means the same, and the characters can be typed on it.
use Prim.Native.Nat.{ℕ, ◌≤◌}
use native.Mathlib.Omega.{arith}
use mathlib.Core.Path.{◌≡◌, ap, sym, ◌∙◌, subst}
use mathlib.Core.Bool.{true}
use mathlib.Core.List.{List}
use lib.ListN.{length}
use Rattle.lists.specs.Lists.{every}
use Rattle.woot.specs.Ranges.{is_code_point}
use Rattle.memory.specs.Columns.{Document, Replica, meaning, stored, document_of, characters_in, operations_in}
use Rattle.memory.specs.Lent.{Slots}
use Rattle.memory.proofs.Stored.{form_meant}
use Rattle.convergence.proofs.Typings.{Ready}
use Rattle.well_formed.specs.Examined.{Examined}
use Rattle.well_formed.proofs.Examining.{few, form, examined_tabled}
use Rattle.delivery.specs.Work.{Lent}
use Rattle.keystroke.specs.Steps.{Typeable}
use Rattle.typing.proofs.Going.{meant_stored, ready_stored}
use Rattle.block_judging.specs.Steps.{Spacious}

module _ (r : Replica) {g count : ℕ} (x : Spacious r g count) where
  pub some-few : count ≤ 1024
  some-few = omega (arith, x.space)

  pub clearable : Slots r.document → Lent r.document
  unfolding meaning
  clearable slots =
      let e : Examined r = record { form = x.form; slots = slots } in
      let f = few r e in
      record {
        slots = slots;
        few = f.characters;
        few-pending = f.pending;
        ranged = (form r e).sound.pending-ranges;
        tabled = examined_tabled r e;
      }

  module _ {d : Document} (e : d ≡ document_of (characters_in r.document) (operations_in r.document)) where
    cleared : ◌≡◌ {A = Replica} (record { site = r.site; document = d }) (stored (meaning r))
    unfolding stored meaning
    cleared = λ j. record { site = r.site; document = e j }

    pub cleared_meant : meaning (record { site = r.site; document = d }) ≡ meaning r
    cleared_meant = ap meaning cleared ∙ meant_stored (meaning r) (form_meant r x.form)

    ready : (ns : List ℕ) → length ns ≡ count → Ready (meaning r) g (length ns)
    unfolding meaning
    ready ns many =
        record {
          form = form_meant r x.form;
          gap = x.gap;
          clock = omega (arith, many, x.clock);
          space = omega (arith, many, x.space);
        }

    pub cleared_typeable : {ns : List ℕ} → length ns ≡ count → every is_code_point ns ≡ true
        → Typeable (record { site = r.site; document = d }) g ns
    cleared_typeable {ns} many coded =
        subst (λ (q : Replica). Typeable q g ns) (sym cleared) (ready_stored (meaning r) (form_meant r x.form) (ready ns many) coded)
