-- From the numbers of a line, or their fault, to what the line is read as: one argument for every kind of line.
use Rattle.std.proofs.Common.{Ok, Err}
use Rattle.std.specs.Prelude.{IfOk}
use mathlib.Core.Path.{◌≡◌, refl, sym, ap, ◌∙◌}
use mathlib.Core.List.{List, ◌++◌}
use mathlib.Core.Bool.{Bool, true, false, cond}
use Prim.Native.Nat.{ℕ, ◌+◌}
use lib.ListN.{replicate}
use Rattle.woot.specs.declared.Operation.{Operation}
use Rattle.woot.specs.declared.Operation.TheVariants.{Insert as insert, Toggle as toggle}
use Rattle.answers.specs.declared.Refusal.TheVariants.{Layout, Range}
use Rattle.answers.specs.Answers.{decided}
use Rattle.woot.specs.Ranges.{in_range}
use Rattle.lists.proofs.Tests.{fails, clash}
use Rattle.convergence.proofs.Identifiers.{identifier-path}
use Rattle.lines.specs.Fields.{fields, values_of, at_most}
use Rattle.lines.specs.Answers.{Numbers, numbers_of, by_numbers}
use Rattle.lines.proofs.Values.{at-padded}
use Rattle.lines.proofs.Verdicts.{values-at_most, verdict_says}
use Rattle.codec.specs.declared.Kind.{Kind}
use Rattle.codec.specs.declared.Kind.TheVariants.{Insert as Inserted, Toggle as Toggled, Delete as Deleted}
use Rattle.codec.specs.Calls.{Read}
use Rattle.codec.specs.Operations.{identifier_at, insert_of, toggle_of, delete_of}
use Rattle.codec.specs.Calls.{read_checks, read_as}
use Rattle.codec.specs.Kinds.{head_of, limits_of, said_as, laid_out_as, read_kind}
use Rattle.codec.proofs.Bounds.{said_at_most}

-- ---- the answers, by their conditions

pub read-layout : (o : Operation) → read_as false o ≡ Err Layout
unfolding read_as read_checks decided
read-layout o = refl

pub read-range : (o : Operation) → in_range o ≡ false → read_as true o ≡ Err Range
unfolding read_as read_checks decided
read-range o e = rw e

pub read-operation : (o : Operation) → in_range o ≡ true → read_as true o ≡ Ok o
unfolding read_as read_checks decided
read-operation o e = rw e

-- the same of an operation that is made as the line says it
module _ {o p : Operation} (said : o ≡ p) where
  pub made_range : in_range o ≡ false → Err Range ≡ read_as true p
  made_range e = sym (read-range o e) ∙ ap (read_as true) said

  pub made_operation : in_range o ≡ true → Ok o ≡ read_as true p
  made_operation e = sym (read-operation o e) ∙ ap (read_as true) said

by_layout : (laid : Bool) (o : Operation) → cond laid (read_as true o) (Err Layout) ≡ read_as laid o
by_layout true o = refl
by_layout false o = sym (read-layout o)

-- whatever a line without the layout says, that is what is answered
pub read_same : (laid : Bool) {t : Bool} {o p : Operation} → t ≡ laid → (laid ≡ true → o ≡ p) → read_as laid o ≡ read_as t p
read_same true e w = rw (e, w refl)
read_same false e w = rw e (read-layout _ ∙ sym (read-layout _))

-- ---- what the numbers of a line say does not depend on zeros after them

pub identifier-padded : (k m : ℕ) (ns : List ℕ) → identifier_at k (ns ++ replicate m 0) ≡ identifier_at k ns
unfolding identifier_at
identifier-padded k m ns = identifier-path (at-padded m ns k) (at-padded m ns (k + 1))

said_padded : (k : Kind) (m : ℕ) (ns : List ℕ) → said_as k (ns ++ replicate m 0) ≡ said_as k ns
unfolding insert_of toggle_of delete_of
said_padded Inserted m ns = λ j. insert (record {
  id = identifier-padded 0 m ns j;
  code_point = at-padded m ns 2 j;
  previous = identifier-padded 3 m ns j;
  next = identifier-padded 5 m ns j;
})
said_padded Toggled m ns = λ j. toggle (record { sender = at-padded m ns 0 j; target = identifier-padded 1 m ns j; toggles = at-padded m ns 3 j })
said_padded Deleted m ns = λ j. toggle (record { sender = at-padded m ns 0 j; target = identifier-padded 1 m ns j; toggles = 1 })

-- ---- by the numbers, or by their fault

-- the arm of the code knows the kind
module _ {k l : Kind} (told : k ≡ l) (line : List ℕ) (r : Numbers) (e : r ≡ numbers_of (head_of l) (limits_of l) (fields line)) where
  pub kind_fits : IfOk r (λ values. at_most (limits_of k) values ≡ true)
  unfolding numbers_of
  kind_fits = rw told (values-at_most _ (limits_of l) _ r e)

  pub kind_read : {x : Read}
      → x ≡ by_numbers r (Err Layout) (Err Range) (λ values. read_as true (said_as k values)) → x ≡ read_kind k line
  unfolding numbers_of read_kind laid_out_as
  kind_read w =
      let ns = values_of (fields line) in
      let large : at_most (limits_of l) ns ≡ false → Err Range ≡ read_as true (said_as l ns) =
      λ h. sym (read-range _ (fails (in_range (said_as l ns)) (λ p. clash (said_at_most l ns p) h))) in
      rw told
      ((rw told at w) ∙ verdict_says _ (limits_of l) ns r e (said_as l) (read_as true) (Err Layout) (Err Range) (said_padded l) large
      ∙ by_layout _ (said_as l ns))
