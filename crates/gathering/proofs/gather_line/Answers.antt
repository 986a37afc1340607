-- `gathering::gather_line` meets its contract: what `codec` answers is the operation, refusal 2 or refusal 1.
use mathlib.Core.Path.{◌≡◌, sym, ap, ◌∙◌, subst}
use mathlib.Core.List.{List, [], ◌∷◌}
use Prim.Native.Nat.{ℕ}
use lib.Dec.{eqb}
use types.Run.{OneOf, miss}
use denote.Enum.Declared.{tag_of}
use Rattle.answers.specs.declared.Refusal.{Refusal}
use Rattle.answers.specs.declared.Refusal.TheVariants.{Range}
use Rattle.answers.specs.contracts.Refusal.{the_type}
use Rattle.lists.proofs.Tests.{clash}
use Rattle.gathering.specs.declared.Gathered.{Gathered}
use Rattle.gathering.proofs.Gathering.{was_read, out_of_range_lem, lacks-layout, counted-letter, kept_line, no_line}
use Rattle.gathering.proofs.Gathering.{range-told, no-range-told}
use borrow.Author.Rules.{rules}
use Rattle.gathering.proofs.gather_line.Goals as goal

pub keep-requires : goal.keep-requires
keep-requires c =
    let answer = sym c.read_line-read.ensures ∙ c.in-Ok.is in
    let w = was_read c.args.line.now _ answer in
    record {
      inserts_len = c.requires.inserts_len;
      toggles_len = c.requires.toggles_len;
      inserts_bound = c.requires.inserts_bound;
      toggles_bound = c.requires.toggles_bound;
      operation_value = w.2;
    }

pub returns-in-Ok : goal.returns-in-Ok
returns-in-Ok c =
    let line = c.args.line.now in
    let answer = sym c.read_line-read.ensures ∙ c.in-Ok.is in
    let w = was_read line _ answer in
    record {
      value = kept_line line _ _ w.0 w.1 c.keep.ensures.value;
      held = λ e os p h. rw w.1 (c.keep.ensures.held os p h);
    }

pub returns-in-Range : goal.returns-in-Range
returns-in-Range c =
    let line = c.args.line.now in
    let answer = sym c.read_line-read.ensures ∙ c.in-Err.is in
    let w = out_of_range_lem line _ answer c.in-Range.is in
    let letter = ap (λ (b : ℕ). eqb b 73) c.first_byte.ensures in
    let r = counted-letter line c.args.at w.0 w.1 letter c.count.ensures in
    let same = ap (λ (x : Gathered). x.in_range) (sym r) in
    record {
      value = r;
      held = λ e os p h. clash (range-told line c.args.at w.0 (same ∙ e)).1 w.1;
    }

pub returns-in_default : goal.returns-in_default
returns-in_default c =
    let line = c.args.line.now in
    let answer = sym c.read_line-read.ensures ∙ c.in-Err.is in
    let w = lacks-layout line _ answer c.in_default.not-Range in
    record {
      value = no_line line _ w c.ungathered.ensures;
      held = λ e os p h. clash e (no-range-told c.ungathered.ensures);
    }
