-- `saved_lines::read_site_numbers_front` meets its contract: the head word is the form's, and has a byte.
use mathlib.Core.Path.{◌≡◌, ap, ◌∙◌}
use mathlib.Core.List.{List}
use Prim.Native.Nat.{ℕ}
use Rattle.lines.specs.Fields.{fields}
use Rattle.lines.specs.Answers.{numbers_of, front_of}
use Rattle.lines.proofs.Lines.{front-line}
use Rattle.saved.specs.declared.Version.{Version}
use Rattle.saved.specs.declared.Version.TheVariants.{First, Second}
use Rattle.saved.specs.Format.{site_head, site_limits}
use Rattle.saved_lines.specs.Judging.{front_line}
use Rattle.saved_lines.proofs.read_site_numbers_front.Goals as goal

by_form : (v : Version) (s : List ℕ) → front_of (site_head v) site_limits s ≡ numbers_of (site_head v) site_limits (fields (front_line s))
by_form First s = front-line s _ _ _
by_form Second s = front-line s _ _ _

pub returns : goal.returns
returns c =
    let r = c.read_front.ensures in
    record {
      numbers_value = r.numbers_value ∙ ap (λ (head : List ℕ). front_of head site_limits c.args.bytes.now) c.site_head.ensures ∙ by_form _ _;
      next_value = r.next_value;
      next_in_bounds = r.next_in_bounds;
    }
