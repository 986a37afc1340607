-- `saved_lines::placed_row` meets its contract: what the numbers say is the row.
use Rattle.std.proofs.Common.{rules, ◌≡◌, get_or, arith, Ok}
use Rattle.woot.specs.Limits.{capacity}
use Rattle.lines.proofs.Values.{at_most_at}
use Rattle.saved.specs.declared.Version.TheVariants.{Second}
use Rattle.saved.specs.declared.Rows.TheVariants.{Archived}
use Rattle.saved.specs.Format.{character_limits}
use Rattle.saved.specs.Archive.{placed_limits, placed_of}
use Rattle.saved_lines.specs.Judging.{row_of, row_in_range}
use Rattle.saved_lines.proofs.Judging.{limits_later, says_made}
use Rattle.saved_lines.proofs.placed_row.Goals as goal

pub overflow_cast-place : goal.overflow_cast-place
overflow_cast-place c =
    let taken : c.args.numbers ≡ Ok c.in_ok-values.values = search rules in
    omega (arith, at_most_at placed_limits c.in_ok-values.values (rw taken at c.requires) 0 (omega arith))

pub character_of-character-requires : goal.character_of-character-requires
character_of-character-requires c =
    let taken : c.args.numbers ≡ Ok c.in_ok-values.values = search rules in
    record {
      from_bound = omega arith;
      values_value = limits_later capacity (character_limits Second) c.in_ok-values.values (rw taken at c.requires);
    }

pub placed_in_range-requires : goal.placed_in_range-requires
placed_in_range-requires c =
    let taken : c.args.numbers ≡ Ok c.in_ok-values.values = search rules in
    at_most_at placed_limits c.in_ok-values.values (rw taken at c.requires) 0 (omega arith)

pub returns : goal.returns
unfolding row_of row_in_range placed_of
returns c =
    let taken : c.args.numbers ≡ Ok c.in_ok-values.values = search rules in
    says_made (row_of Archived) (row_in_range Archived) taken
    (λ j. record { place = get_or c.in_ok-values.values 0 0; character = c.character_of-character.ensures j })
    c.placed_in_range.ensures c.ranged.ensures
