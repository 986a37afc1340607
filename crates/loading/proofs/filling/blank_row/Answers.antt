-- `loading::filling::blank_row` meets its contract, kind by kind: zeros say no toggles, but for the first form.
use Rattle.std.proofs.Common.{◌≡◌, ℕ, ◌≤◌, refl, arith}
use Rattle.codec.specs.Operations.{identifier_at}
use Rattle.saved.specs.declared.Version.{Version}
use Rattle.saved.specs.declared.Version.TheVariants.{First, Second}
use Rattle.saved.specs.declared.Rows.{Rows}
use Rattle.saved.specs.declared.Rows.TheVariants.{Saved, Archived}
use Rattle.saved.specs.Format.{toggle_field, character_of}
use Rattle.saved.specs.Archive.{placed_of}
use Rattle.saved.specs.Rows.{version_of}
use Rattle.saved_lines.specs.declared.Row.{Row}
use Rattle.saved_lines.specs.Judging.{row_of}
use Rattle.woot.specs.Identifiers.{begin}
use Rattle.loading.specs.Reading.{blank_row}
use Rattle.loading.proofs.filling.blank_row.Goals as goal

few : (v : Version) → toggle_field v 0 ≤ 1
unfolding toggle_field
few First = omega arith
few Second = omega arith

zeros : (k : Rows) {n : ℕ} {v : Version} → n ≡ toggle_field v 0 → v ≡ version_of k
    → ◌≡◌ {A = Row} (record { place = 0; character = record { id = begin; code_point = 0; toggles = n; previous = begin; next = begin } }) (blank_row k)
unfolding blank_row row_of placed_of character_of identifier_at version_of
zeros (Saved v) e h = rw (e, h) refl
zeros Archived e h = rw (e, h) refl

pub overflow_cast-character : goal.overflow_cast-character
overflow_cast-character c = omega (arith, c.toggle_field.ensures, few c.version.result)

pub returns : goal.returns
returns c = zeros c.args.rows c.toggle_field.ensures c.version.ensures
