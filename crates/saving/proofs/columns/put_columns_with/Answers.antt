-- `saving::columns::put_columns_with` meets its contract: the site's line and the others have room, or nothing is put.
use Prim.Native.Nat.{ℕ}
use mathlib.Core.Path.{◌≡◌}
use mathlib.Core.List.{List, ◌++◌}
use Rattle.woot.specs.Memory.{pending_slots}
use Rattle.saved.specs.Format.{site_line}
use Rattle.saved.specs.Rows.{version_of}
use Rattle.codec.proofs.Answers.{front-short, front_fits, body-short, body-room, body-put}
use Rattle.saving.specs.Documents.{Lists, lists_of, body_as, file_bytes, site_with}
use Rattle.saving.proofs.Documents.{whole-bytes}
use borrow.Author.Rules.{rules}
use Rattle.saving.proofs.columns.put_columns_with.Goals.{Start}
use Rattle.saving.proofs.columns.put_columns_with.Goals as goal

-- the bytes of the site's line, those after it, and all
abbrev front : Start → List ℕ
front s = site_line (version_of s.args.rows) (site_with s.args.number s.args.clock)

abbrev lists : Start → Lists
lists s =
    let a = s.args in
    lists_of a.places.now a.characters.now a.toggles.now a.n a.pending.now pending_slots a.w

abbrev body : Start → List ℕ
body s = body_as s.args.rows (lists s)

abbrev bytes : Start → List ℕ
bytes s = file_bytes s.args.rows (site_with s.args.number s.args.clock) (lists s)

whole : (s : Start) → front s ++ body s ≡ bytes s
whole s = whole-bytes s.args.rows (site_with s.args.number s.args.clock) (lists s)

pub returns-in_default : goal.returns-in_default
returns-in_default c =
    let all = front-short (front (goal.at.returns-in_default c).Start) (body (goal.at.returns-in_default c).Start) (bytes (goal.at.returns-in_default c).Start) c.args.out.now (whole (goal.at.returns-in_default c).Start) (rw c.version-version.ensures at c.measure_site_with-front.ensures)
    c.in_default.is in
    record {
      value = all.0;
      out_after = all.1;
    }

pub measure-room-requires : goal.measure-room-requires
measure-room-requires c =
    record {
      has_slots = c.requires;
      at_le_size = front_fits (front (goal.at.measure-room-requires c).Start) (body (goal.at.measure-room-requires c).Start) (bytes (goal.at.measure-room-requires c).Start) c.args.out.now (whole (goal.at.measure-room-requires c).Start) (rw c.version-version.ensures at c.measure_site_with-front.ensures)
          c.in-Some.is;
    }

pub returns-in_default-room : goal.returns-in_default-room
returns-in_default-room c =
    let all = body-short (front (goal.at.returns-in_default-room c).Start) (body (goal.at.returns-in_default-room c).Start) (bytes (goal.at.returns-in_default-room c).Start) c.args.out.now (whole (goal.at.returns-in_default-room c).Start) (rw c.version-version.ensures at c.measure_site_with-front.ensures)
    c.in-Some.is c.measure-room.ensures c.in_default-room.is in
    record {
      value = all.0;
      out_after = all.1;
    }

pub put_lines-requires : goal.put_lines-requires
put_lines-requires c =
    record {
      has_slots = c.requires;
      w_in_bounds = body-room (front (goal.at.put_lines-requires c).Start) (body (goal.at.put_lines-requires c).Start) (bytes (goal.at.put_lines-requires c).Start) c.args.out.now (whole (goal.at.put_lines-requires c).Start) (rw c.version-version.ensures at c.measure_site_with-front.ensures)
          c.in-Some.is c.measure-room.ensures c.in-Some-room.is
          (rw c.version-version.ensures at c.put_site_with-at.ensures.value, rw c.version-version.ensures at c.put_site_with-at.ensures.out_after);
    }

pub returns : goal.returns
returns c =
    let all = body-put (front (goal.at.returns c).Start) (body (goal.at.returns c).Start) (bytes (goal.at.returns c).Start) c.args.out.now (whole (goal.at.returns c).Start) (rw c.version-version.ensures at c.measure_site_with-front.ensures)
    c.in-Some.is c.measure-room.ensures c.in-Some-room.is
    (rw c.version-version.ensures at c.put_site_with-at.ensures.value, rw c.version-version.ensures at c.put_site_with-at.ensures.out_after) c.put_lines.ensures in
    record {
      value = all.0;
      out_after = all.1;
    }
