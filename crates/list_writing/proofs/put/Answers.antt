-- `list_writing::put` meets its contract: the first line and the others have room, or nothing is put.
use Prim.Native.Nat.{ℕ}
use mathlib.Core.Path.{◌≡◌, refl}
use mathlib.Core.List.{List, [], ◌∷◌, ◌++◌}
use borrow.Author.Rules.{rules}
use Rattle.lines.specs.Lines.{concatenated}
use Rattle.lines.specs.Fields.{line_of}
use Rattle.codec.proofs.Answers.{front-short, front_fits, body-short, body-room, body-put}
use Rattle.chunks.specs.Columns.{chunks_in}
use Rattle.listing.specs.Format.{list_head, list_numbers, chunk_line, list_bytes}
use Rattle.list_writing.proofs.put.Goals.{Start}
use Rattle.list_writing.proofs.put.Goals as goal

-- the bytes of the first line, those after it, and all
abbrev front : Start → List ℕ
front s = line_of list_head (s.args.site ∷ s.args.total ∷ [])

abbrev body : Start → List ℕ
body s = concatenated chunk_line (chunks_in s.args.heads.now s.args.words.now s.args.n)

abbrev bytes : Start → List ℕ
bytes s =
    let a = s.args in
    list_bytes (record { site = a.site; total = a.total; chunks = chunks_in a.heads.now a.words.now a.n })

whole : (s : Start) → front s ++ body s ≡ bytes s
unfolding list_bytes list_numbers
whole s = refl

pub returns-in_default : goal.returns-in_default
returns-in_default c =
    let all = front-short (front (goal.at.returns-in_default c).Start) (body (goal.at.returns-in_default c).Start) (bytes (goal.at.returns-in_default c).Start) c.args.out.now (whole (goal.at.returns-in_default c).Start) c.measure_header-front.ensures
    c.in_default.is in
    record {
      value = all.0;
      out_after = all.1;
    }

pub measure_chunks-room-requires : goal.measure_chunks-room-requires
measure_chunks-room-requires c =
    let fits =
    front_fits (front (goal.at.measure_chunks-room-requires c).Start) (body (goal.at.measure_chunks-room-requires c).Start) (bytes (goal.at.measure_chunks-room-requires c).Start) c.args.out.now (whole (goal.at.measure_chunks-room-requires c).Start) c.measure_header-front.ensures
    c.in-Some.is in
    record {
      n_in_bounds = c.requires.n_in_bounds;
      n_in_bounds_2 = c.requires.n_in_bounds_2;
      at_le_size = fits;
    }

pub returns-in_default-room : goal.returns-in_default-room
returns-in_default-room c =
    let all = body-short (front (goal.at.returns-in_default-room c).Start) (body (goal.at.returns-in_default-room c).Start) (bytes (goal.at.returns-in_default-room c).Start) c.args.out.now (whole (goal.at.returns-in_default-room c).Start) c.measure_header-front.ensures
    c.in-Some.is c.measure_chunks-room.ensures c.in_default-room.is in
    record {
      value = all.0;
      out_after = all.1;
    }

pub put_chunks-requires : goal.put_chunks-requires
put_chunks-requires c =
    let room =
    body-room (front (goal.at.put_chunks-requires c).Start) (body (goal.at.put_chunks-requires c).Start) (bytes (goal.at.put_chunks-requires c).Start) c.args.out.now (whole (goal.at.put_chunks-requires c).Start) c.measure_header-front.ensures
    c.in-Some.is c.measure_chunks-room.ensures c.in-Some-room.is (c.put_header-at.ensures.value, c.put_header-at.ensures.out_after) in
    record {
      n_in_bounds = c.requires.n_in_bounds;
      n_in_bounds_2 = c.requires.n_in_bounds_2;
      n_in_bounds_3 = room;
    }

pub returns : goal.returns
returns c =
    let all = body-put (front (goal.at.returns c).Start) (body (goal.at.returns c).Start) (bytes (goal.at.returns c).Start) c.args.out.now (whole (goal.at.returns c).Start) c.measure_header-front.ensures
    c.in-Some.is c.measure_chunks-room.ensures c.in-Some-room.is (c.put_header-at.ensures.value, c.put_header-at.ensures.out_after)
    c.put_chunks.ensures in
    record {
      value = all.0;
      out_after = all.1;
    }
