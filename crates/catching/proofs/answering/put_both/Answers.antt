-- `answering::put_both` meets its contract: both parts have room, or nothing is put.
use Rattle.std.proofs.Common.{Some}
use Prim.Native.Nat.{ℕ}
use mathlib.Core.Path.{◌≡◌, refl, sym, ◌∙◌}
use mathlib.Core.List.{List}
use borrow.Author.Rules.{rules}
use lib.ListN.{length}
use Rattle.output.specs.Output.{past}
use Rattle.output.proofs.Laws.{past_room}
use Rattle.lines.specs.Room.{Room}
use Rattle.lines.specs.Room.{room_for}
use Rattle.lines.proofs.Rooms.{until_tells}
use Rattle.codec.proofs.Answers.{front-short, front_fits, body-short, body-room, body-put}
use Rattle.saving.specs.Documents.{lines_in}
use Rattle.catching.proofs.answering.put_both.Goals.{Start}
use Rattle.catching.proofs.answering.put_both.Goals as goal

-- the bytes of the two parts
abbrev front : Start → List ℕ
front s = lines_in s.args.inserts.now s.args.sent

abbrev body : Start → List ℕ
body s = lines_in s.args.toggles.now s.args.count

-- where the first part ends
ended : (out a : List ℕ) {x : Room} {start : ℕ} → x ≡ room_for (length out) 0 a → x ≡ Some start → start ≡ past out 0 a
ended out a e q =
    let t = until_tells (length out) 0 a e q in
    t.0 ∙ sym (past_room out 0 a t.1)

pub returns-in_default : goal.returns-in_default
returns-in_default c =
    let all = front-short (front (goal.at.returns-in_default c).Start) (body (goal.at.returns-in_default c).Start) _ c.args.out.now refl c.measure-front.ensures c.in_default.is in
    record {
      value = all.0;
      out_after = all.1;
    }

pub measure-room-requires : goal.measure-room-requires
measure-room-requires c =
    record {
      numbers_len = c.requires.toggles_len;
      count_le_character_slots = c.requires.count_le_character_slots;
      at_le_size = front_fits (front (goal.at.measure-room-requires c).Start) (body (goal.at.measure-room-requires c).Start) _ c.args.out.now refl c.measure-front.ensures
          c.in-Some.is;
    }

pub returns-in_default-room : goal.returns-in_default-room
returns-in_default-room c =
    let all = body-short (front (goal.at.returns-in_default-room c).Start) (body (goal.at.returns-in_default-room c).Start) _ c.args.out.now refl c.measure-front.ensures
    c.in-Some.is c.measure-room.ensures c.in_default-room.is in
    record {
      value = all.0;
      out_after = all.1;
    }

pub put_lines-requires : goal.put_lines-requires
put_lines-requires c =
    let t = until_tells (length c.args.out.now) 0 (front (goal.at.put_lines-requires c).Start) c.measure-front.ensures
    c.in-Some.is in
    record {
      numbers_len = c.requires.inserts_len;
      count_le_character_slots = c.requires.sent_le_character_slots;
      count_in_bounds = t.1;
    }

pub put_lines-requires-2 : goal.put_lines-requires-2
put_lines-requires-2 c =
    let f = c.in-Some.is in
    record {
      numbers_len = c.requires.toggles_len;
      count_le_character_slots = c.requires.count_le_character_slots;
      count_in_bounds = body-room (front (goal.at.put_lines-requires-2 c).Start) (body (goal.at.put_lines-requires-2 c).Start) _ c.args.out.now refl c.measure-front.ensures f
          c.measure-room.ensures c.in-Some-room.is (
            ended c.args.out.now (front (goal.at.put_lines-requires-2 c).Start) c.measure-front.ensures f,
            c.put_lines.ensures,
          );
    }

pub returns : goal.returns
returns c =
    let f = c.in-Some.is in
    let all = body-put (front (goal.at.returns c).Start) (body (goal.at.returns c).Start) _ c.args.out.now refl c.measure-front.ensures f
    c.measure-room.ensures c.in-Some-room.is (
      ended c.args.out.now (front (goal.at.returns c).Start) c.measure-front.ensures f,
      c.put_lines.ensures,
    )
    c.put_lines-2.ensures in
    record {
      value = all.0;
      out_after = all.1;
    }
