-- `list_writing::writing::measure_chunks` meets its contract, by the invariant of the loop over lines.
use mathlib.Core.Path.{ap, ◌∙◌}
use mathlib.Core.List.{List}
use native.Mathlib.Omega.{arith}
use borrow.Author.Rules.{rules}
use Rattle.lines.specs.Room.{room_for}
use Rattle.lines.proofs.Sequences.{Measuring, measuring_begun, measuring_more, measuring_short, measuring_end}
use Rattle.bulk.specs.Catching.{Chunk}
use Rattle.chunks.specs.Columns.{chunks_in}
use Rattle.listing.specs.Format.{chunk_line}
use Rattle.list_writing.proofs.Columns.{no_chunk, many_chunks, all-chunks, line_at}
use Rattle.list_writing.proofs.writing.measure_chunks.Goals.{Start}
use Rattle.list_writing.proofs.writing.measure_chunks.Goals as goal

-- the chunks that are lent
abbrev chunks : Start → List Chunk
chunks s = chunks_in s.args.heads.now s.args.words.now s.args.n

pub loop-i-init : goal.loop-i-init
loop-i-init c =
    let many = many_chunks c.args.heads.now c.args.words.now c.args.n in
    measuring_begun chunk_line (chunks (goal.at.loop-i-init c).Start) c.args.n _ _ (omega (arith, many)) c.requires.at_le_size

pub bounds-heads-i : goal.bounds-heads-i
bounds-heads-i c = omega (arith, c.requires.n_in_bounds, c.loop-i-test.true)

pub bounds-words-i : goal.bounds-words-i
bounds-words-i c = omega (arith, c.requires.n_in_bounds_2, c.loop-i-test.true)

pub returns-in_default : goal.returns-in_default
returns-in_default c =
    let a = c.args in
    let h = c.loop-i-test.true in
    let line = line_at a.heads.now a.words.now a.n _ h c.chunk_numbers-numbers.ensures in
    let e = c.measure-room.ensures ∙ ap (room_for _ _) line in
    measuring_short chunk_line (chunks (goal.at.returns-in_default c).Start) _ _ _ c.loop-i.invariant no_chunk h e c.in_default.is
    ∙ ap (room_for _ _) (all-chunks a.heads.now a.words.now a.n)

pub loop-i-preserved : goal.loop-i-preserved
loop-i-preserved c =
    let a = c.args in
    let h = c.loop-i-test.true in
    let line = line_at a.heads.now a.words.now a.n _ h c.chunk_numbers-numbers.ensures in
    let e = c.measure-room.ensures ∙ ap (room_for _ _) line in
    measuring_more chunk_line (chunks (goal.at.loop-i-preserved c).Start) _ _ _ c.loop-i.invariant no_chunk h e c.in-Some.is

pub returns : goal.returns
returns c =
    measuring_end chunk_line (chunks (goal.at.returns c).Start) _ _ _ c.loop-i.invariant c.loop-i-test.false
    ∙ ap (room_for _ _) (all-chunks c.args.heads.now c.args.words.now c.args.n)
