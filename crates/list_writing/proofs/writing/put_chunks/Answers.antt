-- `list_writing::writing::put_chunks` meets its contract, by the invariant of the loop over lines.
use mathlib.Core.Path.{ap, ◌∙◌}
use mathlib.Core.List.{List}
use native.Mathlib.Omega.{arith}
use lib.ListN.{length}
use borrow.Author.Rules.{rules}
use Rattle.output.specs.Output.{placed, past}
use Rattle.output.proofs.Laws.{length-placed}
use Rattle.lines.proofs.Sequences.{Putting, putting_begun, putting_more, putting_end}
use Rattle.bulk.specs.Catching.{Chunk}
use Rattle.chunks.specs.Columns.{chunks_in}
use Rattle.listing.specs.Format.{chunk_line}
use Rattle.list_writing.proofs.Columns.{no_chunk, many_chunks, all-chunks, line_at}
use Rattle.list_writing.proofs.writing.put_chunks.Goals.{Start}
use Rattle.list_writing.proofs.writing.put_chunks.Goals as goal

-- the chunks that are lent
abbrev chunks : Start → List Chunk
chunks s = chunks_in s.args.heads.now s.args.words.now s.args.n

pub loop-i-init : goal.loop-i-init
loop-i-init c =
    let many = many_chunks c.args.heads.now c.args.words.now c.args.n in
    let all = all-chunks c.args.heads.now c.args.words.now c.args.n in
    putting_begun chunk_line (chunks (goal.at.loop-i-init c).Start) c.args.n _ _ (omega (arith, many))
    (omega (arith, c.requires.n_in_bounds_3, ap length all))

pub bounds-heads-i : goal.bounds-heads-i
bounds-heads-i c = omega (arith, c.requires.n_in_bounds, c.loop-i-test.true)

pub bounds-words-i : goal.bounds-words-i
bounds-words-i c = omega (arith, c.requires.n_in_bounds_2, c.loop-i-test.true)

pub loop-i-preserved : goal.loop-i-preserved
loop-i-preserved c =
    let a = c.args in
    let h = c.loop-i-test.true in
    let e = line_at a.heads.now a.words.now a.n _ h c.chunk_numbers-numbers.ensures in
    putting_more chunk_line (chunks (goal.at.loop-i-preserved c).Start) _ a.out.now a.at c.loop-i.invariant no_chunk h
    (c.put_line-end.ensures.value ∙ ap (past _ _) e, c.put_line-end.ensures.out_after ∙ ap (placed _ _) e)

pub returns : goal.returns
returns c =
    (putting_end chunk_line (chunks (goal.at.returns c).Start) _ c.args.out.now c.args.at c.loop-i.invariant c.loop-i-test.false).1
    ∙ ap (placed c.args.out.now c.args.at)
    (all-chunks c.args.heads.now c.args.words.now c.args.n)

pub shape_of-out : goal.shape_of-out
shape_of-out c = ap length (returns c) ∙ length-placed _ _ _
