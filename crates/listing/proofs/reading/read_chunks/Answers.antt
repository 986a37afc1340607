-- `listing::reading::read_chunks` meets its contract, by the invariant of `proofs/Summaries.antt`.
use mathlib.Core.Path.{ap, ◌∙◌}
use native.Mathlib.Omega.{arith}
use lib.ListN.{length}
use borrow.Author.Tests.{not-true, not-false}
use Rattle.lists.proofs.Tests.{clash}
use Rattle.lines.proofs.Lines.{rest_shorter}
use Rattle.listing.proofs.Steps.{lacking_range}
use Rattle.listing.proofs.Summaries.{read-begun, read_none, read_more, read-end, read_held}
use Rattle.listing.proofs.reading.read_chunks.Goals as goal

pub loop-left-init : goal.loop-left-init
loop-left-init c = read-begun _ _ _ _ c.requires.heads_len c.requires.words_len c.requires.count_value

pub read_line-next-requires : goal.read_line-next-requires
read_line-next-requires c =
    let l = c.loop-left.invariant in
    record {
      heads_len = l.heads-size;
      words_len = l.words_size;
    }

pub returns-then-not-next : goal.returns-then-not-next
returns-then-not-next c =
    record {
      value = read_none c.loop-left.invariant c.loop-left-test.true c.first_line-line.ensures
          c.read_line-next.ensures.value (not-true _ c.if-not-next.true) c.without_layout.ensures;
      chunks_kept = λ e. clash e (lacking_range c.without_layout.ensures);
    }

pub loop-left-smaller : goal.loop-left-smaller
loop-left-smaller c =
    omega (arith, rest_shorter c.loop-left.left.now c.loop-left-test.true, ap length c.rest-rest.ensures)

pub loop-left-preserved : goal.loop-left-preserved
loop-left-preserved c =
    let l = c.loop-left.invariant in
    let k = c.read_line-next.auto in
    read_more l c.loop-left-test.true c.first_line-line.ensures c.read_line-next.ensures.value
    (not-false _ c.if-not-next.false) c.rest-rest.ensures c.read_line-next.ensures.chunks_kept (c.read_line-next.auto.heads ∙ l.heads-size)
    (c.read_line-next.auto.words ∙ l.words_size)

pub returns : goal.returns
returns c =
    let l = c.loop-left.invariant in
    record {
      value = read-end l (omega arith);
      chunks_kept = read_held l (omega arith);
    }
