-- `listing::read` meets its contract: the first line lacks the layout, or what all lines come to decides.
use mathlib.Core.Path.{sym, ◌∙◌}
use borrow.Author.Tests.{not-true, not-false}
use Rattle.answers.specs.declared.Refusal.TheVariants.{Layout}
use Rattle.listing.proofs.Summaries.{refused-done, header_lacks, header_counts, read_answer_lem, read-chunks}
use Rattle.listing.proofs.read.Goals as goal

pub returns-then-not-header : goal.returns-then-not-header
returns-then-not-header c =
    let s = c.args.bytes.now in
    record {
      value = header_lacks s c.first_line-first.ensures c.header-header.ensures (not-true _ c.if-not-header.true);
      by_index = λ n. refused-done Layout n;
    }

pub read_chunks-requires : goal.read_chunks-requires
read_chunks-requires c =
    record {
      heads_len = c.requires.heads_len;
      words_len = c.requires.words_len;
      count_value = header_counts c.args.bytes.now c.first_line-first.ensures c.header-header.ensures;
    }

pub returns : goal.returns
returns c =
    let s = c.args.bytes.now in
    let laid = not-false _ c.if-not-header.false in
    let answer = read_answer_lem s c.first_line-first.ensures c.header-header.ensures laid c.rest-rest.ensures
    c.read_chunks.ensures.value c.concluded.ensures in
    record {
      value = answer;
      by_index = λ n d. read-chunks s c.first_line-first.ensures c.header-header.ensures laid c.rest-rest.ensures
          c.read_chunks.ensures.value _ _ c.read_chunks.ensures.chunks_kept n (sym answer ∙ d);
    }
