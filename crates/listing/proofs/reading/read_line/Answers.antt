-- `listing::reading::read_line` meets its contract: each arm knows what the line is.
use borrow.Author.Rules.{rules}
use borrow.Author.Tests.{not-true, not-false}
use Rattle.lists.proofs.Tests.{clash}
use Rattle.listing.proofs.Steps.{told-malformed, told-outside, told-read, told-chunk}
use Rattle.listing.proofs.Steps.{adds_malformed, adds_outside, adds_none, adds_chunk}
use Rattle.listing.proofs.Steps.{lacking_range, outside-range}
use Rattle.listing.proofs.reading.read_line.Goals as goal

pub returns-then-not-at : goal.returns-then-not-at
returns-then-not-at c =
    let a = c.args in
    let t = told-read a.line.now c.read_chunk-read.ensures c.in-Ok.is in
    record {
      value = adds_none a.line.now a.at t.0 (not-true _ c.if-not-at.true) c.out_of_range-then-not-at.ensures;
      chunks_kept = λ e. clash e (outside-range c.out_of_range-then-not-at.ensures);
    }

pub returns-in-Err-Malformed : goal.returns-in-Err-Malformed
returns-in-Err-Malformed c =
    let a = c.args in
    let t = told-malformed a.line.now c.read_chunk-read.ensures c.in-Err-Malformed.is (search rules) in
    record {
      value = adds_malformed a.line.now a.at t c.without_layout.ensures;
      chunks_kept = λ e. clash e (lacking_range c.without_layout.ensures);
    }

pub returns-in-Err-Above : goal.returns-in-Err-Above
returns-in-Err-Above c =
    let a = c.args in
    let t = told-outside a.line.now c.read_chunk-read.ensures c.in-Err-Above.is (search rules) in
    record {
      value = adds_outside a.line.now a.at t.0 t.1 c.out_of_range.ensures;
      chunks_kept = λ e. clash e (outside-range c.out_of_range.ensures);
    }

pub returns-else-not-at : goal.returns-else-not-at
returns-else-not-at c =
    let a = c.args in
    let t = told-read a.line.now c.read_chunk-read.ensures c.in-Ok.is in
    record {
      value = adds_chunk a.line.now a.at t.0 t.1 t.2 t.3 (not-false _ c.if-not-at.false)
          c.with_chunk.ensures;
      chunks_kept = λ e ks n h. rw (← told-chunk a.line.now t.1 t.2 t.3) (c.keep.ensures ks n h);
    }
