-- `saving::numbered::operation` meets its contract: a toggle is known by its own key, which is 0.
use borrow.Author.Rules.{rules}
use Rattle.saving.proofs.numbered.operation.Goals as goal

pub returns-then-own-eq0 : goal.returns-then-own-eq0
returns-then-own-eq0 c =
    let t = c.toggle.ensures in
    record {
      result_value = rw c.if-own-eq0.true t.result_value;
      count_bound = t.count_bound;
    }

pub returns : goal.returns
returns c =
    let i = c.insert.ensures in
    record {
      result_value = i.result_value _;
      count_bound = i.count_bound;
    }
