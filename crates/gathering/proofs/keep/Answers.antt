-- `gathering::keep` meets its contract: an insert goes into one array, a toggle into the other, and each is counted.
use Rattle.gathering.proofs.Gathering.{kept-insert, held-insert, kept_toggle, held_toggle}
use borrow.Author.Rules.{rules}
use Rattle.gathering.proofs.keep.Goals as goal

pub returns-in-Insert : goal.returns-in-Insert
returns-in-Insert c =
    let e = c.in-Insert.is in
    record {
      value = kept-insert c.args.at _ c.requires.operation_value _ e c.count.ensures;
      held = λ os p h. held-insert _ os p h _ e c.keep_insert.ensures;
    }

pub returns-in-Toggle : goal.returns-in-Toggle
returns-in-Toggle c =
    let e = c.in-Toggle.is in
    record {
      value = kept_toggle c.args.at _ c.requires.operation_value _ e c.count-in-Toggle.ensures;
      held = λ os p h. held_toggle _ os p h _ e c.keep_toggle.ensures;
    }
