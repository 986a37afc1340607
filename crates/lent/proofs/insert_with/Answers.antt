-- `lent::insert_with` takes apart what the call on replicas returns.
use mathlib.Core.Path.{refl}
use borrow.Author.Rules.{rules}
use Rattle.lent.specs.Lent.{together, returned}
use Rattle.lent.proofs.Sites.{clock_after}
use Rattle.lent.proofs.insert_with.Goals as goal

pub returns : goal.returns
unfolding returned
returns c =
    let e = c.insert-generated.ensures in
    let a = c.args in
    record {
      returned_value = rw e refl;
      clock_value = rw e (clock_after (together a.site a.document) a.point a.code_point);
    }
