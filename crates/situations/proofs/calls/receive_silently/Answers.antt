-- `situations::calls::receive_silently` meets its contract: it returns the replica of what receiving returned.
use mathlib.Core.Path.{ap}
use borrow.Author.Rules.{rules}
use Rattle.woot.specs.declared.Receipt.{Receipt}
use Rattle.situations.proofs.calls.receive_silently.Goals as goal

pub returns : goal.returns
returns c = ap (λ (x : Receipt). x.replica) c.receive-receipt.ensures
