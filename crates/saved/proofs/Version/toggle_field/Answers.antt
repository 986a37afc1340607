-- `saved::Version::toggle_field` meets its contract, variant by variant.
use Rattle.saved.specs.Format.{toggle_field}
use borrow.Author.Rules.{rules}
use Rattle.saved.proofs.Version.toggle_field.Goals as goal

pub returns-in-First : goal.returns-in-First
returns-in-First c = rw c.in-First.is c.exchanged.ensures

pub returns-in-Second : goal.returns-in-Second
unfolding toggle_field
returns-in-Second c = rw c.in-Second.is
