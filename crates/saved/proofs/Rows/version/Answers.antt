-- `saved::Rows::version` meets its contract, kind by kind.
use Rattle.saved.specs.Rows.{version_of}
use Rattle.saved.proofs.Rows.version.Goals as goal

pub returns-in-Saved : goal.returns-in-Saved
unfolding version_of
returns-in-Saved c = rw c.in-Saved.is

pub returns-in-Archived : goal.returns-in-Archived
unfolding version_of
returns-in-Archived c = rw c.in-Archived.is
