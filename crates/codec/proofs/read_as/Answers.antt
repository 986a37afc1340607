-- `codec::read_as` meets its contract: the numbers are those of the kind, and one law says what they are read as.
use mathlib.Core.Path.{◌≡◌, refl, ◌∙◌}
use lib.ListN.{take}
use Rattle.lines.specs.Fields.{fields}
use Rattle.lines.specs.Answers.{slots, numbers_of}
use Rattle.codec.specs.declared.Kind.{Kind}
use Rattle.codec.specs.declared.Kind.TheVariants.{Insert as Inserted, Toggle as Toggled, Delete as Deleted}
use Rattle.codec.specs.Kinds.{head_of, limits_of}
use Rattle.codec.proofs.Judging.{kind_fits, kind_read}
use Rattle.codec.proofs.read_as.Goals.{After-read}
use Rattle.codec.proofs.read_as.Goals as goal

-- a line has slots for the numbers of each kind
all-limits : (k : Kind) → take slots (limits_of k) ≡ limits_of k
all-limits Inserted = refl
all-limits Toggled = refl
all-limits Deleted = refl

numbers_read : (c : After-read) → c.read.result ≡ numbers_of (head_of c.args.kind) (limits_of c.args.kind) (fields c.args.line.now)
numbers_read c =
    c.read.ensures ∙ λ j. numbers_of (c.head.ensures j) (((λ i. take slots (c.limits.ensures i)) ∙ all-limits c.args.kind) j) (fields c.args.line.now)

pub judged-requires : goal.judged-requires
judged-requires c = kind_fits refl c.args.line.now _ (numbers_read (goal.at.judged-requires c).After-read)

pub returns : goal.returns
returns c = kind_read refl _ _ (numbers_read (goal.at.returns c).After-read) c.judged.ensures
