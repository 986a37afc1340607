-- For the proofs of the code alone: the kinds of line that are read, each with its head word, its limits and what its
-- numbers say.
use Rattle.std.specs.Prelude.{ℕ, List, Bool, length, get_or}
use Rattle.woot.specs.declared.Toggle.{Toggle}
use Rattle.woot.specs.declared.Operation.{Operation}
use Rattle.woot.specs.declared.Operation.TheVariants.{Insert as insert, Toggle as toggle}
use Rattle.lines.specs.Fields.{fields, has_layout, values_of}
use Rattle.answers.specs.declared.Refusal.{Refusal}
use Rattle.answers.specs.declared.Refusal.TheVariants.{Layout, Range}
use Rattle.decimal.specs.declared.Fault.{Fault}
use Rattle.decimal.specs.declared.Fault.TheVariants.{Above, Malformed}
use Rattle.codec.specs.declared.Kind.{Kind}
use Rattle.codec.specs.declared.Kind.TheVariants.{Insert as Inserted, Toggle as Toggled, Delete as Deleted}
use Rattle.codec.specs.Operations.{insert_head, toggle_head, delete_head, insert_limits, toggle_limits, delete_limits}
use Rattle.codec.specs.Operations.{identifier_at, insert_of, toggle_of, delete_of}
use Rattle.codec.specs.Calls.{Read, read_as}

-- why a line is refused whose numbers are not taken
abbrev pub refusal_of : Fault → Refusal
refusal_of Malformed = Layout
refusal_of Above = Range

abbrev pub head_of : Kind → List ℕ
head_of Inserted = insert_head
head_of Toggled = toggle_head
head_of Deleted = delete_head

abbrev pub limits_of : Kind → List ℕ
limits_of Inserted = insert_limits
limits_of Toggled = toggle_limits
limits_of Deleted = delete_limits

-- the toggle that the numbers of a line say, and the toggles beside them
unfoldable pub toggles_of : ℕ → List ℕ → Toggle
toggles_of m ns = record { sender = get_or ns 0 0; target = identifier_at 1 ns; toggles = m }

abbrev pub said_as : Kind → List ℕ → Operation
said_as Inserted ns = insert (insert_of ns)
said_as Toggled ns = toggle (toggle_of ns)
said_as Deleted ns = toggle (delete_of ns)

-- the fields are those of the kind
unfoldable pub laid_out_as : Kind → List ℕ → Bool
laid_out_as k line = has_layout (head_of k) (length (limits_of k)) (fields line)

-- what a line is read as that is to be of the kind
unfoldable pub read_kind : Kind → List ℕ → Read
read_kind k line = read_as (laid_out_as k line) (said_as k (values_of (fields line)))
