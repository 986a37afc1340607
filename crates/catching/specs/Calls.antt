-- Document 02, Req 09: listing what a replica in memory holds, and answering a list. Both write into a lent slice, all
-- of it or nothing.
use Rattle.std.specs.Prelude.{ℕ, List, ◌∷◌, not}
use Rattle.lines.specs.Lines.{concatenated}
use Rattle.answers.specs.declared.Refusal.{Refusal}
use Rattle.answers.specs.declared.Refusal.TheVariants.{Layout}
use Rattle.answers.specs.Answers.{Check, ◌⇒◌}
use Rattle.woot.specs.declared.Replica.{Replica}
use Rattle.woot.specs.Writing.{Written}
use Rattle.woot.specs.Memory.{meaning, replica_well_formed}
use Rattle.woot.specs.Writing.{refusing, written_as, output_after}
use Rattle.bulk.specs.Catching.{listing, answer_for, list_checks, answer_checks}
use Rattle.codec.specs.Operations.{operation_line}
use Rattle.listing.specs.Format.{list_bytes, list_laid_out, list_said}

-- ---- listing

-- the bytes of the list
unfoldable pub list_bytes_of : Replica → List ℕ
list_bytes_of r = list_bytes (listing (meaning r))

-- what listing answers
unfoldable pub list_written : Replica → List ℕ → Written
list_written r out = written_as (refusing (list_checks (replica_well_formed r))) (list_bytes_of r) out

-- every byte of the slice afterwards
unfoldable pub list_out : Replica → List ℕ → List ℕ
list_out r out = output_after (refusing (list_checks (replica_well_formed r))) (list_bytes_of r) out

-- ---- answering

-- the conditions in checking order: 1, 2, 18, 3, and 12 last
unfoldable pub answering_checks : Replica → List ℕ → List (Check Refusal)
answering_checks r list = (not (list_laid_out list) ⇒ Layout) ∷ answer_checks (replica_well_formed r) (list_said list)

-- the lines of the answer, one after another
unfoldable pub answer_bytes_of : Replica → List ℕ → List ℕ
answer_bytes_of r list = concatenated operation_line (answer_for (meaning r) (list_said list))

-- what answering answers
unfoldable pub answer_written : Replica → List ℕ → List ℕ → Written
answer_written r list out = written_as (refusing (answering_checks r list)) (answer_bytes_of r list) out

-- every byte of the slice afterwards
unfoldable pub answer_out : Replica → List ℕ → List ℕ → List ℕ
answer_out r list out = output_after (refusing (answering_checks r list)) (answer_bytes_of r list) out
