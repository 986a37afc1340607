-- The visible text of a replica into a lent slice.
use Rattle.std.specs.Prelude.{ℕ, not, List, [], ◌∷◌, Err}
use Rattle.woot.specs.declared.Replica.{Replica}
use Rattle.answers.specs.declared.Refusal.TheVariants.{Form}
use Rattle.woot.specs.Writing.{Written}
use Rattle.woot.specs.Memory.{meaning, replica_well_formed}
use Rattle.answers.specs.Answers.{Check, ◌⇒◌}
use Rattle.woot.specs.Writing.{written_as, output_after}
use Rattle.woot.specs.Text.{text}

-- the visible text of a replica
unfoldable pub text_of : Replica → List ℕ
text_of r = text (meaning r).characters

-- condition 3; 12 comes after it
unfoldable pub text_checks : Replica → List (Check Written)
text_checks r = (not (replica_well_formed r) ⇒ Err Form) ∷ []

-- the answer, and every byte of the slice
unfoldable pub text_written : Replica → List ℕ → Written
text_written r out = written_as (text_checks r) (text_of r) out

unfoldable pub text_out : Replica → List ℕ → List ℕ
text_out r out = output_after (text_checks r) (text_of r) out
