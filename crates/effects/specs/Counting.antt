-- For the proofs of the code alone: how much a replica in memory holds.
use Rattle.std.specs.Prelude.{ℕ, ◌+◌, ◌-◌, not, List, [], ◌∷◌, eqb, length}
use Rattle.lists.specs.Lists.{keep}
use Rattle.woot.specs.declared.Character.{Character}
use Rattle.woot.specs.declared.Replica.{Replica}
use Rattle.answers.specs.declared.Refusal.TheVariants.{Form}
use Rattle.answers.specs.declared.Answer.TheVariants.{Done, Refused}
use Rattle.woot.specs.Limits.{capacity}
use Rattle.woot.specs.Memory.{meaning, replica_well_formed}
use Rattle.answers.specs.Answers.{◌⇒◌, first, decided}
use Rattle.woot.specs.Calls.{visibles}
use Rattle.effects.specs.Results.{Result, result, silent}
use Rattle.effects.specs.Counts.{counts_of}

-- how many inserts are held: n characters, and those of the pending operations that have a key of their own
abbrev pub present_by : ℕ → List ℕ → ℕ
present_by n own = n + length (keep (λ k. not (eqb k 0)) own)

-- the counts of n characters and w pending operations that have these keys of their own
unfoldable pub counts_in : List Character → ℕ → List ℕ → ℕ → Result
counts_in cs n own w = result (Done (length (visibles cs)) w) n (capacity - present_by n own)

-- the counts of a replica, whose form decides first
unfoldable pub counts_left : Replica → Result
counts_left r =
    decided (λ q. silent (Refused q)) (first ((not (replica_well_formed r) ⇒ Form) ∷ [])) (counts_of (meaning r))
