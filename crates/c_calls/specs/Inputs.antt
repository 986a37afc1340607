-- For the proofs of the code alone, whose readers answer refusals 1 and 2: which refusal comes first where both a saved
-- replica and what else was handed have one.
use Rattle.std.specs.Prelude.{ℕ, Result, Ok, Err}
use Rattle.answers.specs.declared.Refusal.{Refusal}
use Rattle.answers.specs.Answers.{earlier}
use Rattle.saved.specs.LoadAnswer.{LoadAnswer}

unfoldable pub first_of : LoadAnswer → Refusal → Refusal
first_of (Ok _) q = q
first_of (Err p) q = earlier p q

-- where the saved replica has one, and a list was handed
unfoldable pub first_beside : Refusal → Result ℕ Refusal → Refusal
first_beside q (Ok n) = q
first_beside q (Err p) = earlier q p
