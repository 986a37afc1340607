-- What reading answers.
use Rattle.std.specs.Prelude.{Result}
use Rattle.answers.specs.declared.Refusal.{Refusal}

-- that it was read, or why it was not
abbrev pub LoadAnswer : Type 0
LoadAnswer = Result (Unit {0}) Refusal
