-- The answer and the decision with a cursor are those without one, with 4 put in after known.
use mathlib.Core.Path.{◌≡◌, refl, ap}
use mathlib.Core.Bool.{Bool, true, false, not}
use borrow.Author.Tests.{not-false}
use Rattle.answers.specs.declared.Answer.{Answer}
use Rattle.answers.specs.declared.Answer.TheVariants.{Done, Deferred, Duplicate, Refused}
use Rattle.reception.specs.declared.Decision.{Decision}
use Rattle.reception.specs.declared.Decision.TheVariants.{Answered, Defer, Place, Toggle as toggleAt}
use Rattle.cursor.specs.Steps.{answer_at, overruled}

answer-still : (a : Answer) → a ≡ answer_at false a
unfolding answer_at
answer-still (Done n m) = refl
answer-still Deferred = refl
answer-still Duplicate = refl
answer-still (Refused q) = refl

pub at-within : (b : Bool) (a : Answer) → b ≡ false → a ≡ answer_at b a
at-within b a e = rw e (answer-still a)

pub at_beyond : (b : Bool) (a d : Answer) → not b ≡ false → a ≡ d → answer_at true d ≡ answer_at b a
at_beyond b a d e f = rw (not-false b e, f)

decision_still : (d : Decision) → d ≡ overruled false d
unfolding overruled
decision_still (Answered a) = ap Answered (answer-still a)
decision_still Defer = refl
decision_still (Place k) = refl
decision_still (toggleAt k) = refl

pub decided-within : (b : Bool) (d : Decision) → b ≡ false → d ≡ overruled b d
decided-within b d e = rw e (decision_still d)

pub decided_beyond : (b : Bool) (d e : Decision) → not b ≡ false → d ≡ e → overruled true e ≡ overruled b d
decided_beyond b d e f h = rw (not-false b f, h)
