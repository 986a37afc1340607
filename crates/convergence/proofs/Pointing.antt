-- Receiving with a cursor is receiving, or refusal 4 with nothing changed: its checks have one more, after known.
use mathlib.Core.Path.{◌≡◌, refl, ap}
use mathlib.Core.Bool.{Bool, true, false, not, cond}
use mathlib.Core.Option.{Option, some}
use mathlib.Core.Logic.{◌⊎◌, inl, inr, ⊎_elim}
use Rattle.answers.specs.declared.Refusal.TheVariants.{Range, Form, Position}
use Rattle.answers.specs.declared.Answer.{Answer}
use Rattle.answers.specs.declared.Answer.TheVariants.{Duplicate, Refused}
use Rattle.woot.specs.Ranges.{in_range}
use Rattle.answers.specs.Answers.{first, decided}
use Rattle.woot.specs.Calls.{Outcome, unchanged, duplicate, new_checks, receive_checks, receive_when, accept, beyond_visible}
use Rattle.woot.specs.Cursor.{receive_at_checks, receive_at_when}
use Rattle.convergence.specs.Cursors.{ReceiveAtSame, ReceiveAtElse}

pub receive-at-same : ReceiveAtSame
unfolding receive_at_when receive_when receive_at_checks receive_checks
receive-at-same formed s o g within = rw within

-- the first of four, in which the last may be left out, is that of three or is the last
one_more : (a b c d : Bool) (x y z p : Answer) (m : Option Answer) →
    (cond a (some x) (cond b (some y) (cond c (some z) (cond d (some p) m))) ≡ cond a (some x) (cond b (some y) (cond c (some z) m)))
    ⊎ (cond a (some x) (cond b (some y) (cond c (some z) (cond d (some p) m))) ≡ some p)
one_more true b c d x y z p m = inl refl
one_more false true c d x y z p m = inl refl
one_more false false true d x y z p m = inl refl
one_more false false false true x y z p m = inr refl
one_more false false false false x y z p m = inl refl

pub receive-at_else : ReceiveAtElse
unfolding receive_at_when receive_when receive_at_checks receive_checks decided
receive-at_else formed s o g =
    ⊎_elim (λ e. inl (ap outcome_of e)) (λ e. inr (ap outcome_of e))
    (one_more (not (in_range o)) (not formed) (duplicate s o) (beyond_visible s g) (Refused Range) (Refused Form) Duplicate (Refused Position) (first (new_checks s o)))
  where
    outcome_of : Option Answer → Outcome Answer
    outcome_of m = decided (unchanged s) m (accept s o)
