-- `typing::type_all` types one character after another. The loop's invariant: what is left, with what was done so far, comes
-- to what all of them come to.
use Rattle.std.proofs.Common.{◌+◌, ◌≤◌, ◌<◌, ◌≡◌, ◌∷◌, [], ℕ, length, refl, sym, subst, ◌∙◌}
use native.Mathlib.Omega.{arith}
use lib.ListN.{get_or}
use lib.Seq.{length-take-le}
use Rattle.woot.specs.Memory.{code_point_column}
use Rattle.memory.specs.Lent.{viewed}
use Rattle.memory.proofs.Fullness.{column-length}
use Rattle.memory.proofs.Stored.{counts, form_counted}
use Rattle.keystroke.specs.Steps.{Typeable}
use Rattle.typing.specs.Steps.{points_in, AllTyped}
use Rattle.typing.proofs.Going.{point-read, going_begun, going_typeable, going_stopped, going_again, going_ended, told_nowhere, told-taken}
use Rattle.typing.proofs.type_all.Goals.{In-loop-i, Start}
use Rattle.typing.proofs.type_all.Goals as goal

-- ---- before each

-- as many code points as are counted
counted : (s : Start) → length (points_in s.args.count s.args.typed.now) ≡ s.args.count
counted s =
    length-take-le s.args.count (code_point_column s.args.typed.now)
    (omega (arith, s.requires.count_le_character_slots, column-length 1024 3 s.args.typed.now (omega (arith, s.requires.typed_len))))

few : (s : Start) → length (points_in s.args.count s.args.typed.now) ≤ 1024
few s = omega (arith, counted s, s.requires.count_le_character_slots)

-- the pending operations at the beginning
waiting : (s : Start) → s.args.replica.now.document.waiting ≤ 512
waiting s =
    let r = viewed s.args.replica.now in
    (counts r (form_counted r s.requires.typeable.form)).pending

module _ (c : In-loop-i) where
  many : length (points_in c.args.count c.args.typed.now) ≡ c.args.count
  many =
      length-take-le c.args.count (code_point_column c.args.typed.now)
      (omega (arith, c.requires.count_le_character_slots, column-length 1024 3 c.args.typed.now (omega (arith, c.requires.typed_len))))

  short : c.loop-i.i < length (points_in c.args.count c.args.typed.now)
  short = omega (arith, c.loop-i-test.true, many)

  -- the code point that is lent on
  read : get_or c.loop-i.typed (3072 + c.loop-i.i) 0 ≡ get_or (points_in c.args.count c.args.typed.now) c.loop-i.i 0
  read = point-read c.loop-i.invariant.2.columns c.loop-i.i short (omega (arith, many, c.requires.count_le_character_slots))

pub loop-i-init : goal.loop-i-init
loop-i-init c =
    let p = c.requires in
    (p.full, p.typed_len, going_begun p.typeable p.unwritten refl refl)

pub type_next-requires-clause-typeable : goal.type_next-requires-clause-typeable
type_next-requires-clause-typeable c =
    let l = (goal.at.type_next-requires-clause-typeable c).In-loop-i in
    subst (λ (n : ℕ). Typeable (viewed c.loop-i.replica) c.loop-i.at.point (n ∷ [])) (sym (read l)) (going_typeable c.loop-i.invariant.2 (short l))

pub type_next-requires-clause-waiting_bound : goal.type_next-requires-clause-waiting_bound
type_next-requires-clause-waiting_bound c =
    let s = (goal.at.type_next-requires-clause-waiting_bound c).Start in
    omega (arith, c.loop-i.invariant.2.balance, short (goal.at.type_next-requires-clause-waiting_bound c).In-loop-i, few s, waiting s)

pub loop-i-preserved : goal.loop-i-preserved
loop-i-preserved c =
    let v = c.loop-i.invariant in
    let l = (goal.at.loop-i-preserved c).In-loop-i in
    let t = told-taken (viewed c.loop-i.replica) c.loop-i.at (read l) (viewed c.type_next.new.replica) c.type_next.ensures.value c.in-Some.is in (
      c.type_next.ensures.full_after,
      c.inscribe.auto.typed ∙ v.1,
      going_again v.2 (short l) (few (goal.at.loop-i-preserved c).Start) t c.inscribe.ensures,
    )

-- ---- at the end

pub returns-in-None-clause-value : goal.returns-in-None-clause-value
unfolding AllTyped
returns-in-None-clause-value c =
    let l = (goal.at.returns-in-None-clause-value c).In-loop-i in
    going_stopped c.loop-i.invariant.2 (short l)
    (told_nowhere (viewed c.loop-i.replica) c.loop-i.at (read l) (viewed c.type_next.new.replica) c.type_next.ensures.value c.in-None.is)

pub returns-clause-value : goal.returns-clause-value
unfolding AllTyped
returns-clause-value c =
    let v = c.loop-i.invariant in
    going_ended v.2 (omega (arith, c.loop-i-test.false, counted (goal.at.returns-clause-value c).Start)) v.1
