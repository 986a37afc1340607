-- `decimal::align` meets its contract. The loop's invariant: the digits of n are those of the rest and then the ones that stand in the
-- array already, from just past `start` to its end.
use mathlib.Core.Path.{◌≡◌, refl, sym, ap, ◌∙◌}
use mathlib.Core.List.{List, [], ◌∷◌, ◌++◌, append-nil}
use Prim.Native.Nat.{ℕ, zero, suc, ◌+◌, ◌-◌, ◌/◌, ◌%◌, ◌<◌, ◌≤◌, ◌^◌}
use native.Mathlib.Omega.{arith}
use lib.ListN.{length, replicate, set, length-append}
use lib.Seq.{append_snoc}
use Rattle.decimal.specs.declared.Aligned.{Aligned}
use Rattle.decimal.specs.Numeral.{digits}
use Rattle.decimal.specs.Answers.{aligned}
use Rattle.decimal.proofs.Laws.{digits-one, digits_more, one-le-width, width-more, width-le}
use Rattle.decimal.proofs.align.Invariants.{Filled}
use Rattle.decimal.proofs.align.Goals as goal

-- a store of the next digit
stored : (k b : ℕ) (done : List ℕ) → set (replicate (suc k) 0 ++ done) k b ≡ replicate k 0 ++ b ∷ done
stored zero b done = refl
stored (suc k) b done = ap (λ (l : List ℕ). 0 ∷ l) (stored k b done)

begun : (n : ℕ) → n < 2 ^ 64 → Filled n (replicate 20 0) 19 n
begun n h = record {
  done = [];
  now = refl;
  then = sym (append-nil (digits n));
  at = refl;
  few = width-le n h;
}

module _ (n : ℕ) (bytes : List ℕ) (start rest b : ℕ) (f : Filled n bytes start rest) where
  within : start < 20
  within = omega (arith, f.at)

  -- of what is left to store there is more than one
  room : 10 ≤ rest → 1 ≤ start
  room h =
      omega (arith, f.at, f.few, length-append (digits rest) f.done, ap length f.then, width-more rest h, one-le-width (rest / 10))

  more : 10 ≤ rest → b ≡ 48 + rest % 10 → Filled n (set bytes start b) (start - 1) (rest / 10)
  more h e =
      let left : 1 ≤ start = room h in
      let down : suc (start - 1) ≡ start = omega arith in
      record {
        done = b ∷ f.done;
        now = ap (λ (l : List ℕ). set l start b) f.now ∙ stored start b f.done
            ∙ ap (λ (k : ℕ). replicate k 0 ++ b ∷ f.done) (sym down);
        then = f.then ∙ rw (digits_more rest h, e) (append_snoc (digits (rest / 10)) (48 + rest % 10) f.done);
        at = omega (arith, f.at);
        few = f.few;
      }

  last : rest < 10 → b ≡ 48 + rest → ◌≡◌ {A = Aligned} (record { bytes = set bytes start b; start = start }) (aligned n)
  unfolding aligned
  last h e =
      let whole : digits n ≡ b ∷ f.done = f.then ∙ rw (digits-one rest h, e) in
      let gap : 20 - length (digits n) ≡ start = omega (arith, f.at, ap length whole) in
      let q : set bytes start b ≡ replicate start 0 ++ digits n = rw (f.now, whole) (stored start b f.done) in
      rw gap (λ k. record { bytes = q k; start = start })

pub loop-rest-init : goal.loop-rest-init
loop-rest-init c = begun _ (omega arith)

pub bounds-bytes-start : goal.bounds-bytes-start
bounds-bytes-start c = within _ _ _ _ 0 c.loop-rest.invariant

pub overflow_sub-start : goal.overflow_sub-start
overflow_sub-start c = room _ _ _ _ 0 c.loop-rest.invariant c.loop-rest-test.true

pub loop-rest-preserved : goal.loop-rest-preserved
loop-rest-preserved c = more _ _ _ _ _ c.loop-rest.invariant c.loop-rest-test.true c.digit.ensures

pub bounds-bytes-start-2 : goal.bounds-bytes-start-2
bounds-bytes-start-2 c = within _ _ _ _ 0 c.loop-rest.invariant

pub returns : goal.returns
returns c = last _ _ _ _ _ c.loop-rest.invariant (omega arith) c.digit-2.ensures
