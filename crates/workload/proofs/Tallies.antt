-- Laws of the tally: one operation more at the end of the list is one step more, and counts at most one. The operations
-- by number, all of them, are the list that the definition has.
use mathlib.Core.Path.{◌≡◌, refl, ap, ◌∙◌}
use mathlib.Core.List.{List, [], ◌∷◌, ◌++◌, map, map-append, append-nil, append_assoc}
use Prim.Native.Nat.{ℕ, zero, suc, ◌+◌, ◌-◌, ◌≤◌, min}
use native.Mathlib.Nat.{add-zero, add-suc}
use native.Mathlib.Numerals.{add-one}
use native.Mathlib.Omega.{arith}
use borrow.Author.Tests.{lt-ltb, le-ltb}
use Rattle.woot.specs.declared.Operation.{Operation}
use Rattle.answers.specs.declared.Answer.{Answer}
use Rattle.answers.specs.declared.Answer.TheVariants.{Done, Deferred, Duplicate, Refused}
use Rattle.woot.specs.Replicas.{received}
use Rattle.workload.specs.Workload.{insert_of, delete_of, numbers_below, operation_of, operations_of, one_if_done, Tally, tallied, tallied_all, none_tallied, carried_out}

pub one_if_done-le : (a : Answer) → one_if_done a ≤ 1
unfolding one_if_done
one_if_done-le (Done n m) = omega arith
one_if_done-le Deferred = omega arith
one_if_done-le Duplicate = omega arith
one_if_done-le (Refused r) = omega arith

pub tallied-append : (t : Tally) (os ps : List Operation) → tallied_all t (os ++ ps) ≡ tallied_all (tallied_all t os) ps
unfolding tallied_all
tallied-append t [] ps = refl
tallied-append t (o ∷ os) ps = tallied-append (tallied t o) os ps

-- the first k operations of a row of them were received on t, which left u
pub record Received (f : ℕ → Operation) (t u : Tally) (k : ℕ) : Type 0 where
  pub left : u ≡ tallied_all t (map f (numbers_below k))
  pub few : u.count ≤ t.count + k

pub received_none : (f : ℕ → Operation) (t : Tally) → Received f t t 0
unfolding tallied_all numbers_below
received_none f t = record { left = refl; few = omega arith }

pub received_more : {f : ℕ → Operation} {t u v : Tally} {k : ℕ} → Received f t u k → v ≡ tallied u (f k) → Received f t v (k + 1)
unfolding tallied_all tallied numbers_below
received_more {f} {t} {u} {v} {k} r e =
    let more : map f (numbers_below (k + 1)) ≡ map f (numbers_below k) ++ f k ∷ [] =
    rw (add-one k) (map-append f (numbers_below k) (k ∷ [])) in
    record {
      left = rw (more, tallied-append t (map f (numbers_below k)) (f k ∷ []), ← r.left) e;
      few = rw e (omega (arith, r.few, one_if_done-le (received u.replica (f k)).answer));
    }

-- by number, the first of the operations are the inserts
inserts-first : (n k : ℕ) → k ≤ n → map (operation_of n) (numbers_below k) ≡ map insert_of (numbers_below k)
unfolding operation_of numbers_below
inserts-first n zero h = refl
inserts-first n (suc k) h =
    rw (
      map-append (operation_of n) (numbers_below k) (k ∷ []),
      map-append insert_of (numbers_below k) (k ∷ []),
      inserts-first n k (omega arith),
      lt-ltb k n (omega arith),
    )

-- and the others are the deletes
deletes_after : (n m : ℕ)
    → map (operation_of n) (numbers_below (n + m)) ≡ map insert_of (numbers_below n) ++ map delete_of (numbers_below m)
unfolding operation_of numbers_below
deletes_after n zero = rw (add-zero n, append-nil (map insert_of (numbers_below n))) (inserts-first n n (omega arith))
deletes_after n (suc m) =
    let back : n + m - n ≡ m = omega arith in
    rw (
      add-suc n m,
      map-append (operation_of n) (numbers_below (n + m)) ((n + m) ∷ []),
      map-append delete_of (numbers_below m) (m ∷ []),
      deletes_after n m,
      le-ltb (n + m) n (omega arith),
      back,
    )
    (append_assoc (map insert_of (numbers_below n)) (map delete_of (numbers_below m)) (delete_of m ∷ []))

-- where all of them were received, the count is that of the definition
pub all-received : (rows : ℕ) {n : ℕ} {u : Tally} → n ≡ min rows 1024
    → Received (operation_of n) none_tallied u (n + n)
    → u.count ≡ carried_out rows
unfolding carried_out operations_of
all-received rows {n = n} cut r =
    ap (λ (t : Tally). t.count)
    (r.left ∙ ap (tallied_all none_tallied) (deletes_after n n)
    ∙ ap (λ (m : ℕ). tallied_all none_tallied (operations_of m)) cut)
