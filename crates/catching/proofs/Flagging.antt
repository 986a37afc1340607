-- One row more is flagged where it is not listed, and no other flag changes.
use Prim.Native.Nat.{ℕ, ◌+◌, ◌<◌}
use native.Mathlib.Omega.{arith}
use mathlib.Core.Path.{◌≡◌, sym, ap, ◌∙◌, subst}
use mathlib.Core.Bool.{Bool, true, false, not}
use mathlib.Core.List.{List}
use mathlib.Core.Logic.{⊎_elim}
use lib.ListN.{length, get_or, set, length-set}
use Rattle.lists.proofs.Tests.{side}
use Rattle.woot.specs.Memory.{identifier}
use Rattle.bulk.specs.Catching.{Chunk, listed_in}
use Rattle.sequencing.specs.Steps.{left_at, row_left}
use Rattle.sequencing.proofs.Flags.{left_other, left-set}
use Rattle.catching.specs.Sending.{FlagsUnlisted}

module _ (ids : List ℕ) (ks : List Chunk) (size : ℕ) where
  pub none_flagged : (flags : List ℕ) → length flags ≡ size → ((p : ℕ) → left_at flags p ≡ false)
      → FlagsUnlisted ids ks size 0 flags
  none_flagged flags e f =
      record {
        size-kept = e;
        alone = record { begin = f 0; behind = λ p h. f p };
        unlisted = λ k h. absurd (omega (arith, h));
      }

  module _ {i : ℕ} {flags : List ℕ} (t : FlagsUnlisted ids ks size i flags) where
    abbrev test : ℕ → Bool
    test k = listed_in ks (identifier (get_or ids k 0))

    -- the first rows, and one more
    with_one : (after : List ℕ) → ((k : ℕ) → k < i → row_left after k ≡ not (test k)) → row_left after i ≡ not (test i)
        → (k : ℕ) → k < i + 1 → row_left after k ≡ not (test k)
    with_one after f g k h =
        ⊎_elim
        (λ l. let e : i ≡ k = omega (arith, l, h) in subst (λ (j : ℕ). row_left after j ≡ not (test j)) e g) (f k)
        (side i k)

    -- a row that is listed
    pub one-listed : test i ≡ true → {after : List ℕ} → after ≡ flags → FlagsUnlisted ids ks size (i + 1) after
    one-listed e f =
        rw f
        (record {
          size-kept = t.size-kept;
          alone = record { begin = t.alone.begin; behind = λ p h. t.alone.behind p (omega (arith, h)) };
          unlisted = with_one flags t.unlisted (t.alone.behind (i + 1) (omega arith) ∙ sym (ap not e));
        })

    -- and one that is not
    pub one-unlisted : i + 1 < size → test i ≡ false → {after : List ℕ} → after ≡ set flags (i + 1) 1
        → FlagsUnlisted ids ks size (i + 1) after
    one-unlisted h e f =
        rw f
        (record {
          size-kept = length-set flags (i + 1) 1 ∙ t.size-kept;
          alone =
              record {
                begin = left_other flags (i + 1) 1 0 (λ q. omega (arith, q)) ∙ t.alone.begin;
                behind =
                    λ p l.
                    left_other flags (i + 1) 1 p (λ q. omega (arith, q, l)) ∙ t.alone.behind p (omega (arith, l));
              };
          unlisted =
              with_one (set flags (i + 1) 1)
              (λ k l. left_other flags (i + 1) 1 (k + 1) (λ q. omega (arith, q, l)) ∙ t.unlisted k l)
              (left-set flags (i + 1) 1 (omega (arith, h, t.size-kept)) ∙ sym (ap not e));
        })
