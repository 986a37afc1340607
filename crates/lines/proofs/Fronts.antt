-- The line at the front of bytes: where the head word ends, the numbers after it decide.
use mathlib.Core.Path.{◌≡◌, refl, sym, ap, ◌∙◌}
use mathlib.Core.List.{List, [], ◌∷◌}
use mathlib.Core.Bool.{Bool, true, false, cond}
use Prim.Native.Nat.{ℕ, zero, suc, ◌+◌, ◌-◌, ◌<◌, ◌≤◌}
use native.Mathlib.Omega.{arith}
use lib.Dec.{eqb}
use lib.ListN.{length, take, drop, length-drop}
use lib.Seq.{take_all}
use mathlib.Core.Logic.{⊎_elim}
use Rattle.lists.proofs.Tests.{clash, side}
use Rattle.std.proofs.Common.{Err}
use Rattle.decimal.specs.declared.Fault.TheVariants.{Malformed}
use Rattle.lines.specs.declared.Ending.{Ending}
use Rattle.lines.specs.Lines.{line_feed, has, before, first_line, ended}
use Rattle.lines.specs.Fields.{tab, fields, equal}
use Rattle.lines.specs.Answers.{numbers_after, numbers_of, front_of}
use Rattle.lines.proofs.Bytes.{before-le, is-there, is-absent}
use Rattle.lines.proofs.Heads.{other-head, same_head}
use Rattle.lines.proofs.FrontLine.{line_le, malformed-whole}

-- ---- a part of the bytes before one of a kind

module _ (b : ℕ) where
  drop-into : (k : ℕ) (s : List ℕ) → k ≤ length (before b s) → before b (drop k s) ≡ drop k (before b s)
  drop-into zero s h = refl
  drop-into (suc k) [] h = refl
  drop-into (suc k) (x ∷ s) h = go (eqb x b) refl (drop-into k s) h
    where
      go : (t : Bool) → eqb x b ≡ t → (k ≤ length (before b s) → before b (drop k s) ≡ drop k (before b s))
          → suc k ≤ length (cond t [] (x ∷ before b s)) → before b (drop k s) ≡ drop (suc k) (cond t [] (x ∷ before b s))
      go true e rest j = absurd (omega arith)
      go false e rest j = rest (omega arith)

  take-into : (k : ℕ) (s : List ℕ) → k ≤ length (before b s) → take k s ≡ take k (before b s)
  take-into zero s h = refl
  take-into (suc k) [] h = refl
  take-into (suc k) (x ∷ s) h = go (eqb x b) refl (take-into k s) h
    where
      go : (t : Bool) → eqb x b ≡ t → (k ≤ length (before b s) → take k s ≡ take k (before b s))
          → suc k ≤ length (cond t [] (x ∷ before b s)) → take (suc k) (x ∷ s) ≡ take (suc k) (cond t [] (x ∷ before b s))
      go true e rest j = absurd (omega arith)
      go false e rest j = ap (λ (l : List ℕ). x ∷ l) (rest (omega arith))

-- where there is one, it is not among the bytes before it
fed_shorter : (s : List ℕ) → has line_feed s ≡ true → length (first_line s) < length s
unfolding first_line
fed_shorter s h = ⊎_elim (λ (p : length s ≤ length (before line_feed s)). clash h (is-absent line_feed s p)) (λ p. p) (side (length s) (length (before line_feed s)))

ended_line : (s : List ℕ) → ended s ≡ true → length (first_line s) < length s
unfolding ended
ended_line s h = fed_shorter s h

-- the bytes from an offset on, as they are lent
abbrev pub part_from : List ℕ → ℕ → List ℕ
part_from s end = take (length s - end) (drop end s)

pub part-is : (s : List ℕ) (end : ℕ) → part_from s end ≡ drop end s
part-is s end = take_all (length s - end) (drop end s) (omega (arith, length-drop end s))

pub part-le : (s : List ℕ) (end : ℕ) → length (part_from s end) ≤ length s - end
part-le s end = omega (arith, ap length (part-is s end), length-drop end s)

-- ---- at the front of bytes

module _ (head limits s : List ℕ) (end : ℕ) (e : end ≡ length (before tab (first_line s))) where
  inside : end ≤ length (first_line s)
  inside = omega (arith, before-le tab (first_line s))

  pub front-le : end ≤ length s
  front-le = omega (arith, inside, line_le s)

  front_same : take end s ≡ take end (first_line s)
  unfolding first_line
  front_same = take-into line_feed end s inside

  rest_line : first_line (part_from s end) ≡ drop end (first_line s)
  unfolding first_line
  rest_line = rw (part-is s end) (drop-into line_feed end s inside)

  -- another word stands there
  pub front-other : equal (take end s) head ≡ false → Err Malformed ≡ front_of head limits s
  unfolding front_of
  front-other h = go (ended s)
    where
      go : (t : Bool) → Err Malformed ≡ cond t (numbers_of head limits (fields (first_line s))) (Err Malformed)
      go true = other-head head limits (first_line s) end (omega arith) (ap (λ (l : List ℕ). equal l head) (sym front_same) ∙ h)
      go false = refl

  -- the head word does, and the numbers after it were read
  module _ (h : equal (take end s) head ≡ true) (r : Ending) (n : r.numbers ≡ numbers_after limits (fields (first_line (part_from s end))))
      (f : (r.numbers ≡ Err Malformed → ⊥) → r.end ≡ length (first_line (part_from s end))) where
    pub all_numbers : r.numbers ≡ numbers_of head limits (fields (first_line s))
    all_numbers =
        n ∙ ap (λ (l : List ℕ). numbers_after limits (fields l)) rest_line
        ∙ same_head head limits (first_line s) end (omega arith) (ap (λ (l : List ℕ). equal l head) (sym front_same) ∙ h)

    feed : (r.numbers ≡ Err Malformed → ⊥) → end + r.end ≡ length (first_line s)
    feed k = omega (arith, f k, ap length rest_line, length-drop end (first_line s), inside)

    lacking : ((r.numbers ≡ Err Malformed → ⊥) → ⊥) → Err Malformed ≡ r.numbers
    lacking k = sym (n ∙ malformed-whole limits (fields (first_line (part_from s end))) (λ j. k (λ q. j (sym n ∙ q))))

    ended-told : end + r.end < length s → (r.numbers ≡ Err Malformed → ⊥) → ended s ≡ true
    unfolding ended first_line
    ended-told k j = is-there line_feed s (omega (arith, feed j))

    -- no line feed follows them
    pub front-short : length s ≤ end + r.end → Err Malformed ≡ front_of head limits s
    unfolding front_of
    front-short k = go (ended s) refl
      where
        go : (t : Bool) → ended s ≡ t → Err Malformed ≡ cond t (numbers_of head limits (fields (first_line s))) (Err Malformed)
        go true q = lacking (λ j. omega (arith, feed j, ended_line s q)) ∙ all_numbers
        go false q = refl

    -- one does, or they lack the layout
    pub front_read_lem : end + r.end < length s → r.numbers ≡ front_of head limits s
    unfolding front_of
    front_read_lem k = go (ended s) refl
      where
        go : (t : Bool) → ended s ≡ t → r.numbers ≡ cond t (numbers_of head limits (fields (first_line s))) (Err Malformed)
        go true q = all_numbers
        go false q = sym (lacking (λ j. clash (ended-told k j) q))

    pub front-next : (r.numbers ≡ Err Malformed → ⊥) → end + r.end + 1 ≡ length (first_line s) + 1
    front-next k = omega (arith, feed k)
