-- The lines of several elements, one after another: the invariants of a loop that measures them, and of one that puts them.
use Rattle.std.proofs.Common.{Some, None}
use mathlib.Core.Path.{◌≡◌, ap, ◌∙◌}
use mathlib.Core.List.{List, [], ◌∷◌, ◌++◌, append-nil}
use Prim.Native.Nat.{ℕ, ◌+◌, ◌≤◌, ◌<◌}
use native.Mathlib.Numerals.{add-one}
use native.Mathlib.Omega.{arith}
use lib.ListN.{length, take, drop, get_or, length-append, take-append-drop}
use lib.Seq.{take-suc, take-take}
use Rattle.output.specs.Output.{has_room, placed, past}
use Rattle.lines.specs.Room.{Room}
use Rattle.lines.specs.Lines.{concatenated}
use Rattle.lines.specs.Room.{room_for}
use Rattle.lines.proofs.Rooms.{until, short, until_tells, short_tells, Run, run_none, run_on, run-whole}
use Rattle.lines.proofs.Lines.{concatenated-append}

module _ {A : Type 0} (f : A → List ℕ) where
  -- the lines of one element more
  concatenated-more : (xs : List A) (i : ℕ) (d : A) → i < length xs → concatenated f (take (i + 1) xs) ≡ concatenated f (take i xs) ++ f (get_or xs i d)
  concatenated-more xs i d h =
      rw (add-one i, take-suc xs i d h, concatenated-append f (take i xs) (get_or xs i d ∷ []), append-nil (f (get_or xs i d)))

  concatenated-front : (xs : List A) (k : ℕ) → length (concatenated f (take k xs)) ≤ length (concatenated f xs)
  concatenated-front xs k =
      omega (
        arith,
        length-append (concatenated f (take k xs)) (concatenated f (drop k xs)),
        ap length (concatenated-append f (take k xs) (drop k xs)),
        ap (λ (l : List A). length (concatenated f l)) (take-append-drop k xs),
      )

  concatenated-le : (xs : List A) (k n : ℕ) → k ≤ n → length (concatenated f (take k xs)) ≤ length (concatenated f (take n xs))
  concatenated-le xs k n h = rw (take-take k n xs h) at (concatenated-front (take n xs) k)

-- ---- measured

-- the lines of the first i end at `end`, within the slice
pub record Measuring {A : Type 0} (f : A → List ℕ) (xs : List A) (n size at end i : ℕ) : Type 0 where
  pub part : i ≤ n
  pub few : n ≤ length xs
  pub fits : end ≤ size
  pub offset : end ≡ at + length (concatenated f (take i xs))

module _ {A : Type 0} (f : A → List ℕ) (xs : List A) (n size at : ℕ) where
  pub measuring_begun : n ≤ length xs → at ≤ size → Measuring f xs n size at at 0
  measuring_begun h k = record { part = omega arith; few = h; fits = k; offset = omega arith }

  module _ {end i : ℕ} (m : Measuring f xs n size at end i) where
    module _ (d : A) (h : i < n) {x : Room} (e : x ≡ room_for size end (f (get_or xs i d))) where
      longer : length (concatenated f (take (i + 1) xs)) ≡ length (concatenated f (take i xs)) + length (f (get_or xs i d))
      longer = ap length (concatenated-more f xs i d (omega (arith, m.few))) ∙ length-append (concatenated f (take i xs)) (f (get_or xs i d))

      pub measuring_more : {next : ℕ} → x ≡ Some next → Measuring f xs n size at next (i + 1)
      measuring_more q =
          let t = until_tells size end (f (get_or xs i d)) e q in
          record { part = omega arith; few = m.few; fits = omega (arith, t.0, t.1); offset = omega (arith, t.0, m.offset, longer) }

      pub measuring_short : x ≡ None → None ≡ room_for size at (concatenated f (take n xs))
      measuring_short q =
          short size at (concatenated f (take n xs))
          (omega (arith, short_tells size end (f (get_or xs i d)) e q, m.offset, longer, concatenated-le f xs (i + 1) n (omega arith)))

    pub measuring_end : n ≤ i → Some end ≡ room_for size at (concatenated f (take n xs))
    measuring_end h =
        let all : i ≡ n = omega (arith, m.part) in
        until size at (concatenated f (take n xs)) (rw all at m.offset) m.fits

-- one part after another: the whole has room where the first part has, and from its end on the second
module _ (size at : ℕ) (a b : List ℕ) {x : Room} (e : x ≡ room_for size at a) where
  pub room-on : {end : ℕ} → x ≡ Some end → room_for size end b ≡ room_for size at (a ++ b)
  unfolding room_for has_room
  room-on {end} q =
      let t = until_tells size at a e q in
      let sum : end + length b ≡ at + length (a ++ b) = omega (arith, t.0, length-append a b) in
      rw sum

  pub room-short : x ≡ None → None ≡ room_for size at (a ++ b)
  room-short q = short size at (a ++ b) (omega (arith, short_tells size at a e q, length-append a b))

-- ---- put

pub record Putting {A : Type 0} (f : A → List ℕ) (xs : List A) (n : ℕ) (out₀ : List ℕ) (at : ℕ) (out : List ℕ) (end i : ℕ) : Type 0 where
  pub part : i ≤ n
  pub few : n ≤ length xs
  pub space : at + length (concatenated f (take n xs)) ≤ length out₀
  pub run : Run out₀ at (concatenated f (take i xs)) out end

module _ {A : Type 0} (f : A → List ℕ) (xs : List A) (n : ℕ) (out₀ : List ℕ) (at : ℕ) where
  pub putting_begun : n ≤ length xs → at + length (concatenated f (take n xs)) ≤ length out₀ → Putting f xs n out₀ at out₀ at 0
  putting_begun h fits = record { part = omega arith; few = h; space = fits; run = run_none out₀ at (omega arith) }

  module _ {out : List ℕ} {end i : ℕ} (g : Putting f xs n out₀ at out end i) where
    pub putting_more : (d : A) → i < n → {out' : List ℕ} {end' : ℕ}
        → (end' ≡ past out end (f (get_or xs i d))) × (out' ≡ placed out end (f (get_or xs i d))) → Putting f xs n out₀ at out' end' (i + 1)
    putting_more d h w =
        let more : concatenated f (take (i + 1) xs) ≡ concatenated f (take i xs) ++ f (get_or xs i d) = concatenated-more f xs i d (omega (arith, g.few)) in
        record {
          part = omega arith;
          few = g.few;
          space = g.space;
          run = rw more (run_on g.run (f (get_or xs i d)) (omega (arith, ap length more, concatenated-le f xs (i + 1) n (omega arith), g.space)) w.0 w.1);
        }

    pub putting_end : n ≤ i → (end ≡ past out₀ at (concatenated f (take n xs))) × (out ≡ placed out₀ at (concatenated f (take n xs)))
    putting_end h =
        let all : i ≡ n = omega (arith, g.part) in
        run-whole {out₀ = out₀} {at = at} g.space (rw all at g.run)
