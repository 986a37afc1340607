-- What goes out for a code point, by the range that it is in.
use mathlib.Core.Path.{◌≡◌, refl}
use Prim.Native.Nat.{ℕ, ◌≤◌, ◌<◌}
use native.Mathlib.Omega.{arith}
use borrow.Author.Tests.{ne_eqb}
use Rattle.utf8.specs.Encoding.{encoded_length, continuation, three_bytes, encode}
use Rattle.woot.specs.Ranges.{within}
use Rattle.utf8.proofs.CodePoints.{inside, under, over}
use Rattle.woot.specs.Text.{unprintable, printed, EdgesPrinted, Substitution}

pub edges-printed : EdgesPrinted
unfolding within unprintable printed
edges-printed = refl

pub substitution : Substitution
unfolding printed within encoded_length continuation three_bytes encode
substitution = record { replaced = λ n e. rw e; kept = λ n e. rw e }

module _ (n : ℕ) where
  pub printed-low : n ≤ 8 → printed n ≡ 65533
  unfolding printed unprintable
  printed-low h = rw (inside 0 8 n (omega arith) h)

  pub printed-middle : 11 ≤ n → n ≤ 31 → printed n ≡ 65533
  unfolding printed unprintable
  printed-middle l h = rw (over 0 8 n (omega arith), inside 11 31 n l h)

  pub printed_delete : n ≡ 127 → printed n ≡ 65533
  unfolding printed unprintable within
  printed_delete e = rw e refl

  pub printed-between : 8 < n → n < 11 → printed n ≡ n
  unfolding printed unprintable
  printed-between l h = rw (over 0 8 n l, under 11 31 n h, ne_eqb n 127 (λ e. absurd (omega (arith, e))))

  pub printed-above : 31 < n → (n ≡ 127 → ⊥) → printed n ≡ n
  unfolding printed unprintable
  printed-above l other = rw (over 0 8 n (omega arith), over 11 31 n l, ne_eqb n 127 other)
