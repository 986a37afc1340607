-- A number against a range: inside, under or over it; and so against the code points.
use Prim.Native.Nat.{ℕ, ◌≤◌, ◌<◌}
use native.Mathlib.Omega.{arith}
use mathlib.Core.Path.{◌≡◌}
use mathlib.Core.Bool.{true, false, ◌&&◌, not}
use lib.Dec.{leb}
use borrow.Author.Tests.{leb-true, le-leb, lt-leb}
use Rattle.lists.proofs.Tests.{and_left_lem, and_right, and_intro, not-intro, fails}
use Rattle.utf8.specs.CodePoints.{within, last_code_point, first_surrogate, last_surrogate, is_code_point}

module _ (low high n : ℕ) where
  pub inside : low ≤ n → n ≤ high → within low high n ≡ true
  unfolding within
  inside l h = and_intro (le-leb low n l) (le-leb n high h)

  pub under : n < low → within low high n ≡ false
  unfolding within
  under l = rw (lt-leb low n l)

  pub over : high < n → within low high n ≡ false
  unfolding within
  over h = fails (leb low n && leb n high) (λ e. let g = leb-true n high (and_right (leb low n) (leb n high) e) in omega arith)

  pub at_least : within low high n ≡ true → low ≤ n
  unfolding within
  at_least e = leb-true low n (and_left_lem (leb low n) (leb n high) e)

  pub at_most : within low high n ≡ true → n ≤ high
  unfolding within
  at_most e = leb-true n high (and_right (leb low n) (leb n high) e)

module _ (n : ℕ) where
  pub below_surrogates : n < first_surrogate → is_code_point n ≡ true
  unfolding is_code_point
  below_surrogates h = and_intro (inside 0 last_code_point n (omega arith) (omega arith)) (not-intro (under first_surrogate last_surrogate n h))

  pub above_surrogates : last_surrogate < n → n ≤ last_code_point → is_code_point n ≡ true
  unfolding is_code_point
  above_surrogates l h = and_intro (inside 0 last_code_point n (omega arith) h) (not-intro (over first_surrogate last_surrogate n l))

  pub surrogate : first_surrogate ≤ n → n ≤ last_surrogate → is_code_point n ≡ false
  unfolding is_code_point
  surrogate l h = rw (inside 0 last_code_point n (omega arith) (omega arith), inside first_surrogate last_surrogate n l h)

  pub beyond : last_code_point < n → is_code_point n ≡ false
  unfolding is_code_point
  beyond l = rw (over 0 last_code_point n l)

  pub not_beyond : is_code_point n ≡ true → n ≤ last_code_point
  unfolding is_code_point
  not_beyond p = at_most 0 last_code_point n (and_left_lem (within 0 last_code_point n) (not (within first_surrogate last_surrogate n)) p)
