-- `listing::reading::ones_and` meets its contract: a word has at most 64 ones.
use Prim.Native.Nat.{◌≤◌}
use native.Mathlib.Omega.{arith}
use lib.Count.{ones, ones-le}
use Rattle.listing.specs.Reading.{ones_and}
use Rattle.listing.proofs.reading.ones_and.Goals.{Start}
use Rattle.listing.proofs.reading.ones_and.Goals as goal

few : (s : Start) → ones s.args.word ≤ 64
few s = ones-le 64 s.args.word s.ranges.word.fits

pub overflow_cast-more : goal.overflow_cast-more
overflow_cast-more c = record { fits = omega (arith, few (goal.at.overflow_cast-more c).Start) }

pub overflow_sub-more : goal.overflow_sub-more
overflow_sub-more c = omega (arith, few (goal.at.overflow_sub-more c).Start)

pub returns-then-more-ones : goal.returns-then-more-ones
unfolding ones_and
returns-then-more-ones c = omega (arith, few (goal.at.returns-then-more-ones c).Start, c.if-more-ones.true)

pub returns : goal.returns
unfolding ones_and
returns c = omega (arith, few (goal.at.returns c).Start, c.if-more-ones.false)
