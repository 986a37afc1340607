-- `effects::counting::counts_of` meets its contract: each number is the length of one of the lists that are meant.
use native.Mathlib.Omega.{arith}
use mathlib.Core.Path.{sym, ap, ◌∙◌}
use lib.Seq.{length-take-le}
use borrow.Author.Rules.{rules}
use Rattle.effects.specs.Results.{number_of}
use Rattle.effects.specs.Counting.{counts_in}
use Rattle.effects.proofs.counting.counts_of.Goals as goal

pub slice_bounds-count_inserts-end : goal.slice_bounds-count_inserts-end
slice_bounds-count_inserts-end c = sym (length-take-le _ _ (omega (arith, c.requires.w_in_bounds)))

pub returns : goal.returns
unfolding counts_in
returns c cs e =
    c.number_of.ensures ∙ ap number_of (rw (c.count-shown.ensures cs e, c.count_inserts.ensures))
