-- `holder::holder_of` looks among the characters first.
use mathlib.Core.Path.{sym, ◌∙◌}
use native.Mathlib.Omega.{arith}
use lib.ListN.{length-take}
use Rattle.holder.specs.Holder.{first_holder, holder_in}
use borrow.Author.Rules.{rules}
use Rattle.holder.proofs.holder_of.Goals as goal

pub find_among-requires : goal.find_among-requires
find_among-requires c =
    record {
      n_in_bounds = c.requires.n_in_bounds;
      tabled = c.requires.tabled;
    }

pub slice_bounds-find-end : goal.slice_bounds-find-end
slice_bounds-find-end c = simp length-take (omega arith)

pub returns-in-Some : goal.returns-in-Some
unfolding holder_in first_holder
returns-in-Some c = rw (sym c.find_among.ensures ∙ c.in-Some.is)

pub returns-in-Some-find : goal.returns-in-Some-find
unfolding holder_in first_holder
returns-in-Some-find c =
    let sought = c.find_among.ensures in
    let none = sym sought ∙ c.in-None.is in
    rw (none, sym c.find.ensures ∙ c.in-Some-find.is)

pub returns-in-None-find : goal.returns-in-None-find
unfolding holder_in first_holder
returns-in-None-find c =
    let none = sym c.find_among.ensures ∙ c.in-None.is in
    rw (none, sym c.find.ensures ∙ c.in-None-find.is)
