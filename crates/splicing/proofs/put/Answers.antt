-- `splicing::put` meets its contract: one run after another.
use mathlib.Core.Path.{◌≡◌, refl, sym, ap, ◌∙◌}
use native.Mathlib.Omega.{arith}
use lib.ListN.{length, length-append}
use borrow.Author.Rules.{rules}
use Rattle.saving.specs.Documents.{line_bytes}
use Rattle.splicing.proofs.Runs.{put-between}
use Rattle.splicing.proofs.put.Goals as goal

pub returns : goal.returns
returns c =
    put-between _ _ _ _ _ c.requires.back_in_bounds _ _ c.put_all-middle.ensures _ _ (c.put_numbered-end.ensures.value, c.put_numbered-end.ensures.out_after) c.put_all.ensures.1

pub put_numbered-end-requires : goal.put_numbered-end-requires
put_numbered-end-requires c = c.requires.count_bound
