-- `splicing::put_row` meets its contract: the rows before and after the one are copied, and it is written.
use native.Mathlib.Omega.{arith}
use mathlib.Core.Path.{◌≡◌, sym, ap, ap₂, ◌∙◌}
use mathlib.Core.List.{List, [], ◌++◌}
use Prim.Native.Nat.{ℕ, ◌+◌, ◌-◌, ◌<◌, ◌≤◌}
use mathlib.Core.Bool.{cond}
use lib.Dec.{ltb}
use lib.ListN.{length, take, drop, get_or}
use lib.Seq.{length-take-le}
use Rattle.woot.specs.Writing.{written_as, output_after}
use Rattle.saved.specs.declared.Version.TheVariants.{Second}
use Rattle.saved.specs.Format.{site_line, saved_bytes}
use Rattle.saving.specs.Documents.{line_bytes, state_in}
use Rattle.splicing.specs.Splicing.{between, row_bytes, Spliced}
use Rattle.splicing.proofs.Splices.{start_is, start-le, all-bytes, rows-held, row-there, row_written}
use borrow.Author.Rules.{rules}
use Rattle.splicing.proofs.put_row.Goals.{Start}
use Rattle.splicing.proofs.put_row.Goals as goal

-- what is known of the replica
module _ (s : Start) where
  abbrev known : Spliced s.args.body.now s.args.starts.now s.args.k s.args.skip (state_in s.args.site s.args.characters.now s.args.toggles.now s.args.n s.args.pending.now s.args.w)
  known = s.requires.spliced

  held-is : s.args.n + s.args.skip ≡ length known.old + 1
  held-is = rows-held s.args.site s.args.characters.now s.args.toggles.now s.args.n s.args.pending.now s.args.w known s.requires.skip_bound

  there : s.args.k < s.args.n
  there = row-there s.args.site s.args.characters.now s.args.toggles.now s.args.n s.args.pending.now s.args.w known s.requires.skip_bound

  all_held : s.args.n - 1 + s.args.skip ≡ length known.old
  all_held = omega (arith, held-is, there)

  -- where a row begins, from what the search for it answers
  begins : (row from : ℕ) → from ≡ cond (ltb row (s.args.n - 1 + s.args.skip)) (get_or s.args.starts.now row 0) (length s.args.body.now)
      → row ≤ s.args.n - 1 + s.args.skip → from ≡ length (row_bytes (take row known.old))
  begins row from e h = e ∙ start_is known.spelled row _ all_held h

  from_is : (from : ℕ) → from ≡ cond (ltb s.args.k (s.args.n - 1 + s.args.skip)) (get_or s.args.starts.now s.args.k 0) (length s.args.body.now)
      → from ≡ length (row_bytes (take s.args.k known.old))
  from_is from e = begins s.args.k from e (omega (arith, all_held, known.place))

  to_is : (to : ℕ)
      → to ≡ cond (ltb (s.args.k + s.args.skip) (s.args.n - 1 + s.args.skip)) (get_or s.args.starts.now (s.args.k + s.args.skip) 0) (length s.args.body.now)
      → to ≡ length (row_bytes (take (s.args.k + s.args.skip) known.old))
  to_is to e = begins (s.args.k + s.args.skip) to e (omega (arith, all_held, known.place))

pub line-line-requires : goal.line-line-requires
line-line-requires c =
    let p = c.requires in
    record {
      has_slots = record {
        places-hold = omega (arith, p.characters_len, p.n_le_character_slots);
        characters-full = p.characters_len;
        characters-hold = p.n_le_character_slots;
        toggles-hold = p.n_in_bounds;
        pending-full = p.pending_len;
        columns-few = omega arith;
        pending-hold = p.w_le_pending_slots;
      };
      at_bound = omega (arith, there (goal.at.line-line-requires c).Start);
    }

pub slice_bounds-put_file-end : goal.slice_bounds-put_file-end
slice_bounds-put_file-end c =
    let s = (goal.at.slice_bounds-put_file-end c).Start in
    sym (length-take-le _ c.args.body.now (start-le (known s).spelled c.args.k (from_is s _ c.start_of-from.ensures)))

-- the rows after it begin in the bytes
to_le : (s : Start) (to : ℕ) → to ≡ length (row_bytes (take (s.args.k + s.args.skip) (known s).old)) → to ≤ length s.args.body.now
to_le s to e = start-le (known s).spelled (s.args.k + s.args.skip) e

pub returns : goal.returns
unfolding state_in
returns c =
    let r = c.put_file.ensures in
    let told = c.line-line.ensures.result_value ∙ row_written c.args.site c.args.characters.now c.args.toggles.now c.args.n c.args.pending.now c.args.w (known (goal.at.returns c).Start) c.requires.skip_bound in
    let all =
    ap (λ (bs : List ℕ). site_line Second c.args.site ++ between (take c.start_of-from.result c.args.body.now) bs (take (length c.args.body.now - c.start_of-to.result) (drop c.start_of-to.result c.args.body.now))) told
    ∙ all-bytes (known (goal.at.returns c).Start) (from_is (goal.at.returns c).Start _ c.start_of-from.ensures) (to_is (goal.at.returns c).Start _ c.start_of-to.ensures) in
    record {
      value = r.value ∙ ap (λ bs. written_as [] bs c.args.out.now) all;
      out_after = r.out_after ∙ ap (λ bs. output_after [] bs c.args.out.now) all;
    }

pub slice_bounds-put_file-count : goal.slice_bounds-put_file-count
slice_bounds-put_file-count c =
    let s = (goal.at.slice_bounds-put_file-count c).Start in to_le s _ (to_is s _ c.start_of-to.ensures)

pub overflow_sub-held : goal.overflow_sub-held
overflow_sub-held c = omega (arith, there (goal.at.overflow_sub-held c).Start)

pub overflow_add-held : goal.overflow_add-held
overflow_add-held c = omega (arith, there (goal.at.overflow_add-held c).Start, c.requires.n_le_character_slots, c.requires.skip_bound)

pub start_of-from-requires : goal.start_of-from-requires
start_of-from-requires c = omega (arith, all_held (goal.at.start_of-from-requires c).Start, (known (goal.at.start_of-from-requires c).Start).spelled.slots)

pub overflow_add-k : goal.overflow_add-k
overflow_add-k c = omega (arith, there (goal.at.overflow_add-k c).Start, c.requires.n_le_character_slots, c.requires.skip_bound)

pub start_of-to-requires : goal.start_of-to-requires
start_of-to-requires c = omega (arith, all_held (goal.at.start_of-to-requires c).Start, (known (goal.at.start_of-to-requires c).Start).spelled.slots)

pub slice_bounds-put_file-start : goal.slice_bounds-put_file-start
slice_bounds-put_file-start c =
    let s = (goal.at.slice_bounds-put_file-start c).Start in omega (arith, to_le s _ (to_is s _ c.start_of-to.ensures))

pub put_file-requires : goal.put_file-requires
put_file-requires c = c.line-line.ensures.count_bound
