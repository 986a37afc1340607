-- `check` meets its contract: each test comes out as the rules say, once those before it are passed.
use native.Mathlib.Omega.{arith}
use mathlib.Core.Path.{◌≡◌, sym}
use mathlib.Core.Bool.{true}
use lib.ListN.{take}
use Rattle.lists.specs.Lists.{every}
use Rattle.lists.proofs.Tests.{failed, passed}
use Rattle.memory.specs.Columns.{Replica}
use Rattle.woot.specs.Form.{ordered}
use Rattle.woot.specs.Table.{agrees}
use Rattle.woot.specs.Memory.{code_point_column}
use Rattle.memory.specs.Lent.{Slots, replica_as}
use Rattle.memory.proofs.Fullness.{sized_slots}
use Rattle.well_formed.proofs.Checks.{characters_as, ranged, out_of_range_lem, few, characters_ranged, untabled, tabled, disordered, decided}
use Rattle.well_formed.proofs.check.Goals.{After-agrees_among, After-characters_ordered, Else-not-agrees_among, Else-not-in_ranges, Start}
use Rattle.well_formed.proofs.check.Goals as goal

-- the replica with the arrays
abbrev made : Start → Replica
made s =
    let a = s.args in
    replica_as a.site a.characters.now a.toggles.now a.n a.pending.now a.w a.table.now.heads a.table.now.links

full : (s : Start) → Slots (made s).document
full s = sized_slots s.args.n s.args.w s.requires

kept : (c : Else-not-in_ranges) → let a = c.args in
    ranged (replica_as a.site a.characters.now a.toggles.now a.n a.pending.now a.w a.table.now.heads a.table.now.links) ≡ true
kept c = passed c.in_ranges.ensures c.if-not-in_ranges.false-raw

-- the test of the table
agree : (c : After-agrees_among) → let a = c.args in
    let d = (replica_as a.site a.characters.now a.toggles.now a.n a.pending.now a.w a.table.now.heads a.table.now.links).document in
    c.agrees_among.result ≡ agrees d.table (take d.length d.ids)
agree c = c.agrees_among.ensures

agreed : (c : Else-not-agrees_among) → let a = c.args in
    let d = (replica_as a.site a.characters.now a.toggles.now a.n a.pending.now a.w a.table.now.heads a.table.now.links).document in
    agrees d.table (take d.length d.ids) ≡ true
agreed c = passed c.agrees_among.ensures c.if-not-agrees_among.false-raw

-- the test of the order
order : (c : After-characters_ordered) → let a = c.args in
    let r = replica_as a.site a.characters.now a.toggles.now a.n a.pending.now a.w a.table.now.heads a.table.now.links in
    c.characters_ordered.result ≡ every (ordered (characters_as r)) (characters_as r)
order c =
    let a = c.args in
    let r = replica_as a.site a.characters.now a.toggles.now a.n a.pending.now a.w a.table.now.heads a.table.now.links in
    let ranges =
    characters_ranged r (sized_slots a.n a.w c.requires) (passed c.in_ranges.ensures c.if-not-in_ranges.false-raw) in
    c.characters_ordered.ensures (code_point_column a.characters.now) a.toggles.now ranges

pub returns-then-not-in_ranges : goal.returns-then-not-in_ranges
returns-then-not-in_ranges c = sym (out_of_range_lem (made (goal.at.returns-then-not-in_ranges c).Start) (failed c.in_ranges.ensures c.if-not-in_ranges.true-raw))

pub agrees_among-requires : goal.agrees_among-requires
agrees_among-requires c =
    let s = (goal.at.agrees_among-requires c).Start in
    let count = (few (made s) (full s) (kept (goal.at.agrees_among-requires c).Else-not-in_ranges)).characters in
    record {
      heads_len = (full s).heads;
      n_in_bounds = omega (arith, count, (full s).links);
      n_in_bounds_2 = omega (arith, count, (full s).ids);
    }

pub returns-then-not-agrees_among : goal.returns-then-not-agrees_among
returns-then-not-agrees_among c =
    let s = (goal.at.returns-then-not-agrees_among c).Start in
    sym (untabled (made s) (full s) (kept (goal.at.returns-then-not-agrees_among c).Else-not-in_ranges) (failed (agree (goal.at.returns-then-not-agrees_among c).After-agrees_among) c.if-not-agrees_among.true-raw))

pub characters_ordered-requires : goal.characters_ordered-requires
characters_ordered-requires c =
    let s = (goal.at.characters_ordered-requires c).Start in
    let ranges = kept (goal.at.characters_ordered-requires c).Else-not-in_ranges in
    let count = (few (made s) (full s) ranges).characters in
    let finds = tabled (made s) (full s) ranges (agreed (goal.at.characters_ordered-requires c).Else-not-agrees_among) in
    record {
      n_in_bounds = omega (arith, count, (full s).ids);
      n_in_bounds_2 = omega (arith, count, (full s).previous);
      n_in_bounds_3 = omega (arith, count, (full s).next);
      tabled = finds;
    }

pub returns-then-not-characters_ordered : goal.returns-then-not-characters_ordered
returns-then-not-characters_ordered c =
    let s = (goal.at.returns-then-not-characters_ordered c).Start in
    sym (disordered (made s) (full s) (kept (goal.at.returns-then-not-characters_ordered c).Else-not-in_ranges) (agreed (goal.at.returns-then-not-characters_ordered c).Else-not-agrees_among) (failed (order (goal.at.returns-then-not-characters_ordered c).After-characters_ordered) c.if-not-characters_ordered.true-raw))

pub queue_formed-requires : goal.queue_formed-requires
queue_formed-requires c =
    let s = (goal.at.queue_formed-requires c).Start in
    let ranges = kept (goal.at.queue_formed-requires c).Else-not-in_ranges in
    let counts = few (made s) (full s) ranges in
    let finds = tabled (made s) (full s) ranges (agreed (goal.at.queue_formed-requires c).Else-not-agrees_among) in
    record {
      n_in_bounds = omega (arith, counts.characters, (full s).ids);
      pending_len = s.requires.pending;
      w_le_pending_slots = counts.pending;
      tabled = finds;
    }

pub returns : goal.returns
returns c =
    let s = (goal.at.returns c).Start in
    let ordered-all = passed (order (goal.at.returns c).After-characters_ordered) c.if-not-characters_ordered.false-raw in
    decided (made s) (full s) (kept (goal.at.returns c).Else-not-in_ranges) (agreed (goal.at.returns c).Else-not-agrees_among) ordered-all c.queue_formed.ensures
