-- `passes::offer` takes the insert in, and moves one that lacks a neighbour behind those that are left.
use Prim.Native.Nat.{ℕ}
use native.Mathlib.Omega.{arith}
use mathlib.Core.Path.{◌≡◌, refl, subst}
use mathlib.Core.List.{List}
use Rattle.memory.specs.Columns.{Document}
use Rattle.heap.specs.Columns.{insert_at}
use Rattle.passes.specs.declared.Taken.{Taken}
use Rattle.passes.specs.declared.Taken.TheVariants.{Placed, Lacking, Dropped}
use Rattle.passes.specs.Steps.{laid_as, Lays, TakenAs, Reaches}
use Rattle.passes.proofs.Passing.{reached_ranged, reached_laid, reached-room, reached-slots, reached-placed}
use Rattle.passes.proofs.Passing.{reached-dropped, reached_lacking}
use Rattle.passes.proofs.offer.Goals.{After-take_at-taken}
use Rattle.passes.proofs.offer.Goals as goal

abbrev lays : {d : Document} {xs : List ℕ} {k i : ℕ} → Reaches d xs k i → Lays d
lays g = record { characters = g.reached.characters; laid = reached_laid g.reached g.within }

-- what became of the insert
module _ (c : After-take_at-taken) (g : Reaches (laid_as c.args.characters.now c.args.toggles.now c.args.at.length c.args.table.now) c.args.inserts.now c.args.at.left c.args.i) where
  abbrev At : Taken → Type 0
  At v =
      let l = c.take_at-taken.new in
      TakenAs g.reached.characters (insert_at c.args.inserts.now c.args.i) c.take_at-taken.new.characters c.take_at-taken.new.toggles c.args.at.length c.take_at-taken.new.table v

  told : (v : Taken) → c.take_at-taken.result ≡ v → At v
  told v e = subst At e (c.take_at-taken.ensures (lays g))

pub take_at-taken-requires : goal.take_at-taken-requires
take_at-taken-requires c =
    let g = c.requires.reaches in
    record {
      characters_len = c.requires.characters_len;
      n_lt_character_slots = reached-room g.reached g.within;
      lays = lays g;
      inserts_len = g.reached.held.size;
      i_lt_character_slots = reached-slots g.reached g.within;
      i_value = reached_ranged g.reached g.within;
    }

pub overflow_add-result : goal.overflow_add-result
overflow_add-result c =
    let g = c.requires.reaches in
    omega (arith, reached-room g.reached g.within)

pub move_insert-requires : goal.move_insert-requires
move_insert-requires c =
    let g = c.requires.reaches in
    let low = reached-slots g.reached g.within in
    record {
      inserts_len = g.reached.held.size;
      from_lt_character_slots = low;
      to_lt_character_slots = omega (arith, low, g.reached.kept);
    }

pub overflow_add-result-in-Lacking : goal.overflow_add-result-in-Lacking
overflow_add-result-in-Lacking c =
    let g = c.requires.reaches in
    omega (arith, reached-slots g.reached g.within, g.reached.kept)

pub returns-in-Placed : goal.returns-in-Placed
returns-in-Placed c g =
    let l = c.take_at-taken.new in
    reached-placed g.reached g.within _ refl c.take_at-taken.new.characters c.take_at-taken.new.toggles _ c.take_at-taken.new.table (told (goal.at.returns-in-Placed c).After-take_at-taken g Placed c.in-Placed.is)

pub returns-in-Lacking : goal.returns-in-Lacking
returns-in-Lacking c g =
    let l = c.take_at-taken.new in
    reached_lacking g.reached g.within _ refl c.take_at-taken.new.characters c.take_at-taken.new.toggles _ c.take_at-taken.new.table (told (goal.at.returns-in-Lacking c).After-take_at-taken g Lacking c.in-Lacking.is) c.move_insert.ensures

pub returns-in-Dropped : goal.returns-in-Dropped
returns-in-Dropped c g =
    let l = c.take_at-taken.new in
    reached-dropped g.reached g.within _ refl c.take_at-taken.new.characters c.take_at-taken.new.toggles _ c.take_at-taken.new.table (told (goal.at.returns-in-Dropped c).After-take_at-taken g Dropped c.in-Dropped.is)
