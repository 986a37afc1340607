-- `delivery::integrate` clears what is not in use, and puts the character in.
use Rattle.delivery.specs.Work.{PlacedAs}
use Rattle.memory.specs.Columns.{characters_in, operations_in}
use Rattle.memory.specs.Lent.{view}
use Rattle.delivery.proofs.Carrying.{placed_as}
use Rattle.delivery.proofs.integrate.Goals.{After-sweep}
use Rattle.delivery.proofs.integrate.Goals as goal

pub sweep-requires : goal.sweep-requires
sweep-requires c =
    let full = c.requires.full in
    let l = c.requires.placed.lent in
    record {
      characters_len = full.characters;
      toggles_len = full.toggles;
      pending_len = full.pending;
      length_le_character_slots = l.few;
      waiting_le_pending_slots = l.few-pending;
    }

-- the place is the same once the slots are clear
placed : (c : After-sweep) → let d = view c.args.document.now in
    PlacedAs (view c.sweep.new.document) c.args.insert c.args.k (characters_in d) (operations_in d)
placed c =
    let p = c.requires.placed in
    let s = c.sweep.ensures in
    placed_as p (s.value p.lent) s.table_after (s.full_after c.requires.full).toggles

pub put_in-requires : goal.put_in-requires
put_in-requires c =
    record {
      full = c.sweep.ensures.full_after c.requires.full;
      insertable = record { characters = _; pending = _; placed = placed (goal.at.put_in-requires c).After-sweep };
    }

pub returns-clause-value : goal.returns-clause-value
returns-clause-value c = c.put_in.ensures.value _ _ (placed (goal.at.returns-clause-value c).After-sweep)
