-- `passes::take_in` looks for the place and, where there is one, puts the insert in.
use Rattle.passes.proofs.Laying.{laid_count, laid_slots, laid_tabled, taken_lacking, taken-crossed}
use Rattle.passes.proofs.Laying.{taken-unplaceable, below-within, taken-placed}
use Rattle.passes.proofs.take_in.Goals as goal

pub find_place-placement-requires : goal.find_place-placement-requires
find_place-placement-requires c =
    let l = c.requires.lays.laid in
    record {
      n_le_character_slots = laid_count l;
      characters_len = c.requires.characters_len;
      tabled = laid_tabled l;
    }

pub put_in-requires : goal.put_in-requires
put_in-requires c =
    let l = c.requires.lays.laid in
    let z = laid_slots l in
    let k = below-within c.args.characters.now l _ _ c.find_place-placement.ensures _ c.in-Below.is in
    record {
      k_le_n = k;
      n_lt_character_slots = c.requires.n_lt_character_slots;
      characters_len = c.requires.characters_len;
      toggles_len = z.toggles;
      sized = record { heads = z.heads; links = z.links };
    }

pub returns-in-Below : goal.returns-in-Below
returns-in-Below c t =
    let e = c.put_in.ensures in
    taken-placed c.args.characters.now t.laid _ _ c.find_place-placement.ensures _ c.in-Below.is c.requires.n_lt_character_slots
    c.put_in.new.characters e.characters_after e.characters_after_2 e.characters_after_3 e.characters_after_4 e.toggles_after e.table_after

pub returns-in-Missing : goal.returns-in-Missing
returns-in-Missing c t =
    taken_lacking c.args.characters.now t.laid _ _ c.find_place-placement.ensures c.in-Missing.is

pub returns-in-Crossed : goal.returns-in-Crossed
returns-in-Crossed c t =
    taken-crossed c.args.characters.now t.laid _ _ c.find_place-placement.ensures c.in-Crossed.is

pub returns-in-Unplaceable : goal.returns-in-Unplaceable
returns-in-Unplaceable c t =
    taken-unplaceable c.args.characters.now t.laid _ _ c.find_place-placement.ensures c.in-Unplaceable.is
