-- `sifting::keep_next` meets its contract, by where the key is found.
use mathlib.Core.Path.{refl, sym, ◌∙◌}
use native.Mathlib.Omega.{arith}
use lib.ListN.{take, get_or, length-take}
use Rattle.sifting.proofs.Keeping.{found-low, sifted_at, sifted_nothing}
use Rattle.sifting.proofs.keep_next.Goals as goal

pub same_fields-requires : goal.same_fields-requires
same_fields-requires c =
    let xs = c.args.inserts.now in
    let low = found-low (get_or xs c.args.i 0) (take c.args.n xs)
    (sym c.find_among-found.ensures ∙ c.in-Some.is) in
    record {
      inserts_len = c.requires.inserts_len;
      i_lt_character_slots = c.requires.i_lt_character_slots;
      j_lt_character_slots = omega (arith, low, length-take c.args.n xs, c.requires.n_le_i, c.requires.i_lt_character_slots);
    }

pub returns-then-same_fields : goal.returns-then-same_fields
returns-then-same_fields c =
    let same = sym c.same_fields.ensures ∙ c.if-same_fields.true in
    sifted_at c.args.inserts.now _ c.args.i c.args.n c.requires.i_lt_character_slots _
    (sym c.find_among-found.ensures ∙ c.in-Some.is) refl refl (rw same)

pub returns-else-same_fields : goal.returns-else-same_fields
returns-else-same_fields c =
    let other = sym c.same_fields.ensures ∙ c.if-same_fields.false in
    sifted_at c.args.inserts.now _ c.args.i c.args.n c.requires.i_lt_character_slots _
    (sym c.find_among-found.ensures ∙ c.in-Some.is) refl refl (rw other)

pub returns-in-None : goal.returns-in-None
returns-in-None c =
    sifted_nothing c.args.inserts.now _ c.args.i c.args.n c.requires.i_lt_character_slots
    (sym c.find_among-found.ensures ∙ c.in-None.is)
    c.move_insert.ensures
    c.enter.ensures refl
