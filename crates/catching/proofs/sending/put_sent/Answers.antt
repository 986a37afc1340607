-- `sending::put_sent` meets its contract: the rows that are not listed are flagged, put in sequence, and their inserts
-- into columns.
use Prim.Native.Nat.{ℕ, zero, suc, ◌≤◌, ◌<◌}
use native.Mathlib.Omega.{arith}
use mathlib.Core.Path.{◌≡◌, refl, sym}
use mathlib.Core.List.{List}
use borrow.Author.Rules.{rules}
use lib.ListN.{length, take, get_or, replicate}
use lib.Seq.{length-take-le}
use Rattle.woot.specs.Memory.{column, key_column, previous_column, next_column, code_point_column}
use Rattle.memory.proofs.Fullness.{column-length, ends, in-columns}
use Rattle.sequencing.proofs.Flags.{unflagged}
use Rattle.catching.proofs.Sent.{sent-in}
use Rattle.catching.proofs.sending.put_sent.Goals.{Start}
use Rattle.catching.proofs.sending.put_sent.Goals as goal

-- no flag at first
zeros : (n p : ℕ) → get_or {A = ℕ} (replicate n 0) p 0 ≡ 0
zeros zero p = refl
zeros (suc n) zero = refl
zeros (suc n) (suc p) = zeros n p

module _ (s : Start) where
  abbrev rows : List ℕ
  rows = s.args.characters.now

  abbrev many : ℕ
  many = s.args.n

  hold : (many ≤ length (key_column rows)) × ((many ≤ length (previous_column rows))
      × ((many ≤ length (next_column rows)) × (many ≤ length (code_point_column rows))))
  hold = in-columns 1024 {xs = rows} (ends 1024 s.requires.characters_len) s.requires.n_le_character_slots

  first_part : length (take many (key_column rows)) ≡ many
  first_part = length-take-le many (key_column rows) hold.0

  second-part : length (take many (previous_column rows)) ≡ many
  second-part = length-take-le many (previous_column rows) hold.1.0

  third-part : length (take many (next_column rows)) ≡ many
  third-part = length-take-le many (next_column rows) hold.1.1.0

  wide : (j : ℕ) → j < 4 → length (column 1024 j rows) ≡ 1024
  wide j h = column-length 1024 j rows (omega (arith, s.requires.characters_len))

pub slice_bounds-ids-end : goal.slice_bounds-ids-end
slice_bounds-ids-end c = sym (wide (goal.at.slice_bounds-ids-end c).Start 0 (omega arith))

pub slice_bounds-flag_unlisted-end : goal.slice_bounds-flag_unlisted-end
slice_bounds-flag_unlisted-end c = sym (first_part (goal.at.slice_bounds-flag_unlisted-end c).Start)

pub flag_unlisted-requires : goal.flag_unlisted-requires
flag_unlisted-requires c =
    let p = c.requires in
    record {
      ids_in_bounds = omega (arith, first_part (goal.at.flag_unlisted-requires c).Start, c.requires.n_le_character_slots);
      by_index = (λ q. unflagged (replicate 1027 0) q (zeros 1027 q));
      count_in_bounds = p.count_in_bounds;
      count_in_bounds_2 = p.count_in_bounds_2;
      count_value = p.count_value;
    }

pub slice_bounds-sequence-end : goal.slice_bounds-sequence-end
slice_bounds-sequence-end c = sym (first_part (goal.at.slice_bounds-sequence-end c).Start)

pub slice_bounds-sequence-end-2 : goal.slice_bounds-sequence-end-2
slice_bounds-sequence-end-2 c = sym (second-part (goal.at.slice_bounds-sequence-end-2 c).Start)

pub slice_bounds-sequence-end-3 : goal.slice_bounds-sequence-end-3
slice_bounds-sequence-end-3 c = sym (third-part (goal.at.slice_bounds-sequence-end-3 c).Start)

pub sequence-sent-requires : goal.sequence-sent-requires
sequence-sent-requires c =
    let f = c.flag_unlisted.ensures in
    record {
      tabled = c.requires.tabled;
      keys_low = c.requires.keys_low;
      ids_in_bounds = omega (arith, first_part (goal.at.sequence-sent-requires c).Start, second-part (goal.at.sequence-sent-requires c).Start);
      ids_in_bounds_2 = omega (arith, first_part (goal.at.sequence-sent-requires c).Start, third-part (goal.at.sequence-sent-requires c).Start);
      ids_in_bounds_3 = omega (arith, first_part (goal.at.sequence-sent-requires c).Start, c.requires.n_le_character_slots, f.size-kept);
      rows_alone = f.alone;
      ids_in_bounds_4 = omega (
        arith,
        first_part (goal.at.sequence-sent-requires c).Start,
        c.requires.n_le_character_slots,
      );
    }

pub put_inserts-requires : goal.put_inserts-requires
put_inserts-requires c =
    let q = c.sequence-sent.ensures in
    record {
      has_rows = record {
        previous-hold = omega (arith, wide (goal.at.put_inserts-requires c).Start 0 (omega arith), wide (goal.at.put_inserts-requires c).Start 1 (omega arith));
        next-hold = omega (arith, wide (goal.at.put_inserts-requires c).Start 0 (omega arith), wide (goal.at.put_inserts-requires c).Start 2 (omega arith));
        points-hold = omega (arith, wide (goal.at.put_inserts-requires c).Start 0 (omega arith), wide (goal.at.put_inserts-requires c).Start 3 (omega arith));
        order-hold = q.held;
        rows = λ i h. omega (arith, q.rows i h, first_part (goal.at.put_inserts-requires c).Start, wide (goal.at.put_inserts-requires c).Start 0 (omega arith), c.requires.n_le_character_slots);
      };
      count_le_character_slots = omega (arith, q.few, first_part (goal.at.put_inserts-requires c).Start, c.requires.n_le_character_slots);
      numbers_len = c.requires.numbers_len;
    }

pub returns : goal.returns
returns c =
    sent-in c.args.characters.now c.args.n _ c.requires.characters_len c.requires.n_le_character_slots c.flag_unlisted.ensures
    c.sequence-sent.ensures c.put_inserts.ensures
