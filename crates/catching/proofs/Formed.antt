-- What a replica in form has for listing and answering.
use Prim.Native.Nat.{ℕ, ◌<◌}
use native.Mathlib.Omega.{arith}
use mathlib.Core.Path.{◌≡◌, refl, sym, ap, ◌∙◌}
use mathlib.Core.Bool.{true}
use mathlib.Core.List.Memᴰ
use mathlib.Core.List.{List, map}
use lib.ListN.{length, take, get_or, length-map}
use Rattle.lists.specs.Lists.{every}
use Rattle.lists.proofs.Tests.{and_left_lem}
use Rattle.lists.proofs.Indices.{map_get_d}
use Rattle.lists.proofs.Members.{member_every}
use Rattle.woot.specs.declared.Identifier.{Identifier}
use Rattle.woot.specs.declared.Character.{Character}
use Rattle.woot.specs.declared.Replica.{Replica}
use Rattle.woot.specs.Limits.{last_site, last_clock}
use Rattle.woot.specs.Ranges.{within, site_number, character_id}
use Rattle.woot.specs.Table.{key, keys}
use Rattle.woot.specs.Placing.{identifiers}
use Rattle.woot.specs.State.{blank_character}
use Rattle.woot.specs.Form.{well_formed}
use Rattle.woot.specs.Memory.{identifier, character_of, characters_of, characters_in, meaning, replica_well_formed}
use Rattle.woot.specs.Memory.{key_column, previous_column, next_column, code_point_column, character_at}
use Rattle.bulk.specs.Catching.{chunks_of, listing, operations_for, answer_for}
use Rattle.convergence.specs.Agreement.{Standing}
use Rattle.convergence.proofs.Characters.{at-index, id_in_range}
use Rattle.convergence.proofs.Ranges.{within-high}
use Rattle.convergence.proofs.Soundness.{standing}
use Rattle.convergence.proofs.Marking.{listed-total}
use Rattle.index.proofs.Keys.{character-small}
use Rattle.memory.specs.Columns as columns
use Rattle.memory.specs.Lent.{viewed}
use Rattle.memory.proofs.Fullness.{FullArrays}
use Rattle.memory.proofs.Views.{form_view, meaning-view}
use Rattle.memory.proofs.Characters.{each_map, each_take, rows-length}
use Rattle.memory.proofs.Stored.{form_meant}
use Rattle.well_formed.specs.Examined.{Examined}
use Rattle.well_formed.proofs.Examining.{lent_examined, fits, form, ids_used}
use Rattle.sequencing.specs.Steps.{KeysLow}
use Rattle.listing.specs.Format.{list_said}
use Rattle.catching.specs.Calls.{answer_bytes_of}
use Rattle.catching.specs.Sending.{rows_in, answer_lines, list_of}

-- an identifier in range has a key far below what no key is
low-key : (x : Identifier) → character_id x ≡ true → key x < 4294967295
unfolding key character_id site_number
low-key x h =
    omega (
      arith,
      character-small x h,
      within-high 1 last_site x.site (and_left_lem (site_number x.site) (within 1 last_clock x.clock) h),
    )

-- the lines of an answer are those that the rule has
pub answer-lines : (r : Replica) (list : List ℕ)
    → answer_lines r.site.number (rows_in r.document.characters r.document.toggles r.document.length)
    (list_said list).chunks
    ≡ answer_bytes_of r list
unfolding answer_lines answer_bytes_of answer_for operations_for meaning characters_in
answer-lines r list = refl

module _ (r : Replica) (full : FullArrays r.document) (formed : replica_well_formed r ≡ true) where
  pub seen : Examined (viewed r)
  seen = lent_examined _ _ _ full (sym (form_view r) ∙ formed)

  abbrev rows : List Character
  rows = rows_in r.document.characters r.document.toggles r.document.length

  abbrev ids : List ℕ
  ids = take r.document.length (key_column r.document.characters)

  pub rows_stand : Standing rows
  unfolding columns.meaning columns.characters_in
  rows_stand = standing (form (viewed r) seen).sound

  keyed : ids ≡ keys rows
  unfolding columns.meaning columns.characters_in
  keyed = ids_used (viewed r) seen

  pub rows-low : KeysLow ids
  rows-low k h =
      let n : length ids ≡ length rows = ap length keyed ∙ length-map rows (λ (c : Character). key c.id) in
      let l : k < length rows = omega (arith, h, n) in
      let e = ap (λ (ks : List ℕ). get_or ks k 0) keyed
      ∙ map_get_d (λ (c : Character). key c.id) rows k 0 blank_character l in
      let m = (at-index rows rows_stand k blank_character l).0 in
      omega (arith, e, low-key (get_or rows k blank_character).id (id_in_range rows rows_stand m))

  -- ---- listing

  identified : map identifier ids ≡ identifiers rows
  unfolding characters_of character_of
  identified =
      ap (map identifier) (sym (each_take (key_column r.document.characters) 0 r.document.length
      (fits (viewed r) seen).ids))
      ∙ each_map identifier (λ i. get_or (key_column r.document.characters) i 0) r.document.length
      ∙ sym (each_map (λ (c : Character). c.id)
      (character_at (key_column r.document.characters) (previous_column r.document.characters)
      (next_column r.document.characters) (code_point_column r.document.characters) r.document.toggles)
      r.document.length)

  pub ids_ranged : every character_id (map identifier ids) ≡ true
  ids_ranged =
      ap (every character_id) identified
      ∙ member_every character_id (identifiers rows)
      (λ x m. let c = Memᴰ.of_map (λ (c : Character). c.id) rows m in
      sym (ap character_id c.2) ∙ id_in_range rows rows_stand c.1)

  pub list-is : list_of r.site.number r.document.length r.document.characters ≡ listing (meaning r)
  unfolding listing meaning characters_in
  list-is =
      let f : well_formed (meaning r) ≡ true = ap well_formed (meaning-view r) ∙ form_meant (viewed r) seen.form in
      let n = rows-length (key_column r.document.characters) (previous_column r.document.characters)
      (next_column r.document.characters) (code_point_column r.document.characters) r.document.toggles
      r.document.length in
      let t : r.document.length ≡ (listing (meaning r)).total = sym (listed-total (meaning r) f ∙ n) in
      let e = ap chunks_of identified in
      λ j. record { site = r.site.number; total = t j; chunks = e j }
