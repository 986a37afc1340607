-- The inserts of the rows in their sequence are those that the rule sends.
use Prim.Native.Nat.{ℕ, ◌≤◌, ◌<◌}
use native.Mathlib.Omega.{arith}
use mathlib.Core.Path.{◌≡◌, sym, ap, ◌∙◌}
use mathlib.Core.Bool.{Bool, not, cond}
use mathlib.Core.List.{List}
use borrow.Author.Tests.{ne_eqb}
use lib.ListN.{length, take, get_or}
use lib.Seq.{get_or-take, length-take-le}
use Rattle.woot.specs.declared.Operation.TheVariants.{Insert as insert}
use Rattle.woot.specs.declared.Character.{Character}
use Rattle.woot.specs.Operations.{origin}
use Rattle.woot.specs.State.{blank_character}
use Rattle.bulk.specs.Loading.{arrivals}
use Rattle.woot.specs.Memory.{identifier, character_of, character_at, characters_of, operation_of, operation_at}
use Rattle.woot.specs.Memory.{key_column, previous_column, next_column, code_point_column}
use Rattle.woot.specs.Table.{key}
use Rattle.bulk.specs.Catching.{Chunk, listed_in, sequenced, sent}
use Rattle.convergence.specs.Agreement.{Standing}
use Rattle.convergence.proofs.Characters.{at-index, id_in_range}
use Rattle.memory.proofs.Fullness.{ends, in-columns}
use Rattle.memory.proofs.Characters.{key-identifier, each_cong, each_map, rows-length, rows-small, rows-keys}
use Rattle.memory.proofs.Characters.{rows-previous}
use Rattle.memory.proofs.Characters.{rows_next, rows_at}
use Rattle.memory.proofs.Operations.{positive-key}
use Rattle.saving.specs.Documents.{operations_among}
use Rattle.sequencing.specs.Steps.{row_left, at_rows, SentRows}
use Rattle.sequencing.proofs.Leaving.{left-unlisted}
use Rattle.catching.specs.Columns.{InsertsOf}
use Rattle.catching.specs.Sending.{FlagsUnlisted, rows_in, SentIn}

-- the insert in a slot, and the character there
module _ (ids previous next points toggles : List ℕ) (n : ℕ)
    (s : Standing (characters_of ids previous next points toggles n)) where
  insert-at : (k : ℕ) → k < n
      → operation_at ids previous next points k
      ≡ insert (origin (get_or (characters_of ids previous next points toggles n) k blank_character))
  unfolding operation_of character_of origin
  insert-at k h =
      let cs = characters_of ids previous next points toggles n in
      let e : get_or cs k blank_character ≡ character_at ids previous next points toggles k =
      rows_at ids previous next points toggles n k blank_character h in
      let m = (at-index cs s k blank_character (omega (arith, h, rows-length ids previous next points toggles n))).0 in
      let p = positive-key (get_or cs k blank_character).id (id_in_range cs s m) in
      let q = ap (λ (c : Character). key c.id) e ∙ key-identifier (get_or ids k 0) in
      ap
      (λ (b : Bool). cond b
      (operation_of 0 (get_or previous k 0) (get_or next k 0) (get_or points k 0))
      (insert (origin (character_at ids previous next points toggles k))))
      (ne_eqb (get_or ids k 0) 0 (λ z. omega (arith, z, p, q)))
      ∙ sym (ap (λ (c : Character). insert (origin c)) e)

module _ (characters : List ℕ) (n : ℕ) (ks : List Chunk) (size : length characters ≡ 4096) (few : n ≤ 1024)
    {flags order numbers : List ℕ} {m r : ℕ}
    (f : FlagsUnlisted (take n (key_column characters)) ks m (length (take n (key_column characters))) flags)
    (q : SentRows (take n (key_column characters)) (take n (previous_column characters)) (take n (next_column characters))
    flags order r)
    (p : InsertsOf (key_column characters) (previous_column characters) (next_column characters)
    (code_point_column characters) order r numbers) where
  hold : (n ≤ length (key_column characters)) × ((n ≤ length (previous_column characters))
      × ((n ≤ length (next_column characters)) × (n ≤ length (code_point_column characters))))
  hold = in-columns 1024 {xs = characters} (ends 1024 size) few

  rows_many : length (take n (key_column characters)) ≡ n
  rows_many = length-take-le n (key_column characters) hold.0

  module _ (toggles : List ℕ) (s : Standing (rows_in characters toggles n)) where
    abbrev cs : List Character
    cs = rows_in characters toggles n

    counted : length cs ≡ n
    counted =
        rows-length (key_column characters) (previous_column characters) (next_column characters)
        (code_point_column characters) toggles n

    -- the characters in that order
    in-sequence : at_rows cs order r ≡ sent (listed_in ks) cs
    unfolding sent character_of
    in-sequence =
        q.sequence cs s
        (rows-small (key_column characters) (previous_column characters) (next_column characters)
        (code_point_column characters) toggles n)
        (sym (rows-keys (key_column characters) (previous_column characters) (next_column characters)
        (code_point_column characters) toggles n hold.0))
        (sym (rows-previous (key_column characters) (previous_column characters) (next_column characters)
        (code_point_column characters) toggles n hold.1.0))
        (sym (rows_next (key_column characters) (previous_column characters) (next_column characters)
        (code_point_column characters) toggles n hold.1.1.0))
        ∙ ap (λ (ds : List Character). sequenced (length ds) ds) (left-unlisted cs s flags (listed_in ks) unlisted-row)
      where
        unlisted-row : (i : ℕ) → i < length cs
            → row_left flags i ≡ not (listed_in ks (get_or cs i blank_character).id)
        unlisted-row i h =
            let l : i < n = omega (arith, h, counted) in
            let e = rows_at (key_column characters) (previous_column characters) (next_column characters)
            (code_point_column characters) toggles n i blank_character l in
            f.unlisted i (omega (arith, l, rows_many))
            ∙ ap (λ (k : ℕ). not (listed_in ks (identifier k))) (get_or-take n (key_column characters) i 0 l)
            ∙ sym (ap (λ (c : Character). not (listed_in ks c.id)) e)

    -- and their inserts
    inserts-are : operations_among numbers r ≡ arrivals (sent (listed_in ks) cs)
    unfolding at_rows
    inserts-are =
        p.inserts
        ∙ each_cong _ _ r
        (λ i h. insert-at (key_column characters) (previous_column characters) (next_column characters)
        (code_point_column characters) toggles n s (get_or order i 0) (omega (arith, q.rows i h, rows_many)))
        ∙ sym (each_map (λ (c : Character). insert (origin c)) (λ i. get_or cs (get_or order i 0) blank_character) r)
        ∙ ap arrivals in-sequence

  pub sent-in : SentIn characters n ks numbers r
  sent-in = record { size = p.size; few = omega (arith, q.few, rows_many); inserts = inserts-are }
