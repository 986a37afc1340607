-- A document in memory and its columns are each other's: arrays that hold two lists have the columns of the lists, and
-- arrays of their length are determined by their columns.
use Prim.Native.Nat.{ℕ, suc, ◌+◌, ◌*◌, ◌≤◌, ◌<◌}
use native.Mathlib.Omega.{arith}
use mathlib.Core.Path.{◌≡◌, refl, sym, ap, ◌∙◌}
use mathlib.Core.List.{List, ◌++◌, map}
use lib.ListN.{length, drop, get_or, length-map, length-drop, take-append-drop}
use lib.Seq.{take_at, drop_at, drop-drop, take_all, get_or-take, get_or-drop}
use Rattle.lists.specs.Padding.{pad}
use Rattle.lists.proofs.Padding.{pad-length}
use Rattle.woot.specs.declared.Character.{Character}
use Rattle.woot.specs.declared.Operation.{Operation}
use Rattle.woot.specs.declared.Document.{Document as InMemory}
use Rattle.woot.specs.declared.Replica.{Replica as ReplicaInMemory}
use Rattle.woot.specs.State.{State}
use Rattle.woot.specs.Memory.{character_slots, pending_slots}
use Rattle.woot.specs.Table.{key, keys, table_of}
use Rattle.woot.specs.Memory as memory
use Rattle.woot.specs.Memory.{column, in_columns, previous_keys, next_keys, code_points_of, toggle_counts, own_key, first_key, second_key, value_of}
use Rattle.memory.specs.Columns as columns
use Rattle.memory.specs.Columns.{Document, Replica, document_of}
use Rattle.memory.specs.Lent.{view, viewed}
use Rattle.memory.proofs.Fullness.{FullArrays}
use Rattle.memory.proofs.Stored.{Storable, document-parts, stored-characters, stored-operations}

-- ---- four columns in an array

module _ (m : ℕ) (ws xs ys zs : List ℕ) (a : length ws ≡ m) (b : length xs ≡ m) (c : length ys ≡ m) (d : length zs ≡ m) where
  past_1 : drop (1 * m) (ws ++ (xs ++ (ys ++ zs))) ≡ xs ++ (ys ++ zs)
  past_1 = let z : 1 * m ≡ m = omega arith in rw z (drop_at ws (xs ++ (ys ++ zs)) m a)

  past_2 : drop (2 * m) (ws ++ (xs ++ (ys ++ zs))) ≡ ys ++ zs
  past_2 =
      let z : 2 * m ≡ 1 * m + m = omega arith in
      rw (z, ← drop-drop m (1 * m) (ws ++ (xs ++ (ys ++ zs))), past_1) (drop_at xs (ys ++ zs) m b)

  past_3 : drop (3 * m) (ws ++ (xs ++ (ys ++ zs))) ≡ zs
  past_3 =
      let z : 3 * m ≡ 2 * m + m = omega arith in
      rw (z, ← drop-drop m (2 * m) (ws ++ (xs ++ (ys ++ zs))), past_2) (drop_at ys zs m c)

  pub first-column : column m 0 (ws ++ (xs ++ (ys ++ zs))) ≡ ws
  first-column = let z : 0 * m ≡ 0 = omega arith in rw z (take_at ws (xs ++ (ys ++ zs)) m a)

  pub second-column : column m 1 (ws ++ (xs ++ (ys ++ zs))) ≡ xs
  second-column = rw past_1 (take_at xs (ys ++ zs) m b)

  pub third-column : column m 2 (ws ++ (xs ++ (ys ++ zs))) ≡ ys
  third-column = rw past_2 (take_at ys zs m c)

  pub fourth_column : column m 3 (ws ++ (xs ++ (ys ++ zs))) ≡ zs
  fourth_column = rw past_3 (take_all m zs (omega (arith, d)))

-- a slot of a column
pub column-at : (m j : ℕ) (xs : List ℕ) (i : ℕ) → i < m → get_or (column m j xs) i 0 ≡ get_or xs (j * m + i) 0
column-at m j xs i h = get_or-take m (drop (j * m) xs) i 0 h ∙ get_or-drop (j * m) xs i 0

-- an array of four columns is its columns
pub columns-whole : (m : ℕ) (xs : List ℕ) → length xs ≡ 4 * m → column m 0 xs ++ (column m 1 xs ++ (column m 2 xs ++ column m 3 xs)) ≡ xs
columns-whole m xs h =
    ap (λ (l : List ℕ). column m 0 xs ++ (column m 1 xs ++ (column m 2 xs ++ l))) last
    ∙ ap (λ (l : List ℕ). column m 0 xs ++ (column m 1 xs ++ l)) (rest 2)
    ∙ ap (λ (l : List ℕ). column m 0 xs ++ l) (rest 1)
    ∙ rest 0
    ∙ (let z : 0 * m ≡ 0 = omega arith in ap (λ (n : ℕ). drop n xs) z)
  where
    rest : (j : ℕ) → column m j xs ++ drop (suc j * m) xs ≡ drop (j * m) xs
    rest j =
        let z : suc j * m ≡ j * m + m = omega arith in
        rw (z, ← drop-drop m (j * m) xs) (take-append-drop m (drop (j * m) xs))

    last : column m 3 xs ≡ drop (3 * m) xs
    last = take_all m (drop (3 * m) xs) (omega (arith, length-drop (3 * m) xs))

-- ---- documents

module _ (cs : List Character) (ps : List Operation) (few : length cs ≤ 1024) (few-pending : length ps ≤ 512) where
  wide : (m : ℕ) {A : Type 0} (f : A → ℕ) (xs : List A) → length xs ≤ m → length (pad m 0 (map f xs)) ≡ m
  wide m f xs h = pad-length m 0 (map f xs) (omega (arith, length-map xs f))

  -- what is stored has the columns of the lists
  pub view-stored : view (memory.document_of cs ps) ≡ document_of cs ps
  unfolding memory.document_of document_of in_columns
  view-stored =
      let i = wide 1024 (λ (b : Character). key b.id) cs few in
      let q = wide 1024 (λ (b : Character). key b.previous) cs few in
      let n = wide 1024 (λ (b : Character). key b.next) cs few in
      let t = wide 1024 (λ (b : Character). b.code_point) cs few in
      let o = wide 512 own_key ps few-pending in
      let f = wide 512 first_key ps few-pending in
      let g = wide 512 second_key ps few-pending in
      let v = wide 512 value_of ps few-pending in
      λ j.
      record {
        ids = first-column 1024 (pad 1024 0 (keys cs)) (pad 1024 0 (previous_keys cs)) (pad 1024 0 (next_keys cs)) (pad 1024 0 (code_points_of cs)) i q n t j;
        previous = second-column 1024 (pad 1024 0 (keys cs)) (pad 1024 0 (previous_keys cs)) (pad 1024 0 (next_keys cs)) (pad 1024 0 (code_points_of cs)) i q n t j;
        next = third-column 1024 (pad 1024 0 (keys cs)) (pad 1024 0 (previous_keys cs)) (pad 1024 0 (next_keys cs)) (pad 1024 0 (code_points_of cs)) i q n t j;
        code_points = fourth_column 1024 (pad 1024 0 (keys cs)) (pad 1024 0 (previous_keys cs)) (pad 1024 0 (next_keys cs)) (pad 1024 0 (code_points_of cs)) i q n t j;
        toggles = pad character_slots 0 (toggle_counts cs);
        length = length cs;
        own = first-column 512 (pad 512 0 (map own_key ps)) (pad 512 0 (map first_key ps)) (pad 512 0 (map second_key ps)) (pad 512 0 (map value_of ps)) o f g v j;
        firstKeys = second-column 512 (pad 512 0 (map own_key ps)) (pad 512 0 (map first_key ps)) (pad 512 0 (map second_key ps)) (pad 512 0 (map value_of ps)) o f g v j;
        secondKeys = third-column 512 (pad 512 0 (map own_key ps)) (pad 512 0 (map first_key ps)) (pad 512 0 (map second_key ps)) (pad 512 0 (map value_of ps)) o f g v j;
        values = fourth_column 512 (pad 512 0 (map own_key ps)) (pad 512 0 (map first_key ps)) (pad 512 0 (map second_key ps)) (pad 512 0 (map value_of ps)) o f g v j;
        waiting = length ps;
        table = table_of (keys cs);
      }

-- arrays with the columns of two lists store them
pub flat-path : (cs : List Character) (ps : List Operation) (d : InMemory) → FullArrays d → view d ≡ document_of cs ps → d ≡ memory.document_of cs ps
unfolding memory.document_of in_columns
flat-path cs ps d full e =
    let p = document-parts e in
    λ j.
    record {
      characters =
          (sym (columns-whole 1024 d.characters full.characters)
          ∙ λ k. p.ids k ++ (p.previous k ++ (p.next k ++ p.points k))) j;
      toggles = p.toggles j;
      length = p.length-is j;
      pending =
          (sym (columns-whole 512 d.pending full.pending) ∙ λ k. p.own k ++ (p.firstKeys k ++ (p.secondKeys k ++ p.values k))) j;
      waiting = p.waiting-is j;
      table = p.table j;
    }

-- ---- what is meant

-- a replica means what its columns mean
pub meaning-view : (r : ReplicaInMemory) → memory.meaning r ≡ columns.meaning (viewed r)
unfolding memory.meaning columns.meaning memory.characters_in columns.characters_in memory.operations_in columns.operations_in
meaning-view r = refl

pub form_view : (r : ReplicaInMemory) → memory.replica_well_formed r ≡ columns.replica_well_formed (viewed r)
unfolding memory.replica_well_formed columns.replica_well_formed memory.counted columns.counted memory.table_agrees columns.table_agrees memory.meaning columns.meaning memory.characters_in columns.characters_in memory.operations_in columns.operations_in
form_view r = refl

-- what is stored is meant, where it is within the arrays
pub meaning_in_memory : (s : State) → length s.characters ≤ 1024 → length s.pending ≤ 512 → Storable s → memory.meaning (memory.stored s) ≡ s
unfolding memory.stored columns.meaning
meaning_in_memory s few few-pending h =
    meaning-view (memory.stored s)
    ∙ (λ j.
    record {
      site = s.site;
      characters = (ap columns.characters_in (view-stored s.characters s.pending few few-pending) ∙ stored-characters s.characters s.pending h.characters) j;
      pending = (ap columns.operations_in (view-stored s.characters s.pending few few-pending) ∙ stored-operations s.characters s.pending h.pending) j;
    })
