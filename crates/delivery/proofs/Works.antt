-- A document at work as its parts: what its arrays hold, that they are as long as they should be, and that its table finds
-- its keys.
use Prim.Native.Nat.{ℕ, ◌+◌, ◌≤◌, ◌<◌}
use native.Mathlib.Omega.{arith}
use mathlib.Core.Path.{◌≡◌, refl, ap, sym, ◌∙◌}
use mathlib.Core.Bool.{true, false, ◌||◌}
use mathlib.Core.List.{List, map}
use lib.ListN.{length, take, length-map}
use Rattle.lists.specs.Lists.{every}
use Rattle.lists.specs.Padding.{pad}
use Rattle.lists.proofs.Padding.{pad-take, pad-length}
use Rattle.lists.proofs.Members.{every_member}
use Rattle.lists.proofs.Tests.{clash, or_left, or_right, or-false}
use Rattle.lists.proofs.Throughout.{throughout-at}
use Rattle.woot.specs.declared.Insert.{Insert}
use Rattle.woot.specs.declared.Toggle.{Toggle}
use Rattle.woot.specs.declared.Operation.{Operation}
use Rattle.woot.specs.declared.Operation.TheVariants.{Insert as insert, Toggle as toggle}
use Rattle.woot.specs.declared.Character.{Character}
use Rattle.woot.specs.declared.Table.{Table}
use Rattle.memory.specs.Columns.{Document}
use Rattle.woot.specs.Operations.{character}
use Rattle.woot.specs.Ranges.{character_in_range, in_range}
use Rattle.woot.specs.Placing.{insert_at, integrate_toggle}
use Rattle.woot.specs.Pending.{executable, crossed, unplaceable, integrate}
use Rattle.woot.specs.Table.{keys, table_of}
use Rattle.woot.specs.Memory.{operation_at}
use Rattle.memory.specs.Columns.{characters_in, operations_in, document_of}
use Rattle.convergence.specs.Invariants.{Sound}
use Rattle.index.specs.Keys.{AllSmall}
use Rattle.index.specs.Tabled.{Tabled}
use Rattle.index.proofs.Keys.{all-range-small}
use Rattle.index.proofs.Sound.{sound-apart}
use Rattle.index.proofs.Agreement.{tabled_characters}
use Rattle.integration.specs.declared.Placement.{Placement}
use Rattle.integration.specs.declared.Placement.TheVariants.{Missing, Crossed, Unplaceable, Below}
use Rattle.integration.specs.Placements.{placement_of}
use Rattle.integration.proofs.Placements.{Says, says}
use Rattle.memory.specs.Lent.{document_as, Slots}
use Rattle.memory.proofs.Operations.{AllKeyed, all_keyed, operations-every}
use Rattle.memory.proofs.Stored.{Parts, document-path, document-parts, stored-characters, stored-operations, character-count, pending-count, ids_in, previous_in, next_in, points-in, toggles_in, own_in, first-in, second-in, values_in}
use Rattle.delivery.specs.Work.{Lent, Swept, TidyDocument, Work, work_of, characters_at, pending_at, dealt_with}

-- ---- what sound lists are

module _ {cs : List Character} {ps : List Operation} (s : Sound cs ps) where
  pub sound-small : AllSmall cs
  sound-small = all-range-small cs (λ b m. every_member character_in_range s.ranges m)

  pub sound_keyed : AllKeyed ps
  sound_keyed = all_keyed ps s.pending-ranges

  pub sound_tabled : Tabled (table_of (keys cs)) (keys cs)
  sound_tabled = tabled_characters cs sound-small (sound-apart s) (omega (arith, s.room))

-- ---- the parts of a tidy document

pub parts : {d : Document} → TidyDocument d → Parts d (characters_in d) (operations_in d)
parts = document-parts

module _ (cs : List Character) (ps : List Operation) (n m : ℕ) where
  pub work_length : (work_of cs ps n m).document.length ≡ length cs
  unfolding work_of document_of
  work_length = refl

  pub work_waiting : (work_of cs ps n m).document.waiting ≡ length ps
  unfolding work_of document_of
  work_waiting = refl

  pub work_integrated : (work_of cs ps n m).integrated ≡ n
  unfolding work_of
  work_integrated = refl

  pub work_discarded : (work_of cs ps n m).discarded ≡ m
  unfolding work_of
  work_discarded = refl

  module _ (s : Sound cs ps) where
    pub work_characters : characters_at (work_of cs ps n m) ≡ cs
    unfolding work_of
    work_characters = stored-characters cs ps (sound-small s)

    pub work_pending : pending_at (work_of cs ps n m) ≡ ps
    unfolding work_of
    work_pending = stored-operations cs ps (sound_keyed s)

    pub work_tidy : TidyDocument (work_of cs ps n m).document
    unfolding work_of
    work_tidy = λ i. document_of (sym work_characters i) (sym work_pending i)

pub work_path : {w : Work} {cs : List Character} {ps : List Operation} {n m : ℕ} → Parts w.document cs ps → w.integrated ≡ n → w.discarded ≡ m → w ≡ work_of cs ps n m
unfolding work_of
work_path p e f = λ i. record { document = document-path p i; integrated = e i; discarded = f i }

-- ---- lengths, ranges and the table

-- an array with a column of a list
column-slots : (m : ℕ) {A : Type 0} (f : A → ℕ) (ys : List A) {xs : List ℕ} → length ys ≤ m → xs ≡ pad m 0 (map f ys) → length xs ≡ m
column-slots m f ys few e = ap length e ∙ pad-length m 0 (map f ys) (omega (arith, length-map ys f))

pub parts-slots : (cs : List Character) (ps : List Operation) → length cs ≤ 1024 → length ps ≤ 512 → {d : Document} → Parts d cs ps → Tabled (table_of (keys cs)) (keys cs) → Slots d
parts-slots cs ps few few-pending p t =
    record {
      ids = column-slots 1024 _ cs few p.ids;
      previous = column-slots 1024 _ cs few p.previous;
      next = column-slots 1024 _ cs few p.next;
      points = column-slots 1024 _ cs few p.points;
      toggles = column-slots 1024 _ cs few p.toggles;
      own = column-slots 512 _ ps few-pending p.own;
      firstKeys = column-slots 512 _ ps few-pending p.firstKeys;
      secondKeys = column-slots 512 _ ps few-pending p.secondKeys;
      values = column-slots 512 _ ps few-pending p.values;
      heads = rw p.table t.heads;
      links = rw p.table t.links;
    }

-- a column in use
pub used : (m : ℕ) {A : Type 0} (f : A → ℕ) (ys : List A) (n : ℕ) {xs : List ℕ} → xs ≡ pad m 0 (map f ys) → n ≡ length ys → take n xs ≡ map f ys
used m f ys n e count = rw e (pad-take m 0 (map f ys) n (length-map ys f ∙ sym count))

-- the pending operation in a slot is in range
pub ranged_at : (d : Document) → every in_range (operations_in d) ≡ true → (j : ℕ) → j < d.waiting → in_range (operation_at d.own d.firstKeys d.secondKeys d.values j) ≡ true
unfolding operations_in
ranged_at d h j within =
    throughout-at (λ i. in_range (operation_at d.own d.firstKeys d.secondKeys d.values i)) d.waiting j within
    (sym (operations-every d.own d.firstKeys d.secondKeys d.values d.waiting in_range) ∙ h)

-- ---- one operation carried out

module _ (cs : List Character) (ps : List Operation) (n m : ℕ) where
  pub dealt_discarded : (o : Operation) → crossed cs o || unplaceable cs o ≡ true → dealt_with cs ps n m o ≡ work_of cs ps n (m + 1)
  unfolding dealt_with
  dealt_discarded o e = rw e

  pub dealt_integrated : (o : Operation) → crossed cs o || unplaceable cs o ≡ false → dealt_with cs ps n m o ≡ work_of (integrate cs o) ps (n + 1) m
  unfolding dealt_with
  dealt_integrated o e = rw e

  pub dealt_toggle : (d : Toggle) → dealt_with cs ps n m (toggle d) ≡ work_of (integrate_toggle cs d) ps (n + 1) m
  unfolding crossed unplaceable integrate
  dealt_toggle d = dealt_integrated (toggle d) refl

  -- what becomes of an insert, by what is found for it
  abbrev pub judged : Insert → Placement → Work
  judged i Missing = work_of cs ps n (m + 1)
  judged i Crossed = work_of cs ps n (m + 1)
  judged i Unplaceable = work_of cs ps n (m + 1)
  judged i (Below k) = work_of (insert_at k (character i) cs) ps (n + 1) m

  pub dealt-insert : (i : Insert) → executable cs (insert i) ≡ true → (p : Placement) → placement_of cs i ≡ p → dealt_with cs ps n m (insert i) ≡ judged i p
  unfolding integrate
  dealt-insert i ready p e = go p (says cs i p e)
    where
      go : (p : Placement) → Says cs i p → dealt_with cs ps n m (insert i) ≡ judged i p
      go Missing s = clash ready s
      go Crossed s = dealt_discarded (insert i) (or_left (crossed cs (insert i)) _ s.1)
      go Unplaceable s = dealt_discarded (insert i) (or_right (crossed cs (insert i)) _ s.2)
      go (Below k) s = dealt_integrated (insert i) (or-false s.1 s.2) ∙ rw s.3

-- ---- what is cleared

-- the keys of what the arrays hold
pub lent-keys : {d : Document} → Lent d → keys (characters_in d) ≡ take d.length d.ids
lent-keys {d} l = ids_in d (omega (arith, l.few, l.slots.ids))

-- the columns of what the arrays held, with zeros behind them
pub cleared : (d : Document) → Lent d → {is ps ns cs ts os fs ss vs hs ls : List ℕ}
    → is ≡ pad 1024 0 (take d.length d.ids)
    → ps ≡ pad 1024 0 (take d.length d.previous)
    → ns ≡ pad 1024 0 (take d.length d.next)
    → cs ≡ pad 1024 0 (take d.length d.code_points)
    → ts ≡ pad 1024 0 (take d.length d.toggles)
    → os ≡ pad 512 0 (take d.waiting d.own)
    → fs ≡ pad 512 0 (take d.waiting d.firstKeys)
    → ss ≡ pad 512 0 (take d.waiting d.secondKeys)
    → vs ≡ pad 512 0 (take d.waiting d.values)
    → Swept (document_as is ps ns cs ts d.length os fs ss vs d.waiting hs ls) (characters_in d) (operations_in d)
cleared d l i p n c t o f g v =
    let s = l.slots in
    let few = l.few in
    let wait = l.few-pending in
    record {
      ids = i ∙ ap (pad 1024 0) (sym (lent-keys l));
      previous = p ∙ ap (pad 1024 0) (sym (previous_in d (omega (arith, few, s.previous))));
      next = n ∙ ap (pad 1024 0) (sym (next_in d (omega (arith, few, s.next))));
      points = c ∙ ap (pad 1024 0) (sym (points-in d (omega (arith, few, s.points))));
      toggles = t ∙ ap (pad 1024 0) (sym (toggles_in d (omega (arith, few, s.toggles))));
      length-is = sym (character-count d);
      own = o ∙ ap (pad 512 0) (sym (own_in d l.ranged (omega (arith, wait, s.own))));
      firstKeys = f ∙ ap (pad 512 0) (sym (first-in d l.ranged (omega (arith, wait, s.firstKeys))));
      secondKeys = g ∙ ap (pad 512 0) (sym (second-in d l.ranged (omega (arith, wait, s.secondKeys))));
      values = v ∙ ap (pad 512 0) (sym (values_in d l.ranged (omega (arith, wait, s.values))));
      waiting-is = sym (pending-count d);
    }

-- the keys in use are those of the list, which the table finds as before
pub swept-keys : {d : Document} {cs : List Character} {ps : List Operation} → Swept d cs ps → take d.length d.ids ≡ keys cs
swept-keys {d} {cs} s = used 1024 _ cs d.length s.ids s.length-is

pub swept_tabled : {d e : Document} → Lent d → Swept e (characters_in d) (operations_in d) → e.table ≡ d.table → Tabled e.table (take e.length e.ids)
swept_tabled l s t = rw (t, swept-keys s, lent-keys l) l.tabled

module _ {d : Document} {cs : List Character} {ps : List Operation} where
  -- with the table of the keys in use nothing is left to say
  pub swept_document : Swept d cs ps → {made : Table} → made ≡ table_of (keys cs)
      → document_as d.ids d.previous d.next d.code_points d.toggles d.length d.own d.firstKeys d.secondKeys d.values d.waiting made.heads made.links ≡ document_of cs ps
  swept_document s t =
      document-path
      (record {
        ids = s.ids;
        previous = s.previous;
        next = s.next;
        points = s.points;
        toggles = s.toggles;
        length-is = s.length-is;
        own = s.own;
        firstKeys = s.firstKeys;
        secondKeys = s.secondKeys;
        values = s.values;
        waiting-is = s.waiting-is;
        table = t;
      })

  pub parts_swept : Parts d cs ps → Swept d cs ps
  parts_swept p =
      record {
        ids = p.ids;
        previous = p.previous;
        next = p.next;
        points = p.points;
        toggles = p.toggles;
        length-is = p.length-is;
        own = p.own;
        firstKeys = p.firstKeys;
        secondKeys = p.secondKeys;
        values = p.values;
        waiting-is = p.waiting-is;
      }
