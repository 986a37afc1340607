-- One step of draining a document at work: it is due, it leaves fewer pending, and draining what it leaves is draining what
-- was there.
use Prim.Native.Nat.{ℕ, suc, ◌+◌, ◌≤◌, ◌<◌}
use native.Mathlib.Nat.{add-zero}
use native.Mathlib.Omega.{arith}
use mathlib.Core.Path.{◌≡◌, refl, sym, ap, ap₂, ◌∙◌}
use mathlib.Core.Bool.{Bool, true, false, ◌||◌, cond}
use mathlib.Core.Option.{none, some}
use mathlib.Core.List.Memᴰ
use mathlib.Core.List.{List, [], ◌∷◌}
use lib.Dec.{eqb}
use lib.ListN.{length, get_or, take}
use Rattle.woot.specs.declared.Insert.{Insert}
use Rattle.woot.specs.declared.Toggle.{Toggle}
use Rattle.woot.specs.declared.Operation.{Operation}
use Rattle.woot.specs.declared.Operation.TheVariants.{Insert as insert, Toggle as toggle}
use Rattle.woot.specs.declared.Character.{Character}
use Rattle.memory.specs.Columns.{Document}
use Rattle.woot.specs.Operations.{character, inserts}
use Rattle.woot.specs.Placing.{insert_at, integrate_toggle}
use Rattle.woot.specs.Ranges.{in_range}
use Rattle.woot.specs.State.{blank_operation}
use Rattle.woot.specs.Table.{key, keys}
use Rattle.woot.specs.Memory.{operation_at, previous_keys, next_keys, first_key, second_key}
use Rattle.memory.specs.Columns.{characters_in, operations_in}
use Rattle.woot.specs.Pending.{executable, crossed, unplaceable, integrate, Extracted, earliest, and_integrated, and_discarded, drained}
use Rattle.lists.proofs.Tests.{or-false-left, or-false-right}
use Rattle.convergence.proofs.Extract.{Extract, extract_length}
use Rattle.convergence.specs.Invariants.{Sound}
use Rattle.convergence.proofs.Soundness.{inserts_extract, sound-out}
use Rattle.convergence.proofs.Shares.{pending-bound}
use Rattle.convergence.proofs.Drains.{Found, earliest-found, draining_recurs}
use Rattle.convergence.proofs.Draining.{sound-carry}
use Rattle.std.proofs.Common.{Option, Some, None}
use Rattle.index.specs.Keys.{Small, AllSmall, found, further, first_index}
use Rattle.index.proofs.Keys.{key-same}
use Rattle.index.proofs.Searches.{first-map}
use Rattle.integration.specs.declared.Placement.{Placement}
use Rattle.integration.specs.declared.Placement.TheVariants.{Missing, Crossed, Unplaceable, Below}
use Rattle.integration.specs.Placements.{placement_of}
use Rattle.integration.proofs.Placements.{says}
use Rattle.characters.proofs.Editing.{targeted}
use Rattle.index.specs.Tabled.{Tabled}
use Rattle.slots.specs.Slots.{removed}
use Rattle.pending.specs.Ready.{ready_in}
use Rattle.pending.proofs.Earliest.{ready_executable, takes}
use Rattle.memory.proofs.Operations.{operations-at, range_keyed}
use Rattle.memory.proofs.Stored.{Parts}
use Rattle.memory.specs.Lent.{Slots}
use Rattle.delivery.specs.Work.{Work, work_of, characters_at, pending_at, Workable, dealt_with, stepped, finished, due_in, taken_from, stepped_in, finished_in}
use Rattle.delivery.specs.Steps.{place_of}
use Rattle.delivery.proofs.Works.{sound-small, sound_tabled, parts, parts-slots, used, ranged_at, work_characters, work_pending, work_waiting, work_integrated, work_discarded, work_tidy, work_path, dealt_discarded, dealt_integrated, dealt_toggle, judged, dealt-insert}

-- ---- what a document that can be drained is like

module _ {w : Work} (k : Workable w) where
  pub workable_parts : Parts w.document (characters_at w) (pending_at w)
  workable_parts = parts k.tidy

  pub workable_few : (w.document.length ≤ 1024) × (w.document.waiting ≤ 512)
  workable_few =
      let p = workable_parts in
      (omega (arith, p.length-is, k.sound.room), omega (arith, p.waiting-is, pending-bound k.sound))

  pub workable_slots : Slots w.document
  workable_slots =
      let p = workable_parts in
      let few = workable_few in
      parts-slots (characters_at w) (pending_at w) (omega (arith, p.length-is, few.0)) (omega (arith, p.waiting-is, few.1)) p (sound_tabled k.sound)

  -- the keys in use, and that the table finds them
  pub workable_keys : take w.document.length w.document.ids ≡ keys (characters_at w)
  workable_keys = used 1024 _ (characters_at w) w.document.length workable_parts.ids workable_parts.length-is

  pub workable_tabled : Tabled w.document.table (take w.document.length w.document.ids)
  unfolding characters_in
  workable_tabled = rw (workable_keys, workable_parts.table) (sound_tabled k.sound)

  -- what is sought on the keys is the operation that is due
  pub workable_due : ready_in (take w.document.length w.document.ids) (take w.document.waiting w.document.firstKeys) (take w.document.waiting w.document.secondKeys) ≡ due_in w
  workable_due =
      let p = workable_parts in
      rw (
        workable_keys,
        used 512 first_key (pending_at w) w.document.waiting p.firstKeys p.waiting-is,
        used 512 second_key (pending_at w) w.document.waiting p.secondKeys p.waiting-is,
      )
      (ready_executable (characters_at w) (sound-small k.sound) (pending_at w) k.sound.pending-ranges)

-- a pending insert is among the pending inserts
one-insert : {o : Operation} {os ps : List Operation} → Extract o os ps → length (inserts (o ∷ [])) ≤ length (inserts ps)
one-insert {o = insert i} e = omega (arith, extract_length (inserts_extract e))
one-insert {o = toggle d} e = omega arith

-- ---- the operation that is due

-- what its slot holds
abbrev pub slotted : Document → ℕ → Operation
slotted d j = operation_at d.own d.firstKeys d.secondKeys d.values j

module _ {w : Work} (k : Workable w) (j : ℕ) (at : due_in w ≡ Some j) where
  -- as the rules take it out
  due_taken : (d : Operation) → (j < length (pending_at w))
      × (taken_from w ≡ some (record { operation = get_or (pending_at w) j d; others = removed j (pending_at w) }))
  due_taken = takes (executable (characters_at w)) (pending_at w) (Some j) at

  pub due_within : j < w.document.waiting
  due_within = omega (arith, (due_taken blank_operation).0, (workable_parts k).waiting-is)

  pub due_slotted : (d : Operation) → get_or (pending_at w) j d ≡ slotted w.document j
  unfolding operations_in
  due_slotted d = operations-at w.document.own w.document.firstKeys w.document.secondKeys w.document.values w.document.waiting j d due_within

  due_is : taken_from w ≡ some (record { operation = slotted w.document j; others = removed j (pending_at w) })
  due_is =
      (due_taken blank_operation).1
      ∙ ap (λ (o : Operation). some (record { operation = o; others = removed j (pending_at w) })) (due_slotted blank_operation)

  due_found : Found (executable (characters_at w)) (pending_at w) (record { operation = slotted w.document j; others = removed j (pending_at w) })
  due_found = earliest-found _ _ _ due_is

  pub due_ranged : in_range (slotted w.document j) ≡ true
  due_ranged = ranged_at w.document k.sound.pending-ranges j due_within

  pub due_ready : executable (characters_at w) (slotted w.document j) ≡ true
  due_ready = due_found.passed

  pub due_room : w.document.length + length (inserts (slotted w.document j ∷ [])) ≤ 1024
  due_room = omega (arith, (workable_parts k).length-is, k.sound.room, one-insert due_found.extracted)

  pub due_stepped : stepped_in w ≡ dealt_with (characters_at w) (removed j (pending_at w)) w.integrated w.discarded (slotted w.document j)
  unfolding stepped
  due_stepped = rw due_is

-- ---- where an insert that is due goes

no_place : {k : ℕ} {A : Type 0} → None ≡ Some k → A
no_place e = absurd (let z : ◌≡◌ {A = ℕ} 0 1 = cc in omega arith)

pub at-below : (p : Placement) (m : ℕ) → place_of p ≡ Some m → p ≡ Below m
at-below (Below k) m e = let same : k ≡ m = cc in ap Below same
at-below Missing m e = no_place e
at-below Crossed m e = no_place e
at-below Unplaceable m e = no_place e

-- the first with the key of a target is the first that is the target
pub first_targeted : (x : Toggle) → Small x.target → (cs : List Character) → AllSmall cs → first_index (λ c. eqb (key x.target) (key c.id)) cs ≡ first_index (targeted x) cs
unfolding first_index
first_targeted x small [] s = refl
first_targeted x small (c ∷ cs) s =
    ap₂ (λ (b : Bool) (r : Option ℕ). cond b (Some 0) (further 1 r)) (key-same x.target c.id small (s c (Memᴰ.head refl)).id)
    (first_targeted x small cs (λ d m. s d (Memᴰ.tail m)))

-- the place found, and what the step is then
pub record Goes (w : Work) (i : Insert) (j m : ℕ) : Type 0 where
  pub place : m ≤ w.document.length
  pub room : w.document.length < 1024
  pub becomes : stepped_in w ≡ work_of (insert_at m (character i) (characters_at w)) (removed j (pending_at w)) (w.integrated + 1) w.discarded

module _ {w : Work} (k : Workable w) (j : ℕ) (at : due_in w ≡ Some j) where
  module _ (i : Insert) (is : slotted w.document j ≡ insert i) (p : Placement) where
    -- what is found on the arrays is what the rules say
    module _
        (found : (cs : List Character)
        → take w.document.length w.document.ids ≡ keys cs
        → take w.document.length w.document.previous ≡ previous_keys cs
        → take w.document.length w.document.next ≡ next_keys cs
        → AllSmall cs
        → p ≡ placement_of cs i)
      where
        placed : placement_of (characters_at w) i ≡ p
        placed =
            let q = workable_parts k in
            sym
            (found (characters_at w) (workable_keys k)
            (used 1024 _ (characters_at w) w.document.length q.previous q.length-is)
            (used 1024 _ (characters_at w) w.document.length q.next q.length-is)
            (sound-small k.sound))

        carries : stepped_in w ≡ judged (characters_at w) (removed j (pending_at w)) w.integrated w.discarded i p
        carries =
            due_stepped k j at
            ∙ rw is (dealt-insert (characters_at w) (removed j (pending_at w)) w.integrated w.discarded i (rw is at (due_ready k j at)) p placed)

        pub goes_at : (m : ℕ) → place_of p ≡ Some m → Goes w i j m
        goes_at m e =
            let below : p ≡ Below m = at-below p m e in
            let found-at : placement_of (characters_at w) i ≡ Below m = placed ∙ below in
            let one : length (inserts (slotted w.document j ∷ [])) ≡ 1 = rw is in
            record {
              place = omega (arith, (says (characters_at w) i (Below m) found-at).4, (workable_parts k).length-is);
              room = omega (arith, due_room k j at, one);
              becomes = carries ∙ rw below;
            }

        pub goes_nowhere : place_of p ≡ None → stepped_in w ≡ work_of (characters_at w) (removed j (pending_at w)) w.integrated (w.discarded + 1)
        goes_nowhere e = carries ∙ lost p e
          where
            lost : (q : Placement) → place_of q ≡ None → judged (characters_at w) (removed j (pending_at w)) w.integrated w.discarded i q ≡ work_of (characters_at w) (removed j (pending_at w)) w.integrated (w.discarded + 1)
            lost (Below m) z = no_place (sym z)
            lost Missing z = refl
            lost Crossed z = refl
            lost Unplaceable z = refl

  -- ---- a toggle that is due

  module _ (x : Toggle) (is : slotted w.document j ≡ toggle x) where
    pub toggles_becomes : stepped_in w ≡ work_of (integrate_toggle (characters_at w) x) (removed j (pending_at w)) (w.integrated + 1) w.discarded
    toggles_becomes = due_stepped k j at ∙ rw is (dealt_toggle (characters_at w) (removed j (pending_at w)) w.integrated w.discarded x)

    -- its target stands where the table has it
    pub toggles-found : found (key x.target) (take w.document.length w.document.ids) ≡ first_index (targeted x) (characters_at w)
    unfolding found
    toggles-found =
        rw (workable_keys k)
        (first-map (λ (c : Character). key c.id) (λ n. eqb (key x.target) n) (characters_at w)
        ∙ first_targeted x (range_keyed (toggle x) (rw is at (due_ranged k j at))).0 (characters_at w) (sound-small k.sound))

-- ---- draining on

one_more : (n k : ℕ) → n + 1 + k ≡ n + suc k
one_more n k = omega arith

module _ (cs : List Character) (ps : List Operation) (n m : ℕ) where
  finished-none : earliest (executable cs) ps ≡ none → finished cs ps n m ≡ work_of cs ps n m
  unfolding finished drained
  finished-none e = rw (draining_recurs cs ps, e, add-zero n, add-zero m)

  module _ (t : Extracted) (is : earliest (executable cs) ps ≡ some t) where
    finished_discarded : crossed cs t.operation || unplaceable cs t.operation ≡ true → finished cs t.others n (m + 1) ≡ finished cs ps n m
    unfolding finished and_discarded
    finished_discarded e = rw (draining_recurs cs ps, is, e, one_more)

    finished_integrated : crossed cs t.operation || unplaceable cs t.operation ≡ false → finished (integrate cs t.operation) t.others (n + 1) m ≡ finished cs ps n m
    unfolding finished and_integrated
    finished_integrated e = rw (draining_recurs cs ps, is, e, one_more)

-- nothing is due, or nothing is pending
module _ {w : Work} (k : Workable w) where
  as_it_is : earliest (executable (characters_at w)) (pending_at w) ≡ none → w ≡ finished_in w
  as_it_is e = work_path (workable_parts k) refl refl ∙ sym (finished-none _ _ _ _ e)

  pub done_unready : due_in w ≡ None → w ≡ finished_in w
  done_unready e = as_it_is (takes _ _ None e)

-- nearer to the end: fewer are pending, and draining ends as it would have
pub record Nearer (w r : Work) : Type 0 where
  pub workable : Workable r
  pub fewer : r.document.waiting < w.document.waiting
  pub same : finished_in r ≡ finished_in w

module _ {w : Work} (k : Workable w) (t : Extracted) (is : taken_from w ≡ some t) where
  extracted_so : Found (executable (characters_at w)) (pending_at w) t
  extracted_so = earliest-found _ _ t is

  -- sound lists with one operation less, and at most one more counted
  nearer_to : (cs : List Character) (n m : ℕ) → Sound cs t.others → n ≤ w.integrated + 1 → m ≤ w.discarded + 1
      → finished cs t.others n m ≡ finished_in w → Nearer w (work_of cs t.others n m)
  nearer_to cs n m s a b e =
      let less : w.document.waiting ≡ suc (length t.others) = (workable_parts k).waiting-is ∙ extract_length extracted_so.extracted in
      record {
        workable =
            record {
              tidy = work_tidy cs t.others n m s;
              sound = rw (work_characters cs t.others n m s, work_pending cs t.others n m s) s;
              integrated-fits = rw (work_integrated, work_waiting) (omega (arith, k.integrated-fits));
              discarded-fits = rw (work_discarded, work_waiting) (omega (arith, k.discarded-fits));
            };
        fewer = rw (work_waiting) (omega arith);
        same = rw (work_characters cs t.others n m s, work_pending cs t.others n m s, work_integrated, work_discarded) e;
      }

  -- carried out or discarded
  dealt_nearer : Nearer w (dealt_with (characters_at w) t.others w.integrated w.discarded t.operation)
  dealt_nearer = go (crossed cs o || unplaceable cs o) refl
    where
      cs : List Character
      cs = characters_at w

      o : Operation
      o = t.operation

      go : (b : Bool) → crossed cs o || unplaceable cs o ≡ b → Nearer w (dealt_with cs t.others w.integrated w.discarded o)
      go true e =
          rw (dealt_discarded cs t.others w.integrated w.discarded o e)
          (nearer_to cs w.integrated (w.discarded + 1) (sound-out extracted_so.extracted k.sound) (omega arith) (omega arith)
          (finished_discarded cs _ _ _ t is e))
      go false e =
          rw (dealt_integrated cs t.others w.integrated w.discarded o e)
          (nearer_to (integrate cs o) (w.integrated + 1) w.discarded
          (sound-carry o extracted_so.extracted k.sound extracted_so.passed (or-false-left (crossed cs o) _ e) (or-false-right (crossed cs o) _ e))
          (omega arith) (omega arith) (finished_integrated cs _ _ _ t is e))

-- the step that is due
pub step_nearer : {w : Work} → Workable w → (j : ℕ) → due_in w ≡ Some j → (r : Work) → r ≡ stepped_in w → Nearer w r
unfolding stepped
step_nearer {w} k j at r e =
    let is = due_is k j at in
    rw (e, is) (dealt_nearer k _ is)
