-- The conditions on the numbers of the pending operations are those of the rules, for operations in range among characters in range: keys are then
-- found as their identifiers are. A list is distinct where each element is not among those before it.
use Prim.Native.Nat.{ℕ, suc, ◌<◌}
use native.Mathlib.Numerals.{add-one}
use native.Mathlib.Omega.{arith}
use mathlib.Core.Path.{◌≡◌, refl, ap, ap₂, sym, ◌∙◌}
use mathlib.Core.Bool.{Bool, true, false, ◌&&◌, ◌||◌, not, cond, and-true, or-false}
use mathlib.Core.List.{List, [], ◌∷◌, ◌++◌, map, append-nil, Memᴰ}
use borrow.Author.Tests.{not-true, ne_eqb}
use lib.Dec.{leb, ltb, eqb, leb-zero, leb-suc-suc}
use lib.ListN.{length, take, get_or, length-append, length-map}
use Rattle.woot.specs.declared.Identifier.{Identifier}
use Rattle.woot.specs.declared.Insert.{Insert}
use Rattle.woot.specs.declared.Operation.{Operation}
use Rattle.woot.specs.declared.Operation.TheVariants.{Insert as insert, Toggle as toggle}
use Rattle.woot.specs.declared.Character.{Character}
use Rattle.woot.specs.Identifiers.{same}
use Rattle.lists.specs.Lists.{any, every, distinct}
use Rattle.woot.specs.Operations.{toggles_among, same_toggle}
use Rattle.woot.specs.Placing.{identifiers}
use Rattle.woot.specs.Ranges.{character_id, character_in_range, in_range}
use Rattle.woot.specs.State.{State, blank_operation}
use Rattle.woot.specs.Limits.{last_site, share}
use Rattle.woot.specs.Form.{countdown, shares_kept, capacity_kept, identifiers_distinct, toggles_distinct, none_executable}
use Rattle.woot.specs.Pending.{executable}
use Rattle.lists.proofs.Tests.{agree, and_left_lem, and_right, and_intro, not-intro}
use Rattle.lists.proofs.Members.{get_member, any_append, every_member}
use Rattle.convergence.proofs.Identifiers.{same_sym}
use Rattle.convergence.proofs.Extract.{Extract, extract_last, distinct_extract, extract_distinct}
use Rattle.convergence.proofs.Ranges.{in-range, character-site}
use Rattle.convergence.specs.Invariants.{pending_ids}
use Rattle.convergence.proofs.Soundness.{inserts-same, toggles_extract, toggles-same, ids_extract, same_toggle_sym}
use Rattle.convergence.proofs.Steps.{any-toggles}
use Rattle.convergence.proofs.Forms.{known-ids, known-length}
use Rattle.std.proofs.Common.{Option, Some, None}
use Rattle.woot.specs.Table.{key, keys}
use Rattle.index.specs.Keys.{Small, AllSmall, index_in, place_in, further, first_index}
use Rattle.index.proofs.Keys.{key-same, character-small, all-range-small}
use Rattle.index.proofs.Indices.{index-later as key-later, distinct-keys}
use Rattle.woot.specs.Memory.{own_key, first_key, second_key, value_of}
use Rattle.pending.specs.Counts.{has_toggle}
use Rattle.pending.specs.Ready.{held_in}
use Rattle.well_formed.specs.PendingForm.{shares_in, room_kept, pending_formed, unheld_key, free_at, keys_new, fresh_at, none_repeated, nothing, none_ready}
use Rattle.lists.specs.Lists.{throughout}
use Rattle.lists.proofs.Indices.{take_member, take-map, map_get_d, grown}
use Rattle.pending.proofs.Earliest.{ready_executable}
use Rattle.memory.proofs.Operations.{Keyed, AllKeyed, all_keyed}
use Rattle.pending.proofs.Pending.{count-sent, count-own, toggle_found}

-- ---- distinct lists

not-or : (a b : Bool) → not (a || b) ≡ not a && not b
not-or true b = refl
not-or false b = refl

module _ {A : Type 0} where
  -- one element more, at any place
  distinct-one : (same : A → A → Bool) → ((a b : A) → same a b ≡ same b a) → {x : A} {ys zs : List A} → Extract x ys zs
      → distinct same zs ≡ distinct same ys && not (any (same x) ys)
  distinct-one same swap {x} {ys} {zs} e = agree _ _ there back
    where
      there : distinct same zs ≡ true → distinct same ys && not (any (same x) ys) ≡ true
      there h = let r = distinct_extract same swap e h in and_intro r.1 (not-intro r.0)

      back : distinct same ys && not (any (same x) ys) ≡ true → distinct same zs ≡ true
      back h = extract_distinct same swap e (not-true _ (and_right (distinct same ys) _ h)) (and_left_lem (distinct same ys) _ h)

-- ---- keys

key-any : (k : ℕ) (xs : List ℕ) → ltb (index_in k xs) (length xs) ≡ any (eqb k) xs
unfolding index_in
key-any k [] = refl
key-any k (x ∷ xs) = go (eqb k x) (key-any k xs)
  where
    go : (b : Bool) → ltb (index_in k xs) (length xs) ≡ any (eqb k) xs → ltb (cond b 0 (suc (index_in k xs))) (suc (length xs)) ≡ b || any (eqb k) xs
    go true h = leb-suc-suc 0 (length xs) ∙ leb-zero (length xs)
    go false h = leb-suc-suc (suc (index_in k xs)) (length xs) ∙ h

-- a key that is no mark's is held where it is among the others
held_any : (ks : List ℕ) (k : ℕ) → 1 < k → held_in ks k ≡ any (eqb k) ks
unfolding held_in place_in
held_any ks k h =
    let size : length (ks ++ 1 ∷ []) ≡ suc (length ks) = length-append ks (1 ∷ []) ∙ add-one (length ks) in
    let other : eqb k 1 ≡ false = ne_eqb k 1 (λ (e : k ≡ 1). omega arith) in
    rw (key-later k 0 (ks ++ 1 ∷ []) (λ (e : k ≡ 0). omega arith), ← size)
    (key-any k (ks ++ 1 ∷ []) ∙ any_append (eqb k) ks (1 ∷ []) ∙ rw other (or-false (any (eqb k) ks)))

unheld_any : (ks : List ℕ) (k : ℕ) → 1 < k → unheld_key ks k ≡ not (any (eqb k) ks)
unfolding unheld_key
unheld_any ks k h = rw (ne_eqb k 0 (λ (e : k ≡ 0). omega arith), held_any ks k h)

unheld_zero : (ks : List ℕ) → unheld_key ks 0 ≡ true
unfolding unheld_key
unheld_zero ks = refl

module _ (x : Identifier) (r : character_id x ≡ true) where
  small : Small x
  small = character-small x r

  large : 1 < key x
  unfolding key
  large = omega (arith, character-site x r)

  unheld_characters : (cs : List Character) → AllSmall cs → unheld_key (keys cs) (key x) ≡ not (any (same x) (identifiers cs))
  unheld_characters cs s = unheld_any (keys cs) (key x) large ∙ ap not (go cs s)
    where
      go : (ds : List Character) → AllSmall ds → any (eqb (key x)) (keys ds) ≡ any (same x) (identifiers ds)
      go [] t = refl
      go (d ∷ ds) t = ap₂ (λ (a b : Bool). a || b) (key-same x d.id small (t d (Memᴰ.head refl)).id) (go ds (λ c m. t c (Memᴰ.tail m)))

  unheld_pending : (os : List Operation) → AllKeyed os → unheld_key (map own_key os) (key x) ≡ not (any (same x) (pending_ids os))
  unfolding own_key
  unheld_pending os a = unheld_any (map own_key os) (key x) large ∙ ap not (go os a)
    where
      go : (ps : List Operation) → AllKeyed ps → any (eqb (key x)) (map own_key ps) ≡ any (same x) (pending_ids ps)
      go [] t = refl
      go (insert i ∷ ps) t = ap₂ (λ (a b : Bool). a || b) (key-same x i.id small (t (insert i) (Memᴰ.head refl)).id)
          (go ps (λ o m. t o (Memᴰ.tail m)))
      go (toggle d ∷ ps) t = rw (ne_eqb (key x) 0 (λ (e : key x ≡ 0). omega (arith, large))) (go ps (λ o m. t o (Memᴰ.tail m)))

-- ---- the characters' keys

module _ (cs : List Character) (ranges : every character_in_range cs ≡ true) where
  pub all_small : AllSmall cs
  all_small = all-range-small cs (λ c m. every_member character_in_range ranges m)

  pub characters-distinct : distinct same (identifiers cs) ≡ distinct eqb (keys cs)
  characters-distinct = sym (distinct-keys cs all_small)

  -- ---- the pending operations

  -- one insert more is new among the characters and the pending inserts
  insert-step : (ps : List Operation) (o : Operation) → AllKeyed ps → in_range o ≡ true
      → distinct same (identifiers cs ++ pending_ids (ps ++ o ∷ []))
      ≡ distinct same (identifiers cs ++ pending_ids ps) && (unheld_key (keys cs) (own_key o) && unheld_key (map own_key ps) (own_key o))
  unfolding own_key in_range
  insert-step ps (insert i) a r =
      let x = (in-range i r).id in
      rw (unheld_characters i.id x cs all_small, unheld_pending i.id x ps a)
      (distinct-one same same_sym (ids_extract cs (extract_last (insert i) ps))
      ∙ ap (λ (b : Bool). distinct same (identifiers cs ++ pending_ids ps) && b)
      (ap not (any_append (same i.id) (identifiers cs) (pending_ids ps)) ∙ not-or (any (same i.id) (identifiers cs)) _))
  insert-step ps (toggle d) a r =
      rw (unheld_zero (keys cs), unheld_zero (map own_key ps))
      (ap (λ (js : List Insert). distinct same (identifiers cs ++ map (λ j. j.id) js)) (inserts-same (extract_last (toggle d) ps)) ∙ sym (and-true _))

-- nothing passes where nothing is found
none_first : {A : Type 0} (p : A → Bool) (xs : List A) → nothing (first_index p xs) ≡ not (any p xs)
unfolding first_index
none_first p [] = refl
none_first p (x ∷ xs) = go (p x) (first_index p xs) (none_first p xs)
  where
    go : (b : Bool) (r : Option ℕ) → nothing r ≡ not (any p xs) → nothing (cond b (Some 0) (further 1 r)) ≡ not (b || any p xs)
    go true r h = refl
    go false (Some j) h = h
    go false None h = h

-- one toggle more is not among those before it
toggle_step : (ps : List Operation) (o : Operation) → AllKeyed ps → Keyed o
    → distinct same_toggle (toggles_among (ps ++ o ∷ []))
    ≡ distinct same_toggle (toggles_among ps) && not (eqb (own_key o) 0 && has_toggle (first_key o) (value_of o) (map own_key ps) (map first_key ps) (map value_of ps))
unfolding own_key first_key
toggle_step ps (insert i) a k =
    rw (ne_eqb (key i.id) 0 (λ (e : key i.id ≡ 0). omega (arith, k.positive)))
    (ap (distinct same_toggle) (toggles-same (extract_last (insert i) ps)) ∙ sym (and-true _))
toggle_step ps (toggle d) a k =
    rw (toggle_found d k ps a)
    (distinct-one same_toggle same_toggle_sym (toggles_extract (extract_last (toggle d) ps))
    ∙ ap (λ (b : Bool). distinct same_toggle (toggles_among ps) && not b) (any-toggles d ps))

module _ (os : List Operation) (ranges : every in_range os ≡ true) where
  pub keyed : AllKeyed os
  keyed = all_keyed os ranges

  keyed_before : (j : ℕ) → AllKeyed (take j os)
  keyed_before j o m = keyed o (take_member j os m)

  -- the operation at an index
  abbrev operation_at : ℕ → Operation
  operation_at j = get_or os j blank_operation

  member : (j : ℕ) → j < length os → Memᴰ (operation_at j) os
  member j h = get_member os j blank_operation h

  number : (f : Operation → ℕ) (j : ℕ) → j < length os → get_or (map f os) j 0 ≡ f (operation_at j)
  number f j h = map_get_d f os j 0 blank_operation h

  pub toggles-once : distinct same_toggle (toggles_among os) ≡ none_repeated (map own_key os) (map first_key os) (map value_of os)
  unfolding fresh_at
  toggles-once =
      grown (λ ps. distinct same_toggle (toggles_among ps)) (fresh_at (map own_key os) (map first_key os) (map value_of os)) os blank_operation step
      ∙ ap (throughout (fresh_at (map own_key os) (map first_key os) (map value_of os))) (sym (length-map os own_key))
    where
      step : (j : ℕ) → j < length os
          → distinct same_toggle (toggles_among (take j os ++ operation_at j ∷ []))
          ≡ distinct same_toggle (toggles_among (take j os)) && fresh_at (map own_key os) (map first_key os) (map value_of os) j
      step j h =
          rw (number own_key j h, number first_key j h, number value_of j h, take-map own_key j os, take-map first_key j os, take-map value_of j os)
          (toggle_step (take j os) (operation_at j) (keyed_before j) (keyed (operation_at j) (member j h)))

  module _ (cs : List Character) (character-ranges : every character_in_range cs ≡ true) where
    pub ids-distinct : distinct same (identifiers cs ++ pending_ids os) ≡ distinct eqb (keys cs) && keys_new (keys cs) (map own_key os)
    unfolding free_at
    ids-distinct =
        grown (λ ps. distinct same (identifiers cs ++ pending_ids ps)) (free_at (keys cs) (map own_key os)) os blank_operation step
        ∙ ap₂ (λ (a b : Bool). a && b) (ap (distinct same) (append-nil (identifiers cs)) ∙ characters-distinct cs character-ranges)
        (ap (throughout (free_at (keys cs) (map own_key os))) (sym (length-map os own_key)))
      where
        step : (j : ℕ) → j < length os
            → distinct same (identifiers cs ++ pending_ids (take j os ++ operation_at j ∷ []))
            ≡ distinct same (identifiers cs ++ pending_ids (take j os)) && free_at (keys cs) (map own_key os) j
        step j h =
            rw (number own_key j h, take-map own_key j os)
            (insert-step cs character-ranges (take j os) (operation_at j) (keyed_before j) (every_member in_range ranges (member j h)))

    pub none-executable : not (any (executable cs) os) ≡ none_ready (keys cs) (map first_key os) (map second_key os)
    none-executable = sym (ap nothing (ready_executable cs (all_small cs character-ranges) os ranges) ∙ none_first (executable cs) os)

-- ---- all of them

-- a state whose characters and operations are in range, and whose table has no key twice
module _ (s : State) (character-ranges : every character_in_range s.characters ≡ true) (ranges : every in_range s.pending ≡ true) where
  shares : shares_kept s ≡ shares_in (map own_key s.pending) (map value_of s.pending)
  unfolding shares_kept shares_in
  shares = sym (λ i. every (λ n. leb (count-sent n s.pending (keyed s.pending ranges) i) share) (countdown last_site))

  room : capacity_kept s ≡ room_kept (keys s.characters) (map own_key s.pending)
  unfolding capacity_kept room_kept
  room = rw (known-length s, length-map s.characters (λ (c : Character). key c.id), count-own s.pending (keyed s.pending ranges))

  pub pending_conditions : distinct eqb (keys s.characters) ≡ true
      → shares_kept s && capacity_kept s && identifiers_distinct s && toggles_distinct s && none_executable s
      ≡ pending_formed (keys s.characters) (map own_key s.pending) (map first_key s.pending) (map second_key s.pending) (map value_of s.pending)
  unfolding identifiers_distinct toggles_distinct none_executable pending_formed
  pending_conditions apart =
      rw (
        shares,
        room,
        known-ids s,
        ids-distinct s.pending ranges s.characters character-ranges,
        apart,
        toggles-once s.pending ranges,
        none-executable s.pending ranges s.characters character-ranges,
      )
