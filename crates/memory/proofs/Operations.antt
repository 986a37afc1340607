-- Pending operations as numbers: an operation in range is what its numbers stand for, and numbers that stand for one in
-- range are its own.
use Prim.Native.Nat.{ℕ, ◌+◌, ◌*◌, ◌/◌, ◌%◌, ◌≤◌, ◌<◌}
use native.Mathlib.Omega.{arith}
use mathlib.Core.Path.{◌≡◌, refl, ap, sym, ◌∙◌}
use mathlib.Core.Bool.{Bool, true, false, cond}
use mathlib.Core.List.{List, map, Memᴰ}
use borrow.Author.Tests.{ne_eqb, eqb-true}
use lib.Dec.{eqb}
use lib.ListN.{length, take, get_or}
use Rattle.lists.specs.Lists.{every, throughout}
use Rattle.lists.proofs.Throughout.{throughout-at}
use Rattle.lists.proofs.Members.{every_member}
use Rattle.woot.specs.declared.Identifier.{Identifier}
use Rattle.woot.specs.declared.Insert.{Insert}
use Rattle.woot.specs.declared.Operation.{Operation}
use Rattle.woot.specs.declared.Operation.TheVariants.{Insert as insert, Toggle as toggle}
use Rattle.woot.specs.Limits.{last_site}
use Rattle.woot.specs.Operations.{origin, character}
use Rattle.woot.specs.Ranges.{site_number, character_id, in_range}
use Rattle.woot.specs.Table.{key}
use Rattle.woot.specs.Memory.{identifier, operation_of, operation_at, operations_of, own_key, first_key, second_key, value_of}
use Rattle.convergence.proofs.Ranges.{character-site, in-range, toggle-in-range, to-character-range, within-high}
use Rattle.index.specs.Keys.{Small}
use Rattle.index.proofs.Keys.{character-small, range_small}
use Rattle.memory.proofs.Characters.{identifier-key, key-identifier, each-length, each_at, each_cong, each_map, each_take, each-every}

-- ---- operations that the numbers can hold

pub record KeyedInsert (i : Insert) : Type 0 where
  pub id : Small i.id
  pub previous : Small i.previous
  pub next : Small i.next
  pub positive : 0 < key i.id

-- its clocks have their 16 bits, its toggles their 8, and an insert's identifier is not the begin mark
abbrev pub Keyed : Operation → Type 0
Keyed (insert i) = KeyedInsert i
Keyed (toggle t) = Small t.target × (t.toggles < 256)

abbrev pub AllKeyed : List Operation → Type 0
AllKeyed os = (o : Operation) → Memᴰ o os → Keyed o

pub positive-key : (x : Identifier) → character_id x ≡ true → 0 < key x
unfolding key
positive-key x h = omega (arith, character-site x h)

pub range_keyed : (o : Operation) → in_range o ≡ true → Keyed o
unfolding in_range character origin
range_keyed (insert i) h =
    let s = range_small (character i) (to-character-range (character i) h (omega arith)) in
    record { id = s.id; previous = s.previous; next = s.next; positive = positive-key i.id (in-range i h).id }
range_keyed (toggle t) h = let r = toggle-in-range t h in (character-small t.target r.target, omega (arith, r.most))

pub all_keyed : (os : List Operation) → every in_range os ≡ true → AllKeyed os
all_keyed os h o m = range_keyed o (every_member in_range h m)

-- ---- numbers and operations are each other's

pub operation_stored : (o : Operation) → Keyed o → operation_of (own_key o) (first_key o) (second_key o) (value_of o) ≡ o
unfolding operation_of own_key first_key second_key value_of
operation_stored (insert i) h =
    rw (ne_eqb (key i.id) 0 (λ e. omega (arith, h.positive, e)))
    (ap insert
    (λ j.
    record {
      id = identifier-key i.id h.id j;
      code_point = i.code_point;
      previous = identifier-key i.previous h.previous j;
      next = identifier-key i.next h.next j;
    }))
operation_stored (toggle t) h =
    let high : 0 * 256 + (t.sender * 256 + t.toggles) / 256 ≡ t.sender = omega (arith, h.1) in
    let low : (t.sender * 256 + t.toggles) % 256 ≡ t.toggles = omega (arith, h.1) in
    ap toggle (λ j. record { sender = high j; target = identifier-key t.target h.0 j; toggles = low j })

-- the numbers of an operation, all four
pub record NumbersOf (o : Operation) (a b c v : ℕ) : Type 0 where
  pub own : own_key o ≡ a
  pub first : first_key o ≡ b
  pub second : second_key o ≡ c
  pub value : value_of o ≡ v

pub operation_numbers : (a b c v : ℕ) → in_range (operation_of a b c v) ≡ true → NumbersOf (operation_of a b c v) a b c v
unfolding operation_of own_key first_key second_key value_of in_range site_number
operation_numbers a b c v h = go (eqb a 0) refl h
  where
    o : Bool → Operation
    o t =
        cond t (toggle (record { sender = c * 256 + v / 256; target = identifier b; toggles = v % 256 }))
        (insert (record { id = identifier a; code_point = v; previous = identifier b; next = identifier c }))

    go : (t : Bool) → eqb a 0 ≡ t → in_range (o t) ≡ true → NumbersOf (o t) a b c v
    go true e r =
        let none : a ≡ 0 = eqb-true a 0 e in
        let few : c * 256 + v / 256 ≤ 16 = within-high 1 last_site (c * 256 + v / 256) (toggle-in-range _ r).sender in
        record { own = sym none; first = key-identifier b; second = omega (arith, few); value = omega (arith, few) }
    go false e r = record { own = key-identifier a; first = key-identifier b; second = key-identifier c; value = refl }

-- ---- the columns

module _ (os fs ss vs : List ℕ) (n : ℕ) where
  pub operations-length : length (operations_of os fs ss vs n) ≡ n
  unfolding operations_of
  operations-length = each-length (operation_at os fs ss vs) n

  pub operations-every : (p : Operation → Bool) → every p (operations_of os fs ss vs n) ≡ throughout (λ j. p (operation_at os fs ss vs j)) n
  unfolding operations_of
  operations-every p = each-every p (operation_at os fs ss vs) n

  -- the operation at an index
  pub operations-at : (j : ℕ) (d : Operation) → j < n → get_or (operations_of os fs ss vs n) j d ≡ operation_at os fs ss vs j
  unfolding operations_of
  operations-at j d h = each_at (operation_at os fs ss vs) n j d h

  module _ (ranged : every in_range (operations_of os fs ss vs n) ≡ true) where
    pub numbers_at : (j : ℕ) → j < n → NumbersOf (operation_at os fs ss vs j) (get_or os j 0) (get_or fs j 0) (get_or ss j 0) (get_or vs j 0)
    numbers_at j h =
        operation_numbers (get_or os j 0) (get_or fs j 0) (get_or ss j 0) (get_or vs j 0)
        (throughout-at (λ i. in_range (operation_at os fs ss vs i)) n j h (sym (operations-every in_range) ∙ ranged))

    column : (f : Operation → ℕ) (xs : List ℕ) → n ≤ length xs → ((j : ℕ) → j < n → f (operation_at os fs ss vs j) ≡ get_or xs j 0) → map f (operations_of os fs ss vs n) ≡ take n xs
    unfolding operations_of
    column f xs h e = each_map f (operation_at os fs ss vs) n ∙ each_cong _ _ n e ∙ each_take xs 0 n h

    pub own-column : n ≤ length os → map own_key (operations_of os fs ss vs n) ≡ take n os
    own-column h = column own_key os h (λ j k. (numbers_at j k).own)

    pub first-column : n ≤ length fs → map first_key (operations_of os fs ss vs n) ≡ take n fs
    first-column h = column first_key fs h (λ j k. (numbers_at j k).first)

    pub second-column : n ≤ length ss → map second_key (operations_of os fs ss vs n) ≡ take n ss
    second-column h = column second_key ss h (λ j k. (numbers_at j k).second)

    pub value-column : n ≤ length vs → map value_of (operations_of os fs ss vs n) ≡ take n vs
    value-column h = column value_of vs h (λ j k. (numbers_at j k).value)
