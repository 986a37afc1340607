-- What the searches find in the numbers is what the rules say of the operations: keys are equal as their identifiers are,
-- and the key of an insert is not the 0 of a toggle.
use mathlib.Core.Path.{◌≡◌, refl, sym, ap, ap₂, ◌∙◌}
use mathlib.Core.Bool.{Bool, true, false, ◌&&◌, ◌||◌, not}
use mathlib.Core.List.{List, [], ◌∷◌, map, Memᴰ}
use Prim.Native.Nat.{ℕ, suc, ◌+◌, ◌*◌, ◌/◌, ◌<◌}
use native.Mathlib.Omega.{arith}
use borrow.Author.Tests.{eqb-true, eq-eqb, ne_eqb}
use lib.Dec.{eqb}
use lib.ListN.{length, get_or, length-map}
use Rattle.woot.specs.declared.Identifier.{Identifier}
use Rattle.woot.specs.declared.Insert.{Insert}
use Rattle.woot.specs.declared.Toggle.{Toggle}
use Rattle.woot.specs.declared.Operation.{Operation}
use Rattle.woot.specs.declared.Operation.TheVariants.{Insert as insert, Toggle as toggle}
use Rattle.woot.specs.Identifiers.{same}
use Rattle.lists.specs.Lists.{any, keep}
use Rattle.woot.specs.Operations.{sender, inserts, same_toggle, same_operation}
use Rattle.woot.specs.Pending.{sent_by, pending_from}
use Rattle.lists.proofs.Tests.{agree, and_intro, and_left_lem, and_right, clash, or-false, or-false-left, or-false-right}
use Rattle.lists.proofs.Members.{keep-map}
use Rattle.woot.specs.Table.{key}
use Rattle.index.specs.Keys.{Small, found}
use Rattle.index.proofs.Keys.{key-same, key-injective}
use Rattle.std.proofs.Common.{Option, Some, None}
use Rattle.woot.specs.Memory.{own_key, first_key, value_of}
use Rattle.memory.proofs.Operations.{Keyed, AllKeyed}
use Rattle.pending.specs.Counts.{sender_of, senders_of, has_toggle}
use Rattle.index.proofs.Searches.{FoundAt, Says, first_says, first-map}

first_keyed : {o : Operation} {os : List Operation} → AllKeyed (o ∷ os) → Keyed o
first_keyed {o} a = a o (Memᴰ.head refl)

others_keyed : {o : Operation} {os : List Operation} → AllKeyed (o ∷ os) → AllKeyed os
others_keyed a p m = a p (Memᴰ.tail m)

not-zero : (n : ℕ) → 0 < n → eqb n 0 ≡ false
not-zero n h = ne_eqb n 0 (λ (e : n ≡ 0). omega arith)

-- ---- counting

pub senders_are : (os : List Operation) → AllKeyed os → senders_of (map own_key os) (map value_of os) ≡ map sender os
unfolding senders_of sender_of own_key value_of sender key
senders_are [] a = refl
senders_are (insert i ∷ os) a =
    let site : (i.id.site * 65536 + i.id.clock) / 65536 ≡ i.id.site = omega (arith, (first_keyed a).id) in
    rw (not-zero (key i.id) (first_keyed a).positive, site, senders_are os (others_keyed a))
senders_are (toggle t ∷ os) a =
    let sent : (t.sender * 256 + t.toggles) / 256 ≡ t.sender = omega (arith, (first_keyed a).1) in
    rw (sent, senders_are os (others_keyed a))

count_senders : (n : ℕ) (os : List Operation) → length (keep (λ s. eqb s n) (map sender os)) ≡ pending_from n os
unfolding pending_from
count_senders n os =
    ap length (keep-map sender (λ (s : ℕ). eqb s n) (λ o. eqb (sender o) n) (λ o. refl) os) ∙ length-map (sent_by n os) sender

pub count-sent : (n : ℕ) (os : List Operation) → AllKeyed os
    → length (keep (λ s. eqb s n) (senders_of (map own_key os) (map value_of os))) ≡ pending_from n os
count-sent n os a = rw (senders_are os a) (count_senders n os)

pub count-own : (os : List Operation) → AllKeyed os → length (keep (λ k. not (eqb k 0)) (map own_key os)) ≡ length (inserts os)
unfolding own_key
count-own [] a = refl
count-own (insert i ∷ os) a =
    rw (not-zero (key i.id) (first_keyed a).positive) (ap suc (count-own os (others_keyed a)))
count-own (toggle d ∷ os) a = count-own os (others_keyed a)

-- ---- finding

-- the operation at n is an insert of x
pub record InsertAt (x : Identifier) (os : List Operation) (n : ℕ) : Type 0 where
  pub here : Insert
  pub at : (d : Operation) → get_or os n d ≡ insert here
  pub is : x ≡ here.id
  pub member : Memᴰ here (inserts os)

-- an insert of x at the index found, or none among all
abbrev pub Sought : Identifier → List Operation → Option ℕ → Type 0
Sought x os (Some n) = (n < length os) × InsertAt x os n
Sought x os None = any (λ j. same x j.id) (inserts os) ≡ false

member_inserts : (os : List Operation) {i : Insert} → Memᴰ (insert i) os → Memᴰ i (inserts os)
member_inserts (insert j ∷ os) {i} (Memᴰ.head e) = Memᴰ.head (let q : i ≡ j = cc in q)
member_inserts [] {i = i} x' = elim x' [ ]
member_inserts (insert j ∷ os) (Memᴰ.tail m) = Memᴰ.tail (member_inserts os m)
member_inserts (toggle d ∷ os) (Memᴰ.head e) = let z : ◌≡◌ {A = ℕ} 0 1 = cc in absurd (omega arith)
member_inserts (toggle d ∷ os) (Memᴰ.tail m) = member_inserts os m

module _ (x : Identifier) (small : Small x) (positive : 0 < key x) where
  -- the operation has the key of x
  abbrev owns : Operation → Bool
  owns o = eqb (key x) (own_key o)

  insert-at : (os : List Operation) → AllKeyed os → (n : ℕ) → FoundAt owns os n → InsertAt x os n
  unfolding own_key
  insert-at os a n f = go f.here f.at f.member f.passes
    where
      go : (o : Operation) → ((d : Operation) → get_or os n d ≡ o) → Memᴰ o os → owns o ≡ true → InsertAt x os n
      go (insert i) at m e =
          record { here = i; at = at; is = key-injective x i.id small (a (insert i) m).id (eqb-true (key x) (key i.id) e); member = member_inserts os m }
      go (toggle d) at m e = clash e (not-zero (key x) positive)

  no-insert : (os : List Operation) → AllKeyed os → any owns os ≡ false → any (λ j. same x j.id) (inserts os) ≡ false
  unfolding own_key
  no-insert [] a f = refl
  no-insert (insert i ∷ os) a f =
      or-false (sym (key-same x i.id small (first_keyed a).id) ∙ or-false-left (owns (insert i)) _ f)
      (no-insert os (others_keyed a) (or-false-right (owns (insert i)) _ f))
  no-insert (toggle d ∷ os) a f = no-insert os (others_keyed a) (or-false-right (owns (toggle d)) _ f)

  -- what the search for x answers
  pub sought : (os : List Operation) → AllKeyed os → {r : Option ℕ} → found (key x) (map own_key os) ≡ r → Sought x os r
  unfolding found
  sought os a {r} e = go r (first_says owns os (sym (first-map own_key (λ k. eqb (key x) k) os) ∙ e))
    where
      go : (r : Option ℕ) → Says owns os r → Sought x os r
      go (Some n) f = (f.within, insert-at os a n f)
      go None f = no-insert os a f

-- ---- a toggle

-- stamps are equal as the senders and the counts are
stamp_same : (a b c d : ℕ) → b < 256 → d < 256 → eqb (a * 256 + b) (c * 256 + d) ≡ (eqb a c && eqb b d)
stamp_same a b c d p q = agree (eqb (a * 256 + b) (c * 256 + d)) (eqb a c && eqb b d) to from
  where
    to : eqb (a * 256 + b) (c * 256 + d) ≡ true → (eqb a c && eqb b d) ≡ true
    to h =
        let e : a * 256 + b ≡ c * 256 + d = eqb-true (a * 256 + b) (c * 256 + d) h in
        and_intro (eq-eqb a c (omega arith)) (eq-eqb b d (omega arith))

    from : (eqb a c && eqb b d) ≡ true → eqb (a * 256 + b) (c * 256 + d) ≡ true
    from h = eq-eqb (a * 256 + b) (c * 256 + d) (omega (arith, eqb-true a c (and_left_lem (eqb a c) (eqb b d) h), eqb-true b d (and_right (eqb a c) (eqb b d) h)))

-- the last of three tests made second
third-second : (a b c : Bool) → ((a && c) && b) ≡ (a && b && c)
third-second true true c = and_true c
  where
    and_true : (b : Bool) → b && true ≡ b
    and_true true = refl
    and_true false = refl
third-second true false true = refl
third-second true false false = refl
third-second false b c = refl

-- the numbers of an equal toggle
pub same_numbers : (t u : Toggle) → Keyed (toggle t) → Keyed (toggle u)
    → (eqb (value_of (toggle t)) (value_of (toggle u)) && eqb (key t.target) (key u.target)) ≡ same_toggle t u
unfolding value_of same_toggle
same_numbers t u p q =
    rw (stamp_same t.sender t.toggles u.sender u.toggles p.1 q.1, key-same t.target u.target p.0 q.0)
    (third-second (eqb t.sender u.sender) (same t.target u.target) (eqb t.toggles u.toggles))

-- whether an equal toggle is pending
pub toggle_found : (t : Toggle) → Keyed (toggle t) → (os : List Operation) → AllKeyed os
    → has_toggle (key t.target) (value_of (toggle t)) (map own_key os) (map first_key os) (map value_of os) ≡ any (same_operation (toggle t)) os
unfolding has_toggle own_key first_key same_operation
toggle_found t p [] a = refl
toggle_found t p (insert i ∷ os) a =
    rw (not-zero (key i.id) (first_keyed a).positive) (toggle_found t p os (others_keyed a))
toggle_found t p (toggle u ∷ os) a =
    ap₂ (λ (b c : Bool). b || c) (same_numbers t u p (first_keyed a)) (toggle_found t p os (others_keyed a))
