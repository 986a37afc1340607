-- What is in range has the bits of its types: keys have 24, and the sender and the count of a toggle 8 each.
use Prim.Native.Nat.{ℕ, ◌+◌, ◌*◌, ◌/◌, ◌%◌, ◌≤◌, ◌<◌}
use native.Mathlib.Omega.{arith}
use mathlib.Core.Path.{◌≡◌, refl, ap}
use mathlib.Core.Bool.{true}
use mathlib.Core.Logic.{⊎_elim}
use borrow.Author.Tests.{ne_eqb}
use Rattle.lists.proofs.Tests.{or_cases, and_left_lem}
use Rattle.convergence.proofs.Identifiers.{same-eq}
use Rattle.convergence.proofs.Ranges.{within-high, in-range, toggle-in-range}
use Rattle.woot.specs.declared.Identifier.{Identifier}
use Rattle.woot.specs.declared.Operation.TheVariants.{Insert as insert, Toggle as toggle}
use Rattle.woot.specs.Identifiers.{begin, end, same}
use Rattle.woot.specs.Limits.{last_site}
use Rattle.woot.specs.Operations.{origin}
use Rattle.woot.specs.Ranges.{within, site_number, character_id, previous_id, next_id, insert_in_range, in_range}
use Rattle.woot.specs.Memory.{identifier, character_of, operation_of}

pub key_bits : (k : ℕ) → character_id (identifier k) ≡ true → k < 16777216
unfolding character_id site_number identifier
key_bits k h = omega (arith, within-high 1 last_site (k / 65536) (and_left_lem (within 1 last_site (k / 65536)) _ h))

-- a mark's key has few bits
mark_bits : (k : ℕ) (m : Identifier) → m.site ≡ 0 → identifier k ≡ m → k < 16777216
unfolding identifier
mark_bits k m z e = let site : k / 65536 ≡ m.site = ap (λ (x : Identifier). x.site) e in omega (arith, site, z)

pub previous_bits : (k : ℕ) → previous_id (identifier k) ≡ true → k < 16777216
unfolding previous_id
previous_bits k h = ⊎_elim (λ e. mark_bits k begin refl (same-eq (identifier k) begin e)) (key_bits k) (or_cases (same (identifier k) begin) _ h)

pub next_bits : (k : ℕ) → next_id (identifier k) ≡ true → k < 16777216
unfolding next_id
next_bits k h = ⊎_elim (λ e. mark_bits k end refl (same-eq (identifier k) end e)) (key_bits k) (or_cases (same (identifier k) end) _ h)

-- the keys of an insert
pub record InsertBits (a b c : ℕ) : Type 0 where
  pub own : a < 16777216
  pub first : b < 16777216
  pub second : c < 16777216

pub insert_bits : (a b c v : ℕ) → insert_in_range (origin (character_of a b c v 0)) ≡ true → InsertBits a b c
unfolding origin character_of
insert_bits a b c v h =
    let r = in-range (origin (character_of a b c v 0)) h in
    record { own = key_bits a r.id; first = previous_bits b r.previous; second = next_bits c r.next }

module _ (a b c v : ℕ) (h : in_range (operation_of a b c v) ≡ true) where
  pub inserted_bits : (a ≡ 0 → ⊥) → InsertBits a b c
  unfolding operation_of in_range origin character_of
  inserted_bits n = insert_bits a b c v (rw (ne_eqb a 0 n) at h)

  pub inserted-is : (a ≡ 0 → ⊥) → insert (origin (character_of a b c v 0)) ≡ operation_of a b c v
  unfolding operation_of origin character_of
  inserted-is n = rw (ne_eqb a 0 n)

-- a toggle's target, its sender and its count
pub record ToggleBits (b c v : ℕ) : Type 0 where
  pub target : b < 16777216
  pub none : c ≡ 0
  pub sender : v / 256 ≤ 16

pub toggle_bits : (b c v : ℕ) → in_range (operation_of 0 b c v) ≡ true → ToggleBits b c v
unfolding operation_of in_range site_number
toggle_bits b c v h =
    let r = toggle-in-range _ h in
    let few : c * 256 + v / 256 ≤ 16 = within-high 1 last_site (c * 256 + v / 256) r.sender in
    record { target = key_bits b r.target; none = omega (arith, few); sender = omega (arith, few) }

pub toggled-is : (b c v : ℕ) → c ≡ 0 → toggle (record { sender = v / 256; target = identifier b; toggles = v % 256 }) ≡ operation_of 0 b c v
unfolding operation_of
toggled-is b c v z = let sent : v / 256 ≡ c * 256 + v / 256 = omega (arith, z) in ap toggle (λ j. record { sender = sent j; target = identifier b; toggles = v % 256 })
