-- `memory::operation` goes by the own key: what is in range has the bits of its types.
use Prim.Native.Nat.{ℕ}
use native.Mathlib.Omega.{arith}
use mathlib.Core.Path.{◌≡◌}
use mathlib.Core.Bool.{true}
use Rattle.woot.specs.Ranges.{in_range}
use Rattle.woot.specs.Memory.{operation_of}
use Rattle.memory.proofs.Bits.{inserted_bits, inserted-is, ToggleBits, toggle_bits, toggled-is}
use Rattle.memory.proofs.operation.Goals as goal

-- the toggle's bits, where the own key is 0
bits : (a b c v : ℕ) → a ≡ 0 → in_range (operation_of a b c v) ≡ true → ToggleBits b c v
bits a b c v z h = toggle_bits b c v (rw z at h)

pub overflow_cast-result : goal.overflow_cast-result
overflow_cast-result c = omega (arith, (bits _ _ _ _ c.if-own-eq0.true c.requires).sender)

pub identifier-requires : goal.identifier-requires
identifier-requires c = (bits _ _ _ _ c.if-own-eq0.true c.requires).target

pub returns-then-own-eq0 : goal.returns-then-own-eq0
returns-then-own-eq0 c =
    let z = c.if-own-eq0.true in
    let b = bits _ _ _ _ z c.requires in
    rw (c.identifier.ensures, z) (toggled-is _ _ _ b.none)

pub insert-requires : goal.insert-requires
insert-requires c =
    let b = inserted_bits _ _ _ _ c.requires c.if-own-eq0.false in
    record {
      id_bound = b.own;
      previous_bound = b.first;
      next_bound = b.second;
    }

pub returns : goal.returns
returns c = rw c.insert.ensures (inserted-is _ _ _ _ c.requires c.if-own-eq0.false)
