-- The identifier of two numbers that fit it is theirs.
use Prim.Native.Nat.{ℕ, ◌%◌, ◌<◌}
use native.Mathlib.Omega.{arith}
use mathlib.Core.Path.{◌≡◌, ◌∙◌}
use Rattle.woot.specs.declared.Identifier.{Identifier}

-- what the two numbers name, of an identifier made of their low bits
pub fits_whole : {x : Identifier} {a b : ℕ} → x ≡ record { site = a % 256; clock = b % 65536 } → a < 256 → b < 65536 → x ≡ record { site = a; clock = b }
fits_whole {x} {a} {b} e ha hb =
    let site : a % 256 ≡ a = omega arith in
    let clock : b % 65536 ≡ b = omega arith in
    e ∙ (λ j. record { site = site j; clock = clock j })
