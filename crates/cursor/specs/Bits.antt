-- A shift in sixteen bits of a number, in two's complement.
use Rattle.std.specs.Prelude.{ℕ, ◌-◌, ◌%◌, cond, ltb, ℤ, pos, negsuc}

-- the low sixteen bits: -1 is 65,535
unfoldable pub shift_bits : ℤ → ℕ
shift_bits (pos n) = n % 65536
shift_bits (negsuc n) = 65535 - n % 65536

-- the whole number that sixteen bits say
unfoldable pub shift_read : ℕ → ℤ
shift_read n = cond (ltb n 32768) (pos n) (negsuc (65535 - n))
