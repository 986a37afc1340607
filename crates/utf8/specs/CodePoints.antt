-- Which numbers are code points.
use Rattle.std.specs.Prelude.{ℕ, Bool, ◌&&◌, not, leb}

-- low and high are the first and last of a range
unfoldable pub within : ℕ → ℕ → ℕ → Bool
within low high n = leb low n && leb n high

-- code points run to this, the surrogates aside
abbrev pub last_code_point : ℕ
last_code_point = 1114111

-- the surrogates, which are no code points
abbrev pub first_surrogate : ℕ
first_surrogate = 55296

abbrev pub last_surrogate : ℕ
last_surrogate = 57343

-- "0 to 1,114,111, but not 55,296 to 57,343"
unfoldable pub is_code_point : ℕ → Bool
is_code_point n = within 0 last_code_point n && not (within first_surrogate last_surrogate n)
