-- The limits of document 01, and of the toggles of document 02. Those of code points stand in `utf8`.
use Rattle.std.specs.Prelude.{ℕ}
pub use Rattle.utf8.specs.CodePoints.{last_code_point, first_surrogate, last_surrogate}

-- sites are numbered 1 to this
abbrev pub last_site : ℕ
last_site = 16

-- clocks run to this
abbrev pub last_clock : ℕ
last_clock = 65535

-- document 02, Req 05: a character's toggles run to this
abbrev pub last_toggles : ℕ
last_toggles = 255

-- characters, and characters with pending inserts, are at most this many
abbrev pub capacity : ℕ
capacity = 1024

-- pending operations of one sender are at most this many
abbrev pub share : ℕ
share = 32
