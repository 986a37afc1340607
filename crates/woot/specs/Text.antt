-- The visible text, in which by Req 01 of document 02 some control characters go out as U+FFFD.
use Rattle.std.specs.Prelude.{ℕ, ◌≡◌, Bool, true, false, ◌||◌, cond, List, [], ◌∷◌, ◌++◌, map, eqb}
use Rattle.woot.specs.declared.Character.{Character}
use Rattle.woot.specs.Operations.{is_visible}
use Rattle.woot.specs.Ranges.{within}
use Rattle.lists.specs.Lists.{keep}
use Rattle.utf8.specs.Encoding.{encode}

-- "code points 0 to 8, 11 to 31 and 127"
unfoldable pub unprintable : ℕ → Bool
unprintable n = within 0 8 n || within 11 31 n || eqb n 127

-- the code point that stands for n in the visible text: these "now go out as U+FFFD"
unfoldable pub printed : ℕ → ℕ
printed n = cond (unprintable n) 65533 n

-- the bytes of the characters one after another
unfoldable pub encoded : List Character → List ℕ
encoded [] = []
encoded (c ∷ cs) = encode (printed c.code_point) ++ encoded cs

-- "visible text is the shown code points in UTF-8", read with this substitution
unfoldable pub text : List Character → List ℕ
text cs = encoded (keep is_visible cs)

-- ---- what these definitions give, proved in `proofs/Text.antt`

-- the ends of the three ranges, and the code points beside them
abbrev pub EdgesPrinted : Type 0
EdgesPrinted =
    map printed (0 ∷ 8 ∷ 9 ∷ 10 ∷ 11 ∷ 31 ∷ 32 ∷ 126 ∷ 127 ∷ 128 ∷ 159 ∷ [])
    ≡ 65533 ∷ 65533 ∷ 9 ∷ 10 ∷ 65533 ∷ 65533 ∷ 32 ∷ 126 ∷ 65533 ∷ 128 ∷ 159 ∷ []

-- "hexadecimal EF BF BD, so each counts three bytes", and every other code point is itself
pub record Substitution : Type 0 where
  pub replaced : (n : ℕ) → unprintable n ≡ true → encode (printed n) ≡ 0xEF ∷ 0xBF ∷ 0xBD ∷ []
  pub kept : (n : ℕ) → unprintable n ≡ false → printed n ≡ n
