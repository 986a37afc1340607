-- For the proofs of the code alone: visible characters by their columns.
use Rattle.std.specs.Prelude.{ℕ, ◌-◌, ◌%◌, Bool, cond, List, [], ◌∷◌, ◌++◌, map, eqb, get_or}
use Rattle.woot.specs.declared.Identifier.{Identifier}
use Rattle.woot.specs.Text.{printed}
use Rattle.woot.specs.Table.{key}
use Rattle.utf8.specs.Encoding.{encode}
use Rattle.std.specs.Prelude.{Option, Some, None}
use Rattle.index.specs.Keys.{further}

-- a character with this count of toggles is visible
abbrev pub shown : ℕ → Bool
shown t = eqb (t % 2) 0

-- the index of the one that passes the test, counted k from 0 among them
unfoldable pub nth_index : {A : Type 0} → (A → Bool) → List A → ℕ → Option ℕ
nth_index p [] k = None
nth_index p (x ∷ xs) k =
    cond (p x) (cond (eqb k 0) (Some 0) (further 1 (nth_index p xs (k - 1)))) (further 1 (nth_index p xs k))

-- the key of the identifier at an index, or the mark's
abbrev pub get_key : List Identifier → ℕ → ℕ → ℕ
get_key xs k mark = get_or (map key xs) k mark

-- the bytes that a character adds to the text
unfoldable pub spelt_as : ℕ → ℕ → List ℕ
spelt_as point toggles = cond (shown toggles) (encode (printed point)) []

-- the text of characters with these code points and counts
unfoldable pub text_of : List ℕ → List ℕ → List ℕ
text_of [] ts = []
text_of (p ∷ ps) [] = []
text_of (p ∷ ps) (t ∷ ts) = spelt_as p t ++ text_of ps ts
