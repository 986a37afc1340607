-- For the proofs of the code alone: the bytes that a character adds to the text.
use Rattle.std.specs.Prelude.{ℕ, cond, List, []}
use Rattle.woot.specs.declared.Character.{Character}
use Rattle.woot.specs.Operations.{is_visible}
use Rattle.woot.specs.Text.{printed}
use Rattle.utf8.specs.Encoding.{encode}

-- the bytes of a character that is visible
unfoldable pub spelt : Character → List ℕ
spelt c = cond (is_visible c) (encode (printed c.code_point)) []
