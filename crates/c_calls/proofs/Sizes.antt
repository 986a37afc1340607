-- How long a text is: each visible character adds at most four bytes.
use Prim.Native.Nat.{ℕ, ◌*◌, ◌≤◌}
use native.Mathlib.Omega.{arith}
use mathlib.Core.Bool.{Bool, true, false, cond}
use mathlib.Core.List.{List, [], ◌∷◌}
use lib.ListN.{length, length-append}
use Rattle.lists.specs.Lists.{keep}
use Rattle.utf8.specs.Encoding.{encode}
use Rattle.utf8.proofs.Laws.{length-encode, length-bounds}
use Rattle.woot.specs.declared.Character.{Character}
use Rattle.woot.specs.Operations.{is_visible}
use Rattle.woot.specs.Text.{printed, encoded, text}
use Rattle.convergence.proofs.Forms.{formed}
use Rattle.lists.proofs.Members.{keep-length}
use Rattle.c_calls.specs.Theorems.{TextLength}

-- ---- the text

encoded-length : (cs : List Character) → length (encoded cs) ≤ 4 * length cs
unfolding encoded
encoded-length [] = omega arith
encoded-length (c ∷ cs) =
    let n = printed c.code_point in
    omega (arith, length-append (encode n) (encoded cs), length-encode n, (length-bounds n).1, encoded-length cs)

pub text-length : TextLength
unfolding text
text-length s h =
    let shown = keep is_visible s.characters in
    omega (arith, encoded-length shown, keep-length is_visible s.characters, (formed s h).sound.room)
