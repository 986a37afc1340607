-- Each character adds to the text the bytes that it spells; runs of bytes are put one after another.
use mathlib.Core.Path.{◌≡◌, refl, ◌∙◌}
use mathlib.Core.Bool.{Bool, true, false, cond}
use mathlib.Core.Logic.{◌⊎◌, inl, inr}
use mathlib.Core.List.{List, [], ◌∷◌, ◌++◌, append-nil}
use Prim.Native.Nat.{ℕ, ◌+◌, ◌≤◌, ◌<◌}
use native.Mathlib.Nat.{add-zero}
use native.Mathlib.Omega.{arith}
use lib.ListN.{length, length-append, take-append-drop}
use Rattle.woot.specs.declared.Character.{Character}
use Rattle.woot.specs.Operations.{is_visible}
use Rattle.lists.specs.Lists.{keep}
use Rattle.woot.specs.Text.{printed, text, encoded}
use Rattle.utf8.specs.Encoding.{encode}
use Rattle.lists.proofs.Tests.{side}
use Rattle.output.specs.Output.{placed, past}
use Rattle.output.proofs.Laws.{placed-append, placed-room, past_room, placed-short, past-short, length-placed}
use Rattle.visible.specs.Visible.{spelt}

pub text-cons : (c : Character) (cs : List Character) → text (c ∷ cs) ≡ spelt c ++ text cs
unfolding text encoded spelt
text-cons c cs = go (is_visible c)
  where
    rest : List Character
    rest = keep is_visible cs

    go : (b : Bool) → encoded (cond b (c ∷ rest) rest) ≡ cond b (encode (printed c.code_point)) [] ++ encoded rest
    go true = refl
    go false = refl

-- ---- runs of bytes one after another

module _ (out : List ℕ) (at : ℕ) (a b : List ℕ) (room : at + length (a ++ b) ≤ length out) where
  split : length (a ++ b) ≡ length a + length b
  split = length-append a b

  pub run_more : placed (placed out at a) (past out at a) b ≡ placed out at (a ++ b)
  run_more = rw (past_room out at a (omega (arith, split))) (placed-append out at a b room)

  pub run_room : past out at a + length b ≤ length (placed out at a)
  run_room = omega (arith, split, past_room out at a (omega (arith, split)), length-placed out at a)

-- no bytes
module _ (out : List ℕ) (at : ℕ) where
  pub past-none : past out at [] ≡ at
  past-none = go (side (at + 0) (length out))
    where
      go : (at + 0 ≤ length out) ⊎ (length out < at + 0) → past out at [] ≡ at
      go (inl h) = past_room out at [] h ∙ add-zero at
      go (inr h) = past-short out at [] h

  pub placed-none : placed out at [] ≡ out
  placed-none = go (side (at + 0) (length out))
    where
      go : (at + 0 ≤ length out) ⊎ (length out < at + 0) → placed out at [] ≡ out
      go (inl h) = placed-room out at [] h ∙ rw (add-zero at, append-nil) (take-append-drop at out)
      go (inr h) = placed-short out at [] h
