-- Each identifier brings one chunk at most, so that a well-formed state has no more of them than characters.
use Prim.Native.Nat.{suc, ◌≤◌}
use native.Mathlib.Omega.{arith}
use mathlib.Core.Path.{◌≡◌}
use mathlib.Core.Bool.{Bool, true, false, cond}
use mathlib.Core.List.{List, [], ◌∷◌}
use lib.ListN.{length, length-map}
use Rattle.woot.specs.declared.Identifier.{Identifier}
use Rattle.woot.specs.State.{State}
use Rattle.woot.specs.Placing.{identifiers}
use Rattle.woot.specs.Form.{well_formed}
use Rattle.bulk.specs.Catching.{Chunk, speaks_of, precedes, chunk_of, also_marking, with_marked, chunks_of, listing}
use Rattle.convergence.proofs.Forms.{formed}

one_more : (x : Identifier) (ks : List Chunk) → length (with_marked x ks) ≤ suc (length ks)
unfolding with_marked
one_more x [] = omega arith
one_more x (k ∷ ks) = go (speaks_of k x) (precedes (chunk_of x) k) (one_more x ks)
  where
    go : (a b : Bool) → length (with_marked x ks) ≤ suc (length ks)
        → length (cond a (also_marking x k ∷ ks) (cond b (chunk_of x ∷ k ∷ ks) (k ∷ with_marked x ks))) ≤ suc (suc (length ks))
    go true b h = omega arith
    go false true h = omega arith
    go false false h = omega (arith, h)

no_more : (xs : List Identifier) → length (chunks_of xs) ≤ length xs
unfolding chunks_of
no_more [] = omega arith
no_more (x ∷ xs) = omega (arith, one_more x (chunks_of xs), no_more xs)

pub few-chunks-listed : (t : State) → well_formed t ≡ true → length (listing t).chunks ≤ 1024
unfolding listing
few-chunks-listed t h =
    omega (arith, no_more (identifiers t.characters), length-map t.characters (λ c. c.id), (formed t h).sound.room)
