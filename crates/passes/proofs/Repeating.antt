-- Passes until one places none: each that places some leaves fewer inserts, so that they end.
use Prim.Native.Nat.{ℕ, zero, suc, ◌+◌, ◌≤◌, ◌<◌}
use native.Mathlib.Omega.{arith}
use mathlib.Core.Path.{◌≡◌, refl, sym, ap, subst, ◌∙◌}
use mathlib.Core.Bool.{Bool, true, false, ◌||◌}
use mathlib.Core.Option.{Option, none, some}
use mathlib.Core.List.{List, [], ◌∷◌}
use borrow.Author.Tests.{eq-eqb, ne_eqb}
use lib.Dec.{eqb}
use lib.ListN.{length}
use Rattle.woot.specs.declared.Insert.{Insert}
use Rattle.woot.specs.declared.Operation.TheVariants.{Insert as insert}
use Rattle.woot.specs.declared.Character.{Character}
use Rattle.woot.specs.Operations.{character}
use Rattle.woot.specs.Placing.{insert_at, integrate_insert, position, between}
use Rattle.woot.specs.Pending.{executable, crossed, unplaceable}
use Rattle.convergence.specs.Passes.{Passed, and_left, pass, passes}
use Rattle.convergence.proofs.Insertion.{insert-length}
use Rattle.memory.specs.Columns.{Document}
use Rattle.memory.proofs.Stored.{document-parts}
use Rattle.passes.specs.Steps.{Laid, Offering, Offers}
use Rattle.passes.proofs.Passing.{offered_laid}

-- ---- how many there are

-- between two lists of characters and two of inserts: none is lost, and what is more of the ones is less of the others
pub record Balanced (cs ds : List Character) (is js : List Insert) : Type 0 where
  pub grown : length cs ≤ length ds
  pub shrunk : length ds + length js ≤ length cs + length is

integrated_length : (cs : List Character) (i : Insert) → (length cs ≤ length (integrate_insert cs i)) × (length (integrate_insert cs i) ≤ suc (length cs))
unfolding integrate_insert
integrated_length cs i = go (position cs i.id (between cs i)) refl
  where
    go : (o : Option ℕ) → position cs i.id (between cs i) ≡ o → (length cs ≤ length (integrate_insert cs i)) × (length (integrate_insert cs i) ≤ suc (length cs))
    go none e = let same : integrate_insert cs i ≡ cs = rw (e, integrate_insert) in (omega (arith, ap length same), omega (arith, ap length same))
    go (some k) e =
        let put : integrate_insert cs i ≡ insert_at k (character i) cs = rw (e, integrate_insert) in
        (omega (arith, ap length put, insert-length k (character i) cs), omega (arith, ap length put, insert-length k (character i) cs))

pub pass_balanced : (cs : List Character) (is : List Insert) → Balanced cs (pass cs is).characters is (pass cs is).left
unfolding pass and_left
pass_balanced cs [] = record { grown = omega arith; shrunk = omega arith }
pass_balanced cs (i ∷ is) =
    go (executable cs (insert i)) refl (crossed cs (insert i) || unplaceable cs (insert i)) refl (λ ds. pass_balanced ds is)
  where
    go : (b : Bool) → executable cs (insert i) ≡ b → (c : Bool) → crossed cs (insert i) || unplaceable cs (insert i) ≡ c
        → ((ds : List Character) → Balanced ds (pass ds is).characters is (pass ds is).left)
        → Balanced cs (pass cs (i ∷ is)).characters (i ∷ is) (pass cs (i ∷ is)).left
    go false e c f h = rw e (record { grown = (h cs).grown; shrunk = omega (arith, (h cs).shrunk) })
    go true e true f h = rw (e, f) (record { grown = (h cs).grown; shrunk = omega (arith, (h cs).shrunk) })
    go true e false f h =
        let g = integrated_length cs i in
        let later = h (integrate_insert cs i) in
        rw (e, f) (record { grown = omega (arith, later.grown, g.0); shrunk = omega (arith, later.shrunk, g.1) })

-- ---- passes

-- what is offered comes to p in passes, and they are enough
pub record Repeating (d : Document) (xs : List ℕ) (left : ℕ) (p : Passed) : Type 0 where
  pub characters : List Character
  pub inserts : List Insert
  pub offering : Offering d xs left characters inserts
  pub fuel : ℕ
  pub enough : left < suc fuel
  pub comes : passes (suc fuel) characters inserts ≡ p

pub repeating_begun : {d : Document} {xs : List ℕ} {m : ℕ} (o : Offers d xs m)
    → Repeating d xs m (passes (suc (length o.inserts)) o.characters o.inserts)
repeating_begun o =
    record {
      characters = o.characters;
      inserts = o.inserts;
      offering = o.offering;
      fuel = length o.inserts;
      enough = omega (arith, o.offering.many);
      comes = refl;
    }

module _ {d : Document} {xs : List ℕ} {left : ℕ} {p : Passed} (r : Repeating d xs left p) where
  abbrev cs : List Character
  cs = r.characters

  abbrev is : List Insert
  is = r.inserts

  abbrev pub repeating_offers : Offers d xs left
  repeating_offers = record { characters = cs; inserts = is; offering = r.offering }

  -- a pass was made
  module _ {e : Document} {ys : List ℕ} {more : ℕ} (o : Offering e ys more (pass cs is).characters (pass cs is).left) where
    before : d.length ≡ length cs
    before = (document-parts r.offering.tidy).length-is

    after : e.length ≡ length (pass cs is).characters
    after = (document-parts o.tidy).length-is

    -- that placed none
    pub repeating_ended : e.length ≡ d.length → Laid e p.characters
    unfolding passes
    repeating_ended same =
        let one : eqb (length (pass cs is).characters) (length cs) ≡ true = eq-eqb _ _ (sym after ∙ same ∙ before) in
        let done : pass cs is ≡ p = rw one at r.comes in
        subst (λ (q : Passed). Laid e q.characters) done (offered_laid o.offered o.tidy)

    -- that placed some
    module _ (other : e.length ≡ d.length → ⊥) where
      pub repeating_fewer : more < left
      repeating_fewer =
          let b = pass_balanced cs is in
          omega (arith, b.grown, b.shrunk, before, after, other, r.offering.many, o.many)

      pub repeating_again : Repeating e ys more p
      unfolding passes
      repeating_again = go r.fuel refl
        where
          not-one : eqb (length (pass cs is).characters) (length cs) ≡ false
          not-one = ne_eqb _ _ (λ same. other (after ∙ same ∙ sym before))

          go : (f : ℕ) → r.fuel ≡ f → Repeating e ys more p
          go zero z = absurd (omega (arith, repeating_fewer, r.enough, z))
          go (suc f) z =
              record {
                characters = (pass cs is).characters;
                inserts = (pass cs is).left;
                offering = o;
                fuel = f;
                enough = omega (arith, repeating_fewer, r.enough, z);
                comes = rw (z, not-one) at r.comes;
              }
