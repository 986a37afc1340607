-- What is found for an insert says which of the rules' conditions hold, and where the insert goes.
use Prim.Native.Nat.{ℕ, suc, ◌≤◌, ◌<◌}
use mathlib.Core.Path.{◌≡◌, refl, subst, ◌∙◌}
use mathlib.Core.Bool.{Bool, true, false}
use mathlib.Core.Option.{Option, none, some}
use mathlib.Core.List.{List}
use borrow.Author.Tests.{lt-ltb, le-ltb, le-leb, lt-leb}
use lib.ListN.{length}
use Rattle.woot.specs.declared.Identifier.{Identifier}
use Rattle.woot.specs.declared.Insert.{Insert}
use Rattle.woot.specs.declared.Operation.TheVariants.{Insert as insert}
use Rattle.woot.specs.declared.Character.{Character}
use Rattle.woot.specs.Operations.{character}
use Rattle.woot.specs.Placing.{place_of, held, above, position, between, insert_at, integrate_insert}
use Rattle.woot.specs.Pending.{executable, crossed, unplaceable}
use Rattle.convergence.proofs.Standing.{placement-at}
use Rattle.woot.specs.Table.{key, keys}
use Rattle.index.specs.Keys.{Small, AllSmall, place_in}
use Rattle.index.proofs.Indices.{place-keys}
use Rattle.integration.specs.declared.Placement.{Placement}
use Rattle.integration.specs.declared.Placement.TheVariants.{Missing, Crossed, Unplaceable, Below}
use Rattle.integration.specs.Placements.{placement_at, placement_of}

-- ---- what is sought by keys

-- a place that is sought by the key is that of the rules
pub sought : (cs : List Character) → AllSmall cs → (ids : List ℕ) → ids ≡ keys cs → (x : Identifier) (k place : ℕ) → (k ≡ key x) × Small x
    → place ≡ place_in ids k
    → place ≡ place_of cs x
sought cs s ids e x k place h p = p ∙ rw (e, h.0) (place-keys x h.1 cs s)

module _ (cs : List Character) (i : Insert) where
  -- ---- from the places

  pub previous-missing : suc (length cs) < place_of cs i.previous → placement_of cs i ≡ Missing
  unfolding placement_of executable held
  previous-missing h = rw (lt-leb (place_of cs i.previous) (suc (length cs)) h)

  pub next-missing : place_of cs i.previous ≤ suc (length cs) → suc (length cs) < place_of cs i.next → placement_of cs i ≡ Missing
  unfolding placement_of executable held
  next-missing g h = rw (le-leb (place_of cs i.previous) (suc (length cs)) g, lt-leb (place_of cs i.next) (suc (length cs)) h)

  module _ (g : place_of cs i.previous ≤ suc (length cs)) (h : place_of cs i.next ≤ suc (length cs)) where
    ready : executable cs (insert i) ≡ true
    unfolding executable held
    ready = rw (le-leb (place_of cs i.previous) (suc (length cs)) g, le-leb (place_of cs i.next) (suc (length cs)) h)

    pub places-crossed : place_of cs i.next ≤ place_of cs i.previous → placement_of cs i ≡ Crossed
    unfolding placement_of above
    places-crossed l = rw (ready, le-ltb (place_of cs i.previous) (place_of cs i.next) l)

    module _ (l : place_of cs i.previous < place_of cs i.next) where
      ordered : above cs i.previous i.next ≡ true
      unfolding above held
      ordered = rw (lt-ltb (place_of cs i.previous) (place_of cs i.next) l, le-leb (place_of cs i.next) (suc (length cs)) h)

      pub places-found : placement_of cs i ≡ placement_at (position cs i.id (between cs i))
      unfolding placement_of
      places-found = rw (ready, ordered)

  -- ---- to the conditions

  -- what each finding says of the insert
  abbrev pub Says : Placement → Type 0
  Says Missing = executable cs (insert i) ≡ false
  Says Crossed = (executable cs (insert i) ≡ true) × (crossed cs (insert i) ≡ true)
  Says Unplaceable =
      (executable cs (insert i) ≡ true) × (crossed cs (insert i) ≡ false) × (unplaceable cs (insert i) ≡ true)
  Says (Below k) =
      (executable cs (insert i) ≡ true) × (crossed cs (insert i) ≡ false) × (unplaceable cs (insert i) ≡ false)
      × (integrate_insert cs i ≡ insert_at k (character i) cs)
      × (k ≤ length cs)

  pub says : (p : Placement) → placement_of cs i ≡ p → Says p
  unfolding placement_of placement_at crossed unplaceable
  says p e = subst Says e (go (executable cs (insert i)) refl (above cs i.previous i.next) refl (position cs i.id (between cs i)) refl)
    where
      go : (b : Bool) → executable cs (insert i) ≡ b → (a : Bool) → above cs i.previous i.next ≡ a → (o : Option ℕ) → position cs i.id (between cs i) ≡ o
          → Says (placement_of cs i)
      go false b a f o g = rw b b
      go true b false f o g = rw (b, f) (b, rw (b, f))
      go true b true f none g = rw (b, f, g) (b, rw (b, f), rw (b, g))
      go true b true f (some k) g =
          let straight : crossed cs (insert i) ≡ false = rw (b, f) in
          let p = placement-at cs i b straight k g in
          let same : p.place ≡ k = cc p.found in
          rw (b, f, g) (b, straight, rw (b, g), rw same at p.result, rw same at p.within)
