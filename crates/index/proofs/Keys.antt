-- Keys are equal, and ordered, as their identifiers are, since a clock is below the weight of a site.
use Prim.Native.Nat.{◌<◌, ◌≤◌}
use native.Mathlib.Omega.{arith}
use mathlib.Core.Path.{◌≡◌, refl, ap}
use mathlib.Core.Bool.{true, false, ◌||◌}
use mathlib.Core.List.{List, Memᴰ}
use mathlib.Core.Logic.{◌⊎◌, inl, inr, ⊎_elim}
use borrow.Author.Tests.{ltb-true, ltb-false, eqb-true, lt-ltb, eq-eqb}
use lib.Dec.{eqb, ltb}
use Rattle.woot.specs.declared.Identifier.{Identifier}
use Rattle.woot.specs.declared.Character.{Character}
use Rattle.woot.specs.Identifiers.{begin, end, same, below}
use Rattle.woot.specs.Limits.{last_clock}
use Rattle.woot.specs.Operations.{origin}
use Rattle.woot.specs.Ranges.{site_number, character_id, previous_id, next_id, character_in_range}
use Rattle.lists.proofs.Tests.{agree, and_left_lem, and_right, and_intro, or_cases, or_left, or_right, either}
use Rattle.convergence.proofs.Identifiers.{identifier-path, same-eq, eq-same}
use Rattle.convergence.proofs.Ranges.{within-high, in-range, origin_ranged}
use Rattle.woot.specs.Table.{key}
use Rattle.index.specs.Keys.{Small, SmallParts, AllSmall}

pub key-begin : key begin ≡ 0
unfolding key
key-begin = refl

pub key-end : key end ≡ 1
unfolding key
key-end = refl

module _ (x y : Identifier) (p : Small x) (q : Small y) where
  pub key-injective : key x ≡ key y → x ≡ y
  unfolding key
  key-injective e = identifier-path (omega arith) (omega arith)

  pub key-same : eqb (key x) (key y) ≡ same x y
  key-same = agree _ _ (λ e. eq-same (key-injective (eqb-true _ _ e))) (λ e. eq-eqb _ _ (ap key (same-eq x y e)))

  -- of two sites the lower, or of two clocks of one site, has the lower key
  pub key_below : ltb (key x) (key y) ≡ below x y
  unfolding key below
  key_below = agree _ _ (λ e. there (ltb-true _ _ e) (either (ltb x.site y.site))) back
    where
      there : key x < key y → (ltb x.site y.site ≡ true) ⊎ (ltb x.site y.site ≡ false) → below x y ≡ true
      there h (inl e) = or_left (ltb x.site y.site) _ e
      there h (inr e) =
          let level : y.site ≤ x.site = ltb-false _ _ e in
          or_right (ltb x.site y.site) _ (and_intro (eq-eqb x.site y.site (omega arith)) (lt-ltb x.clock y.clock (omega arith)))

      back : below x y ≡ true → ltb (key x) (key y) ≡ true
      back e = ⊎_elim (λ f. sites (ltb-true _ _ f)) (λ f. clocks (eqb-true _ _ (and_left_lem (eqb x.site y.site) _ f)) (ltb-true _ _ (and_right (eqb x.site y.site) _ f))) (or_cases (ltb x.site y.site) _ e)
        where
          sites : x.site < y.site → ltb (key x) (key y) ≡ true
          sites h = lt-ltb (key x) (key y) (omega arith)

          clocks : x.site ≡ y.site → x.clock < y.clock → ltb (key x) (key y) ≡ true
          clocks e h = lt-ltb (key x) (key y) (omega arith)

-- what is in range is small
pub character-small : (x : Identifier) → character_id x ≡ true → Small x
unfolding character_id
character-small x h = omega (arith, within-high 1 last_clock x.clock (and_right (site_number x.site) _ h))

-- a mark or what is in range
mark_small : (m x : Identifier) → Small m → (same x m || character_id x) ≡ true → Small x
mark_small m x s e = ⊎_elim (λ f. omega (arith, ap (λ (y : Identifier). y.clock) (same-eq x m f))) (character-small x) (or_cases (same x m) _ e)

pub range_small : (c : Character) → character_in_range c ≡ true → SmallParts c
unfolding origin previous_id next_id
range_small c h =
    let r = in-range (origin c) (origin_ranged c h) in
    record {
      id = character-small c.id r.id;
      previous = mark_small begin c.previous (omega arith) r.previous;
      next = mark_small end c.next (omega arith) r.next;
    }

pub all-range-small : (cs : List Character) → ((c : Character) → Memᴰ c cs → character_in_range c ≡ true) → AllSmall cs
all-range-small cs f c m = range_small c (f c m)
