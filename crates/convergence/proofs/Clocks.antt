-- A clock that has heard an insert is not below it: what a site's clock reaches it reaches ever after, and what it
-- reaches already raises nothing.
use Prim.Native.Nat.{ℕ, ◌≤◌, max}
use native.Mathlib.Omega.{arith}
use mathlib.Core.Path.{◌≡◌, refl, ap, ◌∙◌}
use mathlib.Core.Bool.{Bool, true, false, ◌||◌, not, cond}
use mathlib.Core.List.{List, [], ◌∷◌, map}
use lib.Dec.{leb, eqb}
use borrow.Author.Tests.{leb-true, le-leb, eqb-true, eqb-false}
use Rattle.woot.specs.declared.Identifier.{Identifier}
use Rattle.woot.specs.declared.Site.{Site}
use Rattle.woot.specs.declared.Insert.{Insert}
use Rattle.woot.specs.Limits.{last_clock}
use Rattle.woot.specs.Ranges.{site_number, within, site_in_range}
use Rattle.woot.specs.Clock.{own_insert, heard, heard_all}
use Rattle.woot.specs.Form.{clock_reaches}
use Rattle.lists.specs.Lists.{every}
use Rattle.lists.proofs.Tests.{and_left_lem, and_right, and_intro}
use Rattle.convergence.proofs.Ranges.{within-high, to-within}

-- of an identifier, what `clockReaches` says of its insert
abbrev pub reaches : Site → Identifier → Bool
reaches t x = not (eqb x.site t.number) || leb x.clock t.clock

-- by numbers
abbrev pub Reaches : Site → Identifier → Type 0
Reaches t x = x.site ≡ t.number → x.clock ≤ t.clock

pub reaches_clock : (t : Site) (x : Identifier) → reaches t x ≡ true → Reaches t x
reaches_clock t x h e = go (eqb x.site t.number) refl h
  where
    go : (b : Bool) → eqb x.site t.number ≡ b → not b || leb x.clock t.clock ≡ true → x.clock ≤ t.clock
    go true f k = leb-true x.clock t.clock k
    go false f k = absurd (eqb-false x.site t.number f e)

pub clock-reaches : (t : Site) (x : Identifier) → Reaches t x → reaches t x ≡ true
clock-reaches t x f = go (eqb x.site t.number) refl
  where
    go : (b : Bool) → eqb x.site t.number ≡ b → not b || leb x.clock t.clock ≡ true
    go true e = le-leb x.clock t.clock (f (eqb-true x.site t.number e))
    go false e = refl

-- ---- one insert heard

-- the number stays, and the clock is not below what it was, nor below the insert's where that is the site's own
pub heard-number : (t : Site) (i : Insert) → (heard t i).number ≡ t.number
unfolding heard
heard-number t i = go (own_insert t i)
  where
    go : (b : Bool) → (cond b (record { number = t.number; clock = max t.clock i.id.clock }) t).number ≡ t.number
    go true = refl
    go false = refl

pub heard_clock : (t : Site) (i : Insert) → t.clock ≤ (heard t i).clock
unfolding heard
heard_clock t i = go (own_insert t i)
  where
    go : (b : Bool) → t.clock ≤ (cond b (record { number = t.number; clock = max t.clock i.id.clock }) t).clock
    go true = omega arith
    go false = omega arith

pub heard_reaches : (t : Site) (i : Insert) → reaches (heard t i) i.id ≡ true
unfolding heard own_insert
heard_reaches t i = clock-reaches (heard t i) i.id (λ e. go (eqb i.id.site t.number) refl (e ∙ heard-number t i))
  where
    go : (b : Bool) → eqb i.id.site t.number ≡ b → i.id.site ≡ t.number → i.id.clock ≤ (cond b (record { number = t.number; clock = max t.clock i.id.clock }) t).clock
    go true f e = omega arith
    go false f e = absurd (eqb-false i.id.site t.number f e)

-- what was reached is reached still
pub heard-keeps : (t : Site) (i : Insert) (x : Identifier) → reaches t x ≡ true → reaches (heard t i) x ≡ true
heard-keeps t i x h =
    clock-reaches (heard t i) x (λ e. let k = reaches_clock t x h (e ∙ heard-number t i) in omega (arith, heard_clock t i))

pub heard-keeps-all : (t : Site) (i : Insert) (xs : List Identifier) → every (reaches t) xs ≡ true → every (reaches (heard t i)) xs ≡ true
heard-keeps-all t i [] h = refl
heard-keeps-all t i (x ∷ xs) h =
    and_intro (heard-keeps t i x (and_left_lem (reaches t x) (every (reaches t) xs) h)) (heard-keeps-all t i xs (and_right (reaches t x) (every (reaches t) xs) h))

-- the site stays in range
pub heard-range : (t : Site) (i : Insert) → site_in_range t ≡ true → i.id.clock ≤ last_clock → site_in_range (heard t i) ≡ true
unfolding heard site_in_range
heard-range t i h k = go (own_insert t i)
  where
    number : site_number t.number ≡ true
    number = and_left_lem (site_number t.number) (within 0 last_clock t.clock) h

    low : t.clock ≤ last_clock
    low = within-high 0 last_clock t.clock (and_right (site_number t.number) (within 0 last_clock t.clock) h)

    go : (b : Bool) → site_in_range (cond b (record { number = t.number; clock = max t.clock i.id.clock }) t) ≡ true
    go true = and_intro number (to-within 0 last_clock (max t.clock i.id.clock) (omega arith) (omega (arith, low, k)))
    go false = h

-- ---- an insert that is reached already

-- raises nothing
pub heard-still : (t : Site) (i : Insert) → reaches t i.id ≡ true → heard t i ≡ t
unfolding heard own_insert
heard-still t i h = go (eqb i.id.site t.number) refl
  where
    go : (b : Bool) → eqb i.id.site t.number ≡ b → cond b (record { number = t.number; clock = max t.clock i.id.clock }) t ≡ t
    go true e =
        let k = reaches_clock t i.id h (eqb-true i.id.site t.number e) in
        let m : max t.clock i.id.clock ≡ t.clock = omega arith in
        ap (λ (n : ℕ). record { number = t.number; clock = n }) m
    go false e = refl

pub heard-all-still : (t : Site) (is : List Insert) → every (reaches t) (map (λ i. i.id) is) ≡ true → heard_all t is ≡ t
heard-all-still t [] h = refl
heard-all-still t (i ∷ is) h =
    ap (λ (u : Site). heard_all u is) (heard-still t i (and_left_lem (reaches t i.id) (every (reaches t) (map (λ i. i.id) is)) h))
    ∙ heard-all-still t is (and_right (reaches t i.id) (every (reaches t) (map (λ i. i.id) is)) h)

-- ---- inserts heard one after another

pub heard-all-number : (t : Site) (is : List Insert) → (heard_all t is).number ≡ t.number
heard-all-number t [] = refl
heard-all-number t (i ∷ is) = heard-all-number (heard t i) is ∙ heard-number t i

pub heard-all_clock : (t : Site) (is : List Insert) → t.clock ≤ (heard_all t is).clock
heard-all_clock t [] = omega arith
heard-all_clock t (i ∷ is) = omega (arith, heard_clock t i, heard-all_clock (heard t i) is)

heard-all-keeps : (t : Site) (is : List Insert) (x : Identifier) → reaches t x ≡ true → reaches (heard_all t is) x ≡ true
heard-all-keeps t [] x h = h
heard-all-keeps t (i ∷ is) x h = heard-all-keeps (heard t i) is x (heard-keeps t i x h)

-- all of them are reached then
pub heard-all_reaches : (t : Site) (is : List Insert) → every (clock_reaches (heard_all t is)) is ≡ true
unfolding clock_reaches own_insert
heard-all_reaches t [] = refl
heard-all_reaches t (i ∷ is) = and_intro (heard-all-keeps (heard t i) is i.id (heard_reaches t i)) (heard-all_reaches (heard t i) is)

-- `clockReaches` of inserts is `reaches` of their identifiers
pub reached-ids : (t : Site) (is : List Insert) → every (clock_reaches t) is ≡ every (reaches t) (map (λ i. i.id) is)
unfolding clock_reaches own_insert
reached-ids t [] = refl
reached-ids t (i ∷ is) = rw (reached-ids t is)
