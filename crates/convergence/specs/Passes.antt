-- For the proofs of the code alone: building from a heap as the code does it, which is not in the order of the rule.
-- Inserts that are repeated are dropped, the others are placed in passes over those that are left, and then each toggle
-- is carried out.
use Rattle.std.specs.Prelude.{ℕ, zero, suc, ◌+◌, Bool, true, false, ◌||◌, cond, List, [], ◌∷◌, ◌++◌, ◌≡◌, eqb, length}
use Rattle.lists.specs.Lists.{any, every}
use Rattle.woot.specs.declared.Insert.{Insert}
use Rattle.woot.specs.declared.Toggle.{Toggle}
use Rattle.woot.specs.declared.Operation.{Operation}
use Rattle.woot.specs.declared.Operation.TheVariants.{Insert as insert}
use Rattle.woot.specs.declared.Character.{Character}
use Rattle.woot.specs.Identifiers.{same}
use Rattle.woot.specs.Operations.{inserts, toggles_among, same_toggle}
use Rattle.woot.specs.Ranges.{in_range}
use Rattle.woot.specs.Placing.{held, integrate_insert, integrate_toggle}
use Rattle.woot.specs.Pending.{executable, crossed, unplaceable}
use Rattle.bulk.specs.Building.{building, left_out, disagreeing}

-- ---- inserts

-- those that were kept, and of the others each whose identifier is not among them
unfoldable pub kept_once : List Insert → List Insert → List Insert
kept_once kept [] = kept
kept_once kept (i ∷ is) =
    cond (any (λ j. same i.id j.id) kept) (kept_once kept is) (kept_once (kept ++ i ∷ []) is)

-- of the inserts with one identifier the first
abbrev pub firsts : List Insert → List Insert
firsts is = kept_once [] is

-- the characters, and the inserts that still lack a neighbour
pub record Passed : Type 0 where
  pub characters : List Character
  pub left : List Insert

unfoldable pub and_left : Insert → Passed → Passed
and_left i p = record { characters = p.characters; left = i ∷ p.left }

-- each insert in turn is placed where it can be; one that lacks a neighbour is left, and one that crosses or has no
-- place is dropped
unfoldable pub pass : List Character → List Insert → Passed
pass cs [] = record { characters = cs; left = [] }
pass cs (i ∷ is) =
    cond (executable cs (insert i))
    (cond (crossed cs (insert i) || unplaceable cs (insert i)) (pass cs is) (pass (integrate_insert cs i) is))
    (and_left i (pass cs is))

-- passes over those that are left, until one places none: n at most
unfoldable pub passes : ℕ → List Character → List Insert → Passed
passes zero cs is = record { characters = cs; left = is }
passes (suc n) cs is =
    cond (eqb (length (pass cs is).characters) (length cs)) (pass cs is)
    (passes n (pass cs is).characters (pass cs is).left)

-- each but the last places one, so one more than there are inserts are enough
abbrev pub placed : List Insert → List Character
placed is = (passes (suc (length is)) [] is).characters

-- ---- toggles

-- each carried out in turn
abbrev pub toggled_all : List Character → List Toggle → List Character
toggled_all cs [] = cs
toggled_all cs (t ∷ ts) = toggled_all (integrate_toggle cs t) ts

-- how many there are whose target is not held, repeats counted once
unfoldable pub absentees : List Character → List Toggle → ℕ
absentees cs [] = 0
absentees cs (t ∷ ts) =
    cond (held cs t.target || any (same_toggle t) ts) (absentees cs ts) (suc (absentees cs ts))

-- ---- what it comes to

-- the characters are those of the rule
abbrev pub PassesBuild : Type 0
PassesBuild =
    (heap : List Operation) → every in_range heap ≡ true → disagreeing (inserts heap) ≡ false →
    toggled_all (placed (firsts (inserts heap))) (toggles_among heap) ≡ (building heap).characters

-- and left out are the inserts that were not placed, and the toggles whose target is not held
abbrev pub PassesCount : Type 0
PassesCount =
    (heap : List Operation) → every in_range heap ≡ true → disagreeing (inserts heap) ≡ false →
    length (left_out heap) + length (placed (firsts (inserts heap)))
    ≡ length (firsts (inserts heap)) + absentees (placed (firsts (inserts heap))) (toggles_among heap)
