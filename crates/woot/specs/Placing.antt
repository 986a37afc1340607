-- Where identifiers stand, and the integration of an insert (001, IntegrateIns; document 01, "Placing").
use Rattle.std.specs.Prelude.{ℕ, zero, suc, Bool, true, ◌&&◌, cond, List, [], ◌∷◌, ◌++◌, map, leb, ltb, length}
use Rattle.std.proofs.Math.Option.{Option, none, some}
use Rattle.woot.specs.declared.Identifier.{Identifier}
use Rattle.woot.specs.declared.Insert.{Insert}
use Rattle.woot.specs.declared.Toggle.{Toggle}
use Rattle.woot.specs.declared.Character.{Character}
use Rattle.woot.specs.Identifiers.{begin, end, same, below}
use Rattle.woot.specs.Operations.{character, toggled_by}
use Rattle.lists.specs.Lists.{keep}

abbrev pub identifiers : List Character → List Identifier
identifiers cs = map (λ c. c.id) cs

-- "the begin mark stands above all rows, the end mark below": the character counted k from 1 is at k
unfoldable pub sequence : List Character → List Identifier
sequence cs = begin ∷ (identifiers cs ++ end ∷ [])

-- the first index of x, or the length where it does not occur
unfoldable pub index_of : Identifier → List Identifier → ℕ
index_of x [] = 0
index_of x (y ∷ ys) = cond (same x y) 0 (suc (index_of x ys))

-- where x stands: 0 for the begin mark, one past the last character for the end mark, further where it is not held
unfoldable pub place_of : List Character → Identifier → ℕ
place_of cs x = index_of x (sequence cs)

-- x is held; "marks always are"
unfoldable pub held : List Character → Identifier → Bool
held cs x = leb (place_of cs x) (suc (length cs))

-- x stands above y, both held
unfoldable pub above : List Character → Identifier → Identifier → Bool
above cs x y = ltb (place_of cs x) (place_of cs y) && held cs y

-- the places strictly between which a character is to be put
pub record Interval : Type 0 where
  pub upper : ℕ
  pub lower : ℕ

-- a character with its place
pub record Located : Type 0 where
  pub place : ℕ
  pub at : Character

-- the characters with their places, the first of which is k
abbrev pub located : ℕ → List Character → List Located
located k [] = []
located k (c ∷ cs) = record { place = k; at = c } ∷ located (suc k) cs

-- "no row, shown or hidden, stands strictly between"
unfoldable pub adjacent : Interval → Bool
adjacent v = leb v.lower (suc v.upper)

-- "strictly between whose previous is a or stands above a, and whose next is b or stands below b"
unfoldable pub candidate : List Character → Interval → Located → Bool
candidate cs v l =
    ltb v.upper l.place && ltb l.place v.lower && leb (place_of cs l.at.previous) v.upper
    && leb v.lower (place_of cs l.at.next)

unfoldable pub candidates : List Character → Interval → List Located
candidates cs v = keep (candidate cs v) (located 1 cs)

-- x "passes each candidate, from the top, whose identifier is below c's, and stops at the first that is not"; the next
-- interval is between the last one passed and the one it stopped at
unfoldable pub narrowed : Identifier → Interval → List Located → Interval
narrowed x v [] = v
narrowed x v (l ∷ ls) =
    cond (below l.at.id x) (narrowed x (record { upper = l.place; lower = v.lower }) ls)
    (record { upper = v.upper; lower = l.place })

-- the place just above which x goes in, after at most n narrower steps; none where a step has characters between and
-- no candidate (refusal 9)
unfoldable pub search : ℕ → List Character → Identifier → Interval → Option ℕ
search zero cs x v = some v.upper
search (suc n) cs x v =
    cond (adjacent v) (some v.upper)
    (elim (candidates cs v) [ [] ↦ none | l ∷ ls ↦ search n cs x (narrowed x v (l ∷ ls)) ])

-- each step narrows the interval, so as many steps as its lower place are enough
unfoldable pub position : List Character → Identifier → Interval → Option ℕ
position cs x v = search v.lower cs x v

-- the interval between an insert's neighbours
unfoldable pub between : List Character → Insert → Interval
between cs i = record { upper = place_of cs i.previous; lower = place_of cs i.next }

-- c after the first k of the characters
unfoldable pub insert_at : ℕ → Character → List Character → List Character
insert_at zero c cs = c ∷ cs
insert_at (suc k) c [] = c ∷ []
insert_at (suc k) c (d ∷ cs) = d ∷ insert_at k c cs

-- the characters with the insert in its place; as they were where it has none
unfoldable pub integrate_insert : List Character → Insert → List Character
integrate_insert cs i =
    elim (position cs i.id (between cs i)) [ none ↦ cs | some k ↦ insert_at k (character i) cs ]

-- the characters with the target of a toggle deleted or restored (001, IntegrateDel; document 02, Req 05)
unfoldable pub integrate_toggle : List Character → Toggle → List Character
integrate_toggle cs t = map (toggled_by t) cs
