-- Document 02, Req 04: a site's clock follows the inserts that have its number, its own from before it was set up anew
-- among them.
use Rattle.std.specs.Prelude.{Bool, cond, List, [], ◌∷◌, max, eqb}
use Rattle.woot.specs.declared.Site.{Site}
use Rattle.woot.specs.declared.Insert.{Insert}

-- "an insert of the laptop's own number"
unfoldable pub own_insert : Site → Insert → Bool
own_insert t i = eqb i.id.site t.number

-- "the clock now becomes the larger of itself and that identifier's clock"
unfoldable pub heard : Site → Insert → Site
heard t i = cond (own_insert t i) (record { number = t.number; clock = max t.clock i.id.clock }) t

-- the same of one insert after another
abbrev pub heard_all : Site → List Insert → Site
heard_all t [] = t
heard_all t (i ∷ is) = heard_all (heard t i) is
