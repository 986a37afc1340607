-- Inserts are heard one after another: those of a list with one more at its end are the list's, and then that one.
use mathlib.Core.Path.{◌≡◌, refl}
use mathlib.Core.List.{List, [], ◌∷◌, ◌++◌}
use Rattle.woot.specs.declared.Site.{Site}
use Rattle.woot.specs.declared.Insert.{Insert}
use Rattle.woot.specs.Clock.{own_insert, heard, heard_all}
use Rattle.clock.specs.Hearing.{heard_id}

pub heard-id : (t : Site) (i : Insert) → heard t i ≡ heard_id t i.id
unfolding heard own_insert heard_id
heard-id t i = refl

pub heard-append : (t : Site) (is js : List Insert) → heard_all t (is ++ js) ≡ heard_all (heard_all t is) js
heard-append t [] js = refl
heard-append t (i ∷ is) js = heard-append (heard t i) is js
