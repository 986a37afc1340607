-- `building::build_gathered` hears of every insert, keeps each identifier once, and assembles what is kept.
use mathlib.Core.Path.{sym, ◌∙◌}
use Rattle.building.proofs.Assembling.{gathers_ranged, gathers-site, gathers-refused, gathers-built}
use Rattle.building.proofs.Assembling.{kept_assembles}
use Rattle.building.proofs.build_gathered.Goals as goal

pub returns-in-None : goal.returns-in-None
returns-in-None c g =
    let two = c.in-None.ensures.kept_once _ g.held g.many (gathers_ranged g) in
    c.refused.ensures ∙ sym (gathers-refused g _ two)

pub assemble-requires : goal.assemble-requires
assemble-requires c =
    let g = c.requires in
    kept_assembles g (c.in-Some.ensures.kept_once _ g.held g.many (gathers_ranged g))

pub returns-in-Some : goal.returns-in-Some
returns-in-Some c g =
    let k = c.in-Some.ensures.kept_once _ g.held g.many (gathers_ranged g) in
    c.assemble.ensures (kept_assembles g k)
    ∙ gathers-built g c.args.number _ (gathers-site g c.args.number _ c.heard_keys-site.ensures) k.agree
