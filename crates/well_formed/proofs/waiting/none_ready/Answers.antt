-- `waiting::none_ready` asks whether the search for one that is ready found nothing.
use mathlib.Core.Path.{ap, sym, ◌∙◌}
use Rattle.well_formed.specs.PendingForm.{nothing}
use Rattle.well_formed.proofs.waiting.none_ready.Goals as goal

pub ready-requires : goal.ready-requires
ready-requires c = c.requires.tabled

pub returns-in-Some : goal.returns-in-Some
returns-in-Some c = sym (ap nothing (sym c.ready.ensures ∙ c.in-Some.is))

pub returns-in-None : goal.returns-in-None
returns-in-None c = sym (ap nothing (sym c.ready.ensures ∙ c.in-None.is))
