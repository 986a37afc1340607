-- Req 13: a copy says what calls of the rules leave, and of these it was shown.
use mathlib.Core.Path.{ap, sym, subst}
use mathlib.Core.List.{List}
use Rattle.woot.specs.State.{State}
use Rattle.convergence.proofs.Grown.{grown-throughout}
use Rattle.convergence.specs.Agreement.{Grown}
use Rattle.convergence.proofs.Agreement.{agreement}
use Rattle.convergence.proofs.Common.{common_same}
use Rattle.consistency.specs.Copies.{Call, Start, begun, ran, rules_by, beginning_of, characters_of}
use Rattle.consistency.specs.Common.{CopiesAgree, ReadersAgree}
use Rattle.consistency.proofs.Claims.{copies_follow}

-- the characters of a copy have grown by inserts
copy-grown : (a : Start) (cs : List Call) → Grown (characters_of (ran (begun a) cs))
unfolding characters_of
copy-grown a cs =
    subst Grown (sym (ap (λ (s : State). s.characters) (copies_follow a cs).says))
    (grown-throughout (beginning_of a) (rules_by (begun a) cs))

pub copies_agree : CopiesAgree
copies_agree a b cs ds one x y i j =
    agreement (characters_of (ran (begun a) cs)) (characters_of (ran (begun b) ds)) (copy-grown a cs) (copy-grown b ds) one x y
    i.on-first j.on-first i.on-second j.on-second

pub readers-agree : ReadersAgree
readers-agree a b cs ds one =
    common_same (characters_of (ran (begun a) cs)) (characters_of (ran (begun b) ds)) (copy-grown a cs) (copy-grown b ds) one
