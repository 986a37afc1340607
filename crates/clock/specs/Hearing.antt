-- For the proofs of the code alone: what hearing an insert makes of a site, by the identifier alone.
use Rattle.std.specs.Prelude.{ℕ, max, cond, List, [], ◌∷◌, eqb}
use Rattle.woot.specs.declared.Identifier.{Identifier}
use Rattle.woot.specs.declared.Site.{Site}
use Rattle.woot.specs.Memory.{identifier}

unfoldable pub heard_id : Site → Identifier → Site
heard_id t x =
    cond (eqb x.site t.number) (record { number = t.number; clock = max t.clock x.clock }) t

-- the same of the identifiers with one key after another
abbrev pub heard_keys : Site → List ℕ → Site
heard_keys t [] = t
heard_keys t (k ∷ ks) = heard_keys (heard_id t (identifier k)) ks
