-- Identifiers: the two marks, equality, and the order by site first and then by clock.
use Rattle.std.specs.Prelude.{Bool, ◌&&◌, ◌||◌, eqb, ltb}
use Rattle.woot.specs.declared.Identifier.{Identifier}

-- the begin mark, 0/0
abbrev pub begin : Identifier
begin = record { site = 0; clock = 0 }

-- the end mark, 0/1
abbrev pub end : Identifier
end = record { site = 0; clock = 1 }

unfoldable pub same : Identifier → Identifier → Bool
same x y = eqb x.site y.site && eqb x.clock y.clock

-- "ordered by laptop number first, then clock"
unfoldable pub below : Identifier → Identifier → Bool
below x y = ltb x.site y.site || (eqb x.site y.site && ltb x.clock y.clock)
