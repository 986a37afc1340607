-- Document 02, Req 13, "Two copies in the middle of a round": what a reader of two sheets sees on both.
use Rattle.std.specs.Prelude.{Bool, ◌&&◌, List, map}
use Rattle.lists.specs.Lists.{any, keep}
use Rattle.woot.specs.declared.Insert.{Insert}
use Rattle.woot.specs.declared.Character.{Character}
use Rattle.woot.specs.Operations.{origin, is_visible, same_insert}

-- the same insert is held there, and visible
unfoldable pub visible_among : List Character → Character → Bool
visible_among ds c = any (λ d. is_visible d && same_insert (origin c) (origin d)) ds

-- the inserts of the characters that are visible on both, as they stand on the first, from the top
unfoldable pub common_visible : List Character → List Character → List Insert
common_visible cs ds = map origin (keep (λ c. is_visible c && visible_among ds c) cs)
