-- For the proofs of the code alone: what lists and inserts are like between the steps of a call.
use Rattle.std.specs.Prelude.{◌+◌, ◌≤◌, ◌≡◌, true, false, List, ◌++◌, map, leb, length}
use Rattle.woot.specs.declared.Identifier.{Identifier}
use Rattle.woot.specs.declared.Operation.{Operation}
use Rattle.woot.specs.declared.Character.{Character}
use Rattle.woot.specs.Limits.{last_site, capacity, share}
use Rattle.woot.specs.Identifiers.{same}
use Rattle.woot.specs.Operations.{inserts, toggles_among, same_toggle}
use Rattle.woot.specs.Ranges.{character_in_range, in_range, insert_in_range}
use Rattle.woot.specs.State.{State}
use Rattle.woot.specs.Placing.{identifiers}
use Rattle.woot.specs.Pending.{executable, pending_from, crossed}
use Rattle.woot.specs.Form.{countdown, ordered}
use Rattle.lists.specs.Lists.{any, every, distinct}
use Rattle.woot.specs.declared.Insert.{Insert}
use Rattle.woot.specs.declared.Operation.TheVariants.{Insert as insert}

-- the identifiers of pending inserts
abbrev pub pending_ids : List Operation → List Identifier
pending_ids ps = map (λ i. i.id) (inserts ps)

-- the form of the lists, but for `noneExecutable`, which does not hold while pending operations are drained, and for
-- the clock, which is not theirs
pub record Sound (cs : List Character) (ps : List Operation) : Type 0 where
  pub ranges : every character_in_range cs ≡ true
  pub ordered-all : every (ordered cs) cs ≡ true
  pub pending-ranges : every in_range ps ≡ true
  pub shares : every (λ n. leb (pending_from n ps) share) (countdown last_site) ≡ true
  pub room : length cs + length (inserts ps) ≤ capacity
  pub apart : distinct same (identifiers cs ++ pending_ids ps) ≡ true
  pub toggles-apart : distinct same_toggle (toggles_among ps) ≡ true

-- what typing makes, before it is known whether there is a place and room for it
pub record Made (s : State) (i : Insert) : Type 0 where
  pub ranged : insert_in_range i ≡ true
  pub fresh : any (same i.id) (identifiers s.characters ++ pending_ids s.pending) ≡ false
  pub ready : executable s.characters (insert i) ≡ true
  pub uncrossed : crossed s.characters (insert i) ≡ false
