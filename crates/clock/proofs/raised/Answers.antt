-- `clock::raised` hears of the characters, and then of what is pending.
use Rattle.clock.proofs.raised.Goals as goal

pub returns : goal.returns
returns c = rw (c.heard_keys.ensures, c.heard_keys-middle.ensures)
