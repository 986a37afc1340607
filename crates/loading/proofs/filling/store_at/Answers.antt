-- `loading::filling::store_at` meets its contract: where there is a slot, the item goes into it.
use Rattle.loading.proofs.Storing.{left_as_it_was, put-into-slot}
use Rattle.loading.proofs.filling.store_at.Goals as goal

pub returns-then-i-slots : goal.returns-then-i-slots
returns-then-i-slots g c = put-into-slot _ _ _ _ c.if-i-slots.true

pub returns-else-i-slots : goal.returns-else-i-slots
returns-else-i-slots g c = left_as_it_was _ _ _ _ c.if-i-slots.false
