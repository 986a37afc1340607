-- For the proofs of the code alone: the conditions of form on the numbers of the pending operations.
use Rattle.std.specs.Prelude.{ℕ, ◌+◌, Bool, true, false, ◌&&◌, ◌||◌, not, List, leb, eqb, length, take, get_or}
use Rattle.woot.specs.Limits.{last_site, capacity, share}
use Rattle.lists.specs.Lists.{every, keep, throughout}
use Rattle.woot.specs.Form.{countdown}
use Rattle.std.specs.Prelude.{Option, Some, None}
use Rattle.pending.specs.Counts.{senders_of, has_toggle}
use Rattle.pending.specs.Ready.{held_in, ready_in}

-- no site has sent more than its share
abbrev pub sender_within : List ℕ → List ℕ → ℕ → Bool
sender_within own values n = leb (length (keep (λ s. eqb s n) (senders_of own values))) share

unfoldable pub shares_in : List ℕ → List ℕ → Bool
shares_in own values = every (sender_within own values) (countdown last_site)

-- there is room for the characters and the pending inserts
unfoldable pub room_kept : List ℕ → List ℕ → Bool
room_kept ids own = leb (length ids + length (keep (λ k. not (eqb k 0)) own)) capacity

-- the key is 0, as a toggle has it, or not among the others
unfoldable pub unheld_key : List ℕ → ℕ → Bool
unheld_key ks k = eqb k 0 || not (held_in ks k)

-- the key with index i is not among those before it
abbrev pub new_at : List ℕ → ℕ → Bool
new_at ks i = unheld_key (take i ks) (get_or ks i 0)

-- the key with index j is neither among the characters' nor among those before it
unfoldable pub free_at : List ℕ → List ℕ → ℕ → Bool
free_at ids own j = unheld_key ids (get_or own j 0) && new_at own j

abbrev pub keys_new : List ℕ → List ℕ → Bool
keys_new ids own = throughout (free_at ids own) (length own)

-- the operation with index j is no toggle that stands before it too
unfoldable pub fresh_at : List ℕ → List ℕ → List ℕ → ℕ → Bool
fresh_at own first values j =
    not (eqb (get_or own j 0) 0
    && has_toggle (get_or first j 0) (get_or values j 0) (take j own) (take j first) (take j values))

abbrev pub none_repeated : List ℕ → List ℕ → List ℕ → Bool
none_repeated own first values = throughout (fresh_at own first values) (length own)

abbrev pub nothing : Option ℕ → Bool
nothing (Some j) = false
nothing None = true

-- no operation has all that it needs
abbrev pub none_ready : List ℕ → List ℕ → List ℕ → Bool
none_ready ids first second = nothing (ready_in ids first second)

-- the conditions on the pending operations, but for the ranges
unfoldable pub pending_formed : List ℕ → List ℕ → List ℕ → List ℕ → List ℕ → Bool
pending_formed ids own first second values =
    shares_in own values && room_kept ids own && keys_new ids own && none_repeated own first values
    && none_ready ids first second
