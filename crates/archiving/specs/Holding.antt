-- For the proofs of the code alone: a state in lent arrays, and what is answered of it.
use Rattle.std.specs.Prelude.{ℕ, ◌≡◌, true, false, List, [], length, take, Err}
use Rattle.lists.specs.Padding.{pad}
use Rattle.answers.specs.declared.Refusal.TheVariants.{Form}
use Rattle.woot.specs.declared.Site.{Site}
use Rattle.woot.specs.Writing.{Written}
use Rattle.woot.specs.State.{State}
use Rattle.woot.specs.Form.{well_formed}
use Rattle.woot.specs.Memory.{character_slots, pending_slots, toggle_counts}
use Rattle.woot.specs.Writing.{written_as, output_after}
use Rattle.saved.specs.Format.{saved_bytes}
use Rattle.saved.specs.Rows.{characters_held, pending_held}
use Rattle.arranging.specs.Order.{characters_led}

-- the arrays hold a state, as far as they have slots; the counts are of all of it
pub record StateHeld (s : State) (site : Site) (characters toggles : List ℕ) (n : ℕ) (pending : List ℕ) (w : ℕ)
    : Type 0 where
  pub site-held : site ≡ s.site
  pub characters-held : characters ≡ characters_held (take character_slots s.characters)
  pub toggles-held : toggles ≡ pad character_slots 0 (toggle_counts (take character_slots s.characters))
  pub characters-counted : n ≡ length s.characters
  pub pending-held : pending ≡ pending_held (take pending_slots s.pending)
  pub pending-counted : w ≡ length s.pending

-- a state with its characters in an order
unfoldable pub led : State → List ℕ → State
led s order = record { site = s.site; characters = characters_led s.characters order; pending = s.pending }

-- refusal 3 where a state is not in form, with every byte as it was, and else its saved replica or 12
pub record Answered (s : State) (out : List ℕ) (r : Written) (after : List ℕ) : Type 0 where
  pub unformed : well_formed s ≡ false → (r ≡ Err Form) × (after ≡ out)
  pub written : well_formed s ≡ true →
      (r ≡ written_as [] (saved_bytes s) out) × (after ≡ output_after [] (saved_bytes s) out)
