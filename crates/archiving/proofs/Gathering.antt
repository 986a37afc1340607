-- What was gathered: the arrays hold the state in the order, and in the sequence of its identifiers they are its archive.
use Prim.Native.Nat.{ℕ, ◌≤◌}
use native.Mathlib.Omega.{arith}
use mathlib.Core.Path.{◌≡◌, sym, ap, ◌∙◌, subst}
use mathlib.Core.Bool.{true}
use mathlib.Core.List.{List}
use lib.ListN.{length, take}
use Rattle.lists.specs.Lists.{every}
use Rattle.lists.specs.Padding.{pad}
use Rattle.lists.proofs.Tests.{and_right}
use Rattle.woot.specs.declared.Site.{Site}
use Rattle.woot.specs.declared.Character.{Character}
use Rattle.woot.specs.Form.{all_in_range, well_formed}
use Rattle.woot.specs.Memory.{character_slots, pending_slots, toggle_counts}
use Rattle.woot.specs.Ranges.{character_in_range}
use Rattle.woot.specs.State.{State}
use Rattle.woot.specs.Table.{keys}
use Rattle.bulk.specs.Archiving.{places_of, archived, archive_of, place_in_range, archive_in_range}
use Rattle.convergence.specs.Archiving.{Distinct}
use Rattle.convergence.proofs.Archiving.{archive-in-range}
use Rattle.convergence.proofs.Forms.{formed}
use Rattle.convergence.proofs.Soundness.{standing}
use Rattle.saved.specs.Rows.{characters_held}
use Rattle.saving.specs.Documents.{state_in, archive_in}
use Rattle.saving.proofs.Documents.{archive_held}
use Rattle.arranging.specs.Order.{Leads, characters_led}
use Rattle.arranging.proofs.Back.{led-archived}
use Rattle.archiving.specs.Holding.{StateHeld, led}
use Rattle.archiving.proofs.Holding.{storable, keys-held, characters-whole, toggles-whole, state-held, held-led}
use Rattle.archiving.proofs.Reading.{as_read}

-- what gathering says of the arrays that it fills
pub record Gathered (characters toggles order : List ℕ) (n : ℕ) (moved counts : List ℕ) : Type 0 where
  pub characters-led : (cs : List Character) → length cs ≤ character_slots → characters ≡ characters_held cs → Leads order n (length cs)
      → moved ≡ characters_held (characters_led cs (take n order))
  pub toggles-led : (cs : List Character) → length cs ≤ character_slots → toggles ≡ pad character_slots 0 (toggle_counts cs) → Leads order n (length cs)
      → counts ≡ pad character_slots 0 (toggle_counts (characters_led cs (take n order)))

module _ {s : State} {site : Site} {characters toggles : List ℕ} {n : ℕ} {pending : List ℕ} {w : ℕ} (held : StateHeld s site characters toggles n pending w)
    (few : n ≤ character_slots) {order moved counts : List ℕ} (size : n ≤ length order) (leads : Leads order n n) (g : Gathered characters toggles order n moved
    counts) where
  pub gathered-held : StateHeld (led s (take n order)) site moved counts n pending w
  gathered-held =
      let room : length s.characters ≤ character_slots = omega (arith, few, held.characters-counted) in
      let to = subst (λ (k : ℕ). Leads order n k) held.characters-counted leads in
      held-led held few order size (g.characters-led s.characters room (characters-whole held few) to) (g.toggles-led s.characters room
      (toggles-whole held few) to)

  -- the way forth: the order is that of the places
  module _ (fewer : w ≤ pending_slots) (h : well_formed s ≡ true)
      (sequenced : (cs : List Character) → keys cs ≡ take n characters → every character_in_range cs ≡ true → Distinct cs
      → take n order ≡ places_of (archived cs)) where
    there : take n order ≡ places_of (archived s.characters)
    there = let f = formed s h in sequenced s.characters (keys-held held few) f.sound.ranges (standing f.sound).apart

    led-is : led s (take n order) ≡ as_read (archive_of s)
    unfolding led archive_of
    led-is = λ i. record { site = s.site; characters = (ap (characters_led s.characters) there ∙ led-archived s.characters) i; pending = s.pending }

    ranged : all_in_range (led s (take n order)) ≡ true
    unfolding archive_in_range
    ranged = ap all_in_range led-is ∙ and_right (every place_in_range (archive_of s).rows) _ (archive-in-range s h)

    pub archived_so : archive_in site order moved counts n pending w ≡ archive_of s
    unfolding archive_of
    archived_so =
        let e = state-held gathered-held few fewer (storable (led s (take n order)) ranged) ∙ led-is in
        ap (λ (t : Site). archive_in t order moved counts n pending w) held.site-held
        ∙ archive_held (archive_of s) order moved counts n pending w size (sym there) (ap (λ (t : Site). state_in t moved counts n pending w) (sym
        held.site-held) ∙ e)
