-- Both ends of the shift are attained, the higher one by 512 inserts, each of which waits for the one that it goes
-- above: each in its turn is the earliest with all it needs, and goes to the top, as a chain of any length would.
use Prim.Native.Nat.{ℕ, zero, suc, ◌+◌, ◌≤◌}
use native.Mathlib.Omega.{arith}
use mathlib.Core.Path.{◌≡◌, refl, ap, ap₂, ◌∙◌}
use mathlib.Core.Bool.{true, false}
use mathlib.Core.List.Memᴰ
use mathlib.Core.List.{List, [], ◌∷◌, ◌++◌}
use mathlib.Core.Option.{none, some}
use lib.IntN.{sub_ℕ}
use lib.ListN.{length}
use Rattle.woot.specs.declared.Identifier.{Identifier}
use Rattle.woot.specs.declared.Insert.{Insert}
use Rattle.woot.specs.declared.Operation.TheVariants.{Insert as insert}
use Rattle.woot.specs.declared.Character.{Character}
use Rattle.woot.specs.Identifiers.{begin, end, same}
use Rattle.woot.specs.Operations.{character, is_visible}
use Rattle.woot.specs.Placing.{identifiers, sequence, place_of, held, position, between, insert_at, integrate_insert}
use Rattle.woot.specs.Pending.{executable, crossed, unplaceable, integrate, earliest, Drained, and_integrated, drained, drain}
use Rattle.woot.specs.State.{State}
use Rattle.answers.specs.declared.Answer.TheVariants.{Done as answerDone}
use Rattle.woot.specs.Form.{well_formed}
use Rattle.answers.specs.Answers.{reply, changes, first, decided}
use Rattle.woot.specs.Calls.{visibles, insert_carried, after_drain, carry_out, accept}
use Rattle.woot.specs.Cursor.{visible_through, cursor_after, receive_at_checks, receive_at_when, receive_at, new_gap, shift_of, shift_at}
use Rattle.woot.specs.Situations.{letter, ◌at◌, state_at, Done, pointing, shifted, seen, numbered, upward, crowded, releasing}
use Rattle.woot.proofs.Situations.{lowest-shift}
use Rattle.convergence.specs.Cursors.{ShiftEnds}
use Rattle.convergence.proofs.Identifiers.{same_refl, ne_same}
use Rattle.convergence.proofs.Places.{index-here, index-later, held-begin, held-id, place-above}
use Rattle.convergence.proofs.Placing.{position-adjacent, is-adjacent}
use Rattle.convergence.proofs.Drains.{draining_recurs}
use Rattle.convergence.proofs.Through.{up_to, shown_in, through-character}
use Rattle.convergence.proofs.Crowded.{crowded-formed, releasing-passes}

-- the characters with m more on top, the last of them highest
tower : ℕ → ℕ → Identifier → List Character → List Character
tower zero n x cs = cs
tower (suc m) n x cs = tower m (suc n) (numbered n) (character (letter (numbered n) begin x) ∷ cs)

-- ---- one insert on top

module _ (c : Character) (cs : List Character) (apart : same c.id begin ≡ false) (y : Identifier) where
  abbrev ontop : Insert
  ontop = letter y begin c.id

  place-first : place_of (c ∷ cs) begin ≡ 0
  unfolding place_of sequence
  place-first = index-here begin begin (identifiers (c ∷ cs) ++ end ∷ []) (same_refl begin)

  place-second : place_of (c ∷ cs) c.id ≡ 1
  unfolding place_of sequence
  place-second = index-later c.id begin (identifiers (c ∷ cs) ++ end ∷ []) apart ∙ ap suc (index-here c.id c.id (identifiers cs ++ end ∷ []) (same_refl c.id))

  top-held : held (c ∷ cs) c.id ≡ true
  top-held = held-id (c ∷ cs) (Memᴰ.head refl)

  top_ready : executable (c ∷ cs) (insert ontop) ≡ true
  unfolding executable
  top_ready = rw (held-begin (c ∷ cs), top-held)

  top_straight : crossed (c ∷ cs) (insert ontop) ≡ false
  unfolding crossed
  top_straight = rw (top_ready, place-above (c ∷ cs) begin c.id (omega (arith, place-first, place-second)) top-held)

  top-found : position (c ∷ cs) y (between (c ∷ cs) ontop) ≡ some 0
  unfolding between
  top-found = position-adjacent (c ∷ cs) y (between (c ∷ cs) ontop) (is-adjacent (between (c ∷ cs) ontop) (omega (arith, place-first, place-second))) ∙ ap some place-first

  top_placed : unplaceable (c ∷ cs) (insert ontop) ≡ false
  unfolding unplaceable
  top_placed = rw (top_ready, top-found)

  top_carried : integrate (c ∷ cs) (insert ontop) ≡ character ontop ∷ c ∷ cs
  unfolding integrate integrate_insert insert_at
  top_carried = rw (top-found, integrate_insert)

-- ---- the chain

numbered-begin : (n : ℕ) → same (numbered n) begin ≡ false
numbered-begin n = ne_same (numbered n) begin (λ e. omega (arith, ap (λ (y : Identifier). y.clock) e))

numbered-apart : (n : ℕ) (x : Identifier) → x.clock ≤ 1 → same x (numbered n) ≡ false
numbered-apart n x h = ne_same x (numbered n) (λ e. omega (arith, ap (λ (y : Identifier). y.clock) e))

chain-drained : (m n : ℕ) (c : Character) (cs : List Character) → same c.id begin ≡ false →
    drain (c ∷ cs) (upward m n c.id) ≡ record { characters = tower m n c.id (c ∷ cs); pending = []; integrated = upward m n c.id; discarded = [] }
unfolding tower drained earliest and_integrated character
chain-drained zero n c cs apart = draining_recurs (c ∷ cs) []
chain-drained (suc m) n c cs apart =
    draining_recurs (c ∷ cs) (upward (suc m) n c.id)
    ∙ rw (top_ready c cs apart (numbered n), top_straight c cs apart (numbered n), top_placed c cs apart (numbered n), top_carried c cs apart (numbered n))
    (ap (and_integrated (insert (letter (numbered n) begin c.id))) (chain-drained m (suc n) (character (letter (numbered n) begin c.id)) (c ∷ cs) (numbered-begin n)))

chain_length : (m n : ℕ) (x : Identifier) → length (upward m n x) ≡ m
chain_length zero n x = refl
chain_length (suc m) n x = ap suc (chain_length m (suc n) (numbered n))

-- through a character below the tower all of it is numbered
tower_shown : (m n : ℕ) (x y : Identifier) (cs : List Character) → y.clock ≤ 1 → shown_in (up_to y (tower m n x cs)) ≡ m + shown_in (up_to y cs)
unfolding tower character is_visible
tower_shown zero n x y cs h = omega arith
tower_shown (suc m) n x y cs h =
    tower_shown m (suc n) (numbered n) y (character (letter (numbered n) begin x) ∷ cs) h
    ∙ rw (numbered-apart n y h) (omega arith)

-- ---- the call that releases them

abbrev own : Insert
own = letter (1 at 99) begin (1 at 1)

abbrev lone : Character
lone = character (letter (1 at 1) begin end)

-- one row, and m inserts that wait
abbrev waiting : ℕ → State
waiting m = state_at 99 (letter (1 at 1) begin end ∷ []) (upward m 0 (1 at 99))

lone_apart : same lone.id begin ≡ false
unfolding character same
lone_apart = refl

module _ (m : ℕ) where
  released : insert_carried (waiting m) own ≡ record { characters = tower m 0 (1 at 99) (character own ∷ lone ∷ []); pending = []; integrated = upward m 0 (1 at 99); discarded = [] }
  unfolding insert_carried character integrate same
  released = rw (top_carried lone [] lone_apart (1 at 99)) (chain-drained m 0 (character own) (lone ∷ []) refl)

  carried_reply : reply (carry_out answerDone (waiting m) (insert own)).answer ≡ Done (suc m) 0
  unfolding carry_out reply
  carried_reply =
      ap (λ (d : Drained). Done (suc (length d.integrated)) (length d.discarded)) released
      ∙ ap (λ (n : ℕ). Done (suc n) 0) (chain_length m 0 (1 at 99))

  carried_gap : new_gap (waiting m) (carry_out answerDone (waiting m) (insert own)) 1 ≡ m + 2
  unfolding new_gap cursor_after changes carry_out after_drain character is_visible visibles same
  carried_gap =
      ap (λ (d : Drained). visible_through d.characters (1 at 1)) released
      ∙ through-character (tower m 0 (1 at 99) (character own ∷ lone ∷ [])) (1 at 1) refl
      ∙ tower_shown m 0 (1 at 99) (1 at 1) (character own ∷ lone ∷ []) (omega arith)

  -- where nothing turns it away, it carries out all of them
  released_seen : well_formed (waiting m) ≡ true → first (receive_at_checks true (waiting m) (insert own) 1) ≡ none
      → seen (pointing (waiting m) (insert own) 1) ≡ shifted (Done (suc m) 0) (sub_ℕ (m + 2) 1)
  unfolding seen receive_at receive_at_when shift_at shift_of decided accept character
  released_seen f p = rw (f, p, top_ready lone [] lone_apart (1 at 99)) (ap₂ shifted carried_reply (ap (λ (n : ℕ). sub_ℕ n 1) carried_gap))

pub shift-ends : ShiftEnds
unfolding crowded releasing
shift-ends = (lowest-shift, released_seen 512 crowded-formed releasing-passes)
