-- Where typing puts the cursor: all rows between the neighbours of what is typed are hidden, so that as many visible
-- characters stand above it as above the gap; and what waits for nothing that came stays where it is.
use Prim.Native.Nat.{ℕ, zero, suc, ◌+◌, ◌≤◌, ◌<◌}
use native.Mathlib.Omega.{arith}
use mathlib.Core.Path.{◌≡◌, refl, ap, sym, ◌∙◌, subst}
use mathlib.Core.Bool.{Bool, true, false, cond}
use mathlib.Core.List.Memᴰ
use mathlib.Core.List.{List, [], ◌∷◌}
use mathlib.Core.Logic.{⊎_elim}
use mathlib.Core.Option.{some}
use lib.ListN.{length, take, get_or}
use borrow.Author.Tests.{ltb-false, not-false}
use Rattle.woot.specs.declared.Identifier.{Identifier}
use Rattle.woot.specs.declared.Insert.{Insert}
use Rattle.woot.specs.declared.Operation.{Operation}
use Rattle.woot.specs.declared.Operation.TheVariants.{Insert as insert, Toggle as toggle}
use Rattle.woot.specs.declared.Character.{Character}
use Rattle.woot.specs.Identifiers.{begin, end, same}
use Rattle.woot.specs.Operations.{character, is_visible}
use Rattle.woot.specs.State.{State}
use Rattle.woot.specs.Placing.{place_of, held, insert_at, integrate_insert}
use Rattle.woot.specs.Pending.{executable, Drained, and_integrated, and_discarded, drained}
use Rattle.answers.specs.declared.Answer.{Answer}
use Rattle.answers.specs.declared.Answer.TheVariants.{Done as answerDone}
use Rattle.woot.specs.Form.{well_formed}
use Rattle.answers.specs.Answers.{reply, changes, NoneHolds}
use Rattle.woot.specs.Sending.{sent_operation}
use Rattle.woot.specs.Calls.{Outcome, after_drain, insert_carried, carry_out, visibles, beyond_visible, generated_insert, insert_checks, local_insert}
use Rattle.woot.specs.Cursor.{left_of, through, visible_through, cursor_after, receive_at, new_gap}
use Rattle.woot.specs.Histories.{inserting, outcome}
use Rattle.woot.specs.Situations.{Done}
use Rattle.lists.specs.Lists.{any, keep}
use Rattle.lists.proofs.Tests.{side, clash, or-false-left, or-false-right}
use Rattle.lists.proofs.Members.{get_member, any_none, none_any, member_keep}
use Rattle.convergence.specs.Agreement.{Standing}
use Rattle.convergence.specs.Cursors.{names, TypingMoves, TypingAlone}
use Rattle.convergence.proofs.Identifiers.{same_sym}
use Rattle.convergence.proofs.Extract.{extract_itself}
use Rattle.convergence.proofs.Places.{shift-before, held-begin, held-apart, held-insert, place-insert_old, place-insert-new}
use Rattle.convergence.proofs.Standing.{Placement, placement, integrate-insert}
use Rattle.convergence.proofs.Soundness.{standing, placed_extract, fresh_unheld, sound_in}
use Rattle.convergence.proofs.InsertionPoint.{right_of, get_early, left-marked, marked-held}
use Rattle.convergence.proofs.Through.{shown_in, shown-visibles, shown-through, shown-more, shown_most, from_member, left-through, taken_next, kept-left}
use Rattle.convergence.proofs.Forms.{formed}
use Rattle.convergence.proofs.Drains.{Draining, stop, discard, carry}
use Rattle.convergence.proofs.Steps.{Addable, after-insert, generated_addable}
use Rattle.convergence.proofs.Replies.{insert-sends}
use Rattle.convergence.proofs.Own.{typed_carried, own-received}

-- ---- the first of a list with one character put in

taken-before : (j k : ℕ) (c : Character) (cs : List Character) → j ≤ k → k ≤ length cs → take j (insert_at k c cs) ≡ take j cs
unfolding insert_at
taken-before zero k c cs h l = refl
taken-before (suc j) zero c cs h l = absurd (omega arith)
taken-before (suc j) (suc k) c [] h l = absurd (omega arith)
taken-before (suc j) (suc k) c (d ∷ cs) h l = ap (λ (ds : List Character). d ∷ ds) (taken-before j k c cs (omega arith) (omega arith))

taken_with : (k : ℕ) (c : Character) (cs : List Character) → k ≤ length cs → is_visible c ≡ true
    → shown_in (take (suc k) (insert_at k c cs)) ≡ suc (shown_in (take k cs))
unfolding insert_at
taken_with zero c cs l v = rw v
taken_with (suc k) c [] l v = absurd (omega arith)
taken_with (suc k) c (d ∷ cs) l v =
    go (is_visible d) (keep is_visible (take (suc k) (insert_at k c cs))) (keep is_visible (take k cs)) (taken_with k c cs (omega arith) v)
  where
    go : (b : Bool) (xs ys : List Character) → length xs ≡ suc (length ys) → length (cond b (d ∷ xs) xs) ≡ suc (length (cond b (d ∷ ys) ys))
    go true xs ys e = ap suc e
    go false xs ys e = e

-- ---- above the new character

-- at any place between the neighbours of a gap as many visible characters stand above as above the gap
between-shown : {cs : List Character} → Standing cs → (g k : ℕ) → g ≤ length (visibles cs) → place_of cs (left_of cs g) ≤ k → k < place_of cs (right_of cs g)
    → shown_in (take k cs) ≡ g
unfolding through
between-shown {cs} s g k few low high =
    let least : g ≤ shown_in (take k cs) = omega (arith, left-through s g few, shown-through cs (left_of cs g), shown-more cs (place_of cs (left_of cs g)) k low) in
    ⊎_elim (λ h. omega (arith, shown_most cs k, shown-visibles cs)) (λ h. omega (arith, most h)) (side (length (visibles cs)) g)
  where
    most : g < length (visibles cs) → suc (shown_in (take k cs)) ≤ suc g
    most h =
        let right : right_of cs g ≡ get_or (visibles cs) g begin = get_early end (visibles cs) g end begin h in
        let over : k < place_of cs (get_or (visibles cs) g begin) = subst (λ (y : Identifier). k < place_of cs y) right high in
        omega (arith, taken_next s k (get_or (visibles cs) g begin) (get_member (visibles cs) g begin h) over, left-through s (suc g) h)

module _ (s : State) (g n : ℕ) (a : Addable s (generated_insert s g n)) (few : g ≤ length (visibles s.characters)) where
  std : Standing s.characters
  std = standing a.formed.sound

  p : Placement s.characters (generated_insert s g n)
  p = placement s.characters (generated_insert s g n) a.ready a.uncrossed a.placeable

  unheld : held s.characters (generated_insert s g n).id ≡ false
  unheld = fresh_unheld s.characters s.pending (generated_insert s g n) a.ranged a.fresh

  above-shown : shown_in (take p.place s.characters) ≡ g
  unfolding generated_insert
  above-shown = between-shown std g p.place few p.under p.over

  typed-through : visible_through (integrate_insert s.characters (generated_insert s g n)) (generated_insert s g n).id ≡ g + 1
  unfolding through character is_visible
  typed-through =
      let i = generated_insert s g n in
      let cs = s.characters in
      rw p.result
      (shown-through (insert_at p.place (character i) cs) i.id
      ∙ ap (λ (k : ℕ). shown_in (take k (insert_at p.place (character i) cs))) (place-insert-new p.place (character i) cs p.within unheld)
      ∙ taken_with p.place (character i) cs p.within refl
      ∙ omega (arith, above-shown))

  -- it is visible, so that it stands on the left of the gap below it
  typed-left : left_of (integrate_insert s.characters (generated_insert s g n)) (g + 1) ≡ (generated_insert s g n).id
  unfolding character is_visible visibles
  typed-left =
      let i = generated_insert s g n in
      let new = extract_itself (placed_extract s.characters i a.ready a.uncrossed a.placeable) in
      let seen = from_member (integrate_insert s.characters i) (Memᴰ.tail (Memᴰ.map (λ c. c.id) (member_keep is_visible new refl))) in
      let after = standing (sound_in i a.formed.sound a.ranged a.fresh a.space a.ready a.uncrossed a.placeable) in
      ap (left_of (integrate_insert s.characters i)) (sym typed-through) ∙ kept-left after i.id seen

  left-still : visible_through (integrate_insert s.characters (generated_insert s g n)) (left_of s.characters g) ≡ g
  unfolding through character generated_insert
  left-still =
      let i = generated_insert s g n in
      let cs = s.characters in
      let x = left_of cs g in
      let old : place_of (insert_at p.place (character i) cs) x ≡ place_of cs x =
      place-insert_old p.place (character i) cs p.within x (held-apart cs x i.id (marked-held (left-marked std g few) (held-begin cs)) unheld)
      ∙ shift-before (suc p.place) (place_of cs x) (omega (arith, p.under)) in
      rw p.result
      (shown-through (insert_at p.place (character i) cs) x
      ∙ ap (λ (k : ℕ). shown_in (take k (insert_at p.place (character i) cs))) old
      ∙ ap shown_in (taken-before (place_of cs x) p.place (character i) cs p.under p.within)
      ∙ sym (shown-through cs x)
      ∙ left-through std g few)

-- ---- what else the call does

-- where draining carries nothing out, the characters are as they were
drained-nothing : {cs : List Character} {ps : List Operation} {d : Drained} → Draining cs ps d → length d.integrated ≡ 0 → d.characters ≡ cs
unfolding drained and_discarded and_integrated
drained-nothing (stop h) e = refl
drained-nothing (discard t f why r) e = drained-nothing r e
drained-nothing (carry {d = d} t f straight placed r) e = absurd (omega arith)

-- where nothing has all it needs, nothing is drained
drained_stops : {cs : List Character} {ps : List Operation} {d : Drained} → Draining cs ps d → any (executable cs) ps ≡ false → d ≡ drained cs ps
drained_stops (stop h) e = refl
drained_stops {cs} (discard t f why r) e = clash f.passed (any_none (executable cs) e (extract_itself f.extracted))
drained_stops {cs} (carry t f straight placed r) e = clash f.passed (any_none (executable cs) e (extract_itself f.extracted))

-- what does not name a character needs it not
unnamed : (k : ℕ) (c : Character) (cs : List Character) (o : Operation) → names c.id o ≡ false → executable (insert_at k c cs) o ≡ executable cs o
unfolding executable
unnamed k c cs (insert j) h =
    let above = same_sym j.previous c.id ∙ or-false-left (same c.id j.previous) (same c.id j.next) h in
    let below = same_sym j.next c.id ∙ or-false-right (same c.id j.previous) (same c.id j.next) h in
    rw (held-insert k c cs j.previous, held-insert k c cs j.next, above, below)
unnamed k c cs (toggle u) h = rw (held-insert k c cs u.target, same_sym u.target c.id ∙ h)

module _ (s : State) (i : Insert) (a : Addable s i) (free : any (names i.id) s.pending ≡ false) where
  still_unready : any (executable (integrate_insert s.characters i)) s.pending ≡ false
  unfolding character
  still_unready =
      let w = integrate-insert s.characters i a.ready a.uncrossed a.placeable in
      none_any (executable (integrate_insert s.characters i)) s.pending (λ o m.
      let unready = any_none (executable s.characters) a.formed.unready m in
      rw w.2 (unnamed w.0 (character i) s.characters o (any_none (names i.id) free m) ∙ unready))

  nothing-drained : insert_carried s i ≡ drained (integrate_insert s.characters i) s.pending
  nothing-drained = drained_stops (after-insert s i) still_unready

-- ---- the calls

-- what typing sent was carried out
module _ (s : State) (g n : ℕ) (i : Insert) (e : sent_operation (local_insert s g n).answer ≡ some (insert i)) where
  sent : NoneHolds (insert_checks (well_formed s) s g n) × (insert (generated_insert s g n) ≡ insert i)
  unfolding local_insert
  sent = (insert-sends (well_formed s) s g n (insert i)).0 e

  made : generated_insert s g n ≡ i
  made = let q = sent.1 in cc

  addable : Addable s (generated_insert s g n)
  unfolding insert_checks
  addable = generated_addable (well_formed s) s g n (formed s (not-false (well_formed s) sent.0.1.0)) sent.0

  few : g ≤ length (visibles s.characters)
  unfolding insert_checks beyond_visible
  few = ltb-false (length (visibles s.characters)) g sent.0.1.1.0

  carried : outcome s (inserting g n) ≡ carry_out answerDone s (insert (generated_insert s g n))
  carried = typed_carried s g n sent.0

  -- with nothing drained the characters are those with the new one in its place
  alone : (reply (outcome s (inserting g n)).answer).integrated ≡ 1
      → (insert_carried s (generated_insert s g n)).characters ≡ integrate_insert s.characters (generated_insert s g n)
  unfolding carry_out reply
  alone one =
      let count = ap (λ (r : Outcome Answer). (reply r.answer).integrated) carried in
      drained-nothing (after-insert s (generated_insert s g n)) (omega (arith, count))

pub typing_moves : TypingMoves
unfolding carry_out after_drain new_gap cursor_after changes outcome insert_checks
typing_moves s g n i e one =
    let c = carried s g n i e in
    let cs = alone s g n i e one in
    let same-call : receive_at s (insert i) g ≡ outcome s (inserting g n) = (own-received.0 s g n (insert i) e).1 g (sent s g n i e).0.1.1.0 in (
      ap (λ (r : Outcome Answer). visible_through r.state.characters i.id) c
          ∙ ap (λ (j : Insert). visible_through (insert_carried s (generated_insert s g n)).characters j.id) (sym (made s g n i e))
          ∙ ap (λ (ds : List Character). visible_through ds (generated_insert s g n).id) cs
          ∙ typed-through s g n (addable s g n i e) (few s g n i e),
      ap (λ (r : Outcome Answer). left_of r.state.characters (g + 1)) c
          ∙ ap (λ (ds : List Character). left_of ds (g + 1)) cs
          ∙ typed-left s g n (addable s g n i e) (few s g n i e)
          ∙ ap (λ (j : Insert). j.id) (made s g n i e),
      ap (λ (r : Outcome Answer). new_gap s r g) (same-call ∙ c)
          ∙ ap (λ (ds : List Character). visible_through ds (left_of s.characters g)) cs
          ∙ left-still s g n (addable s g n i e) (few s g n i e),
    )

pub typing_alone : TypingAlone
unfolding carry_out reply drained
typing_alone s g n i e free =
    let named : any (names (generated_insert s g n).id) s.pending ≡ false = rw (made s g n i e) free in
    let still = nothing-drained s (generated_insert s g n) (addable s g n i e) named in
    ap (λ (r : Outcome Answer). reply r.answer) (carried s g n i e)
    ∙ ap (λ (d : Drained). Done (suc (length d.integrated)) (length d.discarded)) still
