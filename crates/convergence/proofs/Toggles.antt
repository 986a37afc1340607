-- What erasing and restoring make is in range: a visible character has an even count of toggles, which is below the last,
-- and restoring is turned away at the last.
use Prim.Native.Nat.{ℕ, zero, suc, ◌+◌, ◌%◌, ◌≤◌, ◌<◌}
use native.Mathlib.Omega.{arith}
use mathlib.Core.Path.{◌≡◌, refl, ap, sym, ◌∙◌, subst}
use mathlib.Core.Bool.{Bool, true, false, ◌&&◌, ◌||◌, not, cond}
use mathlib.Core.List.Memᴰ
use mathlib.Core.List.{List, [], ◌∷◌, map, Memᴰ}
use lib.Dec.{eqb, ltb}
use lib.ListN.{length, get_or}
use borrow.Author.Tests.{eqb-true, eqb-false, ltb-false, not-true, not-false}
use Rattle.woot.specs.declared.Identifier.{Identifier}
use Rattle.woot.specs.declared.Character.{Character}
use Rattle.woot.specs.Limits.{last_clock, last_toggles}
use Rattle.woot.specs.Identifiers.{begin, same}
use Rattle.woot.specs.Operations.{is_visible}
use Rattle.woot.specs.Ranges.{within, site_number, site_in_range, character_id, toggle_in_range}
use Rattle.woot.specs.State.{State}
use Rattle.woot.specs.Placing.{identifiers, held}
use Rattle.woot.specs.Calls.{visibles, beyond_visible, toggles_of, generated_toggle, not_visible, generated_delete, not_hidden, exhausted}
use Rattle.lists.specs.Lists.{any, keep, distinct}
use Rattle.lists.proofs.Tests.{and_left_lem, and_right, or-false-left, or-false-right, clash}
use Rattle.lists.proofs.Members.{get_member, any_member, any_none, keep_member}
use Rattle.convergence.specs.Agreement.{Standing}
use Rattle.convergence.proofs.Identifiers.{same_refl, same-eq, same_sym}
use Rattle.convergence.proofs.Ranges.{toggles_ranged, to_toggle_range}
use Rattle.convergence.proofs.Forms.{Formed}
use Rattle.convergence.proofs.InsertionPoint.{member_range}
use Rattle.convergence.proofs.Soundness.{standing}
use Rattle.convergence.proofs.Places.{held-id}

-- the toggles under an identifier are those of the character that has it
pub toggles-found : (cs : List Character) → distinct same (identifiers cs) ≡ true → {c : Character} → Memᴰ c cs → toggles_of cs c.id ≡ c.toggles
unfolding toggles_of
toggles-found (d ∷ cs) apart {c} (Memᴰ.head e) = subst (λ (b : Character). toggles_of (d ∷ cs) b.id ≡ b.toggles) (sym e) (rw (same_refl d.id))
toggles-found [] apart {c = c} x'' = elim x'' [ ]
toggles-found (d ∷ cs) apart {c} (Memᴰ.tail m) =
    let other : same c.id d.id ≡ false = same_sym c.id d.id ∙ any_none (same d.id) (not-true (any (same d.id) (identifiers cs)) (and_left_lem (not (any (same d.id) (identifiers cs))) (distinct same (identifiers cs)) apart)) (Memᴰ.map (λ b. b.id) m) in
    let rest = toggles-found cs (and_right (not (any (same d.id) (identifiers cs))) (distinct same (identifiers cs)) apart) m in
    rw other rest

-- what is visible can be toggled once more
pub visible_below : (c : Character) → is_visible c ≡ true → c.toggles ≤ last_toggles → c.toggles + 1 ≤ last_toggles
unfolding is_visible
visible_below c v h = omega (arith, eqb-true (c.toggles % 2) 0 v)

module _ (s : State) (f : Formed s) where
  pub std : Standing s.characters
  std = standing f.sound

  -- the next toggle of a character of which there is one more
  pub raised_ranged : {c : Character} → Memᴰ c s.characters → c.toggles + 1 ≤ last_toggles → toggle_in_range (generated_toggle s c.id) ≡ true
  unfolding generated_toggle site_in_range
  raised_ranged {c} m h =
      to_toggle_range (generated_toggle s c.id)
      (record {
        sender = and_left_lem (site_number s.site.number) (within 0 last_clock s.site.clock) f.site;
        target = member_range s.characters std.ranges (Memᴰ.map (λ b. b.id) m);
        least = omega arith;
        most = omega (arith, toggles-found s.characters std.apart m);
      })

  -- the visible character counted p
  pub visible_at : (p : ℕ) → not_visible s p ≡ false → (c : Character) × Memᴰ c s.characters × (is_visible c ≡ true) × (get_or (begin ∷ visibles s.characters) p begin ≡ c.id)
  unfolding not_visible beyond_visible visibles
  visible_at zero h = clash refl (or-false-left (eqb 0 0) (ltb (length (visibles s.characters)) 0) h)
  visible_at (suc k) h =
      let few : suc k ≤ length (visibles s.characters) = ltb-false (length (visibles s.characters)) (suc k) (or-false-right (eqb (suc k) 0) (ltb (length (visibles s.characters)) (suc k)) h) in
      let w = Memᴰ.of_map (λ c. c.id) (keep is_visible s.characters) (get_member (visibles s.characters) k begin (omega arith)) in
      let kept = keep_member is_visible s.characters w.1 in
      (w.0, kept.0, kept.1, sym w.2)

  pub delete_ranged : (p : ℕ) → not_visible s p ≡ false → toggle_in_range (generated_delete s p) ≡ true
  unfolding generated_delete
  delete_ranged p h =
      let w = visible_at p h in
      subst (λ (x : Identifier). toggle_in_range (generated_toggle s x) ≡ true) (sym w.3)
      (raised_ranged w.1 (visible_below w.0 w.2 (toggles_ranged w.0 (std.ranges w.0 w.1))))

  pub delete_ready : (p : ℕ) → not_visible s p ≡ false → held s.characters (generated_delete s p).target ≡ true
  unfolding generated_delete generated_toggle
  delete_ready p h = let w = visible_at p h in subst (λ (x : Identifier). held s.characters x ≡ true) (sym w.3) (held-id s.characters w.1)

  -- the hidden character that is restored
  pub hidden_at : (x : Identifier) → not_hidden s x ≡ false → (c : Character) × Memᴰ c s.characters × (is_visible c ≡ false) × (x ≡ c.id)
  unfolding not_hidden
  hidden_at x h =
      let w = any_member (λ c. same x c.id && not (is_visible c)) s.characters (not-false (any (λ c. same x c.id && not (is_visible c)) s.characters) h) in
      (w.0, w.1, not-true (is_visible w.0) (and_right (same x w.0.id) (not (is_visible w.0)) w.2), same-eq x w.0.id (and_left_lem (same x w.0.id) (not (is_visible w.0)) w.2))

  pub restore_ranged : (x : Identifier) → not_hidden s x ≡ false → exhausted s x ≡ false → toggle_in_range (generated_toggle s x) ≡ true
  unfolding exhausted
  restore_ranged x h l =
      let w = hidden_at x h in
      let few : w.0.toggles ≤ last_toggles = toggles_ranged w.0 (std.ranges w.0 w.1) in
      let found : toggles_of s.characters x ≡ w.0.toggles = ap (toggles_of s.characters) w.3 ∙ toggles-found s.characters std.apart w.1 in
      subst (λ (y : Identifier). toggle_in_range (generated_toggle s y) ≡ true) (sym w.3)
      (raised_ranged w.1 (omega (arith, few, found, eqb-false (toggles_of s.characters x) last_toggles l)))

  pub restore_ready : (x : Identifier) → not_hidden s x ≡ false → held s.characters (generated_toggle s x).target ≡ true
  unfolding generated_toggle
  restore_ready x h = let w = hidden_at x h in subst (λ (y : Identifier). held s.characters y ≡ true) (sym w.3) (held-id s.characters w.1)
