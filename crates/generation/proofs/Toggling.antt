-- What deleting and restoring here make is what the rules say: the character that is counted, or that has the identifier.
use Prim.Native.Nat.{ℕ, zero, suc, ◌+◌, ◌-◌, ◌%◌, ◌≤◌, ◌<◌}
use native.Mathlib.Omega.{arith}
use mathlib.Core.Path.{◌≡◌, sym, ap, subst, ◌∙◌}
use mathlib.Core.Bool.{true, false, not}
use mathlib.Core.List.Memᴰ
use mathlib.Core.List.{List, [], ◌∷◌, Memᴰ}
use borrow.Author.Tests.{eq-eqb, ne_eqb, lt-ltb, le-ltb, not-true}
use lib.ListN.{length, take, get_or}
use Rattle.lists.specs.Lists.{any, keep, distinct}
use Rattle.lists.proofs.Tests.{and_left_lem, and_right}
use Rattle.lists.proofs.Members.{any_none, get_member, keep_member}
use Rattle.woot.specs.declared.Identifier.{Identifier}
use Rattle.woot.specs.declared.Toggle.{Toggle}
use Rattle.woot.specs.declared.Character.{Character}
use Rattle.woot.specs.declared.Operation.TheVariants.{Toggle as toggle}
use Rattle.answers.specs.declared.Refusal.TheVariants.{Position, NotHidden, LastToggle}
use Rattle.memory.specs.Columns.{Replica}
use Rattle.woot.specs.Limits.{last_toggles}
use Rattle.woot.specs.Identifiers.{begin, same}
use Rattle.woot.specs.Operations.{is_visible}
use Rattle.woot.specs.Ranges.{character_id}
use Rattle.woot.specs.State.{blank_character}
use Rattle.woot.specs.Placing.{identifiers}
use Rattle.answers.specs.Answers.{decided}
use Rattle.woot.specs.Calls.{visibles, beyond_visible, toggles_of, generated_toggle, send_toggle, not_visible, delete_checks, generated_delete, local_delete_when}
use Rattle.woot.specs.Calls.{not_hidden, exhausted, restore_checks, local_restore_when}
use Rattle.woot.specs.Memory.{identifier, character_of, character_at, toggle_counts}
use Rattle.memory.specs.Columns.{meaning}
use Rattle.convergence.proofs.Identifiers.{same_refl, same_sym}
use Rattle.convergence.proofs.InsertionPoint.{member_range}
use Rattle.convergence.proofs.Ranges.{toggles_ranged}
use Rattle.convergence.proofs.Soundness.{standing}
use Rattle.convergence.proofs.Steps.{any-map}
use Rattle.convergence.proofs.Named.{none_named, one-named}
use Rattle.convergence.proofs.Toggles.{toggles-found, visible_below}
use Rattle.std.proofs.Common.{Option, Some, None, Ok, Err}
use Rattle.index.specs.Keys.{first_index}
use Rattle.memory.proofs.Bits.{key_bits}
use Rattle.well_formed.specs.Examined.{Examined}
use Rattle.well_formed.proofs.Examining.{form, characters-counted, toggles_used, character-read}
use Rattle.visible.specs.Shown.{nth_index}
use Rattle.visible.proofs.Visibility.{visibles-length, visible_identifier, get_d_past}
use Rattle.visible.proofs.Shown.{NthAt, nth-says}
use Rattle.reception.specs.declared.Decision.TheVariants.{Toggle as toggleAt}
use Rattle.reception.specs.Decisions.{Executed}
use Rattle.holder.proofs.Holders.{CharacterAt}
use Rattle.holder.proofs.Having.{characters-apart, in_slot, character_member, character-named}
use Rattle.generation.specs.Decisions.{MadeFor, DeleteMade, RestoreMade}

-- where no identifier stands twice, the first that has that of the character with an index is this character
first-apart : (cs : List Character) → distinct same (identifiers cs) ≡ true → (k : ℕ) (d : Character) → k < length cs
    → first_index (λ c. same (get_or cs k d).id c.id) cs ≡ Some k
unfolding first_index
first-apart [] apart k d h = absurd (omega arith)
first-apart (c ∷ cs) apart zero d h = rw (same_refl c.id)
first-apart (c ∷ cs) apart (suc k) d h =
    let unlike = not-true (any (same c.id) (identifiers cs)) (and_left_lem (not (any (same c.id) (identifiers cs))) (distinct same (identifiers cs)) apart) in
    let rest = first-apart cs (and_right (not (any (same c.id) (identifiers cs))) (distinct same (identifiers cs)) apart) k d (omega arith) in
    let m = Memᴰ.map (λ (b : Character). b.id) (get_member cs k d (omega arith)) in
    let other : same (get_or cs k d).id c.id ≡ false = same_sym (get_or cs k d).id c.id ∙ any_none (same c.id) unlike m in
    rw (other, rest) (ap Some (omega arith))

-- the toggle that a site makes of a character
module _ (r : Replica) (x : Examined r) {c : Character} (m : Memᴰ c (meaning r).characters) where
  next_toggle : generated_toggle (meaning r) c.id ≡ record { sender = r.site.number; target = c.id; toggles = c.toggles + 1 }
  unfolding generated_toggle meaning
  next_toggle = rw (toggles-found (meaning r).characters (characters-apart r x) m)

  count_most : c.toggles ≤ last_toggles
  count_most = toggles_ranged c ((standing (form r x).sound).ranges c m)

-- ---- deleting

module _ (r : Replica) (x : Examined r) (p : ℕ) where
  nowhere : not_visible (meaning r) p ≡ true → DeleteMade r p (Err Position)
  unfolding MadeFor local_delete_when delete_checks decided
  nowhere e = rw (x.form, e)

  pub delete_zero : p ≡ 0 → DeleteMade r p (Err Position)
  unfolding not_visible
  delete_zero e = nowhere (rw (eq-eqb p 0 e))

  -- what counting down finds
  module _
      (later : p ≡ 0 → ⊥)
      {f : Option ℕ}
      (e : (cs : List Character) → toggle_counts cs ≡ take r.document.length r.document.toggles → f ≡ nth_index is_visible cs (p - 1))
    where
      found : f ≡ nth_index is_visible (meaning r).characters (p - 1)
      found = e (meaning r).characters (sym (toggles_used r x))

      pub delete_beyond : f ≡ None → DeleteMade r p (Err Position)
      unfolding not_visible beyond_visible
      delete_beyond h =
          let few = nth-says is_visible (meaning r).characters (p - 1) (sym found ∙ h) in
          let past = lt-ltb (length (visibles (meaning r).characters)) p (omega (arith, few, later, visibles-length (meaning r).characters)) in
          nowhere (rw (ne_eqb p 0 later, past))

      module _ (k : ℕ) (h : f ≡ Some k) where
        nth : NthAt is_visible (meaning r).characters (p - 1) k
        nth = nth-says is_visible (meaning r).characters (p - 1) (sym found ∙ h)

        pub delete_within : k < r.document.length
        delete_within = omega (arith, nth.within, characters-counted r x)

        -- the character in the slot is the visible one that is counted
        abbrev slot : Character
        slot = character_at r.document.ids r.document.previous r.document.next r.document.code_points r.document.toggles k

        slot_read : get_or (meaning r).characters k blank_character ≡ slot
        slot_read = character-read r x k blank_character delete_within

        slot_member : Memᴰ slot (meaning r).characters
        slot_member =
            subst (λ (c : Character). Memᴰ c (meaning r).characters) slot_read (get_member (meaning r).characters k blank_character nth.within)

        slot_visible : is_visible slot ≡ true
        slot_visible =
            let m = get_member (keep is_visible (meaning r).characters) (p - 1) blank_character nth.counted in
            let kept = keep_member is_visible (meaning r).characters m in
            subst (λ (c : Character). is_visible c ≡ true) (sym (nth.at blank_character) ∙ slot_read) kept.1

        slot-named : get_or (begin ∷ visibles (meaning r).characters) p begin ≡ slot.id
        unfolding blank_character
        slot-named =
            sym (get_d_past begin (visibles (meaning r).characters) p begin later)
            ∙ visible_identifier (meaning r).characters (p - 1) blank_character
            ∙ ap (λ (c : Character). c.id) (sym (nth.at blank_character) ∙ slot_read)

        pub delete_bits : get_or r.document.ids k 0 < 16777216
        unfolding character_of
        delete_bits =
            key_bits (get_or r.document.ids k 0)
            (member_range (meaning r).characters (standing (form r x).sound).ranges (Memᴰ.map (λ (c : Character). c.id) slot_member))

        pub delete_below : get_or r.document.toggles k 0 < last_toggles
        unfolding character_of
        delete_below = omega (arith, visible_below slot slot_visible (count_most r x slot_member))

        seen : not_visible (meaning r) p ≡ false
        unfolding not_visible beyond_visible
        seen =
            let reached = le-ltb (length (visibles (meaning r).characters)) p (omega (arith, nth.counted, later, visibles-length (meaning r).characters)) in
            rw (ne_eqb p 0 later, reached)

        pub delete_decided : (t : Toggle)
            → t ≡ record { sender = r.site.number; target = identifier (get_or r.document.ids k 0); toggles = get_or r.document.toggles k 0 + 1 }
            → DeleteMade r p (Ok (toggle t, toggleAt k))
        unfolding MadeFor Executed local_delete_when delete_checks decided generated_delete send_toggle character_of
        delete_decided t e =
            let target = ap (λ (u : Toggle). u.target) e in
            let is : t.target ≡ (get_or (meaning r).characters k blank_character).id = target ∙ ap (λ (c : Character). c.id) (sym slot_read) in (
              rw (x.form, seen, slot-named, next_toggle r x slot_member, e),
              (
                x,
                record {
                  at = rw is (first-apart (meaning r).characters (characters-apart r x) k blank_character nth.within);
                  apart = characters-apart r x;
                },
              ),
            )

-- ---- restoring

module _ (r : Replica) (x : Examined r) (id : Identifier) (ranged : character_id id ≡ true) where
  restore_shown : not_hidden (meaning r) id ≡ true → RestoreMade r id (Err NotHidden)
  unfolding MadeFor local_restore_when restore_checks decided
  restore_shown e = rw (ranged, x.form, e)

  pub restore_nowhere : any (same id) (identifiers (meaning r).characters) ≡ false → RestoreMade r id (Err NotHidden)
  unfolding not_hidden
  restore_nowhere e =
      let none = sym (any-map (same id) (λ c. c.id) (meaning r).characters) ∙ e in
      restore_shown (rw (none_named (λ c. c.id) (λ c. not (is_visible c)) id (meaning r).characters none))

  -- the character with the identifier decides
  module _ (k : ℕ) (at : CharacterAt id (meaning r).characters k) where
    abbrev here : Character
    here = in_slot r x id ranged k at

    member : Memᴰ here (meaning r).characters
    member = character_member r x id ranged k at

    is : id ≡ here.id
    is = character-named r x id ranged k at

    hides : not_hidden (meaning r) id ≡ not (not (is_visible here))
    unfolding not_hidden
    hides = ap not (one-named (λ z. z.id) (λ z. not (is_visible z)) id (meaning r).characters (characters-apart r x) member is)

    pub restore_visible : get_or r.document.toggles k 0 % 2 ≡ 0 → RestoreMade r id (Err NotHidden)
    unfolding is_visible character_of
    restore_visible v = restore_shown (hides ∙ rw (eq-eqb (here.toggles % 2) 0 v))

    module _ (v : get_or r.document.toggles k 0 % 2 ≡ 0 → ⊥) where
      hidden : not_hidden (meaning r) id ≡ false
      unfolding is_visible character_of
      hidden = hides ∙ rw (ne_eqb (here.toggles % 2) 0 v)

      counted : toggles_of (meaning r).characters id ≡ get_or r.document.toggles k 0
      unfolding character_of
      counted = rw is (toggles-found (meaning r).characters (characters-apart r x) member)

      pub restore_last : get_or r.document.toggles k 0 ≡ last_toggles → RestoreMade r id (Err LastToggle)
      unfolding MadeFor local_restore_when restore_checks exhausted decided
      restore_last e = rw (ranged, x.form, hidden, counted, eq-eqb (get_or r.document.toggles k 0) last_toggles e)

      module _ (more : get_or r.document.toggles k 0 ≡ last_toggles → ⊥) where
        pub restore_below : get_or r.document.toggles k 0 < last_toggles
        unfolding character_of
        restore_below = omega (arith, count_most r x member, more)

        pub restore_decided : first_index (λ c. same id c.id) (meaning r).characters ≡ Some k → (t : Toggle)
            → t ≡ record { sender = r.site.number; target = id; toggles = get_or r.document.toggles k 0 + 1 }
            → RestoreMade r id (Ok (toggle t, toggleAt k))
        unfolding MadeFor Executed local_restore_when restore_checks exhausted decided generated_toggle send_toggle meaning
        restore_decided f t e = (
          rw (ranged, x.form, hidden, counted, ne_eqb (get_or r.document.toggles k 0) last_toggles more, e),
          (x, record { at = rw (ap (λ (u : Toggle). u.target) e) f; apart = characters-apart r x }),
        )
