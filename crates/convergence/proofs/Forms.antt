-- Well-formedness as facts: the tests of `wellFormed` taken apart, and put together again.
use Prim.Native.Nat.{ℕ, ◌+◌, ◌≤◌}
use native.Mathlib.Omega.{arith}
use mathlib.Core.Path.{◌≡◌, refl, ap, sym, ◌∙◌, subst}
use mathlib.Core.Bool.{Bool, true, false, ◌&&◌}
use mathlib.Core.List.{List, [], ◌∷◌, ◌++◌, map}
use lib.ListN.{length, length-append, length-map}
use borrow.Author.Tests.{leb-true, le-leb, not-true}
use Rattle.woot.specs.declared.Character.{Character}
use Rattle.woot.specs.Limits.{capacity}
use Rattle.woot.specs.Identifiers.{same}
use Rattle.woot.specs.Operations.{origin, inserts}
use Rattle.woot.specs.Ranges.{within, site_number, site_in_range, character_in_range, in_range}
use Rattle.woot.specs.State.{State, initial}
use Rattle.woot.specs.Placing.{identifiers}
use Rattle.woot.specs.Pending.{executable, pending_from}
use Rattle.woot.specs.Form.{present_inserts, all_in_range, shares_kept, capacity_kept, identifiers_distinct, toggles_distinct, neighbours_ordered, none_executable, clock_reaches, clock_kept, well_formed}
use Rattle.convergence.specs.Invariants.{pending_ids, Sound}
use Rattle.convergence.specs.Theorems.{EmptyFormed}
use Rattle.lists.specs.Lists.{any, every, distinct}
use Rattle.lists.proofs.Tests.{and_left_lem, and_right, three, seven}
use Rattle.convergence.proofs.Clocks.{reaches, reached-ids}

pub record Formed (s : State) : Type 0 where
  pub site : site_in_range s.site ≡ true
  pub sound : Sound s.characters s.pending
  pub unready : any (executable s.characters) s.pending ≡ false
  pub reached : every (reaches s.site) (identifiers s.characters ++ pending_ids s.pending) ≡ true

pub known-length : (s : State) → length (present_inserts s) ≡ length s.characters + length (inserts s.pending)
unfolding present_inserts
known-length s = length-append (map origin s.characters) (inserts s.pending) ∙ ap (λ (n : ℕ). n + length (inserts s.pending)) (length-map s.characters origin)

map-append : {A B : Type 0} (f : A → B) (xs ys : List A) → map f (xs ++ ys) ≡ map f xs ++ map f ys
map-append f [] ys = refl
map-append f (x ∷ xs) ys = ap (λ zs. f x ∷ zs) (map-append f xs ys)

origin-ids : (cs : List Character) → map (λ i. i.id) (map origin cs) ≡ identifiers cs
unfolding origin
origin-ids [] = refl
origin-ids (c ∷ cs) = ap (λ zs. c.id ∷ zs) (origin-ids cs)

pub known-ids : (s : State) → map (λ i. i.id) (present_inserts s) ≡ identifiers s.characters ++ pending_ids s.pending
unfolding present_inserts
known-ids s = map-append (λ i. i.id) (map origin s.characters) (inserts s.pending) ∙ ap (λ zs. zs ++ pending_ids s.pending) (origin-ids s.characters)

-- the clock reaches the identifiers of all that is present
pub known-reached : (s : State) → every (clock_reaches s.site) (present_inserts s) ≡ every (reaches s.site) (identifiers s.characters ++ pending_ids s.pending)
known-reached s = reached-ids s.site (present_inserts s) ∙ ap (every (reaches s.site)) (known-ids s)

pub formed : (s : State) → well_formed s ≡ true → Formed s
unfolding well_formed all_in_range shares_kept capacity_kept identifiers_distinct toggles_distinct neighbours_ordered none_executable clock_kept
formed s h =
    let lists = all_in_range s && shares_kept s && capacity_kept s && identifiers_distinct s && toggles_distinct s && neighbours_ordered s && none_executable s in
    let p =
    seven (all_in_range s) (shares_kept s) (capacity_kept s) (identifiers_distinct s) (toggles_distinct s)
    (neighbours_ordered s) (none_executable s) (and_left_lem lists (clock_kept s) h)
    in
    let q = three (site_in_range s.site) (every character_in_range s.characters) (every in_range s.pending) p.0 in
    let held : length (present_inserts s) ≤ capacity = leb-true (length (present_inserts s)) capacity p.2 in
    record {
      site = q.0;
      sound =
          record {
            ranges = q.1;
            ordered-all = p.5;
            pending-ranges = q.2;
            shares = p.1;
            room = omega (arith, known-length s);
            apart = subst (λ xs. distinct same xs ≡ true) (known-ids s) p.3;
            toggles-apart = p.4;
          };
      unready = not-true (any (executable s.characters) s.pending) p.6;
      reached = sym (known-reached s) ∙ and_right lists (clock_kept s) h;
    }

pub reformed : (s : State) → Formed s → well_formed s ≡ true
unfolding well_formed all_in_range shares_kept capacity_kept identifiers_distinct toggles_distinct neighbours_ordered none_executable clock_kept
reformed s f =
    let held : length (present_inserts s) ≤ capacity = omega (arith, known-length s, f.sound.room) in
    rw (f.site, f.sound.ranges, f.sound.pending-ranges, f.sound.shares, le-leb (length (present_inserts s)) capacity held, known-ids s, f.sound.apart, f.sound.toggles-apart, f.sound.ordered-all, f.unready, known-reached s, f.reached)

pub empty-formed : EmptyFormed
unfolding well_formed all_in_range shares_kept capacity_kept identifiers_distinct toggles_distinct neighbours_ordered none_executable clock_kept initial site_in_range within present_inserts pending_from
empty-formed n = go (site_number n) refl
  where
    go : (b : Bool) → site_number n ≡ b → well_formed (initial n) ≡ site_number n
    go true e = rw e
    go false e = rw e
