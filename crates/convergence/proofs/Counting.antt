-- How many are left out, by what the characters hold: those that are about a character that is not there.
use Prim.Native.Nat.{◌+◌}
use native.Mathlib.Omega.{arith}
use mathlib.Core.Path.{◌≡◌, refl, ap, sym, ◌∙◌, subst}
use mathlib.Core.Bool.{Bool, true, false, not, cond}
use mathlib.Core.Logic.{⊎_elim}
use mathlib.Core.List.Memᴰ
use mathlib.Core.List.{List, [], ◌∷◌, map, Memᴰ}
use lib.ListN.{length, length-append}
use Rattle.woot.specs.declared.Identifier.{Identifier}
use Rattle.woot.specs.declared.Insert.{Insert}
use Rattle.woot.specs.declared.Operation.{Operation}
use Rattle.woot.specs.declared.Operation.TheVariants.{Insert as insert, Toggle as toggle}
use Rattle.woot.specs.declared.Character.{Character}
use Rattle.woot.specs.Operations.{origin}
use Rattle.woot.specs.Ranges.{in_range}
use Rattle.woot.specs.Placing.{held}
use Rattle.woot.specs.Pending.{Drained, and_integrated, and_discarded, drained}
use Rattle.lists.specs.Lists.{every, keep}
use Rattle.lists.proofs.Tests.{not-intro, either, fails}
use Rattle.lists.proofs.Members.{every_member}
use Rattle.convergence.proofs.Extract.{Extract, extract_length, keep_extract, keep_same}
use Rattle.convergence.proofs.Peeling.{keep_all}
use Rattle.convergence.proofs.Places.{held-id}
use Rattle.convergence.proofs.Characters.{held-is-character, insert-id_in_range}
use Rattle.bulk.specs.Building.{once, building, left_out}
use Rattle.convergence.proofs.Unique.{Consistent, Complete, complete-unique}
use Rattle.convergence.proofs.Progress.{Inside}
use Rattle.convergence.proofs.Drains.{Draining, stop, discard, carry, draining}
use Rattle.convergence.proofs.Offering.{Ended}
use Rattle.convergence.proofs.Heap.{heap_ended, built-complete}
use Rattle.convergence.proofs.Built.{inside-not, left-to}

-- what an operation is about
unfoldable pub subject : Operation → Identifier
subject (insert i) = i.id
subject (toggle t) = t.target

-- any complete list is the one built: what a loop that carries the heap out in any order has to reach
pub complete-built : (heap : List Operation) → every in_range heap ≡ true → Consistent heap → (cs : List Character)
    → Complete heap cs → cs ≡ (building heap).characters
complete-built heap r c cs p = complete-unique heap c cs (building heap).characters p (built-complete heap r c)

module _ (p : Operation → Bool) where
  one_more : {o : Operation} {os ps : List Operation} → Extract o os ps → length (keep p ps) ≡ length (keep p (o ∷ os))
  one_more {o} {os} {ps} e =
      ⊎_elim (λ h. rw h (extract_length (keep_extract p e h))) (λ h. rw h (ap length (keep_same p e h))) (either (p o))

  kept : {cs : List Character} {ps : List Operation} {d : Drained} → Draining cs ps d
      → length (keep p ps)
      ≡ length (keep p d.integrated) + length (keep p d.pending) + length (keep p d.discarded)
  unfolding drained and_discarded and_integrated
  kept (stop h) = omega arith
  kept (discard {d = d} t f w r) = one_more f.extracted ∙ go (p t.operation) (kept r)
    where
      go : (b : Bool)
          → length (keep p t.others)
          ≡ length (keep p d.integrated) + length (keep p d.pending) + length (keep p d.discarded)
          → length (cond b (t.operation ∷ keep p t.others) (keep p t.others))
          ≡ length (keep p d.integrated) + length (keep p d.pending)
          + length (cond b (t.operation ∷ keep p d.discarded) (keep p d.discarded))
      go true k = omega arith
      go false k = k
  kept (carry {d = d} t f uncrossed placeable r) = one_more f.extracted ∙ go (p t.operation) (kept r)
    where
      go : (b : Bool)
          → length (keep p t.others)
          ≡ length (keep p d.integrated) + length (keep p d.pending) + length (keep p d.discarded)
          → length (cond b (t.operation ∷ keep p t.others) (keep p t.others))
          ≡ length (cond b (t.operation ∷ keep p d.integrated) (keep p d.integrated))
          + length (keep p d.pending) + length (keep p d.discarded)
      go true k = omega arith
      go false k = k

  keep-none : (os : List Operation) → ((o : Operation) → Memᴰ o os → p o ≡ false) → length (keep p os) ≡ 0
  keep-none [] f = refl
  keep-none (o ∷ os) f = rw (f o (Memᴰ.head refl)) (keep-none os (λ q m. f q (Memᴰ.tail m)))

module _ (heap : List Operation) (r : every in_range heap ≡ true) (c : Consistent heap) where
  abbrev rows : List Character
  rows = (building heap).characters

  ends : Ended heap [] (once heap) (building heap)
  ends = heap_ended heap r c

  inside-held : (o : Operation) → Inside rows o → held rows (subject o) ≡ true
  unfolding subject origin
  inside-held (insert i) m =
      let w = Memᴰ.of_map origin rows m in subst (λ (x : Identifier). held rows x ≡ true)
      (ap (λ (j : Insert). j.id) w.2) (held-id rows w.1)
  inside-held (toggle t) h = h

  pub held-inside : (o : Operation) → Memᴰ o heap → held rows (subject o) ≡ true → Inside rows o
  unfolding subject origin in_range
  held-inside (insert i) m h =
      let w = held-is-character rows ends.grown.standing i.id
      (insert-id_in_range i (every_member in_range r m)) h in
      let q : origin w.0 ≡ i = c (origin w.0) i
      ((built-complete heap r c).among (origin w.0) (Memᴰ.map origin w.1)) m (sym w.2) in
      subst (λ (j : Insert). Memᴰ j (map origin rows)) q (Memᴰ.map origin w.1)
  held-inside (toggle t) m h = h

  -- none that is left out is about a character that is there
  pub left_unheld : (o : Operation) → Memᴰ o (left_out heap) → held rows (subject o) ≡ false
  left_unheld o m =
      let w = left-to heap r c o m in
      fails (held rows (subject o)) (λ h. inside-not ends.grown o (held-inside o w.0 h) w.1)

  -- "their count is given"
  pub left-counted : length (left_out heap)
      ≡ length (keep (λ o. not (held (building heap).characters (subject o))) (once heap))
  unfolding left_out building
  left-counted =
      let p : Operation → Bool = λ o. not (held rows (subject o)) in
      omega (
        arith,
        length-append (building heap).pending (building heap).discarded,
        kept p (draining [] (once heap)),
        keep-none p (building heap).integrated (λ o m. let h = inside-held o (ends.integrated o m).1 in rw h),
        keep_all p (building heap).pending
            (λ o m. not-intro (left_unheld o (Memᴰ.append_left (building heap).discarded m))),
        keep_all p (building heap).discarded
            (λ o m. not-intro (left_unheld o (Memᴰ.append_right (building heap).pending m))),
      )
