-- What is pending is the sum of what each sender has pending, so sixteen shares bound it.
use Prim.Native.Nat.{ℕ, zero, suc, ◌+◌, ◌*◌, ◌≤◌}
use native.Mathlib.Omega.{arith}
use mathlib.Core.Path.{◌≡◌, refl}
use mathlib.Core.Bool.{Bool, true, false, cond}
use mathlib.Core.Logic.{⊎_elim}
use mathlib.Core.List.{List, [], ◌∷◌, Memᴰ}
use lib.Dec.{leb, eqb}
use lib.ListN.{length}
use borrow.Author.Tests.{leb-true, eq-eqb, eqb-true, eqb-false}
use Rattle.woot.specs.declared.Operation.{Operation}
use Rattle.woot.specs.declared.Operation.TheVariants.{Insert as insert, Toggle as toggle}
use Rattle.woot.specs.declared.Character.{Character}
use Rattle.woot.specs.Limits.{last_site, last_clock, share}
use Rattle.woot.specs.Operations.{sender}
use Rattle.woot.specs.Ranges.{within, site_number, character_id, toggle_in_range, in_range}
use Rattle.woot.specs.Memory.{pending_slots}
use Rattle.woot.specs.Pending.{sent_by, pending_from}
use Rattle.woot.specs.Form.{countdown}
use Rattle.convergence.specs.Theorems.{PendingFit}
use Rattle.lists.specs.Lists.{every}
use Rattle.lists.proofs.Tests.{either, and_left_lem, and_right}
use Rattle.lists.proofs.Members.{every_member}
use Rattle.convergence.proofs.Ranges.{within_low, within-high, in-range, toggle-in-range}
use Rattle.convergence.specs.Invariants.{Sound}
use Rattle.convergence.proofs.Forms.{formed}

-- what the senders of the list have pending, together
total : List ℕ → List Operation → ℕ
total [] ps = 0
total (n ∷ ns) ps = pending_from n ps + total ns ps

one_more : (n : ℕ) (o : Operation) (ps : List Operation) → pending_from n ps ≤ pending_from n (o ∷ ps)
unfolding pending_from
one_more n o ps = go (eqb (sender o) n)
  where
    go : (b : Bool) → length (sent_by n ps) ≤ length (cond b (o ∷ sent_by n ps) (sent_by n ps))
    go true = omega arith
    go false = omega arith

own-more : (o : Operation) (n : ℕ) (ps : List Operation) → sender o ≡ n → pending_from n (o ∷ ps) ≡ suc (pending_from n ps)
unfolding pending_from
own-more o n ps e = rw (eq-eqb (sender o) n e)

total-more : (ns : List ℕ) (o : Operation) (ps : List Operation) → total ns ps ≤ total ns (o ∷ ps)
unfolding total
total-more [] o ps = omega arith
total-more (n ∷ ns) o ps = omega (arith, one_more n o ps, total-more ns o ps)

total-own : (ns : List ℕ) (o : Operation) (ps : List Operation) → Memᴰ (sender o) ns → suc (total ns ps) ≤ total ns (o ∷ ps)
unfolding total
total-own [] o ps x' = elim x' [ ]
total-own (n ∷ ns) o ps (Memᴰ.head e) = omega (arith, own-more o n ps e, total-more ns o ps)
total-own (n ∷ ns) o ps (Memᴰ.tail m) = omega (arith, one_more n o ps, total-own ns o ps m)

total-length : (ns : List ℕ) (ps : List Operation) → ((o : Operation) → Memᴰ o ps → Memᴰ (sender o) ns) → length ps ≤ total ns ps
total-length ns [] f = omega arith
total-length ns (o ∷ ps) f = omega (arith, total-length ns ps (λ p m. f p (Memᴰ.tail m)), total-own ns o ps (f o (Memᴰ.head refl)))

total-bound : (ns : List ℕ) (ps : List Operation) → every (λ n. leb (pending_from n ps) share) ns ≡ true → total ns ps ≤ length ns * share
unfolding total
total-bound [] ps h = omega arith
total-bound (n ∷ ns) ps h =
    omega (arith, leb-true (pending_from n ps) share (and_left_lem (leb (pending_from n ps) share) (every (λ n. leb (pending_from n ps) share) ns) h), total-bound ns ps (and_right (leb (pending_from n ps) share) (every (λ n. leb (pending_from n ps) share) ns) h))

numbered : (n k : ℕ) → 1 ≤ k → k ≤ n → Memᴰ k (countdown n)
numbered zero k h l = absurd (omega arith)
numbered (suc n) k h l = ⊎_elim (λ e. Memᴰ.head (eqb-true k (suc n) e)) (λ e. Memᴰ.tail (numbered n k h (omega (arith, eqb-false k (suc n) e)))) (either (eqb k (suc n)))

sender-number : (o : Operation) → in_range o ≡ true → site_number (sender o) ≡ true
unfolding in_range sender character_id
sender-number (insert i) h = and_left_lem (site_number i.id.site) (within 1 last_clock i.id.clock) (in-range i h).id
sender-number (toggle d) h = (toggle-in-range d h).sender

pub pending-bound : {cs : List Character} {ps : List Operation} → Sound cs ps → length ps ≤ pending_slots
unfolding site_number
pending-bound {cs} {ps} s =
    omega (arith, total-length (countdown last_site) ps (λ o m. let h = sender-number o (every_member in_range s.pending-ranges m) in numbered last_site (sender o) (within_low 1 last_site (sender o) h) (within-high 1 last_site (sender o) h)), total-bound (countdown last_site) ps s.shares)

pub pending-fit : PendingFit
pending-fit s h = pending-bound (formed s h).sound
