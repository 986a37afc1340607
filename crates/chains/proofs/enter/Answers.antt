-- `chains::enter` meets its contract: what is stored, as a link or as a head, is what entering the key stores.
use Prim.Native.Nat.{ℕ, ◌+◌, ◌≤◌, ◌<◌}
use native.Mathlib.Omega.{arith}
use native.Mathlib.Numerals.{add-one}
use mathlib.Core.Path.{◌≡◌, ap, sym, ◌∙◌}
use mathlib.Core.Logic.{⊎_elim}
use lib.ListN.{get_or, set}
use borrow.Author.Tests.{leb-true}
use Rattle.woot.specs.declared.Table.{Table}
use Rattle.woot.specs.Table.{chain_of, free_slot, entered}
use Rattle.chains.proofs.Walks.{leads-on, leads_nowhere}
use Rattle.chains.proofs.Tables.{entered_linked, entered_headed}
use Rattle.chains.proofs.enter.Goals as goal

module _ (t : Table) (i k p c : ℕ) (e : p ≡ get_or t.heads c 0) (f : c ≡ chain_of k) where
  head : p ≡ get_or t.heads (chain_of k) 0
  head = e ∙ ap (λ (n : ℕ). get_or t.heads n 0) f

  -- by the head of the key's chain
  linked : {s : ℕ} → 0 < p → p ≤ i → s ≡ free_slot i t.links i k p
      → record { heads = t.heads; links = set t.links s (i + 1) } ≡ entered t i k
  linked h g s = sym (rw (s, head, add-one i) (entered_linked t i k (rw head at (leads-on i 0 p h g))))

  headed : (0 < p → p ≤ i → ⊥) → record { heads = set t.heads c (i + 1); links = t.links } ≡ entered t i k
  headed n = sym (rw (f, add-one i) (entered_headed t i k (rw head at (leads_nowhere i 0 p n))))

pub free_slot-free-requires : goal.free_slot-free-requires
free_slot-free-requires c =
    record {
      n_in_bounds = omega (arith, leb-true);
      n_bound = omega (arith, leb-true);
      head_nonzero = omega (arith, leb-true);
      head_le_n = omega (arith, leb-true);
    }

pub returns-then-head-i : goal.returns-then-head-i
returns-then-head-i c =
    let a = c.args in
    let p = c.place-head in
    let k = c.chain-c in
    linked _ a.i _ p.result k.result p.ensures.value k.ensures.value c.if-head-gt0.true
    (leb-true _ _ c.if-head-i.true-raw) c.free_slot-free.ensures.value

pub returns-else-head-gt0 : goal.returns-else-head-gt0
returns-else-head-gt0 c =
    let a = c.args in
    let p = c.place-head in
    let k = c.chain-c in
    headed _ a.i _ p.result k.result p.ensures.value k.ensures.value
    (λ h g.
    ⊎_elim (λ v. omega (arith, v.1)) (λ v. omega arith) c.else-head-gt0.either)
