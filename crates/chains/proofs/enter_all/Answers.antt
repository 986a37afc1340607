-- `chains::enter_all` meets its contract. The loop's invariant: the arrays are the table of the first i keys.
use Prim.Native.Nat.{ℕ}
use native.Mathlib.Omega.{arith}
use mathlib.Core.Path.{◌≡◌, ap, sym, ◌∙◌, subst}
use mathlib.Core.List.{List}
use lib.ListN.{take, replicate}
use lib.Seq.{take_all, length-take-le}
use Rattle.woot.specs.declared.Table.{Table}
use Rattle.woot.specs.Table.{no_table, entered_all, table_of}
use Rattle.chains.specs.Sizes.{Sized}
use Rattle.chains.proofs.Tables.{enter, table_sized}
use Rattle.chains.proofs.enter_all.Goals as goal

-- the arrays have their sizes
sized : (ks : List ℕ) {t : Table} → t ≡ table_of ks → Sized t
sized ks e = subst Sized (sym e) (table_sized ks)

-- cleared, they are the table of no keys
cleared : {n m : ℕ} {heads links : List ℕ} → n ≡ 1024 → m ≡ 2048 → heads ≡ replicate n 0 → links ≡ replicate m 0
    → ◌≡◌ {A = Table} (record { heads = heads; links = links }) no_table
unfolding no_table
cleared p q h l =
    let e = h ∙ ap (λ (n : ℕ). replicate n 0) p in
    let f = l ∙ ap (λ (m : ℕ). replicate m 0) q in
    λ i. record { heads = e i; links = f i }

pub loop-i-init : goal.loop-i-init
unfolding table_of entered_all
loop-i-init c =
    let zeros = c.fill.ensures.after (λ y e. e) in
    cleared c.requires.sized.heads c.requires.sized.links zeros (c.fill-2.ensures.after (λ y e. e))

pub enter-requires : goal.enter-requires
enter-requires c =
    let full = sized _ c.loop-i.invariant in
    record {
      i_lt_character_slots = omega (arith, length-take-le c.args.n c.args.keys.now c.requires.n_in_bounds);
      sized = full;
    }

pub loop-i-preserved : goal.loop-i-preserved
loop-i-preserved c =
    let a = c.args in
    let i = c.loop-i.i in
    let stored = c.enter.ensures in
    enter (take a.n a.keys.now) i (omega arith) c.loop-i.invariant (sym stored)

pub returns : goal.returns
returns c =
    let l = c.loop-i in
    l.invariant ∙ ap table_of (take_all l.i (take c.args.n c.args.keys.now) (omega arith))
