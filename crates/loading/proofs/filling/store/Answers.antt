-- `loading::filling::store` meets its contract: a store leaves the number of slots as it is.
use lib.ListN.{length-set}
use native.Mathlib.Omega.{arith}
use Rattle.loading.specs.Filling.{set_in}
use mathlib.Core.Path.{refl}
use Prim.Native.Nat.{◌+◌, ◌*◌}
use lib.ListN.{set}
use Rattle.loading.proofs.filling.store.Goals as goal

pub bounds-columns-m : goal.bounds-columns-m
bounds-columns-m c =
    let a = c.args in
    omega (arith, c.requires, length-set a.columns.now a.i a.w)

pub bounds-columns-m-2 : goal.bounds-columns-m-2
bounds-columns-m-2 c =
    let a = c.args in
    omega (arith, c.requires, length-set a.columns.now a.i a.w, length-set (set a.columns.now a.i a.w) (a.m + a.i) a.x)

pub bounds-columns-m-3 : goal.bounds-columns-m-3
bounds-columns-m-3 c =
    let a = c.args in
    omega (
      arith,
      c.requires,
      length-set a.columns.now a.i a.w,
      length-set (set a.columns.now a.i a.w) (a.m + a.i) a.x,
      length-set (set (set a.columns.now a.i a.w) (a.m + a.i) a.x) (2 * a.m + a.i) a.y,
    )

pub returns : goal.returns
unfolding set_in
returns c = refl
