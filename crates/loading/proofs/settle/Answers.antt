-- `loading::settle` meets its contract: no more of the columns is looked at than is in use.
use mathlib.Core.Path.{ap, ◌∙◌}
use Prim.Native.Nat.{ℕ}
use lib.ListN.{take}
use Rattle.woot.specs.Table.{table_of}
use Rattle.clock.specs.Hearing.{heard_keys}
use Rattle.loading.proofs.settle.Goals as goal

pub returns : goal.returns
returns c =
    let a = c.args in
    let n = c.lesser-held.ensures in
    let w = c.lesser.ensures in
    record {
      value = c.raised.ensures
          ∙ (λ j. heard_keys (heard_keys a.site (take (n j) a.characters.now)) (take (w j) a.pending.now));
      table_after = c.enter_all.ensures ∙ ap (λ (k : ℕ). table_of (take k a.characters.now)) n;
    }
