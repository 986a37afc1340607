-- `clock::heard_keys` meets its contract. The loop's invariant: the first i keys have been heard.
use mathlib.Core.Path.{sym, ap, ◌∙◌}
use lib.ListN.{take, get_or}
use lib.Seq.{take_all}
use Rattle.woot.specs.declared.Site.{Site}
use Rattle.woot.specs.Memory.{identifier}
use Rattle.clock.specs.Hearing.{heard_id, heard_keys}
use Rattle.clock.proofs.Keys.{key_more}
use native.Mathlib.Omega.{arith}
use Rattle.clock.proofs.heard_keys.Goals as goal

pub loop-key-preserved : goal.loop-key-preserved
loop-key-preserved c =
    let keys = take c.args.n c.args.keys.now in
    let l = c.loop-key in
    let here = ap (λ (t : Site). heard_id t (identifier (get_or keys l.key-index 0))) l.invariant in
    c.heard_key-raised.ensures ∙ here ∙ sym (key_more c.args.site keys l.key-index (omega arith))

pub returns : goal.returns
returns c =
    let keys = take c.args.n c.args.keys.now in
    let l = c.loop-key in
    l.invariant ∙ ap (heard_keys c.args.site) (take_all l.key-index keys (omega arith))
