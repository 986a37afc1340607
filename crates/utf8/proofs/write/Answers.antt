-- `utf8::write` meets its contract: the part of the four bytes that is handed on is the code point's encoding.
use mathlib.Core.Path.{◌≡◌, sym, ap, ◌∙◌}
use Prim.Native.Nat.{ℕ, ◌≤◌}
use native.Mathlib.Omega.{arith}
use lib.ListN.{length, take, length-append}
use lib.Seq.{take_at, length-take-le}
use Rattle.output.specs.Output.{placed, past}
use Rattle.utf8.specs.declared.Encoded.{Encoded}
use Rattle.utf8.specs.Encoding.{encode, encoded_length}
use Rattle.utf8.specs.Encoded.{encoding}
use Rattle.utf8.proofs.Laws.{length-encode}
use Rattle.utf8.proofs.write.Goals as goal

-- the bytes in use are there, and they are the encoding
within : (e : Encoded) (n : ℕ) → e ≡ encoding n → e.length ≤ length e.bytes
unfolding encoding
within e n p = rw (p, length-append, length-encode) (omega arith)

used : (e : Encoded) (n : ℕ) → e ≡ encoding n → take e.length e.bytes ≡ encode n
unfolding encoding
used e n p = rw p (take_at (encode n) _ (encoded_length n) (length-encode n))

pub slice_bounds-bytes-end : goal.slice_bounds-bytes-end
slice_bounds-bytes-end c = within _ _ c.encode-length.ensures

pub slice_bounds-put_all-end : goal.slice_bounds-put_all-end
slice_bounds-put_all-end c = sym (length-take-le _ _ (within _ _ c.encode-length.ensures))

pub returns : goal.returns
returns c =
    let p = c.put_all.ensures in
    let e = used _ _ c.encode-length.ensures in
    (p.0 ∙ ap (past _ _) e, p.1 ∙ ap (placed _ _) e)
