-- Laws of a line put down piece by piece. What stands in the slice is a front of the line, and the offset is its end.
use Rattle.std.proofs.Common.{Some, None}
use mathlib.Core.Path.{◌≡◌, refl, sym, ap, ◌∙◌}
use mathlib.Core.List.{List, [], ◌∷◌, ◌++◌, append-nil, append_assoc}
use mathlib.Core.Bool.{Bool, true, false}
use Prim.Native.Nat.{ℕ, ◌+◌, ◌<◌, ◌≤◌}
use native.Mathlib.Nat.{add-zero}
use native.Mathlib.Numerals.{add-one}
use native.Mathlib.Omega.{arith}
use lib.ListN.{length, take, drop, get_or, length-append, take-append-drop}
use lib.Seq.{take-suc, take_all}
use Rattle.output.specs.Output.{has_room, placed, past}
use Rattle.output.proofs.Laws.{room, no_room, has_room_lem, lacks-room, placed-append, placed-room, past_room, length-placed}
use Rattle.decimal.specs.Numeral.{digits}
use Rattle.lines.specs.Room.{Room}
use Rattle.lines.specs.Lines.{line_feed}
use Rattle.lines.specs.Fields.{tab, columns}
use Rattle.lines.specs.Room.{room_for}

-- ---- columns

pub columns-append : (ms ns : List ℕ) → columns (ms ++ ns) ≡ columns ms ++ columns ns
columns-append [] ns = refl
columns-append (m ∷ ms) ns =
    ap (λ (l : List ℕ). tab ∷ l) (ap (λ (l : List ℕ). digits m ++ l) (columns-append ms ns) ∙ sym (append_assoc (digits m) (columns ms) (columns ns)))

-- ---- room

module _ (size at : ℕ) (bytes : List ℕ) where
  pub until : {end : ℕ} → end ≡ at + length bytes → end ≤ size → Some end ≡ room_for size at bytes
  unfolding room_for
  until e h = rw (room size at (length bytes) (omega arith)) (ap Some e)

  pub short : size < at + length bytes → None ≡ room_for size at bytes
  unfolding room_for
  short h = rw (no_room size at (length bytes) h)

  -- what the answers tell
  module _ {x : Room} (m : x ≡ room_for size at bytes) where
    pub until_tells : {end : ℕ} → x ≡ Some end → (end ≡ at + length bytes) × (at + length bytes ≤ size)
    unfolding room_for
    until_tells {end} e = go (has_room size at (length bytes)) refl
      where
        go : (b : Bool) → has_room size at (length bytes) ≡ b → (end ≡ at + length bytes) × (at + length bytes ≤ size)
        go true p = let q : x ≡ Some (at + length bytes) = rw p at m in (cc, has_room_lem size at (length bytes) p)
        go false p = let q : x ≡ None = rw p at m in let z : ◌≡◌ {A = ℕ} 0 1 = cc in absurd (omega arith)

    pub short_tells : x ≡ None → size < at + length bytes
    unfolding room_for
    short_tells e = go (has_room size at (length bytes)) refl
      where
        go : (b : Bool) → has_room size at (length bytes) ≡ b → size < at + length bytes
        go true p = let q : x ≡ Some (at + length bytes) = rw p at m in let z : ◌≡◌ {A = ℕ} 0 1 = cc in absurd (omega arith)
        go false p = lacks-room size at (length bytes) p

-- ---- one run after another

-- the bytes a stand at the offset `at` of a slice, with nothing else changed, and end at `end`
pub record Run (out₀ : List ℕ) (at : ℕ) (a out : List ℕ) (end : ℕ) : Type 0 where
  pub offset : end ≡ at + length a
  pub bytes : out ≡ placed out₀ at a

-- nothing is put yet
pub run_none : (out : List ℕ) (at : ℕ) → at ≤ length out → Run out at [] out at
run_none out at h = record {
  offset = sym (add-zero at);
  bytes = sym (placed-room out at [] (rw (add-zero at) h) ∙ rw (append-nil (take at out), add-zero at) (take-append-drop at out));
}

pub run_on : {out₀ : List ℕ} {at : ℕ} {a out : List ℕ} {end : ℕ} → Run out₀ at a out end
    → (b : List ℕ) → at + length (a ++ b) ≤ length out₀ → {out' : List ℕ} {end' : ℕ} → end' ≡ past out end b → out' ≡ placed out end b
    → Run out₀ at (a ++ b) out' end'
run_on {out₀} {at} {a} {out} {end} r b room e p =
    let kept : length out ≡ length out₀ = ap length r.bytes ∙ length-placed out₀ at a in
    let sum : length (a ++ b) ≡ length a + length b = length-append a b in
    let start : end ≡ at + length a = r.offset in
    record {
      offset = e ∙ past_room out end b (omega arith) ∙ omega arith;
      bytes = p ∙ rw (r.bytes, r.offset) (placed-append out₀ at a b room);
    }

-- the run as the contracts say it
pub run-whole : {out₀ : List ℕ} {at : ℕ} {a out : List ℕ} {end : ℕ} → at + length a ≤ length out₀ → Run out₀ at a out end
    → (end ≡ past out₀ at a) × (out ≡ placed out₀ at a)
run-whole {out₀} {at} {a} room r = (r.offset ∙ sym (past_room out₀ at a room), r.bytes)

-- ---- the loop of `put_line`

-- the first i numbers of a line are put, and there is room for the others and the line feed
pub record Putting (ns out₀ : List ℕ) (at : ℕ) (out : List ℕ) (end i : ℕ) : Type 0 where
  pub part : i ≤ length ns
  pub space : at + length (columns ns) < length out₀
  pub run : Run out₀ at (columns (take i ns)) out end

part-le : (ns : List ℕ) (i : ℕ) → length (columns (take i ns)) ≤ length (columns ns)
part-le ns i =
    omega (arith, length-append (columns (take i ns)) (columns (drop i ns)), ap length (columns-append (take i ns) (drop i ns)), ap (λ (l : List ℕ). length (columns l)) (take-append-drop i ns))

part-more : (ns : List ℕ) (i : ℕ) → i < length ns → (columns (take i ns) ++ (tab ∷ [])) ++ digits (get_or ns i 0) ≡ columns (take (i + 1) ns)
part-more ns i h =
    rw (add-one i, take-suc ns i 0 h, columns-append (take i ns) (get_or ns i 0 ∷ []), append-nil (digits (get_or ns i 0)))
    (append_assoc (columns (take i ns)) (tab ∷ []) (digits (get_or ns i 0)))

-- the head of a line is put
module _ (head ns out₀ : List ℕ) (at : ℕ) {out₁ : List ℕ} {end₁ : ℕ} (fits : at + (length head + (length (columns ns) + 1)) ≤ length out₀)
    (e : end₁ ≡ past out₀ at head) (p : out₁ ≡ placed out₀ at head) where
  start : end₁ ≡ at + length head
  start = e ∙ past_room out₀ at head (omega arith)

  kept : length out₁ ≡ length out₀
  kept = ap length p ∙ length-placed out₀ at head

  pub begun : Putting ns out₁ end₁ out₁ end₁ 0
  begun = record { part = omega arith; space = omega (arith, start, kept); run = run_none out₁ end₁ (omega (arith, start, kept)) }

  -- with the columns and the line feed after it the line is
  pub line_put : {out : List ℕ} {end : ℕ} → Run out₁ end₁ (columns ns ++ (line_feed ∷ [])) out end
      → (end ≡ past out₀ at (head ++ (columns ns ++ (line_feed ∷ [])))) × (out ≡ placed out₀ at (head ++ (columns ns ++ (line_feed ∷ []))))
  line_put r =
      let size : length (columns ns ++ (line_feed ∷ [])) ≡ length (columns ns) + 1 = length-append (columns ns) (line_feed ∷ []) in
      let whole : length (head ++ (columns ns ++ (line_feed ∷ []))) ≡ length head + (length (columns ns) + 1) = length-append head (columns ns ++ (line_feed ∷ [])) ∙ ap (λ (k : ℕ). length head + k) size in
      let w = run-whole {out₀ = out₁} {at = end₁} (omega (arith, start, kept)) r in
      run-whole {out₀ = out₀} {at = at} (omega arith)
      (run_on {a = head} (record { offset = start; bytes = p }) (columns ns ++ (line_feed ∷ [])) (omega arith) w.0 w.1)

module _ {ns out₀ : List ℕ} {at : ℕ} where
  module _ {out : List ℕ} {end i : ℕ} (g : Putting ns out₀ at out end i) where
    pub more : {out₁ out₂ : List ℕ} {end₁ end₂ : ℕ} → i < length ns
        → end₁ ≡ past out end (tab ∷ []) → out₁ ≡ placed out end (tab ∷ [])
        → end₂ ≡ past out₁ end₁ (digits (get_or ns i 0)) → out₂ ≡ placed out₁ end₁ (digits (get_or ns i 0))
        → Putting ns out₀ at out₂ end₂ (i + 1)
    more h e₁ p₁ e₂ p₂ =
        let f = columns (take i ns) ++ (tab ∷ []) in
        let d = digits (get_or ns i 0) in
        let room₂ : at + length (f ++ d) ≤ length out₀ = rw (part-more ns i h) (omega (arith, g.space, part-le ns (i + 1))) in
        let room₁ : at + length f ≤ length out₀ = omega (arith, length-append f d) in
        record {
          part = omega arith;
          space = g.space;
          run = rw (← part-more ns i h) (run_on (run_on g.run (tab ∷ []) room₁ e₁ p₁) d room₂ e₂ p₂);
        }

    pub last : {out₁ : List ℕ} {end₁ : ℕ} → length ns ≤ i
        → end₁ ≡ past out end (line_feed ∷ []) → out₁ ≡ placed out end (line_feed ∷ [])
        → Run out₀ at (columns ns ++ (line_feed ∷ [])) out₁ end₁
    last h e p =
        let room : at + length (columns ns ++ (line_feed ∷ [])) ≤ length out₀ = omega (arith, g.space, length-append (columns ns) (line_feed ∷ [])) in
        run_on (rw (take_all i ns h) at g.run) (line_feed ∷ []) room e p
