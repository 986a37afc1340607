-- A replica in form has a slot for all that it holds.
use mathlib.Core.Path.{◌≡◌, ap, ap₂, sym, ◌∙◌, subst}
use mathlib.Core.Bool.{true}
use mathlib.Core.List.{List}
use Prim.Native.Nat.{ℕ, ◌+◌, ◌≤◌}
use native.Mathlib.Omega.{arith}
use lib.ListN.{length, length-append}
use lib.Dec.{leb→le}
use lib.IntN.{ℤ, pos, negsuc}
use lib.Signed.{◌≤ℤ◌}
use mir.Syntax.{w32}
use mir.Val.{SFits, to_z, of_z}
use mir.Facts.{to_z-of_z}
use Rattle.lists.specs.Padding.{pad}
use Rattle.lists.proofs.Padding.{pad-length}
use Rattle.woot.specs.declared.Identifier.{Identifier}
use Rattle.woot.specs.declared.Operation.{Operation}
use Rattle.woot.specs.declared.ReceiptAt.{ReceiptAt}
use Rattle.answers.specs.Answers.{changes}
use Rattle.woot.specs.Sending.{answer_of}
use Rattle.memory.proofs.Fullness.{FullArrays}
use Rattle.woot.specs.declared.Replica.{Replica}
use Rattle.woot.specs.Memory.{in_columns, replica_well_formed}
use Rattle.woot.specs.Histories.{inserting, deleting, restoring}
use Rattle.woot.specs.Replicas.{received_at}
use Rattle.generation.specs.Decisions.{InsertMade, DeleteMade, RestoreMade}
use Rattle.replica.specs.Outcomes.{sent_by}
use Rattle.replica.specs.Theorems.{called, answer_to}
use Rattle.replica.proofs.Kept.{accepted-formed}
use Rattle.replica.proofs.Returning.{insert_so, delete_so, restore_so}
use Rattle.cursor.proofs.Moving.{replica-shift-bounds}
use Rattle.cursor.proofs.Receiving.{left_in_form}
use Rattle.memory.specs.Lent.{view, viewed}
use Rattle.memory.proofs.Stored.{Counts, counts, form_counted}
use Rattle.memory.proofs.Views.{form_view}
use Rattle.effects.specs.Steps.{Savable}
use Rattle.woot.specs.Sent.{Sending, sends}
use Rattle.generation.specs.Made.{Made}

pub few-held : (r : Replica) → replica_well_formed r ≡ true → Counts (view r.document)
few-held r f = counts (viewed r) (form_counted (viewed r) (rw (form_view r) at f))

-- what saving asks of its arrays
pub storable : (r : Replica) → FullArrays r.document → replica_well_formed r ≡ true
    → (length r.document.characters ≡ 4096)
    × ((r.document.length ≤ 1024) × ((r.document.length ≤ length r.document.toggles) × ((length r.document.pending ≡ 2048) × (r.document.waiting ≤ 512))))
storable r full f =
    let w = few-held r f in
    (full.characters, (w.characters, (omega (arith, full.toggles, w.characters), (full.pending, w.pending))))

-- what is sent changes the replica
pub sent-changes : {a : Sending} {o : Operation} {n m : ℕ} → a ≡ sends o n m → changes (answer_of a) ≡ true
unfolding changes answer_of
sent-changes e = rw e

-- what is made here leaves a replica in form
module _ (r : Replica) (m : Made) where
  pub insert_savable : (g n : ℕ) → InsertMade (viewed r) g n m → Savable (sent_by r m)
  unfolding called answer_to
  insert_savable g n h = subst Savable (sym (insert_so r g n m h)) (accepted-formed r (inserting g n))

  pub delete_savable : (p : ℕ) → DeleteMade (viewed r) p m → Savable (sent_by r m)
  unfolding called answer_to
  delete_savable p h = subst Savable (sym (delete_so r p m h)) (accepted-formed r (deleting p))

  pub restore_savable : (x : Identifier) → RestoreMade (viewed r) x m → Savable (sent_by r m)
  unfolding called answer_to
  restore_savable x h = subst Savable (sym (restore_so r x m h)) (accepted-formed r (restoring x))

pub columns-length : (m : ℕ) (ws xs ys zs : List ℕ) → length ws ≤ m → length xs ≤ m → length ys ≤ m → length zs ≤ m
    → length (in_columns m ws xs ys zs) ≡ m + (m + (m + m))
unfolding in_columns
columns-length m ws xs ys zs a b c d =
    length-append (pad m 0 ws) _
    ∙ ap₂ ◌+◌ (pad-length m 0 ws a)
    (length-append (pad m 0 xs) _ ∙ ap₂ ◌+◌ (pad-length m 0 xs b) (length-append (pad m 0 ys) _ ∙ ap₂ ◌+◌ (pad-length m 0 ys c) (pad-length m 0 zs d)))

-- what receiving with a cursor returns is in form where it changed something
pub received-at-formed : (r : Replica) (o : Operation) (g : ℕ) {x : ReceiptAt} → x ≡ received_at r o g → changes x.answer ≡ true
    → replica_well_formed x.replica ≡ true
received-at-formed r o g e h =
    ap (λ (y : ReceiptAt). replica_well_formed y.replica) e
    ∙ left_in_form r o g (sym (ap (λ (y : ReceiptAt). changes y.answer) e) ∙ h)

-- a shift is read back from the machine's 32 bits
small-fits : (z : ℤ) → negsuc 0 ≤ℤ z → z ≤ℤ pos 513 → SFits w32 z
small-fits (pos n) low high = record { sfits = omega (arith, leb→le n 513 high.le) }
small-fits (negsuc n) low high = record { sfits = omega (arith, leb→le n 0 low.le) }

pub shift-read : (r : Replica) (o : Operation) (g : ℕ) {x : ReceiptAt} → x ≡ received_at r o g → to_z w32 (of_z w32 x.shift) ≡ x.shift
shift-read r o g {x} e =
    let bounds = replica-shift-bounds r o g in
    to_z-of_z (subst (λ (y : ReceiptAt). SFits w32 y.shift) (sym e) (small-fits (received_at r o g).shift bounds.0 bounds.1))
