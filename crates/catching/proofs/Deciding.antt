-- What listing and answering answer, by their conditions.
use Rattle.std.proofs.Common.{Err}
use Prim.Native.Nat.{ℕ}
use native.Mathlib.Omega.{arith}
use mathlib.Core.Path.{◌≡◌, refl, sym}
use mathlib.Core.Bool.{Bool, true, false, ◌||◌, not}
use mathlib.Core.List.{List, [], ◌∷◌}
use mathlib.Core.Option.{some}
use borrow.Author.Tests.{not-false}
use lib.Dec.{eqb}
use lib.ListN.{length}
use Rattle.lists.specs.Lists.{any}
use Rattle.lists.proofs.Tests.{or-false-right}
use Rattle.answers.specs.declared.Refusal.{Refusal}
use Rattle.answers.specs.declared.Refusal.TheVariants.{Layout, Range, Mislisted, Form}
use Rattle.answers.specs.Answers.{◌⇒◌, first, decided}
use Rattle.woot.specs.declared.Replica.{Replica}
use Rattle.woot.specs.Memory.{replica_well_formed}
use Rattle.woot.specs.Writing.{refusing, written_as, output_after}
use Rattle.bulk.specs.Catching.{ones_in, in_sequence, listing_in_range, marks_zero, mislisted, list_checks}
use Rattle.bulk.specs.Catching.{answer_checks}
use Rattle.convergence.proofs.Writing.{own_first, own-none}
use Rattle.std.proofs.Common.{Ok, Err}
use Rattle.listing.specs.Format.{list_laid_out, list_said}
use Rattle.listing.specs.Calls.{list_read_checks, list_read}
use Rattle.catching.specs.Calls.{list_bytes_of, list_written, list_out, answering_checks, answer_bytes_of}
use Rattle.catching.specs.Calls.{answer_written, answer_out}

-- ---- listing

module _ (r : Replica) (out : List ℕ) where
  pub list_unformed : replica_well_formed r ≡ false → (Err Form ≡ list_written r out) × (out ≡ list_out r out)
  unfolding list_written list_out list_checks
  list_unformed e =
      let w = own_first (refusing (list_checks (replica_well_formed r))) (Err Form) (list_bytes_of r) out (rw e)
      in
      (sym w.0, sym w.1)

  pub list-formed : replica_well_formed r ≡ true
      → (written_as [] (list_bytes_of r) out ≡ list_written r out) × (output_after [] (list_bytes_of r) out ≡ list_out r out)
  unfolding list_written list_out list_checks
  list-formed e = own-none (refusing (list_checks (replica_well_formed r))) (list_bytes_of r) out (rw e)

-- ---- answering

-- the three conditions of reading a list, and the form behind them
refused_so : (a b c d : Bool) (n : ℕ) (q : Refusal)
    → decided Err (first ((a ⇒ Layout) ∷ (b ⇒ Range) ∷ (c ⇒ Mislisted) ∷ [])) (Ok n) ≡ Err q
    → first (refusing ((a ⇒ Layout) ∷ (b ⇒ Range) ∷ (c ⇒ Mislisted) ∷ (d ⇒ Form) ∷ [])) ≡ some (Err q)
unfolding decided
refused_so true b c d n q e = cc
refused_so false true c d n q e = cc
refused_so false false true d n q e = cc
refused_so false false false d n q e = let z : ◌≡◌ {A = ℕ} 0 1 = cc in absurd (omega arith)

read_so : (a b c : Bool) (m n : ℕ)
    → decided Err (first ((a ⇒ Layout) ∷ (b ⇒ Range) ∷ (c ⇒ Mislisted) ∷ [])) (Ok m) ≡ Ok n
    → (a ≡ false) × (b ≡ false) × (c ≡ false)
unfolding decided
read_so true b c m n e = let z : ◌≡◌ {A = ℕ} 0 1 = cc in absurd (omega arith)
read_so false true c m n e = let z : ◌≡◌ {A = ℕ} 0 1 = cc in absurd (omega arith)
read_so false false true m n e = let z : ◌≡◌ {A = ℕ} 0 1 = cc in absurd (omega arith)
read_so false false false m n e = (refl, refl, refl)

-- a list that is read
pub record ReadSo (list : List ℕ) : Type 0 where
  pub laid_out : not (list_laid_out list) ≡ false
  pub in-range : not (listing_in_range (list_said list)) ≡ false
  pub well-listed : mislisted (list_said list) ≡ false

pub was_read : (list : List ℕ) {n : ℕ} → list_read list ≡ Ok n → ReadSo list
unfolding list_read list_read_checks
was_read list {n} e =
    let w = read_so (not (list_laid_out list)) (not (listing_in_range (list_said list))) (mislisted (list_said list))
    (length (list_said list).chunks) n e in
    record { laid_out = w.0; in-range = w.1; well-listed = w.2 }

-- its chunks are in sequence
pub read-sequence : (list : List ℕ) → ReadSo list → in_sequence (list_said list).chunks ≡ true
unfolding mislisted
read-sequence list w =
    let l = list_said list in
    not-false (in_sequence l.chunks)
    (or-false-right (not (eqb l.total (ones_in l.chunks)) || any marks_zero l.chunks) (not (in_sequence l.chunks))
    w.well-listed)

module _ (r : Replica) (list out : List ℕ) where
  pub answer-refused : {q : Refusal} → list_read list ≡ Err q
      → (Err q ≡ answer_written r list out) × (out ≡ answer_out r list out)
  unfolding list_read list_read_checks answer_written answer_out answering_checks answer_checks
  answer-refused {q} e =
      let w = own_first (refusing (answering_checks r list)) (Err q) (answer_bytes_of r list) out
      (refused_so (not (list_laid_out list)) (not (listing_in_range (list_said list))) (mislisted (list_said list))
      (not (replica_well_formed r)) (length (list_said list).chunks) q e) in
      (sym w.0, sym w.1)

  module _ (w : ReadSo list) where
    pub answer_unformed : replica_well_formed r ≡ false
        → (Err Form ≡ answer_written r list out) × (out ≡ answer_out r list out)
    unfolding answer_written answer_out answering_checks answer_checks
    answer_unformed e =
        let v = own_first (refusing (answering_checks r list)) (Err Form) (answer_bytes_of r list) out
        (rw (w.laid_out, w.in-range, w.well-listed, e)) in
        (sym v.0, sym v.1)

    pub answer-formed : replica_well_formed r ≡ true
        → (written_as [] (answer_bytes_of r list) out ≡ answer_written r list out)
        × (output_after [] (answer_bytes_of r list) out ≡ answer_out r list out)
    unfolding answer_written answer_out answering_checks answer_checks
    answer-formed e =
        own-none (refusing (answering_checks r list)) (answer_bytes_of r list) out
        (rw (w.laid_out, w.in-range, w.well-listed, e))
