-- The two parts of what writing the visible text promises, and the columns that hold the text.
use Rattle.std.proofs.Common.{Err}
use Prim.Native.Nat.{ℕ}
use mathlib.Core.Path.{◌≡◌, refl, sym, ◌∙◌}
use mathlib.Core.Bool.{true, false}
use mathlib.Core.List.{List, []}
use lib.ListN.{take}
use Rattle.woot.specs.declared.Replica.{Replica}
use Rattle.answers.specs.declared.Refusal.TheVariants.{Form}
use Rattle.woot.specs.Text.{text}
use Rattle.woot.specs.Writing.{written_as, output_after}
use Rattle.woot.specs.Memory.{meaning, replica_well_formed, characters_in, operations_in, code_points_of, toggle_counts}
use Rattle.convergence.proofs.Writing.{own_first, own-none}
use Rattle.memory.specs.Columns as columns
use Rattle.memory.specs.Lent.{viewed}
use Rattle.well_formed.specs.Examined.{Examined}
use Rattle.well_formed.proofs.Examining.{points_used, toggles_used}
use Rattle.replica.specs.Texts.{text_of, text_checks, text_written, text_out}

module _ (r : Replica) where
  -- of a replica that is well formed
  pub formed-text : (out : List ℕ) → replica_well_formed r ≡ true
      → (written_as [] (text (columns.meaning (viewed r)).characters) out ≡ text_written r out)
      × (output_after [] (text (columns.meaning (viewed r)).characters) out ≡ text_out r out)
  unfolding text_written text_out text_checks text_of meaning characters_in columns.meaning columns.characters_in
  formed-text out e = own-none (text_checks r) (text_of r) out (rw e refl)

  -- of one that is not
  pub unformed_text : (out : List ℕ) → replica_well_formed r ≡ false → (Err Form ≡ text_written r out) × (out ≡ text_out r out)
  unfolding text_written text_out text_checks
  unformed_text out e = let w = own_first (text_checks r) (Err Form) (text_of r) out (rw e refl) in (sym w.0, sym w.1)

  module _ (x : Examined (viewed r)) where
    pub written-points : code_points_of (columns.meaning (viewed r)).characters ≡ take r.document.length (viewed r).document.code_points
    written-points = sym (points_used (viewed r) x)

    pub written-toggles : toggle_counts (columns.meaning (viewed r)).characters ≡ take r.document.length r.document.toggles
    written-toggles = sym (toggles_used (viewed r) x)
