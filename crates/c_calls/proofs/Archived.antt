-- Both trips of an archive through the C calls: where a trip is done, no condition holds and what was written is the
-- trip's, and what is said of the trips is said of that.
use Prim.Native.Nat.{ℕ, ◌≤◌}
use native.Mathlib.Omega.{arith}
use mathlib.Core.Path.{◌≡◌, refl, sym, ap, ◌∙◌}
use mathlib.Core.Bool.{not}
use mathlib.Core.List.{List}
use lib.ListN.{length}
use borrow.Author.Tests.{not-false}
use Rattle.answers.specs.Answers.{done}
use Rattle.woot.specs.Form.{well_formed}
use Rattle.bulk.specs.Archiving.{archive_of, state_from, archive_checks, unarchive_checks, archive_in_range, arranged}
use Rattle.saved.specs.Format.{saved_laid_out, saved_in_range, saved_state}
use Rattle.saved.specs.Calls.{loaded_state}
use Rattle.saved.specs.Archive.{archive_laid_out, archive_said, archiving, archiving_refusals, unarchiving}
use Rattle.saved.specs.Archive.{unarchiving_refusals}
use Rattle.saved.specs.Archives.{Archives, Unarchives}
use Rattle.saved.proofs.Sizes.{saved-length, archive_length}
use Rattle.saved.proofs.Trips.{saved_loads}
use Rattle.saved.proofs.Archives.{archive_reads-back, back-after_archive, archive_after-back, unarchiving_numbers}
use Rattle.saved.proofs.Archives.{low_clock_refused}
use Rattle.effects.specs.Effects.{Effect}
use Rattle.c_calls.specs.Calls.{wimtaze_archive, wimtaze_unarchive, handed_checks, rule_checks, product_of}
use Rattle.c_calls.specs.Theorems.{bytes_written, archived_in_c, unarchived_in_c, ArchivesTell, ArchiveWrites}
use Rattle.c_calls.specs.Theorems.{UnarchiveWrites, ArchiveDone, UnarchiveDone, ArchiveBack, ArchiveOfOne}
use Rattle.c_calls.specs.Theorems.{LowClockTurned, MisarrangedExactly}
use Rattle.c_calls.proofs.Fitting.{alone_done, done_alone}
use Rattle.c_calls.proofs.Bridging.{answer-told, archive_bridge, unarchive_bridge}
use Rattle.c_calls.proofs.Bodies.{archive_body, unarchive_body}

pub archives_tell : ArchivesTell
archives_tell bytes out = (
  let t = answer-told _ in
      let e = archive_body bytes out ∙ archive_bridge bytes out in
      record {
        refusal-told = ap (λ (x : Effect). x.result.reply.refusal) e ∙ t.0;
        written-told = ap (λ (x : Effect). x.result.written) e ∙ t.1;
        output-told = ap (λ (x : Effect). x.output) e;
      },
  let t = answer-told _ in
      let e = unarchive_body bytes out ∙ unarchive_bridge bytes out in
      record {
        refusal-told = ap (λ (x : Effect). x.result.reply.refusal) e ∙ t.0;
        written-told = ap (λ (x : Effect). x.result.written) e ∙ t.1;
        output-told = ap (λ (x : Effect). x.output) e;
      },
)

-- ---- one trip

module _ (bytes out : List ℕ) where
  pub archived_so : (archived_in_c bytes out).result.reply.word ≡ done →
      Archives bytes × (length (archiving bytes) ≤ length out) × (bytes_written (archived_in_c bytes out) ≡ archiving bytes)
  unfolding handed_checks rule_checks product_of archiving_refusals archive_checks
  archived_so d =
      let w = alone_done wimtaze_archive bytes out (archiving bytes) refl d in
      let laid = not-false (saved_laid_out bytes) w.0.0 in
      let ranged = not-false (saved_in_range bytes) w.0.1.0 in
      ((laid, ranged, not-false (well_formed (saved_state bytes)) w.0.1.1.0), w.1, w.2)

  pub so_archived : Archives bytes → length (archiving bytes) ≤ length out →
      ((archived_in_c bytes out).result.reply.word ≡ done) × (bytes_written (archived_in_c bytes out) ≡ archiving bytes)
  unfolding handed_checks rule_checks product_of archiving_refusals archive_checks
  so_archived a room =
      done_alone wimtaze_archive bytes out (archiving bytes) refl
      (ap not a.0, (ap not a.1, (ap not a.2, tt))) room

  pub unarchived_so : (unarchived_in_c bytes out).result.reply.word ≡ done →
      Unarchives bytes × (length (unarchiving bytes) ≤ length out)
      × (bytes_written (unarchived_in_c bytes out) ≡ unarchiving bytes)
  unfolding handed_checks rule_checks product_of unarchiving_refusals unarchive_checks
  unarchived_so d =
      let w = alone_done wimtaze_unarchive bytes out (unarchiving bytes) refl d in
      let laid = not-false (archive_laid_out bytes) w.0.0 in
      let ranged = not-false (archive_in_range (archive_said bytes)) w.0.1.0 in
      let right = not-false (arranged (archive_said bytes).rows) w.0.1.1.0 in
      let formed = not-false (well_formed (state_from (archive_said bytes))) w.0.1.1.1.0 in
      ((laid, ranged, right, formed), w.1, w.2)

  pub so_unarchived : Unarchives bytes → length (unarchiving bytes) ≤ length out →
      ((unarchived_in_c bytes out).result.reply.word ≡ done)
      × (bytes_written (unarchived_in_c bytes out) ≡ unarchiving bytes)
  unfolding handed_checks rule_checks product_of unarchiving_refusals unarchive_checks
  so_unarchived a room =
      done_alone wimtaze_unarchive bytes out (unarchiving bytes) refl
      (ap not a.0, (ap not a.1, (ap not a.2, (ap not a.3, tt)))) room

pub archive_writes : ArchiveWrites
unfolding archiving
archive_writes bytes out d =
    let there = (archived_so bytes out d).2 in
    let back = archive_reads-back.0 (archive_of (saved_state bytes)) in
    record {
      archive-written = there;
      archive-laid-out = ap archive_laid_out there ∙ back.0;
      archive-says = ap archive_said there ∙ back.1;
    }

pub unarchive_writes : UnarchiveWrites
unfolding unarchiving
unarchive_writes archive out d =
    let w = unarchived_so archive out d in
    record {
      sheet-written = w.2;
      sheet-says = ap loaded_state w.2 ∙ saved_loads (state_from (archive_said archive)) w.0.3;
    }

pub archive_done : ArchiveDone
unfolding archiving
archive_done bytes out room = (
  λ d. (archived_so bytes out d).0,
  λ a. (so_archived bytes out a (omega (arith, archive_length (saved_state bytes) a.2, room))).0,
)

pub unarchive_done : UnarchiveDone
unfolding unarchiving
unarchive_done archive out room = (
  λ d. (unarchived_so archive out d).0,
  λ a. (so_unarchived archive out a (omega (arith, saved-length (state_from (archive_said archive)) a.3, room))).0,
)

-- ---- both trips

pub archive_back : ArchiveBack
archive_back bytes out back d room =
    let a = archived_so bytes out d in
    let t = back-after_archive bytes a.0 in
    let w = so_unarchived (archiving bytes) back t.0 (omega (arith, ap length t.1, room)) in
    rw a.2 (w.0, w.1 ∙ t.1)

pub archive_of-one : ArchiveOfOne
archive_of-one archive out d =
    let a = unarchived_so archive out d in
    let t = archive_after-back archive a.0 in
    record {
      archived-again = λ again room.
          let w = so_archived (unarchiving archive) again t.0 (omega (arith, ap length t.1, room)) in
          rw a.2 (w.0, w.1 ∙ t.1);
      no_other = λ bytes slice f same.
          let b = archived_so bytes slice f in
          t.2 bytes b.0 (sym b.2 ∙ same) ∙ sym a.2;
    }

-- ---- 3 and 19

pub low_clock_turned : LowClockTurned
low_clock_turned = (
  λ bytes out laid ranged low. (archives_tell bytes out).0.refusal-told ∙ low_clock_refused.0 bytes out laid ranged low,
  λ archive out laid ranged right low.
      (archives_tell archive out).1.refusal-told ∙ low_clock_refused.1 archive out laid ranged right low,
)

pub misarranged_exactly : MisarrangedExactly
misarranged_exactly archive out =
    let told = (archives_tell archive out).1.refusal-told in
    let n = (unarchiving_numbers archive out).2 in
    (λ h. n.0 (sym told ∙ h), λ p. told ∙ n.1 p)
