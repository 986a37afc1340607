-- A trip that is done wrote the archive of the copy, whose way back is the copy's own bytes; a trip that is refused
-- leaves them too.
use Prim.Native.Nat.{ℕ, ◌≤◌}
use native.Mathlib.Omega.{arith}
use mathlib.Core.Path.{◌≡◌, refl, sym, ap, ◌∙◌}
use mathlib.Core.Bool.{true, false≢true}
use mathlib.Core.Logic.{⊎_elim}
use mathlib.Core.Option.{Option, none, some}
use mathlib.Core.List.{List, [], ◌∷◌}
use lib.ListN.{length}
use borrow.Author.Tests.{ltb-false}
use Rattle.lists.proofs.Tests.{or-false-left}
use Rattle.answers.specs.declared.Answer.TheVariants.{Done, Deferred, Duplicate, Refused}
use Rattle.answers.specs.Answers.{reply}
use Rattle.woot.specs.State.{State}
use Rattle.woot.specs.Ranges.{within, site_number}
use Rattle.woot.specs.Form.{well_formed}
use Rattle.woot.specs.Histories.{run}
use Rattle.bulk.specs.Beginnings.{start_of}
use Rattle.convergence.proofs.Forms.{empty-formed}
use Rattle.saved.specs.declared.Version.TheVariants.{Second}
use Rattle.saved.specs.Format.{saved_bytes}
use Rattle.saved.specs.Archive.{unarchiving}
use Rattle.saved.specs.Archives.{Archives, archive_most}
use Rattle.saved.specs.Theorems.{saved_most}
use Rattle.saved.proofs.Sizes.{saved-length}
use Rattle.saved.proofs.Trips.{saved_laid, in_range-back, second-says, says_back}
use Rattle.saved.proofs.Archives.{back-after_archive}
use Rattle.effects.specs.Results.{result, silent}
use Rattle.effects.specs.Effects.{Effect, quiet}
use Rattle.c_calls.specs.Calls.{wimtaze_archive, wimtaze_unarchive, product_of, effect_of}
use Rattle.c_calls.specs.Theorems.{bytes_written, archived_in_c}
use Rattle.c_calls.proofs.Fitting.{front}
use Rattle.c_calls.proofs.Listing.{Went, away, lacking, through, went}
use Rattle.c_calls.proofs.Archived.{archived_so, archive_writes, archive_done, archive_back}
use Rattle.consistency.specs.Copies.{in_memory, as_bytes, bytes_after, word_of, rules_of, renews, state_of, on_bytes}
use Rattle.consistency.specs.Copies.{step_on, rules_by, begun, beginning_of}
use Rattle.consistency.specs.Catching.{front_read}
use Rattle.consistency.specs.Archiving.{ArchivingKeeps, returned_from, brought_back, one_call, trip, act_on}
use Rattle.consistency.specs.Archiving.{acted, calls_among, ArchiveTripsKeep, ArchivedConverge, BothTrips}
use Rattle.consistency.specs.Archiving.{CopiesArchived}
use Rattle.consistency.proofs.Holding.{nothing, says, made_none}
use Rattle.consistency.proofs.Returned.{kept, effect_returned}
use Rattle.consistency.proofs.Claims.{follow_holds, holds-begun, copies_converge, as_saved}
use Rattle.consistency.proofs.Lists.{told, tells}

-- ---- each trip by itself

pub archiving-keeps : ArchivingKeeps
unfolding step_on on_bytes renews rules_of
archiving-keeps (in_memory r) out line = (
  record { same_copy = refl; none_made = refl },
  record { same_copy = refl; none_made = refl },
)
archiving-keeps (as_bytes b) out line = (
  record { same_copy = refl; none_made = made_none (word_of (effect_of wimtaze_archive b out line)) },
  record { same_copy = refl; none_made = made_none (word_of (effect_of wimtaze_unarchive b out line)) },
)

-- ---- both trips

-- the way back of an archive whose way back is b writes b, or leaves it
went_back : (b archive : List ℕ) → unarchiving archive ≡ b → {back : List ℕ} {e : Effect} →
    Went wimtaze_unarchive archive back [] e → kept b e ≡ b
unfolding quiet silent result reply bytes_after product_of
went_back b archive same (away (Done n m) t r) = absurd t.turned
went_back b archive same (away Deferred t r) = absurd t.turned
went_back b archive same (away Duplicate t r) = refl
went_back b archive same (away (Refused q) t r) = refl
went_back b archive same (lacking w f) = refl
went_back b archive same {back} (through w f) =
    front back (unarchiving archive) (ltb-false (length back) (length (unarchiving archive)) (or-false-left _ _ f)) ∙ same

module _ (b out back : List ℕ) where
  came_back : brought_back b out back ≡ b
  came_back = go (front_read (archived_in_c b out)) refl
    where
      go : (o : Option (List ℕ)) → front_read (archived_in_c b out) ≡ o → returned_from b o back ≡ b
      go none e = refl
      go (some archive) e =
          let t = told wimtaze_archive b out e in
          let w = archived_so b out t.0 in
          let same : unarchiving archive ≡ b =
          ap unarchiving (sym t.1 ∙ w.2) ∙ (back-after_archive b w.0).1 in
          effect_returned wimtaze_unarchive archive back [] b
          ∙ went_back b archive same (went wimtaze_unarchive archive back [])

pub archive_trips_keep : ArchiveTripsKeep
unfolding act_on
archive_trips_keep p [] = refl
archive_trips_keep p (one_call c ∷ xs) = archive_trips_keep (step_on p c).copy xs
archive_trips_keep (in_memory r) (trip out back ∷ xs) = archive_trips_keep (in_memory r) xs
archive_trips_keep (as_bytes b) (trip out back ∷ xs) =
    ap (λ (c : List ℕ). acted (as_bytes c) xs) (came_back b out back) ∙ archive_trips_keep (as_bytes b) xs

pub archived_converge : ArchivedConverge
archived_converge a b xs ys inserted toggled =
    let same = copies_converge a b (calls_among xs) (calls_among ys) inserted toggled in
    rw (archive_trips_keep (begun a) xs, archive_trips_keep (begun b) ys)
    (record { same-characters = same.characters; same_text = same.text })

-- ---- every copy can be archived

-- what a state in form is saved as is archived, since its clock is kept
saved_archives : (s : State) → well_formed s ≡ true → Archives (saved_bytes s)
saved_archives s h = (
  saved_laid Second s,
  in_range-back Second s h (second-says s),
  ap well_formed (says_back Second s h (second-says s)) ∙ h,
)

module _ (b out back : List ℕ) (lent : archive_most ≤ length out) (room : saved_most ≤ length back) where
  both_trips : (s : State) → (well_formed s ≡ true) × (b ≡ saved_bytes s) → BothTrips b out back
  unfolding state_of
  both_trips s w =
      let fine : Archives b = rw w.1 (saved_archives s w.0) in
      let d = (archive_done b out lent).1 fine in
      let few : length b ≤ length back = omega (arith, ap length w.1, saved-length s w.0, room) in
      let again = archive_back b out back d few in
      let archive : List ℕ = bytes_written (archived_in_c b out) in
      record {
        archive = archive;
        archive-written = tells wimtaze_archive b out d;
        archive-says = (archive_writes b out d).archive-says;
        brought-back = tells wimtaze_unarchive archive back again.0 ∙ ap some again.1;
      }

-- no bytes are not in form
none-formed : (b : List ℕ) → b ≡ [] → well_formed (state_of (as_bytes b)) ≡ true → ⊥
unfolding site_number within
none-formed b n f =
    false≢true (sym (ap (λ (c : List ℕ). well_formed (state_of (as_bytes c))) n ∙ ap well_formed (says nothing) ∙ empty-formed 0) ∙ f)

pub copies_archived : CopiesArchived
copies_archived a cs b out back e f lent room =
    let s : State = run (start_of (beginning_of a)) (rules_by (begun a) cs) in
    ⊎_elim (λ n. absurd (none-formed b n f)) (both_trips b out back lent room s)
    (as_saved (follow_holds (holds-begun a) cs) b e)
