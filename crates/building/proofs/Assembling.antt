-- From the arrays to what is returned: the replica that stores the characters, the clock that heard of every insert,
-- and how many are left out.
use Prim.Native.Nat.{ℕ, zero, suc, ◌+◌, ◌-◌, ◌≤◌}
use native.Mathlib.Omega.{arith}
use mathlib.Core.Path.{◌≡◌, refl, sym, ap, ◌∙◌}
use mathlib.Core.Bool.{Bool, true, false}
use mathlib.Core.List.{List, [], ◌∷◌, map}
use lib.Dec.{eqb}
use lib.ListN.{length, take}
use lib.Seq.{take-take}
use Rattle.lists.specs.Lists.{every}
use Rattle.lists.specs.Padding.{pad}
use Rattle.lists.proofs.Tests.{and_left_lem, and_right, and_intro}
use Rattle.woot.specs.declared.Site.{Site}
use Rattle.woot.specs.declared.Insert.{Insert}
use Rattle.woot.specs.declared.Toggle.{Toggle}
use Rattle.woot.specs.declared.Operation.{Operation}
use Rattle.woot.specs.declared.Operation.TheVariants.{Insert as insert, Toggle as toggle}
use Rattle.woot.specs.declared.Character.{Character}
use Rattle.woot.specs.declared.Replica.{Replica}
use Rattle.woot.specs.declared.Document.{Document}
use Rattle.answers.specs.declared.Refusal.TheVariants.{Conflict}
use Rattle.answers.specs.declared.Answer.TheVariants.{Done, Refused}
use Rattle.answers.specs.Answers.{decided}
use Rattle.woot.specs.Clock.{heard, heard_all}
use Rattle.woot.specs.Operations.{inserts, toggles_among}
use Rattle.woot.specs.Ranges.{insert_in_range, toggle_in_range, in_range}
use Rattle.woot.specs.State.{initial}
use Rattle.woot.specs.Table.{key}
use Rattle.woot.specs.Memory.{identifier, in_columns, document_of, stored}
use Rattle.bulk.specs.Building.{left_out, built, unbuilt, disagreeing}
use Rattle.convergence.specs.Passes.{pass, passes, firsts, placed, toggled_all, absentees}
use Rattle.convergence.proofs.Passes.{passes-build, passes_count}
use Rattle.memory.specs.Columns as columns
use Rattle.memory.specs.Lent.{view}
use Rattle.memory.proofs.Fullness.{FullArrays}
use Rattle.memory.proofs.Views.{flat-path, view-stored}
use Rattle.memory.proofs.Characters.{identifier-key}
use Rattle.memory.proofs.Operations.{range_keyed}
use Rattle.clock.specs.Hearing.{heard_id, heard_keys}
use Rattle.clock.proofs.Hearing.{heard-id}
use Rattle.sifting.specs.Keeping.{KeptFirsts}
use Rattle.passes.specs.Steps.{laid_as, Laid, Offers}
use Rattle.passes.proofs.Repeating.{pass_balanced}
use Rattle.building.specs.declared.Built.{Built}
use Rattle.building.specs.Assembly.{Assembles, assembled, Gathers, outcome_of, returned}
use Rattle.building.specs.Steps.{Among, Toggles}
use Rattle.building.proofs.Firsts.{firsts_offered}

-- ---- no more characters than inserts

passes-few : (f : ℕ) (cs : List Character) (is : List Insert) → length (passes f cs is).characters ≤ length cs + length is
unfolding passes
passes-few zero cs is = omega arith
passes-few (suc f) cs is =
    let b = pass_balanced cs is in
    let ds = (pass cs is).characters in
    let js = (pass cs is).left in
    go (eqb (length ds) (length cs)) refl (passes-few f ds js)
  where
    go : (b : Bool) → eqb (length (pass cs is).characters) (length cs) ≡ b
        → length (passes f (pass cs is).characters (pass cs is).left).characters ≤ length (pass cs is).characters + length (pass cs is).left
        → length (passes (suc f) cs is).characters ≤ length cs + length is
    go true e h = rw e (omega (arith, (pass_balanced cs is).shrunk))
    go false e h = rw e (omega (arith, h, (pass_balanced cs is).shrunk))

pub placed-few : (is : List Insert) → length (placed is) ≤ length is
placed-few is = omega (arith, passes-few (suc (length is)) [] is)

-- ---- the replica

pub assembled_so : (t : Site) (is : List Insert) (ts : List Toggle) (d : Document) (r : Replica) → r ≡ record { site = t; document = d }
    → FullArrays d → view d ≡ columns.document_of (toggled_all (placed is) ts) []
    → (left : ℕ) → left ≡ length is - length (placed is) + absentees (placed is) ts
    → ◌≡◌ {A = Built} (record { answer = Done 0 left; replica = r }) (assembled t is ts)
unfolding assembled stored
assembled_so t is ts d r same full e left many =
    λ j.
    record {
      answer = Done 0 (many j);
      replica = (same ∙ λ i. record { site = t; document = flat-path (toggled_all (placed is) ts) [] d full e i }) j;
    }

-- ---- the clock

heard-inserts : (t : Site) (is : List Insert) → every insert_in_range is ≡ true → heard_keys t (map (λ i. key i.id) is) ≡ heard_all t is
unfolding in_range
heard-inserts t [] r = refl
heard-inserts t (i ∷ is) r =
    let small = (range_keyed (insert i) (and_left_lem (insert_in_range i) _ r)).id in
    let one : heard_id t (identifier (key i.id)) ≡ heard t i = ap (heard_id t) (identifier-key i.id small) ∙ sym (heard-id t i) in
    ap (λ (s : Site). heard_keys s (map (λ j. key j.id) is)) one ∙ heard-inserts (heard t i) is (and_right (insert_in_range i) _ r)

inserts_ranged : (os : List Operation) → every in_range os ≡ true → every insert_in_range (inserts os) ≡ true
unfolding in_range
inserts_ranged [] r = refl
inserts_ranged (insert i ∷ os) r = and_intro (and_left_lem (insert_in_range i) _ r) (inserts_ranged os (and_right (insert_in_range i) _ r))
inserts_ranged (toggle t ∷ os) r = inserts_ranged os (and_right (toggle_in_range t) _ r)

pub toggles_ranged : (os : List Operation) → every in_range os ≡ true → every toggle_in_range (toggles_among os) ≡ true
unfolding in_range
toggles_ranged [] r = refl
toggles_ranged (insert i ∷ os) r = toggles_ranged os (and_right (insert_in_range i) _ r)
toggles_ranged (toggle t ∷ os) r = and_intro (and_left_lem (toggle_in_range t) _ r) (toggles_ranged os (and_right (toggle_in_range t) _ r))

-- ---- what is built of operations

module _ {xs : List ℕ} {m : ℕ} {ys : List ℕ} {l : ℕ} (g : Gathers xs m ys l) where
  abbrev os : List Operation
  os = g.operations

  pub gathers_ranged : every insert_in_range (inserts os) ≡ true
  gathers_ranged = inserts_ranged os g.ranged

  pub gathers-site : (n : ℕ) (t : Site) → t ≡ heard_keys (record { number = n; clock = 0 }) (take m xs) → t ≡ (built n os).site
  unfolding built initial
  gathers-site n t e =
      let few : m ≤ 1024 = omega (arith, g.many, g.held.few) in
      e
      ∙ ap (heard_keys (record { number = n; clock = 0 }))
      (sym (take-take m 1024 xs few) ∙ ap (λ (k : ℕ). take k (take 1024 xs)) g.many ∙ g.held.ids)
      ∙ heard-inserts (record { number = n; clock = 0 }) (inserts os) gathers_ranged

  pub gathers-refused : (n : ℕ) → disagreeing (inserts os) ≡ true → returned (outcome_of n os) ≡ returned (unbuilt (Refused Conflict))
  unfolding outcome_of decided
  gathers-refused n e = rw e

  pub gathers-built : (n : ℕ) (t : Site) → t ≡ (built n os).site → disagreeing (inserts os) ≡ false
      → assembled t (firsts (inserts os)) (toggles_among os) ≡ returned (outcome_of n os)
  unfolding assembled outcome_of decided returned built
  gathers-built n t site e =
      let fs = firsts (inserts os) in
      let count : length fs - length (placed fs) + absentees (placed fs) (toggles_among os) ≡ length (left_out os) =
      omega (arith, passes_count os g.ranged e, placed-few fs)
      in
      rw e
      (λ j.
      record {
        answer = Done 0 (count j);
        replica = stored (record { site = site j; characters = passes-build os g.ranged e j; pending = [] });
      })

-- ---- the steps of assembling

-- the arrays of an empty replica hold no characters
module _ (k : ℕ) (r : Replica) (e : r ≡ stored (initial k)) where
  pub empty_laid : laid_as r.document.characters r.document.toggles 0 r.document.table ≡ columns.document_of [] []
  unfolding stored initial document_of
  empty_laid =
      ap (λ (x : Replica). laid_as x.document.characters x.document.toggles 0 x.document.table) e
      ∙ view-stored [] [] (omega arith) (omega arith)

  pub empty-size : length r.document.characters ≡ 4096
  unfolding stored initial document_of in_columns pad
  empty-size = ap (λ (x : Replica). length x.document.characters) e

  pub empty-pending : r.document.pending ≡ in_columns 512 [] [] [] []
  unfolding stored initial document_of
  empty-pending = ap (λ (x : Replica). x.document.pending) e

  pub empty-pending-size : length r.document.pending ≡ 2048
  unfolding in_columns pad
  empty-pending-size = ap length empty-pending

  abbrev pub empty_offers : {xs : List ℕ} {m : ℕ} {ys : List ℕ} {l : ℕ} → Assembles xs m ys l
      → Offers (laid_as r.document.characters r.document.toggles 0 r.document.table) xs m
  empty_offers a =
      record {
        characters = [];
        inserts = a.inserts;
        offering = record { tidy = empty_laid; held = a.held; many = a.many; offered = a.offered };
      }

abbrev pub toggles-on : {d : columns.Document} {xs : List ℕ} {m : ℕ} {cs : List Character} {ts : List Toggle} → Laid d cs → Among xs m ts → Toggles d xs m
toggles-on {cs = cs} {ts} l a = record { characters = cs; toggles = ts; laid = l; among = a }

abbrev pub kept_assembles : {xs : List ℕ} {m : ℕ} {ys : List ℕ} {l : ℕ} (g : Gathers xs m ys l) {zs : List ℕ} {n : ℕ}
    → KeptFirsts (inserts g.operations) zs n → Assembles zs n ys l
kept_assembles g k =
    record {
      inserts = firsts (inserts g.operations);
      toggles = toggles_among g.operations;
      held = k.kept;
      many = k.count;
      offered = firsts_offered (inserts g.operations) (gathers_ranged g) k.kept.few;
      among = g.among;
    }
