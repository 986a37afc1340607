-- Building on bytes is the rule's on what they say, so what is known of the rule is known of it.
use Prim.Native.Nat.{ℕ}
use native.Mathlib.Omega.{arith}
use mathlib.Core.Path.{◌≡◌, refl, ap, sym, subst, ◌∙◌}
use mathlib.Core.Bool.{Bool, true, false}
use mathlib.Core.List.{List, [], ◌∷◌, map}
use Rattle.woot.specs.declared.Operation.{Operation}
use Rattle.answers.specs.declared.Refusal.TheVariants.{Layout}
use Rattle.answers.specs.declared.Answer.TheVariants.{Refused}
use Rattle.woot.specs.declared.Replica.{Replica}
use Rattle.woot.specs.State.{State, initial}
use Rattle.woot.specs.Calls.{receive}
use Rattle.woot.specs.Memory.{meaning, stored, replica_well_formed}
use Rattle.answers.specs.Answers.{decided, done, reply}
use Rattle.woot.specs.Histories.{receiving, outcome, run}
use Rattle.bulk.specs.Beginnings.{empty, heaped, start_of}
use Rattle.bulk.specs.Building.{unbuilt, build}
use Rattle.convergence.specs.Building.{received}
use Rattle.convergence.proofs.Building.{refused-unbuilt, built_as_received, built-formed}
use Rattle.replica.specs.Tables.{Searches}
use Rattle.replica.proofs.Runs.{formed-within, meaning-stored, form_stored, initial-within, begun-within}
use Rattle.replica.proofs.Runs.{replicas_follow, run-within}
use Rattle.replica.proofs.Tables.{begun_searches}
use Rattle.heap.specs.Format.{heap_laid_out, heap_said}
use Rattle.building.specs.declared.Built.{Built}
use Rattle.building.specs.Calls.{built_outcome, built_by}
use Rattle.building.specs.Theorems.{BuiltReceives, BuiltBegins, BuiltRefusedEmpty, BuiltWellFormed, BuiltSearches}

module _ (n : ℕ) (heap : List ℕ) where
  -- the two ways that the layout goes
  ruled : heap_laid_out heap ≡ true → built_outcome n heap ≡ build n (heap_said heap)
  unfolding built_outcome decided
  ruled e = rw e

  unread : heap_laid_out heap ≡ false → built_outcome n heap ≡ unbuilt (Refused Layout)
  unfolding built_outcome decided
  unread e = rw e

  done_laid : (reply (built_by n heap).answer).word ≡ done → heap_laid_out heap ≡ true
  unfolding built_by unbuilt reply
  done_laid h = go (heap_laid_out heap) refl
    where
      go : (b : Bool) → heap_laid_out heap ≡ b → heap_laid_out heap ≡ true
      go true e = e
      go false e = absurd (let z : ◌≡◌ {A = ℕ} 0 1 = cc (rw (unread e) at h) in omega arith)

  rule_done : (e : heap_laid_out heap ≡ true) → (reply (built_by n heap).answer).word ≡ done → (reply (build n (heap_said heap)).answer).word ≡ done
  unfolding built_by
  rule_done e h = rw (ruled e) at h

-- ---- the beginning

pub built-begins : BuiltBegins
unfolding built_by
built-begins n heap e = rw (ruled n heap e)

pub built_searches : BuiltSearches
unfolding built_by unbuilt
built_searches n heap = go (heap_laid_out heap) refl
  where
    go : (b : Bool) → heap_laid_out heap ≡ b → Searches (built_by n heap).replica
    go true e = subst Searches (sym (built-begins n heap e)) (begun_searches (heaped n (heap_said heap)))
    go false e = rw (unread n heap e) (begun_searches (empty 0))

pub built_well_formed : BuiltWellFormed
built_well_formed n heap h =
    let e = done_laid n heap h in
    let s = (build n (heap_said heap)).state in
    let w = (built-formed n (heap_said heap) (rule_done n heap e h)).1 in
    ap replica_well_formed (built-begins n heap e) ∙ form_stored s (formed-within s w) ∙ w

pub built-refused-empty : BuiltRefusedEmpty
unfolding built_by unbuilt
built-refused-empty n heap r h = go (heap_laid_out heap) refl
  where
    go : (b : Bool) → heap_laid_out heap ≡ b → built_by n heap ≡ record { answer = Refused r; replica = stored (initial 0) }
    go true e = rw (ruled n heap e, refused-unbuilt n (heap_said heap) r (rw (ruled n heap e) at h))
    go false e =
        let same : Refused Layout ≡ Refused r = rw (unread n heap e) at h in
        rw (unread n heap e) (λ j. record { answer = same j; replica = stored (initial 0) })

-- ---- receiving one by one

receivings : (s : State) (os : List Operation) → run s (map receiving os) ≡ received s os
unfolding outcome
receivings s [] = refl
receivings s (o ∷ os) = receivings (receive s o).state os

pub built_receives : BuiltReceives
built_receives n m heap os h site from ready all =
    let e = done_laid n heap h in
    let b = heaped n (heap_said heap) in
    let cs = map receiving os in
    let built = ap meaning (built-begins n heap e) ∙ meaning-stored (start_of b) (begun-within b) in
    let ends = run (initial m) cs in
    let received-so = ap meaning (replicas_follow (empty m) cs) ∙ meaning-stored ends (run-within (initial m) cs (initial-within m)) ∙ receivings (initial m) os in
    ap (λ (s : State). s.characters) built
    ∙ built_as_received n m (heap_said heap) os (rule_done n heap e h) site from ready all
    ∙ ap (λ (s : State). s.characters) (sym received-so)
