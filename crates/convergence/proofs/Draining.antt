-- What draining keeps and ends in: sound lists stay sound, nothing executable is left, and nothing is lost on the way.
use Prim.Native.Nat.{◌+◌}
use native.Mathlib.Omega.{arith}
use mathlib.Core.Path.{◌≡◌, refl, sym, subst}
use mathlib.Core.Bool.{Bool, true, false}
use mathlib.Core.List.{List, ◌∷◌, ◌++◌, map}
use lib.ListN.{length}
use Rattle.woot.specs.declared.Identifier.{Identifier}
use Rattle.woot.specs.declared.Insert.{Insert}
use Rattle.woot.specs.declared.Operation.{Operation}
use Rattle.woot.specs.declared.Operation.TheVariants.{Insert as insert, Toggle as toggle}
use Rattle.woot.specs.declared.Character.{Character}
use Rattle.woot.specs.Operations.{character}
use Rattle.woot.specs.Ranges.{in_range}
use Rattle.woot.specs.Placing.{identifiers, integrate_insert}
use Rattle.woot.specs.Pending.{executable, crossed, unplaceable, integrate, Drained, and_integrated, and_discarded, drained}
use Rattle.lists.specs.Lists.{any, every}
use Rattle.lists.proofs.Tests.{and_intro}
use Rattle.lists.proofs.Members.{every_member}
use Rattle.convergence.proofs.Extract.{Extract, extract_length, extract_itself, extract_front, extract_map, extract_every, every_extract}
use Rattle.convergence.specs.Invariants.{Sound, pending_ids}
use Rattle.convergence.proofs.Soundness.{inserts-same, ids_extract, sound-out, out_fresh, out-room, placed_extract, sound_in, sound_toggle}
use Rattle.convergence.proofs.Toggling.{toggle_identifiers}
use Rattle.convergence.proofs.Drains.{Draining, stop, discard, carry}

-- carrying out what was pending keeps the lists sound
pub sound-carry : {cs : List Character} {os ps : List Operation} (o : Operation) → Extract o os ps → Sound cs ps → executable cs o ≡ true → crossed cs o ≡ false → unplaceable cs o ≡ false → Sound (integrate cs o) os
unfolding integrate in_range
sound-carry {cs} {os} {ps} (insert i) e s ready uncrossed placeable =
    sound_in i (sound-out e s) (every_member in_range s.pending-ranges (extract_itself e)) (out_fresh e s) (out-room e s) ready uncrossed placeable
sound-carry {cs} {os} {ps} (toggle d) e s ready uncrossed placeable = sound_toggle d (every_member in_range s.pending-ranges (extract_itself e)) (sound-out e s)

pub drained-sound : {cs : List Character} {ps : List Operation} {d : Drained} → Draining cs ps d → Sound cs ps → Sound d.characters d.pending
unfolding drained and_discarded and_integrated
drained-sound (stop h) s = s
drained-sound (discard t f why r) s = drained-sound r (sound-out f.extracted s)
drained-sound (carry t f uncrossed placeable r) s = drained-sound r (sound-carry t.operation f.extracted s f.passed uncrossed placeable)

pub drained_unready : {cs : List Character} {ps : List Operation} {d : Drained} → Draining cs ps d → any (executable d.characters) d.pending ≡ false
unfolding drained and_discarded and_integrated
drained_unready (stop h) = h
drained_unready (discard t f why r) = drained_unready r
drained_unready (carry t f uncrossed placeable r) = drained_unready r

-- each that was pending is pending still, or was carried out, or was discarded
pub drained_balance : {cs : List Character} {ps : List Operation} {d : Drained} → Draining cs ps d → length ps ≡ length d.pending + length d.integrated + length d.discarded
unfolding drained and_discarded and_integrated
drained_balance (stop h) = omega arith
drained_balance (discard {d = d} t f why r) = omega (arith, extract_length f.extracted, drained_balance r)
drained_balance (carry {d = d} t f uncrossed placeable r) = omega (arith, extract_length f.extracted, drained_balance r)

-- ---- identifiers: what is true of all of them before is true of all of them afterwards, and of those carried out

pub out-every : (p : Identifier → Bool) (cs : List Character) (o : Operation) {os ps : List Operation} → Extract o os ps → every p (identifiers cs ++ pending_ids ps) ≡ true → every p (identifiers cs ++ pending_ids os) ≡ true
out-every p cs (insert i) e h = every_extract p (ids_extract cs e) h
out-every p cs (toggle d) e h = subst (λ (js : List Insert). every p (identifiers cs ++ map (λ j. j.id) js) ≡ true) (inserts-same e) h

-- an insert in its place brings its identifier
pub in_every : (p : Identifier → Bool) (cs : List Character) (ps : List Operation) (i : Insert) → executable cs (insert i) ≡ true → crossed cs (insert i) ≡ false → unplaceable cs (insert i) ≡ false → p i.id ≡ true → every p (identifiers cs ++ pending_ids ps) ≡ true → every p (identifiers (integrate_insert cs i) ++ pending_ids ps) ≡ true
unfolding character
in_every p cs ps i ready uncrossed placeable new h =
    extract_every p (extract_front (pending_ids ps) (extract_map (λ c. c.id) (placed_extract cs i ready uncrossed placeable))) new h

carry-every : (p : Identifier → Bool) (cs : List Character) (o : Operation) {os ps : List Operation} → Extract o os ps → executable cs o ≡ true → crossed cs o ≡ false → unplaceable cs o ≡ false → every p (identifiers cs ++ pending_ids ps) ≡ true → every p (identifiers (integrate cs o) ++ pending_ids os) ≡ true
unfolding integrate
carry-every p cs (insert i) {os} e ready uncrossed placeable h =
    in_every p cs os i ready uncrossed placeable (every_member p h (extract_itself (ids_extract cs e))) (out-every p cs (insert i) e h)
carry-every p cs (toggle d) {os} e ready uncrossed placeable h =
    subst (λ xs. every p (xs ++ pending_ids os) ≡ true) (sym (toggle_identifiers cs d)) (out-every p cs (toggle d) e h)

pub drained-every : (p : Identifier → Bool) {cs : List Character} {ps : List Operation} {d : Drained} → Draining cs ps d → every p (identifiers cs ++ pending_ids ps) ≡ true → every p (identifiers d.characters ++ pending_ids d.pending) ≡ true
unfolding drained and_discarded and_integrated
drained-every p (stop e) h = h
drained-every p {cs} (discard t f why r) h = drained-every p r (out-every p cs t.operation f.extracted h)
drained-every p {cs} (carry t f uncrossed placeable r) h =
    drained-every p r (carry-every p cs t.operation f.extracted f.passed uncrossed placeable h)

-- the identifiers of inserts, one more or none more in front
first-every : (p : Identifier → Bool) (cs : List Character) (o : Operation) (qs : List Operation) {os ps : List Operation} → Extract o os ps → every p (identifiers cs ++ pending_ids ps) ≡ true → every p (pending_ids qs) ≡ true → every p (pending_ids (o ∷ qs)) ≡ true
first-every p cs (insert i) qs e h k = and_intro (every_member p h (extract_itself (ids_extract cs e))) k
first-every p cs (toggle d) qs e h k = k

pub integrated_every : (p : Identifier → Bool) {cs : List Character} {ps : List Operation} {d : Drained} → Draining cs ps d → every p (identifiers cs ++ pending_ids ps) ≡ true → every p (pending_ids d.integrated) ≡ true
unfolding drained and_discarded and_integrated
integrated_every p (stop e) h = refl
integrated_every p {cs} (discard t f why r) h = integrated_every p r (out-every p cs t.operation f.extracted h)
integrated_every p {cs} (carry {d = d} t f uncrossed placeable r) h =
    first-every p cs t.operation d.integrated f.extracted h (integrated_every p r (carry-every p cs t.operation f.extracted f.passed uncrossed placeable h))
