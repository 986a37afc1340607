-- A table that agrees with the keys looks up identifiers as a plain search does, since keys are equal as identifiers are.
use Prim.Native.Nat.{ℕ, zero, suc, ◌≤◌, ◌<◌}
use native.Mathlib.Nat.{not-suc-le-zero, le_of_suc-le-suc}
use native.Mathlib.Omega.{arith}
use mathlib.Core.Path.{◌≡◌, refl, ap, ap₂, sym, ◌∙◌, subst}
use mathlib.Core.Bool.{Bool, true, false, cond}
use mathlib.Core.Logic.{⊎_elim}
use mathlib.Core.List.Memᴰ
use mathlib.Core.List.{List, [], ◌∷◌, map}
use mathlib.Core.Option.{Option, none, some}
use lib.Dec.{eqb}
use lib.ListN.{length, get_or, length-map}
use Rattle.lists.specs.Lists.{distinct}
use Rattle.lists.proofs.Members.{get_member}
use Rattle.lists.proofs.Throughout.{throughout-at, throughout-all}
use Rattle.woot.specs.declared.Identifier.{Identifier}
use Rattle.woot.specs.declared.Character.{Character}
use Rattle.woot.specs.declared.Replica.{Replica}
use Rattle.woot.specs.Identifiers.{same}
use Rattle.woot.specs.Table.{key, keys, lookup, searched, found_at, agrees, table_of}
use Rattle.woot.specs.State.{State, blank_character, initial}
use Rattle.woot.specs.Memory.{meaning, stored, document_of, table_agrees, characters_in, characters_of, replica_well_formed}
use Rattle.woot.specs.Form.{well_formed}
use Rattle.bulk.specs.Building.{build}
use Rattle.bulk.specs.Loading.{use_outcome}
use Rattle.bulk.specs.Beginnings.{empty, heaped, loaded}
use Rattle.convergence.proofs.Heaped.{heaped-formed}
use Rattle.convergence.proofs.Used.{used_formed}
use Rattle.convergence.proofs.Forms.{formed}
use Rattle.index.specs.Keys.{Small, AllSmall}
use Rattle.index.specs.Tabled.{Tabled}
use Rattle.index.proofs.Keys.{key-same}
use Rattle.index.proofs.Agreement.{is-at, at-is, lookup-is-search}
use Rattle.index.proofs.Sound.{sound-small, sound_tabled}
use Rattle.replica.proofs.Runs.{form_meant, form_table}
use Rattle.replica.specs.Theorems.{called}
use Rattle.replica.specs.Tables.{looked_up, searched_for, Searches, AgreesExactly, CalledSearches, BegunSearches}
use Rattle.replica.proofs.Runs.{formed-within, meaning-stored, table-stored}
use Rattle.replica.proofs.Kept.{replicas_formed}

searched-keys : (x : Identifier) → Small x → (cs : List Character) → AllSmall cs → searched (key x) (keys cs) ≡ searched_for x cs
unfolding searched searched_for
searched-keys x p [] s = refl
searched-keys x p (c ∷ cs) s =
    ap₂ (λ (b : Bool) (w : Option ℕ). cond b (some 0) (elim w [ none ↦ none | some i ↦ some (suc i) ]))
    (key-same x c.id p (s c (Memᴰ.head refl)).id)
    (searched-keys x p cs (λ d m. s d (Memᴰ.tail m)))

agreeing_searches : (r : Replica) → AllSmall (meaning r).characters → table_agrees r ≡ true → Searches r
unfolding looked_up table_agrees
agreeing_searches r s h x p =
    lookup-is-search r.document.table (keys (meaning r).characters) h (key x) ∙ searched-keys x (omega arith) (meaning r).characters s

-- a replica in form
pub formed_searches : (r : Replica) → replica_well_formed r ≡ true → Searches r
formed_searches r f = agreeing_searches r (sound-small (formed _ (form_meant r f)).sound) (form_table r f)

pub called_searches : CalledSearches
called_searches r c f = formed_searches (called r c) (replicas_formed r c f)

-- what is stored of a state in form
pub stored_searches : (s : State) → well_formed s ≡ true → Searches (stored s)
stored_searches s h =
    let means : well_formed (meaning (stored s)) ≡ true = ap well_formed (meaning-stored s (formed-within s h)) ∙ h in
    agreeing_searches (stored s) (sound-small (formed _ means).sound) (table-stored s h)

initial_searches : (n : ℕ) → Searches (stored (initial n))
unfolding table_agrees agrees meaning stored document_of initial characters_in characters_of
initial_searches n = agreeing_searches (stored (initial n)) (λ c m. absurd (Memᴰ.not-nil m)) refl

pub begun_searches : BegunSearches
begun_searches (empty n) = initial_searches n
begun_searches (heaped n heap) =
    ⊎_elim (λ e. subst (λ s. Searches (stored s)) (sym e) (initial_searches 0))
    (λ f. stored_searches (build n heap).state f)
    (heaped-formed n heap)
begun_searches (loaded s) =
    ⊎_elim (λ e. subst (λ t. Searches (stored t)) (sym e) (initial_searches 0))
    (λ f. stored_searches (use_outcome s).state f)
    (used_formed s)

-- ---- the other way

-- a plain search finds each key of sound lists at its own index
module _ (cs : List Character) (t : Tabled (table_of (keys cs)) (keys cs)) where
  own-index : (i : ℕ) → i < length (keys cs) → searched (get_or (keys cs) i 0) (keys cs) ≡ some i
  unfolding agrees
  own-index i h =
      sym (lookup-is-search (table_of (keys cs)) (keys cs) t.agree (get_or (keys cs) i 0))
      ∙ is-at i _ (throughout-at (found_at (table_of (keys cs)) (keys cs)) (length (keys cs)) i h t.agree)

key-at : (cs : List Character) (i : ℕ) → i < length cs → get_or (keys cs) i 0 ≡ key (get_or cs i blank_character).id
key-at [] i h = absurd (not-suc-le-zero h)
key-at (c ∷ cs) zero h = refl
key-at (c ∷ cs) (suc i) h = key-at cs i (le_of_suc-le-suc h)

searching_agrees : (r : Replica) → well_formed (meaning r) ≡ true → Searches r → table_agrees r ≡ true
unfolding looked_up table_agrees agrees
searching_agrees r f h = throughout-all (found_at r.document.table (keys cs)) (length (keys cs)) (λ i l. at-is i _ (found i l))
  where
    cs : List Character
    cs = (meaning r).characters

    small : AllSmall cs
    small = sound-small (formed (meaning r) f).sound

    found : (i : ℕ) → i < length (keys cs) → lookup r.document.table (keys cs) (get_or (keys cs) i 0) ≡ some i
    found i l =
        let short : i < length cs = omega (arith, length-map cs (λ (c : Character). key c.id)) in
        let x = (get_or cs i blank_character).id in
        let low = (small (get_or cs i blank_character) (get_member cs i blank_character short)).id in
        let at = key-at cs i short in
        ap (lookup r.document.table (keys cs)) at ∙ h x (omega arith) ∙ sym (searched-keys x low cs small)
        ∙ ap (λ (k : ℕ). searched k (keys cs)) (sym at)
        ∙ own-index cs (sound_tabled (formed (meaning r) f).sound) i l

pub agrees_exactly : AgreesExactly
agrees_exactly r f = (agreeing_searches r (sound-small (formed (meaning r) f).sound), searching_agrees r f)
