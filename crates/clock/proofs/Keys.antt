-- Keys are heard as the inserts that they are of: those of characters, and the own keys of pending operations, among
-- which a toggle's is of no site.
use Prim.Native.Nat.{ℕ, ◌+◌, ◌<◌, max}
use native.Mathlib.Numerals.{add-one}
use native.Mathlib.Omega.{arith}
use mathlib.Core.Path.{◌≡◌, refl, ap, sym, ◌∙◌}
use mathlib.Core.Bool.{Bool, true, false, cond}
use mathlib.Core.List.Memᴰ
use mathlib.Core.List.{List, [], ◌∷◌, ◌++◌, map}
use lib.Dec.{eqb}
use lib.ListN.{length, take, get_or}
use lib.Seq.{take-suc}
use Rattle.woot.specs.declared.Site.{Site}
use Rattle.woot.specs.declared.Insert.{Insert}
use Rattle.woot.specs.declared.Operation.{Operation}
use Rattle.woot.specs.declared.Operation.TheVariants.{Insert as insert, Toggle as toggle}
use Rattle.woot.specs.declared.Character.{Character}
use Rattle.woot.specs.Operations.{origin, inserts}
use Rattle.woot.specs.Clock.{heard, heard_all}
use Rattle.woot.specs.State.{State}
use Rattle.woot.specs.Form.{present_inserts, raised}
use Rattle.woot.specs.Table.{key, keys}
use Rattle.woot.specs.Memory.{identifier, own_key}
use Rattle.index.specs.Keys.{Small, AllSmall}
use Rattle.memory.proofs.Characters.{identifier-key}
use Rattle.memory.proofs.Operations.{AllKeyed}
use Rattle.clock.specs.Hearing.{heard_id, heard_keys}
use Rattle.clock.proofs.Hearing.{heard-id, heard-append}

-- ---- one key more

heard-last : (t : Site) (ks : List ℕ) (k : ℕ) → heard_keys t (ks ++ k ∷ []) ≡ heard_id (heard_keys t ks) (identifier k)
heard-last t [] k = refl
heard-last t (x ∷ ks) k = heard-last (heard_id t (identifier x)) ks k

pub key_more : (t : Site) (ks : List ℕ) (i : ℕ) → i < length ks → heard_keys t (take (i + 1) ks) ≡ heard_id (heard_keys t (take i ks)) (identifier (get_or ks i 0))
key_more t ks i h = rw (add-one i, take-suc ks i 0 h) (heard-last t (take i ks) (get_or ks i 0))

-- ---- whose keys they are

one_key : (t : Site) (i : Insert) → Small i.id → heard_id t (identifier (key i.id)) ≡ heard t i
one_key t i h = ap (heard_id t) (identifier-key i.id h) ∙ sym (heard-id t i)

pub heard-characters : (t : Site) (cs : List Character) → AllSmall cs → heard_keys t (keys cs) ≡ heard_all t (map origin cs)
unfolding origin
heard-characters t [] small = refl
heard-characters t (c ∷ cs) small =
    ap (λ (u : Site). heard_keys u (keys cs)) (one_key t (origin c) (small c (Memᴰ.head refl)).id)
    ∙ heard-characters (heard t (origin c)) cs (λ d m. small d (Memᴰ.tail m))

-- key 0 raises nothing
heard-none : (t : Site) → heard_id t (identifier 0) ≡ t
unfolding heard_id identifier
heard-none t = go (eqb 0 t.number)
  where
    go : (b : Bool) → cond b (record { number = t.number; clock = max t.clock 0 }) t ≡ t
    go true = let same : max t.clock 0 ≡ t.clock = omega arith in λ i. record { number = t.number; clock = same i }
    go false = refl

pub heard-pending : (t : Site) (ps : List Operation) → AllKeyed ps → heard_keys t (map own_key ps) ≡ heard_all t (inserts ps)
unfolding own_key
heard-pending t [] keyed = refl
heard-pending t (insert i ∷ ps) keyed =
    ap (λ (u : Site). heard_keys u (map own_key ps)) (one_key t i (keyed (insert i) (Memᴰ.head refl)).id)
    ∙ heard-pending (heard t i) ps (λ o m. keyed o (Memᴰ.tail m))
heard-pending t (toggle d ∷ ps) keyed =
    ap (λ (u : Site). heard_keys u (map own_key ps)) (heard-none t) ∙ heard-pending t ps (λ o m. keyed o (Memᴰ.tail m))

-- all of a state's keys raise its clock as loading does
pub heard-state : (s : State) → AllSmall s.characters → AllKeyed s.pending
    → heard_keys (heard_keys s.site (keys s.characters)) (map own_key s.pending) ≡ (raised s).site
unfolding raised present_inserts
heard-state s small keyed =
    rw (heard-characters s.site s.characters small, heard-pending (heard_all s.site (map origin s.characters)) s.pending keyed)
    (sym (heard-append s.site (map origin s.characters) (inserts s.pending)))
