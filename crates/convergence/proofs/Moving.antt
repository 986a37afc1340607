-- What a call does to the count of visible characters through one that is shown: an insert, with all that it releases,
-- puts in new characters and changes no old one, so that the count rises by as many as went in above at most; a toggle
-- changes one character.
use Prim.Native.Nat.{ℕ, suc, ◌+◌, ◌≤◌}
use native.Mathlib.Omega.{arith}
use mathlib.Core.Path.{◌≡◌, refl, ap, ap₂, sym, ◌∙◌, subst}
use mathlib.Core.Bool.{Bool, true, false, ◌||◌, cond}
use mathlib.Core.List.Memᴰ
use mathlib.Core.List.{List, [], ◌∷◌, map, Memᴰ}
use mathlib.Core.Logic.{◌⊎◌, inl, inr, ⊎_elim}
use lib.ListN.{length}
use Rattle.woot.specs.declared.Identifier.{Identifier}
use Rattle.woot.specs.declared.Toggle.{Toggle}
use Rattle.woot.specs.declared.Operation.{Operation}
use Rattle.woot.specs.declared.Operation.TheVariants.{Insert as insert, Toggle as toggle}
use Rattle.woot.specs.declared.Character.{Character}
use Rattle.answers.specs.declared.Answer.{Answer}
use Rattle.woot.specs.Identifiers.{begin, same}
use Rattle.woot.specs.Operations.{character, is_visible, toggled_by}
use Rattle.woot.specs.State.{State}
use Rattle.woot.specs.Placing.{identifiers, held, integrate_insert, integrate_toggle}
use Rattle.woot.specs.Pending.{executable, crossed, unplaceable, integrate, Drained, and_integrated, and_discarded, drained}
use Rattle.woot.specs.Calls.{visibles, Outcome, unchanged, with_characters, with_pending, insert_carried, carry_out, defer}
use Rattle.woot.specs.Cursor.{visible_through}
use Rattle.lists.specs.Lists.{any, keep, distinct}
use Rattle.lists.proofs.Tests.{either, clash, or-false-left, or-false-right}
use Rattle.convergence.specs.Agreement.{Standing}
use Rattle.convergence.proofs.Identifiers.{eq-same, same-eq, same_sym}
use Rattle.convergence.proofs.Extract.{Extract, extract_any, extract_length}
use Rattle.convergence.proofs.Part.{Part, none, skip, keeps, part_member, part_same, part_length, part_extract, part_change, part-distinct, part_counts, part-map}
use Rattle.convergence.proofs.Places.{held-begin, held-id, held_member, held-apart, not-begin}
use Rattle.convergence.proofs.InsertionPoint.{member_range}
use Rattle.convergence.proofs.Toggling.{toggled-id, toggle_length, toggle_held}
use Rattle.convergence.proofs.Soundness.{standing, placed_extract, sound_in}
use Rattle.convergence.proofs.Drains.{Draining, stop, discard, carry}
use Rattle.convergence.proofs.Draining.{drained-sound, drained_balance}
use Rattle.convergence.proofs.Through.{up_to, shown_in, through-begin, through-character, rest-distinct, other-identifier, Shown, visible_identifier, shown-held}
use Rattle.convergence.proofs.Shares.{pending-bound}
use Rattle.convergence.proofs.Steps.{Step, turned, adds, raises, defers, after-insert}

-- ---- characters put in

part-identifiers : {cs ds : List Character} → Part cs ds → {x : Identifier} → Memᴰ x (identifiers cs) → Memᴰ x (identifiers ds)
part-identifiers p m = part_member (part-map (λ c. c.id) p) m

-- a member that is another than the first
later : (c : Character) (cs : List Character) {x : Identifier} → Memᴰ x (identifiers (c ∷ cs)) → same x c.id ≡ false → Memᴰ x (identifiers cs)
later c cs m e = ⊎_elim (λ f. clash (eq-same f) e) (λ n. n) (Memᴰ.cases_cons m)

-- the part through x is a part of what stands through x, which has at most all the new ones more
module _ {x : Identifier} where
  up-part : {cs ds : List Character} → Part cs ds → distinct same (identifiers ds) ≡ true → Memᴰ x (identifiers cs) → Part (up_to x cs) (up_to x ds)
  up-part none d m = elim m [ ]
  up-part (skip {z = z} {zs = ds} p) d m = rw (other-identifier z ds d (part-identifiers p m)) (skip (up-part p (rest-distinct z ds d) m))
  up-part (keeps {z = z} {xs = cs} {zs = ds} p) d m = go (same x z.id) refl (up-part p (rest-distinct z ds d))
    where
      go : (b : Bool) → same x z.id ≡ b → (Memᴰ x (identifiers cs) → Part (up_to x cs) (up_to x ds)) → Part (z ∷ cond b [] (up_to x cs)) (z ∷ cond b [] (up_to x ds))
      go true e again = keeps none
      go false e again = keeps (again (later z cs m e))

  up-length : {cs ds : List Character} → Part cs ds → distinct same (identifiers ds) ≡ true → Memᴰ x (identifiers cs) → length (up_to x ds) + length cs ≤ length (up_to x cs) + length ds
  up-length none d m = elim m [ ]
  up-length (skip {z = z} {zs = ds} p) d m = rw (other-identifier z ds d (part-identifiers p m)) (omega (arith, up-length p (rest-distinct z ds d) m))
  up-length (keeps {z = z} {xs = cs} {zs = ds} p) d m = go (same x z.id) refl (up-length p (rest-distinct z ds d))
    where
      go : (b : Bool) → same x z.id ≡ b → (Memᴰ x (identifiers cs) → length (up_to x ds) + length cs ≤ length (up_to x cs) + length ds) → suc (length (cond b [] (up_to x ds))) + suc (length cs) ≤ suc (length (cond b [] (up_to x cs))) + suc (length ds)
      go true e again = omega (arith, part_length p)
      go false e again = omega (arith, again (later z cs m e))

-- a toggle of what is not among the part leaves it
toggled_elsewhere : (t : Toggle) (cs : List Character) → held cs t.target ≡ false → (c : Character) → Memᴰ c cs → toggled_by t c ≡ c
unfolding toggled_by
toggled_elsewhere t cs h c m = rw (same_sym t.target c.id ∙ held-apart cs c.id t.target (held-id cs m) h)

-- an operation carried out that lacked something among the part leaves it
carried_part : {old cs : List Character} → Part old cs → (o : Operation) → executable cs o ≡ true → crossed cs o ≡ false → unplaceable cs o ≡ false → executable old o ≡ false → Part old (integrate cs o)
unfolding integrate executable integrate_toggle
carried_part {old} {cs} p (insert i) ready straight placed unready = part_extract p (placed_extract cs i ready straight placed)
carried_part {old} p (toggle u) ready straight placed unready = part_change (toggled_by u) (toggled_elsewhere u old unready) p

-- what waits in a replica in form waits for new characters, so that draining changes no old one
drained-part : {old cs : List Character} {ps : List Operation} {d : Drained} → Draining cs ps d → Part old cs → any (executable old) ps ≡ false → Part old d.characters
unfolding drained and_discarded and_integrated
drained-part (stop h) p w = p
drained-part {old} (discard t f why r) p w = drained-part r p (or-false-right (executable old t.operation) (any (executable old) t.others) (sym (extract_any (executable old) f.extracted) ∙ w))
drained-part {old} (carry t f straight placed r) p w =
    let out : (executable old t.operation || any (executable old) t.others) ≡ false = sym (extract_any (executable old) f.extracted) ∙ w in
    drained-part r (carried_part p t.operation f.passed straight placed (or-false-left (executable old t.operation) (any (executable old) t.others) out))
    (or-false-right (executable old t.operation) (any (executable old) t.others) out)

-- each operation carried out brings one character at most
carried_length : (cs : List Character) (o : Operation) → executable cs o ≡ true → crossed cs o ≡ false → unplaceable cs o ≡ false → length (integrate cs o) ≤ suc (length cs)
unfolding integrate
carried_length cs (insert i) ready straight placed = omega (arith, extract_length (placed_extract cs i ready straight placed))
carried_length cs (toggle u) ready straight placed = omega (arith, toggle_length cs u)

drained-length : {cs : List Character} {ps : List Operation} {d : Drained} → Draining cs ps d → length d.characters ≤ length cs + length d.integrated
unfolding drained and_discarded and_integrated
drained-length (stop h) = omega arith
drained-length (discard t f why r) = drained-length r
drained-length {cs} (carry {d = d} t f straight placed r) = omega (arith, drained-length r, carried_length cs t.operation f.passed straight placed)

-- ---- one character toggled

-- two counts differ by one at most
abbrev Close : ℕ → ℕ → Type 0
Close m n = (m ≤ suc n) × (n ≤ suc m)

-- with one more character, whatever it is, or with the same one
close-any : (a b : Bool) (c d : Character) (cs : List Character) → Close (length (cond a (c ∷ cs) cs)) (length (cond b (d ∷ cs) cs))
close-any true true c d cs = (omega arith, omega arith)
close-any true false c d cs = (omega arith, omega arith)
close-any false true c d cs = (omega arith, omega arith)
close-any false false c d cs = (omega arith, omega arith)

close-same : (b : Bool) (c : Character) (cs ds : List Character) → Close (length cs) (length ds) → Close (length (cond b (c ∷ cs) cs)) (length (cond b (c ∷ ds) ds))
close-same true c cs ds h = (omega arith, omega arith)
close-same false c cs ds h = h

pub map-still : (f : Character → Character) (cs : List Character) → ((c : Character) → Memᴰ c cs → f c ≡ c) → map f cs ≡ cs
map-still f [] h = refl
map-still f (c ∷ cs) h = ap₂ (λ (d : Character) (ds : List Character). d ∷ ds) (h c (Memᴰ.head refl)) (map-still f cs (λ d m. h d (Memᴰ.tail m)))

toggled-other : (t : Toggle) (c : Character) → same t.target c.id ≡ false → toggled_by t c ≡ c
unfolding toggled_by
toggled-other t c e = rw e

-- of characters with distinct identifiers a toggle shows or hides one at most
toggled-close : (t : Toggle) (cs : List Character) → distinct same (identifiers cs) ≡ true → Close (shown_in cs) (shown_in (map (toggled_by t) cs))
toggled-close t [] d = (omega arith, omega arith)
toggled-close t (c ∷ cs) d = ⊎_elim here (there (toggled-close t cs (rest-distinct c cs d))) (either (same t.target c.id))
  where
    here : same t.target c.id ≡ true → Close (shown_in (c ∷ cs)) (shown_in (map (toggled_by t) (c ∷ cs)))
    here e =
        let still : map (toggled_by t) cs ≡ cs = map-still (toggled_by t) cs (λ b m. toggled-other t b (ap (λ y. same y b.id) (same-eq t.target c.id e) ∙ same_sym c.id b.id ∙ other-identifier c cs d (Memᴰ.map (λ a. a.id) m))) in
        rw still (close-any (is_visible c) (is_visible (toggled_by t c)) c (toggled_by t c) (keep is_visible cs))

    there : Close (shown_in cs) (shown_in (map (toggled_by t) cs)) → same t.target c.id ≡ false → Close (shown_in (c ∷ cs)) (shown_in (map (toggled_by t) (c ∷ cs)))
    there h e = rw (toggled-other t c e) (close-same (is_visible c) c (keep is_visible cs) (keep is_visible (map (toggled_by t) cs)) h)

-- the walk stops where it stopped
toggled-up : (t : Toggle) (x : Identifier) (cs : List Character) → up_to x (map (toggled_by t) cs) ≡ map (toggled_by t) (up_to x cs)
toggled-up t x [] = refl
toggled-up t x (c ∷ cs) =
    ap (λ (y : Identifier). toggled_by t c ∷ cond (same x y) [] (up_to x (map (toggled_by t) cs))) (toggled-id t c)
    ∙ go (same x c.id) (toggled-up t x cs)
  where
    go : (b : Bool) → up_to x (map (toggled_by t) cs) ≡ map (toggled_by t) (up_to x cs) → toggled_by t c ∷ cond b [] (up_to x (map (toggled_by t) cs)) ≡ map (toggled_by t) (c ∷ cond b [] (up_to x cs))
    go true e = refl
    go false e = ap (λ (l : List Character). toggled_by t c ∷ l) e

up-prefix : (x : Identifier) (cs : List Character) → Part (up_to x cs) cs
up-prefix x [] = none
up-prefix x (c ∷ cs) = go (same x c.id) (up-prefix x cs)
  where
    empty : (ds : List Character) → Part [] ds
    empty [] = none
    empty (d ∷ ds) = skip (empty ds)

    go : (b : Bool) → Part (up_to x cs) cs → Part (c ∷ cond b [] (up_to x cs)) (c ∷ cs)
    go true p = keeps (empty cs)
    go false p = keeps p

-- ---- a call

-- through one that was shown: it is still held, and the count fell by one at most and rose by 513 at most
pub record Near (cs ds : List Character) (x : Identifier) : Type 0 where
  pub stays : held ds x ≡ true
  pub falls : visible_through cs x ≤ suc (visible_through ds x)
  pub rises : visible_through ds x ≤ visible_through cs x + 513

near_same : (cs : List Character) (x : Identifier) → Shown cs x → Near cs cs x
near_same cs x v = record { stays = shown-held cs x v; falls = omega arith; rises = omega arith }

near_begin : (cs ds : List Character) → Near cs ds begin
near_begin cs ds = record { stays = held-begin ds; falls = omega (arith, through-begin cs); rises = omega (arith, through-begin ds) }

-- characters put in
near_part : {cs ds : List Character} → Standing cs → Standing ds → Part cs ds → length ds ≤ length cs + 513 → {x : Identifier} → Memᴰ x (visibles cs) → Near cs ds x
near_part {cs} {ds} s t p few {x} m =
    let k = visible_identifier cs m in
    let q = up-part p t.apart k in
    let n = part_counts is_visible q in
    let e = not-begin x (member_range cs s.ranges k) in
    record {
      stays = held_member ds (part-identifiers p k);
      falls = omega (arith, n, through-character cs x e, through-character ds x e);
      rises = omega (arith, n, up-length p t.apart k, through-character cs x e, through-character ds x e);
    }

-- one of them toggled
near_toggle : {cs : List Character} (t : Toggle) → Standing cs → {x : Identifier} → Memᴰ x (visibles cs) → Near cs (integrate_toggle cs t) x
unfolding integrate_toggle
near_toggle {cs} t s {x} m =
    let k = visible_identifier cs m in
    let e = not-begin x (member_range cs s.ranges k) in
    let n = toggled-close t (up_to x cs) (part-distinct same (part-map (λ c. c.id) (up-prefix x cs)) s.apart) in
    let u = ap shown_in (toggled-up t x cs) in
    record {
      stays = toggle_held cs t x ∙ held_member cs k;
      falls = omega (arith, n, u, through-character cs x e, through-character (map (toggled_by t) cs) x e);
      rises = omega (arith, n, u, through-character cs x e, through-character (map (toggled_by t) cs) x e);
    }

pub step_near : (s : State) {r : Outcome Answer} → Step s r → (x : Identifier) → Shown s.characters x → Near s.characters r.state.characters x
unfolding unchanged carry_out defer with_characters with_pending
step_near s (turned a w) x v = near_same s.characters x v
step_near s (defers o a) x v = near_same s.characters x v
step_near s {r} (raises d a) x (inl e) = subst (Near s.characters (integrate_toggle s.characters d)) (sym e) (near_begin s.characters (integrate_toggle s.characters d))
step_near s (raises d a) x (inr m) = near_toggle d (standing a.formed.sound) m
step_near s (adds i a) x (inl e) = subst (Near s.characters (insert_carried s i).characters) (sym e) (near_begin s.characters (insert_carried s i).characters)
step_near s (adds i a) x (inr m) =
    near_part (standing a.formed.sound) (standing (drained-sound w (sound_in i a.formed.sound a.ranged a.fresh a.space a.ready a.uncrossed a.placeable)))
    (drained-part w (part_extract (part_same s.characters) put_in) a.formed.unready)
    (omega (arith, drained-length w, extract_length put_in, drained_balance w, pending-bound a.formed.sound))
    m
  where
    w : Draining (integrate_insert s.characters i) s.pending (insert_carried s i)
    w = after-insert s i

    put_in : Extract (character i) s.characters (integrate_insert s.characters i)
    put_in = placed_extract s.characters i a.ready a.uncrossed a.placeable
