-- What draining and the calls do to the two lists keeps them sound: one operation taken out, an insert put in its place,
-- a character toggled, an operation put at the end of the pending ones.
use Prim.Native.Nat.{ℕ, zero, suc, ◌+◌, ◌≤◌, ◌<◌}
use native.Mathlib.Omega.{arith}
use mathlib.Core.Path.{◌≡◌, refl, ap, sym, ◌∙◌, subst}
use mathlib.Core.Bool.{Bool, true, false, not}
use mathlib.Core.Logic.{◌⊎◌, inl, inr, ⊎_elim}
use mathlib.Core.List.{List, [], ◌∷◌, ◌++◌, map}
use lib.Dec.{leb, eqb}
use lib.ListN.{length}
use borrow.Author.Tests.{leb-true, le-leb, eqb-true, eq-eqb, eqb-false, ne_eqb, not-true}
use Rattle.woot.specs.declared.Identifier.{Identifier}
use Rattle.woot.specs.declared.Insert.{Insert}
use Rattle.woot.specs.declared.Toggle.{Toggle}
use Rattle.woot.specs.declared.Operation.{Operation}
use Rattle.woot.specs.declared.Operation.TheVariants.{Insert as insert, Toggle as toggle}
use Rattle.woot.specs.declared.Character.{Character}
use Rattle.woot.specs.Limits.{last_site, capacity, share}
use Rattle.woot.specs.Identifiers.{begin, end, same}
use Rattle.woot.specs.Operations.{sender, character, inserts, toggles_among, same_toggle}
use Rattle.woot.specs.Ranges.{character_id, insert_in_range, toggle_in_range, character_in_range, in_range}
use Rattle.woot.specs.Placing.{above, held, identifiers, insert_at, integrate_insert, integrate_toggle}
use Rattle.woot.specs.Pending.{executable, crossed, unplaceable, pending_from}
use Rattle.woot.specs.Form.{countdown, ordered}
use Rattle.convergence.specs.Agreement.{Standing}
use Rattle.lists.specs.Lists.{any, every, keep, distinct}
use Rattle.lists.proofs.Tests.{either, and_left_lem, and_right, and_intro, or_right, or-false, or-false-left, or-false-right, not-intro}
use Rattle.lists.proofs.Members.{every_member, member_every}
use Rattle.convergence.proofs.Identifiers.{same_sym, ne_same}
use Rattle.convergence.proofs.Places.{held-parts, held-insert}
use Rattle.convergence.proofs.Toggling.{toggle_length, toggle_identifiers}
use Rattle.convergence.proofs.Ranges.{no_mark, in-range}
use Rattle.convergence.proofs.Extract.{Extract, front, past, extract_length, extract_front, extract_append, extract_last, extract_map, extract_every, every_extract, keep_extract, keep_same, distinct_extract, extract_distinct}
use Rattle.convergence.specs.Invariants.{Sound, pending_ids}
use Rattle.convergence.proofs.Standing.{standing_insert, integrate-insert, standing_toggle}

-- ---- one operation taken out of the pending ones

pub inserts_extract : {i : Insert} {os ps : List Operation} → Extract (insert i) os ps → Extract i (inserts os) (inserts ps)
inserts_extract front = front
inserts_extract (past {y = insert j} e) = past (inserts_extract e)
inserts_extract (past {y = toggle f} e) = inserts_extract e

pub inserts-same : {d : Toggle} {os ps : List Operation} → Extract (toggle d) os ps → inserts ps ≡ inserts os
inserts-same front = refl
inserts-same (past {y = insert j} e) = ap (λ js. j ∷ js) (inserts-same e)
inserts-same (past {y = toggle f} e) = inserts-same e

pub toggles_extract : {d : Toggle} {os ps : List Operation} → Extract (toggle d) os ps → Extract d (toggles_among os) (toggles_among ps)
toggles_extract front = front
toggles_extract (past {y = insert j} e) = toggles_extract e
toggles_extract (past {y = toggle f} e) = past (toggles_extract e)

pub toggles-same : {i : Insert} {os ps : List Operation} → Extract (insert i) os ps → toggles_among ps ≡ toggles_among os
toggles-same front = refl
toggles-same (past {y = insert j} e) = toggles-same e
toggles-same (past {y = toggle f} e) = ap (λ fs. f ∷ fs) (toggles-same e)

-- no sender has more pending without it
fewer : {o : Operation} {os ps : List Operation} → Extract o os ps → (n : ℕ) → pending_from n os ≤ pending_from n ps
unfolding pending_from
fewer {o} {os} {ps} e n =
    ⊎_elim (λ h. omega (arith, extract_length (keep_extract (λ p. eqb (sender p) n) e h))) (λ h. omega (arith, ap length (keep_same (λ p. eqb (sender p) n) e h)))
    (either (eqb (sender o) n))

fewer_shares : {o : Operation} {os ps : List Operation} → Extract o os ps → (ns : List ℕ) → every (λ n. leb (pending_from n ps) share) ns ≡ true → every (λ n. leb (pending_from n os) share) ns ≡ true
fewer_shares {o} {os} {ps} e ns h =
    member_every (λ n. leb (pending_from n os) share) ns
    (λ n m.
    let k : pending_from n ps ≤ share = leb-true (pending_from n ps) share (every_member (λ n. leb (pending_from n ps) share) h m) in
    le-leb (pending_from n os) share (omega (arith, fewer e n)))

eqb_sym : (m n : ℕ) → eqb m n ≡ eqb n m
eqb_sym m n =
    ⊎_elim (λ h. h ∙ sym (eq-eqb n m (sym (eqb-true m n h)))) (λ h. h ∙ sym (ne_eqb n m (λ e. eqb-false m n h (sym e))))
    (either (eqb m n))

pub same_toggle_sym : (d e : Toggle) → same_toggle d e ≡ same_toggle e d
unfolding same_toggle
same_toggle_sym d e = rw (same_sym d.target e.target, eqb_sym d.sender e.sender, eqb_sym d.toggles e.toggles)

-- the pending identifiers with one insert's among them
pub ids_extract : {i : Insert} {os ps : List Operation} (cs : List Character) → Extract (insert i) os ps → Extract i.id (identifiers cs ++ pending_ids os) (identifiers cs ++ pending_ids ps)
ids_extract cs e = extract_append (identifiers cs) (extract_map (λ j. j.id) (inserts_extract e))

pub sound-out : {cs : List Character} {o : Operation} {os ps : List Operation} → Extract o os ps → Sound cs ps → Sound cs os
sound-out {cs} {o = insert i} {os} {ps} e s =
    record {
      ranges = s.ranges;
      ordered-all = s.ordered-all;
      pending-ranges = every_extract in_range e s.pending-ranges;
      shares = fewer_shares e (countdown last_site) s.shares;
      room = omega (arith, extract_length (inserts_extract e), s.room);
      apart = (distinct_extract same same_sym (ids_extract cs e) s.apart).1;
      toggles-apart = subst (λ ds. distinct same_toggle ds ≡ true) (toggles-same e) s.toggles-apart;
    }
sound-out {cs} {o = toggle d} {os} {ps} e s =
    record {
      ranges = s.ranges;
      ordered-all = s.ordered-all;
      pending-ranges = every_extract in_range e s.pending-ranges;
      shares = fewer_shares e (countdown last_site) s.shares;
      room = omega (arith, ap length (inserts-same e), s.room);
      apart = subst (λ (js : List Insert). distinct same (identifiers cs ++ map (λ j. j.id) js) ≡ true) (inserts-same e) s.apart;
      toggles-apart = (distinct_extract same_toggle same_toggle_sym (toggles_extract e) s.toggles-apart).1;
    }

-- a pending insert's identifier is used by no character and no other pending insert, and there is room for it
pub out_fresh : {cs : List Character} {i : Insert} {os ps : List Operation} → Extract (insert i) os ps → Sound cs ps → any (same i.id) (identifiers cs ++ pending_ids os) ≡ false
out_fresh {cs} e s = (distinct_extract same same_sym (ids_extract cs e) s.apart).0

pub out-room : {cs : List Character} {i : Insert} {os ps : List Operation} → Extract (insert i) os ps → Sound cs ps → length cs + length (inserts os) < capacity
out-room e s = omega (arith, extract_length (inserts_extract e), s.room)

-- ---- the characters of sound lists stand between their neighbours

pub any_left : {A : Type 0} (p : A → Bool) (xs ys : List A) → any p (xs ++ ys) ≡ false → any p xs ≡ false
any_left p [] ys h = refl
any_left p (x ∷ xs) ys h = or-false (or-false-left (p x) (any p (xs ++ ys)) h) (any_left p xs ys (or-false-right (p x) (any p (xs ++ ys)) h))

distinct-left : (xs ys : List Identifier) → distinct same (xs ++ ys) ≡ true → distinct same xs ≡ true
distinct-left [] ys h = refl
distinct-left (x ∷ xs) ys h =
    and_intro (not-intro (any_left (same x) xs ys (not-true (any (same x) (xs ++ ys)) (and_left_lem (not (any (same x) (xs ++ ys))) (distinct same (xs ++ ys)) h))))
    (distinct-left xs ys (and_right (not (any (same x) (xs ++ ys))) (distinct same (xs ++ ys)) h))

pub standing : {cs : List Character} {ps : List Operation} → Sound cs ps → Standing cs
unfolding ordered
standing {cs} {ps} s =
    record {
      ranges = λ c m. every_member character_in_range s.ranges m;
      apart = distinct-left (identifiers cs) (pending_ids ps) s.apart;
      below-previous = λ c m. and_left_lem (above cs c.previous c.id) (above cs c.id c.next) (every_member (ordered cs) s.ordered-all m);
      above-next = λ c m. and_right (above cs c.previous c.id) (above cs c.id c.next) (every_member (ordered cs) s.ordered-all m);
    }

all-ordered : {cs : List Character} → Standing cs → every (ordered cs) cs ≡ true
unfolding ordered
all-ordered {cs} s = member_every (ordered cs) cs (λ c m. and_intro (s.below-previous c m) (s.above-next c m))

-- ---- an insert put in its place

pub insert_extract : (k : ℕ) (c : Character) (cs : List Character) → Extract c cs (insert_at k c cs)
unfolding insert_at
insert_extract zero c cs = front
insert_extract (suc k) c [] = front
insert_extract (suc k) c (d ∷ cs) = past (insert_extract k c cs)

-- a character's identifier that no character has is not held
pub unheld : (cs : List Character) (x : Identifier) → character_id x ≡ true → any (same x) (identifiers cs) ≡ false → held cs x ≡ false
unheld cs x r h = held-parts cs x ∙ or-false (ne_same x begin (no_mark x 0 r)) (or-false h (ne_same x end (no_mark x 1 r)))

-- an insert in its place is one character more
pub placed_extract : (cs : List Character) (i : Insert) → executable cs (insert i) ≡ true → crossed cs (insert i) ≡ false → unplaceable cs (insert i) ≡ false → Extract (character i) cs (integrate_insert cs i)
placed_extract cs i ready uncrossed placeable =
    let w = integrate-insert cs i ready uncrossed placeable in
    subst (λ ds. Extract (character i) cs ds) (sym w.2) (insert_extract w.0 (character i) cs)

-- and what was held is held
pub placed-held : (cs : List Character) (i : Insert) → executable cs (insert i) ≡ true → crossed cs (insert i) ≡ false → unplaceable cs (insert i) ≡ false → (x : Identifier) → held cs x ≡ true → held (integrate_insert cs i) x ≡ true
placed-held cs i ready uncrossed placeable x h =
    let w = integrate-insert cs i ready uncrossed placeable in
    subst (λ ds. held ds x ≡ true) (sym w.2) (held-insert w.0 (character i) cs x ∙ or_right (same x (character i).id) (held cs x) h)

-- a fresh identifier is not held
pub fresh_unheld : (cs : List Character) (ps : List Operation) (i : Insert) → insert_in_range i ≡ true → any (same i.id) (identifiers cs ++ pending_ids ps) ≡ false → held cs i.id ≡ false
fresh_unheld cs ps i r fresh = unheld cs i.id (in-range i r).id (any_left (same i.id) (identifiers cs) (pending_ids ps) fresh)

pub sound_in : {cs : List Character} {ps : List Operation} (i : Insert) → Sound cs ps → insert_in_range i ≡ true → any (same i.id) (identifiers cs ++ pending_ids ps) ≡ false → length cs + length (inserts ps) < capacity → executable cs (insert i) ≡ true → crossed cs (insert i) ≡ false → unplaceable cs (insert i) ≡ false → Sound (integrate_insert cs i) ps
unfolding character
sound_in {cs} {ps} i s r fresh space ready uncrossed placeable =
    let x = placed_extract cs i ready uncrossed placeable in
    let t = standing_insert cs i (standing s) r (fresh_unheld cs ps i r fresh) ready uncrossed placeable in
    record {
      ranges = member_every character_in_range (integrate_insert cs i) t.ranges;
      ordered-all = all-ordered t;
      pending-ranges = s.pending-ranges;
      shares = s.shares;
      room = omega (arith, extract_length x);
      apart = extract_distinct same same_sym (extract_front (pending_ids ps) (extract_map (λ c. c.id) x)) fresh s.apart;
      toggles-apart = s.toggles-apart;
    }

-- ---- a character toggled

pub sound_toggle : {cs : List Character} {ps : List Operation} (x : Toggle) → toggle_in_range x ≡ true → Sound cs ps → Sound (integrate_toggle cs x) ps
sound_toggle {cs} {ps} x r s =
    let t = standing_toggle cs x r (standing s) in
    record {
      ranges = member_every character_in_range (integrate_toggle cs x) t.ranges;
      ordered-all = all-ordered t;
      pending-ranges = s.pending-ranges;
      shares = s.shares;
      room = omega (arith, toggle_length cs x);
      apart = subst (λ ys. distinct same (ys ++ pending_ids ps) ≡ true) (sym (toggle_identifiers cs x)) s.apart;
      toggles-apart = s.toggles-apart;
    }

-- ---- an operation put at the end of the pending ones

more_shares : (o : Operation) (ps : List Operation) → pending_from (sender o) ps < share → (ns : List ℕ) → every (λ n. leb (pending_from n ps) share) ns ≡ true → every (λ n. leb (pending_from n (ps ++ o ∷ [])) share) ns ≡ true
unfolding pending_from
more_shares o ps space ns h =
    member_every (λ n. leb (pending_from n (ps ++ o ∷ [])) share) ns (λ n m. le-leb (pending_from n (ps ++ o ∷ [])) share (go n (every_member (λ n. leb (pending_from n ps) share) h m) (either (eqb (sender o) n))))
  where
    go : (n : ℕ) → leb (pending_from n ps) share ≡ true → (eqb (sender o) n ≡ true) ⊎ (eqb (sender o) n ≡ false) → pending_from n (ps ++ o ∷ []) ≤ share
    go n k (inl e) =
        let less : pending_from n ps < share = subst (λ (m : ℕ). pending_from m ps < share) (eqb-true (sender o) n e) space in
        omega (arith, extract_length (keep_extract (λ p. eqb (sender p) n) (extract_last o ps) e))
    go n k (inr e) = omega (arith, leb-true (pending_from n ps) share k, ap length (keep_same (λ p. eqb (sender p) n) (extract_last o ps) e))

-- what an operation brings is not there yet, and there is room for an insert
abbrev pub Unused : List Character → List Operation → Operation → Type 0
Unused cs ps (insert i) = (any (same i.id) (identifiers cs ++ pending_ids ps) ≡ false) × (length cs + length (inserts ps) < capacity)
Unused cs ps (toggle d) = any (same_toggle d) (toggles_among ps) ≡ false

pub sound-defer : {cs : List Character} {ps : List Operation} (o : Operation) → Sound cs ps → in_range o ≡ true → pending_from (sender o) ps < share → Unused cs ps o → Sound cs (ps ++ o ∷ [])
sound-defer {cs} {ps} (insert i) s r space u =
    let e = extract_last (insert i) ps in
    record {
      ranges = s.ranges;
      ordered-all = s.ordered-all;
      pending-ranges = extract_every in_range e r s.pending-ranges;
      shares = more_shares (insert i) ps space (countdown last_site) s.shares;
      room = omega (arith, extract_length (inserts_extract e));
      apart = extract_distinct same same_sym (ids_extract cs e) u.0 s.apart;
      toggles-apart = subst (λ ds. distinct same_toggle ds ≡ true) (sym (toggles-same e)) s.toggles-apart;
    }
sound-defer {cs} {ps} (toggle d) s r space u =
    let e = extract_last (toggle d) ps in
    record {
      ranges = s.ranges;
      ordered-all = s.ordered-all;
      pending-ranges = extract_every in_range e r s.pending-ranges;
      shares = more_shares (toggle d) ps space (countdown last_site) s.shares;
      room = omega (arith, ap length (inserts-same e));
      apart = subst (λ (js : List Insert). distinct same (identifiers cs ++ map (λ j. j.id) js) ≡ true) (sym (inserts-same e)) s.apart;
      toggles-apart = extract_distinct same_toggle same_toggle_sym (toggles_extract e) u s.toggles-apart;
    }
