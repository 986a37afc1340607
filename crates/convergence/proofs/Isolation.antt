-- Of the checks of receiving, all before the last look at the characters and at what the operation's own sender has
-- pending, and at nothing that others have.
use Prim.Native.Nat.{ℕ}
use native.Mathlib.Omega.{arith}
use mathlib.Core.Path.{◌≡◌, refl, ap, sym, ◌∙◌, subst}
use mathlib.Core.Bool.{Bool, true, false, ◌&&◌, ◌||◌, not, cond}
use mathlib.Core.Option.{Option, none, some}
use mathlib.Core.Logic.{◌⊎◌, inl, inr}
use mathlib.Core.List.{List, [], ◌∷◌, ◌++◌, map}
use lib.Dec.{eqb}
use borrow.Author.Tests.{eqb-true, eq-eqb}
use Rattle.woot.specs.declared.Identifier.{Identifier}
use Rattle.woot.specs.declared.Insert.{Insert}
use Rattle.woot.specs.declared.Toggle.{Toggle}
use Rattle.woot.specs.declared.Operation.{Operation}
use Rattle.woot.specs.declared.Operation.TheVariants.{Insert as insert, Toggle as toggle}
use Rattle.answers.specs.declared.Refusal.TheVariants.{Form, SenderFull, DocumentFull}
use Rattle.answers.specs.declared.Answer.{Answer}
use Rattle.answers.specs.declared.Answer.TheVariants.{Done, Deferred, Refused}
use Rattle.woot.specs.Identifiers.{same}
use Rattle.woot.specs.Operations.{sender, origin, inserts, same_insert, same_toggle, same_operation}
use Rattle.woot.specs.State.{State}
use Rattle.woot.specs.Pending.{executable, crossed, unplaceable, sent_by, pending_from}
use Rattle.woot.specs.Form.{present_inserts, well_formed}
use Rattle.answers.specs.Answers.{Check, first, NoneHolds, decided, Reported, here, later, number}
use Rattle.woot.specs.Calls.{unchanged, duplicate, conflicting, sender_full, document_full, receive_checks, carry_out, defer, accept, receive_when, receive}
use Rattle.convergence.specs.Theorems.{Isolation}
use Rattle.lists.specs.Lists.{any, keep}
use Rattle.lists.proofs.Tests.{clash, and_left_lem, three, four}
use Rattle.convergence.proofs.Identifiers.{same-eq}
use Rattle.convergence.proofs.Refusals.{receive_refuses, skipped, held-there, never, other}
use Rattle.convergence.proofs.Steps.{first-none, first_some, Turned, receive-turned}

any_append : {A : Type 0} (p : A → Bool) (xs ys : List A) → any p (xs ++ ys) ≡ any p xs || any p ys
any_append p [] ys = refl
any_append p (x ∷ xs) ys = ap (λ b. p x || b) (any_append p xs ys) ∙ regroup (p x) (any p xs) (any p ys)
  where
    regroup : (a b c : Bool) → a || (b || c) ≡ a || b || c
    regroup true b c = refl
    regroup false b c = refl

-- a test that only what is kept can pass finds the same among what is kept
any-kept : {A : Type 0} (p q : A → Bool) → ((x : A) → p x ≡ true → q x ≡ true) → (xs : List A) → any p xs ≡ any p (keep q xs)
any-kept p q f [] = refl
any-kept p q f (x ∷ xs) = go (q x) refl (p x) refl (any-kept p q f xs)
  where
    go : (b : Bool) → q x ≡ b → (a : Bool) → p x ≡ a → any p xs ≡ any p (keep q xs) → p x || any p xs ≡ any p (cond (q x) (x ∷ keep q xs) (keep q xs))
    go true e a d h = rw (e, h)
    go false e true d h = clash (f x d) e
    go false e false d h = rw (e, d, h)

-- ---- what each check looks at

same-site : (x y : Identifier) → same x y ≡ true → eqb y.site x.site ≡ true
same-site x y h = eq-eqb y.site x.site (ap (λ (z : Identifier). z.site) (sym (same-eq x y h)))

same-sender : (o p : Operation) → same_operation o p ≡ true → eqb (sender p) (sender o) ≡ true
unfolding same_operation same_insert same_toggle sender
same-sender (insert i) (insert j) h = same-site i.id j.id (four (same i.id j.id) (eqb i.code_point j.code_point) (same i.previous j.previous) (same i.next j.next) h).0
same-sender (insert i) (toggle e) h = clash h refl
same-sender (toggle d) (insert j) h = clash h refl
same-sender (toggle d) (toggle e) h = eq-eqb e.sender d.sender (sym (eqb-true d.sender e.sender (three (eqb d.sender e.sender) (same d.target e.target) (eqb d.toggles e.toggles) h).0))

inserts-kept : (p : Insert → Bool) (n : ℕ) → ((j : Insert) → p j ≡ true → eqb j.id.site n ≡ true) → (ps : List Operation) → any p (inserts ps) ≡ any p (inserts (sent_by n ps))
unfolding sender
inserts-kept p n f [] = refl
inserts-kept p n f (insert j ∷ ps) = go (eqb j.id.site n) refl (p j) refl (inserts-kept p n f ps)
  where
    go : (b : Bool) → eqb j.id.site n ≡ b → (a : Bool) → p j ≡ a → any p (inserts ps) ≡ any p (inserts (sent_by n ps)) → p j || any p (inserts ps) ≡ any p (inserts (cond (eqb j.id.site n) (insert j ∷ sent_by n ps) (sent_by n ps)))
    go true e a d h = rw (e, h)
    go false e true d h = clash (f j d) e
    go false e false d h = rw (e, d, h)
inserts-kept p n f (toggle d ∷ ps) = go (eqb d.sender n) (inserts-kept p n f ps)
  where
    go : (b : Bool) → any p (inserts ps) ≡ any p (inserts (sent_by n ps)) → any p (inserts ps) ≡ any p (inserts (cond b (toggle d ∷ sent_by n ps) (sent_by n ps)))
    go true h = h
    go false h = h

-- ---- two states that differ in what others have pending

own_any : (s t : State) (o : Operation) → sent_by (sender o) s.pending ≡ sent_by (sender o) t.pending → any (same_operation o) s.pending ≡ any (same_operation o) t.pending
own_any s t o own =
    any-kept (same_operation o) (λ p. eqb (sender p) (sender o)) (same-sender o) s.pending
    ∙ ap (any (same_operation o)) own
    ∙ sym (any-kept (same_operation o) (λ p. eqb (sender p) (sender o)) (same-sender o) t.pending)

same-duplicate : (s t : State) (o : Operation) → s.characters ≡ t.characters → any (same_operation o) s.pending ≡ any (same_operation o) t.pending → duplicate s o ≡ duplicate t o
unfolding duplicate
same-duplicate s t (insert i) level own = rw (level, own)
same-duplicate s t (toggle d) level own = rw (level, own)

same-conflicting : (s t : State) (o : Operation) → s.characters ≡ t.characters → sent_by (sender o) s.pending ≡ sent_by (sender o) t.pending → conflicting s o ≡ conflicting t o
unfolding conflicting present_inserts sender
same-conflicting s t (insert i) level own =
    any_append p (map origin s.characters) (inserts s.pending)
    ∙ ap (λ cs. any p (map origin cs) || any p (inserts s.pending)) level
    ∙ ap (λ b. any p (map origin t.characters) || b) (inserts-kept p i.id.site mine s.pending ∙ ap (λ ps. any p (inserts ps)) own ∙ sym (inserts-kept p i.id.site mine t.pending))
    ∙ sym (any_append p (map origin t.characters) (inserts t.pending))
  where
    p : Insert → Bool
    p = λ j. same i.id j.id && not (same_insert i j)

    mine : (j : Insert) → p j ≡ true → eqb j.id.site i.id.site ≡ true
    mine j h = same-site i.id j.id (and_left_lem (same i.id j.id) (not (same_insert i j)) h)
same-conflicting s t (toggle d) level own = refl

-- the checks of two states that agree, but for the last
record Level (s t : State) (o : Operation) : Type 0 where
  form : well_formed s ≡ well_formed t
  known_alike : duplicate s o ≡ duplicate t o
  conflict : conflicting s o ≡ conflicting t o
  crossing : crossed s.characters o ≡ crossed t.characters o
  placing : unplaceable s.characters o ≡ unplaceable t.characters o
  ready : executable s.characters o ≡ executable t.characters o
  full : sender_full s o ≡ sender_full t o

level : (s t : State) (o : Operation) → well_formed s ≡ well_formed t → s.characters ≡ t.characters → sent_by (sender o) s.pending ≡ sent_by (sender o) t.pending → Level s t o
unfolding sender_full pending_from
level s t o form held own =
    record {
      form = form;
      known_alike = same-duplicate s t o held (own_any s t o own);
      conflict = same-conflicting s t o held own;
      crossing = ap (λ cs. crossed cs o) held;
      placing = ap (λ cs. unplaceable cs o) held;
      ready = ap (λ cs. executable cs o) held;
      full = rw (held, own);
    }

-- refusal 10 in one is refusal 10 in the other
full-alike : (s t : State) (o : Operation) → Level s t o → Reported (Refused SenderFull) (receive_checks (well_formed s) s o) → Reported (Refused SenderFull) (receive_checks (well_formed t) t o)
unfolding receive_checks
full-alike s t o l r =
    let r1 = skipped (other (λ h. omega arith)) r in
    let r2 = skipped (other (λ h. omega arith)) r1.1 in
    let r3 = skipped (λ e. let z : ◌≡◌ {A = ℕ} 0 1 = cc in omega arith) r2.1 in
    let r4 = skipped (other (λ h. omega arith)) r3.1 in
    let r5 = skipped (other (λ h. omega arith)) r4.1 in
    let r6 = skipped (other (λ h. omega arith)) r5.1 in
    let full = held-there (λ q. never (skipped (other (λ h. omega arith)) q).1) r6.1 in
    later r1.0
    (later (ap not (sym l.form) ∙ r2.0)
    (later (sym l.known_alike ∙ r3.0)
    (later (sym l.conflict ∙ r4.0)
    (later (sym l.crossing ∙ r5.0) (later (sym l.placing ∙ r6.0) (here (sym l.full ∙ full) refl))))))

-- what waits has passed every check, and lacks something
deferred_checks : (s : State) (o : Operation) → (receive s o).answer ≡ Deferred → NoneHolds (receive_checks (well_formed s) s o) × (executable s.characters o ≡ false)
unfolding receive receive_when accept decided unchanged carry_out
deferred_checks s o h = go (first (receive_checks (well_formed s) s o)) refl h
  where
    carried : (o : Operation) → (carry_out Done s o).answer ≡ Deferred → ⊥
    carried (insert i) e = let z : ◌≡◌ {A = ℕ} 0 1 = cc in omega arith
    carried (toggle d) e = let z : ◌≡◌ {A = ℕ} 0 1 = cc in omega arith

    lacks : (b : Bool) → (cond b (carry_out Done s o) (defer s o)).answer ≡ Deferred → b ≡ false
    lacks true e = absurd (carried o e)
    lacks false e = refl

    go : (m : Option Answer) → first (receive_checks (well_formed s) s o) ≡ m → (decided (unchanged s) m (accept s o)).answer ≡ Deferred → NoneHolds (receive_checks (well_formed s) s o) × (executable s.characters o ≡ false)
    go none e k = (first-none (receive_checks (well_formed s) s o) e, lacks (executable s.characters o) k)
    go (some a) e k = absurd (subst Turned k (first_some Turned (receive_checks (well_formed s) s o) (receive-turned (well_formed s) s o) a e))

-- with every check but the last passed in t, it waits there or the document is full
deferred_alike : (s t : State) (o : Operation) → Level s t o → (receive s o).answer ≡ Deferred → ((receive t o).answer ≡ Deferred) ⊎ ((receive t o).answer ≡ Refused DocumentFull)
unfolding receive receive_when receive_checks decided unchanged accept defer
deferred_alike s t o l h = go (document_full t o) refl
  where
    fails : NoneHolds (receive_checks (well_formed s) s o)
    fails = (deferred_checks s o h).0

    go : (b : Bool) → document_full t o ≡ b → ((receive t o).answer ≡ Deferred) ⊎ ((receive t o).answer ≡ Refused DocumentFull)
    go true e =
        inr
        (rw (fails.0, ← l.form, fails.1.0, ← l.known_alike, fails.1.1.0, ← l.conflict, fails.1.1.1.0, ← l.crossing, fails.1.1.1.1.0, ← l.placing, fails.1.1.1.1.1.0, ← l.full, fails.1.1.1.1.1.1.0, e))
    go false e =
        inl
        (rw (fails.0, ← l.form, fails.1.0, ← l.known_alike, fails.1.1.0, ← l.conflict, fails.1.1.1.0, ← l.crossing, fails.1.1.1.1.0, ← l.placing, fails.1.1.1.1.1.0, ← l.full, fails.1.1.1.1.1.1.0, e, ← l.ready, (deferred_checks s o h).1))

pub isolation : Isolation
unfolding receive
isolation s t o fs ft held own =
    let forward = level s t o (fs ∙ sym ft) held own in
    let back = level t s o (ft ∙ sym fs) (sym held) (sym own) in
    ((λ h. (receive_refuses (well_formed t) t o SenderFull).1 (full-alike s t o forward ((receive_refuses (well_formed s) s o SenderFull).0 h)), λ h. (receive_refuses (well_formed s) s o SenderFull).1 (full-alike t s o back ((receive_refuses (well_formed t) t o SenderFull).0 h))), deferred_alike s t o forward)
