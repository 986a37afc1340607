-- What carrying operations out does to a list of characters, step by step and over any number of steps: what was held
-- stays in its order, and what was settled stays settled.
use Prim.Native.Nat.{ℕ, ◌≤◌, max}
use native.Mathlib.Omega.{arith}
use mathlib.Core.Path.{◌≡◌, refl, ap, sym, ◌∙◌, subst}
use mathlib.Core.Bool.{Bool, true, false, ◌&&◌, not, cond}
use mathlib.Core.Logic.{◌⊎◌, inl, inr, ⊎_elim}
use mathlib.Core.List.Memᴰ
use mathlib.Core.List.{List, [], map, Memᴰ}
use borrow.Author.Tests.{not-true}
use Rattle.woot.specs.declared.Identifier.{Identifier}
use Rattle.woot.specs.declared.Insert.{Insert}
use Rattle.woot.specs.declared.Toggle.{Toggle}
use Rattle.woot.specs.declared.Operation.{Operation}
use Rattle.woot.specs.declared.Operation.TheVariants.{Insert as insert, Toggle as toggle}
use Rattle.woot.specs.declared.Character.{Character}
use Rattle.woot.specs.Identifiers.{same}
use Rattle.woot.specs.Operations.{origin, character, toggled_by}
use Rattle.woot.specs.Placing.{held, above, integrate_toggle}
use Rattle.woot.specs.Pending.{executable, crossed, unplaceable}
use Rattle.lists.proofs.Tests.{clash, either, and_intro, and_left_lem, and_right, side}
use Rattle.convergence.specs.Agreement.{Standing, Grown}
use Rattle.convergence.proofs.Extract.{Extract, extract_old, extract_cases, extract_map}
use Rattle.convergence.proofs.Places.{Holding, is-begin, is-character, is-end, holding, held-begin, held-end, held-id, above-upper, above_lower}
use Rattle.convergence.proofs.Characters.{same-character}
use Rattle.convergence.proofs.Toggling.{toggled-id, toggled-toggles, toggle_origins, toggle_member}
use Rattle.convergence.proofs.Agreement.{agreement_held}
use Rattle.convergence.proofs.Listing.{one-meaning}
use Rattle.convergence.proofs.Growth.{grown_placeable}
use Rattle.convergence.proofs.Unique.{Complete}
use Rattle.convergence.proofs.Identifiers.{same-eq}

-- where a character's toggles come from: none, an earlier list's, or an operation's
abbrev pub Turned : List Operation → List Character → Character → Type 0
Turned heap cs e =
    (e.toggles ≡ 0)
    ⊎ (((b : Character) × Memᴰ b cs × (b.id ≡ e.id) × (e.toggles ≡ b.toggles))
    ⊎ ((t : Toggle) × Memᴰ (toggle t) heap × (t.target ≡ e.id) × (e.toggles ≡ t.toggles)))

-- ds came from cs by operations of the heap
pub record Progress (heap : List Operation) (cs ds : List Character) : Type 0 where
  pub kept : (i : Insert) → Memᴰ i (map origin cs) → Memᴰ i (map origin ds)
  pub came : (i : Insert) → Memᴰ i (map origin ds) → Memᴰ i (map origin cs) ⊎ Memᴰ (insert i) heap
  pub rising : (c e : Character) → Memᴰ c cs → Memᴰ e ds → c.id ≡ e.id → c.toggles ≤ e.toggles
  pub turned : (e : Character) → Memᴰ e ds → Turned heap cs e

pub progress_none : (heap : List Operation) {cs : List Character} → Standing cs → Progress heap cs cs
progress_none heap {cs} s =
    record {
      kept = λ i m. m;
      came = λ i m. inl m;
      rising = λ c e m n f. omega (arith, ap (λ (b : Character). b.toggles) (same-character cs s m n f));
      turned = λ e m. inr (inl (e, m, refl, refl));
    }

-- the character of the same insert
pub later : {heap : List Operation} {cs ds : List Character} → Progress heap cs ds → {c : Character} → Memᴰ c cs
    → (d : Character) × Memᴰ d ds × (c.id ≡ d.id)
unfolding origin
later {heap} {cs} {ds} p {c} m =
    let w = Memᴰ.of_map origin ds (p.kept (origin c) (Memᴰ.map origin m)) in
    (w.0, w.1, sym (ap (λ (i : Insert). i.id) w.2))

pub progress_on : {heap : List Operation} {cs ds es : List Character} → Progress heap cs ds → Progress heap ds es
    → Progress heap cs es
progress_on {heap} {cs} {ds} {es} p q =
    record {
      kept = λ i m. q.kept i (p.kept i m);
      came = λ i m. ⊎_elim (λ n. p.came i n) (λ n. inr n) (q.came i m);
      rising =
          λ c e m n f. let w = later p m in omega
          (arith, p.rising c w.0 m w.1 w.2, q.rising w.0 e w.1 n (sym w.2 ∙ f));
      turned = λ e m. back e (q.turned e m);
    }
  where
    carried : (e d : Character) → d.id ≡ e.id → e.toggles ≡ d.toggles → Turned heap cs d → Turned heap cs e
    carried e d i j (inl z) = inl (j ∙ z)
    carried e d i j (inr (inl b)) = inr (inl (b.0, b.1, b.2 ∙ i, j ∙ b.3))
    carried e d i j (inr (inr t)) = inr (inr (t.0, t.1, t.2 ∙ i, j ∙ t.3))

    back : (e : Character) → Turned heap ds e → Turned heap cs e
    back e (inl z) = inl z
    back e (inr (inl d)) = carried e d.0 d.2 d.3 (p.turned d.0 d.1)
    back e (inr (inr t)) = inr (inr t)

pub progress_held : {heap : List Operation} {cs ds : List Character} → Progress heap cs ds → (x : Identifier)
    → held cs x ≡ true → held ds x ≡ true
progress_held {heap} {cs} {ds} p x h = go (holding cs x h)
  where
    go : Holding cs x → held ds x ≡ true
    go (is-begin e) = subst (λ (y : Identifier). held ds y ≡ true) (sym e) (held-begin ds)
    go (is-end e) = subst (λ (y : Identifier). held ds y ≡ true) (sym e) (held-end ds)
    go (is-character c m e) =
        let w = later p m in subst (λ (y : Identifier). held ds y ≡ true) (sym (e ∙ w.2)) (held-id ds w.1)

-- ---- one operation

pub progress_insert : {heap : List Operation} {cs ds : List Character} (i : Insert) → Standing cs
    → Extract (character i) cs ds → held cs i.id ≡ false → Memᴰ (insert i) heap → Progress heap cs ds
unfolding character origin
progress_insert {heap} {cs} {ds} i s x fresh m =
    record {
      kept = λ j n. extract_old (extract_map origin x) n;
      came =
          λ j n. ⊎_elim (λ e. inr (subst (λ (k : Insert). Memᴰ (insert k) heap) (sym e) m)) (λ k. inl k)
          (extract_cases (extract_map origin x) n);
      rising = λ c e n k f.
          ⊎_elim (λ g. clash (subst (λ (y : Identifier). held cs y ≡ true) (f ∙ ap (λ (b : Character). b.id) g)
          (held-id cs n)) fresh)
          (λ g. omega (arith, ap (λ (b : Character). b.toggles) (same-character cs s n g f)))
          (extract_cases x k);
      turned =
          λ e k. ⊎_elim (λ g. inl (ap (λ (b : Character). b.toggles) g)) (λ g. inr (inl (e, g, refl, refl)))
          (extract_cases x k);
    }

pub progress_toggle : {heap : List Operation} {cs : List Character} (t : Toggle) → Standing cs
    → Memᴰ (toggle t) heap → Progress heap cs (integrate_toggle cs t)
progress_toggle {heap} {cs} t s m =
    record {
      kept = λ j n. subst (λ (js : List Insert). Memᴰ j js) (sym (toggle_origins cs t)) n;
      came = λ j n. inl (subst (λ (js : List Insert). Memᴰ j js) (toggle_origins cs t) n);
      rising =
          λ c e n k f. let w = toggle_member cs t k in up c w.0
          (same-character cs s n w.1 (f ∙ ap (λ (b : Character). b.id) (sym w.2) ∙ toggled-id t w.0)) e
          w.2;
      turned =
          λ e k. let w = toggle_member cs t k in subst (λ (b : Character). Turned heap cs b) w.2
          (source w.0 w.1 (either (same t.target w.0.id)));
    }
  where
    larger : (b : Bool) (n k : ℕ) → n ≤ cond b (max n k) n
    larger true n k = omega arith
    larger false n k = omega arith

    up : (c b : Character) → c ≡ b → (e : Character) → toggled_by t b ≡ e → c.toggles ≤ e.toggles
    up c b f e g =
        omega (
          arith,
          ap (λ (d : Character). d.toggles) f,
          ap (λ (d : Character). d.toggles) g,
          toggled-toggles t b,
          larger (same t.target b.id) b.toggles t.toggles,
        )

    which : (n k l : ℕ) → l ≡ max n k → (l ≡ n) ⊎ (l ≡ k)
    which n k l e =
        ⊎_elim (λ h. inr (omega (arith, h))) (λ h. inl (omega (arith, h))) (side n k)

    source : (b : Character) → Memᴰ b cs → (same t.target b.id ≡ true) ⊎ (same t.target b.id ≡ false)
        → Turned heap cs (toggled_by t b)
    source b n (inl e) =
        ⊎_elim (λ h. inr (inl (b, n, sym (toggled-id t b), h)))
        (λ h. inr (inr (
          t,
          m,
          same-eq t.target b.id e ∙ sym (toggled-id t b),
          h,
        )))
        (which b.toggles t.toggles (toggled_by t b).toggles (toggled-toggles t b ∙ rw e))
    source b n (inr e) = inr (inl (b, n, sym (toggled-id t b), toggled-toggles t b ∙ rw e))

-- ---- what has been settled stays so

-- an insert that is there, or that meets condition 8; a toggle that has been taken
abbrev pub Settled : List Character → Operation → Type 0
Settled cs (insert i) =
    Memᴰ i (map origin cs) ⊎
    ((held cs i.previous ≡ true) × (held cs i.next ≡ true) × (above cs i.previous i.next ≡ false))
Settled cs (toggle t) = (c : Character) × Memᴰ c cs × (t.target ≡ c.id) × (t.toggles ≤ c.toggles)

pub progress_above : {heap : List Operation} {cs ds : List Character} → Progress heap cs ds → Grown cs → Grown ds
    → (x y : Identifier) → held cs x ≡ true → held cs y ≡ true → above cs x y ≡ above ds x y
progress_above {heap} {cs} {ds} p g h x y a b =
    agreement_held cs ds g h (one-meaning cs ds g h p.kept) x y a b (progress_held p x a) (progress_held p y b)

pub settled-later : {heap : List Operation} {cs ds : List Character} → Progress heap cs ds → Grown cs → Grown ds
    → (o : Operation) → Settled cs o → Settled ds o
settled-later p g h (insert i) (inl m) = inl (p.kept i m)
settled-later p g h (insert i) (inr w) =
    inr (
      progress_held p i.previous w.0,
      progress_held p i.next w.1,
      sym (progress_above p g h i.previous i.next w.0 w.1) ∙ w.2,
    )
settled-later p g h (toggle t) w =
    let d = later p w.1 in
    (d.0, d.1, w.2 ∙ d.2, omega (arith, w.3, p.rising w.0 d.0 w.1 d.1 d.2))

-- an operation that has all it needs and meets condition 8 or 9
pub stopped : {cs : List Character} → Grown cs → (o : Operation) → executable cs o ≡ true
    → (crossed cs o ≡ true) ⊎ (unplaceable cs o ≡ true) → Settled cs o
unfolding executable crossed unplaceable
stopped {cs} g (insert i) ready w =
    inr (
      and_left_lem (held cs i.previous) (held cs i.next) ready,
      and_right (held cs i.previous) (held cs i.next) ready,
      crossing (either (crossed cs (insert i))) w,
    )
  where
    is-crossed : crossed cs (insert i) ≡ true → above cs i.previous i.next ≡ false
    is-crossed e = not-true _ (and_right (executable cs (insert i)) (not (above cs i.previous i.next)) e)

    crossing : (crossed cs (insert i) ≡ true) ⊎ (crossed cs (insert i) ≡ false)
        → (crossed cs (insert i) ≡ true) ⊎ (unplaceable cs (insert i) ≡ true) → above cs i.previous i.next ≡ false
    crossing (inl e) v = is-crossed e
    crossing (inr e) (inl f) = clash f e
    crossing (inr e) (inr f) = clash f (grown_placeable cs i g ready e)
stopped {cs} g (toggle t) ready (inl e) = clash e toggle_crossed
  where
    toggle_crossed : crossed cs (toggle t) ≡ false
    toggle_crossed = refl
stopped {cs} g (toggle t) ready (inr e) = clash e toggle_placed
  where
    toggle_placed : unplaceable cs (toggle t) ≡ false
    toggle_placed = refl

-- ---- what is carried out, and what meets condition 8, for good

abbrev pub Inside : List Character → Operation → Type 0
Inside cs (insert i) = Memᴰ i (map origin cs)
Inside cs (toggle t) = held cs t.target ≡ true

pub inside-later : {heap : List Operation} {cs ds : List Character} → Progress heap cs ds → (o : Operation)
    → Inside cs o → Inside ds o
inside-later p (insert i) m = p.kept i m
inside-later p (toggle t) h = progress_held p t.target h

pub crossed-of : {cs : List Character} → Grown cs → (o : Operation) → executable cs o ≡ true
    → (crossed cs o ≡ true) ⊎ (unplaceable cs o ≡ true) → crossed cs o ≡ true
unfolding unplaceable
crossed-of g o ready (inl e) = e
crossed-of {cs} g (insert i) ready (inr e) =
    ⊎_elim (λ f. f) (λ f. clash e (grown_placeable cs i g ready f)) (either (crossed cs (insert i)))
crossed-of g (toggle t) ready (inr e) = clash e refl

pub crossed-later : {heap : List Operation} {cs ds : List Character} → Progress heap cs ds → Grown cs → Grown ds
    → (o : Operation) → crossed cs o ≡ true → crossed ds o ≡ true
unfolding crossed executable
crossed-later {heap} {cs} {ds} p g h (insert i) e =
    let ready = and_left_lem (held cs i.previous && held cs i.next) (not (above cs i.previous i.next)) e in
    let up = and_left_lem (held cs i.previous) (held cs i.next) ready in
    let low = and_right (held cs i.previous) (held cs i.next) ready in
    let alike = progress_above p g h i.previous i.next up low in
    and_intro (and_intro (progress_held p i.previous up) (progress_held p i.next low))
    (rw (sym alike) (and_right (held cs i.previous && held cs i.next) (not (above cs i.previous i.next)) e))
crossed-later p g h (toggle t) e = clash e refl

-- from nothing, with each operation of the heap settled or in want of something
pub completed : (heap : List Operation) {cs : List Character} → Grown cs → Progress heap [] cs
    → ((o : Operation) → Memᴰ o heap → Settled cs o ⊎ (executable cs o ≡ false)) → Complete heap cs
unfolding executable
completed heap {cs} g p f =
    record {
      grown = g;
      among = λ i m. ⊎_elim (λ n. absurd (Memᴰ.not-nil n)) (λ n. n) (p.came i m);
      closed =
          λ i m a. ⊎_elim (λ s. ⊎_elim (λ n. n) (λ n. clash a n.2) s)
          (λ e. clash (and_intro (above-upper cs i.previous i.next a)
          (above_lower cs i.previous i.next a)) e) (f (insert i) m);
      at_least =
          λ t m c n e. ⊎_elim (λ s. omega (
            arith,
            s.3,
            ap (λ (b : Character). b.toggles)
                (same-character cs g.standing s.1 n (sym s.2 ∙ e)),
          ))
          (λ h. clash (subst (λ (y : Identifier). held cs y ≡ true) (sym e) (held-id cs n)) h) (f (toggle t) m);
      attained =
          λ c m. ⊎_elim (λ z. inl z) (λ w. ⊎_elim (λ b. absurd (Memᴰ.not-nil b.1)) (λ t. inr t) w)
          (p.turned c m);
    }
