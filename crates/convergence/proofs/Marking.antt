-- The list of a state in form: what is known of the chunks of any identifiers, said of its characters.
use Prim.Native.Nat.{ℕ, ◌≤◌}
use native.Mathlib.Omega.{arith}
use mathlib.Core.Path.{◌≡◌, refl, ap, sym, ◌∙◌, subst}
use mathlib.Core.Bool.{Bool, true, false, ◌&&◌, ◌||◌, not, and_assoc}
use mathlib.Core.Logic.{◌⊎◌, inl, inr, ⊎_elim}
use mathlib.Core.List.Memᴰ
use mathlib.Core.List.{List}
use lib.Dec.{eqb}
use lib.ListN.{length, length-map}
use borrow.Author.Tests.{eq-eqb, eqb-true, not-true}
use Rattle.lists.specs.Lists.{any, every}
use Rattle.lists.proofs.Tests.{clash, and_intro, and_left_lem, and_right, or_cases, or_left, or_right, or-false, fails}
use Rattle.lists.proofs.Tests.{not-intro}
use Rattle.lists.proofs.Members.{any_member, member_any, member_every}
use Rattle.woot.specs.declared.Identifier.{Identifier}
use Rattle.woot.specs.declared.Character.{Character}
use Rattle.woot.specs.Limits.{last_clock, capacity}
use Rattle.woot.specs.Ranges.{within, site_number, site_in_range, character_id}
use Rattle.woot.specs.State.{State}
use Rattle.woot.specs.Placing.{identifiers}
use Rattle.woot.specs.Form.{well_formed}
use Rattle.bulk.specs.Loading.{among}
use Rattle.bulk.specs.Catching.{Chunk, bit_of, speaks_of, marks, listed_in, ones_in, in_sequence, chunks_of, listing}
use Rattle.bulk.specs.Catching.{listing_in_range, marks_zero, mislisted}
use Rattle.convergence.specs.Agreement.{Standing}
use Rattle.convergence.specs.Catching.{BitsStand, ListedExactly, ListedAlone, ListedTotal, ListingAccepted}
use Rattle.convergence.specs.Catching.{ZeroListed, MislistedWhen}
use Rattle.convergence.proofs.Ranges.{within_low, to-within}
use Rattle.convergence.proofs.Characters.{id_in_range}
use Rattle.convergence.proofs.Forms.{formed}
use Rattle.convergence.proofs.Soundness.{standing}
use Rattle.convergence.proofs.Peeling.{among_member}
use Rattle.convergence.proofs.Chunks.{Listed, bit_marked, chunks-listed, chunks_alone, chunks-ones}

pub bits_stand : BitsStand
bits_stand k j l = bit_marked k j l

-- ---- clock 0

zero-marked : (k : Chunk) (n : ℕ) → marks k (record { site = n; clock = 0 }) ≡ (eqb k.site n && marks_zero k)
unfolding marks speaks_of marks_zero
zero-marked k n = and_assoc (eqb k.site n) (eqb k.index 0) (bit_of 0 k.word)

pub zero-listed : ZeroListed
unfolding listed_in
zero-listed ks = (to, from)
  where
    to : any marks_zero ks ≡ true → (n : ℕ) × (listed_in ks (record { site = n; clock = 0 }) ≡ true)
    to h =
        let w = any_member marks_zero ks h in
        let n = w.0.site in (
          n,
          member_any (λ k. marks k (record { site = n; clock = 0 })) w.1
              (zero-marked w.0 n ∙ and_intro (eq-eqb n n refl) w.2),
        )

    from : (n : ℕ) × (listed_in ks (record { site = n; clock = 0 }) ≡ true) → any marks_zero ks ≡ true
    from r =
        let w = any_member (λ k. marks k (record { site = r.0; clock = 0 })) ks r.1 in
        member_any marks_zero w.1
        (and_right (eqb w.0.site r.0) (marks_zero w.0) (sym (zero-marked w.0 r.0) ∙ w.2))

-- ---- what is wrong with a list

pub mislisted-when : MislistedWhen
unfolding mislisted
mislisted-when l = (to, from)
  where
    ks : List Chunk
    ks = l.chunks

    differs : Bool
    differs = not (eqb l.total (ones_in ks))

    Zero : Type 0
    Zero = (n : ℕ) × (listed_in ks (record { site = n; clock = 0 }) ≡ true)

    Wrong : Type 0
    Wrong = ((l.total ≡ ones_in ks) → ⊥) ⊎ (Zero ⊎ (in_sequence ks ≡ false))

    to : mislisted l ≡ true → Wrong
    to h =
        ⊎_elim
        (λ a. ⊎_elim (λ b. inl (λ e. clash (eq-eqb l.total (ones_in ks) e) (not-true (eqb l.total (ones_in ks)) b)))
        (λ b. inr (inl ((zero-listed ks).0 b))) (or_cases differs (any marks_zero ks) a))
        (λ a. inr (inr (not-true (in_sequence ks) a)))
        (or_cases (differs || any marks_zero ks) (not (in_sequence ks)) h)

    from : Wrong → mislisted l ≡ true
    from (inl f) =
        or_left (differs || any marks_zero ks) (not (in_sequence ks))
        (or_left differs (any marks_zero ks) (not-intro (fails (eqb l.total (ones_in ks))
        (λ h. f (eqb-true l.total (ones_in ks) h)))))
    from (inr (inl z)) =
        or_left (differs || any marks_zero ks) (not (in_sequence ks))
        (or_right differs (any marks_zero ks) ((zero-listed ks).1 z))
    from (inr (inr e)) = or_right (differs || any marks_zero ks) (not (in_sequence ks)) (not-intro e)

-- ---- a state in form

module _ (s : State) (f : well_formed s ≡ true) where
  stands : Standing s.characters
  stands = standing (formed s f).sound

  pub identifiers_valid : every character_id (identifiers s.characters) ≡ true
  identifiers_valid =
      member_every character_id (identifiers s.characters)
      (λ x m. let w = Memᴰ.of_map (λ (c : Character). c.id) s.characters m in
      subst (λ (y : Identifier). character_id y ≡ true) w.2 (id_in_range s.characters stands w.1))

  listed : Listed (identifiers s.characters) (chunks_of (identifiers s.characters))
  listed = chunks-listed (identifiers s.characters) identifiers_valid

  total : ones_in (chunks_of (identifiers s.characters)) ≡ length s.characters
  total =
      chunks-ones (identifiers s.characters) identifiers_valid stands.apart
      ∙ length-map s.characters (λ (c : Character). c.id)

  -- no character has clock 0
  unzeroed : any marks_zero (chunks_of (identifiers s.characters)) ≡ false
  unfolding character_id among
  unzeroed =
      fails (any marks_zero (chunks_of (identifiers s.characters))) (λ h.
      let w = (zero-listed (chunks_of (identifiers s.characters))).0 h in
      let x : Identifier = record { site = w.0; clock = 0 } in
      let c = among_member s.characters x (sym (listed.exactly x) ∙ w.1) in
      let low = within_low 1 last_clock c.0.id.clock
      (and_right (site_number c.0.id.site) (within 1 last_clock c.0.id.clock)
      (id_in_range s.characters stands c.1)) in
      omega (arith, low, ap (λ (y : Identifier). y.clock) c.2))

pub listed_exactly : ListedExactly
unfolding listing among
listed_exactly s f =
    let w = listed s f in
    (w.ranked.in-sequence, w.ranked.in-range, w.exactly)

pub listed_alone : ListedAlone
unfolding listing among
listed_alone s f ks q r e = chunks_alone (identifiers s.characters) ks q r e (identifiers_valid s f)

pub listed-total : ListedTotal
unfolding listing
listed-total s f = total s f

pub listing-accepted : ListingAccepted
unfolding listing listing_in_range mislisted site_in_range
listing-accepted s f =
    let w = listed s f in
    let ks = chunks_of (identifiers s.characters) in
    let site = and_left_lem (site_number s.site.number) (within 0 last_clock s.site.clock) (formed s f).site in
    let room : ones_in ks ≤ capacity = omega (arith, total s f, (formed s f).sound.room) in
    let counted : not (eqb (ones_in ks) (ones_in ks)) ≡ false = ap not (eq-eqb (ones_in ks) (ones_in ks) refl) in (
      and_intro (and_intro site (to-within 0 capacity (ones_in ks) (omega arith) room)) w.ranked.in-range,
      or-false (or-false counted (unzeroed s f)) (ap not w.ranked.in-sequence),
    )
