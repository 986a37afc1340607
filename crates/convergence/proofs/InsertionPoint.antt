-- The neighbours of an insertion point: the visible characters with the marks at their ends are a part, in order, of the
-- sequence, so that each stands above the next.
use Prim.Native.Nat.{ℕ, zero, suc, ◌+◌, ◌≤◌, ◌<◌}
use native.Mathlib.Omega.{arith}
use mathlib.Core.Path.{◌≡◌, refl, sym, ◌∙◌, subst}
use mathlib.Core.Bool.{Bool, true, false, not, cond}
use mathlib.Core.Logic.{◌⊎◌, inl, inr}
use mathlib.Core.List.Memᴰ
use mathlib.Core.List.{List, [], ◌∷◌, ◌++◌, Memᴰ}
use lib.ListN.{length, get_or, length-append}
use borrow.Author.Tests.{not-true}
use Rattle.woot.specs.declared.Identifier.{Identifier}
use Rattle.woot.specs.declared.Character.{Character}
use Rattle.woot.specs.Identifiers.{begin, end, same}
use Rattle.woot.specs.Operations.{origin, is_visible}
use Rattle.woot.specs.Ranges.{character_id, character_in_range}
use Rattle.woot.specs.Placing.{identifiers, sequence, index_of, place_of, held, above}
use Rattle.woot.specs.Calls.{visibles}
use Rattle.woot.specs.Cursor.{left_of}
use Rattle.convergence.specs.Agreement.{Standing}
use Rattle.lists.specs.Lists.{any, keep, distinct}
use Rattle.lists.proofs.Tests.{and_left_lem, and_right, and_intro, not-intro}
use Rattle.lists.proofs.Members.{get_member, any_none, none_any}
use Rattle.convergence.proofs.Identifiers.{same_refl, ne_same, same_sym}
use Rattle.convergence.proofs.Places.{index-here, index-later, held-end, held_member, place-above}
use Rattle.convergence.proofs.Ranges.{no_mark, in-range, origin_ranged}
use Rattle.convergence.proofs.Part.{Part, none, skip, keeps, part_member, part-append}
use Rattle.convergence.proofs.Extract.{extract_last, extract_any, extract_distinct}

part_visible : (cs : List Character) → Part (visibles cs) (identifiers cs)
unfolding visibles
part_visible [] = none
part_visible (c ∷ cs) = go (is_visible c) (part_visible cs)
  where
    go : (b : Bool) → Part (identifiers (keep is_visible cs)) (identifiers cs) → Part (identifiers (cond b (c ∷ keep is_visible cs) (keep is_visible cs))) (c.id ∷ identifiers cs)
    go true p = keeps p
    go false p = skip p

-- a member of the rest of a list of distinct identifiers is another than the first
other : (z : Identifier) {x : Identifier} {zs : List Identifier} → distinct same (z ∷ zs) ≡ true → Memᴰ x zs → same x z ≡ false
other z {x} {zs} h m = same_sym x z ∙ any_none (same z) (not-true (any (same z) zs) (and_left_lem (not (any (same z) zs)) (distinct same zs) h)) m

rest : (z : Identifier) (zs : List Identifier) → distinct same (z ∷ zs) ≡ true → distinct same zs ≡ true
rest z zs h = and_right (not (any (same z) zs)) (distinct same zs) h

-- the places of a part rise
rising : {xs zs : List Identifier} → Part xs zs → distinct same zs ≡ true → (k : ℕ) (d : Identifier) → suc k < length xs → index_of (get_or xs k d) zs < index_of (get_or xs (suc k) d) zs
rising none h k d l = absurd (omega arith)
rising (skip {z = z} {xs = xs} {zs = zs} p) h k d l =
    let a = index-later (get_or xs k d) z zs (other z h (part_member p (get_member xs k d (omega arith)))) in
    let b = index-later (get_or xs (suc k) d) z zs (other z h (part_member p (get_member xs (suc k) d l))) in
    omega (arith, a, b, rising p (rest z zs h) k d l)
rising (keeps {z = z} {xs = xs} {zs = zs} p) h zero d l =
    let b = index-later (get_or xs zero d) z zs (other z h (part_member p (get_member xs zero d (omega arith)))) in
    omega (arith, index-here z z zs (same_refl z), b)
rising (keeps {z = z} {xs = xs} {zs = zs} p) h (suc k) d l =
    let a = index-later (get_or xs k d) z zs (other z h (part_member p (get_member xs k d (omega arith)))) in
    let b = index-later (get_or xs (suc k) d) z zs (other z h (part_member p (get_member xs (suc k) d (omega arith)))) in
    omega (arith, a, b, rising p (rest z zs h) k d (omega arith))

-- ---- the visible characters between the marks

-- the marks and the visible characters between them
ends : List Character → List Identifier
ends cs = begin ∷ (visibles cs ++ end ∷ [])

part-ends : (cs : List Character) → Part (ends cs) (sequence cs)
unfolding ends sequence
part-ends cs = keeps (part-append (end ∷ []) (part_visible cs))

-- the identifier of a character in range is a character's
pub member_range : (cs : List Character) → ((c : Character) → Memᴰ c cs → character_in_range c ≡ true) → {x : Identifier} → Memᴰ x (identifiers cs) → character_id x ≡ true
unfolding origin
member_range (c ∷ cs) f (Memᴰ.head e) = subst (λ (y : Identifier). character_id y ≡ true) (sym e) (in-range (origin c) (origin_ranged c (f c (Memᴰ.head refl)))).id
member_range [] f x4 = elim x4 [ ]
member_range (c ∷ cs) f (Memᴰ.tail m) = member_range cs (λ d n. f d (Memᴰ.tail n)) m

-- identifiers of characters in range are other than the marks
marks-apart : {cs : List Character} → Standing cs → (t : ℕ) → any (same (record { site = 0; clock = t })) (identifiers cs) ≡ false
marks-apart {cs} s t = none_any (same (record { site = 0; clock = t })) (identifiers cs) (λ x m. ne_same (record { site = 0; clock = t }) x (λ e. no_mark x t (member_range cs s.ranges m) (sym e)))

sequence-distinct : {cs : List Character} → Standing cs → distinct same (sequence cs) ≡ true
unfolding sequence same
sequence-distinct {cs} s =
    let tail : distinct same (identifiers cs ++ end ∷ []) ≡ true = extract_distinct same same_sym (extract_last end (identifiers cs)) (marks-apart s 1) s.apart in
    and_intro (not-intro (extract_any (same begin) (extract_last end (identifiers cs)) ∙ marks-apart s 0)) tail

-- reading before the last element put at the end
pub get_early : (x : Identifier) (xs : List Identifier) (k : ℕ) (d e : Identifier) → k < length xs → get_or (xs ++ x ∷ []) k d ≡ get_or xs k e
get_early x [] k d e h = absurd (omega arith)
get_early x (y ∷ ys) zero d e h = refl
get_early x (y ∷ ys) (suc k) d e h = get_early x ys k d e (omega arith)

get_default : (xs : List Identifier) (k : ℕ) (d e : Identifier) → k < length xs → get_or xs k d ≡ get_or xs k e
get_default [] k d e h = absurd (omega arith)
get_default (x ∷ xs) zero d e h = refl
get_default (x ∷ xs) (suc k) d e h = get_default xs k d e (omega arith)

-- the character on the right of an insertion point
abbrev pub right_of : List Character → ℕ → Identifier
right_of cs g = get_or (visibles cs ++ end ∷ []) g end

-- an identifier that stands where one of these may: the given mark, or a character's identifier that is held
pub data Marked (cs : List Character) (mark x : Identifier) : Type 0 where
  mark : x ≡ mark → Marked cs mark x
  inner : Memᴰ x (identifiers cs) → Marked cs mark x

pub marked-held : {cs : List Character} {m x : Identifier} → Marked cs m x → held cs m ≡ true → held cs x ≡ true
marked-held {cs} (mark e) h = subst (λ (y : Identifier). held cs y ≡ true) (sym e) h
marked-held {cs} (inner m) h = held_member cs m

module _ {cs : List Character} (s : Standing cs) (g : ℕ) (within : g ≤ length (visibles cs)) where
  pub left-marked : Marked cs begin (left_of cs g)
  left-marked = go (get_member (begin ∷ visibles cs) g begin (omega arith))
    where
      go : {x : Identifier} → Memᴰ x (begin ∷ visibles cs) → Marked cs begin x
      go (Memᴰ.head e) = mark e
      go (Memᴰ.tail m) = inner (part_member (part_visible cs) m)

  pub right-marked : Marked cs end (right_of cs g)
  right-marked = go (Memᴰ.append_cases (visibles cs) (get_member (visibles cs ++ end ∷ []) g end (omega (arith, length-append (visibles cs) (end ∷ [])))))
    where
      go : {x : Identifier} → Memᴰ x (visibles cs) ⊎ Memᴰ x (end ∷ []) → Marked cs end x
      go (inl m) = inner (part_member (part_visible cs) m)
      go (inr m) = mark (Memᴰ.eq_of_singleton m)

  -- the one on the left stands above the one on the right
  pub left-above : above cs (left_of cs g) (right_of cs g) ≡ true
  unfolding place_of ends
  left-above =
      let n : suc g < length (ends cs) = omega (arith, length-append (visibles cs) (end ∷ [])) in
      let l : get_or (ends cs) g end ≡ left_of cs g = get_early end (begin ∷ visibles cs) g end begin (omega arith) in
      place-above cs (left_of cs g) (right_of cs g) (subst (λ (x : Identifier). place_of cs x < place_of cs (right_of cs g)) l (rising (part-ends cs) (sequence-distinct s) g end n)) (marked-held right-marked (held-end cs))
