-- Visible characters by their columns: a loop goes by what is left of the arrays, and what it finds among counts of
-- toggles stands among the characters.
use Prim.Native.Nat.{ℕ, zero, suc, ◌+◌, ◌-◌, ◌≤◌, ◌<◌}
use native.Mathlib.Nat.{add-zero}
use native.Mathlib.Numerals.{add-one}
use native.Mathlib.Omega.{arith}
use mathlib.Core.Path.{◌≡◌, refl, ap, sym, ◌∙◌}
use mathlib.Core.Bool.{Bool, true, false, cond}
use mathlib.Core.List.{List, [], ◌∷◌, ◌++◌, map}
use borrow.Author.Tests.{ne_eqb}
use lib.Dec.{eqb}
use lib.ListN.{length, take, drop, get_or, length-append, length-map, length-take, drop_of_length-le, get_or-eq_default, get_or-map}
use lib.Seq.{drop-cons, get_or-take, length-take-le}
use Rattle.std.specs.List.{count_by}
use Rattle.std.proofs.lemmas.List.Recursion.{is_count_by}
use Rattle.lists.specs.Lists.{keep}
use Rattle.lists.proofs.Members.{keep-map}
use Rattle.lists.proofs.Indices.{map_get_d}
use Rattle.output.specs.Output.{placed, past}
use Rattle.output.proofs.Laws.{length-placed}
use Rattle.utf8.specs.Encoding.{encode}
use Rattle.utf8.proofs.Laws.{length-encode, length-bounds}
use Rattle.woot.specs.declared.Identifier.{Identifier}
use Rattle.woot.specs.declared.Character.{Character}
use Rattle.woot.specs.Identifiers.{begin, end}
use Rattle.woot.specs.Operations.{is_visible}
use Rattle.woot.specs.Calls.{visibles}
use Rattle.woot.specs.State.{blank_character}
use Rattle.woot.specs.Table.{key, keys}
use Rattle.woot.specs.Text.{printed, text, encoded}
use Rattle.woot.specs.Memory.{characters_of, code_points_of, toggle_counts}
use Rattle.memory.proofs.Characters.{rows-length, rows-toggles}
use Rattle.std.proofs.Common.{Option, Some, None}
use Rattle.index.specs.Keys.{further}
use Rattle.index.proofs.Keys.{key-begin, key-end}
use Rattle.index.proofs.Searches.{further-none, further-more}
use Rattle.visible.specs.Visible.{spelt}
use Rattle.visible.specs.Shown.{shown, nth_index, get_key, spelt_as, text_of}
use Rattle.visible.proofs.Visibility.{visibles-length, get_d_past, get_d_last}
use Rattle.visible.proofs.Texts.{text-cons, run_more, run_room, placed-none}

-- ---- what is left of the first n of an array from the index i on

module _ {A : Type 0} (xs : List A) (n i : ℕ) where
  abbrev pub left : List A
  left = drop i (take n xs)

module _ {A : Type 0} (xs : List A) (n i : ℕ) where
  pub left-more : (d : A) → i < n → n ≤ length xs → left xs n i ≡ get_or xs i d ∷ left xs n (i + 1)
  left-more d h few = rw (drop-cons (take n xs) i d (omega (arith, length-take-le n xs few)), get_or-take n xs i d h, add-one i)

  pub left-none : n ≤ i → left xs n i ≡ []
  left-none h = drop_of_length-le (take n xs) {i = i} (simp length-take (omega arith))

-- ---- counting down to one of those that pass a test

-- what a search from the index i on finds, with k to pass
abbrev pub nth_left : {A : Type 0} → (A → Bool) → List A → ℕ → ℕ → ℕ → Option ℕ
nth_left p xs n i k = further i (nth_index p (left xs n i) k)

module _ {A : Type 0} (p : A → Bool) (xs : List A) (n i : ℕ) where
  module _ (d : A) (h : i < n) (few : n ≤ length xs) where
    pub nth_here : (k : ℕ) → p (get_or xs i d) ≡ true → k ≡ 0 → nth_left p xs n i k ≡ Some i
    unfolding nth_index
    nth_here k e z = rw (left-more xs n i d h few, e, z) (ap Some (add-zero i))

    pub nth-counted : (k : ℕ) → p (get_or xs i d) ≡ true → (k ≡ 0 → ⊥) → nth_left p xs n i k ≡ nth_left p xs n (i + 1) (k - 1)
    unfolding nth_index
    nth-counted k e z = rw (left-more xs n i d h few, e, ne_eqb k 0 z) (further-more i (nth_index p (left xs n (i + 1)) (k - 1)))

    pub nth-passed : (k : ℕ) → p (get_or xs i d) ≡ false → nth_left p xs n i k ≡ nth_left p xs n (i + 1) k
    unfolding nth_index
    nth-passed k e = rw (left-more xs n i d h few, e) (further-more i (nth_index p (left xs n (i + 1)) k))

  pub nth-none : (k : ℕ) → n ≤ i → nth_left p xs n i k ≡ None
  unfolding nth_index
  nth-none k h = rw (left-none xs n i h)

-- ---- what a search finds

-- the one at the index n is the one counted k among those that pass
pub record NthAt {A : Type 0} (p : A → Bool) (xs : List A) (k n : ℕ) : Type 0 where
  pub within : n < length xs
  pub counted : k < length (keep p xs)
  pub at : (d : A) → get_or xs n d ≡ get_or (keep p xs) k d

module _ {A : Type 0} (p : A → Bool) where
  -- nothing is found where fewer pass
  abbrev pub NthSays : List A → ℕ → Option ℕ → Type 0
  NthSays xs k (Some n) = NthAt p xs k n
  NthSays xs k None = length (keep p xs) ≤ k

  module _ (x : A) (xs : List A) where
    later : (n : ℕ) (d : A) → get_or (x ∷ xs) (1 + n) d ≡ get_or xs n d
    later n d = let one : 1 + n ≡ suc n = omega arith in rw one

    hidden : (k : ℕ) (r : Option ℕ) → p x ≡ false → NthSays xs k r → NthSays (x ∷ xs) k (further 1 r)
    hidden k (Some n) e s = record { within = omega (arith, s.within); counted = rw e s.counted; at = λ d. later n d ∙ (rw e (s.at d)) }
    hidden k None e s = rw e s

    passed : (k : ℕ) (r : Option ℕ) → p x ≡ true → NthSays xs k r → NthSays (x ∷ xs) (suc k) (further 1 r)
    passed k (Some n) e s =
        record { within = omega (arith, s.within); counted = rw e (omega (arith, s.counted)); at = λ d. later n d ∙ (rw e (s.at d)) }
    passed k None e s = rw e (omega (arith, s))

  says : (xs : List A) (k : ℕ) → NthSays xs k (nth_index p xs k)
  unfolding nth_index
  says [] k = omega arith
  says (x ∷ xs) k = go (p x) refl k (says xs)
    where
      go : (b : Bool) → p x ≡ b → (k : ℕ) → ((j : ℕ) → NthSays xs j (nth_index p xs j))
          → NthSays (x ∷ xs) k (cond b (cond (eqb k 0) (Some 0) (further 1 (nth_index p xs (k - 1)))) (further 1 (nth_index p xs k)))
      go true e zero s = record { within = omega arith; counted = rw e (omega arith); at = λ d. rw e }
      go true e (suc k) s =
          let some : eqb (suc k) 0 ≡ false = ne_eqb (suc k) 0 (λ h. omega (arith, h)) in
          let one : suc k - 1 ≡ k = omega arith in
          rw (some, one) (passed x xs k (nth_index p xs k) e (s k))
      go false e k s = hidden x xs k (nth_index p xs k) e (s k)

  pub nth-says : (xs : List A) (k : ℕ) {r : Option ℕ} → nth_index p xs k ≡ r → NthSays xs k r
  nth-says xs k e = rw (← e) (says xs k)

nth-map : {A B : Type 0} (f : A → B) (p : B → Bool) (xs : List A) (k : ℕ) → nth_index p (map f xs) k ≡ nth_index (λ x. p (f x)) xs k
unfolding nth_index
nth-map f p [] k = refl
nth-map f p (x ∷ xs) k = rw (nth-map f p xs (k - 1), nth-map f p xs k)

-- ---- counts of toggles and characters

one-more : (b : Bool) (x : ℕ) (xs : List ℕ) → length (cond b (x ∷ xs) xs) ≡ cond b (1 + length xs) (length xs)
one-more true x xs = omega arith
one-more false x xs = refl

module _ (cs : List Character) where
  pub shown-count : length (keep shown (toggle_counts cs)) ≡ length (visibles cs)
  unfolding is_visible
  shown-count =
      ap length (keep-map (λ (c : Character). c.toggles) shown is_visible (λ c. refl) cs)
      ∙ length-map (keep is_visible cs) (λ c. c.toggles)
      ∙ sym (visibles-length cs)

  -- what the library counts among the toggles
  pub shown-counted : {ts : List ℕ} {n : ℕ} → toggle_counts cs ≡ ts → n ≡ count_by shown ts → n ≡ length (visibles cs)
  shown-counted {ts} e f =
      f
      ∙ sym (is_count_by (λ (ys : List ℕ). length (keep shown ys)) shown refl (λ y ys. one-more (shown y) y (keep shown ys)) ts)
      ∙ ap (λ (ys : List ℕ). length (keep shown ys)) (sym e)
      ∙ shown-count

  pub shown-nth : (ts : List ℕ) (n k : ℕ) → toggle_counts cs ≡ take n ts → nth_left shown ts n 0 k ≡ nth_index is_visible cs k
  unfolding is_visible
  shown-nth ts n k e = further-none (nth_index shown (take n ts) k) ∙ rw (← e) (nth-map (λ (c : Character). c.toggles) shown cs k)

  -- the key of the one that was found, or the mark's
  key-found : (k n mark : ℕ) → nth_index is_visible cs k ≡ Some n → get_or (keys cs) n 0 ≡ get_key (visibles cs) k mark
  unfolding visibles
  key-found k n mark e =
      let s = nth-says is_visible cs k e in
      map_get_d (λ (c : Character). key c.id) cs n 0 blank_character s.within
      ∙ ap (λ (c : Character). key c.id) (s.at blank_character)
      ∙ sym (map_get_d key (visibles cs) k mark blank_character.id (omega (arith, s.counted, visibles-length cs))
      ∙ ap key (map_get_d (λ (c : Character). c.id) (keep is_visible cs) k blank_character.id blank_character s.counted))

  pub key-none : (k mark : ℕ) → nth_index is_visible cs k ≡ None → mark ≡ get_key (visibles cs) k mark
  key-none k mark e =
      let few : length (map key (visibles cs)) ≤ k = omega (arith, nth-says is_visible cs k e, visibles-length cs, length-map (visibles cs) key) in
      sym (get_or-eq_default (map key (visibles cs)) mark few)

  pub slot-key : (ids : List ℕ) (n k i mark : ℕ) → keys cs ≡ take n ids → nth_index is_visible cs k ≡ Some i → i < n
      → get_or ids i 0 ≡ get_key (visibles cs) k mark
  slot-key ids n k i mark e f h = sym (get_or-take n ids i 0 h) ∙ rw (← e) (key-found k i mark f)

-- what is found in an array stands in one of its first n slots
pub slot-within : (ts : List ℕ) (n k i : ℕ) {r : Option ℕ} → n ≤ length ts
    → ((cs : List Character) → toggle_counts cs ≡ take n ts → r ≡ nth_index is_visible cs k) → r ≡ Some i → i < n
slot-within ts n k i h f e =
    let rows = characters_of [] [] [] [] ts n in
    let s = nth-says is_visible rows k (sym (f rows (rows-toggles [] [] [] [] ts n h)) ∙ e) in
    omega (arith, s.within, rows-length [] [] [] [] ts n)

-- ---- the keys beside an insertion point

module _ (xs : List Identifier) (k : ℕ) where
  pub left_key : (k ≡ 0 → ⊥) → get_key xs (k - 1) 0 ≡ key (get_or (begin ∷ xs) k begin)
  left_key h = ap (get_or (map key xs) (k - 1)) (sym key-begin) ∙ get_or-map key xs (k - 1) begin ∙ ap key (get_d_past begin xs k begin h)

  pub right_key : get_key xs k 1 ≡ key (get_or (xs ++ end ∷ []) k end)
  right_key = ap (get_or (map key xs) k) (sym key-end) ∙ get_or-map key xs k end ∙ ap key (get_d_last xs k end)

-- ---- the text

module _ (point toggles : ℕ) where
  pub spelt-shown : shown toggles ≡ true → spelt_as point toggles ≡ encode (printed point)
  unfolding spelt_as
  spelt-shown e = rw e

  pub spelt-not : shown toggles ≡ false → spelt_as point toggles ≡ []
  unfolding spelt_as
  spelt-not e = rw e

  pub spelt-few : (n : ℕ) → n ≡ length (spelt_as point toggles) → n ≤ 4
  unfolding spelt_as
  spelt-few n e = rw e (go (shown toggles))
    where
      go : (b : Bool) → length (cond b (encode (printed point)) []) ≤ 4
      go true = let m = printed point in omega (arith, length-encode m, (length-bounds m).1)
      go false = omega arith

-- the text that is left of the first n from the index i on
abbrev pub text_left : List ℕ → List ℕ → ℕ → ℕ → List ℕ
text_left ps ts n i = text_of (left ps n i) (left ts n i)

module _ (ps ts : List ℕ) (n i : ℕ) where
  pub text-more : i < n → n ≤ length ps → n ≤ length ts → text_left ps ts n i ≡ spelt_as (get_or ps i 0) (get_or ts i 0) ++ text_left ps ts n (i + 1)
  unfolding text_of
  text-more h p t = rw (left-more ps n i 0 h p, left-more ts n i 0 h t)

  pub length_more : (m : ℕ) → m ≡ length (spelt_as (get_or ps i 0) (get_or ts i 0)) → i < n → n ≤ length ps → n ≤ length ts
      → length (text_left ps ts n i) ≡ m + length (text_left ps ts n (i + 1))
  length_more m e h p t =
      rw (text-more h p t, e) (length-append (spelt_as (get_or ps i 0) (get_or ts i 0)) (text_left ps ts n (i + 1)))

  pub text-done : n ≤ i → text_left ps ts n i ≡ []
  unfolding text_of
  text-done h = rw (left-none ps n i h)

-- characters with these columns have this text
pub text-columns : (cs : List Character) → text_of (code_points_of cs) (toggle_counts cs) ≡ text cs
unfolding text_of text encoded spelt_as spelt is_visible
text-columns [] = refl
text-columns (c ∷ cs) = ap (λ (bs : List ℕ). spelt c ++ bs) (text-columns cs) ∙ sym (text-cons c cs)

-- ---- a run of bytes put into a slice part by part

-- the slice was out₀; now it is out, and what is left of the run is to be put at the offset
pub record Going (run out₀ out : List ℕ) (at : ℕ) (rest : List ℕ) : Type 0 where
  pub room : at + length rest ≤ length out
  pub whole : placed out at rest ≡ placed out₀ 0 run
  pub kept : length out ≡ length out₀

pub onward : (run out₀ out : List ℕ) (at : ℕ) (a b : List ℕ) → Going run out₀ out at (a ++ b) → {at' : ℕ} {out' : List ℕ}
    → at' ≡ past out at a → out' ≡ placed out at a → Going run out₀ out' at' b
onward run out₀ out at a b g p q =
    rw (p, q)
    (record {
      room = run_room out at a b g.room;
      whole = run_more out at a b g.room ∙ g.whole;
      kept = length-placed out at a ∙ g.kept;
    })

pub arrived : (run out₀ out : List ℕ) (at : ℕ) → Going run out₀ out at [] → out ≡ placed out₀ 0 run
arrived run out₀ out at g = sym (placed-none out at) ∙ g.whole
