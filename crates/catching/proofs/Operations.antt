-- Four numbers put behind the operations of some columns are one operation more.
use Prim.Native.Nat.{ℕ, ◌+◌, ◌*◌, ◌/◌, ◌%◌, ◌<◌}
use native.Mathlib.Omega.{arith}
use native.Mathlib.Numerals.{add-one}
use mathlib.Core.Path.{◌≡◌, refl, sym, ap, ap₂, ◌∙◌}
use mathlib.Core.Bool.{Bool, true, false, cond}
use mathlib.Core.List.{List, [], ◌∷◌, ◌++◌, append-nil}
use borrow.Author.Tests.{eq-eqb, ne_eqb}
use lib.Dec.{eqb}
use lib.ListN.{length, get_or, set}
use lib.Seq.{get_or-set_same, get_or-set_other}
use Rattle.woot.specs.declared.Operation.{Operation}
use Rattle.woot.specs.declared.Operation.TheVariants.{Toggle as toggle}
use Rattle.woot.specs.declared.Character.{Character}
use Rattle.bulk.specs.Loading.{turnings}
use Rattle.woot.specs.Memory.{identifier, each, character_of, character_at, characters_of, operation_of, operation_at}
use Rattle.woot.specs.Memory.{operations_of}
use Rattle.woot.specs.Memory.{key_column, previous_column, next_column, code_point_column}
use Rattle.convergence.proofs.Arrivals.{turn}
use Rattle.memory.proofs.Characters.{each_cong}
use Rattle.memory.proofs.Fullness.{column-length}
use Rattle.heap.specs.Keeping.{PutAt}
use Rattle.saving.specs.Documents.{operations_among}
use Rattle.catching.specs.Columns.{InsertsOf, TogglesOf}

-- ---- one operation

module _ (xs : List ℕ) (i w x y z : ℕ) {ys : List ℕ} (size : length xs ≡ 4096) (h : i < 1024)
    (p : PutAt xs i w x y z ys) where
  -- a column keeps what stands in its other slots
  other : (col new : List ℕ) (v : ℕ) → new ≡ set col i v → (j : ℕ) → j < i → get_or new j 0 ≡ get_or col j 0
  other col new v e j l = ap (λ (xs : List ℕ). get_or xs j 0) e ∙ get_or-set_other col i j v 0 (λ q. omega (arith, q, l))

  own : (col new : List ℕ) (v : ℕ) → new ≡ set col i v → length col ≡ 1024 → get_or new i 0 ≡ v
  own col new v e f = ap (λ (xs : List ℕ). get_or xs i 0) e ∙ get_or-set_same col i v 0 (omega (arith, f, h))

  before : (j : ℕ) → j < i
      → operation_at (key_column ys) (previous_column ys) (next_column ys) (code_point_column ys) j
      ≡ operation_at (key_column xs) (previous_column xs) (next_column xs) (code_point_column xs) j
  before j l =
      let a = other (key_column xs) (key_column ys) w p.ids j l in
      let b = other (previous_column xs) (previous_column ys) x p.previous j l in
      let c = other (next_column xs) (next_column ys) y p.next j l in
      let d = other (code_point_column xs) (code_point_column ys) z p.points j l in
      λ k. operation_of (a k) (b k) (c k) (d k)

  here : operation_at (key_column ys) (previous_column ys) (next_column ys) (code_point_column ys) i ≡ operation_of w x y z
  here =
      let a = own (key_column xs) (key_column ys) w p.ids (column-length 1024 0 xs (omega (arith, size))) in
      let b = own (previous_column xs) (previous_column ys) x p.previous (column-length 1024 1 xs (omega (
        arith,
        size,
      ))) in
      let c = own (next_column xs) (next_column ys) y p.next (column-length 1024 2 xs (omega (arith, size))) in
      let d = own (code_point_column xs) (code_point_column ys) z p.points (column-length 1024 3 xs (omega (
        arith,
        size,
      ))) in
      λ k. operation_of (a k) (b k) (c k) (d k)

  operation_put : operations_among ys (i + 1) ≡ operations_among xs i ++ operation_of w x y z ∷ []
  unfolding operations_among operations_of
  operation_put =
      rw (add-one i) (ap₂ (λ (os : List Operation) (o : Operation). os ++ o ∷ []) (each_cong _ _ i before) here)

-- ---- inserts

module _ (ids previous next points order : List ℕ) where
  pub no-inserts : (numbers : List ℕ) → length numbers ≡ 4096 → InsertsOf ids previous next points order 0 numbers
  unfolding operations_among operations_of
  no-inserts numbers e = record { size = e; inserts = refl }

  pub one-insert : {i : ℕ} {xs ys : List ℕ} → InsertsOf ids previous next points order i xs → i < 1024 → {r : ℕ}
      → r ≡ get_or order i 0
      → PutAt xs i (get_or ids r 0) (get_or previous r 0) (get_or next r 0) (get_or points r 0) ys
      → InsertsOf ids previous next points order (i + 1) ys
  one-insert {i} {xs} {ys} t h {r} e p =
      record {
        size = p.size ∙ t.size;
        inserts =
            operation_put xs i (get_or ids r 0) (get_or previous r 0) (get_or next r 0) (get_or points r 0) t.size h p
            ∙ rw (add-one i)
            (ap₂ (λ (os : List Operation) (k : ℕ). os ++ operation_at ids previous next points k ∷ []) t.inserts e);
      }

-- ---- toggles

-- those of one row more
turnings-more : (n : ℕ) (cs : List Character) (c : Character)
    → turnings n (cs ++ c ∷ []) ≡ turnings n cs ++ cond (eqb c.toggles 0) [] (toggle (turn n c) ∷ [])
unfolding turnings
turnings-more n [] c = refl
turnings-more n (d ∷ cs) c = go (eqb d.toggles 0) (turnings-more n cs c)
  where
    new : List Operation
    new = cond (eqb c.toggles 0) [] (toggle (turn n c) ∷ [])

    go : (b : Bool) → turnings n (cs ++ c ∷ []) ≡ turnings n cs ++ new
        → cond b (turnings n (cs ++ c ∷ [])) (toggle (turn n d) ∷ turnings n (cs ++ c ∷ []))
        ≡ cond b (turnings n cs) (toggle (turn n d) ∷ turnings n cs) ++ new
    go true e = e
    go false e = ap (λ (os : List Operation). toggle (turn n d) ∷ os) e

module _ (ids toggles : List ℕ) (sender : ℕ) where
  pub no-toggles : (numbers : List ℕ) → length numbers ≡ 4096 → TogglesOf ids toggles 0 sender numbers 0
  unfolding operations_among operations_of characters_of turnings
  no-toggles numbers e = record { size = e; few = omega arith; toggled = λ ps ns vs. refl }

  module _ {i count : ℕ} {xs : List ℕ} (t : TogglesOf ids toggles i sender xs count) where
    more : (ps ns vs : List ℕ)
        → turnings sender (characters_of ids ps ns vs toggles (i + 1))
        ≡ turnings sender (characters_of ids ps ns vs toggles i)
        ++ cond (eqb (get_or toggles i 0) 0) [] (toggle (turn sender (character_at ids ps ns vs toggles i)) ∷ [])
    unfolding characters_of character_of
    more ps ns vs =
        rw (add-one i)
        (turnings-more sender (each (character_at ids ps ns vs toggles) i) (character_at ids ps ns vs toggles i))

    -- a row that was never toggled
    pub not-toggled : get_or toggles i 0 ≡ 0 → {r : ℕ} {ys : List ℕ} → r ≡ count → ys ≡ xs
        → TogglesOf ids toggles (i + 1) sender ys r
    not-toggled z e f =
        rw (e, f)
        (record {
          size = t.size;
          few = omega (arith, t.few);
          toggled =
              λ ps ns vs.
              t.toggled ps ns vs
              ∙ sym (more ps ns vs
              ∙ ap (λ (b : Bool). turnings sender (characters_of ids ps ns vs toggles i)
              ++ cond b [] (toggle (turn sender (character_at ids ps ns vs toggles i)) ∷ [])) (eq-eqb (get_or toggles i
              0) 0 z)
              ∙ append-nil (turnings sender (characters_of ids ps ns vs toggles i)));
        })

    said : {v : ℕ} → v ≡ sender * 256 + get_or toggles i 0 → get_or toggles i 0 < 256 → (ps ns vs : List ℕ)
        → operation_of 0 (get_or ids i 0) 0 v ≡ toggle (turn sender (character_at ids ps ns vs toggles i))
    unfolding operation_of character_of
    said {v} e small ps ns vs =
        let high : 0 * 256 + v / 256 ≡ sender = omega (arith, e, small) in
        let low : v % 256 ≡ get_or toggles i 0 = omega (arith, e, small) in
        ap toggle (λ j. record { sender = high j; target = identifier (get_or ids i 0); toggles = low j })

    -- one that was
    pub one_toggle : (get_or toggles i 0 ≡ 0 → ⊥) → get_or toggles i 0 < 256 → count < 1024 → {v : ℕ} {ys : List ℕ}
        → v ≡ sender * 256 + get_or toggles i 0 → PutAt xs count 0 (get_or ids i 0) 0 v ys → {r : ℕ} {zs : List ℕ}
        → r ≡ count + 1 → zs ≡ ys → TogglesOf ids toggles (i + 1) sender zs r
    one_toggle z small h {v} {ys} e p f g =
        rw (f, g)
        (record {
          size = p.size ∙ t.size;
          few = omega (arith, t.few);
          toggled =
              λ ps ns vs.
              operation_put xs count 0 (get_or ids i 0) 0 v t.size h p
              ∙ ap₂ (λ (os : List Operation) (o : Operation). os ++ o ∷ []) (t.toggled ps ns vs) (said e small ps ns
              vs)
              ∙ sym (more ps ns vs
              ∙ ap (λ (b : Bool). turnings sender (characters_of ids ps ns vs toggles i)
              ++ cond b [] (toggle (turn sender (character_at ids ps ns vs toggles i)) ∷ []))
              (ne_eqb (get_or toggles i 0) 0 z));
        })
