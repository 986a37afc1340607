-- The columns of an array replaced one after another, each as a part that is lent: what a part holds before, and the array
-- afterwards.
use Prim.Native.Nat.{ℕ, ◌*◌}
use native.Mathlib.Omega.{arith}
use mathlib.Core.Path.{◌≡◌, sym, ap, ◌∙◌}
use mathlib.Core.List.{List, [], ◌++◌, append_assoc, append-nil}
use lib.ListN.{length, take, drop, length-append}
use lib.Seq.{take_at, drop_at}
use borrow.Rule.Slice.PartMut.{put_mid}
use Rattle.woot.specs.Memory.{column}
use Rattle.memory.proofs.Fullness.{column-length}
use Rattle.memory.proofs.Views.{columns-whole, first-column, second-column, third-column, fourth_column}

-- one part replaced, with what stands before it and behind it
replaced : (a m : ℕ) (ps qs ns rs : List ℕ) → length ps ≡ a → length qs ≡ m → put_mid a m (ps ++ (qs ++ rs)) ns ≡ ps ++ (ns ++ rs)
replaced a m ps qs ns rs e f =
    rw (take_at ps (qs ++ rs) a e, drop_at ps (qs ++ rs) a e, drop_at qs rs m f)

module _ (m : ℕ) (xs : List ℕ) (size : length xs ≡ 4 * m) where
  abbrev ws : List ℕ
  ws = column m 0 xs

  abbrev us : List ℕ
  us = column m 1 xs

  abbrev ys : List ℕ
  ys = column m 2 xs

  abbrev zs : List ℕ
  zs = column m 3 xs

  wide_0 : length ws ≡ m
  wide_0 = column-length m 0 xs (omega (arith, size))

  wide_1 : length us ≡ m
  wide_1 = column-length m 1 xs (omega (arith, size))

  wide_2 : length ys ≡ m
  wide_2 = column-length m 2 xs (omega (arith, size))

  wide_3 : length zs ≡ m
  wide_3 = column-length m 3 xs (omega (arith, size))

  behind : drop m xs ≡ us ++ (ys ++ zs)
  behind = ap (drop m) (sym (columns-whole m xs size)) ∙ drop_at ws (us ++ (ys ++ zs)) m wide_0

  module _ (vs : List ℕ) (a : length vs ≡ m) where
    first : vs ++ drop m xs ≡ vs ++ (us ++ (ys ++ zs))
    first = ap (λ (l : List ℕ). vs ++ l) behind

    -- what the second part holds then
    pub second-before : take m (drop m (vs ++ drop m xs)) ≡ column m 1 xs
    second-before = rw (first, drop_at vs (us ++ (ys ++ zs)) m a) (take_at us (ys ++ zs) m wide_1)

    module _ (bs : List ℕ) (b : length bs ≡ m) where
      second : put_mid m m (vs ++ drop m xs) bs ≡ vs ++ (bs ++ (ys ++ zs))
      second = rw first (replaced m m vs us bs (ys ++ zs) a wide_1)

      pub third-before : take m (drop (2 * m) (put_mid m m (vs ++ drop m xs) bs)) ≡ column m 2 xs
      third-before = rw second (third-column m vs bs ys zs a b wide_2 wide_3)

      module _ (cs : List ℕ) (c : length cs ≡ m) where
        third : put_mid (2 * m) m (put_mid m m (vs ++ drop m xs) bs) cs ≡ vs ++ (bs ++ (cs ++ zs))
        third =
            let size : length (vs ++ bs) ≡ 2 * m = omega (arith, length-append vs bs) in
            rw (second, ← append_assoc vs bs (ys ++ zs)) (replaced (2 * m) m (vs ++ bs) ys cs zs size wide_2)
            ∙ append_assoc vs bs (cs ++ zs)

        pub fourth_before : take m (drop (3 * m) (put_mid (2 * m) m (put_mid m m (vs ++ drop m xs) bs) cs)) ≡ column m 3 xs
        fourth_before = rw third (fourth_column m vs bs cs zs a b c wide_3)

        -- the array once the last is replaced too
        pub all_replaced : (ds : List ℕ) → put_mid (3 * m) m (put_mid (2 * m) m (put_mid m m (vs ++ drop m xs) bs) cs) ds ≡ vs ++ (bs ++ (cs ++ ds))
        all_replaced ds =
            let size : length (vs ++ (bs ++ cs)) ≡ 3 * m = omega (arith, length-append vs (bs ++ cs), length-append bs cs) in
            ap (λ (l : List ℕ). put_mid (3 * m) m l ds) (third ∙ joined zs)
            ∙ replaced (3 * m) m (vs ++ (bs ++ cs)) zs ds [] size wide_3
            ∙ sym (joined ds)
          where
            joined : (ls : List ℕ) → vs ++ (bs ++ (cs ++ ls)) ≡ (vs ++ (bs ++ cs)) ++ (ls ++ [])
            joined ls =
                ap (λ (l : List ℕ). vs ++ (bs ++ (cs ++ l))) (sym (append-nil ls))
                ∙ ap (λ (l : List ℕ). vs ++ l) (sym (append_assoc bs cs (ls ++ [])))
                ∙ sym (append_assoc vs (bs ++ cs) (ls ++ []))

        -- and its columns
        pub columns-are : (ds : List ℕ) → length ds ≡ m
            → let rs = put_mid (3 * m) m (put_mid (2 * m) m (put_mid m m (vs ++ drop m xs) bs) cs) ds in
            (column m 0 rs ≡ vs) × (column m 1 rs ≡ bs) × (column m 2 rs ≡ cs) × (column m 3 rs ≡ ds)
        columns-are ds d =
            let e = all_replaced ds in (
              ap (column m 0) e ∙ first-column m vs bs cs ds a b c d,
              ap (column m 1) e ∙ second-column m vs bs cs ds a b c d,
              ap (column m 2) e ∙ third-column m vs bs cs ds a b c d,
              ap (column m 3) e ∙ fourth_column m vs bs cs ds a b c d,
            )
