-- Laws of the lines of bytes: they are taken off the front one by one, and put together again.
use mathlib.Core.Path.{◌≡◌, refl, sym, ap, ◌∙◌}
use mathlib.Core.List.{List, [], ◌∷◌, ◌++◌, append_assoc}
use mathlib.Core.Bool.{Bool, true, false, cond}
use mathlib.Core.Logic.{⊎_elim}
use Prim.Native.Nat.{ℕ, suc, ◌+◌, ◌<◌, ◌≤◌}
use native.Mathlib.Numerals.{add-one}
use native.Mathlib.Omega.{arith}
use lib.Dec.{eqb}
use lib.ListN.{length, drop, get_or, length-append, length-drop}
use lib.Seq.{append_snoc, drop-drop}
use borrow.Author.Tests.{eqb-true, eqb-false}
use Rattle.lists.proofs.Tests.{either, clash, passes, or-false}
use Rattle.lists.proofs.Members.{any_append}
use Rattle.lines.specs.Lines.{line_feed, has, before, after, ended, first_line, rest, on_line, lines, last, closed, leading, trailing, concatenated}
use Rattle.std.proofs.Common.{Err}
use Rattle.decimal.specs.declared.Fault.TheVariants.{Malformed}
use Rattle.lines.specs.Fields.{tab, fields, has_layout, values_of, columns, line_of}
use Rattle.lines.specs.Answers.{verdict_on, numbers_of, front_of}
use Rattle.lines.proofs.Bytes.{drop-before, split, before-append, after-append, has-append_seam}
use Rattle.lines.proofs.Spelling.{no-columns, spelled}

-- ---- the first line, and the others

before-after : (s : List ℕ) → has line_feed s ≡ true → lines s ≡ before line_feed s ∷ lines (after line_feed s)
before-after [] e = cc
before-after (b ∷ s) e = go (eqb b line_feed) refl (before-after s)
  where
    go : (t : Bool) → eqb b line_feed ≡ t → (has line_feed s ≡ true → lines s ≡ before line_feed s ∷ lines (after line_feed s))
        → lines (b ∷ s) ≡ before line_feed (b ∷ s) ∷ lines (after line_feed (b ∷ s))
    go true p others = rw p
    go false p others = rw p (ap (on_line b) (others (rw p at e)))

none-there : (s : List ℕ) → has line_feed s ≡ false → lines s ≡ []
none-there [] e = refl
none-there (b ∷ s) e = go (eqb b line_feed) refl (none-there s)
  where
    go : (t : Bool) → eqb b line_feed ≡ t → (has line_feed s ≡ false → lines s ≡ []) → lines (b ∷ s) ≡ []
    go true p others = cc
    go false p others = rw p (ap (on_line b) (others (rw p at e)))

after_none : (s : List ℕ) → has line_feed s ≡ false → after line_feed s ≡ []
after_none [] e = refl
after_none (b ∷ s) e = go (eqb b line_feed) refl (after_none s)
  where
    go : (t : Bool) → eqb b line_feed ≡ t → (has line_feed s ≡ false → after line_feed s ≡ []) → after line_feed (b ∷ s) ≡ []
    go true p others = cc
    go false p others = rw p (others (rw p at e))

module _ (s : List ℕ) where
  pub lines-ended : ended s ≡ true → lines s ≡ first_line s ∷ lines (rest s)
  unfolding ended first_line rest
  lines-ended e = before-after s e

  pub lines_unended : ended s ≡ false → lines s ≡ []
  unfolding ended
  lines_unended e = none-there s e

  rest_unended : ended s ≡ false → rest s ≡ []
  unfolding ended rest
  rest_unended e = after_none s e

  -- what is read as the first line: where no line feed ends it, nothing
  pub head-line : cond (ended s) (first_line s) [] ≡ get_or (lines s) 0 []
  head-line = go (ended s) refl
    where
      go : (t : Bool) → ended s ≡ t → cond t (first_line s) [] ≡ get_or (lines s) 0 []
      go true e = rw (lines-ended e)
      go false e = rw (lines_unended e)

  -- the same of what is read at the front of the bytes
  pub front-line : (h : ℕ) (hs limits : List ℕ) → front_of (h ∷ hs) limits s ≡ numbers_of (h ∷ hs) limits (fields (get_or (lines s) 0 []))
  unfolding front_of numbers_of verdict_on has_layout
  front-line h hs limits = go (ended s) refl
    where
      go : (t : Bool) → ended s ≡ t
          → cond t (numbers_of (h ∷ hs) limits (fields (first_line s))) (Err Malformed) ≡ numbers_of (h ∷ hs) limits (fields (get_or (lines s) 0 []))
      go true e = rw (lines-ended e)
      go false e = rw (lines_unended e)

  -- the bytes from the offset just past the first line
  pub past-front : {next : ℕ} → next ≡ length (first_line s) + 1 → drop next s ≡ rest s
  unfolding first_line rest
  past-front e = rw (e, add-one (length (before line_feed s))) (drop-before line_feed s)

  -- the first line, its line feed and the bytes after it are all
  pub whole_length : ended s ≡ true → length s ≡ suc (length (first_line s)) + length (rest s)
  unfolding ended first_line rest
  whole_length e = ap length (split line_feed s e) ∙ length-append (before line_feed s) (line_feed ∷ after line_feed s) ∙ omega arith

  pub lines_rest : lines (rest s) ≡ drop 1 (lines s)
  lines_rest = ⊎_elim (λ e. rw (lines-ended e)) (λ e. rw (lines_unended e, rest_unended e)) (either (ended s))

-- ---- the last line feed

-- the last byte of bytes that are some does not depend on what else it would be
last-after : (z : ℕ) (s : List ℕ) → has line_feed s ≡ true → last z s ≡ last line_feed (after line_feed s)
last-after z [] e = cc
last-after z (b ∷ s) e = go (eqb b line_feed) refl (last-after b s)
  where
    go : (t : Bool) → eqb b line_feed ≡ t → (has line_feed s ≡ true → last b s ≡ last line_feed (after line_feed s))
        → last z (b ∷ s) ≡ last line_feed (after line_feed (b ∷ s))
    go true p others = rw (p, eqb-true b line_feed p)
    go false p others = rw p (others (rw p at e))

last_none : (z : ℕ) (s : List ℕ) → has line_feed s ≡ false → eqb z line_feed ≡ false → eqb (last z s) line_feed ≡ false
last_none z [] e h = h
last_none z (b ∷ s) e h = go (eqb b line_feed) refl (last_none b s)
  where
    go : (t : Bool) → eqb b line_feed ≡ t → (has line_feed s ≡ false → eqb b line_feed ≡ false → eqb (last b s) line_feed ≡ false)
        → eqb (last b s) line_feed ≡ false
    go true p others = cc
    go false p others = others (rw p at e) p

pub closed-rest : (s : List ℕ) → ended s ≡ true → closed (rest s) ≡ closed s
unfolding ended rest closed
closed-rest s e = rw (last-after line_feed s e)

-- bytes that no line feed ends are not closed, unless there are none
pub closed_unended : (s : List ℕ) → 0 < length s → ended s ≡ false → closed s ≡ false
unfolding ended closed
closed_unended [] h e = absurd (omega arith)
closed_unended (b ∷ s) h e = go (eqb b line_feed) refl
  where
    go : (t : Bool) → eqb b line_feed ≡ t → eqb (last b s) line_feed ≡ false
    go true p = cc
    go false p = last_none b s (rw p at e) p

-- the rest is shorter
after-le : (s : List ℕ) → length (after line_feed s) ≤ length s
after-le [] = omega arith
after-le (b ∷ s) = go (eqb b line_feed) refl (after-le s)
  where
    go : (t : Bool) → eqb b line_feed ≡ t → length (after line_feed s) ≤ length s → length (after line_feed (b ∷ s)) ≤ length (b ∷ s)
    go true p h = rw p (omega arith)
    go false p h = rw p (omega arith)

pub rest_shorter : (s : List ℕ) → 0 < length s → length (rest s) < length s
unfolding rest
rest_shorter [] h = absurd (omega arith)
rest_shorter (b ∷ s) h = go (eqb b line_feed) refl
  where
    go : (t : Bool) → eqb b line_feed ≡ t → length (after line_feed (b ∷ s)) < length (b ∷ s)
    go true p = rw p (omega arith)
    go false p = rw p (omega (arith, after-le s))

-- ---- a line before any bytes

lines-append : (p s : List ℕ) → has line_feed p ≡ false → lines (p ++ line_feed ∷ s) ≡ p ∷ lines s
lines-append [] s e = refl
lines-append (b ∷ p) s e = go (eqb b line_feed) refl (lines-append p s)
  where
    go : (t : Bool) → eqb b line_feed ≡ t → (has line_feed p ≡ false → lines (p ++ line_feed ∷ s) ≡ p ∷ lines s)
        → lines (b ∷ p ++ line_feed ∷ s) ≡ (b ∷ p) ∷ lines s
    go true q others = cc
    go false q others = rw q (ap (on_line b) (others (rw q at e)))

last-append : (z : ℕ) (p s : List ℕ) → last z (p ++ line_feed ∷ s) ≡ last line_feed s
last-append z [] s = refl
last-append z (b ∷ p) s = last-append b p s

module _ (head ns bytes : List ℕ) where
  -- the line and what follows it, parted at the line feed
  seam : line_of head ns ++ bytes ≡ (head ++ columns ns) ++ line_feed ∷ bytes
  unfolding line_of
  seam =
      ap (λ (l : List ℕ). l ++ bytes) (sym (append_assoc head (columns ns) (line_feed ∷ [])))
      ∙ append_snoc (head ++ columns ns) line_feed bytes

  pub closed_line : closed (line_of head ns ++ bytes) ≡ closed bytes
  unfolding closed
  closed_line = rw (seam, last-append line_feed (head ++ columns ns) bytes)

  -- a head word with no line feed in it
  module _ (h : has line_feed head ≡ false) where
    pub no-feed : has line_feed (head ++ columns ns) ≡ false
    no-feed =
        any_append (λ x. eqb x line_feed) head (columns ns)
        ∙ or-false h (no-columns line_feed (omega arith) (eqb-false tab line_feed refl) ns)

    pub line_ended : ended (line_of head ns ++ bytes) ≡ true
    unfolding ended
    line_ended = rw seam (has-append_seam line_feed (head ++ columns ns) bytes)

    pub line_first : first_line (line_of head ns ++ bytes) ≡ head ++ columns ns
    unfolding first_line
    line_first = rw seam (before-append line_feed (head ++ columns ns) bytes no-feed)

    pub line_rest : rest (line_of head ns ++ bytes) ≡ bytes
    unfolding rest
    line_rest = rw seam (after-append line_feed (head ++ columns ns) bytes no-feed)

    pub lines_line : lines (line_of head ns ++ bytes) ≡ (head ++ columns ns) ∷ lines bytes
    lines_line = rw seam (lines-append (head ++ columns ns) bytes no-feed)

-- a first line that is the head word and the numbers is theirs, with its line feed
pub whole_line : (s head ns : List ℕ) → ended s ≡ true → first_line s ≡ head ++ columns ns → s ≡ line_of head ns ++ rest s
unfolding ended first_line rest
whole_line s head ns e f = split line_feed s e ∙ rw f (sym (seam head ns (after line_feed s)))

-- ---- all lines, each with its line feed

abbrev pub whole : List ℕ → List ℕ
whole line = line ++ (line_feed ∷ [])

pub rejoined : (s : List ℕ) → closed s ≡ true → s ≡ concatenated whole (lines s)
unfolding closed
rejoined [] e = refl
rejoined (b ∷ []) e = rw e (ap (λ (x : ℕ). x ∷ []) (eqb-true b line_feed e))
rejoined (b ∷ d ∷ s) e = go (eqb b line_feed) refl (rejoined (d ∷ s) e)
  where
    more : (ls : List (List ℕ)) → d ∷ s ≡ concatenated whole ls → b ∷ d ∷ s ≡ concatenated whole (on_line b ls)
    more [] p = cc
    more (l ∷ ls) p = ap (λ (x : List ℕ). b ∷ x) p

    go : (t : Bool) → eqb b line_feed ≡ t → d ∷ s ≡ concatenated whole (lines (d ∷ s)) → b ∷ d ∷ s ≡ concatenated whole (lines (b ∷ d ∷ s))
    go true p others = rw (p, eqb-true b line_feed p) (ap (λ (x : List ℕ). line_feed ∷ x) others)
    go false p others = rw p (more (lines (d ∷ s)) others)

-- a line with the layout is its head word and its numbers
pub respelled : (head : List ℕ) (count : ℕ) (line ns : List ℕ) → has_layout head count (fields line) ≡ true
    → ns ≡ values_of (fields line) → line_of head ns ≡ whole line
unfolding line_of
respelled head count line ns h e =
    ap (λ (ms : List ℕ). head ++ (columns ms ++ (line_feed ∷ []))) e
    ∙ sym (append_assoc head (columns (values_of (fields line))) (line_feed ∷ []))
    ∙ sym (ap whole (spelled head count line h).0)

-- ---- lists taken apart by a test

module _ {A : Type 0} (p : A → Bool) where
  pub apart : (xs : List A) → xs ≡ leading p xs ++ trailing p xs
  apart [] = refl
  apart (x ∷ xs) = go (p x) refl (apart xs)
    where
      go : (t : Bool) → p x ≡ t → xs ≡ leading p xs ++ trailing p xs → x ∷ xs ≡ leading p (x ∷ xs) ++ trailing p (x ∷ xs)
      go true e others = rw e (ap (λ (ys : List A). x ∷ ys) others)
      go false e others = rw e

  pub trailing-drop : (xs : List A) → trailing p xs ≡ drop (length (leading p xs)) xs
  trailing-drop [] = refl
  trailing-drop (x ∷ xs) = go (p x) refl (trailing-drop xs)
    where
      go : (t : Bool) → p x ≡ t → trailing p xs ≡ drop (length (leading p xs)) xs → trailing p (x ∷ xs) ≡ drop (length (leading p (x ∷ xs))) (x ∷ xs)
      go true e others = rw e others
      go false e others = rw e

pub concatenated-append : {A : Type 0} (f : A → List ℕ) (xs ys : List A) → concatenated f (xs ++ ys) ≡ concatenated f xs ++ concatenated f ys
concatenated-append f [] ys = refl
concatenated-append f (x ∷ xs) ys = ap (λ (l : List ℕ). f x ++ l) (concatenated-append f xs ys) ∙ sym (append_assoc (f x) (concatenated f xs) (concatenated f ys))

-- the first of lines that has what nothing has
pub head_first : (p : List ℕ → Bool) → p [] ≡ false → (ls : List (List ℕ)) → p (get_or ls 0 []) ≡ true → ls ≡ get_or ls 0 [] ∷ drop 1 ls
head_first p none [] e = clash e none
head_first p none (l ∷ ls) e = refl

-- one line more taken off
module _ (s left : List ℕ) (i : ℕ) (e : lines left ≡ drop i (lines s)) where
  pub skip-lines : lines (rest left) ≡ drop (i + 1) (lines s)
  skip-lines = lines_rest left ∙ ap (drop 1) e ∙ drop-drop 1 i (lines s)

  pub skip_closed : i < length (lines s) → closed (rest left) ≡ closed left
  skip_closed h = closed-rest left (passes (ended left) (λ p. omega (arith, length-drop i (lines s), ap length (sym e ∙ lines_unended left p))))
