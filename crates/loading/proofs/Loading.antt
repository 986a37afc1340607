-- Lines that have the layout: whether each passes is whether what it says does, and what all of them say is what each says.
use mathlib.Core.Path.{◌≡◌, refl, ap, ap₂, ◌∙◌}
use mathlib.Core.List.{List, [], ◌∷◌, map}
use mathlib.Core.Bool.{Bool, true, false, ◌&&◌}
use Prim.Native.Nat.{ℕ, ◌≤◌}
use native.Mathlib.Omega.{arith}
use lib.ListN.{length, length-append}
use Rattle.lists.specs.Lists.{every}
use Rattle.woot.specs.Ranges.{character_in_range, in_range}
use Rattle.bulk.specs.Archiving.{characters_of}
use Rattle.lists.proofs.Tests.{and_left_lem, and_right}
use Rattle.lines.specs.Lines.{leading, trailing}
use Rattle.saved.specs.declared.Version.{Version}
use Rattle.saved.specs.declared.Rows.{Rows}
use Rattle.saved.specs.Format.{is_operation, operation_said}
use Rattle.saved.specs.Rows.{is_row, row_said, row_within}
use Rattle.loading.specs.Reading.{row_passes, operation_passes}
use Rattle.saved_lines.proofs.Judging.{row-passes, operation-passes}
use Rattle.lines.proofs.Lines.{apart}

-- ---- lines that have the layout

-- conjunctions as the definitions have them, and as the code goes through them
four : (a b c d : Bool) → (a && b) && (c && d) ≡ (a && c) && (b && d)
four true true c d = refl
four true false true d = refl
four true false false d = refl
four false b c d = refl

pub rows_pass : (k : Rows) (ls : List (List ℕ)) → every (is_row k) ls ≡ true
    → every (row_passes k) ls ≡ every (row_within k) (map (row_said k) ls) && every character_in_range (characters_of (map (row_said k) ls))
rows_pass k [] e = refl
rows_pass k (l ∷ ls) e =
    let p = row_said k l in
    let ps = map (row_said k) ls in
    ap₂ (λ (a b : Bool). a && b) (row-passes k l (and_left_lem (is_row k l) (every (is_row k) ls) e))
    (rows_pass k ls (and_right (is_row k l) (every (is_row k) ls) e))
    ∙ four (row_within k p) (character_in_range p.character) (every (row_within k) ps) (every character_in_range (characters_of ps))

pub operations-pass : (v : Version) (ls : List (List ℕ)) → every (is_operation v) ls ≡ true → every (operation_passes v) ls ≡ every in_range (map operation_said ls)
operations-pass v [] e = refl
operations-pass v (l ∷ ls) e =
    ap₂ (λ (a b : Bool). a && b) (operation-passes v l (and_left_lem (is_operation v l) (every (is_operation v) ls) e)) (operations-pass v ls (and_right (is_operation v l) (every (is_operation v) ls) e))

-- what lines say that all pass
pub all_say : {A B : Type 0} (f : List ℕ → A) (g : List ℕ → B) (h : B → A) (p : List ℕ → Bool) → ((l : List ℕ) → p l ≡ true → f l ≡ h (g l))
    → (ls : List (List ℕ)) → every p ls ≡ true → map f ls ≡ map h (map g ls)
all_say f g h p each [] e = refl
all_say {A} f g h p each (l ∷ ls) e =
    ap₂ (λ (x : A) (xs : List A). x ∷ xs) (each l (and_left_lem (p l) (every p ls) e)) (all_say f g h p each ls (and_right (p l) (every p ls) e))

pub map_same : {A : Type 0} (xs : List A) → map (λ x. x) xs ≡ xs
map_same [] = refl
map_same {A} (x ∷ xs) = ap (λ (ys : List A). x ∷ ys) (map_same xs)

pub leading_le : {A : Type 0} (p : A → Bool) (xs : List A) → length (leading p xs) ≤ length xs
leading_le p xs = omega (arith, length-append (leading p xs) (trailing p xs), ap length (apart p xs))

-- ---- the whole

pub around : (r a c o : Bool) → r && (a && c && o) ≡ a && (r && c) && o
around true a c o = refl
around false true c o = refl
around false false c o = refl

pub skipped : (a b : Bool) → a && true && b ≡ a && b
skipped true b = refl
skipped false b = refl
