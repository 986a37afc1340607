-- Both trips are one: what one form says in form, and the other can say, is the same state on the way back.
use Rattle.std.proofs.Common.{Err}
use mathlib.Core.Path.{◌≡◌, refl, sym, ap, ◌∙◌}
use mathlib.Core.List.{List, [], ◌∷◌, ◌++◌, map}
use mathlib.Core.Logic.{◌⊎◌, inl, inr}
use mathlib.Core.Bool.{Bool, true, false, not, ◌&&◌, ◌||◌}
use mathlib.Core.Option.{none, some}
use Prim.Native.Nat.{ℕ, ◌≤◌, ◌<◌}
use native.Mathlib.Omega.{arith}
use borrow.Author.Tests.{le-leb, le-ltb, lt-leb, lt-ltb}
use lib.Dec.{leb, ltb}
use lib.ListN.{length, get_or}
use Rattle.woot.specs.declared.Character.{Character}
use Rattle.woot.specs.declared.Operation.{Operation}
use Rattle.woot.specs.declared.Operation.TheVariants.{Insert as insert, Toggle as toggle}
use Rattle.woot.specs.Operations.{toggles_among}
use Rattle.answers.specs.declared.Refusal.{Refusal}
use Rattle.answers.specs.declared.Refusal.TheVariants.{Layout, Range, Form, Unrepresentable}
use Rattle.woot.specs.Form.{all_in_range, well_formed, raised}
use Rattle.answers.specs.Answers.{number, first}
use Rattle.woot.specs.Writing.{written_as, output_after}
use Rattle.lists.specs.Lists.{any, every}
use Rattle.lists.proofs.Tests.{and_left_lem, and_right, and_intro, clash, side}
use Rattle.convergence.proofs.Writing.{own_first, own-none, writing_refuses}
use Rattle.lines.specs.Fields.{tab, fields, values_of, columns}
use Rattle.lines.proofs.Spelling.{spelled}
use Rattle.codec.specs.Operations.{is_insert, delete_of, operation_of}
use Rattle.codec.specs.Calls.{as_written_first}
use Rattle.codec.proofs.Letters.{delete_alone}
use Rattle.saved.specs.declared.Version.{Version}
use Rattle.saved.specs.declared.Version.TheVariants.{First, Second}
use Rattle.saved.specs.Format.{is_character, site_head, is_site, head_line, is_operation, operation_said, operation_lines, laid_out_as, state_as}
use Rattle.saved.specs.Format.{character_within, operation_within, representable, in_range_as, bytes_as}
use Rattle.saved.specs.Calls.{loaded_as}
use Rattle.saved.specs.Conversion.{conversion, conversion_refusals, conversion_checks, converted, converted_out, Returns, DownAfterUp, UpAfterDown}
use Rattle.saved.specs.Conversion.{FormsApart, HighTurns, ConversionOrder, ConversionRefuses, ConversionNumbers, UpgradeNeverUnrepresentable}
use Rattle.saved.proofs.Refusals.{bytes-some}
use Rattle.saved.proofs.Numbers.{by-four}
use Rattle.saved.proofs.Trips.{parts, saved_laid, in_range-back, loads_back, unraised, loaded-again, unraised_again, second-says}

-- ---- what is laid out in a form can be said in it

laid_within : (v : Version) (line : List ℕ) → is_operation v line ≡ true → operation_within v (operation_said line) ≡ true
unfolding is_operation as_written_first operation_said operation_of operation_within delete_of
laid_within Second line h = refl
laid_within First line h = go (is_insert (fields line)) refl
  where
    go : (t : Bool) → is_insert (fields line) ≡ t → operation_within First (operation_said line) ≡ true
    go true e = rw e
    go false e = rw (e, delete_alone line (rw e at h))

all-within : (v : Version) (ls : List (List ℕ)) → every (is_operation v) ls ≡ true → every (operation_within v) (map operation_said ls) ≡ true
all-within v [] h = refl
all-within v (l ∷ ls) h =
    and_intro (laid_within v l (and_left_lem (is_operation v l) (every (is_operation v) ls) h))
    (all-within v ls (and_right (is_operation v l) (every (is_operation v) ls) h))

-- raising the clock leaves the characters and the pending operations
said_representable : (v : Version) (s : List ℕ) → laid_out_as v s ≡ true → in_range_as v s ≡ true → representable v (loaded_as v s) ≡ true
unfolding representable loaded_as raised in_range_as state_as
said_representable v s l i =
    and_intro (and_left_lem (every (character_within v) (state_as v s).characters) (all_in_range (state_as v s)) i)
    (all-within v (operation_lines is_character s) (parts v is_character s l).2)

-- ---- the trips

returns : (v w : Version) → Returns v w
unfolding conversion
returns v w s c =
    let t = loaded_as v s in
    let there = loads_back w t c.2 c.3 in
    let back : conversion w v (conversion v w s) ≡ bytes_as v t = ap (bytes_as v) there in (
      there,
      (
        saved_laid w t,
        in_range-back w t c.2 c.3,
        ap well_formed there ∙ c.2,
        ap (representable v) there ∙ said_representable v s c.0 c.1,
      ),
      back ∙ loaded-again v s c.0,
      λ n. back ∙ unraised_again v s c.0 n,
      unraised w t c.2 c.3,
    )

pub down-after-up : DownAfterUp
down-after-up = returns First Second

pub up-after-down : UpAfterDown
up-after-down = returns Second First

-- ---- the forms apart

-- a tab follows the first form's head word
tabbed : (line : List ℕ) → is_site First line ≡ true → get_or line 1 0 ≡ tab
unfolding is_site
tabbed line h = let p = spelled (site_head First) 2 line h in go (values_of (fields line)) p.0 p.1
  where
    go : (ns : List ℕ) → line ≡ site_head First ++ columns ns → length ns ≡ 2 → get_or line 1 0 ≡ tab
    go [] e n = absurd (omega arith)
    go (k ∷ ns) e n = ap (λ (l : List ℕ). get_or l 1 0) e

pub forms_apart : FormsApart
unfolding is_site
forms_apart s l = go (laid_out_as Second s) refl
  where
    go : (b : Bool) → laid_out_as Second s ≡ b → b ≡ false
    go false e = refl
    go true e =
        let two : get_or (head_line s) 1 0 ≡ 50 =
        ap (λ (x : List ℕ). get_or x 1 0) (spelled (site_head Second) 2 (head_line s) (parts Second is_character s e).1).0
        in
        absurd (omega (arith, tabbed (head_line s) (parts First is_character s l).1, two))

-- ---- turns above 1

-- of one element more, whether none is above 1
one_more : (n : ℕ) (a b : Bool) → a ≡ not b → leb n 1 && a ≡ not (ltb 1 n || b)
one_more n a b e = go (side n 1)
  where
    go : (n ≤ 1) ⊎ (1 < n) → leb n 1 && a ≡ not (ltb 1 n || b)
    go (inl h) = rw (le-leb n 1 h, le-ltb 1 n h) e
    go (inr h) = rw (lt-leb n 1 h, lt-ltb 1 n h)

characters-high : (cs : List Character) → every (character_within First) cs ≡ not (any (λ c. ltb 1 c.toggles) cs)
unfolding character_within
characters-high [] = refl
characters-high (c ∷ cs) = one_more c.toggles _ _ (characters-high cs)

pending-high : (os : List Operation) → every (operation_within First) os ≡ not (any (λ t. ltb 1 t.toggles) (toggles_among os))
unfolding operation_within
pending-high [] = refl
pending-high (insert i ∷ os) = pending-high os
pending-high (toggle t ∷ os) = one_more t.toggles _ _ (pending-high os)

pub high-turns : HighTurns
unfolding representable
high-turns s = rw (characters-high s.characters, pending-high s.pending) (neither (any (λ c. ltb 1 c.toggles) s.characters) _)
  where
    neither : (a b : Bool) → not a && not b ≡ not (a || b)
    neither true b = refl
    neither false b = refl

-- ---- refusals

pub conversion-order : ConversionOrder
unfolding conversion_refusals
conversion-order v w s = (refl, refl)

pub conversion_refuses : ConversionRefuses
unfolding converted converted_out
conversion_refuses v w s out q = let x = writing_refuses (conversion_checks v w s) (conversion v w s) out q in (x.0, x.2)

-- as the code goes through the conditions
module _ (v w : Version) (s out : List ℕ) where
  module _ (q : Refusal) (e : first (conversion_checks v w s) ≡ some (Err q)) where
    turned : (Err q ≡ converted v w s out) × (out ≡ converted_out v w s out)
    unfolding converted converted_out
    turned = let x = own_first (conversion_checks v w s) (Err q) (conversion v w s) out e in (sym x.0, sym x.1)

  pub lacks-layout : laid_out_as v s ≡ false → (Err Layout ≡ converted v w s out) × (out ≡ converted_out v w s out)
  unfolding conversion_checks conversion_refusals
  lacks-layout l = turned Layout (rw l)

  module _ (l : laid_out_as v s ≡ true) where
    pub out_of_range_lem : in_range_as v s ≡ false → (Err Range ≡ converted v w s out) × (out ≡ converted_out v w s out)
    unfolding conversion_checks conversion_refusals
    out_of_range_lem i = turned Range (rw (l, i))

    module _ (i : in_range_as v s ≡ true) where
      pub out-of_form : well_formed (loaded_as v s) ≡ false → (Err Form ≡ converted v w s out) × (out ≡ converted_out v w s out)
      unfolding conversion_checks conversion_refusals
      out-of_form f = turned Form (rw (l, i, f))

      module _ (f : well_formed (loaded_as v s) ≡ true) where
        pub not_said : representable w (loaded_as v s) ≡ false → (Err Unrepresentable ≡ converted v w s out) × (out ≡ converted_out v w s out)
        unfolding conversion_checks conversion_refusals
        not_said r = turned Unrepresentable (rw (l, i, f, r))

        pub said : representable w (loaded_as v s) ≡ true
            → (written_as [] (bytes_as w (loaded_as v s)) out ≡ converted v w s out) × (output_after [] (bytes_as w (loaded_as v s)) out ≡ converted_out v w s out)
        unfolding conversion_checks conversion_refusals conversion converted converted_out
        said r = own-none (conversion_checks v w s) (conversion v w s) out (rw (l, i, f, r))

-- ---- by number

pub conversion_numbers : ConversionNumbers
unfolding converted conversion_checks conversion_refusals conversion
conversion_numbers v w s out =
    let t = loaded_as v s in
    by-four (bytes_as w t) out (bytes-some w t) Layout Range Form Unrepresentable (omega arith) (omega arith) (omega arith) (omega arith)
    (laid_out_as v s) (in_range_as v s) (well_formed t) (representable w t)

pub upgrade_never_unrepresentable : UpgradeNeverUnrepresentable
upgrade_never_unrepresentable s out e = clash (second-says (loaded_as First s)) ((conversion_numbers First Second s out).3.0 e).3
