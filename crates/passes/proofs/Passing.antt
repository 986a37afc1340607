-- One pass over the inserts that are left: after each of them the pass is as far as the rules' is, with the inserts
-- that were kept at the front of the array.
use Prim.Native.Nat.{ℕ, suc, ◌+◌, ◌≤◌, ◌<◌}
use native.Mathlib.Omega.{arith}
use native.Mathlib.Numerals.{add-one}
use mathlib.Core.Path.{◌≡◌, refl, sym, ap, subst, ◌∙◌}
use mathlib.Core.Bool.{true, false, ◌||◌}
use mathlib.Core.List.{List, [], ◌∷◌, ◌++◌, map, append_assoc, append-nil}
use lib.ListN.{length, take, drop, set, get_or, length-set, drop_of_length-le}
use lib.Seq.{take-suc-set, drop-set-lt, drop-cons, length-take-le}
use Rattle.lists.proofs.Tests.{and_intro, or-false-left, or-false-right}
use Rattle.lists.proofs.Members.{every_member}
use Rattle.woot.specs.declared.Table.{Table}
use Rattle.woot.specs.declared.Identifier.{Identifier}
use Rattle.woot.specs.declared.Insert.{Insert}
use Rattle.woot.specs.declared.Operation.TheVariants.{Insert as insert}
use Rattle.woot.specs.declared.Character.{Character}
use Rattle.woot.specs.Identifiers.{same}
use Rattle.woot.specs.Operations.{character, origin}
use Rattle.woot.specs.Ranges.{insert_in_range, character_in_range, within}
use Rattle.woot.specs.Placing.{identifiers, integrate_insert}
use Rattle.woot.specs.Pending.{executable, crossed, unplaceable}
use Rattle.convergence.specs.Passes.{Passed, and_left, pass}
use Rattle.convergence.proofs.Identifiers.{same_sym}
use Rattle.convergence.proofs.Extract.{Extract, front, extract_length, extract_itself, extract_append, extract_front}
use Rattle.convergence.proofs.Extract.{extract_every, every_extract, distinct_extract, extract_distinct, extract_map}
use Rattle.convergence.proofs.Part.{Part, none as nothing, skip, keeps, part-distinct}
use Rattle.convergence.proofs.Soundness.{placed_extract}
use Rattle.memory.specs.Columns.{Document, document_of}
use Rattle.memory.specs.Lent.{Slots}
use Rattle.memory.proofs.Stored.{document-parts}
use Rattle.index.proofs.Keys.{all-range-small}
use Rattle.heap.specs.Columns.{insert_at as readAt}
use Rattle.heap.specs.Keeping.{Moved}
use Rattle.passes.proofs.Laying.{laid_slots}
use Rattle.passes.proofs.Slotting.{insert-read, inserts-moved, inserts-front}
use Rattle.passes.specs.declared.Taken.TheVariants.{Placed, Lacking, Dropped}
use Rattle.passes.specs.Steps.{laid_as, Laid, Offered, Offering, TakenAs, ahead, Reached}

-- ---- what becomes of the first

module _ (cs : List Character) (i : Insert) (is : List Insert) where
  pub pass-placed : executable cs (insert i) ≡ true → crossed cs (insert i) || unplaceable cs (insert i) ≡ false
      → pass cs (i ∷ is) ≡ pass (integrate_insert cs i) is
  unfolding pass
  pass-placed e f = rw (e, f)

  pub pass-dropped : executable cs (insert i) ≡ true → crossed cs (insert i) || unplaceable cs (insert i) ≡ true → pass cs (i ∷ is) ≡ pass cs is
  unfolding pass
  pass-dropped e f = rw (e, f)

  pub pass_lacking : executable cs (insert i) ≡ false → pass cs (i ∷ is) ≡ and_left i (pass cs is)
  unfolding pass
  pass_lacking e = rw e

-- with inserts that were left before
abbrev behind : List Insert → Passed → Passed
behind ls p = record { characters = p.characters; left = ls ++ p.left }

kept-behind : (ls : List Insert) (i : Insert) (p : Passed) → behind (ls ++ i ∷ []) p ≡ behind ls (and_left i p)
unfolding and_left
kept-behind ls i p = λ j. record { characters = p.characters; left = append_assoc ls (i ∷ []) p.left j }

-- ---- what is offered still

abbrev ids : List Insert → List Identifier
ids is = map (λ i. i.id) is

front-part : {A : Type 0} (xs ys : List A) → Part xs (xs ++ ys)
front-part (x ∷ xs) ys = keeps (front-part xs ys)
front-part [] ys = no ys
  where
    no : {A : Type 0} (ys : List A) → Part [] ys
    no [] = nothing
    no (y ∷ ys) = skip (no ys)

module _ {cs : List Character} {is : List Insert} (o : Offered cs is) where
  pub offered_laid : {d : Document} → d ≡ document_of cs [] → Laid d cs
  offered_laid e =
      record {
        tidy = e;
        small = all-range-small cs (λ b m. every_member character_in_range o.characters m);
        apart = part-distinct same (front-part (identifiers cs) (ids is)) o.apart;
        few = omega (arith, o.room);
      }

module _ {cs : List Character} {i : Insert} {js is : List Insert} (o : Offered cs is) (e : Extract i js is) where
  taken_out : Extract i.id (identifiers cs ++ ids js) (identifiers cs ++ ids is)
  taken_out = extract_append (identifiers cs) (extract_map (λ j. j.id) e)

  pub offered_out : Offered cs js
  offered_out =
      record {
        characters = o.characters;
        inserts = every_extract insert_in_range e o.inserts;
        apart = (distinct_extract same same_sym taken_out o.apart).1;
        room = omega (arith, o.room, extract_length e);
      }

  pub offered_room : length cs < 1024
  offered_room = omega (arith, o.room, extract_length e)

  ranged : character_in_range (character i) ≡ true
  unfolding character_in_range origin character insert_in_range within
  ranged = and_intro (every_member insert_in_range o.inserts (extract_itself e)) refl

  pub offered_in : executable cs (insert i) ≡ true → crossed cs (insert i) ≡ false → unplaceable cs (insert i) ≡ false
      → Offered (integrate_insert cs i) js
  unfolding character
  offered_in ready uncrossed placeable =
      let x = placed_extract cs i ready uncrossed placeable in
      record {
        characters = extract_every character_in_range x ranged o.characters;
        inserts = offered_out.inserts;
        apart =
            extract_distinct same same_sym (extract_front (ids js) (extract_map (λ c. c.id) x))
            (distinct_extract same same_sym taken_out o.apart).0 offered_out.apart;
        room = omega (arith, o.room, extract_length e, extract_length x);
      }

-- ---- one insert after another

module _ {d : Document} {xs : List ℕ} {k i m : ℕ} {p : Passed} (r : Reached d xs k i m p) (low : i < m) where
  abbrev js : List Insert
  js = r.inserts

  -- the insert in the slot
  abbrev pub here : Insert
  here = get_or js i (readAt xs i)

  inner : i < length js
  inner = omega (arith, r.many)

  split : drop i js ≡ here ∷ drop (suc i) js
  split = drop-cons js i (readAt xs i) inner

  apart : Extract here (take k js ++ drop (suc i) js) (take k js ++ drop i js)
  apart = rw split (extract_append (take k js) front)

  ranged_here : insert_in_range here ≡ true
  ranged_here = every_member insert_in_range r.offered.inserts (extract_itself apart)

  pub reached-read : readAt xs i ≡ here
  reached-read = insert-read r.held i (readAt xs i) inner ranged_here

  pub reached_ranged : insert_in_range (readAt xs i) ≡ true
  reached_ranged = ap insert_in_range reached-read ∙ ranged_here

  pub reached_laid : Laid d r.characters
  reached_laid = offered_laid r.offered r.tidy

  pub reached-room : d.length < 1024
  reached-room = omega (arith, offered_room r.offered apart, (document-parts r.tidy).length-is)

  pub reached-slots : i < 1024
  reached-slots = omega (arith, inner, r.held.few)

  -- y is the insert that was read
  module _ (y : Insert) (is : y ≡ readAt xs i) where
    splits : drop i js ≡ y ∷ drop (suc i) js
    splits = split ∙ ap (λ (x : Insert). x ∷ drop (suc i) js) (sym (is ∙ reached-read))

    out : Extract y (take k js ++ drop (suc i) js) (take k js ++ drop i js)
    out = rw splits (extract_append (take k js) front)

    module _ (characters toggles : List ℕ) (n : ℕ) (table : Table) where
      pub reached-placed : TakenAs r.characters y characters toggles n table Placed
          → Reached (laid_as characters toggles (n + 1) table) xs k (i + 1) m p
      unfolding TakenAs ahead
      reached-placed t =
          let cs = r.characters in
          let on : pass (integrate_insert cs y) (drop (i + 1) js) ≡ pass cs (drop i js) =
          rw (add-one i, splits) (sym (pass-placed cs y (drop (suc i) js) t.1 t.2))
          in
          record {
            characters = integrate_insert cs y;
            inserts = js;
            tidy = t.0;
            held = r.held;
            many = r.many;
            kept = omega (arith, r.kept);
            offered =
                rw (add-one i)
                (offered_in r.offered out t.1 (or-false-left (crossed cs (insert y)) _ t.2) (or-false-right (crossed cs (insert y)) _ t.2));
            comes = ap (behind (take k js)) on ∙ r.comes;
          }

      pub reached-dropped : TakenAs r.characters y characters toggles n table Dropped
          → Reached (laid_as characters toggles n table) xs k (i + 1) m p
      unfolding TakenAs ahead
      reached-dropped t =
          let cs = r.characters in
          let on : pass cs (drop (i + 1) js) ≡ pass cs (drop i js) =
          rw (add-one i, splits) (sym (pass-dropped cs y (drop (suc i) js) t.1 t.2))
          in
          record {
            characters = cs;
            inserts = js;
            tidy = t.0;
            held = r.held;
            many = r.many;
            kept = omega (arith, r.kept);
            offered = rw (add-one i) (offered_out r.offered out);
            comes = ap (behind (take k js)) on ∙ r.comes;
          }

      -- it moves behind those that are left
      pub reached_lacking : TakenAs r.characters y characters toggles n table Lacking → {ys : List ℕ} → Moved xs i k ys
          → Reached (laid_as characters toggles n table) ys (k + 1) (i + 1) m p
      unfolding TakenAs ahead and_left
      reached_lacking t {ys} moved =
          let cs = r.characters in
          let low-k : k < length js = omega (arith, r.kept, inner) in
          let is-here : here ≡ y = sym (is ∙ reached-read) in
          let fore : take (k + 1) (set js k here) ≡ take k js ++ y ∷ [] =
          rw (add-one k, is-here) (take-suc-set js k y low-k)
          in
          let rest : drop (i + 1) (set js k here) ≡ drop (suc i) js =
          rw (add-one i) (drop-set-lt (suc i) js k here (omega (arith, r.kept)))
          in
          let whole : (take k js ++ y ∷ []) ++ drop (suc i) js ≡ take k js ++ drop i js =
          rw splits (append_assoc (take k js) (y ∷ []) (drop (suc i) js))
          in
          let on : behind (take k js ++ y ∷ []) (pass cs (drop (suc i) js)) ≡ behind (take k js) (pass cs (drop i js)) =
          rw (splits, pass_lacking cs y (drop (suc i) js) t.1) (kept-behind (take k js) y (pass cs (drop (suc i) js)))
          in
          record {
            characters = cs;
            inserts = set js k here;
            tidy = t.0;
            held = inserts-moved r.held i (readAt xs i) inner k low-k moved;
            many = length-set js k here ∙ r.many;
            kept = omega (arith, r.kept);
            offered = rw (fore, rest, whole) r.offered;
            comes = rw (fore, rest) (on ∙ r.comes);
          }

-- ---- the beginning and the end

pub reached-begun : {d : Document} {xs : List ℕ} {m : ℕ} {cs : List Character} {is : List Insert} → Offering d xs m cs is
    → Reached d xs 0 0 m (pass cs is)
unfolding ahead
reached-begun {cs = cs} {is} o =
    record {
      characters = cs;
      inserts = is;
      tidy = o.tidy;
      held = o.held;
      many = sym o.many;
      kept = omega arith;
      offered = o.offered;
      comes = refl;
    }

pub reached-ended : {d : Document} {xs : List ℕ} {k i m : ℕ} {p : Passed} → Reached d xs k i m p → m ≤ i → i ≤ m
    → Offering d xs k p.characters p.left
unfolding ahead pass
reached-ended {d} {xs} {k} {i} {m} {p} r high low =
    let js = r.inserts in
    let behind-all : length js ≤ i = omega (arith, r.many) in
    let none : drop i js ≡ [] = drop_of_length-le js behind-all in
    let few : k ≤ length js = omega (arith, r.kept, r.many) in
    let comes : ◌≡◌ {A = Passed} (record { characters = r.characters; left = take k js }) p =
    (λ j. record { characters = r.characters; left = sym (append-nil (take k js)) j })
    ∙ ap (λ (l : List Insert). behind (take k js) (pass r.characters l)) (sym none) ∙ r.comes
    in
    subst (λ (q : Passed). Offering d xs k q.characters q.left) comes
    (record {
      tidy = r.tidy;
      held = inserts-front r.held k few;
      many = sym (length-take-le k js few);
      offered = rw (none, append-nil (take k js)) at r.offered;
    })

-- ---- the lengths of the arrays

pub offering_slots : {d : Document} {xs : List ℕ} {m : ℕ} {cs : List Character} {is : List Insert} → Offering d xs m cs is → Slots d
offering_slots o = laid_slots (offered_laid o.offered o.tidy)

pub reaching_slots : {d : Document} {xs : List ℕ} {k i m : ℕ} {p : Passed} → Reached d xs k i m p → Slots d
reaching_slots r = laid_slots (offered_laid r.offered r.tidy)
