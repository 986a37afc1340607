-- The lines of an answer are those of its operations, and each that is handed to a copy leaves what the rule leaves; so
-- what is promised of states that catch up is promised of copies.
use Prim.Native.Nat.{ℕ, ◌+◌, ◌≤◌}
use native.Mathlib.Omega.{arith}
use mathlib.Core.Path.{◌≡◌, refl, sym, ap, ap₂, ◌∙◌, subst}
use mathlib.Core.Bool.{true, false, false≢true, cond}
use mathlib.Core.List.Memᴰ
use mathlib.Core.List.{List, [], ◌∷◌, ◌++◌, map, append_assoc, append-nil}
use mathlib.Core.List.{nil≢cons, head-eq_of_cons-eq, tail-eq_of_cons-eq}
use lib.ListN.{length}
use borrow.Author.Tests.{le-ltb}
use Rattle.lists.specs.Lists.{every}
use Rattle.lists.proofs.Tests.{and_left_lem, and_right, and_intro}
use Rattle.answers.specs.declared.Answer.{Answer}
use Rattle.answers.specs.declared.Answer.TheVariants.{Done, Deferred, Duplicate, Refused}
use Rattle.answers.specs.Answers.{reply, changes, decided}
use Rattle.woot.specs.declared.Operation.{Operation}
use Rattle.woot.specs.declared.Operation.TheVariants.{Insert as insert, Toggle as toggle}
use Rattle.woot.specs.declared.Replica.{Replica}
use Rattle.woot.specs.declared.Receipt.{Receipt}
use Rattle.woot.specs.Operations.{origin, inserts}
use Rattle.woot.specs.Ranges.{within, site_number, in_range}
use Rattle.woot.specs.State.{State}
use Rattle.woot.specs.Form.{present_inserts, well_formed}
use Rattle.woot.specs.Calls.{receive}
use Rattle.bulk.specs.Catching.{Listing, listing, answer_for}
use Rattle.woot.specs.Histories.{receiving, outcome, run}
use Rattle.bulk.specs.Beginnings.{start_of}
use Rattle.woot.specs.Replicas.{receipt, received as receivedBy}
use Rattle.woot.specs.Text.{text}
use Rattle.convergence.specs.Agreement.{OneMeaning}
use Rattle.convergence.specs.Building.{received}
use Rattle.convergence.specs.Catching.{Grew, OneMeaningAsked, Space, DoneOrKnown, NoneWaits, HoldsAll, caught_up}
use Rattle.convergence.proofs.Forms.{empty-formed}
use Rattle.convergence.proofs.Grown.{grown-throughout}
use Rattle.convergence.proofs.Catching.{space_counts, catching_up}
use Rattle.convergence.proofs.Meeting.{meet_midway}
use Rattle.lines.specs.Lines.{line_feed, has, concatenated}
use Rattle.lines.specs.Fields.{columns, line_of}
use Rattle.lines.proofs.Lines.{lines_line, whole}
use Rattle.codec.specs.Operations.{insert_head, toggle_head, insert_numbers, toggle_numbers, operation_line}
use Rattle.codec.specs.Calls.{said_by}
use Rattle.codec.proofs.Trips.{written-reads-back}
use Rattle.listing.specs.Format.{list_bytes, list_said}
use Rattle.listing.proofs.Trips.{list-reads-back}
use Rattle.saved.specs.Format.{saved_bytes}
use Rattle.saved.specs.Theorems.{saved_most}
use Rattle.saved.proofs.Sizes.{saved-length}
use Rattle.replica.specs.Theorems.{called}
use Rattle.transcript.specs.Calls.{received_as, received_line}
use Rattle.effects.specs.Results.{result, silent}
use Rattle.effects.specs.Effects.{Effect, quiet, writing, after_receiving}
use Rattle.c_calls.specs.Calls.{wimtaze_receive}
use Rattle.c_calls.proofs.Answers.{answer_ranged}
use Rattle.c_calls.proofs.Own.{line-back}
use Rattle.consistency.specs.Copies.{Copy, in_memory, as_bytes, Call, state_of, on_memory}
use Rattle.consistency.specs.Copies.{step_on, ran, rules_by, Start, begun, beginning_of, characters_of, text_of}
use Rattle.consistency.specs.Catching.{lines_of, handing, word_handing, Handed, handed, Takes, AllLong, HandedAll}
use Rattle.consistency.specs.Catching.{AllTaken, Exchange, SpaceOn, Caught, AnswerCut, AnswerTaken, AnswerHolds}
use Rattle.consistency.specs.Catching.{Meet, BothAnswersMeet, ListsAnswered}
use Rattle.consistency.proofs.Holding.{Means, Holds, memory, bytes, nothing, says}
use Rattle.consistency.proofs.Returned.{word-returned}
use Rattle.consistency.proofs.Memory.{received_meant, called-means}
use Rattle.consistency.proofs.Claims.{follow_holds, holds-begun}
use Rattle.consistency.proofs.Receiving.{form_after, said_lines, line_effect, line_received}
use Rattle.consistency.proofs.Lists.{listed-is, answered_is, lists, answers}

-- ---- the lines

-- a line is cut off as it was written
cut_line : (head ns s : List ℕ) → has line_feed head ≡ false →
    lines_of (line_of head ns ++ s) ≡ line_of head ns ∷ lines_of s
unfolding line_of
cut_line head ns s e =
    ap (map whole) (lines_line head ns s e)
    ∙ ap (λ (l : List ℕ). l ∷ lines_of s) (append_assoc head (columns ns) (line_feed ∷ []))

cut : (o : Operation) (s : List ℕ) → lines_of (operation_line o ++ s) ≡ operation_line o ∷ lines_of s
unfolding operation_line
cut (insert i) s = cut_line insert_head (insert_numbers i) s refl
cut (toggle t) s = cut_line toggle_head (toggle_numbers t) s refl

lines_are : (os : List Operation) → lines_of (concatenated operation_line os) ≡ map operation_line os
lines_are [] = refl
lines_are (o ∷ os) =
    cut o (concatenated operation_line os) ∙ ap (λ (ls : List (List ℕ)). operation_line o ∷ ls) (lines_are os)

joined : (os : List Operation) → concatenated (λ l. l) (map operation_line os) ≡ concatenated operation_line os
joined [] = refl
joined (o ∷ os) = ap (◌++◌ (operation_line o)) (joined os)

-- ---- handed

-- the copy and the word are those of the rule
abbrev AsRuled : List ℕ → List ℕ → Operation → State → Copy → Type 0
AsRuled room l o s p =
    Holds (receive s o).state (step_on p (handing p room l)).copy
    × (word_handing p room l ≡ (reply (receive s o).answer).word)

-- done or known
takes : (a : Answer) → DoneOrKnown a → Takes (reply a).word
unfolding reply
takes Deferred k = elim k [ ]
takes (Refused _) k = elim k [ ]
takes (Done n m) k = tt
takes Duplicate k = tt

module _ (room : List ℕ) (long : saved_most ≤ length room) where
  -- where there is room, what receiving leaves has its word
  word-left : (t : State) → well_formed t ≡ true → (a : Answer) →
      (cond (changes a) (writing a (saved_bytes t) room) (quiet room [] a)).result.reply.word ≡ (reply a).word
  unfolding changes writing decided quiet silent result
  word-left t f (Done n m) =
      rw (le-ltb (length room) (length (saved_bytes t)) (omega (arith, saved-length t f, long)))
  word-left t f Deferred =
      rw (le-ltb (length room) (length (saved_bytes t)) (omega (arith, saved-length t f, long)))
  word-left t f Duplicate = refl
  word-left t f (Refused q) = refl

  module _ (o : Operation) (r : in_range o ≡ true) where
    abbrev line : List ℕ
    line = operation_line o

    line_read : (q : Replica) → received_line q line ≡ receivedBy q o
    unfolding received_line received_as
    line_read q = let back = rw append-nil at (written-reads-back o r []) in ap (received_as q) back.0

    memory_handed : (q : Replica) (s : State) → Means q s → AsRuled room line o s (in_memory q)
    unfolding step_on on_memory called outcome receipt
    memory_handed q s m = (
      subst (λ (x : Receipt). Holds (receive s o).state (in_memory x.replica)) (sym (line_read q))
          (memory (receivedBy q o).replica (receive s o).state (called-means q s m (receiving o))),
      ap (λ (x : Receipt). (reply x.answer).word) (line_read q ∙ received_meant q s m o),
    )

    bytes-handed : (s : State) → well_formed s ≡ true → AsRuled room line o s (as_bytes (saved_bytes s))
    unfolding after_receiving
    bytes-handed s h =
        let back = line-back o r in
        let ranged = ap in_range back.1 ∙ r in
        let next : State = (receive s o).state in
        let there =
        line_received room long s h line back.0 ranged
        ∙ ap (λ (x : Operation). as_bytes (saved_bytes (receive s x).state)) back.1 in
        let effect =
        line_effect room long s h line back.0 ranged
        ∙ ap (λ (x : Operation). after_receiving (receive s x) room) back.1 in (
          rw there (bytes next (form_after s h o)),
          word-returned (wimtaze_receive line) (saved_bytes s) room []
              ∙ ap (λ (e : Effect). e.result.reply.word) effect
              ∙ word-left next (form_after s h o) (receive s o).answer,
        )

    one-handed : {s : State} {p : Copy} → Holds s p → well_formed s ≡ true → AsRuled room line o s p
    unfolding site_number within
    one-handed (memory q s m) f = memory_handed q s m
    one-handed (bytes s h) f = bytes-handed s h
    one-handed nothing f = absurd (false≢true (sym (empty-formed 0) ∙ f))

-- the lines of these operations, each with an output that is long enough
record Carries (hs : List Handed) (os : List Operation) : Type 0 where
  same_lines : map (λ h. h.line) hs ≡ map operation_line os
  long : AllLong hs
  in-range : every in_range os ≡ true

behind : (h : Handed) (hs : List Handed) (o : Operation) (os : List Operation) → Carries (h ∷ hs) (o ∷ os) →
    Carries hs os
behind h hs o os k =
    record {
      same_lines = tail-eq_of_cons-eq k.same_lines;
      long = k.long.1;
      in-range = and_right (in_range o) (every in_range os) k.in-range;
    }

-- one after another
all-handed : {s : State} {p : Copy} → Holds s p → well_formed s ≡ true →
    (hs : List Handed) (os : List Operation) → Carries hs os →
    Holds (received s os) (handed p hs) × (NoneWaits s os → AllTaken p hs)
all-handed h f [] [] k = (h, λ w. tt)
all-handed h f [] (o ∷ os) k = absurd (nil≢cons k.same_lines)
all-handed h f (l ∷ hs) [] k = absurd (nil≢cons (sym k.same_lines))
all-handed {s} {p} h f (l ∷ hs) (o ∷ os) k =
    let ranged = and_left_lem (in_range o) (every in_range os) k.in-range in
    let here : AsRuled l.room l.line o s p =
    subst (λ (m : List ℕ). AsRuled l.room m o s p) (sym (head-eq_of_cons-eq k.same_lines))
    (one-handed l.room k.long.0 o ranged h f) in
    let others = all-handed {s = (receive s o).state} here.0 (form_after s f o) hs os (behind l hs o os k) in
    (others.0, λ w. (subst Takes (sym here.1) (takes (receive s o).answer w.0), others.1 w.1))

-- the first of them are the lines of the first operations
record Split (early : List Handed) (os : List Operation) : Type 0 where
  earlier : List Operation
  later : List Operation
  parts : os ≡ earlier ++ later
  carried : Carries early earlier

split : (early late : List Handed) (os : List Operation) → Carries (early ++ late) os → Split early os
split [] late os k =
    let none_yet : Carries [] [] = record { same_lines = refl; long = tt; in-range = refl } in
    record { earlier = []; later = os; parts = refl; carried = none_yet }
split (h ∷ early) late [] k = absurd (nil≢cons (sym k.same_lines))
split (h ∷ early) late (o ∷ os) k =
    let w = split early late os (behind h (early ++ late) o os k) in
    record {
      earlier = o ∷ w.earlier;
      later = w.later;
      parts = ap (λ (qs : List Operation). o ∷ qs) w.parts;
      carried =
          record {
            same_lines = ap₂ ◌∷◌ (head-eq_of_cons-eq k.same_lines) w.carried.same_lines;
            long = (k.long.0, w.carried.long);
            in-range = and_intro (and_left_lem (in_range o) (every in_range os) k.in-range) w.carried.in-range;
          };
    }

-- ---- one exchange

module _
    {s t : State}
    {p q : Copy}
    (hs : Holds s p)
    (ht : Holds t q)
    (out lent answer : List ℕ)
    (x : Exchange p q out lent answer) where
  abbrev given : List Operation
  given = answer_for t (listing s)

  pub asker_formed : well_formed s ≡ true
  asker_formed = (listed-is hs out x.listed).0

  pub other-formed : well_formed t ≡ true
  other-formed = (answered_is ht x.list lent x.answered).0

  list-says : list_said x.list ≡ listing s
  list-says = ap list_said (listed-is hs out x.listed).1 ∙ (list-reads-back (listing s)).1

  ranged : every in_range given ≡ true
  ranged = answer_ranged t other-formed (listing s)

  answer_given : answer ≡ concatenated operation_line given
  answer_given =
      (answered_is ht x.list lent x.answered).1
      ∙ ap (λ (l : Listing). concatenated operation_line (answer_for t l)) list-says

  lines_given : lines_of answer ≡ map operation_line given
  lines_given = ap lines_of answer_given ∙ lines_are given

  pub answer-whole : concatenated (λ l. l) (lines_of answer) ≡ answer
  answer-whole = ap (concatenated (λ l. l)) lines_given ∙ joined given ∙ sym answer_given

  pub space_given : SpaceOn p answer → Space s t
  space_given h =
      let said : map said_by (lines_of answer) ≡ given = ap (map said_by) lines_given ∙ said_lines given ranged in
      omega (
        arith,
        h,
        ap (λ (u : State). length (present_inserts u)) (says hs),
        ap (λ (os : List Operation). length (inserts os)) said,
        space_counts s t asker_formed,
      )

  carries_given : (ls : List Handed) → HandedAll answer ls → Carries ls given
  carries_given ls k =
      record { same_lines = k.in-sequence ∙ lines_given; long = k.all-long; in-range = ranged }

  pub handed-holds : (ls : List Handed) → HandedAll answer ls → Holds (caught_up s t) (handed p ls)
  handed-holds ls k = (all-handed hs asker_formed ls given (carries_given ls k)).0

  pub handed-taken : (ls : List Handed) → HandedAll answer ls → NoneWaits s given → AllTaken p ls
  handed-taken ls k = (all-handed hs asker_formed ls given (carries_given ls k)).1

-- ---- the promises

module _ (a : Start) (cs : List Call) where
  abbrev held : State
  held = run (start_of (beginning_of a)) (rules_by (begun a) cs)

  holds : Holds held (ran (begun a) cs)
  holds = follow_holds (holds-begun a) cs

  grew : well_formed held ≡ true → Grew held
  grew f = record { form = f; grown = grown-throughout (beginning_of a) (rules_by (begun a) cs) }

module _ (a b : Start) (cs ds : List Call) (answer : List ℕ) (c : Caught a b cs ds answer) where
  abbrev s : State
  s = held a cs

  abbrev t : State
  t = held b ds

  abbrev one : Copy
  one = ran (begun a) cs

  abbrev two : Copy
  two = ran (begun b) ds

  s-grew : Grew s
  s-grew = grew a cs (asker_formed (holds a cs) (holds b ds) c.out c.lent answer c.exchange)

  t-grew : Grew t
  t-grew = grew b ds (other-formed (holds a cs) (holds b ds) c.out c.lent answer c.exchange)

  meaning-one : OneMeaningAsked s t.characters
  unfolding characters_of
  meaning-one =
      subst (λ (u : State). OneMeaningAsked u t.characters) (says (holds a cs))
      (subst (λ (u : State). OneMeaningAsked (state_of one) u.characters) (says (holds b ds)) c.one-meaning)

  spacious : Space s t
  spacious = space_given (holds a cs) (holds b ds) c.out c.lent answer c.exchange c.space

  caught : NoneWaits s (answer_for t (listing s)) × HoldsAll (caught_up s t).characters t.characters
  caught = catching_up s t s-grew t-grew meaning-one spacious

  -- the characters alone, where nothing waits
  meaning-both : OneMeaning s.characters t.characters
  unfolding origin present_inserts
  meaning-both x y m n e = meaning-one (origin x) y (Memᴰ.append_left (inserts s.pending) (Memᴰ.map origin m)) n e

  module _ (hs : List Handed) (k : HandedAll answer hs) where
    then-holds : Holds (caught_up s t) (handed one hs)
    then-holds = handed-holds (holds a cs) (holds b ds) c.out c.lent answer c.exchange hs k

    taken : AllTaken one hs
    taken = handed-taken (holds a cs) (holds b ds) c.out c.lent answer c.exchange hs k caught.0

    all_held : HoldsAll (characters_of (handed one hs)) (characters_of two)
    unfolding characters_of
    all_held =
        subst (λ (u : State). HoldsAll u.characters (state_of two).characters) (sym (says then-holds))
        (subst (λ (u : State). HoldsAll (caught_up s t).characters u.characters) (sym (says (holds b ds)))
        caught.1)

  module _
      (none-one : (state_of one).pending ≡ [])
      (none-two : (state_of two).pending ≡ [])
      (early late : List Handed)
      (k : HandedAll answer (early ++ late)) where
    parted : Split early (answer_for t (listing s))
    parted =
        split early late (answer_for t (listing s))
        (carries_given (holds a cs) (holds b ds) c.out c.lent answer c.exchange (early ++ late) k)

    -- what the first holds when it answers
    abbrev midway : State
    midway = received s parted.earlier

    midway_holds : Holds midway (handed one early)
    midway_holds = (all-handed (holds a cs) s-grew.form early parted.earlier parted.carried).0

    alike : (caught_up s t).characters ≡ (caught_up t midway).characters
    alike =
        (meet_midway s t s-grew t-grew (rw (says (holds a cs)) at none-one) (rw (says (holds b ds)) at none-two)
        meaning-both spacious parted.earlier parted.later parted.parts).1

    meets : (out lent back : List ℕ) → Exchange two (handed one early) out lent back →
        (others : List Handed) → HandedAll back others → Meet (handed one (early ++ late)) (handed two others)
    unfolding characters_of text_of
    meets out lent back x others l =
        let there = handed-holds (holds b ds) midway_holds out lent back x others l in
        let e =
        ap (λ (v : State). v.characters) (says (then-holds (early ++ late) k))
        ∙ alike
        ∙ sym (ap (λ (v : State). v.characters) (says there)) in
        record { same-characters = e; same_text = ap text e }

pub answer-taken : AnswerTaken
answer-taken a b cs ds answer c hs k = taken a b cs ds answer c hs k

pub answer-holds : AnswerHolds
answer-holds a b cs ds answer c hs k = all_held a b cs ds answer c hs k

pub both-answers_meet : BothAnswersMeet
both-answers_meet a b cs ds answer c none-one none-two early late k out lent back x others l =
    meets a b cs ds answer c none-one none-two early late k out lent back x others l

pub answer-cut : AnswerCut
answer-cut a b cs ds out lent answer x = answer-whole (holds a cs) (holds b ds) out lent answer x

pub lists_answered : ListsAnswered
lists_answered a b cs ds out lent f g long longer =
    let s : State = held a cs in
    let formed : well_formed s ≡ true = rw (says (holds a cs)) at f in
    let other : well_formed (held b ds) ≡ true = rw (says (holds b ds)) at g in
    let list = lists (holds a cs) formed out long in
    let w = answers s formed (holds b ds) other lent longer in
    (w.0, record { list = list_bytes (listing s); listed = list; answered = w.1 })
