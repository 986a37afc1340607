-- What the readers answer decides the refusals 1 and 2, and leaves 3 to the rule. Each law goes by the cases of the few tests that it speaks of.
use Rattle.std.proofs.Common.{Ok, Err}
use mathlib.Core.Path.{◌≡◌, refl, sym, ap, ◌∙◌}
use mathlib.Core.Bool.{Bool, true, false, ◌&&◌, not}
use mathlib.Core.List.{List, [], ◌∷◌}
use mathlib.Core.Option.{Option, none, some}
use Prim.Native.Nat.{ℕ}
use lib.ListN.{length}
use borrow.Author.Tests.{eq-eqb, ne_eqb}
use Rattle.woot.specs.declared.Operation.{Operation}
use Rattle.answers.specs.declared.Refusal.{Refusal}
use Rattle.woot.specs.declared.Replica.{Replica}
use Rattle.answers.specs.declared.Refusal.TheVariants.{Layout, Range, Form}
use Rattle.answers.specs.Answers.{earlier, ◌⇒◌, first, decided}
use Rattle.woot.specs.Ranges.{in_range}
use Rattle.woot.specs.Form.{well_formed}
use Rattle.woot.specs.State.{State}
use Rattle.woot.specs.Table.{chains, table_links}
use Rattle.woot.specs.Memory.{meaning, replica_well_formed, character_numbers, character_slots, pending_numbers}
use Rattle.codec.specs.Calls.{Read}
use Rattle.lines.specs.Lines.{rest}
use Rattle.codec.specs.Calls.{read_checks, read_as, read_operation, said_by}
use Rattle.woot.specs.Replicas.{received_at}
use Rattle.saved.specs.LoadAnswer.{LoadAnswer}
use Rattle.saved.specs.declared.Loaded.{Loaded}
use Rattle.saved.specs.declared.Version.TheVariants.{Second}
use Rattle.saved.specs.Format.{saved_laid_out, saved_in_range, saved_state}
use Rattle.saved.specs.Calls.{loaded_state, unread, raised_in_arrays, reading_checks, saved_read}
use Rattle.memory.specs.Lent.{Sized}
use Rattle.loading.specs.Filling.{read_answer}
use Rattle.loading.proofs.Forming.{answer-read, read_whole, both, form_is, means_so}
use Rattle.c_calls.specs.Calls.{input_checks, one_line}
use Rattle.c_calls.specs.Inputs.{first_of}

-- ---- over the tests alone

-- what reading a saved replica answers, and the three refusals over all that was handed
abbrev pub answering : Bool → Bool → State → Loaded
answering a b s =
    decided unread (first ((not a ⇒ Err Layout) ∷ (not b ⇒ Err Range) ∷ [])) (record { answer = Ok tt; replica = raised_in_arrays s })

abbrev refusing : Bool → Bool → Bool → Option Refusal
refusing a b c = first ((not a ⇒ Layout) ∷ (not b ⇒ Range) ∷ (not c ⇒ Form) ∷ [])

alone : (a b c : Bool) (s : State) (q : Refusal) → (answering a b s).answer ≡ Err q → refusing (a && true) (b && true) c ≡ some q
unfolding decided unread
alone true true c s q h = cc
alone true false c s q h = cc
alone false b c s q h = cc

first_two : (a b : Bool) (s : State) (q : Refusal) → (answering a b s).answer ≡ Err q → first ((not a ⇒ Layout) ∷ (not b ⇒ Range) ∷ []) ≡ some q
unfolding decided unread
first_two true true s q h = cc
first_two true false s q h = cc
first_two false b s q h = cc

ranged : (a b c : Bool) (s : State) → refusing (a && true) (b && false) c ≡ some (first_of (answering a b s).answer Range)
unfolding decided unread first_of earlier
ranged true true c s = refl
ranged true false c s = refl
ranged false b c s = refl

laid_out_lem : (a b c d : Bool) (s : State) → refusing (a && false) (b && d) c ≡ some (first_of (answering a b s).answer Layout)
unfolding decided unread first_of earlier
laid_out_lem true true c d s = refl
laid_out_lem true false c d s = refl
laid_out_lem false b c d s = refl

abbrev reading : Bool → Bool → Operation → Read
reading laid r o = decided (λ a. a) (first ((not laid ⇒ Err Layout) ∷ (not r ⇒ Err Range) ∷ [])) (Ok o)

line : (a b c laid r : Bool) (s : State) (o : Operation) (q : Refusal) → reading laid r o ≡ Err q →
    refusing (a && laid) (b && r) c ≡ some (first_of (answering a b s).answer q)
unfolding decided
line a b c true true s o q h = cc
line a b c true false s o q h = let e : Range ≡ q = cc in rw (← e) (ranged a b c s)
line a b c false r s o q h = let e : Layout ≡ q = cc in rw (← e) (laid_out_lem a b c r s)

read : (laid r : Bool) (o p : Operation) → reading laid r o ≡ Ok p → (laid ≡ true) × (r ≡ true) × (p ≡ o)
unfolding decided
read true true o p h = (refl, refl, cc)
read true false o p h = (refl, cc, cc)
read false r o p h = (cc, cc, cc)

-- ---- the line

module _ (s : List ℕ) where
  -- bytes that follow are a fault of the layout
  pub followed : (length (rest s) ≡ 0 → ⊥) → read_as (one_line s) (said_by s) ≡ Err Layout
  unfolding read_as read_checks decided one_line
  followed h = rw (ne_eqb _ _ h)

  -- where none do, the line is as it is read
  pub sole : length (rest s) ≡ 0 → read_as (one_line s) (said_by s) ≡ read_operation s
  unfolding read_operation one_line
  sole h = rw (eq-eqb _ _ h)

-- a line that is read has its layout, is in range and says the operation
line_read : (laid : Bool) (o p : Operation) → read_as laid o ≡ Ok p → (laid ≡ true) × (in_range o ≡ true) × (p ≡ o)
unfolding read_as read_checks
line_read laid o p h = read laid (in_range o) o p h

-- ---- over what the readers return

-- where layout and range are passed, the form alone is left
abbrev pub form_left : List ℕ → Option Refusal
form_left s = first ((not (well_formed (loaded_state s)) ⇒ Form) ∷ [])

-- a replica read for a state is in form exactly when the state is, and then means it
pub record Reads (r : Replica) (s : State) : Type 0 where
  pub form : replica_well_formed r ≡ well_formed s
  pub means : well_formed s ≡ true → meaning r ≡ s

-- what reading into lent arrays answers, and the replica that it leaves in them
module _ (s : List ℕ) {a : LoadAnswer} (e : a ≡ read_answer Second s) where
  told : a ≡ (saved_read Second s).answer
  told = e ∙ answer-read Second s

  -- a saved replica that is refused, and nothing else that could be
  pub refused_alone : (q : Refusal) → a ≡ Err q → first (input_checks s true true) ≡ some q
  unfolding input_checks saved_read reading_checks
  refused_alone q h = alone (saved_laid_out s) (saved_in_range s) (well_formed (loaded_state s)) (saved_state s) q (sym told ∙ h)

  -- the same of 1 and 2 alone, where the rule answers all that comes after them
  pub refused-reading : (q : Refusal) → a ≡ Err q → first ((not (saved_laid_out s) ⇒ Layout) ∷ (not (saved_in_range s) ⇒ Range) ∷ []) ≡ some q
  unfolding saved_read reading_checks
  refused-reading q h = first_two (saved_laid_out s) (saved_in_range s) (saved_state s) q (sym told ∙ h)

  -- a number that is out of range beside a saved replica
  pub refused-range : first (input_checks s true false) ≡ some (first_of a Range)
  unfolding input_checks saved_read reading_checks
  refused-range =
      ranged (saved_laid_out s) (saved_in_range s) (well_formed (loaded_state s)) (saved_state s)
      ∙ ap (λ (b : LoadAnswer). some (first_of b Range)) (sym told)

  -- a line that is refused beside a saved replica
  pub refused_line : (laid : Bool) (o : Operation) (q : Refusal) → read_as laid o ≡ Err q →
      first (input_checks s laid (in_range o)) ≡ some (first_of a q)
  unfolding input_checks saved_read reading_checks read_as read_checks
  refused_line laid o q h =
      line (saved_laid_out s) (saved_in_range s) (well_formed (loaded_state s)) laid (in_range o) (saved_state s) o q h
      ∙ ap (λ (b : LoadAnswer). some (first_of b q)) (sym told)

  -- a saved replica that is refused beside a line that is read
  pub refused-beside : (laid : Bool) (o p : Operation) {q : Refusal} → read_as laid o ≡ Ok p → a ≡ Err q →
      first (input_checks s laid (in_range o)) ≡ some q
  refused-beside laid o p h k = let l = line_read laid o p h in rw (l.0, l.1) (refused_alone _ k)

  module _ (h : a ≡ Ok tt) where
    -- neither 1 nor 2 holds
    pub passed-reading : first ((not (saved_laid_out s) ⇒ Layout) ∷ (not (saved_in_range s) ⇒ Range) ∷ []) ≡ none
    passed-reading = let d = both Second s (saved_read Second s) refl (sym told ∙ h) in rw (d.0, d.1)

    module _ {r : Replica} (held : a ≡ Ok tt → r ≡ raised_in_arrays (saved_state s)) where
      -- and the replica is read for the state that loading makes
      pub passed : (first (input_checks s true true) ≡ form_left s) × Reads r (loaded_state s)
      unfolding input_checks
      passed =
          let whole = read_whole Second s told h (held h) in
          let d = both Second s _ whole h in
          let f = form_is Second s _ whole h in
          (rw (d.0, d.1) refl, record { form = f; means = λ w. means_so Second s _ whole h (f ∙ w) })

      -- a line is read beside it: its operation is received by the replica
      pub passed-beside : (laid : Bool) (o p : Operation) (g : ℕ) → read_as laid o ≡ Ok p →
          (first (input_checks s laid (in_range o)) ≡ form_left s) × (in_range o ≡ true) × (received_at r o g ≡ received_at r p g)
          × Reads r (loaded_state s)
      passed-beside laid o p g k =
          let l = line_read laid o p k in
          (rw (l.0, l.1) passed.0, l.1, ap (λ (q : Operation). received_at r q g) (sym l.2), passed.1)

-- the arrays that were read into have their sizes
pub lent_sized : {cs ts ps hs ls : List ℕ} {A : Type 0}
    → (length cs ≡ character_numbers) × ((length ts ≡ character_slots) × ((length ps ≡ pending_numbers) × ((length hs ≡ chains) × ((length ls ≡ table_links) × A))))
    → Sized cs ts ps hs ls
lent_sized z =
    record { characters = z.0; toggles = z.1.0; pending = z.1.1.0; heads = z.1.1.1.0; links = z.1.1.1.1.0 }
