-- The numbers of the refusals, what an answer says in document 01's words, and how the first condition that holds
-- decides.
use Rattle.std.specs.Prelude.{ℕ, Bool, true, false, cond, ◌≡◌, List, [], ◌∷◌, leb}
use Rattle.std.proofs.Math.Option.{Option, none, some}
use Rattle.answers.specs.declared.Refusal.{Refusal}
use Rattle.answers.specs.declared.Refusal.TheVariants.{Layout, Range, HeapFull, Mislisted, Misarranged}
use Rattle.answers.specs.declared.Refusal.TheVariants.{NotUtf8, Form, Unrepresentable, Unreachable}
use Rattle.answers.specs.declared.Refusal.TheVariants.{Position, NotHidden, LastToggle, Clock, Taken}
use Rattle.answers.specs.declared.Refusal.TheVariants.{Conflict, Crossed, Unplaceable, SenderFull}
use Rattle.answers.specs.declared.Refusal.TheVariants.{DocumentFull, Output}
use Rattle.answers.specs.declared.Answer.{Answer}
use Rattle.answers.specs.declared.Answer.TheVariants.{Done, Deferred, Duplicate, Refused}

-- document 01, "Grounds for turning a call away", and the numbers that document 02 adds
abbrev pub number : Refusal → ℕ
number Layout = 1
number Range = 2
number HeapFull = 17
number Mislisted = 18
number Misarranged = 19
number NotUtf8 = 20
number Form = 3
number Unrepresentable = 15
number Unreachable = 16
number Position = 4
number NotHidden = 13
number LastToggle = 14
number Clock = 5
number Taken = 6
number Conflict = 7
number Crossed = 8
number Unplaceable = 9
number SenderFull = 10
number DocumentFull = 11
number Output = 12

-- the highest of these numbers
abbrev pub highest_refusal : ℕ
highest_refusal = 20

-- the place of a refusal in the checking order: what compares two refusals compares these, since a later number may be
-- checked earlier; 13 and 14 "come after 4, in that order", 15 and 16 "after 3", and 17 to 20 "after 2". No call has
-- both 15 and 16, or two of 17 to 20
abbrev pub rank : Refusal → ℕ
rank Layout = 1
rank Range = 2
rank HeapFull = 3
rank Mislisted = 4
rank Misarranged = 5
rank NotUtf8 = 6
rank Form = 7
rank Unrepresentable = 8
rank Unreachable = 9
rank Position = 10
rank NotHidden = 11
rank LastToggle = 12
rank Clock = 13
rank Taken = 14
rank Conflict = 15
rank Crossed = 16
rank Unplaceable = 17
rank SenderFull = 18
rank DocumentFull = 19
rank Output = 20

-- of two refusals the one that comes first in the checking order
unfoldable pub earlier : Refusal → Refusal → Refusal
earlier p q = cond (leb (rank p) (rank q)) p q

-- the words of document 01's replies
pub data Word : Type 0 where
  done waits known refused : Word

-- a reply: its word, carried and thrown, and the refusal's number or 0
pub record Reply : Type 0 where
  pub word : Word
  pub integrated : ℕ
  pub discarded : ℕ
  pub refusal : ℕ

-- "both are 0 with known, waits and refusals"
unfoldable pub reply : Answer → Reply
reply (Done n m) = record { word = done; integrated = n; discarded = m; refusal = 0 }
reply Deferred = record { word = waits; integrated = 0; discarded = 0; refusal = 0 }
reply Duplicate = record { word = known; integrated = 0; discarded = 0; refusal = 0 }
reply (Refused r) = record { word = refused; integrated = 0; discarded = 0; refusal = number r }

-- done and waits change the replica; known and refusals leave it
unfoldable pub changes : Answer → Bool
changes (Done n m) = true
changes Deferred = true
changes Duplicate = false
changes (Refused r) = false

-- a condition, and the answer where it holds
pub record Check (A : Type 0) : Type 0 where
  pub holds : Bool
  pub answer : A

module _ {A : Type 0} where
  infix 20 ◌⇒◌
  -- where the condition holds the answer is given
  abbrev pub ◌⇒◌ : Bool → A → Check A
  b ⇒ a = record { holds = b; answer = a }

  -- document 02, Req 05: "the first that fits is reported", in checking order
  abbrev pub first : List (Check A) → Option A
  first [] = none
  first (c ∷ cs) = cond c.holds (some c.answer) (first cs)

  -- no condition of the list holds
  abbrev pub NoneHolds : List (Check A) → Type 0
  NoneHolds [] = Unit
  NoneHolds (c ∷ cs) = (c.holds ≡ false) × NoneHolds cs

  -- what is made of the answer at the first condition that holds; where none does, what is done
  unfoldable pub decided : {B : Type 0} → (A → B) → Option A → B → B
  decided turned none b = b
  decided turned (some a) b = turned a

  -- a is the answer at a condition that holds, and no condition before it holds
  pub data Reported (a : A) : List (Check A) → Type 0 where
    here : {c : Check A} {cs : List (Check A)} → c.holds ≡ true → c.answer ≡ a → Reported a (c ∷ cs)
    later : {c : Check A} {cs : List (Check A)} → c.holds ≡ false → Reported a cs → Reported a (c ∷ cs)
