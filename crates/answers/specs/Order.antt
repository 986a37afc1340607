-- The order in which refusals are checked: "the first that fits is reported".
use Rattle.std.specs.Prelude.{ℕ, Bool, true, ◌&&◌, ◌≡◌, List, [], ◌∷◌, map, ltb}
use Rattle.answers.specs.declared.Refusal.{Refusal}
use Rattle.answers.specs.declared.Refusal.TheVariants.{Layout, Range, HeapFull, Mislisted, Misarranged}
use Rattle.answers.specs.declared.Refusal.TheVariants.{NotUtf8, Form, Unrepresentable, Unreachable}
use Rattle.answers.specs.declared.Refusal.TheVariants.{Position, NotHidden, LastToggle, Clock, Taken}
use Rattle.answers.specs.declared.Refusal.TheVariants.{Conflict, Crossed, Unplaceable, SenderFull}
use Rattle.answers.specs.declared.Refusal.TheVariants.{DocumentFull, Output}
use Rattle.answers.specs.declared.Answer.{Answer}
use Rattle.answers.specs.declared.Answer.TheVariants.{Done, Deferred, Duplicate, Refused}
use Rattle.answers.specs.Answers.{number, rank, reply, Check}

-- the refusals of a list of checks by their numbers, 0 for known
abbrev pub numbers_of : List (Check Answer) → List ℕ
numbers_of cs = map (λ c. (reply c.answer).refusal) cs

-- the ranks of the refusals among answers, those of known left out
abbrev pub ranks_of : List Answer → List ℕ
ranks_of [] = []
ranks_of (Done n m ∷ given) = ranks_of given
ranks_of (Deferred ∷ given) = ranks_of given
ranks_of (Duplicate ∷ given) = ranks_of given
ranks_of (Refused r ∷ given) = rank r ∷ ranks_of given

-- each is above the one before it
abbrev pub rises : List ℕ → Bool
rises [] = true
rises (n ∷ []) = true
rises (n ∷ m ∷ ns) = ltb n m && rises (m ∷ ns)

-- all refusals in checking order: 17 to 20 "after 2", 15 and 16 "after 3", and 13 and 14 "after 4, in that order"
abbrev pub in_order : List Refusal
in_order =
    Layout ∷ Range ∷ HeapFull ∷ Mislisted ∷ Misarranged ∷ NotUtf8 ∷ Form ∷ Unrepresentable ∷ Unreachable ∷ Position
    ∷ NotHidden
    ∷ LastToggle
    ∷ Clock
    ∷ Taken
    ∷ Conflict
    ∷ Crossed
    ∷ Unplaceable
    ∷ SenderFull
    ∷ DocumentFull
    ∷ Output
    ∷ []

-- by their numbers, and each of a higher rank than the one before it
abbrev pub RanksTell : Type 0
RanksTell =
    (map number in_order ≡ 1 ∷ 2 ∷ 17 ∷ 18 ∷ 19 ∷ 20 ∷ 3 ∷ 15 ∷ 16 ∷ 4 ∷ 13 ∷ 14 ∷ 5 ∷ 6 ∷ 7 ∷ 8 ∷ 9 ∷ 10 ∷ 11 ∷ 12 ∷ [])
    × (rises (map rank in_order) ≡ true)
