-- Document 02, Req 09, of what runs: a copy lists, another answers, and the lines of the answer are handed one by one.
-- Over copies in memory and as bytes, and every kind of call that there is; proved in proofs/ under the names in small
-- letters.
use Rattle.std.specs.Prelude.{ℕ, ◌+◌, ◌≤◌, ◌≡◌, true, List, [], ◌∷◌, ◌++◌, map, length, take, Ok, Err}
use Rattle.std.proofs.Math.Option.{Option, none, some}
use Rattle.woot.specs.Writing.{Written}
use Rattle.woot.specs.Limits.{capacity}
use Rattle.woot.specs.Operations.{inserts}
use Rattle.woot.specs.Form.{present_inserts, well_formed}
use Rattle.answers.specs.Answers.{Word, done, waits, known, refused, reply}
use Rattle.convergence.specs.Catching.{OneMeaningAsked, HoldsAll}
use Rattle.lines.specs.Lines.{line_feed, lines, concatenated}
use Rattle.codec.specs.Calls.{said_by}
use Rattle.listing.specs.Theorems.{list_most}
use Rattle.saved.specs.Theorems.{saved_most}
use Rattle.catching.specs.Calls.{list_written, list_out, answer_written, answer_out}
use Rattle.transcript.specs.Calls.{received_line}
use Rattle.effects.specs.Results.{number_of}
use Rattle.effects.specs.Effects.{Effect}
use Rattle.c_calls.specs.Calls.{wimtaze_receive, effect_of}
use Rattle.c_calls.specs.Theorems.{answer_most, listed_in_c, answered_in_c}
use Rattle.consistency.specs.Copies.{Copy, in_memory, as_bytes, Call, memory_call, on_line, written_read, word_of}
use Rattle.consistency.specs.Copies.{state_of, step_on, ran, Start, begun, characters_of, text_of}
use Rattle.consistency.specs.Theorems.{receiving_line}

-- ---- what a copy writes

-- the bytes at the front of a lent slice; none with a refusal
abbrev pub front_of : Written → List ℕ → Option (List ℕ)
front_of (Ok n) out = some (take n out)
front_of (Err q) out = none

-- the same, as a C program reads it off the returned number
abbrev pub front_with : Word → ℕ → List ℕ → Option (List ℕ)
front_with done n out = some (take n out)
front_with waits n out = none
front_with known n out = none
front_with refused n out = none

abbrev pub front_read : Effect → Option (List ℕ)
front_read e = front_with (word_of e) (written_read (number_of e.result)) e.output

-- the list that a copy writes into a slice: by `catching::list`, or by `wimtaze_list`
abbrev pub list_from : Copy → List ℕ → Option (List ℕ)
list_from (in_memory r) out = front_of (list_written r out) (list_out r out)
list_from (as_bytes b) out = front_read (listed_in_c b out)

-- what it writes to answer a list: by `catching::answer`, or by `wimtaze_answer`
abbrev pub answer_from : Copy → List ℕ → List ℕ → Option (List ℕ)
answer_from (in_memory r) list out = front_of (answer_written r list out) (answer_out r list out)
answer_from (as_bytes b) list out = front_read (answered_in_c b list out)

-- the lines of an answer: its bytes, cut after each line feed
abbrev pub lines_of : List ℕ → List (List ℕ)
lines_of answer = map (λ l. l ++ line_feed ∷ []) (lines answer)

-- ---- lines handed to a copy

-- one line: to `transcript::answer_line`, or to `wimtaze_receive` with this output
abbrev pub handing : Copy → List ℕ → List ℕ → Call
handing (in_memory r) room l = memory_call (on_line l)
handing (as_bytes b) room l = receiving_line room l

-- the word that it answers
abbrev pub word_handing : Copy → List ℕ → List ℕ → Word
word_handing (in_memory r) room l = (reply (received_line r l).answer).word
word_handing (as_bytes b) room l = word_of (effect_of (wimtaze_receive l) b room [])

-- a line, with the output that it is handed with
pub record Handed : Type 0 where
  pub line : List ℕ
  pub room : List ℕ

-- the copy that is left once they are handed one by one
abbrev pub handed : Copy → List Handed → Copy
handed p [] = p
handed p (h ∷ hs) = handed (step_on p (handing p h.room h.line)).copy hs

-- done or known: it does not wait, and is not refused
abbrev pub Takes : Word → Type 0
Takes done = Unit
Takes waits = ⊥
Takes known = Unit
Takes refused = ⊥

-- so it is with each of them
abbrev pub AllTaken : Copy → List Handed → Type 0
AllTaken p [] = Unit
AllTaken p (h ∷ hs) =
    Takes (word_handing p h.room h.line) × AllTaken (step_on p (handing p h.room h.line)).copy hs

-- "into outputs long enough": each of the header's size, whatever it holds
abbrev pub AllLong : List Handed → Type 0
AllLong [] = Unit
AllLong (h ∷ hs) = (saved_most ≤ length h.room) × AllLong hs

-- "Received in that sequence, into outputs long enough": the lines of an answer, each with an output of its own
pub record HandedAll (answer : List ℕ) (hs : List Handed) : Type 0 where
  pub in-sequence : map (λ h. h.line) hs ≡ lines_of answer
  pub all-long : AllLong hs

-- ---- asking and answering

-- p listed into the first slice, and q answered that list into the second
pub record Exchange (p q : Copy) (out lent answer : List ℕ) : Type 0 where
  pub list : List ℕ
  pub listed : list_from p out ≡ some list
  pub answered : answer_from q list lent ≡ some answer

-- "no identifier stands for different inserts on the two", the asker's waiting inserts among them
abbrev pub OneMeaningOn : Copy → Copy → Type 0
OneMeaningOn p q = OneMeaningAsked (state_of p) (characters_of q)

-- "and space: the asker's rows, its waiting inserts and the inserts sent are together at most 1,024"
abbrev pub SpaceOn : Copy → List ℕ → Type 0
SpaceOn p answer =
    length (present_inserts (state_of p)) + length (inserts (map said_by (lines_of answer))) ≤ capacity

-- not a byte of an answer is left over once it is cut into lines
abbrev pub AnswerCut : Type 0
AnswerCut =
    (a b : Start) (cs ds : List Call) (out lent answer : List ℕ) →
    Exchange (ran (begun a) cs) (ran (begun b) ds) out lent answer → concatenated (λ l. l) (lines_of answer) ≡ answer

-- what is asked for: both copies are begun empty, built or loaded, with "every call given the sheet as the call before
-- left it"
pub record Caught (a b : Start) (cs ds : List Call) (answer : List ℕ) : Type 0 where
  pub out : List ℕ
  pub lent : List ℕ
  pub exchange : Exchange (ran (begun a) cs) (ran (begun b) ds) out lent answer
  pub one-meaning : OneMeaningOn (ran (begun a) cs) (ran (begun b) ds)
  pub space : SpaceOn (ran (begun a) cs) answer

-- "Received in that sequence, into outputs long enough, with no other call that changes the asker's sheet since it
-- listed, none of them waits", nor is any refused
abbrev pub AnswerTaken : Type 0
AnswerTaken =
    (a b : Start) (cs ds : List Call) (answer : List ℕ) → Caught a b cs ds answer →
    (hs : List Handed) → HandedAll answer hs → AllTaken (ran (begun a) cs) hs

-- "and the asker then holds every row the other had when it answered", every field of its insert, "with at least its
-- turn then"
abbrev pub AnswerHolds : Type 0
AnswerHolds =
    (a b : Start) (cs ds : List Call) (answer : List ℕ) → Caught a b cs ds answer →
    (hs : List Handed) → HandedAll answer hs →
    HoldsAll (characters_of (handed (ran (begun a) cs) hs)) (characters_of (ran (begun b) ds))

-- two copies with equal rows and equal visible texts
pub record Meet (p q : Copy) : Type 0 where
  pub same-characters : characters_of p ≡ characters_of q
  pub same_text : text_of p ≡ text_of q

-- "Where, besides, neither laptop had anything waiting and each answers the other, with no other call that changes
-- either sheet in between, both end with equal rows": the first answers the second once it has taken in some of the
-- lines, none or all. Space on the first is space on the second too.
abbrev pub BothAnswersMeet : Type 0
BothAnswersMeet =
    (a b : Start) (cs ds : List Call) (answer : List ℕ) → Caught a b cs ds answer →
    let one = ran (begun a) cs in
    let two = ran (begun b) ds in
    (state_of one).pending ≡ [] → (state_of two).pending ≡ [] →
    (early late : List Handed) → HandedAll answer (early ++ late) →
    (out lent back : List ℕ) → Exchange two (handed one early) out lent back →
    (others : List Handed) → HandedAll back others →
    Meet (handed one (early ++ late)) (handed two others)

-- ---- outputs of the header's sizes

-- every copy in form lists into a slice of the header's size, and is answered by every other into one
abbrev pub ListsAnswered : Type 0
ListsAnswered =
    (a b : Start) (cs ds : List Call) (out lent : List ℕ) →
    well_formed (state_of (ran (begun a) cs)) ≡ true → well_formed (state_of (ran (begun b) ds)) ≡ true →
    list_most ≤ length out → answer_most ≤ length lent →
    (answer : List ℕ) × Exchange (ran (begun a) cs) (ran (begun b) ds) out lent answer
