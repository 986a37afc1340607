-- Lists of calls for C, computed to the bytes that they leave: a step that does nothing, or does something else, is
-- told by them. One begins empty, one with what is built of a heap, and one with what is loaded for use; in one a copy
-- lists, and is handed what another answers, and in the last copies are archived and brought back. Proved in proofs/
-- under their names in small letters.
use Rattle.std.specs.Prelude.{ℕ, ◌/◌, ◌%◌, ◌≡◌, cond, List, [], ◌∷◌, ◌++◌, map, replicate}
use Rattle.std.proofs.Math.Option.{some}
use Rattle.answers.specs.Answers.{Word, done, waits, known, refused}
use Rattle.woot.specs.Histories.{inserting, deleting, restoring, receiving, receiving_at}
use Rattle.bulk.specs.Beginnings.{empty}
use Rattle.codec.specs.Calls.{said_by}
use Rattle.effects.specs.Results.{number_of}
use Rattle.effects.specs.Effects.{Effect}
use Rattle.c_calls.specs.Calls.{CCall, wimtaze_receive, wimtaze_receive_at, wimtaze_type, wimtaze_erase}
use Rattle.c_calls.specs.Calls.{wimtaze_restore, named, effect_of}
use Rattle.consistency.specs.Copies.{as_bytes, Call, bytes_call, for_c, empty_bytes, begun, ran, rules_by, kept_bytes}
use Rattle.consistency.specs.Copies.{word_of}
use Rattle.c_calls.specs.Calls.{wimtaze_paste, wimtaze_load}
use Rattle.consistency.specs.Copies.{refusal_read, renews, built_bytes, built_into, beginning_of, carried_before}
use Rattle.consistency.specs.Copies.{loaded_bytes, loaded_into}
use Rattle.consistency.specs.Copies.{Copy, step_on}
use Rattle.c_calls.specs.Theorems.{answered_in_c, archived_in_c, unarchived_in_c}
use Rattle.consistency.specs.Catching.{front_read, list_from, answer_from, lines_of, handing, word_handing, Handed}
use Rattle.consistency.specs.Catching.{handed}
use Rattle.consistency.specs.Archiving.{Act, one_call, trip, acted}

-- outputs that are long enough, with nothing in them
abbrev pub room : List ℕ
room = replicate 150 0

-- `I 2 1 66 1 1 0 1`: laptop 2 typed B below 1/1
abbrev pub inserted_line : List ℕ
inserted_line =
    73 ∷ 9 ∷ 50 ∷ 9 ∷ 49 ∷ 9 ∷ 54 ∷ 54 ∷ 9 ∷ 49 ∷ 9 ∷ 49 ∷ 9 ∷ 48 ∷ 9 ∷ 49 ∷ 10 ∷ []

-- `E 2 1 2 1`: and erased 1/2
abbrev pub erased_line : List ℕ
erased_line =
    69 ∷ 9 ∷ 50 ∷ 9 ∷ 49 ∷ 9 ∷ 50 ∷ 9 ∷ 49 ∷ 10 ∷ []

-- `E 2 7 7 1`: and something that has not come
abbrev pub stray_line : List ℕ
stray_line =
    69 ∷ 9 ∷ 50 ∷ 9 ∷ 55 ∷ 9 ∷ 55 ∷ 9 ∷ 49 ∷ 10 ∷ []

-- laptop 1 types N and o, erases N and brings it back; B comes, and a cursor below N is kept as o is erased. What is
-- turned away leaves the copy: a gap that is not there, a surrogate, an identifier that no character has, one that is
-- shown, bytes behind a line. B is known when it comes again, and what has not come is waited for. A block that is cut
-- is refused before its gap is looked at, an empty one for its gap, and at a gap that is there it leaves the copy; é
-- and ! are pasted below N
abbrev pub example_calls : List CCall
example_calls =
    wimtaze_type 0 78 ∷ wimtaze_type 1 111 ∷ wimtaze_erase 1 ∷ wimtaze_restore 1 1
    ∷ wimtaze_receive inserted_line
    ∷ wimtaze_receive_at erased_line 1
    ∷ wimtaze_type 9 65
    ∷ wimtaze_type 0 55296
    ∷ wimtaze_restore 0 1
    ∷ wimtaze_restore 1 1
    ∷ wimtaze_receive (erased_line ++ 10 ∷ [])
    ∷ wimtaze_receive inserted_line
    ∷ wimtaze_receive stray_line
    ∷ wimtaze_paste 9 (0xC3 ∷ [])
    ∷ wimtaze_paste 9 []
    ∷ wimtaze_paste 2 []
    ∷ wimtaze_paste 1 (0xC3 ∷ 0xA9 ∷ 0x21 ∷ [])
    ∷ []

abbrev pub with_room : CCall → Call
with_room c = bytes_call (for_c c room room)

-- S2 1 4; C 1 1 78 2 0 0 0 1; C 1 2 111 1 1 1 0 1; C 1 3 233 0 1 1 2 1; C 1 4 33 0 1 3 2 1; C 2 1 66 0 1 1 0 1;
-- E 2 7 7 1
abbrev pub example_bytes : List ℕ
example_bytes =
    (83 ∷ 50 ∷ 9 ∷ 49 ∷ 9 ∷ 52 ∷ 10 ∷ [])
    ++ (67 ∷ 9 ∷ 49 ∷ 9 ∷ 49 ∷ 9 ∷ 55 ∷ 56 ∷ 9 ∷ 50 ∷ 9 ∷ 48 ∷ 9 ∷ 48 ∷ 9 ∷ 48 ∷ 9 ∷ 49 ∷ 10 ∷ [])
    ++ (67 ∷ 9 ∷ 49 ∷ 9 ∷ 50 ∷ 9 ∷ 49 ∷ 49 ∷ 49 ∷ 9 ∷ 49 ∷ 9 ∷ 49 ∷ 9 ∷ 49 ∷ 9 ∷ 48 ∷ 9 ∷ 49 ∷ 10 ∷ [])
    ++ (67 ∷ 9 ∷ 49 ∷ 9 ∷ 51 ∷ 9 ∷ 50 ∷ 51 ∷ 51 ∷ 9 ∷ 48 ∷ 9 ∷ 49 ∷ 9 ∷ 49 ∷ 9 ∷ 50 ∷ 9 ∷ 49 ∷ 10 ∷ [])
    ++ (67 ∷ 9 ∷ 49 ∷ 9 ∷ 52 ∷ 9 ∷ 51 ∷ 51 ∷ 9 ∷ 48 ∷ 9 ∷ 49 ∷ 9 ∷ 51 ∷ 9 ∷ 50 ∷ 9 ∷ 49 ∷ 10 ∷ [])
    ++ (67 ∷ 9 ∷ 50 ∷ 9 ∷ 49 ∷ 9 ∷ 54 ∷ 54 ∷ 9 ∷ 48 ∷ 9 ∷ 49 ∷ 9 ∷ 49 ∷ 9 ∷ 48 ∷ 9 ∷ 49 ∷ 10 ∷ [])
    ++ (69 ∷ 9 ∷ 50 ∷ 9 ∷ 55 ∷ 9 ∷ 55 ∷ 9 ∷ 49 ∷ 10 ∷ [])

-- the words and refusals that the calls reply with, each given the bytes that the one before left
abbrev pub replies_of : List ℕ → List CCall → List (Word × ℕ)
replies_of bytes [] = []
replies_of bytes (c ∷ cs) =
    let e : Effect = effect_of c bytes room room in
    (word_of e, refusal_read (number_of e.result)) ∷ replies_of (cond (renews c) (kept_bytes bytes e) bytes) cs

-- the copy is these bytes then, the calls said so, and these calls of the rules were made; they begin with S2 1 0
pub record CallsExample : Type 0 where
  pub bytes_left : ran (begun (empty_bytes 1 room)) (map with_room example_calls) ≡ as_bytes example_bytes
  pub replies :
      replies_of (83 ∷ 50 ∷ 9 ∷ 49 ∷ 9 ∷ 48 ∷ 10 ∷ []) example_calls
      ≡ (done, 0) ∷ (done, 0) ∷ (done, 0) ∷ (done, 0) ∷ (done, 0) ∷ (done, 0) ∷ (refused, 4) ∷ (refused, 2)
      ∷ (refused, 2)
      ∷ (refused, 13)
      ∷ (refused, 1)
      ∷ (known, 0)
      ∷ (waits, 0)
      ∷ (refused, 20)
      ∷ (refused, 4)
      ∷ (done, 0)
      ∷ (done, 0)
      ∷ []
  pub rules-made :
      rules_by (begun (empty_bytes 1 room)) (map with_room example_calls)
      ≡ inserting 0 78 ∷ inserting 1 111 ∷ deleting 1 ∷ restoring (named 1 1) ∷ receiving (said_by inserted_line)
      ∷ receiving_at (said_by erased_line) 1
      ∷ receiving (said_by stray_line)
      ∷ inserting 1 233
      ∷ inserting 2 33
      ∷ []

-- ---- document 02, Req 08

-- `I 1 1 78 0 0 0 1`: laptop 1 typed N
abbrev pub typed_line : List ℕ
typed_line = 73 ∷ 9 ∷ 49 ∷ 9 ∷ 49 ∷ 9 ∷ 55 ∷ 56 ∷ 9 ∷ 48 ∷ 9 ∷ 48 ∷ 9 ∷ 48 ∷ 9 ∷ 49 ∷ 10 ∷ []

-- `I 1 2 111 1 1 0 1`: and o below it
abbrev pub typed_below : List ℕ
typed_below =
    73 ∷ 9 ∷ 49 ∷ 9 ∷ 50 ∷ 9 ∷ 49 ∷ 49 ∷ 49 ∷ 9 ∷ 49 ∷ 9 ∷ 49 ∷ 9 ∷ 48 ∷ 9 ∷ 49 ∷ 10 ∷ []

-- `D 2 1 2`: what `E 2 1 2 1` says
abbrev pub deleted_line : List ℕ
deleted_line = 68 ∷ 9 ∷ 50 ∷ 9 ∷ 49 ∷ 9 ∷ 50 ∷ 10 ∷ []

-- each stands before what it needs; the erasing of o and B stand twice, and what has not come is left out
abbrev pub example_heap : List ℕ
example_heap =
    erased_line ++ typed_below ++ inserted_line ++ typed_line ++ inserted_line ++ stray_line ++ deleted_line

-- S2 1 2; C 1 1 78 0 0 0 0 1; C 1 2 111 1 1 1 0 1; C 2 1 66 0 1 1 0 1
abbrev pub built_example : List ℕ
built_example =
    (83 ∷ 50 ∷ 9 ∷ 49 ∷ 9 ∷ 50 ∷ 10 ∷ [])
    ++ (67 ∷ 9 ∷ 49 ∷ 9 ∷ 49 ∷ 9 ∷ 55 ∷ 56 ∷ 9 ∷ 48 ∷ 9 ∷ 48 ∷ 9 ∷ 48 ∷ 9 ∷ 48 ∷ 9 ∷ 49 ∷ 10 ∷ [])
    ++ (67 ∷ 9 ∷ 49 ∷ 9 ∷ 50 ∷ 9 ∷ 49 ∷ 49 ∷ 49 ∷ 9 ∷ 49 ∷ 9 ∷ 49 ∷ 9 ∷ 49 ∷ 9 ∷ 48 ∷ 9 ∷ 49 ∷ 10 ∷ [])
    ++ (67 ∷ 9 ∷ 50 ∷ 9 ∷ 49 ∷ 9 ∷ 54 ∷ 54 ∷ 9 ∷ 48 ∷ 9 ∷ 49 ∷ 9 ∷ 49 ∷ 9 ∷ 48 ∷ 9 ∷ 49 ∷ 10 ∷ [])

-- laptop 1 brings o back, and what was in the heap is known
abbrev pub later_calls : List CCall
later_calls = wimtaze_restore 1 2 ∷ wimtaze_receive inserted_line ∷ []

-- the same with 2 as the turn of o
abbrev pub later_bytes : List ℕ
later_bytes =
    (83 ∷ 50 ∷ 9 ∷ 49 ∷ 9 ∷ 50 ∷ 10 ∷ [])
    ++ (67 ∷ 9 ∷ 49 ∷ 9 ∷ 49 ∷ 9 ∷ 55 ∷ 56 ∷ 9 ∷ 48 ∷ 9 ∷ 48 ∷ 9 ∷ 48 ∷ 9 ∷ 48 ∷ 9 ∷ 49 ∷ 10 ∷ [])
    ++ (67 ∷ 9 ∷ 49 ∷ 9 ∷ 50 ∷ 9 ∷ 49 ∷ 49 ∷ 49 ∷ 9 ∷ 50 ∷ 9 ∷ 49 ∷ 9 ∷ 49 ∷ 9 ∷ 48 ∷ 9 ∷ 49 ∷ 10 ∷ [])
    ++ (67 ∷ 9 ∷ 50 ∷ 9 ∷ 49 ∷ 9 ∷ 54 ∷ 54 ∷ 9 ∷ 48 ∷ 9 ∷ 49 ∷ 9 ∷ 49 ∷ 9 ∷ 48 ∷ 9 ∷ 49 ∷ 10 ∷ [])

-- how many were left out, as a C program reads it off the returned number
abbrev pub left_out_read : ℕ → ℕ
left_out_read r = r / 1048576 % 4096

-- what is built of the heap, what was carried out to make it, in the rule's order, and what calls then leave; of a heap
-- whose last line feed is missing nothing is built, and nothing was carried out
pub record BuiltExample : Type 0 where
  pub bytes-built : begun (built_bytes 1 example_heap room) ≡ as_bytes built_example
  pub one-left-out : left_out_read (number_of (built_into 1 example_heap room).result) ≡ 1
  pub carried-out :
      carried_before (built_bytes 1 example_heap room)
      ≡ said_by typed_line ∷ said_by typed_below ∷ said_by inserted_line ∷ said_by deleted_line ∷ []
  pub goes_on : ran (begun (built_bytes 1 example_heap room)) (map with_room later_calls) ≡ as_bytes later_bytes
  pub rules-after :
      rules_by (begun (built_bytes 1 example_heap room)) (map with_room later_calls) ≡ restoring (named 1 2) ∷ []
  pub none-built : begun (built_bytes 1 (example_heap ++ 73 ∷ []) room) ≡ as_bytes []
  pub begins-empty : beginning_of (built_bytes 1 (example_heap ++ 73 ∷ []) room) ≡ empty 0
  pub none-carried : carried_before (built_bytes 1 (example_heap ++ 73 ∷ []) room) ≡ []

-- ---- document 02, Req 07

-- S2 2 0, and the rows of what was built: laptop 2 has a row whose clock is above its own
abbrev pub low_example : List ℕ
low_example =
    (83 ∷ 50 ∷ 9 ∷ 50 ∷ 9 ∷ 48 ∷ 10 ∷ [])
    ++ (67 ∷ 9 ∷ 49 ∷ 9 ∷ 49 ∷ 9 ∷ 55 ∷ 56 ∷ 9 ∷ 48 ∷ 9 ∷ 48 ∷ 9 ∷ 48 ∷ 9 ∷ 48 ∷ 9 ∷ 49 ∷ 10 ∷ [])
    ++ (67 ∷ 9 ∷ 49 ∷ 9 ∷ 50 ∷ 9 ∷ 49 ∷ 49 ∷ 49 ∷ 9 ∷ 49 ∷ 9 ∷ 49 ∷ 9 ∷ 49 ∷ 9 ∷ 48 ∷ 9 ∷ 49 ∷ 10 ∷ [])
    ++ (67 ∷ 9 ∷ 50 ∷ 9 ∷ 49 ∷ 9 ∷ 54 ∷ 54 ∷ 9 ∷ 48 ∷ 9 ∷ 49 ∷ 9 ∷ 49 ∷ 9 ∷ 48 ∷ 9 ∷ 49 ∷ 10 ∷ [])

-- the same with S2 2 1
abbrev pub raised_example : List ℕ
raised_example =
    (83 ∷ 50 ∷ 9 ∷ 50 ∷ 9 ∷ 49 ∷ 10 ∷ [])
    ++ (67 ∷ 9 ∷ 49 ∷ 9 ∷ 49 ∷ 9 ∷ 55 ∷ 56 ∷ 9 ∷ 48 ∷ 9 ∷ 48 ∷ 9 ∷ 48 ∷ 9 ∷ 48 ∷ 9 ∷ 49 ∷ 10 ∷ [])
    ++ (67 ∷ 9 ∷ 49 ∷ 9 ∷ 50 ∷ 9 ∷ 49 ∷ 49 ∷ 49 ∷ 9 ∷ 49 ∷ 9 ∷ 49 ∷ 9 ∷ 49 ∷ 9 ∷ 48 ∷ 9 ∷ 49 ∷ 10 ∷ [])
    ++ (67 ∷ 9 ∷ 50 ∷ 9 ∷ 49 ∷ 9 ∷ 54 ∷ 54 ∷ 9 ∷ 48 ∷ 9 ∷ 49 ∷ 9 ∷ 49 ∷ 9 ∷ 48 ∷ 9 ∷ 49 ∷ 10 ∷ [])

-- `E 1 1 2 1`: what is taken for the erasing of o
abbrev pub turned_line : List ℕ
turned_line = 69 ∷ 9 ∷ 49 ∷ 9 ∷ 49 ∷ 9 ∷ 50 ∷ 9 ∷ 49 ∷ 10 ∷ []

-- S2 1 1; C 2 1 66 0 0 0 0 1; C 1 1 65 0 0 0 0 1: in form, and the lower identifier of two concurrent rows stands below
abbrev pub unreachable_example : List ℕ
unreachable_example =
    (83 ∷ 50 ∷ 9 ∷ 49 ∷ 9 ∷ 49 ∷ 10 ∷ [])
    ++ (67 ∷ 9 ∷ 50 ∷ 9 ∷ 49 ∷ 9 ∷ 54 ∷ 54 ∷ 9 ∷ 48 ∷ 9 ∷ 48 ∷ 9 ∷ 48 ∷ 9 ∷ 48 ∷ 9 ∷ 49 ∷ 10 ∷ [])
    ++ (67 ∷ 9 ∷ 49 ∷ 9 ∷ 49 ∷ 9 ∷ 54 ∷ 53 ∷ 9 ∷ 48 ∷ 9 ∷ 48 ∷ 9 ∷ 48 ∷ 9 ∷ 48 ∷ 9 ∷ 49 ∷ 10 ∷ [])

-- what is loaded has its clock raised, and what is taken for its past is counted as carried out; loaded again it is as
-- it was. What no operations leave is refused with 16: it is no start, and nothing was carried out
pub record LoadedExample : Type 0 where
  pub bytes-loaded : begun (loaded_bytes low_example room) ≡ as_bytes raised_example
  pub carried-out :
      carried_before (loaded_bytes low_example room)
      ≡ said_by typed_line ∷ said_by typed_below ∷ said_by inserted_line ∷ said_by turned_line ∷ []
  pub same-again :
      ran (begun (loaded_bytes low_example room)) (map with_room (wimtaze_load ∷ [])) ≡ as_bytes raised_example
  pub rules-after : rules_by (begun (loaded_bytes low_example room)) (map with_room (wimtaze_load ∷ [])) ≡ []
  pub sixteen : refusal_read (number_of (loaded_into unreachable_example room).result) ≡ 16
  pub none-loaded : begun (loaded_bytes unreachable_example room) ≡ as_bytes []
  pub begins-empty : beginning_of (loaded_bytes unreachable_example room) ≡ empty 0
  pub none-carried : carried_before (loaded_bytes unreachable_example room) ≡ []

-- ---- document 02, Req 09

-- `H 2 3`, `K 1 0 6`, `K 2 0 2`: laptop 2 lists 1/1, 1/2, which is hidden, and 2/1
abbrev pub example_list : List ℕ
example_list =
    (72 ∷ 9 ∷ 50 ∷ 9 ∷ 51 ∷ 10 ∷ [])
    ++ (75 ∷ 9 ∷ 49 ∷ 9 ∷ 48 ∷ 9 ∷ 54 ∷ 10 ∷ [])
    ++ (75 ∷ 9 ∷ 50 ∷ 9 ∷ 48 ∷ 9 ∷ 50 ∷ 10 ∷ [])

-- `I 1 3 233 1 1 2 1`: é, which laptop 2 lacks
abbrev pub first_sent : List ℕ
first_sent =
    73 ∷ 9 ∷ 49 ∷ 9 ∷ 51 ∷ 9 ∷ 50 ∷ 51 ∷ 51 ∷ 9 ∷ 49 ∷ 9 ∷ 49 ∷ 9 ∷ 50 ∷ 9 ∷ 49 ∷ 10 ∷ []

-- `I 1 4 33 1 3 2 1`: and !, which needs it
abbrev pub second_sent : List ℕ
second_sent =
    73 ∷ 9 ∷ 49 ∷ 9 ∷ 52 ∷ 9 ∷ 51 ∷ 51 ∷ 9 ∷ 49 ∷ 9 ∷ 51 ∷ 9 ∷ 50 ∷ 9 ∷ 49 ∷ 10 ∷ []

-- `E 1 1 1 2`: N was erased and brought back
abbrev pub turned_twice : List ℕ
turned_twice =
    69 ∷ 9 ∷ 49 ∷ 9 ∷ 49 ∷ 9 ∷ 49 ∷ 9 ∷ 50 ∷ 10 ∷ []

-- what laptop 1 answers, from the rows that are left once all the calls of the first example were made
abbrev pub example_answer : List ℕ
example_answer = first_sent ++ second_sent ++ turned_twice ++ turned_line

-- S2 2 1, and the rows of laptop 1
abbrev pub caught_bytes : List ℕ
caught_bytes =
    (83 ∷ 50 ∷ 9 ∷ 50 ∷ 9 ∷ 49 ∷ 10 ∷ [])
    ++ (67 ∷ 9 ∷ 49 ∷ 9 ∷ 49 ∷ 9 ∷ 55 ∷ 56 ∷ 9 ∷ 50 ∷ 9 ∷ 48 ∷ 9 ∷ 48 ∷ 9 ∷ 48 ∷ 9 ∷ 49 ∷ 10 ∷ [])
    ++ (67 ∷ 9 ∷ 49 ∷ 9 ∷ 50 ∷ 9 ∷ 49 ∷ 49 ∷ 49 ∷ 9 ∷ 49 ∷ 9 ∷ 49 ∷ 9 ∷ 49 ∷ 9 ∷ 48 ∷ 9 ∷ 49 ∷ 10 ∷ [])
    ++ (67 ∷ 9 ∷ 49 ∷ 9 ∷ 51 ∷ 9 ∷ 50 ∷ 51 ∷ 51 ∷ 9 ∷ 48 ∷ 9 ∷ 49 ∷ 9 ∷ 49 ∷ 9 ∷ 50 ∷ 9 ∷ 49 ∷ 10 ∷ [])
    ++ (67 ∷ 9 ∷ 49 ∷ 9 ∷ 52 ∷ 9 ∷ 51 ∷ 51 ∷ 9 ∷ 48 ∷ 9 ∷ 49 ∷ 9 ∷ 51 ∷ 9 ∷ 50 ∷ 9 ∷ 49 ∷ 10 ∷ [])
    ++ (67 ∷ 9 ∷ 50 ∷ 9 ∷ 49 ∷ 9 ∷ 54 ∷ 54 ∷ 9 ∷ 48 ∷ 9 ∷ 49 ∷ 9 ∷ 49 ∷ 9 ∷ 48 ∷ 9 ∷ 49 ∷ 10 ∷ [])

-- `H 2 4` over the same words: the total differs from the ones counted
abbrev pub wrong_list : List ℕ
wrong_list =
    (72 ∷ 9 ∷ 50 ∷ 9 ∷ 52 ∷ 10 ∷ [])
    ++ (75 ∷ 9 ∷ 49 ∷ 9 ∷ 48 ∷ 9 ∷ 54 ∷ 10 ∷ [])
    ++ (75 ∷ 9 ∷ 50 ∷ 9 ∷ 48 ∷ 9 ∷ 50 ∷ 10 ∷ [])

-- the same with index 1,024, which is out of range
abbrev pub outside_list : List ℕ
outside_list =
    (72 ∷ 9 ∷ 50 ∷ 9 ∷ 52 ∷ 10 ∷ [])
    ++ (75 ∷ 9 ∷ 49 ∷ 9 ∷ 49 ∷ 48 ∷ 50 ∷ 52 ∷ 9 ∷ 54 ∷ 10 ∷ [])
    ++ (75 ∷ 9 ∷ 50 ∷ 9 ∷ 48 ∷ 9 ∷ 50 ∷ 10 ∷ [])

-- S2 1 0; C 2 1 66 0 7 7 0 1: 7/7 is not there, so it is not in form
abbrev pub unformed_example : List ℕ
unformed_example =
    (83 ∷ 50 ∷ 9 ∷ 49 ∷ 9 ∷ 48 ∷ 10 ∷ [])
    ++ (67 ∷ 9 ∷ 50 ∷ 9 ∷ 49 ∷ 9 ∷ 54 ∷ 54 ∷ 9 ∷ 48 ∷ 9 ∷ 55 ∷ 9 ∷ 55 ∷ 9 ∷ 48 ∷ 9 ∷ 49 ∷ 10 ∷ [])

-- the words as lines are handed to a copy one by one
abbrev pub words_handing : Copy → List Handed → List Word
words_handing p [] = []
words_handing p (h ∷ hs) =
    word_handing p h.room h.line ∷ words_handing (step_on p (handing p h.room h.line)).copy hs

-- the lines of the answer, each with such an output
abbrev pub example_handed : List Handed
example_handed = map (λ l. record { line = l; room = room }) (lines_of example_answer)

-- laptop 2 lists, laptop 1 answers with what is not listed and the `E` lines, and of these lines the erasing of o is
-- known; of a wrong list 18 is answered before 3, and 2 before both
pub record CaughtExample : Type 0 where
  pub listed : list_from (as_bytes raised_example) room ≡ some example_list
  pub answered : answer_from (as_bytes example_bytes) example_list room ≡ some example_answer
  pub lines_cut : lines_of example_answer ≡ first_sent ∷ second_sent ∷ turned_twice ∷ turned_line ∷ []
  pub words : words_handing (as_bytes raised_example) example_handed ≡ done ∷ done ∷ done ∷ known ∷ []
  pub caught : handed (as_bytes raised_example) example_handed ≡ as_bytes caught_bytes
  pub eighteen : refusal_read (number_of (answered_in_c unformed_example wrong_list room).result) ≡ 18
  pub two : refusal_read (number_of (answered_in_c unformed_example outside_list room).result) ≡ 2
  pub three : refusal_read (number_of (answered_in_c unformed_example example_list room).result) ≡ 3

-- ---- document 02, Req 10

-- S2 1 1; P 2 1 1 65 0 0 0 0 1; P 1 2 1 66 0 0 0 0 1: what no operations leave, by rising identifier
abbrev pub archived_example : List ℕ
archived_example =
    (83 ∷ 50 ∷ 9 ∷ 49 ∷ 9 ∷ 49 ∷ 10 ∷ [])
    ++ (80 ∷ 9 ∷ 50 ∷ 9 ∷ 49 ∷ 9 ∷ 49 ∷ 9 ∷ 54 ∷ 53 ∷ 9 ∷ 48 ∷ 9 ∷ 48 ∷ 9 ∷ 48 ∷ 9 ∷ 48 ∷ 9 ∷ 49 ∷ 10 ∷ [])
    ++ (80 ∷ 9 ∷ 49 ∷ 9 ∷ 50 ∷ 9 ∷ 49 ∷ 9 ∷ 54 ∷ 54 ∷ 9 ∷ 48 ∷ 9 ∷ 48 ∷ 9 ∷ 48 ∷ 9 ∷ 48 ∷ 9 ∷ 49 ∷ 10 ∷ [])

-- S2 2 0; P 1 1 1 78 0 0 0 0 1; P 2 1 2 111 1 1 1 0 1; P 3 2 1 66 0 1 1 0 1: the archive with the low clock
abbrev pub low_archive : List ℕ
low_archive =
    (83 ∷ 50 ∷ 9 ∷ 50 ∷ 9 ∷ 48 ∷ 10 ∷ [])
    ++ (80 ∷ 9 ∷ 49 ∷ 9 ∷ 49 ∷ 9 ∷ 49 ∷ 9 ∷ 55 ∷ 56 ∷ 9 ∷ 48 ∷ 9 ∷ 48 ∷ 9 ∷ 48 ∷ 9 ∷ 48 ∷ 9 ∷ 49 ∷ 10 ∷ [])
    ++ (80 ∷ 9 ∷ 50 ∷ 9 ∷ 49 ∷ 9 ∷ 50 ∷ 9 ∷ 49 ∷ 49 ∷ 49 ∷ 9 ∷ 49 ∷ 9 ∷ 49 ∷ 9 ∷ 49 ∷ 9 ∷ 48 ∷ 9 ∷ 49 ∷ 10 ∷ [])
    ++ (80 ∷ 9 ∷ 51 ∷ 9 ∷ 50 ∷ 9 ∷ 49 ∷ 9 ∷ 54 ∷ 54 ∷ 9 ∷ 48 ∷ 9 ∷ 49 ∷ 9 ∷ 49 ∷ 9 ∷ 48 ∷ 9 ∷ 49 ∷ 10 ∷ [])

-- S2 1 0 and a row that is not in form, at this place: `P n 2 1 66 0 7 7 0 1`
abbrev pub unformed_archive : List ℕ → List ℕ
unformed_archive place =
    (83 ∷ 50 ∷ 9 ∷ 49 ∷ 9 ∷ 48 ∷ 10 ∷ [])
    ++ (80 ∷ 9 ∷ []) ++ place
    ++ (9 ∷ 50 ∷ 9 ∷ 49 ∷ 9 ∷ 54 ∷ 54 ∷ 9 ∷ 48 ∷ 9 ∷ 55 ∷ 9 ∷ 55 ∷ 9 ∷ 48 ∷ 9 ∷ 49 ∷ 10 ∷ [])

-- the copy built of the heap goes on as before, with trips in between: the second has outputs that are too short
abbrev pub example_acts : List Act
example_acts =
    one_call (with_room (wimtaze_restore 1 2)) ∷ trip room room ∷ one_call (with_room (wimtaze_receive inserted_line))
    ∷ trip [] []
    ∷ []

-- both trips, whatever the rows; a low clock is 3 on either; a place above the number of rows is 19, before 3, and one
-- above 1,024 is 2
pub record ArchivedExample : Type 0 where
  pub archived : front_read (archived_in_c unreachable_example room) ≡ some archived_example
  pub brought-back : front_read (unarchived_in_c archived_example room) ≡ some unreachable_example
  pub low-three : refusal_read (number_of (archived_in_c low_example room).result) ≡ 3
  pub low-back-three : refusal_read (number_of (unarchived_in_c low_archive room).result) ≡ 3
  pub three : refusal_read (number_of (unarchived_in_c (unformed_archive (49 ∷ [])) room).result) ≡ 3
  pub nineteen : refusal_read (number_of (unarchived_in_c (unformed_archive (50 ∷ [])) room).result) ≡ 19
  pub two : refusal_read (number_of (unarchived_in_c (unformed_archive (49 ∷ 48 ∷ 50 ∷ 53 ∷ [])) room).result) ≡ 2
  pub goes_on : acted (as_bytes built_example) example_acts ≡ as_bytes later_bytes
