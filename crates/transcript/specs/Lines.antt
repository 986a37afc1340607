-- The lines that the hall program prints. (Document 01, "The hall program".)
use Rattle.std.specs.Prelude.{ℕ, suc, List, [], ◌∷◌, ◌++◌, map, length}
use Rattle.answers.specs.declared.Answer.{Answer}
use Rattle.woot.specs.declared.Character.{Character}
use Rattle.woot.specs.Operations.{is_visible}
use Rattle.lists.specs.Lists.{keep}
use Rattle.woot.specs.Memory.{character_slots}
use Rattle.lists.specs.Padding.{pad}
use Rattle.answers.specs.Answers.{Word, done, waits, known, refused, Reply, reply}
use Rattle.decimal.specs.Numeral.{digits}
use Rattle.lines.specs.Fields.{tab, line_of}
use Rattle.transcript.specs.declared.report.Listing.{Listing}

-- `done`, `waits`, `known`, `refused`
unfoldable pub spelled : Word → List ℕ
spelled done = 100 ∷ 111 ∷ 110 ∷ 101 ∷ []
spelled waits = 119 ∷ 97 ∷ 105 ∷ 116 ∷ 115 ∷ []
spelled known = 107 ∷ 110 ∷ 111 ∷ 119 ∷ 110 ∷ []
spelled refused = 114 ∷ 101 ∷ 102 ∷ 117 ∷ 115 ∷ 101 ∷ 100 ∷ []

-- "its number from 1, the word done, waits, known or refused, carried, thrown, refusal number or 0"
unfoldable pub reply_line : ℕ → Reply → List ℕ
reply_line n r = line_of (digits n ++ tab ∷ spelled r.word) (r.integrated ∷ r.discarded ∷ r.refusal ∷ [])

-- the line on the line n of the input
unfoldable pub report_line : ℕ → Answer → List ℕ
report_line n a = reply_line n (reply a)

-- `T`
abbrev pub text_head : List ℕ
text_head = 84 ∷ []

-- the code points of the visible characters, in order
unfoldable pub visible_points : List Character → List ℕ
visible_points cs = map (λ c. c.code_point) (keep is_visible cs)

-- "the count of shown rows and their code points"
unfoldable pub text_numbers : List Character → List ℕ
text_numbers cs = length (visible_points cs) ∷ visible_points cs

-- those numbers in an array that has a slot for each that there can be, and how many follow the count
unfoldable pub listing : List Character → Listing
listing cs = record { values = pad (suc character_slots) 0 (text_numbers cs); count = length (visible_points cs) }

-- "last comes `T`"
unfoldable pub text_line : List Character → List ℕ
text_line cs = line_of text_head (text_numbers cs)
