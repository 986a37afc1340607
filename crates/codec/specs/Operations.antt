-- Operations as lines: which head word, and which numbers in which order.
use Rattle.std.specs.Prelude.{ℕ, ◌+◌, List, [], ◌∷◌, Bool, cond, get_or}
use Rattle.woot.specs.declared.Identifier.{Identifier}
use Rattle.woot.specs.declared.Insert.{Insert}
use Rattle.woot.specs.declared.Toggle.{Toggle}
use Rattle.woot.specs.declared.Operation.{Operation}
use Rattle.woot.specs.declared.Operation.TheVariants.{Insert as insert, Toggle as toggle}
use Rattle.woot.specs.Limits.{last_site, last_clock, last_code_point, last_toggles}
use Rattle.lines.specs.Fields.{has_layout, values_of, line_of}

-- `I`
abbrev pub insert_head : List ℕ
insert_head = 73 ∷ []

-- document 02, Req 05: `E`
abbrev pub toggle_head : List ℕ
toggle_head = 69 ∷ []

-- `D`, which "is written no more"
abbrev pub delete_head : List ℕ
delete_head = 68 ∷ []

-- "laptop clock codepoint prevlaptop prevclock nextlaptop nextclock"
unfoldable pub insert_numbers : Insert → List ℕ
insert_numbers i =
    i.id.site ∷ i.id.clock ∷ i.code_point ∷ i.previous.site ∷ i.previous.clock
    ∷ i.next.site ∷ i.next.clock ∷ []

-- the limits of those numbers
abbrev pub insert_limits : List ℕ
insert_limits = last_site ∷ last_clock ∷ last_code_point ∷ last_site ∷ last_clock ∷ last_site ∷ last_clock ∷ []

-- "sender laptop clock turn"
unfoldable pub toggle_numbers : Toggle → List ℕ
toggle_numbers t = t.sender ∷ t.target.site ∷ t.target.clock ∷ t.toggles ∷ []

-- the limits of those numbers
abbrev pub toggle_limits : List ℕ
toggle_limits = last_site ∷ last_site ∷ last_clock ∷ last_toggles ∷ []

-- "sender laptop clock": the numbers of a `D` line, which does not say the toggles
unfoldable pub delete_numbers : Toggle → List ℕ
delete_numbers t = t.sender ∷ t.target.site ∷ t.target.clock ∷ []

-- the limits of those numbers
abbrev pub delete_limits : List ℕ
delete_limits = last_site ∷ last_site ∷ last_clock ∷ []

-- the identifier at the given place among numbers
unfoldable pub identifier_at : ℕ → List ℕ → Identifier
identifier_at k ns = record { site = get_or ns k 0; clock = get_or ns (k + 1) 0 }

-- what the numbers of an insert's line say
unfoldable pub insert_of : List ℕ → Insert
insert_of ns =
    record {
      id = identifier_at 0 ns;
      code_point = get_or ns 2 0;
      previous = identifier_at 3 ns;
      next = identifier_at 5 ns;
    }

-- what the numbers of a toggle's line say
unfoldable pub toggle_of : List ℕ → Toggle
toggle_of ns = record { sender = get_or ns 0 0; target = identifier_at 1 ns; toggles = get_or ns 3 0 }

-- "a `D` line is read as turn 1"
unfoldable pub delete_of : List ℕ → Toggle
delete_of ns = record { sender = get_or ns 0 0; target = identifier_at 1 ns; toggles = 1 }

unfoldable pub is_insert : List (List ℕ) → Bool
is_insert fs = has_layout insert_head 7 fs

unfoldable pub is_toggle : List (List ℕ) → Bool
is_toggle fs = has_layout toggle_head 4 fs

unfoldable pub is_delete : List (List ℕ) → Bool
is_delete fs = has_layout delete_head 3 fs

-- the operation that fields with the layout say, whatever numbers they have
unfoldable pub operation_of : List (List ℕ) → Operation
operation_of fs =
    cond (is_insert fs) (insert (insert_of (values_of fs)))
    (toggle (cond (is_toggle fs) (toggle_of (values_of fs)) (delete_of (values_of fs))))

-- the line of an operation, with its line feed
unfoldable pub operation_line : Operation → List ℕ
operation_line (insert i) = line_of insert_head (insert_numbers i)
operation_line (toggle t) = line_of toggle_head (toggle_numbers t)
