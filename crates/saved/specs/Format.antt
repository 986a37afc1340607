-- Saved replicas as lines, in two forms. (Document 01, the first: "first `S` laptop clock; then for each row from the
-- top `C` laptop clock codepoint shown (1 or 0) prevlaptop prevclock nextlaptop nextclock; then the waiting operations,
-- earliest first, as `I` and `D` lines"; document 02, Req 05, the second: "it begins `S2` laptop clock, has the turn
-- where shown stood, and has `E` lines where waiting `D` lines stood".)
use Rattle.std.specs.Prelude.{ℕ, zero, suc, List, [], ◌∷◌, ◌++◌, map, Bool, true, ◌&&◌, leb, get_or, drop}
use Rattle.woot.specs.declared.Site.{Site}
use Rattle.woot.specs.declared.Operation.{Operation}
use Rattle.woot.specs.declared.Operation.TheVariants.{Insert as insert, Toggle as toggle}
use Rattle.woot.specs.declared.Character.{Character}
use Rattle.woot.specs.Limits.{last_site, last_clock, last_code_point, last_toggles}
use Rattle.lists.specs.Lists.{every}
use Rattle.woot.specs.State.{State}
use Rattle.woot.specs.Form.{all_in_range}
use Rattle.lines.specs.Lines.{lines, closed, leading, trailing, concatenated}
use Rattle.lines.specs.Fields.{fields, has_layout, values_of, line_of}
use Rattle.codec.specs.Operations.{delete_head, delete_numbers, identifier_at, operation_of, operation_line}
use Rattle.codec.specs.Calls.{as_written, as_written_first}
use Rattle.saved.specs.declared.Version.{Version}
use Rattle.saved.specs.declared.Version.TheVariants.{First, Second}

-- ---- the site's line

-- `S` and `S2`
abbrev pub site_head : Version → List ℕ
site_head First = 83 ∷ []
site_head Second = 83 ∷ 50 ∷ []

-- "laptop clock"
unfoldable pub site_numbers : Site → List ℕ
site_numbers s = s.number ∷ s.clock ∷ []

-- the limits of those numbers
abbrev pub site_limits : List ℕ
site_limits = last_site ∷ last_clock ∷ []

-- what those numbers say
unfoldable pub site_of : List ℕ → Site
site_of ns = record { number = get_or ns 0 0; clock = get_or ns 1 0 }

unfoldable pub is_site : Version → List ℕ → Bool
is_site v line = has_layout (site_head v) 2 (fields line)

unfoldable pub site_said : List ℕ → Site
site_said line = site_of (values_of (fields line))

unfoldable pub site_line : Version → Site → List ℕ
site_line v s = line_of (site_head v) (site_numbers s)

-- ---- a character's line

-- `C`
abbrev pub character_head : List ℕ
character_head = 67 ∷ []

-- the number that says so many toggles, and the toggles that such a number says. Document 02, Req 06: "shown 1 becomes
-- turn 0, shown 0 becomes turn 1", and back "undoes this exactly"; refusal 2 is for any other in the first form
unfoldable pub toggle_field : Version → ℕ → ℕ
toggle_field First zero = 1
toggle_field First (suc zero) = 0
toggle_field First (suc (suc n)) = suc (suc n)
toggle_field Second n = n

-- its limit: "shown (1 or 0)", and a turn "0 to 255"
abbrev pub last_toggle_field : Version → ℕ
last_toggle_field First = 1
last_toggle_field Second = last_toggles

-- "laptop clock codepoint" shown or turn "prevlaptop prevclock nextlaptop nextclock"
unfoldable pub character_numbers : Version → Character → List ℕ
character_numbers v c =
    c.id.site ∷ c.id.clock ∷ c.code_point ∷ toggle_field v c.toggles ∷ c.previous.site ∷ c.previous.clock
    ∷ c.next.site
    ∷ c.next.clock
    ∷ []

-- the limits of those numbers
abbrev pub character_limits : Version → List ℕ
character_limits v =
    last_site ∷ last_clock ∷ last_code_point ∷ last_toggle_field v ∷ last_site ∷ last_clock ∷ last_site ∷ last_clock ∷ []

-- what those numbers say
unfoldable pub character_of : Version → List ℕ → Character
character_of v ns =
    record {
      id = identifier_at 0 ns;
      code_point = get_or ns 2 0;
      toggles = toggle_field v (get_or ns 3 0);
      previous = identifier_at 4 ns;
      next = identifier_at 6 ns;
    }

unfoldable pub is_character : List ℕ → Bool
is_character line = has_layout character_head 8 (fields line)

unfoldable pub character_said : Version → List ℕ → Character
character_said v line = character_of v (values_of (fields line))

unfoldable pub character_line : Version → Character → List ℕ
character_line v c = line_of character_head (character_numbers v c)

-- ---- a pending operation's line

-- one as it is written in the form: an `E` in the first and "a `D` there" in the second are refusal 1
unfoldable pub is_operation : Version → List ℕ → Bool
is_operation First line = as_written_first line
is_operation Second line = as_written line

-- what it says: a `D` is a toggle to 1
unfoldable pub operation_said : List ℕ → Operation
operation_said line = operation_of (fields line)

-- the first form has no turn in a waiting line
unfoldable pub saved_line : Version → Operation → List ℕ
saved_line First (insert i) = operation_line (insert i)
saved_line First (toggle t) = line_of delete_head (delete_numbers t)
saved_line Second o = operation_line o

-- ---- the whole, whatever its rows: those of a saved replica, or those of an archive

-- the first line, the lines after it that are rows, and the lines after those
unfoldable pub head_line : List ℕ → List ℕ
head_line s = get_or (lines s) 0 []

unfoldable pub row_lines : (List ℕ → Bool) → List ℕ → List (List ℕ)
row_lines is_row s = leading is_row (drop 1 (lines s))

unfoldable pub operation_lines : (List ℕ → Bool) → List ℕ → List (List ℕ)
operation_lines is_row s = trailing is_row (drop 1 (lines s))

-- the layout of each line, and their order
unfoldable pub laid_out_with : Version → (List ℕ → Bool) → List ℕ → Bool
laid_out_with v is_row s = closed s && is_site v (head_line s) && every (is_operation v) (operation_lines is_row s)

-- the bytes of a site, rows and pending operations
unfoldable pub bytes_with : {A : Type 0} → Version → (A → List ℕ) → Site → List A → List Operation → List ℕ
bytes_with v row_line site rows pending =
    site_line v site ++ concatenated row_line rows ++ concatenated (saved_line v) pending

-- ---- a saved replica

abbrev pub laid_out_as : Version → List ℕ → Bool
laid_out_as v s = laid_out_with v is_character s

-- what bytes with the layout say, however large the numbers
unfoldable pub state_as : Version → List ℕ → State
state_as v s =
    record {
      site = site_said (head_line s);
      characters = map (character_said v) (row_lines is_character s);
      pending = map operation_said (operation_lines is_character s);
    }

-- what the first form can say of a row and of a waiting line: no "turn above 1"; the second says every turn
unfoldable pub character_within : Version → Character → Bool
character_within First c = leb c.toggles 1
character_within Second c = true

unfoldable pub operation_within : Version → Operation → Bool
operation_within First (insert i) = true
operation_within First (toggle t) = leb t.toggles 1
operation_within Second o = true

-- whether a form can say a state
unfoldable pub representable : Version → State → Bool
representable v s = every (character_within v) s.characters && every (operation_within v) s.pending

-- refusal 2 lets every number, mark and neighbour pass; in the first form shown too, "1 or 0": its turn is then 0 or 1
unfoldable pub in_range_as : Version → List ℕ → Bool
in_range_as v s = every (character_within v) (state_as v s).characters && all_in_range (state_as v s)

-- the bytes of a state
abbrev pub bytes_as : Version → State → List ℕ
bytes_as v s = bytes_with v (character_line v) s.site s.characters s.pending

-- ---- document 02, Req 05: "from now on saved sheets are read and written in a second form only"

abbrev pub saved_laid_out : List ℕ → Bool
saved_laid_out s = laid_out_as Second s

abbrev pub saved_state : List ℕ → State
saved_state s = state_as Second s

abbrev pub saved_in_range : List ℕ → Bool
saved_in_range s = in_range_as Second s

abbrev pub saved_bytes : State → List ℕ
saved_bytes s = bytes_as Second s
