-- For the proofs of the code alone: what a call that changes one row leaves of the lines that it read.
use Rattle.std.specs.Prelude.{ℕ, ◌+◌, ◌<◌, ◌≤◌, ◌≡◌, List, [], ◌∷◌, ◌++◌, length, take, drop, get_or}
use Rattle.lines.specs.Lines.{concatenated}
use Rattle.woot.specs.declared.Character.{Character}
use Rattle.woot.specs.State.{State}
use Rattle.saved.specs.declared.Version.TheVariants.{Second}
use Rattle.saved.specs.Format.{character_line}
use Rattle.splicing.specs.declared.Change.{Change}
use Rattle.splicing.specs.declared.Change.TheVariants.{Any, Inserted, Altered}

-- a line between two runs of bytes
abbrev pub between : List ℕ → List ℕ → List ℕ → List ℕ
between front line back = front ++ (line ++ back)

-- the bytes of rows
abbrev pub row_bytes : List Character → List ℕ
row_bytes cs = concatenated (character_line Second) cs

-- bytes that are those of rows, and the offsets of their lines
pub record Spelled (body starts : List ℕ) (old : List Character) : Type 0 where
  pub bytes : body ≡ row_bytes old
  pub slots : length old ≤ length starts
  pub begins : (i : ℕ) → i < length old → get_or starts i 0 ≡ length (row_bytes (take i old))

-- nothing waits in a state, and its rows are those but for the one at k, in the place of none of them or of one
pub record Spliced (body starts : List ℕ) (k skip : ℕ) (s : State) : Type 0 where
  pub old : List Character
  pub spelled : Spelled body starts old
  pub place : k + skip ≤ length old
  pub row : Character
  pub result : s.characters ≡ take k old ++ row ∷ drop (k + skip) old
  pub still : s.pending ≡ []

-- what is known of a state by the change
unfoldable pub Copied : Change → List ℕ → List ℕ → State → Type 0
Copied Any body starts s = ◌≡◌ {A = ℕ} 0 0
Copied (Inserted k) body starts s = Spliced body starts k 0 s
Copied (Altered k) body starts s = Spliced body starts k 1 s
