-- A copy holds a state of the rules, as it is stored or as it is saved, and says that state; a call on the copy leaves
-- one that holds what the rules make of it.
use mathlib.Core.Path.{◌≡◌, refl}
use mathlib.Core.Bool.{true, false≢true}
use mathlib.Core.List.{List, []}
use Rattle.woot.specs.declared.Replica.{Replica}
use Rattle.answers.specs.declared.Answer.{Answer}
use Rattle.answers.specs.declared.Answer.TheVariants.{Done, Deferred, Duplicate, Refused}
use Rattle.woot.specs.State.{State, initial}
use Rattle.woot.specs.Memory.{stored, meaning, replica_well_formed}
use Rattle.woot.specs.Form.{present_inserts, well_formed, raised}
use Rattle.answers.specs.Answers.{Word, done, waits, known, refused, changes, reply}
use Rattle.woot.specs.Calls.{Outcome, unchanged}
use Rattle.woot.specs.Histories.{outcome, run, Call as RuleCall}
use Rattle.convergence.proofs.Forms.{reformed}
use Rattle.convergence.proofs.Steps.{turned, adds, raises, defers, step, Step as RuleStep}
use Rattle.convergence.proofs.Kept.{form_kept}
use Rattle.lines.specs.Fields.{values_of}
use Rattle.replica.proofs.Runs.{Within, meaning-stored, form_stored}
use Rattle.saved.specs.Format.{site_of, site_said, head_line, row_lines, operation_lines, state_as, saved_bytes}
use Rattle.saved.specs.Calls.{loaded_as}
use Rattle.saved.specs.declared.Version.TheVariants.{Second}
use Rattle.saved.proofs.Trips.{says_back, second-says, saved_loads}
use Rattle.consistency.specs.Copies.{Copy, in_memory, as_bytes, Call, state_of, works_on, when_made, step_on}

-- the replica means the state, and is in form exactly when that is; its table, and what lies behind its lists, are free
pub record Means (r : Replica) (s : State) : Type 0 where
  pub meant : meaning r ≡ s
  pub form : replica_well_formed r ≡ well_formed s

pub stored-means : (s : State) → Within s → Means (stored s) s
stored-means s w = record { meant = meaning-stored s w; form = form_stored s w }

-- the copy holds the state: in memory, saved, or as no bytes, where a call for C refused to begin one
pub data Holds : State → Copy → Type 0 where
  memory : (r : Replica) (s : State) → Means r s → Holds s (in_memory r)
  bytes : (s : State) → well_formed s ≡ true → Holds s (as_bytes (saved_bytes s))
  nothing : Holds (initial 0) (as_bytes [])

pub stored-held : (s : State) → Within s → Holds s (in_memory (stored s))
stored-held s w = memory (stored s) s (stored-means s w)

-- a call on a copy that holds s leaves one that holds what the calls of the rules make of s which it made
abbrev pub Steps : State → Copy → Call → Type 0
Steps s p c = Holds (run s (step_on p c).rules) (step_on p c).copy

pub says : {s : State} {p : Copy} → Holds s p → state_of p ≡ s
unfolding state_of initial state_as site_said site_of values_of head_line row_lines operation_lines
says (memory r s m) = m.meant
says (bytes s h) = says_back Second s h (second-says s)
says nothing = refl

-- a call works with the state that the copy holds
pub works : {s : State} {p : Copy} → Holds s p → works_on p ≡ s
unfolding works_on loaded_as raised initial present_inserts state_as site_said site_of values_of head_line row_lines operation_lines
works (memory r s m) = m.meant
works (bytes s h) = saved_loads s h
works nothing = refl

-- ---- what an answer tells of the call

-- the calls of the rules that a call with an answer made
pub made_changed : (a : Answer) (rs : List RuleCall) → changes a ≡ true → when_made (reply a).word rs ≡ rs
unfolding changes when_made reply
made_changed (Done n m) rs h = refl
made_changed Deferred rs h = refl
made_changed Duplicate rs h = absurd (false≢true h)
made_changed (Refused q) rs h = absurd (false≢true h)

-- none, whatever the word, where there are none to make
pub made_none : (w : Word) → when_made w [] ≡ []
unfolding when_made
made_none done = refl
made_none waits = refl
made_none known = refl
made_none refused = refl

-- only a state in form is changed
changes-formed : (s : State) {r : Outcome Answer} → RuleStep s r → changes r.answer ≡ true → well_formed s ≡ true
unfolding changes unchanged
changes-formed s (turned (Done _ _) w) h = elim w [ ]
changes-formed s (turned Deferred w) h = elim w [ ]
changes-formed s (turned Duplicate w) h = absurd (false≢true h)
changes-formed s (turned (Refused q) w) h = absurd (false≢true h)
changes-formed s (adds i a) h = reformed s a.formed
changes-formed s (raises d a) h = reformed s a.formed
changes-formed s (defers o a) h = reformed s a.formed

pub changed_formed : (s : State) (c : RuleCall) → changes (outcome s c).answer ≡ true →
    well_formed (outcome s c).state ≡ true
changed_formed s c h = form_kept s c (changes-formed s (step s c) h)
