-- The four calls: typing, erasing, restoring and receiving. Each has its conditions in checking order; where none
-- holds, what is done stands below them.
use Rattle.std.specs.Prelude.{ℕ, suc, ◌+◌, Bool, false, ◌&&◌, ◌||◌, not, cond, List, [], ◌∷◌, ◌++◌, leb, ltb, eqb, length, get_or, Err}
use Rattle.std.proofs.Math.Option.{Option, none, some}
use Rattle.woot.specs.declared.Identifier.{Identifier}
use Rattle.woot.specs.declared.Site.{Site}
use Rattle.woot.specs.declared.Insert.{Insert}
use Rattle.woot.specs.declared.Toggle.{Toggle}
use Rattle.woot.specs.declared.Operation.{Operation}
use Rattle.woot.specs.declared.Operation.TheVariants.{Insert as insert, Toggle as toggle}
use Rattle.woot.specs.declared.Character.{Character}
use Rattle.answers.specs.declared.Refusal.TheVariants.{Range, Form, Position, NotHidden, LastToggle, Clock, Taken}
use Rattle.answers.specs.declared.Refusal.TheVariants.{Conflict, Crossed, Unplaceable, SenderFull, DocumentFull}
use Rattle.answers.specs.declared.Answer.{Answer}
use Rattle.answers.specs.declared.Answer.TheVariants.{Done, Deferred, Duplicate, Refused}
use Rattle.woot.specs.Limits.{last_clock, last_toggles, capacity, share}
use Rattle.woot.specs.Identifiers.{begin, end, same}
use Rattle.woot.specs.Operations.{sender, origin, is_visible, same_insert, same_operation, inserts}
use Rattle.woot.specs.Ranges.{is_code_point, character_id, in_range}
use Rattle.woot.specs.State.{State}
use Rattle.woot.specs.Clock.{heard_all}
use Rattle.woot.specs.Placing.{identifiers, integrate_insert, integrate_toggle}
use Rattle.woot.specs.Pending.{executable, crossed, unplaceable, pending_from, drain, Drained}
use Rattle.woot.specs.Form.{present_inserts, well_formed}
use Rattle.answers.specs.Answers.{Check, ◌⇒◌, first, decided}
use Rattle.lists.specs.Lists.{any, keep}
use Rattle.woot.specs.Sent.{Sending, sends}

-- what a call answers and leaves: the state, its own operation where that was carried out, and what was drained from
-- the pending operations or discarded on the way
pub record Outcome (A : Type 0) : Type 0 where
  pub answer : A
  pub state : State
  pub own : List Operation
  pub drained : List Operation
  pub discarded : List Operation

-- a call that changes nothing
unfoldable pub unchanged : {A : Type 0} → State → A → Outcome A
unchanged s a = record { answer = a; state = s; own = []; drained = []; discarded = [] }

-- "every operation carried out by the call including its own"
unfoldable pub all_integrated : {A : Type 0} → Outcome A → List Operation
all_integrated r = r.own ++ r.drained

-- a state with other characters
unfoldable pub with_characters : State → List Character → State
with_characters s cs = record { site = s.site; characters = cs; pending = s.pending }

-- a state with one operation more at the end of the pending ones; by Req 04 of document 02 its clock follows an insert
-- of its own number that "starts to wait"
unfoldable pub with_pending : State → Operation → State
with_pending s o =
    record {
      site = heard_all s.site (inserts (o ∷ []));
      characters = s.characters;
      pending = s.pending ++ o ∷ [];
    }

-- "after each insert carried out": the state as its pending operations are drained into it; by Req 04 of document 02
-- its clock follows each insert of its own number that "is carried out"
unfoldable pub after_drain : State → Insert → Drained → State
after_drain s i d =
    record {
      site = heard_all s.site (i ∷ inserts d.integrated);
      characters = d.characters;
      pending = d.pending;
    }

-- an insert carried out, with what it releases
unfoldable pub insert_carried : State → Insert → Drained
insert_carried s i = let cs : List Character = integrate_insert s.characters i in drain cs s.pending

-- ---- receiving

-- "known": a held or waiting insert equal in every field; a row whose turn is as large, "if the line's isn't larger the
-- answer is known"; an equal waiting erase
unfoldable pub duplicate : State → Operation → Bool
duplicate s (insert i) =
    any (λ c. same_insert i (origin c)) s.characters || any (same_operation (insert i)) s.pending
duplicate s (toggle t) =
    any (λ c. same t.target c.id && leb t.toggles c.toggles) s.characters
    || any (same_operation (toggle t)) s.pending

-- condition 7: "a received insert's identifier belongs to a row or waiting insert with other fields"
unfoldable pub conflicting : State → Operation → Bool
conflicting s (insert i) = any (λ j. same i.id j.id && not (same_insert i j)) (present_inserts s)
conflicting s (toggle t) = false

-- condition 10: "the operation must wait and its sender has 32 waiting already"
unfoldable pub sender_full : State → Operation → Bool
sender_full s o = not (executable s.characters o) && leb share (pending_from (sender o) s.pending)

-- condition 11: "it is an insert, typed or received, and rows plus waiting inserts are 1,024"
unfoldable pub document_full : State → Operation → Bool
document_full s (insert i) = leb capacity (length (present_inserts s))
document_full s (toggle t) = false

-- conditions 2 and 3 and known, which come before all others; `formed` says whether the replica is in form
abbrev pub unless_known : Bool → State → Operation → List (Check Answer) → List (Check Answer)
unless_known formed s o later =
    (not (in_range o) ⇒ Refused Range) ∷ (not formed ⇒ Refused Form) ∷ (duplicate s o ⇒ Duplicate) ∷ later

-- what an operation that is not known is turned away for
abbrev pub new_checks : State → Operation → List (Check Answer)
new_checks s o =
    (conflicting s o ⇒ Refused Conflict)
    ∷ (crossed s.characters o ⇒ Refused Crossed)
    ∷ (unplaceable s.characters o ⇒ Refused Unplaceable)
    ∷ (sender_full s o ⇒ Refused SenderFull)
    ∷ (document_full s o ⇒ Refused DocumentFull)
    ∷ []

-- in checking order
unfoldable pub receive_checks : Bool → State → Operation → List (Check Answer)
receive_checks formed s o = unless_known formed s o (new_checks s o)

-- "with all needed it is carried out"; `done` makes the answer of the counts
unfoldable pub carry_out : {A : Type 0} → (ℕ → ℕ → A) → State → Operation → Outcome A
carry_out done s (insert i) =
    let d : Drained = insert_carried s i in
    record {
      answer = done (suc (length d.integrated)) (length d.discarded);
      state = after_drain s i d;
      own = insert i ∷ [];
      drained = d.integrated;
      discarded = d.discarded;
    }
carry_out done s (toggle t) =
    let cs : List Character = integrate_toggle s.characters t in
    record {
      answer = done 1 0;
      state = with_characters s cs;
      own = toggle t ∷ [];
      drained = [];
      discarded = [];
    }

-- "else it joins the end of the waiting list"
unfoldable pub defer : State → Operation → Outcome Answer
defer s o = record { answer = Deferred; state = with_pending s o; own = []; drained = []; discarded = [] }

-- what is done where no condition holds
unfoldable pub accept : State → Operation → Outcome Answer
accept s o = cond (executable s.characters o) (carry_out Done s o) (defer s o)

unfoldable pub receive_when : Bool → State → Operation → Outcome Answer
receive_when formed s o = decided (unchanged s) (first (receive_checks formed s o)) (accept s o)

-- receiving an operation
unfoldable pub receive : State → Operation → Outcome Answer
receive s o = receive_when (well_formed s) s o

-- ---- typing

-- the identifiers of the visible characters from the top
unfoldable pub visibles : List Character → List Identifier
visibles cs = identifiers (keep is_visible cs)

-- "the laptop's number with its clock plus 1"
unfoldable pub next_identifier : Site → Identifier
next_identifier t = record { site = t.number; clock = t.clock + 1 }

-- "previous is shown row g, or the begin mark at 0; next is shown row g + 1, or the end mark"
unfoldable pub generated_insert : State → ℕ → ℕ → Insert
generated_insert s g n =
    record {
      id = next_identifier s.site;
      code_point = n;
      previous = get_or (begin ∷ visibles s.characters) g begin;
      next = get_or (visibles s.characters ++ end ∷ []) g end;
    }

-- condition 4 for typing: "the gap is above the count of shown rows"
unfoldable pub beyond_visible : State → ℕ → Bool
beyond_visible s g = ltb (length (visibles s.characters)) g

-- condition 6: "the identifier about to be typed belongs to a row or a waiting insert"; by Req 04 of document 02 typing
-- "never meets" it, and "the number stays reserved"
unfoldable pub identifier_taken : State → Bool
identifier_taken s = any (λ i. same (next_identifier s.site) i.id) (present_inserts s)

unfoldable pub insert_checks : Bool → State → ℕ → ℕ → List (Check Sending)
insert_checks formed s g n =
    (not (is_code_point n) ⇒ Err Range) ∷ (not formed ⇒ Err Form)
    ∷ (beyond_visible s g ⇒ Err Position)
    ∷ (leb last_clock s.site.clock ⇒ Err Clock)
    ∷ (identifier_taken s ⇒ Err Taken)
    ∷ (unplaceable s.characters (insert (generated_insert s g n)) ⇒ Err Unplaceable)
    ∷ (document_full s (insert (generated_insert s g n)) ⇒ Err DocumentFull)
    ∷ []

-- what is done where no condition holds: the character is put in, and what waited for it follows. Its clock is one
-- higher than the site's, which follows it: "lent to a typing call, which advances the clock by one in it"
unfoldable pub send_insert : State → Insert → Outcome Sending
send_insert s i = carry_out (sends (insert i)) s (insert i)

unfoldable pub local_insert_when : Bool → State → ℕ → ℕ → Outcome Sending
local_insert_when formed s g n =
    decided (unchanged s) (first (insert_checks formed s g n)) (send_insert s (generated_insert s g n))

-- typing the code point n at gap g
unfoldable pub local_insert : State → ℕ → ℕ → Outcome Sending
local_insert s g n = local_insert_when (well_formed s) s g n

-- ---- erasing and restoring

-- the toggles of the character with the identifier x, 0 where none has it
unfoldable pub toggles_of : List Character → Identifier → ℕ
toggles_of [] x = 0
toggles_of (c ∷ cs) x = cond (same x c.id) c.toggles (toggles_of cs x)

-- what is made here for the character x: it "raises its turn by one", and "its sender is the laptop"
unfoldable pub generated_toggle : State → Identifier → Toggle
generated_toggle s x = record { sender = s.site.number; target = x; toggles = toggles_of s.characters x + 1 }

unfoldable pub send_toggle : State → Toggle → Outcome Sending
send_toggle s t = carry_out (sends (toggle t)) s (toggle t)

-- condition 4 for erasing: "the place is 0 or above it"
unfoldable pub not_visible : State → ℕ → Bool
not_visible s p = eqb p 0 || beyond_visible s p

unfoldable pub delete_checks : Bool → State → ℕ → List (Check Sending)
delete_checks formed s p = (not formed ⇒ Err Form) ∷ (not_visible s p ⇒ Err Position) ∷ []

-- "erasing a shown row raises its turn by one": the visible character p, counted from 1
unfoldable pub generated_delete : State → ℕ → Toggle
generated_delete s p = generated_toggle s (get_or (begin ∷ visibles s.characters) p begin)

unfoldable pub local_delete_when : Bool → State → ℕ → Outcome Sending
local_delete_when formed s p =
    decided (unchanged s) (first (delete_checks formed s p)) (send_toggle s (generated_delete s p))

-- erasing the visible character p, counted from 1
unfoldable pub local_delete : State → ℕ → Outcome Sending
local_delete s p = local_delete_when (well_formed s) s p

-- condition 13, document 02, Req 05: "the row isn't held or is shown", so no hidden one has the identifier
unfoldable pub not_hidden : State → Identifier → Bool
not_hidden s x = not (any (λ c. same x c.id && not (is_visible c)) s.characters)

-- condition 14: "its turn is 255"
unfoldable pub exhausted : State → Identifier → Bool
exhausted s x = eqb (toggles_of s.characters x) last_toggles

-- "these come after 4, in that order"
unfoldable pub restore_checks : Bool → State → Identifier → List (Check Sending)
restore_checks formed s x =
    (not (character_id x) ⇒ Err Range) ∷ (not formed ⇒ Err Form)
    ∷ (not_hidden s x ⇒ Err NotHidden)
    ∷ (exhausted s x ⇒ Err LastToggle)
    ∷ []

unfoldable pub local_restore_when : Bool → State → Identifier → Outcome Sending
local_restore_when formed s x =
    decided (unchanged s) (first (restore_checks formed s x)) (send_toggle s (generated_toggle s x))

-- "restoring names an identifier and raises a hidden row's turn by one"
unfoldable pub local_restore : State → Identifier → Outcome Sending
local_restore s x = local_restore_when (well_formed s) s x
