-- What the body of a call leaves, by the refusals over what was handed and then by the rule, is what its one list of
-- conditions says.
use Prim.Native.Nat.{ℕ}
use native.Mathlib.Omega.{arith}
use mathlib.Core.Path.{◌≡◌, refl, sym, ap, ◌∙◌}
use mathlib.Core.Bool.{Bool, true, false, ◌&&◌, ◌||◌, not, cond}
use mathlib.Core.Option.{Option, none, some}
use mathlib.Core.List.{List, [], ◌∷◌, ◌++◌, map}
use lib.Dec.{ltb}
use lib.ListN.{length, drop}
use borrow.Author.Tests.{not-false, le-ltb}
use Rattle.lists.proofs.Tests.{and_right}
use Rattle.output.specs.Output.{has_room, placed}
use Rattle.output.proofs.Laws.{placed-room}
use Rattle.woot.specs.declared.Identifier.{Identifier}
use Rattle.woot.specs.declared.Operation.{Operation}
use Rattle.woot.specs.declared.Operation.TheVariants.{Insert as insert, Toggle as toggle}
use Rattle.answers.specs.declared.Refusal.{Refusal}
use Rattle.answers.specs.declared.Refusal.TheVariants.{Output}
use Rattle.answers.specs.declared.Answer.{Answer}
use Rattle.answers.specs.declared.Answer.TheVariants.{Done, Deferred, Duplicate, Refused}
use Rattle.woot.specs.Ranges.{is_code_point, character_id, in_range}
use Rattle.woot.specs.State.{State, initial}
use Rattle.woot.specs.Form.{well_formed}
use Rattle.woot.specs.Pending.{executable}
use Rattle.answers.specs.Answers.{changes, Check, ◌⇒◌, first, decided, NoneHolds}
use Rattle.woot.specs.Sending.{answer_of}
use Rattle.bulk.specs.Pasting.{unpasted, paste_checks, paste_when, paste}
use Rattle.lines.specs.Lines.{concatenated}
use Rattle.convergence.proofs.Pasting.{paste-nothing}
use Rattle.woot.specs.Calls.{Outcome, unchanged, carry_out, defer, accept, receive_checks, receive_when, receive, insert_checks, generated_insert, send_insert, local_insert_when, local_insert, delete_checks, generated_delete, send_toggle, local_delete_when, local_delete, restore_checks, generated_toggle, local_restore_when, local_restore}
use Rattle.woot.specs.Cursor.{receive_at_checks, receive_at_when, receive_at, shift_at}
use Rattle.convergence.proofs.Steps.{All, Turned, first-none, first_some, receive-turned, receive-at-turned, Refusing, insert-turned, delete_turned, restore_turned}
use Rattle.woot.specs.Text.{text}
use Rattle.cursor.specs.Bits.{shift_bits}
use Rattle.codec.specs.Operations.{operation_line}
use Rattle.codec.specs.Calls.{said_by}
use Rattle.saved.specs.Format.{saved_laid_out, saved_in_range, saved_bytes}
use Rattle.saved.specs.Calls.{loaded_state}
use Rattle.saved.specs.declared.Version.TheVariants.{First, Second}
use Rattle.saved.specs.Conversion.{conversion}
use Rattle.saved.specs.Archive.{archiving, unarchiving}
use Rattle.effects.specs.Results.{Result, result, silent}
use Rattle.effects.specs.Effects.{Effect, quiet, turned, writing_noted, writing, writing_both, after_receiving, after_receiving_at, sending, after_sending, sending_all, after_pasting}
use Rattle.c_calls.specs.Calls.{CCall, wimtaze_empty, wimtaze_receive, wimtaze_receive_at, wimtaze_type, wimtaze_erase, wimtaze_restore, wimtaze_paste, wimtaze_text, wimtaze_counts, wimtaze_upgrade, wimtaze_downgrade, input_checks, one_line, named, answering, handed_checks, rule_checks, call_checks, Product, bytes_alone, replica_after, replica_and_line, replica_and_lines, product_of, short, delivered, effect_of}
use Rattle.c_calls.specs.Calls.{wimtaze_build, wimtaze_load, wimtaze_list, wimtaze_answer}
use Rattle.c_calls.specs.Calls.{wimtaze_archive, wimtaze_unarchive}
use Rattle.bulk.specs.Building.{left_out, built, heap_full, disagreeing, build_checks, unbuilt, build}
use Rattle.bulk.specs.Loading.{loadable, use_checks}
use Rattle.bulk.specs.Catching.{listing, answer_for}
use Rattle.listing.specs.Format.{list_bytes, list_said}
use Rattle.woot.specs.Operations.{inserts}
use Rattle.woot.specs.Ranges.{site_number}
use Rattle.lists.specs.Lists.{every}
use Rattle.heap.specs.Format.{heap_laid_out, heap_said}
use Rattle.building.specs.Calls.{built_outcome}
use Rattle.c_calls.specs.Steps.{building_here, used_here, loading_here, listing_here, answering_here}
use Rattle.c_calls.specs.Steps.{archiving_here, unarchiving_here}
use Rattle.effects.specs.Counts.{counts_of}
use Rattle.c_calls.specs.Steps.{beginning, receiving_line, receiving_line_at, inserting_here, deleting_here, restoring_here, pasting_here, showing_text, counting, converting, upgrading, downgrading}
use Rattle.c_calls.proofs.Listing.{first-behind}
use Rattle.c_calls.proofs.Blocks.{own-some}
use Rattle.std.proofs.Common.{Ok, Err}
use Rattle.woot.specs.Sent.{Sending, sends}

-- ---- what is handed is looked at first

module _ (out line : List ℕ) where
  refusals : List (Check Refusal) → List (Check Answer)
  refusals cs = map (λ q. q.holds ⇒ Refused q.answer) cs

  handed-first : (hs : List (Check Refusal)) (rs : List (Check Answer)) (last : Check Answer) (e : Effect) →
      decided (quiet out line) (first ((refusals hs ++ rs) ++ last ∷ [])) e
      ≡ decided (turned out line) (first hs) (decided (quiet out line) (first (rs ++ last ∷ [])) e)
  unfolding refusals decided turned
  handed-first [] rs last e = refl
  handed-first (h ∷ hs) rs last e = go h.holds (handed-first hs rs last e)
    where
      go : (b : Bool)
          → decided (quiet out line) (first ((refusals hs ++ rs) ++ last ∷ [])) e ≡ decided (turned out line) (first hs) (decided (quiet out line) (first (rs ++ last ∷ [])) e)
          → decided (quiet out line) (cond b (some (Refused h.answer)) (first ((refusals hs ++ rs) ++ last ∷ []))) e
          ≡ decided (turned out line) (cond b (some h.answer) (first hs)) (decided (quiet out line) (first (rs ++ last ∷ [])) e)
      go true k = refl
      go false k = k

  -- two ways to go on that agree where nothing is turned away
  goes_on_lem : (hs : List (Check Refusal)) (d e : Effect) → (first hs ≡ none → d ≡ e) → decided (turned out line) (first hs) d ≡ decided (turned out line) (first hs) e
  unfolding decided
  goes_on_lem hs d e k = go (first hs) k
    where
      go : (m : Option Refusal) → (m ≡ none → d ≡ e) → decided (turned out line) m d ≡ decided (turned out line) m e
      go none f = f refl
      go (some q) f = refl

-- what a call does once nothing that it was handed is turned away
abbrev ruled : CCall → List ℕ → List ℕ → List ℕ → Effect
ruled c bytes out line =
    decided (quiet out line) (first (rule_checks c (loaded_state bytes) ++ (short (product_of c bytes) out line ⇒ Refused Output) ∷ []))
    (delivered (product_of c bytes) out line)

by-body : (c : CCall) (bytes out line : List ℕ) (e : Effect) → (first (handed_checks c bytes) ≡ none → ruled c bytes out line ≡ e) →
    effect_of c bytes out line ≡ decided (turned out line) (first (handed_checks c bytes)) e
unfolding effect_of call_checks refusals
by-body c bytes out line e k =
    handed-first out line (handed_checks c bytes) (rule_checks c (loaded_state bytes)) (short (product_of c bytes) out line ⇒ Refused Output) (delivered (product_of c bytes) out line)
    ∙ goes_on_lem out line (handed_checks c bytes) (ruled c bytes out line) e k

-- ---- writing

-- into one output
noted : (a : Answer) (note : ℕ) (bytes out : List ℕ) →
    decided (quiet out []) (first ((ltb (length out) (length bytes) || ltb 0 0 ⇒ Refused Output) ∷ []))
    (delivered (record { result = result a (length bytes) note; output = bytes; line = [] }) out [])
    ≡ writing_noted a note bytes out
unfolding decided turned placed has_room
noted a note bytes out = go (ltb (length out) (length bytes))
  where
    go : (b : Bool)
        → decided (quiet out []) (first ((b || false ⇒ Refused Output) ∷ [])) (delivered (record { result = result a (length bytes) note; output = bytes; line = [] }) out [])
        ≡ decided (turned out []) (first ((b ⇒ Output) ∷ [])) (record { result = result a (length bytes) note; output = placed out 0 bytes; line = [] })
    go true = refl
    go false = refl

-- into both
both : (a : Answer) (bytes sent out line : List ℕ) →
    decided (quiet out line) (first ((ltb (length out) (length bytes) || ltb (length line) (length sent) ⇒ Refused Output) ∷ []))
    (delivered (record { result = result a (length bytes) (length sent); output = bytes; line = sent }) out line)
    ≡ writing_both a bytes sent out line
unfolding writing_both decided turned
both a bytes sent out line = go (ltb (length out) (length bytes) || ltb (length line) (length sent))
  where
    go : (b : Bool)
        → decided (quiet out line) (first ((b ⇒ Refused Output) ∷ [])) (delivered (record { result = result a (length bytes) (length sent); output = bytes; line = sent }) out line)
        ≡ decided (turned out line) (first ((b ⇒ Output) ∷ [])) (record { result = result a (length bytes) (length sent); output = placed out 0 bytes; line = placed line 0 sent })
    go true = refl
    go false = refl

-- ---- the calls that ask no rule

module _ (bytes out : List ℕ) where
  pub empty-body : (n : ℕ) → effect_of (wimtaze_empty n) bytes out [] ≡ beginning n out
  unfolding beginning handed_checks rule_checks product_of writing
  empty-body n = by-body (wimtaze_empty n) bytes out [] _ (λ h. noted (Done 0 0) 0 (saved_bytes (initial n)) out)

  pub text-body : effect_of wimtaze_text bytes out [] ≡ showing_text bytes out
  unfolding showing_text handed_checks rule_checks product_of writing
  text-body = by-body wimtaze_text bytes out [] _ (λ h. noted (Done 0 0) 0 (text (loaded_state bytes).characters) out)

  pub list-body : effect_of wimtaze_list bytes out [] ≡ listing_here bytes out
  unfolding listing_here handed_checks rule_checks product_of writing
  list-body =
      by-body wimtaze_list bytes out [] _ (λ h. noted (Done 0 0) 0 (list_bytes (listing (loaded_state bytes))) out)

  pub answer-body : (list : List ℕ) → effect_of (wimtaze_answer list) bytes out [] ≡ answering_here bytes list out
  unfolding answering_here rule_checks product_of writing
  answer-body list =
      by-body (wimtaze_answer list) bytes out [] _
      (λ h. noted (Done 0 0) 0 (concatenated operation_line (answer_for (loaded_state bytes) (list_said list))) out)

  pub upgrade_body : effect_of wimtaze_upgrade bytes out [] ≡ upgrading bytes out
  unfolding converting handed_checks rule_checks product_of writing
  upgrade_body = by-body wimtaze_upgrade bytes out [] _ (λ h. noted (Done 0 0) 0 (conversion First Second bytes) out)

  pub downgrade_body : effect_of wimtaze_downgrade bytes out [] ≡ downgrading bytes out
  unfolding converting handed_checks rule_checks product_of writing
  downgrade_body = by-body wimtaze_downgrade bytes out [] _ (λ h. noted (Done 0 0) 0 (conversion Second First bytes) out)

  pub archive_body : effect_of wimtaze_archive bytes out [] ≡ archiving_here bytes out
  unfolding archiving_here handed_checks rule_checks product_of writing
  archive_body = by-body wimtaze_archive bytes out [] _ (λ h. noted (Done 0 0) 0 (archiving bytes) out)

  pub unarchive_body : effect_of wimtaze_unarchive bytes out [] ≡ unarchiving_here bytes out
  unfolding unarchiving_here handed_checks rule_checks product_of writing
  unarchive_body = by-body wimtaze_unarchive bytes out [] _ (λ h. noted (Done 0 0) 0 (unarchiving bytes) out)

  pub counts_body : (effect_of wimtaze_counts bytes [] []).result ≡ counting bytes
  unfolding counting handed_checks rule_checks product_of decided turned quiet
  counts_body =
      ap (λ (e : Effect). e.result) (by-body wimtaze_counts bytes [] [] (delivered (product_of wimtaze_counts bytes) [] []) (λ h. refl))
      ∙ go (first (input_checks bytes true true))
    where
      go : (m : Option Refusal) → (decided (turned [] []) m (delivered (product_of wimtaze_counts bytes) [] [])).result ≡ decided (λ q. silent (Refused q)) m (counts_of (loaded_state bytes))
      go none = refl
      go (some q) = refl

-- ---- receiving

pub turned-still : (a : Answer) → Turned a → changes a ≡ false
unfolding changes
turned-still (Done _ _) t = elim t [ ]
turned-still Deferred t = elim t [ ]
turned-still Duplicate t = refl
turned-still (Refused q) t = refl

pub accept-changes : (s : State) (o : Operation) → changes (accept s o).answer ≡ true
unfolding accept carry_out defer changes
accept-changes s o = go (executable s.characters o) o
  where
    go : (b : Bool) (p : Operation) → changes (cond b (carry_out Done s p) (defer s p)).answer ≡ true
    go true (insert i) = refl
    go true (toggle t) = refl
    go false p = refl

module _ (s : State) (o : Operation) (note : ℕ) (out : List ℕ) where
  abbrev lacks : Outcome Answer → Bool
  lacks w = short (replica_after w note) out []

  -- by the rule's own conditions, of which each answers known or a refusal
  received-body : (w : Outcome Answer) (rs : List (Check Answer)) → All Turned rs → w ≡ decided (unchanged s) (first rs) (accept s o) →
      decided (quiet out []) (first (rs ++ (lacks w ⇒ Refused Output) ∷ [])) (delivered (replica_after w note) out [])
      ≡ cond (changes w.answer) (writing_noted w.answer note (saved_bytes w.state) out) (quiet out [] w.answer)
  unfolding decided unchanged
  received-body w rs turns e = go (first rs) refl
    where
      goal : Option Answer → Type 0
      goal m = decided (quiet out []) m (delivered (replica_after w note) out [])
          ≡ cond (changes w.answer) (writing_noted w.answer note (saved_bytes w.state) out) (quiet out [] w.answer)

      done : w ≡ accept s o → goal (cond (lacks w) (some (Refused Output)) none)
      done f = rw (ap (λ (v : Outcome Answer). changes v.answer) f ∙ accept-changes s o) (noted w.answer note (saved_bytes w.state) out)

      away : (a : Answer) → Turned a → w ≡ unchanged s a → goal (some a)
      away a t f = rw (f, turned-still a t)

      go : (m : Option Answer) → first rs ≡ m → goal (first (rs ++ (lacks w ⇒ Refused Output) ∷ []))
      go none h = rw (first-behind rs (lacks w) (Refused Output) none h) (done (rw h at e))
      go (some a) h = rw (first-behind rs (lacks w) (Refused Output) (some a) h) (away a (first_some Turned rs turns a h) (rw h at e))

-- a rule that is asked on a state in form goes by its own conditions
receive_asked : (s : State) (o : Operation) → well_formed s ≡ true → in_range o ≡ true →
    receive s o ≡ decided (unchanged s) (first (drop 2 (receive_checks true s o))) (accept s o)
unfolding receive receive_when receive_checks
receive_asked s o f r = rw (f, r)

receive-at_asked : (s : State) (o : Operation) (g : ℕ) → well_formed s ≡ true → in_range o ≡ true →
    receive_at s o g ≡ decided (unchanged s) (first (drop 2 (receive_at_checks true s o g))) (accept s o)
unfolding receive_at receive_at_when receive_at_checks
receive-at_asked s o g f r = rw (f, r)

insert_asked : (s : State) (g n : ℕ) → well_formed s ≡ true → is_code_point n ≡ true →
    local_insert s g n ≡ decided (unchanged s) (first (drop 2 (insert_checks true s g n))) (send_insert s (generated_insert s g n))
unfolding local_insert local_insert_when insert_checks
insert_asked s g n f r = rw (f, r)

delete_asked : (s : State) (p : ℕ) → well_formed s ≡ true →
    local_delete s p ≡ decided (unchanged s) (first (drop 1 (delete_checks true s p))) (send_toggle s (generated_delete s p))
unfolding local_delete local_delete_when delete_checks
delete_asked s p f = rw f

restore_asked : (s : State) (x : Identifier) → well_formed s ≡ true → character_id x ≡ true →
    local_restore s x ≡ decided (unchanged s) (first (drop 2 (restore_checks true s x))) (send_toggle s (generated_toggle s x))
unfolding local_restore local_restore_when restore_checks
restore_asked s x f r = rw (f, r)

module _ (bytes out : List ℕ) where
  abbrev said : State
  said = loaded_state bytes

  -- the state is in form, and what else was handed in range, where nothing is turned away
  passed : (laid ranged : Bool) → first (input_checks bytes laid ranged) ≡ none → (well_formed said ≡ true) × (ranged ≡ true)
  unfolding input_checks
  passed laid ranged h =
      let w = first-none (input_checks bytes laid ranged) h in
      (not-false (well_formed said) w.1.1.0, and_right (saved_in_range bytes) ranged (not-false _ w.1.0))

  pub receive-body : (l : List ℕ) → effect_of (wimtaze_receive l) bytes out [] ≡ receiving_line bytes l out
  unfolding receiving_line after_receiving writing handed_checks rule_checks product_of receive_checks
  receive-body l =
      let o : Operation = said_by l in
      by-body (wimtaze_receive l) bytes out [] _
      (λ h.
      let k = passed (one_line l) (in_range o) h in
      received-body said o 0 out (receive said o) (drop 2 (receive_checks true said o)) (receive-turned true said o).1.1 (receive_asked said o k.0 k.1))

  pub receive-at-body : (l : List ℕ) (g : ℕ) → effect_of (wimtaze_receive_at l g) bytes out [] ≡ receiving_line_at bytes l g out
  unfolding receiving_line_at after_receiving_at handed_checks rule_checks product_of receive_at_checks
  receive-at-body l g =
      let o : Operation = said_by l in
      by-body (wimtaze_receive_at l g) bytes out [] _
      (λ h.
      let k = passed (one_line l) (in_range o) h in
      received-body said o (shift_bits (shift_at said o g)) out (receive_at said o g) (drop 2 (receive_at_checks true said o g)) (receive-at-turned true said o g).1.1 (receive-at_asked said o g k.0 k.1))

-- ---- sending

first-answering : (rs : List (Check Sending)) (m : Option Sending) → first rs ≡ m → first (answering rs) ≡ elim m [ none ↦ none | some a ↦ some (answer_of a) ]
first-answering [] m e = rw (← e)
first-answering (r ∷ rs) m e = go r.holds refl (first-answering rs m)
  where
    Told : Type 0
    Told = first rs ≡ m → first (answering rs) ≡ elim m [ none ↦ none | some a ↦ some (answer_of a) ]

    go : (h : Bool) → r.holds ≡ h → Told → cond h (some (answer_of r.answer)) (first (answering rs)) ≡ elim m [ none ↦ none | some a ↦ some (answer_of a) ]
    go true f k = let q : some r.answer ≡ m = rw f at e in rw (← q)
    go false f k = k (rw f at e)

-- what is carried out is answered with its counts
carried_answer : (s : State) (o : Operation) → (n : ℕ) × (m : ℕ) × ((carry_out (sends o) s o).answer ≡ sends o n m)
unfolding carry_out
carried_answer s (insert i) = (_, _, refl)
carried_answer s (toggle t) = (1, 0, refl)

module _ (s : State) (o : Operation) (out line : List ℕ) where
  abbrev wants : Outcome Sending → Bool
  wants w = short (replica_and_line w o) out line

  sent-done : (w : Outcome Sending) (n m : ℕ) → w.answer ≡ sends o n m →
      decided (quiet out line) (cond (wants w) (some (Refused Output)) none) (delivered (replica_and_line w o) out line)
      ≡ sending w.state w.answer out line
  unfolding sending answer_of
  sent-done w n m f = rw f (both (Done n m) (saved_bytes w.state) (operation_line o) out line)

  sent-away : (w : Outcome Sending) (q : Refusal) → w.answer ≡ Err q →
      decided (quiet out line) (some (Refused q)) (delivered (replica_and_line w o) out line) ≡ sending w.state w.answer out line
  unfolding sending turned decided
  sent-away w q f = rw f

  -- by the rule's own conditions, of which each answers a refusal
  sent-body : (w : Outcome Sending) (rs : List (Check Sending)) → All Refusing rs → w ≡ decided (unchanged s) (first rs) (carry_out (sends o) s o) →
      decided (quiet out line) (first (answering rs ++ (wants w ⇒ Refused Output) ∷ [])) (delivered (replica_and_line w o) out line)
      ≡ sending w.state w.answer out line
  unfolding decided unchanged answer_of
  sent-body w rs turns e = go (first rs) refl
    where
      goal : Option Answer → Type 0
      goal m = decided (quiet out line) m (delivered (replica_and_line w o) out line) ≡ sending w.state w.answer out line

      away : (a : Sending) → Refusing a → w ≡ unchanged s a → goal (some (answer_of a))
      away (Ok x) t f = elim t [ ]
      away (Err q) t f = sent-away w q (ap (λ (v : Outcome Sending). v.answer) f)

      go : (m : Option Sending) → first rs ≡ m → goal (first (answering rs ++ (wants w ⇒ Refused Output) ∷ []))
      go none h =
          let k = carried_answer s o in
          rw (first-behind (answering rs) (wants w) (Refused Output) none (first-answering rs none h))
          (sent-done w k.0 k.1 (ap (λ (v : Outcome Sending). v.answer) (rw h at e) ∙ k.2))
      go (some a) h =
          rw (first-behind (answering rs) (wants w) (Refused Output) (some (answer_of a)) (first-answering rs (some a) h))
          (away a (first_some Refusing rs turns a h) (rw h at e))

module _ (bytes out line : List ℕ) where
  pub type_body : (g n : ℕ) → effect_of (wimtaze_type g n) bytes out line ≡ inserting_here bytes g n out line
  unfolding inserting_here after_sending handed_checks rule_checks product_of insert_checks send_insert
  type_body g n =
      let s : State = loaded_state bytes in
      by-body (wimtaze_type g n) bytes out line _
      (λ h.
      let k = passed bytes out true (is_code_point n) h in
      sent-body s (insert (generated_insert s g n)) out line (local_insert s g n) (drop 2 (insert_checks true s g n)) (insert-turned true s g n).1.1 (insert_asked s g n k.0 k.1))

  pub erase-body : (p : ℕ) → effect_of (wimtaze_erase p) bytes out line ≡ deleting_here bytes p out line
  unfolding deleting_here after_sending handed_checks rule_checks product_of delete_checks send_toggle
  erase-body p =
      let s : State = loaded_state bytes in
      by-body (wimtaze_erase p) bytes out line _
      (λ h.
      let k = passed bytes out true true h in
      sent-body s (toggle (generated_delete s p)) out line (local_delete s p) (drop 1 (delete_checks true s p)) (delete_turned true s p).1 (delete_asked s p k.0))

  pub restore_body : (n t : ℕ) → effect_of (wimtaze_restore n t) bytes out line ≡ restoring_here bytes n t out line
  unfolding restoring_here after_sending handed_checks rule_checks product_of restore_checks send_toggle
  restore_body n t =
      let s : State = loaded_state bytes in
      let x : Identifier = named n t in
      by-body (wimtaze_restore n t) bytes out line _
      (λ h.
      let k = passed bytes out true (character_id x) h in
      sent-body s (toggle (generated_toggle s x)) out line (local_restore s x) (drop 2 (restore_checks true s x)) (restore_turned true s x).1.1 (restore_asked s x k.0 k.1))

-- ---- pasting

put-nothing : (out : List ℕ) → placed out 0 [] ≡ out
put-nothing out = placed-room out 0 [] (omega arith)

sent-some : (s : State) (a : Answer) (os : List Operation) (out line : List ℕ) → (os ≡ [] → ⊥) →
    sending_all s a os out line ≡ writing_both a (saved_bytes s) (concatenated operation_line os) out line
unfolding sending_all
sent-some s a [] out line k = absurd (k refl)
sent-some s a (o ∷ os) out line k = refl

module _ (s : State) (g : ℕ) (out line : List ℕ) where
  -- where no condition of the rule holds
  pasting_done : (block : List ℕ) → NoneHolds (paste_checks (well_formed s) s g block) → let p = replica_and_lines (paste s g block) block in
      decided (quiet out line) (cond (short p out line) (some (Refused Output)) none) (delivered p out line) ≡ after_pasting (paste s g block) out line
  unfolding after_pasting sending_all paste_checks decided quiet silent unpasted
  pasting_done [] w =
      let nothing = paste-nothing s g (not-false (well_formed s) w.1.0) w.1.1.0 in
      let room = le-ltb (length out) 0 (omega arith) in
      let room-line = le-ltb (length line) 0 (omega arith) in
      rw (nothing, room, room-line, put-nothing out, put-nothing line)
  pasting_done (b ∷ block) w =
      let p = paste s g (b ∷ block) in
      both p.answer (saved_bytes p.state) (concatenated operation_line p.own) out line
      ∙ sym (sent-some p.state p.answer p.own out line (own-some s g (b ∷ block) w (λ e. let z : ◌≡◌ {A = ℕ} 0 1 = cc in omega arith)))

  pasting_away : (block : List ℕ) (a : Answer) → first (paste_checks (well_formed s) s g block) ≡ some a → (e : Effect) →
      decided (quiet out line) (some a) e ≡ after_pasting (paste s g block) out line
  unfolding paste paste_when decided unpasted after_pasting sending_all
  pasting_away block a h e = rw h

  -- by the rule's own conditions, all of which are asked
  pasted-body : (block : List ℕ) → let p = replica_and_lines (paste s g block) block in
      decided (quiet out line) (first (paste_checks (well_formed s) s g block ++ (short p out line ⇒ Refused Output) ∷ [])) (delivered p out line)
      ≡ after_pasting (paste s g block) out line
  pasted-body block = go (first rs) refl
    where
      p : Product
      p = replica_and_lines (paste s g block) block

      rs : List (Check Answer)
      rs = paste_checks (well_formed s) s g block

      go : (m : Option Answer) → first rs ≡ m →
          decided (quiet out line) (first (rs ++ (short p out line ⇒ Refused Output) ∷ [])) (delivered p out line) ≡ after_pasting (paste s g block) out line
      go none h = rw (first-behind rs (short p out line) (Refused Output) none h) (pasting_done block (first-none rs h))
      go (some a) h = rw (first-behind rs (short p out line) (Refused Output) (some a) h) (pasting_away block a h (delivered p out line))

module _ (bytes out line : List ℕ) where
  pub paste-body : (g : ℕ) (block : List ℕ) → effect_of (wimtaze_paste g block) bytes out line ≡ pasting_here bytes g block out line
  unfolding effect_of call_checks handed_checks rule_checks product_of pasting_here paste_checks decided turned
  paste-body g block = go (saved_laid_out bytes) (saved_in_range bytes) refl refl
    where
      go : (laid ranged : Bool) → saved_laid_out bytes ≡ laid → saved_in_range bytes ≡ ranged → effect_of (wimtaze_paste g block) bytes out line ≡ pasting_here bytes g block out line
      go false ranged l r = rw l
      go true false l r = rw (l, r)
      go true true l r = rw (l, r) (pasted-body (loaded_state bytes) g out line block)

-- ---- building

module _ (bytes out : List ℕ) where
  -- by the cases of its four conditions
  pub build-body : (n : ℕ) (heap : List ℕ) → effect_of (wimtaze_build n heap) bytes out [] ≡ building_here n heap out
  unfolding effect_of call_checks handed_checks rule_checks product_of building_here built_outcome build build_checks unbuilt
      decided changes writing
  build-body n heap =
      go (heap_laid_out heap) (site_number n && every in_range os) (heap_full os) (disagreeing (inserts os)) refl refl refl
      refl
    where
      os : List Operation
      os = heap_said heap

      go : (laid ranged full apart : Bool) → heap_laid_out heap ≡ laid → site_number n && every in_range os ≡ ranged →
          heap_full os ≡ full → disagreeing (inserts os) ≡ apart →
          effect_of (wimtaze_build n heap) bytes out [] ≡ building_here n heap out
      go false ranged full apart l r f a = rw l
      go true false full apart l r f a = rw (l, r)
      go true true true apart l r f a = rw (l, r, f)
      go true true false true l r f a = rw (l, r, f, a)
      go true true false false l r f a =
          rw (l, r, f, a) (noted (Done 0 (length (left_out os))) 0 (saved_bytes (built n os)) out)

-- ---- loading for use

module _ (bytes out : List ℕ) where
  -- by the one condition of its rule that is left
  load_ruled : (b : Bool) → loadable (loaded_state bytes).characters ≡ b →
      ruled wimtaze_load bytes out [] ≡ used_here (loaded_state bytes) out
  unfolding rule_checks product_of used_here use_checks decided turned writing
  load_ruled false e = rw e
  load_ruled true e = rw e (noted (Done 0 0) 0 (saved_bytes (loaded_state bytes)) out)

  pub load-body : effect_of wimtaze_load bytes out [] ≡ loading_here bytes out
  unfolding loading_here handed_checks
  load-body =
      by-body wimtaze_load bytes out [] (used_here (loaded_state bytes) out)
      (λ h. load_ruled (loadable (loaded_state bytes).characters) refl)
