-- What lent arrays hold of a saved replica, with its clock raised and its table: the replica that the bytes say.
use Rattle.std.proofs.Common.{Ok}
use mathlib.Core.Path.{◌≡◌, refl, sym, ap, ◌∙◌}
use mathlib.Core.List.{List, [], ◌++◌, map}
use mathlib.Core.Bool.{Bool, true}
use Prim.Native.Nat.{ℕ, ◌≤◌, min}
use native.Mathlib.Omega.{arith}
use lib.ListN.{length, take, drop, length-map, length-take, take-append-drop, replicate}
use lib.Seq.{take-append-le}
use Rattle.lists.specs.Lists.{every}
use Rattle.lists.specs.Padding.{pad}
use Rattle.lists.proofs.Tests.{and_left_lem, and_right, three}
use Rattle.lists.proofs.Members.{every_append, every_member}
use Rattle.lists.proofs.Padding.{pad-length, pad-take}
use Rattle.woot.specs.declared.Site.{Site}
use Rattle.woot.specs.declared.Character.{Character}
use Rattle.woot.specs.declared.Operation.{Operation}
use Rattle.woot.specs.declared.Table.{Table}
use Rattle.woot.specs.Ranges.{site_in_range, character_in_range, in_range}
use Rattle.woot.specs.State.{State, initial}
use Rattle.woot.specs.Memory.{character_slots, pending_slots}
use Rattle.woot.specs.Form.{all_in_range, raised}
use Rattle.woot.specs.Table.{key, keys, table_of}
use Rattle.bulk.specs.Archiving.{Placed}
use Rattle.woot.specs.Memory.{in_columns, document_of, stored, previous_keys, next_keys, code_points_of, toggle_counts, own_key, first_key, second_key, value_of}
use Rattle.index.specs.Keys.{AllSmall}
use Rattle.index.proofs.Keys.{all-range-small}
use Rattle.memory.proofs.Operations.{AllKeyed, all_keyed}
use Rattle.clock.specs.Hearing.{heard_keys}
use Rattle.clock.proofs.Keys.{heard-state}
use Rattle.saved.specs.declared.Version.{Version}
use Rattle.saved.specs.declared.Rows.TheVariants.{Saved}
use Rattle.saved.specs.Format.{state_as, character_within, in_range_as}
use Rattle.saved.specs.Calls.{fitting, in_arrays, raised_in_arrays}
use Rattle.saved.specs.Rows.{rows_said, rows_answer, characters_held, pending_held, Held}
use Rattle.saved.proofs.EitherRows.{saved-site, saved-characters, saved-pending, saved-answer}
use Rattle.saved.proofs.Refusals.{read_well}
use Rattle.replica.specs.Outcomes.{replica_lent}
use Rattle.chains.proofs.Tables.{table_sized}
use Rattle.loading.specs.Filling.{read_answer, Blank}
use Rattle.loading.proofs.Forming.{answer-read}
use Rattle.loading.proofs.Storing.{no-columns}

-- ---- arrays

-- arrays of zeros hold nothing
pub no-characters : characters_held [] ≡ replicate 4096 0
unfolding characters_held
no-characters = no-columns 1024

pub no-pending : pending_held [] ≡ replicate 2048 0
unfolding pending_held
no-pending = no-columns 512

-- nor does the empty replica
pub blank : (n : ℕ) → Blank (stored (initial n))
unfolding stored initial document_of characters_held pending_held
blank n =
    let t = table_sized [] in
    record { characters = refl; toggles = refl; pending = refl; heads = t.heads; links = t.links }

-- the first column, as far as it is in use
first_used : (m n : ℕ) (ws xs ys zs : List ℕ) → length ws ≡ n → n ≤ m → take n (in_columns m ws xs ys zs) ≡ ws
unfolding in_columns
first_used m n ws xs ys zs e h =
    take-append-le n (pad m 0 ws) (pad m 0 xs ++ (pad m 0 ys ++ pad m 0 zs)) (omega (arith, pad-length m 0 ws (omega (arith, e))))
    ∙ pad-take m 0 ws n e

pub keys_used : (cs : List Character) → take (min (length cs) 1024) (characters_held (take character_slots cs)) ≡ keys (take character_slots cs)
unfolding characters_held
keys_used cs =
    let c = take character_slots cs in
    first_used 1024 (min (length cs) 1024) (keys c) (previous_keys c) (next_keys c) (code_points_of c)
    (omega (arith, length-map c (λ (b : Character). key b.id), length-take 1024 cs)) (omega arith)

pub own_used : (ps : List Operation) → take (min (length ps) 512) (pending_held (take pending_slots ps)) ≡ map own_key (take pending_slots ps)
unfolding pending_held
own_used ps =
    let p = take pending_slots ps in
    first_used 512 (min (length ps) 512) (map own_key p) (map first_key p) (map second_key p) (map value_of p)
    (omega (arith, length-map p own_key, length-take 512 ps)) (omega arith)

-- ---- a state in the arrays

every_first : {A : Type 0} (p : A → Bool) (n : ℕ) (xs : List A) → every p xs ≡ true → every p (take n xs) ≡ true
every_first p n xs e =
    and_left_lem (every p (take n xs)) (every p (drop n xs)) (sym (every_append p (take n xs) (drop n xs)) ∙ ap (every p) (take-append-drop n xs) ∙ e)

-- what the arrays hold of one in range raises its clock
module _ (s : State) (ranged : all_in_range s ≡ true) where
  parts : (site_in_range s.site ≡ true) × (every character_in_range s.characters ≡ true) × (every in_range s.pending ≡ true)
  unfolding all_in_range
  parts = three (site_in_range s.site) (every character_in_range s.characters) (every in_range s.pending) ranged

  small : AllSmall (fitting s).characters
  unfolding fitting
  small =
      all-range-small (take 1024 s.characters)
      (λ c m. every_member character_in_range (every_first character_in_range 1024 s.characters parts.1) m)

  keyed : AllKeyed (fitting s).pending
  unfolding fitting
  keyed = all_keyed (take 512 s.pending) (every_first in_range 512 s.pending parts.2)

  pub clock_raised : heard_keys (heard_keys s.site (keys (take character_slots s.characters))) (map own_key (take pending_slots s.pending))
      ≡ (raised (fitting s)).site
  unfolding fitting
  clock_raised = heard-state (fitting s) small keyed

-- ---- what was read of a saved replica

module _ (v : Version) (s : List ℕ) where
  -- the answer is that for the form
  pub answer_form : rows_answer (Saved v) s ≡ read_answer v s
  unfolding read_answer
  answer_form = saved-answer v s

  module _ (d : rows_answer (Saved v) s ≡ Ok tt) {site : Site} {places characters toggles pending : List ℕ} {n w : ℕ}
      (h : Held (rows_said (Saved v) s) site places characters toggles n pending w) {told : Site} {table : Table}
      (c : told ≡ heard_keys (heard_keys site (take (min n 1024) characters)) (take (min w 512) pending))
      (q : table ≡ table_of (take (min n 1024) characters)) where
    ranges : all_in_range (state_as v s) ≡ true
    unfolding in_range_as
    ranges =
        and_right (every (character_within v) (state_as v s).characters) (all_in_range (state_as v s))
        (read_well v s (sym (answer-read v s) ∙ sym answer_form ∙ d)).1

    characters-are : characters ≡ characters_held (take character_slots (state_as v s).characters)
    characters-are = h.characters-held ∙ ap (λ (x : List Character). characters_held (take character_slots x)) (saved-characters v s)

    pending-are : pending ≡ pending_held (take pending_slots (state_as v s).pending)
    pending-are = h.pending-held ∙ ap (λ (x : List Operation). pending_held (take pending_slots x)) (saved-pending v s)

    count-is : n ≡ length (state_as v s).characters
    count-is =
        h.rows-counted ∙ sym (length-map (rows_said (Saved v) s).rows (λ (p : Placed). p.character)) ∙ ap length (saved-characters v s)

    waiting-is : w ≡ length (state_as v s).pending
    waiting-is = h.pending-counted ∙ ap length (saved-pending v s)

    ids-are : take (min n 1024) characters ≡ keys (take character_slots (state_as v s).characters)
    ids-are = rw (characters-are, count-is) (keys_used (state_as v s).characters)

    own-are : take (min w 512) pending ≡ map own_key (take pending_slots (state_as v s).pending)
    own-are = rw (pending-are, waiting-is) (own_used (state_as v s).pending)

    site-raised : told ≡ (raised (fitting (state_as v s))).site
    site-raised =
        c ∙ (λ j. heard_keys (heard_keys ((h.site-held ∙ saved-site v s) j) (ids-are j)) (own-are j)) ∙ clock_raised (state_as v s) ranges

    pub all-raised : replica_lent told characters toggles n pending w table.heads table.links ≡ raised_in_arrays (state_as v s)
    unfolding raised_in_arrays in_arrays fitting document_of characters_held pending_held
    all-raised = λ j.
        replica_lent (site-raised j) (characters-are j)
        ((h.toggles-held ∙ ap (λ (x : List Character). pad character_slots 0 (toggle_counts (take character_slots x))) (saved-characters v s)) j)
        (count-is j) (pending-are j) (waiting-is j)
        ((q ∙ ap table_of ids-are) j).heads
        ((q ∙ ap table_of ids-are) j).links
