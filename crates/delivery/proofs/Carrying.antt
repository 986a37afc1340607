-- An insert carried out, and what draining leaves after it: what the calls need of it, and what they answer by it.
use Prim.Native.Nat.{ℕ, suc}
use native.Mathlib.Nat.{zero-add}
use native.Mathlib.Numerals.{one-add}
use native.Mathlib.Omega.{arith}
use mathlib.Core.Path.{◌≡◌, ap, sym, ◌∙◌}
use mathlib.Core.List.{List}
use lib.ListN.{length}
use Rattle.woot.specs.declared.Insert.{Insert}
use Rattle.woot.specs.declared.Site.{Site}
use Rattle.woot.specs.declared.Table.{Table}
use Rattle.woot.specs.declared.Operation.{Operation}
use Rattle.woot.specs.declared.Character.{Character}
use Rattle.memory.specs.Columns.{Document, Replica, characters_in, operations_in, stored}
use Rattle.woot.specs.Pending.{drain}
use Rattle.convergence.specs.Invariants.{Sound}
use Rattle.convergence.proofs.Shares.{pending-bound}
use Rattle.woot.specs.Memory.{character_slots}
use Rattle.memory.proofs.Stored.{Parts, character-count}
use Rattle.delivery.specs.Work.{Swept, Work, work_of, Workable, finished, finished_in, PlacedAs, Placed}
use Rattle.delivery.proofs.Works.{work_characters, work_pending, work_waiting, work_integrated, work_discarded, work_tidy, work_path}

module _ {cs ds : List Character} {ps : List Operation} {w : Work} (p : Parts w.document ds ps) (is : cs ≡ ds) (e : w.integrated ≡ 1) (f : w.discarded ≡ 0) (s : Sound cs ps) where
  carried_is : w ≡ work_of cs ps 1 0
  carried_is = work_path p e f ∙ ap (λ (bs : List Character). work_of bs ps 1 0) (sym is)

  -- lists that are sound, with one operation carried out so far, can be drained
  pub carried_workable : Workable w
  carried_workable =
      let few = pending-bound s in
      rw carried_is
      record {
        tidy = work_tidy cs ps 1 0 s;
        sound = rw (work_characters cs ps 1 0 s, work_pending cs ps 1 0 s) s;
        integrated-fits = rw (work_integrated cs ps 1 0, work_waiting cs ps 1 0) (omega arith);
        discarded-fits = rw (work_discarded cs ps 1 0, work_waiting cs ps 1 0) (omega arith);
      }

  -- and what draining them leaves
  pub carried_finished : finished_in w ≡ finished cs ps 1 0
  carried_finished = rw (carried_is, work_characters cs ps 1 0 s, work_pending cs ps 1 0 s, work_integrated cs ps 1 0, work_discarded cs ps 1 0)

-- the place of an insert is the same once the slots that are not in use are clear
pub placed_as : {d e : Document} {i : Insert} {k : ℕ} → Placed d i k → Swept e (characters_in d) (operations_in d)
    → e.table ≡ d.table → length e.toggles ≡ character_slots
    → PlacedAs e i k (characters_in d) (operations_in d)
placed_as {d} {e} p s t l =
    let n : e.length ≡ d.length = s.length-is ∙ character-count d in
    record {
      swept = s;
      toggles = l;
      heads = ap (λ (x : Table). length x.heads) t ∙ p.lent.slots.heads;
      links = ap (λ (x : Table). length x.links) t ∙ p.lent.slots.links;
      place = rw n p.place;
      room = rw n p.room;
      result = p.result;
      sound = p.sound;
    }

-- what it answers and leaves
module _ (cs : List Character) (ps : List Operation) {w : Work} (e : w ≡ finished cs ps 1 0) where
  pub finished_integrated : w.integrated ≡ suc (length (drain cs ps).integrated)
  unfolding finished work_of
  finished_integrated = ap (λ (v : Work). v.integrated) e ∙ one-add (length (drain cs ps).integrated)

  pub finished_discarded : w.discarded ≡ length (drain cs ps).discarded
  unfolding finished work_of
  finished_discarded = ap (λ (v : Work). v.discarded) e ∙ zero-add (length (drain cs ps).discarded)

  pub finished-stored : (t : Site) → ◌≡◌ {A = Replica} (record { site = t; document = w.document }) (stored (record { site = t; characters = (drain cs ps).characters; pending = (drain cs ps).pending }))
  unfolding finished work_of stored
  finished-stored t = ap (λ (v : Work). record { site = t; document = v.document }) e
