-- What a call puts back is the replica that the rules leave, and what it answers is theirs.
use Prim.Native.Nat.{ℕ}
use mathlib.Core.Path.{◌≡◌, refl, ap, sym, ◌∙◌}
use mathlib.Core.Bool.{false, true≢false}
use mathlib.Core.List.{List, ◌++◌}
use lib.ListN.{length}
use Rattle.woot.specs.declared.Identifier.{Identifier}
use Rattle.woot.specs.declared.Insert.{Insert}
use Rattle.woot.specs.declared.Toggle.{Toggle}
use Rattle.woot.specs.declared.Operation.{Operation}
use Rattle.woot.specs.declared.Operation.TheVariants.{Insert as insert, Toggle as toggle}
use Rattle.answers.specs.declared.Answer.{Answer}
use Rattle.answers.specs.declared.Answer.TheVariants.{Done, Deferred, Duplicate, Refused}
use Rattle.woot.specs.declared.Replica.{Replica}
use Rattle.woot.specs.declared.Receipt.{Receipt}
use Rattle.woot.specs.declared.Generated.{Generated}
use Rattle.woot.specs.State.{State}
use Rattle.answers.specs.Answers.{changes}
use Rattle.woot.specs.Calls.{Outcome, unchanged, all_integrated, carry_out, defer}
use Rattle.woot.specs.Memory as memory
use Rattle.woot.specs.Replicas.{after_answer, after_sent, receipt, generated, received, inserted, deleted, restored}
use Rattle.memory.specs.Columns as columns
use Rattle.memory.specs.Lent.{viewed}
use Rattle.memory.proofs.Fullness.{FullArrays}
use Rattle.memory.proofs.Views.{columns-whole, flat-path, meaning-view, form_view}
use Rattle.reception.specs.declared.Decision.{Decision}
use Rattle.reception.specs.declared.Decision.TheVariants.{Answered, Defer, Place, Toggle as toggleAt}
use Rattle.reception.specs.Decisions.{outcome_of, Executed, Feasible, Judged}
use Rattle.generation.specs.Decisions.{MadeFor, InsertMade, DeleteMade, RestoreMade}
use Rattle.execution.specs.Outcomes.{Left, left_of, left_by, answer_by}
use Rattle.replica.specs.Outcomes.{Sendable, sent_by}
use Rattle.std.proofs.Common.{Ok, Err}
use Rattle.woot.specs.Sent.{Sending, sends}
use Rattle.generation.specs.Made.{Made}

-- ---- arrays that have the columns of others, and of a state

module _ (b : Replica) (full : FullArrays b.document) where
  pub whole : (s : State) → viewed b ≡ columns.stored s → b ≡ memory.stored s
  unfolding memory.stored columns.stored
  whole s e =
      λ j.
      record {
        site = ap (λ (q : columns.Replica). q.site) e j;
        document = flat-path s.characters s.pending b.document full (ap (λ (q : columns.Replica). q.document) e) j;
      }

  pub alike : (r : Replica) → FullArrays r.document → viewed b ≡ viewed r → b ≡ r
  alike r also e =
      λ j.
      record {
        site = ap (λ (q : columns.Replica). q.site) e j;
        document =
            record {
              characters =
                  (sym (columns-whole 1024 b.document.characters full.characters)
                  ∙ ap (λ (q : columns.Replica). q.document.ids ++ (q.document.previous ++ (q.document.next ++ q.document.code_points))) e
                  ∙ columns-whole 1024 r.document.characters also.characters) j;
              toggles = ap (λ (q : columns.Replica). q.document.toggles) e j;
              length = ap (λ (q : columns.Replica). q.document.length) e j;
              pending =
                  (sym (columns-whole 512 b.document.pending full.pending)
                  ∙ ap (λ (q : columns.Replica). q.document.own ++ (q.document.firstKeys ++ (q.document.secondKeys ++ q.document.values))) e
                  ∙ columns-whole 512 r.document.pending also.pending) j;
              waiting = ap (λ (q : columns.Replica). q.document.waiting) e j;
              table = ap (λ (q : columns.Replica). q.document.table) e j;
            };
      }

-- ---- receiving

-- an answer that changes nothing is given with the very replica
same_after : (r : Replica) (s : State) (a : Answer) → changes a ≡ false → r ≡ after_answer r s a
unfolding after_answer changes
same_after r s (Done n m) h = absurd (true≢false h)
same_after r s Deferred h = absurd (true≢false h)
same_after r s Duplicate h = refl
same_after r s (Refused q) h = refl

module _ (r b : Replica) (also : FullArrays r.document) (full : FullArrays b.document) where
  receipt_so : (o : Operation) (d : Decision) (n m : ℕ) → Judged (viewed r) o d
      → ◌≡◌ {A = Left} (record { replica = viewed b; integrated = n; discarded = m }) (left_by (viewed r) o d)
      → ◌≡◌ {A = Receipt} (record { answer = answer_by d n m; replica = b }) (receipt r (outcome_of (columns.meaning (viewed r)) o d))
  unfolding answer_by outcome_of left_by left_of receipt unchanged defer carry_out all_integrated after_answer Feasible
  receipt_so o (Answered a) n m h e =
      λ j. record { answer = a; replica = (alike b full r also (ap (λ (l : Left). l.replica) e) ∙ same_after r (columns.meaning (viewed r)) a h.feasible) j }
  receipt_so o Defer n m h e =
      λ j. record { answer = Deferred; replica = whole b full _ (ap (λ (l : Left). l.replica) e) j }
  receipt_so (insert i) (Place k) n m h e =
      λ j. record { answer = Done (e j).integrated (e j).discarded; replica = whole b full _ (ap (λ (l : Left). l.replica) e) j }
  receipt_so (toggle t) (Place k) n m h e =
      λ j. record { answer = Done (e j).integrated (e j).discarded; replica = whole b full _ (ap (λ (l : Left). l.replica) e) j }
  receipt_so (insert i) (toggleAt k) n m h e =
      λ j. record { answer = Done (e j).integrated (e j).discarded; replica = whole b full _ (ap (λ (l : Left). l.replica) e) j }
  receipt_so (toggle t) (toggleAt k) n m h e =
      λ j. record { answer = Done (e j).integrated (e j).discarded; replica = whole b full _ (ap (λ (l : Left). l.replica) e) j }

  pub received_so : (o : Operation) (d : Decision) (n m : ℕ) (a : Answer) → a ≡ answer_by d n m → Judged (viewed r) o d
      → ◌≡◌ {A = Left} (record { replica = viewed b; integrated = n; discarded = m }) (left_by (viewed r) o d)
      → ◌≡◌ {A = Receipt} (record { answer = a; replica = b }) (received r o)
  unfolding received
  received_so o d n m a g h e =
      ap (λ (x : Answer). record { answer = x; replica = b }) g
      ∙ receipt_so o d n m h e
      ∙ sym (ap (receipt r) (rw (form_view r, meaning-view r) h.outcome))

  -- ---- what is made here

  pub sent_so : (o : Operation) (d : Decision) (n m : ℕ) → Executed (viewed r) o d
      → ◌≡◌ {A = Left} (record { replica = viewed b; integrated = n; discarded = m }) (left_by (viewed r) o d)
      → ◌≡◌ {A = Generated} (record { answer = sends o n m; replica = b }) (generated r (carry_out (sends o) (memory.meaning r) o))
  unfolding Executed left_by left_of generated carry_out all_integrated after_sent memory.meaning columns.meaning memory.characters_in columns.characters_in memory.operations_in columns.operations_in
  sent_so o (Answered a) n m h e = absurd h
  sent_so o Defer n m h e = absurd h
  sent_so (insert i) (Place k) n m h e =
      λ j. record { answer = sends (insert i) (e j).integrated (e j).discarded; replica = whole b full _ (ap (λ (l : Left). l.replica) e) j }
  sent_so (toggle t) (Place k) n m h e = absurd h
  sent_so (insert i) (toggleAt k) n m h e = absurd h
  sent_so (toggle t) (toggleAt k) n m h e =
      λ j. record { answer = sends (toggle t) (e j).integrated (e j).discarded; replica = whole b full _ (ap (λ (l : Left). l.replica) e) j }

-- what is carried out can be
pub executed_feasible : (r : Replica) (o : Operation) (d : Decision) → Executed (viewed r) o d → Feasible (viewed r) o d
unfolding Executed Feasible
executed_feasible r o (Answered a) h = absurd h
executed_feasible r o Defer h = absurd h
executed_feasible r o (Place k) h = h
executed_feasible r o (toggleAt k) h = h

-- ---- what the calls answer

module _ (r : Replica) where
  module _ (w : Outcome Sending) where
    pub sendable : (m : Made) → MadeFor (viewed r) w m → Sendable (viewed r) m
    unfolding MadeFor Sendable
    sendable (Err q) h = tt
    sendable (Ok (o, d)) h = h.1

    made_answer : (m : Made) → MadeFor (viewed r) w m → sent_by r m ≡ generated r w
    unfolding MadeFor sent_by generated unchanged after_sent
    made_answer (Err q) h = sym (ap (generated r) h)
    made_answer (Ok (o, d)) h = rw (meaning-view r) (sym (ap (generated r) h.0))

  -- the calls on the columns of a replica
  pub insert_so : (g n : ℕ) (m : Made) → InsertMade (viewed r) g n m → sent_by r m ≡ inserted r g n
  unfolding inserted
  insert_so g n m h = made_answer _ m h ∙ rw (form_view r, meaning-view r)

  pub delete_so : (p : ℕ) (m : Made) → DeleteMade (viewed r) p m → sent_by r m ≡ deleted r p
  unfolding deleted
  delete_so p m h = made_answer _ m h ∙ rw (form_view r, meaning-view r)

  pub restore_so : (x : Identifier) (m : Made) → RestoreMade (viewed r) x m → sent_by r m ≡ restored r x
  unfolding restored
  restore_so x m h = made_answer _ m h ∙ rw (form_view r, meaning-view r)

-- a receipt whose arrays were put in one by one
pub put_back : (x : Receipt) {cs ts ps hs ls : List ℕ}
    → x.replica.document.characters ≡ cs → x.replica.document.toggles ≡ ts → x.replica.document.pending ≡ ps
    → x.replica.document.table.heads ≡ hs → x.replica.document.table.links ≡ ls
    → x
    ≡ record {
      answer = x.answer;
      replica = record {
        site = x.replica.site;
        document = record {
          characters = cs;
          toggles = ts;
          length = x.replica.document.length;
          pending = ps;
          waiting = x.replica.document.waiting;
          table = record { heads = hs; links = ls };
        };
      };
    }
put_back x a b c d e =
    λ i.
    record {
      answer = x.answer;
      replica = record {
        site = x.replica.site;
        document = record {
          characters = a i;
          toggles = b i;
          length = x.replica.document.length;
          pending = c i;
          waiting = x.replica.document.waiting;
          table = record { heads = d i; links = e i };
        };
      };
    }
