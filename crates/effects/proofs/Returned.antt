-- A replica that a call returned by value has a slot for all that it holds, and what it leaves goes by its answer.
use mathlib.Core.Path.{◌≡◌, ap, sym, ◌∙◌, subst}
use mathlib.Core.Bool.{true}
use mathlib.Core.List.{List, map}
use Prim.Native.Nat.{ℕ, ◌≤◌}
use native.Mathlib.Omega.{arith}
use lib.ListN.{length, length-map}
use mir.Val.{Val}
use denote.Laws.{Is}
use Rattle.lists.proofs.Padding.{pad-length}
use Rattle.woot.specs.declared.Operation.{Operation}
use Rattle.woot.specs.declared.Character.{Character}
use Rattle.woot.specs.declared.ReceiptAt.{ReceiptAt}
use Rattle.woot.specs.State.{State}
use Rattle.woot.specs.Table.{key, keys}
use Rattle.answers.specs.declared.Refusal.{Refusal}
use Rattle.answers.specs.declared.Answer.TheVariants.{Done}
use Rattle.answers.specs.Answers.{changes}
use Rattle.woot.specs.declared.Generated.{Generated}
use Rattle.woot.specs.contracts.Generated as generated
use Rattle.memory.proofs.Fullness.{FullArrays, full-replica}
use Rattle.woot.specs.declared.Replica.{Replica}
use Rattle.woot.specs.Memory.{previous_keys, next_keys, code_points_of, toggle_counts, own_key, first_key, second_key, value_of}
use Rattle.woot.specs.Memory.{document_of, stored}
use Rattle.woot.specs.Replicas.{received_at}
use Rattle.chains.proofs.Tables.{table_sized}
use Rattle.replica.proofs.Runs.{Within, formed-within}
use Rattle.cursor.proofs.Receiving.{left-formed, left-stored}
use Rattle.codec.specs.Operations.{operation_line}
use Rattle.saved.specs.Calls.{bytes_of}
use Rattle.effects.specs.Effects.{turned, writing_both}
use Rattle.effects.specs.Steps.{sent_left, generated_left}
use Rattle.effects.proofs.Saving.{columns-length}
use Rattle.std.proofs.Common.{Err}
use Rattle.woot.specs.Sent.{sends}

-- the replica that a call returns has its slots
pub full-generated : (g : Generated) {vs : List Val} → Is generated.the_row g vs → FullArrays g.replica.document
full-generated g i = full-replica i.1.1.1.0

-- so has a state that is stored
stored-full : (s : State) → Within s → FullArrays (stored s).document
unfolding stored document_of
stored-full s w =
    let cs = s.characters in
    let ps = s.pending in
    let row : (f : Character → ℕ) → length (map f cs) ≤ 1024 = λ f. omega (arith, length-map cs f, w.characters-fit) in
    let waiting : (f : Operation → ℕ) → length (map f ps) ≤ 512 = λ f. omega (arith, length-map ps f, w.pending-fit) in
    let t = table_sized (keys cs) in
    record {
      characters = columns-length 1024 (keys cs) (previous_keys cs) (next_keys cs) (code_points_of cs) (row (λ c. key c.id)) (row (λ c. key c.previous)) (row (λ c. key c.next)) (row (λ c. c.code_point));
      toggles = pad-length 1024 0 (toggle_counts cs) (row (λ c. c.toggles));
      pending = columns-length 512 (map own_key ps) (map first_key ps) (map second_key ps) (map value_of ps) (waiting own_key) (waiting first_key) (waiting second_key) (waiting value_of);
      heads = t.heads;
      links = t.links;
    }

-- and what receiving with a cursor returns where it changed something
module _ (r : Replica) (o : Operation) (g : ℕ) {x : ReceiptAt} (e : x ≡ received_at r o g) (h : changes x.answer ≡ true) where
  told : changes (received_at r o g).answer ≡ true
  told = sym (ap (λ (y : ReceiptAt). changes y.answer) e) ∙ h

  pub full-received-at : FullArrays x.replica.document
  full-received-at =
      subst (λ (y : Replica). FullArrays y.document) (sym (ap (λ (y : ReceiptAt). y.replica) e ∙ left-stored r o g told))
      (stored-full _ (formed-within _ (left-formed r o g told)))

-- ---- what a call that sends leaves

module _ (g : Generated) (out line : List ℕ) where
  pub not-sent : {q : Refusal} → g.answer ≡ Err q → generated_left g out line ≡ turned out line q
  unfolding generated_left sent_left
  not-sent h = rw h

  pub sent-both : {o : Operation} {n m : ℕ} → g.answer ≡ sends o n m →
      generated_left g out line ≡ writing_both (Done n m) (bytes_of g.replica) (operation_line o) out line
  unfolding generated_left sent_left
  sent-both h = rw h
