-- `building::assemble` places the inserts on the arrays of an empty replica, counts and carries out the toggles, and
-- puts the arrays back.
use native.Mathlib.Omega.{arith}
use mathlib.Core.Path.{refl, ap, ◌∙◌}
use mathlib.Core.List.{List}
use Prim.Native.Nat.{ℕ}
use Rattle.memory.specs.Lent.{columns_as}
use Rattle.passes.proofs.Laying.{laid_parts, laid_count, laid_slots, laid_keys, laid_tabled}
use Rattle.building.proofs.Assembling.{placed-few, assembled_so, empty-size, empty-pending, empty-pending-size}
use Rattle.building.proofs.Assembling.{empty_offers, toggles-on}
use borrow.Author.Rules.{rules}
use Rattle.building.proofs.assemble.Goals as goal

pub place_all-n-requires : goal.place_all-n-requires
place_all-n-requires c =
    let e = c.empty-replica in
    record {
      characters_len = empty-size _ e.result e.ensures;
      offers = empty_offers _ e.result e.ensures c.requires;
    }

pub count_absent-absent-requires : goal.count_absent-absent-requires
count_absent-absent-requires c =
    let e = c.empty-replica in
    let a = c.requires in
    let p = c.place_all-n in
    let l = p.ensures (empty_offers _ e.result e.ensures a) in
    record {
      n_le_character_slots = laid_count l;
      characters_len = p.auto.characters ∙ empty-size _ e.result e.ensures;
      tabled = laid_tabled l;
      changes_len = a.among.held.size;
      m_le_character_slots = omega (arith, a.among.many, a.among.held.few);
    }

pub toggle_all-requires : goal.toggle_all-requires
toggle_all-requires c =
    let e = c.empty-replica in
    let a = c.requires in
    let p = c.place_all-n in
    let l = p.ensures (empty_offers _ e.result e.ensures a) in
    record {
      characters_len = p.auto.characters ∙ empty-size _ e.result e.ensures;
      toggles = toggles-on l a.among;
    }

pub overflow_sub-answer : goal.overflow_sub-answer
overflow_sub-answer c =
    let e = c.empty-replica in
    let a = c.requires in
    let l = c.place_all-n.ensures (empty_offers _ e.result e.ensures a) in
    omega (arith, (laid_parts l).length-is, placed-few a.inserts, a.many)

pub overflow_add-answer : goal.overflow_add-answer
overflow_add-answer c =
    let a = c.requires in
    omega (arith, a.many, a.held.few, a.among.many, a.among.held.few, c.count_absent-absent.ensures.upper_bound)

pub returns : goal.returns
returns c a =
    let e = c.empty-replica in
    let p = c.place_all-n in
    let l = p.ensures (empty_offers _ e.result e.ensures a) in
    let t = c.toggle_all in
    let f = t.ensures (toggles-on l a.among) in
    let s = laid_slots f in
    let n = c.count_absent-absent.ensures.value _ _ (laid_keys l) l.small a.among in
    assembled_so c.args.site a.inserts a.toggles _ _ refl
    (record {
      characters = p.auto.characters ∙ empty-size _ e.result e.ensures;
      toggles = s.toggles;
      pending = empty-pending-size _ e.result e.ensures;
      heads = s.heads;
      links = s.links;
    })
    (ap (λ (q : List ℕ). columns_as p.new.characters t.new.toggles p.result q 0 p.new.table.heads p.new.table.links) (empty-pending _ e.result e.ensures) ∙ f.tidy)
    _ (omega (arith, n, (laid_parts l).length-is, a.many))
