-- An edit of the arrays that hold two lists leaves arrays that hold the lists after the edit: a character put in or toggled,
-- an operation put behind the pending ones or taken out of them.
use Prim.Native.Nat.{ℕ, suc, ◌+◌, ◌-◌, ◌≤◌, ◌<◌, max}
use native.Mathlib.Omega.{arith}
use mathlib.Core.Path.{◌≡◌, refl, ap, ap₂, sym, ◌∙◌}
use mathlib.Core.Bool.{true}
use mathlib.Core.List.{List, [], ◌∷◌, ◌++◌, map, map-append}
use lib.ListN.{length, take, drop, set, get_or, length-map, length-append}
use lib.Seq.{get_or-take}
use Rattle.lists.specs.Lists.{distinct}
use Rattle.lists.specs.Padding.{pad}
use Rattle.slots.specs.Slots.{put_after, removed}
use Rattle.slots.proofs.Slots.{removed-length, removed-padded, removed-map, push-padded, set-padded}
use Rattle.woot.specs.declared.Insert.{Insert}
use Rattle.woot.specs.declared.Toggle.{Toggle}
use Rattle.woot.specs.declared.Operation.{Operation}
use Rattle.woot.specs.declared.Character.{Character}
use Rattle.woot.specs.declared.Table.{Table}
use Rattle.memory.specs.Columns.{Document}
use Rattle.woot.specs.Identifiers.{same}
use Rattle.woot.specs.Operations.{character, with_toggles}
use Rattle.woot.specs.Placing.{identifiers, insert_at, integrate_toggle}
use Rattle.woot.specs.Table.{key, table_of}
use Rattle.woot.specs.Memory.{own_key, first_key, second_key, value_of, toggle_counts}
use Rattle.memory.specs.Columns.{characters_in}
use Rattle.convergence.proofs.Toggling.{toggle_length}
use Rattle.std.proofs.Common.{Option, Some, None}
use Rattle.index.specs.Keys.{first_index}
use Rattle.index.proofs.Searches.{first_says}
use Rattle.characters.proofs.Editing.{inserted-length, column-put, targeted, column-toggled, column_untoggled, column-kept}
use Rattle.memory.specs.Lent.{document_as}
use Rattle.memory.proofs.Stored.{Parts, character-count}
use Rattle.delivery.specs.Work.{Swept, Targeted}
use Rattle.delivery.specs.Steps.{toggled_at}
use Rattle.delivery.proofs.Works.{used}

-- ---- columns of pending operations

module _ (f : Operation → ℕ) (ps : List Operation) (w : ℕ) (count : w ≡ length ps) {xs : List ℕ} (is : xs ≡ pad 512 0 (map f ps)) where
  column-removed : (j : ℕ) → j < w → w ≤ 512 → removed j (take w xs) ++ 0 ∷ drop w xs ≡ pad 512 0 (map f (removed j ps))
  column-removed j h few =
      rw (is, removed-map f j ps) (removed-padded 512 0 j (map f ps) w (length-map ps f ∙ sym count) few h)

  column_pushed : (o : Operation) → w < 512 → set xs w (f o) ≡ pad 512 0 (map f (ps ++ o ∷ []))
  column_pushed o h =
      rw (is, map-append f ps (o ∷ [])) (push-padded 512 0 (f o) (map f ps) w (length-map ps f ∙ sym count) h)

-- a character put in; the table is made anew, so that the one before may be any
module _ {d : Document} {cs : List Character} {ps : List Operation} (p : Swept d cs ps) where
  pub placed-parts : (k : ℕ) (i : Insert) → d.length < 1024 → {is qs ns xs ts : List ℕ} {made : Table}
      → is ≡ put_after k (key i.id) (take d.length d.ids) ++ drop (suc d.length) d.ids
      → qs ≡ put_after k (key i.previous) (take d.length d.previous) ++ drop (suc d.length) d.previous
      → ns ≡ put_after k (key i.next) (take d.length d.next) ++ drop (suc d.length) d.next
      → xs ≡ put_after k i.code_point (take d.length d.code_points) ++ drop (suc d.length) d.code_points
      → ts ≡ put_after k 0 (take d.length d.toggles) ++ drop (suc d.length) d.toggles
      → made ≡ table_of (take (d.length + 1) is)
      → Parts (document_as is qs ns xs ts (d.length + 1) d.own d.firstKeys d.secondKeys d.values d.waiting made.heads made.links) (insert_at k (character i) cs) ps
  unfolding character
  placed-parts k i room a b c e t h =
      let size = sym p.length-is in
      let ids = a ∙ column-put 1024 (λ b. key b.id) k (character i) cs d.length p.ids size room in
      let more : d.length + 1 ≡ length (insert_at k (character i) cs) = omega (arith, p.length-is, inserted-length k (character i) cs) in
      record {
        ids = ids;
        previous = b ∙ column-put 1024 (λ b. key b.previous) k (character i) cs d.length p.previous size room;
        next = c ∙ column-put 1024 (λ b. key b.next) k (character i) cs d.length p.next size room;
        points = e ∙ column-put 1024 (λ b. b.code_point) k (character i) cs d.length p.points size room;
        toggles = t ∙ column-put 1024 (λ b. b.toggles) k (character i) cs d.length p.toggles size room;
        length-is = more;
        own = p.own;
        firstKeys = p.firstKeys;
        secondKeys = p.secondKeys;
        values = p.values;
        waiting-is = p.waiting-is;
        table = h ∙ ap table_of (used 1024 (λ b. key b.id) (insert_at k (character i) cs) (d.length + 1) ids more);
      }

module _ {d : Document} {cs : List Character} {ps : List Operation} (p : Parts d cs ps) where
  -- an operation behind the others
  pub pushed_parts : (o : Operation) → d.waiting < 512 → {os fs ss vs : List ℕ}
      → os ≡ set d.own d.waiting (own_key o)
      → fs ≡ set d.firstKeys d.waiting (first_key o)
      → ss ≡ set d.secondKeys d.waiting (second_key o)
      → vs ≡ set d.values d.waiting (value_of o)
      → Parts (document_as d.ids d.previous d.next d.code_points d.toggles d.length os fs ss vs (d.waiting + 1) d.table.heads d.table.links) cs (ps ++ o ∷ [])
  pushed_parts o room a b c e =
      record {
        ids = p.ids;
        previous = p.previous;
        next = p.next;
        points = p.points;
        toggles = p.toggles;
        length-is = p.length-is;
        own = a ∙ column_pushed own_key ps d.waiting p.waiting-is p.own o room;
        firstKeys = b ∙ column_pushed first_key ps d.waiting p.waiting-is p.firstKeys o room;
        secondKeys = c ∙ column_pushed second_key ps d.waiting p.waiting-is p.secondKeys o room;
        values = e ∙ column_pushed value_of ps d.waiting p.waiting-is p.values o room;
        waiting-is = omega (arith, p.waiting-is, length-append ps (o ∷ []));
        table = p.table;
      }

  -- the operation in a slot taken out
  pub removed-parts : (j : ℕ) → j < d.waiting → d.waiting ≤ 512 → {os fs ss vs : List ℕ}
      → os ≡ removed j (take d.waiting d.own) ++ 0 ∷ drop d.waiting d.own
      → fs ≡ removed j (take d.waiting d.firstKeys) ++ 0 ∷ drop d.waiting d.firstKeys
      → ss ≡ removed j (take d.waiting d.secondKeys) ++ 0 ∷ drop d.waiting d.secondKeys
      → vs ≡ removed j (take d.waiting d.values) ++ 0 ∷ drop d.waiting d.values
      → Parts (document_as d.ids d.previous d.next d.code_points d.toggles d.length os fs ss vs (d.waiting - 1) d.table.heads d.table.links) cs (removed j ps)
  removed-parts j h few a b c e =
      record {
        ids = p.ids;
        previous = p.previous;
        next = p.next;
        points = p.points;
        toggles = p.toggles;
        length-is = p.length-is;
        own = a ∙ column-removed own_key ps d.waiting p.waiting-is p.own j h few;
        firstKeys = b ∙ column-removed first_key ps d.waiting p.waiting-is p.firstKeys j h few;
        secondKeys = c ∙ column-removed second_key ps d.waiting p.waiting-is p.secondKeys j h few;
        values = e ∙ column-removed value_of ps d.waiting p.waiting-is p.values j h few;
        waiting-is = omega (arith, p.waiting-is, removed-length j ps (omega (arith, h, p.waiting-is)));
        table = p.table;
      }

  -- other counts of toggles
  toggles-parts : (x : Toggle) {ts : List ℕ} → ts ≡ pad 1024 0 (toggle_counts (integrate_toggle cs x))
      → Parts (document_as d.ids d.previous d.next d.code_points ts d.length d.own d.firstKeys d.secondKeys d.values d.waiting d.table.heads d.table.links) (integrate_toggle cs x) ps
  unfolding with_toggles
  toggles-parts x e =
      let keyed = column-kept x (λ c. key c.id) (λ c n. refl) cs in
      record {
        ids = p.ids ∙ ap (pad 1024 0) (sym keyed);
        previous = p.previous ∙ ap (pad 1024 0) (sym (column-kept x (λ c. key c.previous) (λ c n. refl) cs));
        next = p.next ∙ ap (pad 1024 0) (sym (column-kept x (λ c. key c.next) (λ c n. refl) cs));
        points = p.points ∙ ap (pad 1024 0) (sym (column-kept x (λ c. c.code_point) (λ c n. refl) cs));
        toggles = e;
        length-is = p.length-is ∙ sym (toggle_length cs x);
        own = p.own;
        firstKeys = p.firstKeys;
        secondKeys = p.secondKeys;
        values = p.values;
        waiting-is = p.waiting-is;
        table = p.table ∙ ap table_of (sym keyed);
      }

  -- a character toggled
  pub toggled-parts : (x : Toggle) (k : ℕ) → first_index (targeted x) cs ≡ Some k → distinct same (identifiers cs) ≡ true → {ts : List ℕ}
      → ts ≡ set d.toggles k (max (get_or d.toggles k 0) x.toggles)
      → Parts (document_as d.ids d.previous d.next d.code_points ts d.length d.own d.firstKeys d.secondKeys d.values d.waiting d.table.heads d.table.links) (integrate_toggle cs x) ps
  toggled-parts x k at apart e =
      let within : k < length (toggle_counts cs) = omega (arith, (first_says _ cs at).within, length-map cs (λ c. c.toggles)) in
      toggles-parts x
      (e ∙ ap₂ (λ (xs : List ℕ) (n : ℕ). set xs k (max n x.toggles)) p.toggles (here within) ∙ set-padded 1024 0 k _ (toggle_counts cs) within ∙ ap (pad 1024 0) (sym (column-toggled x cs apart k at)))
    where
      here : k < length (toggle_counts cs) → get_or d.toggles k 0 ≡ get_or (toggle_counts cs) k 0
      here h =
          sym (get_or-take (length (toggle_counts cs)) d.toggles k 0 h)
          ∙ ap (λ (xs : List ℕ). get_or xs k 0) (used 1024 (λ (c : Character). c.toggles) cs (length (toggle_counts cs)) p.toggles (length-map cs (λ (c : Character). c.toggles)))

  -- the one that is found, if there is one
  pub found-parts : (x : Toggle) (r : Option ℕ) → first_index (targeted x) cs ≡ r → distinct same (identifiers cs) ≡ true → {ts : List ℕ}
      → ts ≡ toggled_at r x.toggles d.toggles
      → Parts (document_as d.ids d.previous d.next d.code_points ts d.length d.own d.firstKeys d.secondKeys d.values d.waiting d.table.heads d.table.links) (integrate_toggle cs x) ps
  found-parts x (Some k) at apart e = toggled-parts x k at apart e
  found-parts x None at apart e = toggles-parts x (e ∙ p.toggles ∙ ap (pad 1024 0) (sym (column_untoggled x cs (first_says _ cs at))))

-- the slot of a target is in use
pub targeted_within : (d : Document) (x : Toggle) (k : ℕ) → Targeted d x k → k < d.length
targeted_within d x k t = omega (arith, (first_says _ (characters_in d) t.place).within, character-count d)
