-- Demand 3: histories with the same inserts give the same list of origins, since both lists have grown, and those with the
-- same largest toggles the same toggles.
use mathlib.Core.Path.{◌≡◌, refl, ap, sym, ◌∙◌}
use mathlib.Core.List.Memᴰ
use mathlib.Core.List.{List, [], ◌∷◌, map, Memᴰ, nil≢cons, head-eq_of_cons-eq, tail-eq_of_cons-eq}
use Rattle.woot.specs.declared.Identifier.{Identifier}
use Rattle.woot.specs.declared.Insert.{Insert}
use Rattle.woot.specs.declared.Character.{Character}
use Rattle.woot.specs.Operations.{origin}
use Rattle.woot.specs.Text.{text}
use Rattle.woot.specs.Histories.{Call, largest_in, SameInserted, SameToggled}
use Rattle.bulk.specs.Beginnings.{Begun, characters_after, history_of}
use Rattle.convergence.specs.Theorems.{Agreement, Convergence}
use Rattle.convergence.proofs.Agreement.{agreement}
use Rattle.convergence.proofs.Listing.{same-list}
use Rattle.convergence.proofs.Grown.{grown-throughout}
use Rattle.convergence.proofs.Histories.{held-are-inserted, toggles-are_largest}

pub characters-agree : Agreement
characters-agree a b cs ds = agreement (characters_after a cs) (characters_after b ds) (grown-throughout a cs) (grown-throughout b ds)

-- two characters of one origin, toggled as often, are the same
character-path : (c d : Character) → origin c ≡ origin d → c.toggles ≡ d.toggles → c ≡ d
unfolding origin
character-path c d e v = λ i. record { id = (e i).id; code_point = (e i).code_point; toggles = v i; previous = (e i).previous; next = (e i).next }

-- two lists of the same origins, toggled as often, are the same
characters-path : (cs ds : List Character) → map origin cs ≡ map origin ds → ((c d : Character) → Memᴰ c cs → Memᴰ d ds → origin c ≡ origin d → c.toggles ≡ d.toggles) → cs ≡ ds
characters-path [] [] e f = refl
characters-path [] (d ∷ ds) e f = absurd (nil≢cons e)
characters-path (c ∷ cs) [] e f = absurd (nil≢cons (sym e))
characters-path (c ∷ cs) (d ∷ ds) e f =
    let h : origin c ≡ origin d = head-eq_of_cons-eq e in
    let k : c ≡ d = character-path c d h (f c d (Memᴰ.head refl) (Memᴰ.head refl) h) in
    let l : cs ≡ ds = characters-path cs ds (tail-eq_of_cons-eq e) (λ a b m n. f a b (Memᴰ.tail m) (Memᴰ.tail n)) in
    λ i. k i ∷ l i

same-characters : (a b : Begun) (cs ds : List Call) → SameInserted (history_of a cs) (history_of b ds) → SameToggled (history_of a cs) (history_of b ds) → characters_after a cs ≡ characters_after b ds
unfolding origin
same-characters a b cs ds inserted toggled =
    characters-path (characters_after a cs) (characters_after b ds)
    (same-list (characters_after a cs) (characters_after b ds) (grown-throughout a cs) (grown-throughout b ds) (λ i. (λ h. (held-are-inserted b ds i).1 ((inserted i).0 ((held-are-inserted a cs i).0 h)), λ h. (held-are-inserted a cs i).1 ((inserted i).1 ((held-are-inserted b ds i).0 h)))))
    (λ c d p q e.
    toggles-are_largest a cs c p
    ∙ toggled (origin c) ((held-are-inserted a cs (origin c)).0 (Memᴰ.map origin p))
    ∙ ap (λ (i : Insert). largest_in i.id (history_of b ds)) e
    ∙ sym (toggles-are_largest b ds d q))

pub convergence : Convergence
convergence a b cs ds inserted toggled =
    let e = same-characters a b cs ds inserted toggled in
    (e, ap text e)
