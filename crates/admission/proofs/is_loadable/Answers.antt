-- `is_loadable` meets its contract: its tests are made on the places of the neighbours.
use Prim.Native.Nat.{ℕ}
use native.Mathlib.Omega.{arith}
use borrow.Author.Rules.{rules}
use lib.ListN.{length-replicate}
use Rattle.admission.proofs.Finding.{pairs_fail, pairs-pass}
use Rattle.admission.proofs.is_loadable.Goals as goal

pub find_places-requires : goal.find_places-requires
find_places-requires c =
    record {
      tabled = c.requires.tabled;
      end_value = c.place_of-end.ensures;
      past_bound = omega arith;
      ids_in_bounds = c.requires.ids_in_bounds;
      ids_in_bounds_2 = omega (arith, c.requires.tabled.few, length-replicate {A = ℕ} 1024 0);
    }

pub find_places-requires-2 : goal.find_places-requires-2
find_places-requires-2 c =
    let full = length-replicate {A = ℕ} 1024 0 in
    record {
      tabled = c.requires.tabled;
      end_value = c.place_of-end.ensures;
      past_bound = omega arith;
      ids_in_bounds = c.requires.ids_in_bounds_2;
      ids_in_bounds_2 = omega (arith, c.requires.tabled.few, full);
    }

pub ordered-requires : goal.ordered-requires
ordered-requires c =
    record {
      ids_in_bounds = omega (arith, c.requires.tabled.few, c.find_places.ensures.places_len_unchanged, length-replicate {A = ℕ} 1024 0);
      ids_in_bounds_2 = omega (arith, c.requires.tabled.few, c.find_places-2.ensures.places_len_unchanged, length-replicate {A = ℕ} 1024 0);
    }

pub returns-then-not-ordered : goal.returns-then-not-ordered
returns-then-not-ordered c cs s small e f g =
    pairs_fail cs s small _ e _ _ _ _ f g c.find_places.ensures.placed c.find_places-2.ensures.placed
    c.ordered.ensures c.if-not-ordered.true-raw

pub acyclic-requires : goal.acyclic-requires
acyclic-requires c =
    record {
      n_le_character_slots = c.requires.tabled.few;
      n_in_bounds = omega (arith, c.requires.tabled.few, c.find_places.ensures.places_len_unchanged, length-replicate {A = ℕ} 1024 0);
      n_in_bounds_2 = omega (arith, c.requires.tabled.few, c.find_places-2.ensures.places_len_unchanged, length-replicate {A = ℕ} 1024 0);
    }

pub returns : goal.returns
returns c cs s small e f g =
    pairs-pass cs s small _ e _ _ _ _ f g c.find_places.ensures.placed c.find_places-2.ensures.placed
    c.ordered.ensures c.if-not-ordered.false-raw c.acyclic.ensures.unknotted c.acyclic.ensures.knot
