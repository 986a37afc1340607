-- A block read from offset to offset: the code points that were read lie in the fourth column, and with those that are left
-- they are all.
use Prim.Native.Nat.{ℕ, ◌+◌, ◌≤◌, ◌<◌}
use native.Mathlib.Omega.{arith}
use mathlib.Core.Path.{◌≡◌, refl, sym, ap, ◌∙◌, subst}
use mathlib.Core.Option.{Option, none, some}
use mathlib.Core.List.{List, [], ◌∷◌, ◌++◌, append_assoc, append-nil}
use lib.ListN.{length, take, drop, set, length-append, length-set}
use lib.Seq.{take-set-le, take-set-lt, drop-set-add}
use Rattle.slots.proofs.Slots.{push-padded}
use Rattle.decoding.specs.declared.Decoded.{Decoded}
use Rattle.decoding.specs.declared.Decoded.TheVariants.{CodePoint, End, Malformed}
use Rattle.decoding.specs.Decoding.{decoded, before}
use Rattle.decoding.specs.Offsets.{decoded_at, on_from}
use Rattle.decoding.proofs.Offsets.{decoded-on, next-within}
use Rattle.typing.specs.Steps.{Unwritten}
use Rattle.pasting.specs.Steps.{Readable}

-- ---- a store into the fourth column

-- leaves a column before it
module _ (xs : List ℕ) (j n : ℕ) (h : 1024 ≤ j) where
  kept-after : (a : ℕ) → take 1024 (drop a (set xs (a + j) n)) ≡ take 1024 (drop a xs)
  kept-after a = ap (take 1024) (drop-set-add a xs j n) ∙ take-set-le 1024 (drop a xs) j n h

more-written : {done typed : List ℕ} (i n : ℕ) → Unwritten done typed → i ≡ length done → i < 1024
    → Unwritten (done ++ n ∷ []) (set typed (3072 + i) n)
more-written {done} {typed} i n u many room =
    let one : 3072 + i ≡ 1024 + (2048 + i) = omega arith in
    let two : 3072 + i ≡ 2048 + (1024 + i) = omega arith in
    record {
      ids = take-set-le 1024 typed (3072 + i) n (omega arith) ∙ u.ids;
      previous = rw one (kept-after typed (2048 + i) n (omega arith) 1024) ∙ u.previous;
      next = rw two (kept-after typed (1024 + i) n (omega arith) 2048) ∙ u.next;
      points =
          ap (take 1024) (drop-set-add 3072 typed i n) ∙ take-set-lt 1024 (drop 3072 typed) i n room
          ∙ ap (λ (l : List ℕ). set l i n) u.points ∙ push-padded 1024 0 n done i (sym many) room;
    }

-- ---- the loop

none-left : (ns : List ℕ) → length ns ≤ 0 → [] ≡ ns
none-left [] h = refl
none-left (n ∷ ns) h = absurd (omega arith)

pub record Reading (bytes typed : List ℕ) (at i : ℕ) : Type 0 where
  pub done : List ℕ
  pub rest : List ℕ
  pub all : decoded bytes ≡ some (done ++ rest)
  pub left : decoded (drop at bytes) ≡ some rest
  pub many : i ≡ length done
  pub few : length done + length rest ≤ 1024
  pub laid : Unwritten done typed
  pub within : at ≤ length bytes
  pub size : length typed ≡ 4096

pub reading-begun : {bytes typed : List ℕ} → Readable bytes → Unwritten [] typed → length typed ≡ 4096 → Reading bytes typed 0 0
reading-begun r u size =
    record {
      done = [];
      rest = r.points;
      all = r.read;
      left = r.read;
      many = refl;
      few = omega (arith, r.few);
      laid = u;
      within = omega arith;
      size = size;
    }

-- what is read before the rest
record Before (n : ℕ) (m : Option (List ℕ)) (rest : List ℕ) : Type 0 where
  behind : List ℕ
  read : m ≡ some behind
  are : rest ≡ n ∷ behind

read-before : (n : ℕ) (m : Option (List ℕ)) (rest : List ℕ) → before n m ≡ some rest → Before n m rest
read-before n none rest e = absurd (let z : ◌≡◌ {A = ℕ} 0 1 = cc in omega arith)
read-before n (some ns) rest e = let those : n ∷ ns ≡ rest = cc in record { behind = ns; read = refl; are = sym those }

module _ {bytes typed : List ℕ} {at i : ℕ} (r : Reading bytes typed at i) where
  here : (d : Decoded) → d ≡ decoded_at bytes at → on_from bytes d ≡ some r.rest
  here d e = ap (on_from bytes) e ∙ sym (decoded-on bytes at) ∙ r.left

  module _ {n next : ℕ} (e : CodePoint n next ≡ decoded_at bytes at) where
    ahead : Before n (decoded (drop next bytes)) r.rest
    ahead = read-before n (decoded (drop next bytes)) r.rest (here (CodePoint n next) e)

    pub reading-room : i < 1024
    reading-room = omega (arith, r.few, r.many, ap (λ (l : List ℕ). length l) ahead.are)

    pub reading-again : Reading bytes (set typed (3072 + i) n) next (i + 1)
    reading-again =
        let b = ahead in
        record {
          done = r.done ++ n ∷ [];
          rest = b.behind;
          all = r.all ∙ ap some (ap (λ (l : List ℕ). r.done ++ l) b.are ∙ sym (append_assoc r.done (n ∷ []) b.behind));
          left = b.read;
          many = omega (arith, r.many, length-append r.done (n ∷ []));
          few = omega (arith, r.few, length-append r.done (n ∷ []), ap (λ (l : List ℕ). length l) b.are);
          laid = more-written i n r.laid r.many reading-room;
          within = next-within bytes at n next e r.within;
          size = length-set typed (3072 + i) n ∙ r.size;
        }

  all-read : [] ≡ r.rest → (ns : List ℕ) → decoded bytes ≡ some ns → Unwritten ns typed
  all-read nothing ns f =
      let whole : r.done ++ [] ≡ ns = let h = sym (ap (λ (l : List ℕ). some (r.done ++ l)) nothing) in let k = sym r.all ∙ f in cc in
      subst (λ (l : List ℕ). Unwritten l typed) (sym (append-nil r.done) ∙ whole) r.laid

  pub reading-malformed : {A : Type 0} → Malformed ≡ decoded_at bytes at → A
  reading-malformed e = absurd (let h = here Malformed e in let z : ◌≡◌ {A = ℕ} 0 1 = cc in omega arith)

  pub reading-ended : End ≡ decoded_at bytes at → (ns : List ℕ) → decoded bytes ≡ some ns → Unwritten ns typed
  reading-ended e = all-read (let h = here End e in cc)

  -- all slots are filled, so none is left
  pub reading-done : 1024 ≤ i → (ns : List ℕ) → decoded bytes ≡ some ns → Unwritten ns typed
  reading-done h = all-read (none-left r.rest (omega (arith, r.few, r.many)))
