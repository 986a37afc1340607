-- Document 02, Req 09, "Catching up after the network drops": the list of the characters that a replica holds, and what
-- another replica answers to it.
use Rattle.std.specs.Prelude.{ℕ, zero, suc, ◌+◌, ◌*◌, ◌/◌, ◌%◌, ◌^◌, Bool, true, ◌&&◌, ◌||◌, not, cond, List, [], ◌∷◌, ◌++◌, eqb, ltb, length}
use Rattle.std.proofs.Math.Option.{Option, none, some}
use Rattle.std.specs.Int.Count.{ones}
use Rattle.lists.specs.Lists.{any, every, keep}
use Rattle.answers.specs.declared.Refusal.{Refusal}
use Rattle.answers.specs.declared.Refusal.TheVariants.{Range, Mislisted, Form}
use Rattle.answers.specs.Answers.{Check, ◌⇒◌}
use Rattle.woot.specs.declared.Identifier.{Identifier}
use Rattle.woot.specs.declared.Operation.{Operation}
use Rattle.woot.specs.declared.Character.{Character}
use Rattle.woot.specs.Limits.{capacity}
use Rattle.woot.specs.Identifiers.{same, below}
use Rattle.woot.specs.Ranges.{within, site_number}
use Rattle.woot.specs.State.{State}
use Rattle.woot.specs.Placing.{identifiers}
use Rattle.bulk.specs.Loading.{free, arrivals, turnings}

-- ---- a list

-- "`K` laptop index word": which of 64 clocks of a site, one behind another, are listed
pub record Chunk : Type 0 where
  pub site : ℕ
  pub index : ℕ
  pub word : ℕ

-- "first `H` laptop total, with its own number, then `K` laptop index word for each nonzero word"
pub record Listing : Type 0 where
  pub site : ℕ
  pub total : ℕ
  pub chunks : List Chunk

-- "Index is 0 to 1,023"
abbrev pub last_index : ℕ
last_index = 1023

-- "word is a 64-bit number, at least 1"
abbrev pub last_word : ℕ
last_word = 18446744073709551615

-- how many clocks a word stands for
abbrev pub word_bits : ℕ
word_bits = 64

-- "its bit of weight 2 to the power j"
unfoldable pub bit_of : ℕ → ℕ → Bool
bit_of j word = eqb (word / 2 ^ j % 2) 1

-- the chunk is of the 64 clocks among which that of x is
unfoldable pub speaks_of : Chunk → Identifier → Bool
speaks_of k x = eqb k.site x.site && eqb k.index (x.clock / word_bits)

-- "stands for clock 64 times index plus j"
unfoldable pub marks : Chunk → Identifier → Bool
marks k x = speaks_of k x && bit_of (x.clock % word_bits) k.word

-- one of them does
unfoldable pub listed_in : List Chunk → Identifier → Bool
listed_in ks x = any (λ k. marks k x) ks

-- "found by adding the ones in the words"
unfoldable pub ones_in : List Chunk → ℕ
ones_in [] = 0
ones_in (k ∷ ks) = ones k.word + ones_in ks

-- "by rising laptop and then rising index"
unfoldable pub precedes : Chunk → Chunk → Bool
precedes k l = ltb k.site l.site || (eqb k.site l.site && ltb k.index l.index)

-- so each comes before the one behind it
unfoldable pub in_sequence : List Chunk → Bool
in_sequence [] = true
in_sequence (k ∷ []) = true
in_sequence (k ∷ l ∷ ks) = precedes k l && in_sequence (l ∷ ks)

-- ---- the list of what is held

-- the chunk that marks x alone
unfoldable pub chunk_of : Identifier → Chunk
chunk_of x = record { site = x.site; index = x.clock / word_bits; word = 2 ^ (x.clock % word_bits) }

-- the chunk with x marked too
unfoldable pub also_marking : Identifier → Chunk → Chunk
also_marking x k =
    record {
      site = k.site;
      index = k.index;
      word = cond (marks k x) k.word (k.word + 2 ^ (x.clock % word_bits));
    }

-- the chunks with x marked too, each in its place
unfoldable pub with_marked : Identifier → List Chunk → List Chunk
with_marked x [] = chunk_of x ∷ []
with_marked x (k ∷ ks) =
    cond (speaks_of k x) (also_marking x k ∷ ks)
    (cond (precedes (chunk_of x) k) (chunk_of x ∷ k ∷ ks) (k ∷ with_marked x ks))

-- those of the identifiers; that these are all nonzero words, in sequence, and mark nothing else, and that no other
-- chunks do, is proved in `convergence`
unfoldable pub chunks_of : List Identifier → List Chunk
chunks_of [] = []
chunks_of (x ∷ xs) = with_marked x (chunks_of xs)

-- "A laptop lists the rows it holds, waiting inserts left out"
unfoldable pub listing : State → Listing
listing s =
    let ks : List Chunk = chunks_of (identifiers s.characters) in
    record { site = s.site.number; total = ones_in ks; chunks = ks }

-- ---- what is answered

-- the one with the lowest identifier
unfoldable pub lowest : Character → List Character → Character
lowest c [] = c
lowest c (d ∷ ds) = lowest (cond (below d.id c.id) d c) ds

-- the lowest of some, or, where there are none, of all that are left
unfoldable pub lowest_of : List Character → List Character → Option Character
lowest_of left (c ∷ cs) = some (lowest c cs)
lowest_of [] [] = none
lowest_of (c ∷ cs) [] = some (lowest c cs)

-- "The next is always the lowest identifier among those whose needs aren't still to be sent, or, if there is none such,
-- among all that are left"
unfoldable pub next_sent : List Character → Option Character
next_sent left = lowest_of left (keep (free left) left)

-- those that are left once c is sent
unfoldable pub without : Character → List Character → List Character
without c left = keep (λ d. not (same c.id d.id)) left

-- those that are left, in the sequence in which they are sent; their number is enough for n
unfoldable pub sequenced : ℕ → List Character → List Character
sequenced zero left = []
sequenced (suc n) left = elim (next_sent left) [ none ↦ [] | some c ↦ c ∷ sequenced n (without c left) ]

-- "its rows that aren't listed"
unfoldable pub unlisted : (Identifier → Bool) → List Character → List Character
unlisted listed cs = keep (λ c. not (listed c.id)) cs

-- the same in the sequence in which they are sent
unfoldable pub sent : (Identifier → Bool) → List Character → List Character
sent listed cs = sequenced (length (unlisted listed cs)) (unlisted listed cs)

-- "The other laptop answers with the inserts of its rows that aren't listed"; "Then, from the top, comes an `E` line
-- for every row with turn above 0, with the answering laptop as sender", listed or not
unfoldable pub operations_for : (Identifier → Bool) → State → List Operation
operations_for listed s = arrivals (sent listed s.characters) ++ turnings s.site.number s.characters

-- to a list
unfoldable pub answer_for : State → Listing → List Operation
answer_for s l = operations_for (listed_in l.chunks) s

-- ---- what is refused

-- what refusal 2 lets pass
unfoldable pub chunk_in_range : Chunk → Bool
chunk_in_range k = site_number k.site && within 0 last_index k.index && within 1 last_word k.word

-- "Total, 0 to 1,024"
unfoldable pub listing_in_range : Listing → Bool
listing_in_range l = site_number l.site && within 0 capacity l.total && every chunk_in_range l.chunks

-- "that marks clock 0", which "is never marked"
unfoldable pub marks_zero : Chunk → Bool
marks_zero k = eqb k.index 0 && bit_of 0 k.word

-- 18: "A list whose total differs from the ones counted, that marks clock 0, or whose `K` lines are out of sequence"
unfoldable pub mislisted : Listing → Bool
mislisted l =
    not (eqb l.total (ones_in l.chunks)) || any marks_zero l.chunks || not (in_sequence l.chunks)

-- listing asks for the form alone
unfoldable pub list_checks : Bool → List (Check Refusal)
list_checks formed = (not formed ⇒ Form) ∷ []

-- answering, in checking order: 18 comes "after 2"
unfoldable pub answer_checks : Bool → Listing → List (Check Refusal)
answer_checks formed l =
    (not (listing_in_range l) ⇒ Range) ∷ (mislisted l ⇒ Mislisted) ∷ (not formed ⇒ Form) ∷ []
