-- Both trips between the forms through the C calls: where a way wrote its bytes, they are the conversion's, and what is
-- said of the conversion is said of them.
use Prim.Native.Nat.{ℕ, ◌≤◌}
use native.Mathlib.Omega.{arith}
use mathlib.Core.Path.{◌≡◌, refl, sym, ap, ◌∙◌}
use mathlib.Core.Bool.{Bool, true, false}
use mathlib.Core.List.{List, []}
use borrow.Author.Tests.{ltb-false, le-ltb}
use lib.Dec.{ltb}
use lib.ListN.{length}
use Rattle.woot.specs.Form.{well_formed}
use Rattle.answers.specs.Answers.{Word, done, refused as wordRefused, reply, decided}
use Rattle.saved.specs.declared.Version.{Version}
use Rattle.saved.specs.declared.Version.TheVariants.{First, Second}
use Rattle.saved.specs.Format.{laid_out_as, in_range_as, representable}
use Rattle.saved.specs.Calls.{loaded_as, raising_as}
use Rattle.saved.specs.Conversion.{conversion, conversion_refusals, Converts, Returns}
use Rattle.saved.proofs.Conversions.{down-after-up, up-after-down}
use Rattle.effects.specs.Results.{result, silent}
use Rattle.effects.specs.Effects.{Effect, quiet, turned, writing}
use Rattle.c_calls.specs.Calls.{effect_of}
use Rattle.c_calls.specs.Steps.{converting}
use Rattle.c_calls.specs.Theorems.{bytes_written, converted_from, other, Converting, TripsTell, ReturnsBytes, TripsReturn}
use Rattle.c_calls.proofs.Fitting.{front}
use Rattle.c_calls.proofs.Bridging.{converting_tells}
use Rattle.c_calls.proofs.Bodies.{upgrade_body, downgrade_body}

-- a way is the conversion from its form to the other
pub from_is : (v : Version) (bytes out : List ℕ) → converted_from v bytes out ≡ converting v (other v) bytes out
from_is First bytes out = upgrade_body bytes out
from_is Second bytes out = downgrade_body bytes out

pub trips_tell : TripsTell
trips_tell v bytes out =
    let t = converting_tells v (other v) bytes out in
    let e = from_is v bytes out in
    record {
      refusal-told = ap (λ (x : Effect). x.result.reply.refusal) e ∙ t.0;
      written-told = ap (λ (x : Effect). x.result.written) e ∙ t.1;
      output-told = ap (λ (x : Effect). x.output) e ∙ t.2;
    }

module _ (v w : Version) (bytes out : List ℕ) where
  -- where none of the conditions holds and there is room, the bytes are at the front
  converts : Converts v w bytes → length (conversion v w bytes) ≤ length out
      → ((converting v w bytes out).result.reply.word ≡ done) × (bytes_written (converting v w bytes out) ≡ conversion v w bytes)
  unfolding converting conversion_refusals decided writing result reply
  converts c h = rw (c.0, c.1, c.2, c.3, le-ltb (length out) (length (conversion v w bytes)) h) (refl, front out (conversion v w bytes) h)

  -- and where the word is done it is so
  converted-done : (converting v w bytes out).result.reply.word ≡ done → Converts v w bytes × (length (conversion v w bytes) ≤ length out)
  unfolding converting conversion_refusals decided writing turned quiet silent result reply
  converted-done e = go (laid_out_as v bytes) (in_range_as v bytes) (well_formed (loaded_as v bytes)) (representable w (loaded_as v bytes)) (ltb (length out) (length (conversion v w bytes))) refl refl refl refl refl
    where
      turned-not : {A : Type 0} → ◌≡◌ {A = Word} wordRefused done → A
      turned-not h = let z : ◌≡◌ {A = ℕ} 0 1 = cc in absurd (omega arith)

      go : (a b d r l : Bool) → laid_out_as v bytes ≡ a → in_range_as v bytes ≡ b → well_formed (loaded_as v bytes) ≡ d → representable w (loaded_as v bytes) ≡ r
          → ltb (length out) (length (conversion v w bytes)) ≡ l → Converts v w bytes × (length (conversion v w bytes) ≤ length out)
      go false b d r l p q f g k = turned-not (rw p at e)
      go true false d r l p q f g k = turned-not (rw (p, q) at e)
      go true true false r l p q f g k = turned-not (rw (p, q, f) at e)
      go true true true false l p q f g k = turned-not (rw (p, q, f, g) at e)
      go true true true true true p q f g k = turned-not (rw (p, q, f, g, k) at e)
      go true true true true false p q f g k = ((p, q, f, g), ltb-false (length out) (length (conversion v w bytes)) k)

back-after : (v : Version) → Returns v (other v)
back-after First = down-after-up
back-after Second = up-after-down

other-again : (v : Version) → other (other v) ≡ v
other-again First = refl
other-again Second = refl

pub from-done : (v : Version) (bytes out : List ℕ) → (converted_from v bytes out).result.reply.word ≡ done →
    Converts v (other v) bytes × (length (conversion v (other v) bytes) ≤ length out)
from-done v bytes out e =
    converted-done v (other v) bytes out (ap (λ (x : Effect). x.result.reply.word) (sym (from_is v bytes out)) ∙ e)

pub trips_return : TripsReturn
trips_return v bytes out back e room =
    let d = from-done v bytes out e in
    let t = back-after v bytes d.0 in
    let sent : bytes_written (converted_from v bytes out) ≡ conversion v (other v) bytes =
    ap bytes_written (from_is v bytes out) ∙ (converts v (other v) bytes out d.0 d.1).1 in
    let again = converts (other v) v (conversion v (other v) bytes) back t.1 (omega (arith, ap length t.2)) in
    let way : converted_from (other v) (conversion v (other v) bytes) back ≡ converting (other v) v (conversion v (other v) bytes) back =
    from_is (other v) (conversion v (other v) bytes) back
    ∙ ap (λ (w : Version). converting (other v) w (conversion v (other v) bytes) back) (other-again v) in
    let written = ap (λ (b : List ℕ). bytes_written (converted_from (other v) b back)) sent ∙ ap bytes_written way ∙ again.1 in
    record {
      same-state = ap (loaded_as (other v)) sent ∙ t.0;
      unraised = ap (raising_as (other v)) sent ∙ t.4;
      way_back =
          ap (λ (b : List ℕ). (converted_from (other v) b back).result.reply.word) sent
          ∙ ap (λ (x : Effect). x.result.reply.word) way
          ∙ again.0;
      line-raised = written ∙ t.2;
      same_bytes = λ n. written ∙ t.3 n;
    }
