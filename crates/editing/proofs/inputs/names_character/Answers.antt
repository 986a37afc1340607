-- `editing::inputs::names_character` meets its contract: each test is an end of one of the two ranges.
use Prim.Native.Nat.{ℕ, ◌≤◌, ◌<◌}
use native.Mathlib.Omega.{arith}
use mathlib.Core.Path.{◌≡◌, refl, sym}
use mathlib.Core.Bool.{Bool, true, false, ◌&&◌}
use lib.Dec.{leb}
use borrow.Author.Tests.{le-leb, lt-leb}
use Rattle.woot.specs.Limits.{last_site, last_clock}
use Rattle.woot.specs.Ranges.{within, site_number, character_id}
use Rattle.c_calls.specs.Calls.{named}
use Rattle.ranges.proofs.Laws.{within-under, within-above}
use Rattle.editing.proofs.inputs.names_character.Goals as goal

reading : (site clock : ℕ) {a b : Bool} → within 1 last_site site ≡ a → within 1 last_clock clock ≡ b → character_id (named site clock) ≡ a && b
unfolding character_id site_number
reading site clock p q = λ k. p k && q k

inside : (site : ℕ) → 1 ≤ site → site ≤ 16 → within 1 last_site site ≡ true
unfolding within
inside site h k = rw (le-leb 1 site h, le-leb site 16 k)

above : (clock : ℕ) → 1 ≤ clock → within 1 last_clock clock ≡ leb clock 65535
unfolding within
above clock h = rw (le-leb 1 clock h)

pub returns-then-site-lt1 : goal.returns-then-site-lt1
returns-then-site-lt1 c = sym (reading _ _ (within-under 1 last_site _ c.if-site-lt1.true) refl)

pub returns-then-site-gt16 : goal.returns-then-site-gt16
returns-then-site-gt16 c = sym (reading _ _ (within-above 1 last_site _ c.if-site-gt16.true) refl)

pub returns-then-clock-lt1 : goal.returns-then-clock-lt1
returns-then-clock-lt1 c =
    sym (reading _ _ (inside _ c.if-site-lt1.false c.if-site-gt16.false) (within-under 1 last_clock _ c.if-clock-lt1.true))

pub returns : goal.returns
returns c =
    sym (reading _ _ (inside _ c.if-site-lt1.false c.if-site-gt16.false) (above _ c.if-clock-lt1.false))
