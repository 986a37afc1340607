-- `decimal::digit_at` meets its contract: a byte that is a digit is the first of some, and past the end there is none.
use Rattle.std.proofs.Common.{◌≡◌, ℕ, ◌-◌, refl, sym, ap, ◌∙◌}
use Rattle.std.specs.Char.{is_ascii_digit}
use Rattle.decimal.specs.Numeral.{is_digit}
use Rattle.decimal.proofs.Scanning.{no_digit}
use Rattle.decimal.proofs.digit_at.Goals as goal

-- the library's test
told : (b : ℕ) → is_digit b ≡ is_ascii_digit b
unfolding is_digit
told b = refl

pub returns-then-not-is_ascii_digit : goal.returns-then-not-is_ascii_digit
returns-then-not-is_ascii_digit c =
    let byte = c.in_ok-byte.ensures.lookup.3 in
    no_digit _ _ byte.0 (ap is_digit (sym (byte.1 0)) ∙ told _ ∙ sym c.is_ascii_digit.ensures.value ∙ c.if-not-is_ascii_digit.true)

pub returns : goal.returns
returns c =
    let byte = c.in_ok-byte.ensures.lookup.3 in
    record {
      there = byte.0;
      digit = ap is_digit (sym (byte.1 0)) ∙ told _ ∙ sym c.is_ascii_digit.ensures.value ∙ c.if-not-is_ascii_digit.false;
      is = c.from.ensures ∙ ap (λ b. b - 48) (byte.1 0);
    }
