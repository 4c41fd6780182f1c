-- What the program's argument says. Assumes nothing.
use Rattle.std.specs.Prelude.{◌≡◌, ℕ, ◌^◌, ◌<◌, List, Some, None, Option}
use Rattle.std.specs.Borrow.{Bor}
use Rattle.std.specs.Option.{SomeIff}
use Rattle.std.specs.Str.Parse.{IsNumeral, without_leading_plus, digits_value}

-- a number in base ten below 2 ^ 32, with a plus before it or not, is the input count; without an argument it is 0
abbrev pub CountRead : Option (Bor (List ℕ)) → Option ℕ → Type 0
CountRead None r = r ≡ Some 0
CountRead (Some text) r = SomeIff r (IsNumeral 10 (without_leading_plus text.now) × (digits_value 10 (without_leading_plus text.now) < 2 ^ 32)) (digits_value 10 (without_leading_plus text.now))
