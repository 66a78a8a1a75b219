-- The bytes of a study, by class. Assumes nothing.
use Rattle.std.specs.Prelude.{ℕ, Bool, not, ◌&&◌, ◌||◌, List, ◌==◌, nat_le}
use Rattle.std.specs.List.{list_all}

-- a space, a tab or a carriage return
abbrev pub is_white : ℕ → Bool
is_white b = b == 32 || (b == 9 || b == 13)

-- a byte of a word
abbrev pub is_word : ℕ → Bool
is_word b = not (is_white b)

-- what may stand outside a comment: white space, and 32 to 126
abbrev pub is_plain : ℕ → Bool
is_plain b = b == 9 || (b == 13 || (nat_le 32 b && nat_le b 126))

-- a comment may hold bytes of other encodings too
abbrev pub is_comment : ℕ → Bool
is_comment b = is_plain b || nat_le 128 b

-- a byte of a line: up to the line feed
abbrev pub is_line : ℕ → Bool
is_line b = not (b == 10)

-- a byte of a statement: up to the `#` that begins a comment
abbrev pub is_statement : ℕ → Bool
is_statement b = not (b == 35)

-- a decimal digit, `0` to `9`
abbrev pub is_digit : ℕ → Bool
is_digit b = nat_le 48 b && nat_le b 57

-- a byte of the whole leva: up to the decimal point
abbrev pub is_whole : ℕ → Bool
is_whole b = not (b == 46)

-- every element passes the test
abbrev pub all : {X : Type 0} → (X → Bool) → List X → Bool
all p xs = list_all p xs
