-- The words of a line. Assumes nothing.
use Rattle.std.specs.Prelude.{ℕ, cond, List, [], ◌∷◌, ◌++◌, Some, None, Ok, Err, codes, Option, Result}
use Rattle.std.specs.Borrow.{Bor}
use Rattle.std.specs.Str.{bytes_eq}
use Rattle.words.specs.declared.sides.Side.{Side}
use Rattle.words.specs.declared.sides.Side.TheVariants.{Buy, Sell}
use Rattle.words.specs.declared.terms.Kind.{Kind}
use Rattle.words.specs.declared.terms.Kind.TheVariants.{Limit, Market, MarketToLimit}
use Rattle.study.specs.declared.faults.Reason.{Reason}
use Rattle.study.specs.declared.faults.Reason.TheVariants.{UnknownWord, WordsAfter}
use Rattle.study.specs.Bytes.{is_white}

-- a word ends: it goes before the others, unless it is empty
abbrev pub closed : List ℕ → List (List ℕ) → List (List ℕ)
closed [] ws = ws
closed (b ∷ bs) ws = (b ∷ bs) ∷ ws

-- the words of what is left of a line, after the part w of a word
abbrev pub words_after : List ℕ → List ℕ → List (List ℕ)
words_after w [] = closed w []
words_after w (b ∷ bs) = cond (is_white b) (closed w (words_after [] bs)) (words_after (w ++ (b ∷ [])) bs)

-- the words of a line, between white space
abbrev pub words_of : List ℕ → List (List ℕ)
words_of l = words_after [] l

-- the words that a first word and what follows it stand for
abbrev pub cut : Option (Bor (List ℕ) × Bor (List ℕ)) → List (List ℕ)
cut None = []
cut (Some x) = x.0.now ∷ words_of x.1.now

-- the statement has no word more
abbrev pub ended : List (List ℕ) → Result (Unit {0}) Reason
ended [] = Ok tt
ended (w ∷ ws) = Err WordsAfter

-- SIDE is `buy` or `sell`
abbrev pub side_of : List ℕ → Result Side Reason
side_of w = cond (bytes_eq w (codes "buy")) (Ok Buy) (cond (bytes_eq w (codes "sell")) (Ok Sell) (Err UnknownWord))

-- TERMS begin with `at`, or are `market` or `market-to-limit`
abbrev pub kind_of : List ℕ → Result Kind Reason
kind_of w =
    cond (bytes_eq w (codes "at")) (Ok Limit)
    (cond (bytes_eq w (codes "market")) (Ok Market)
    (cond (bytes_eq w (codes "market-to-limit")) (Ok MarketToLimit) (Err UnknownWord)))
