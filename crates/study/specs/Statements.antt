-- The grammar of a line. Assumes nothing.
use Rattle.std.specs.Prelude.{ℕ, Bool, cond, ◌&&◌, List, [], ◌∷◌, take, drop, Ok, Err, codes, Result}
use Rattle.std.specs.List.{prefix_len}
use Rattle.std.specs.Str.{bytes_eq}
use Rattle.words.specs.declared.orders.Order.{Order}
use Rattle.words.specs.declared.sides.Side.{Side}
use Rattle.words.specs.declared.terms.Kind.{Kind}
use Rattle.words.specs.declared.terms.Kind.TheVariants as kinds
use Rattle.words.specs.declared.terms.Terms.{Terms}
use Rattle.words.specs.declared.terms.Terms.TheVariants.{Limit, Market, MarketToLimit}
use Rattle.words.specs.declared.terms.Condition.TheVariants.{Unconditional}
use Rattle.study.specs.declared.faults.Reason.{Reason}
use Rattle.study.specs.declared.faults.Reason.TheVariants.{NotText, MissingWord}
use Rattle.study.specs.declared.statements.Line.{Line}
use Rattle.study.specs.declared.statements.Line.TheVariants.{Blank, Reference, Entry, Ask}
use Rattle.study.specs.Bytes.{all, is_statement, is_plain, is_comment}
use Rattle.study.specs.Numbers.{quantity_of, price_of}
use Rattle.study.specs.Wording.{words_of, ended, side_of, kind_of}

-- go on with what was read, unless there is a fault already
abbrev pub and_then : {A B E : Type 0} → Result A E → (A → Result B E) → Result B E
and_then (Ok x) f = f x
and_then (Err e) f = Err e

-- PRICE, and nothing after it
abbrev pub last_price : List (List ℕ) → Result ℕ Reason
last_price [] = Err MissingWord
last_price (w ∷ ws) = and_then (price_of w) (λ p. and_then (ended ws) (λ _. Ok p))

-- the terms of a kind: PRICE after `at`, and nothing after the other two
abbrev pub terms_with : Kind → List (List ℕ) → Result Terms Reason
terms_with kinds.Limit ws = and_then (last_price ws) (λ p. Ok (Limit p))
terms_with kinds.Market ws = and_then (ended ws) (λ _. Ok Market)
terms_with kinds.MarketToLimit ws = and_then (ended ws) (λ _. Ok MarketToLimit)

-- TERMS: `at` PRICE, `market` or `market-to-limit`
abbrev pub terms_of : List (List ℕ) → Result Terms Reason
terms_of [] = Err MissingWord
terms_of (w ∷ ws) = and_then (kind_of w) (λ k. terms_with k ws)

-- an order that is not numbered
abbrev pub unnumbered : Side → Terms → ℕ → Order
unnumbered s t q = record { number = 0; side = s; terms = t; condition = Unconditional; quantity = q }

-- QUANTITY TERMS, of a side
abbrev pub order_from : Side → List (List ℕ) → Result Order Reason
order_from s [] = Err MissingWord
order_from s (w ∷ ws) = and_then (quantity_of w) (λ q. and_then (terms_of ws) (λ t. Ok (unnumbered s t q)))

-- SIDE QUANTITY TERMS
abbrev pub order_of : List (List ℕ) → Result Order Reason
order_of [] = Err MissingWord
order_of (w ∷ ws) = and_then (side_of w) (λ s. order_from s ws)

-- `reference` PRICE, `ask` and an order, an order, or no word at all
abbrev pub statement_of : List (List ℕ) → Result Line Reason
statement_of [] = Ok Blank
statement_of (w ∷ ws) =
    cond (bytes_eq w (codes "reference")) (and_then (last_price ws) (λ p. Ok (Reference p)))
    (cond (bytes_eq w (codes "ask")) (and_then (order_of ws) (λ o. Ok (Ask o)))
    (and_then (order_of (w ∷ ws)) (λ o. Ok (Entry o))))

-- a line up to its comment, and the comment with its `#`
abbrev pub before_comment : List ℕ → List ℕ
before_comment l = take (prefix_len is_statement l) l

abbrev pub comment_of : List ℕ → List ℕ
comment_of l = drop (prefix_len is_statement l) l

-- a line is text, and bytes of 128 and more stand in its comment only
abbrev pub is_text : List ℕ → Bool
is_text l = all is_plain (before_comment l) && all is_comment (comment_of l)

-- what a line says
abbrev pub line_of : List ℕ → Result Line Reason
line_of l = cond (is_text l) (statement_of (words_of (before_comment l))) (Err NotText)
