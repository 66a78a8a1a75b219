-- The state of an auction. Assumes nothing.
use Rattle.std.specs.Prelude.{ℕ}
use Rattle.pricing.specs.Sides.{Sides}
use Rattle.book.specs.Books.{standing_of}
use Rattle.auction.specs.declared.held.Auction.{Auction}

pub record State : Type 0 where
  -- the reference price
  pub reference : ℕ
  -- the number last given
  pub last : ℕ
  -- the standing orders
  pub sides : Sides

abbrev pub view : Auction → State
view a = record { reference = a.reference; last = a.last; sides = standing_of a.book }
