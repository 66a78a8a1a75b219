use Rattle.std.proofs.Common.{arith}
use Rattle.book.specs.Books.{standing_of}
use Rattle.auction.proofs.Sounds.{few, sound_struck, kept_by_sound}
use Rattle.auction.proofs.Trades.{call_law}
use Rattle.auction.proofs.held.Auction.strike.Goals as goal

pub strike-requires-clause-buys : goal.strike-requires-clause-buys
strike-requires-clause-buys c = few _ _ c.args.self.now.buys_sound

pub strike-requires-clause-sells : goal.strike-requires-clause-sells
strike-requires-clause-sells c = few _ _ c.args.self.now.sells_sound

pub invariant_of-self : goal.invariant_of-self
invariant_of-self c =
    let a = c.args.self.now in
    let both = sound_struck a.last a.reference (standing_of a.book) a.buys_sound a.sells_sound in
    kept_by_sound a.last a c.strike.new.self _ c.strike.ensures.standing both.0 both.1 c.strike.ensures.rest.capacity c.strike.ensures.rest.asked a.numbers

pub returns-clause-law_of_call : goal.returns-clause-law_of_call
returns-clause-law_of_call c =
    let a = c.args.self.now in
    let e = c.strike.ensures in
    call_law (standing_of a.book) a.reference c.strike.result c.args.tape.now c.strike.new.tape a.buys_sound.2 a.sells_sound.2 (omega (arith, a.buys_sound.0, a.sells_sound.0)) e.value e.lines e.law_of_price
