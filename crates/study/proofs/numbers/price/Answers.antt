use Rattle.std.proofs.Common.{arith, rules}
use Rattle.std.proofs.lemmas.Grind.{common_steps}
use Rattle.study.proofs.Writing.{price_written}
use Rattle.study.proofs.numbers.price.Goals as goal

pub returns-in-Some-clause-written : goal.returns-in-Some-clause-written
returns-in-Some-clause-written c = price_written c.args.word.now c.with_decimals.result (grind (arith, common_steps))

pub returns-in-None-clause-written : goal.returns-in-None-clause-written
returns-in-None-clause-written c = price_written c.args.word.now c.price_in_range.result (search rules)
