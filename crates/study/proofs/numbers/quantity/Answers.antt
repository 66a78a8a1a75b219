use Rattle.std.proofs.Common.{Err, rules}
use Rattle.study.specs.declared.faults.Reason.TheVariants.{QuantityMalformed}
use Rattle.study.proofs.Writing.{quantity_written}
use Rattle.study.proofs.numbers.quantity.Goals as goal

pub returns-then-not-is_number_word-clause-written : goal.returns-then-not-is_number_word-clause-written
returns-then-not-is_number_word-clause-written c = quantity_written c.args.word.now (Err QuantityMalformed) (search rules)
