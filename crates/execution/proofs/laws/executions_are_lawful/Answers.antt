use Rattle.execution.proofs.Executes.{execution}
use Rattle.execution.proofs.laws.executions_are_lawful.Goals as goal

pub returns : goal.returns
returns c = execution
