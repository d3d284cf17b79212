-- What came of an ask, with what was wrong where that is no success.
use Rattle.std.specs.Prelude.{Option, Some, None}
use Rattle.ccr_steps.specs.Asks.{AnswerData, answer_data}
use Rattle.ccr_task.specs.declared.said.Said.{Said}
use Rattle.ccr_task.specs.declared.said.StepFault.{StepFault}

-- an answer, and what was wrong, if it is no success
pub record SaidData : Type 0 where
  pub answer : AnswerData
  pub fault : Option StepFault

-- what came of an ask, without where the answer's parts lie in memory
abbrev pub said_data : Said → SaidData
said_data s = record { answer = answer_data s.answered; fault = s.fault }

-- an answer that is a success
abbrev pub well : AnswerData → SaidData
well x = record { answer = x; fault = None }

-- the answer where something was wrong
abbrev pub bad : AnswerData → StepFault → SaidData
bad x f = record { answer = x; fault = Some f }
