-- Part: other calls.
-- What an engine is asked, as a number.
use Rattle.std.specs.Prelude.{◌≡◌, ℕ, Option, Some, None}
use Rattle.amqp1.specs.declared.operation.Operation.{Operation}
use Rattle.amqp1.specs.declared.operation.Operation.TheVariants as op
use Rattle.amqp1.specs.declared.operation.Group.{Group}
use Rattle.amqp1.specs.declared.operation.Group.TheVariants as group

abbrev pub operation_number : Operation → ℕ
operation_number op.Open = 2
operation_number op.Close = 3
operation_number op.Begin = 4
operation_number op.End = 5
operation_number op.Release = 6
operation_number op.Forget = 7
operation_number op.Link = 8
operation_number op.LinkOn = 9
operation_number op.Attach = 10
operation_number op.Detach = 11
operation_number op.Flow = 12
operation_number op.Transfer = 13
operation_number op.Disposition = 14
operation_number op.Settle = 15
operation_number op.Output = 16
operation_number op.Refusal = 18
operation_number op.RemoteOpen = 19
operation_number op.MaxPieceLen = 20
operation_number op.PayloadRoom = 21
operation_number op.SessionOf = 23
operation_number op.State = 24
operation_number op.SessionState = 25
operation_number op.Unfit = 27
operation_number op.RefusalText = 28
operation_number op.Dispose = 29
operation_number op.Login = 30
operation_number op.Challenge = 31
operation_number op.Respond = 32
operation_number op.IsOver = 33
operation_number op.AnswerBegin = 34
operation_number op.AnswerEnd = 35
operation_number op.LetGo = 36

-- the operation of this number, or there is none
abbrev pub IsOperation : ℕ → Option Operation → Type 0
IsOperation n (Some o) = operation_number o ≡ n
IsOperation n None = (o : Operation) → ¬ (operation_number o ≡ n)

-- how an operation takes its input
abbrev pub group_of : Operation → Group
group_of op.Link = group.Links
group_of op.LinkOn = group.Links
group_of op.Dispose = group.Disposes
group_of op.SessionOf = group.FindsSession
group_of op.SessionState = group.ShowsSession
group_of op.PayloadRoom = group.Measures
group_of op.RefusalText = group.Names
group_of op.Output = group.Bare
group_of op.Refusal = group.Bare
group_of op.RemoteOpen = group.Bare
group_of op.MaxPieceLen = group.Bare
group_of op.State = group.Bare
group_of op.Unfit = group.Bare
group_of op.IsOver = group.Bare
group_of op.Login = group.Logs
group_of op.Challenge = group.Challenges
group_of op.Respond = group.Responds
group_of op.AnswerBegin = group.AnswersBegin
group_of op.AnswerEnd = group.AnswersEnd
group_of op.LetGo = group.LetsGo
group_of o = group.Asks
