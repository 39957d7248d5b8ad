-- Part: other calls.
-- The error conditions of the standard (part 2, sections 2.8.15 to 2.8.18; the last one is of part 4, section 4.5.8).
use Rattle.std.specs.Prelude.{ℕ, List, None, codes}
use Rattle.amqp_types.specs.Error.{ErrorModel}
use Rattle.fe2o3_amqp.specs.declared.conditions.ErrorCondition.{ErrorCondition}
use Rattle.fe2o3_amqp.specs.declared.conditions.ErrorCondition.TheVariants as is

abbrev pub condition_text : ErrorCondition → List ℕ
condition_text is.InternalError = codes "amqp:internal-error"
condition_text is.NotFound = codes "amqp:not-found"
condition_text is.UnauthorizedAccess = codes "amqp:unauthorized-access"
condition_text is.DecodeError = codes "amqp:decode-error"
condition_text is.ResourceLimitExceeded = codes "amqp:resource-limit-exceeded"
condition_text is.NotAllowed = codes "amqp:not-allowed"
condition_text is.InvalidField = codes "amqp:invalid-field"
condition_text is.NotImplemented = codes "amqp:not-implemented"
condition_text is.ResourceLocked = codes "amqp:resource-locked"
condition_text is.PreconditionFailed = codes "amqp:precondition-failed"
condition_text is.ResourceDeleted = codes "amqp:resource-deleted"
condition_text is.IllegalState = codes "amqp:illegal-state"
condition_text is.FrameSizeTooSmall = codes "amqp:frame-size-too-small"
condition_text is.ConnectionForced = codes "amqp:connection:forced"
condition_text is.FramingError = codes "amqp:connection:framing-error"
condition_text is.ConnectionRedirect = codes "amqp:connection:redirect"
condition_text is.WindowViolation = codes "amqp:session:window-violation"
condition_text is.ErrantLink = codes "amqp:session:errant-link"
condition_text is.HandleInUse = codes "amqp:session:handle-in-use"
condition_text is.UnattachedHandle = codes "amqp:session:unattached-handle"
condition_text is.DetachForced = codes "amqp:link:detach-forced"
condition_text is.TransferLimitExceeded = codes "amqp:link:transfer-limit-exceeded"
condition_text is.MessageSizeExceeded = codes "amqp:link:message-size-exceeded"
condition_text is.LinkRedirect = codes "amqp:link:redirect"
condition_text is.Stolen = codes "amqp:link:stolen"
condition_text is.UnknownTransaction = codes "amqp:transaction:unknown-id"

-- the error that says this condition, and nothing more (section 2.8.14)
abbrev pub error_of : ErrorCondition → ErrorModel
error_of condition = record { condition = condition_text condition; description = None; info = None }
