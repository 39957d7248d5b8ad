-- Part: inner.
-- The tables of names and answers, as the code has them: ten numbers for each.
use Rattle.std.specs.Prelude.{ℕ, List, ◌/◌, Option, Some, None, nat_eq, if◌then◌else◌, codes}
use Rattle.fe2o3_amqp.specs.declared.conditions.ErrorCondition.{ErrorCondition}
use Rattle.fe2o3_amqp.specs.declared.conditions.ErrorCondition.TheVariants as is
use Rattle.fe2o3_amqp.specs.declared.refusals.PeerAnswer.{PeerAnswer}
use Rattle.fe2o3_amqp.specs.declared.refusals.PeerAnswer.TheVariants as by

-- the engine's own
abbrev pub step_name_at : ℕ → Option (List ℕ)
step_name_at n =
    if nat_eq n 1 then Some (codes "OutputWaiting") else
    if nat_eq n 2 then Some (codes "NoSession") else
    if nat_eq n 3 then Some (codes "SessionInUse") else
    if nat_eq n 4 then Some (codes "OutOfMemory") else
    None

-- of bytes that are no frame
abbrev pub frame_name_at : ℕ → Option (List ℕ)
frame_name_at n =
    if nat_eq n 11 then Some (codes "Io") else
    if nat_eq n 12 then Some (codes "DecodeError") else
    if nat_eq n 13 then Some (codes "NotImplemented") else
    if nat_eq n 14 then Some (codes "TooLarge") else
    if nat_eq n 15 then Some (codes "OutOfMemory") else
    None

-- of an Open or a Close
abbrev pub state_name_at : ℕ → Option (List ℕ)
state_name_at n =
    if nat_eq n 21 then Some (codes "IllegalState") else
    if nat_eq n 22 then Some (codes "RemoteClosed") else
    if nat_eq n 23 then Some (codes "RemoteClosedWithError") else
    if nat_eq n 24 then Some (codes "TransportError") else
    if nat_eq n 25 then Some (codes "OutOfMemory") else
    None

-- of a frame of a session, on the way to it
abbrev pub inner_name_at : ℕ → Option (List ℕ)
inner_name_at n =
    if nat_eq n 31 then Some (codes "TransportError") else
    if nat_eq n 32 then Some (codes "IllegalState") else
    if nat_eq n 33 then Some (codes "NotImplemented") else
    if nat_eq n 34 then Some (codes "NotFound") else
    if nat_eq n 35 then Some (codes "RemoteClosed") else
    if nat_eq n 36 then Some (codes "RemoteClosedWithError") else
    if nat_eq n 37 then Some (codes "OutOfMemory") else
    None

-- of a new session
abbrev pub alloc_name_at : ℕ → Option (List ℕ)
alloc_name_at n =
    if nat_eq n 41 then Some (codes "ConnectionNotOpened") else
    if nat_eq n 42 then Some (codes "ConnectionStopped") else
    if nat_eq n 43 then Some (codes "ChannelMaxReached") else
    if nat_eq n 44 then Some (codes "OutOfMemory") else
    None

-- of a Begin or an End
abbrev pub begun_name_at : ℕ → Option (List ℕ)
begun_name_at n =
    if nat_eq n 51 then Some (codes "IllegalState") else
    if nat_eq n 52 then Some (codes "ConnectionStopped") else
    if nat_eq n 53 then Some (codes "RemoteEnded") else
    if nat_eq n 54 then Some (codes "RemoteEndedWithError") else
    if nat_eq n 55 then Some (codes "OutOfMemory") else
    None

-- of any other frame of a session
abbrev pub session_name_at : ℕ → Option (List ℕ)
session_name_at n =
    if nat_eq n 61 then Some (codes "UnattachedHandle") else
    if nat_eq n 62 then Some (codes "RemoteAttachingLinkNameNotFound") else
    if nat_eq n 63 then Some (codes "HandleInUse") else
    if nat_eq n 64 then Some (codes "IllegalState") else
    if nat_eq n 65 then Some (codes "ConnectionStopped") else
    if nat_eq n 66 then Some (codes "TransferFrameToSender") else
    if nat_eq n 67 then Some (codes "RemoteEnded") else
    if nat_eq n 68 then Some (codes "RemoteEndedWithError") else
    if nat_eq n 69 then Some (codes "UnknownTxnId") else
    if nat_eq n 70 then Some (codes "OutOfMemory") else
    None

-- of a new link
abbrev pub link_name_at : ℕ → Option (List ℕ)
link_name_at n =
    if nat_eq n 81 then Some (codes "SessionNotMapped") else
    if nat_eq n 82 then Some (codes "SessionStopped") else
    if nat_eq n 83 then Some (codes "DuplicatedLinkName") else
    if nat_eq n 84 then Some (codes "HandlesExhausted") else
    if nat_eq n 85 then Some (codes "OutOfMemory") else
    None

-- of transfers that the driver does not send
abbrev pub own_name_at : ℕ → Option (List ℕ)
own_name_at n =
    if nat_eq n 91 then Some (codes "PayloadTooLong") else
    if nat_eq n 92 then Some (codes "TagTooLong") else
    None

-- of a stream that is not opened
abbrev pub opening_name_at : ℕ → Option (List ℕ)
opening_name_at n =
    if nat_eq n 101 then Some (codes "NoMechanism") else
    if nat_eq n 102 then Some (codes "NotOffered") else
    if nat_eq n 103 then Some (codes "LoginRefused") else
    if nat_eq n 104 then Some (codes "OtherProtocol") else
    if nat_eq n 105 then Some (codes "OtherHeader") else
    if nat_eq n 106 then Some (codes "NotAmqp") else
    if nat_eq n 107 then Some (codes "MalformedSasl") else
    if nat_eq n 108 then Some (codes "UnexpectedSasl") else
    None

-- of transfers that a link does not send
abbrev pub sending_name_at : ℕ → Option (List ℕ)
sending_name_at n =
    if nat_eq n 111 then Some (codes "NoSender") else
    if nat_eq n 112 then Some (codes "NotAttached") else
    if nat_eq n 113 then Some (codes "TooLarge") else
    if nat_eq n 114 then Some (codes "NoneUnderWay") else
    if nat_eq n 115 then Some (codes "NoCredit") else
    if nat_eq n 116 then Some (codes "NotNext") else
    None

abbrev pub name_at : ℕ → Option (List ℕ)
name_at n =
    if nat_eq (n / 10) 0 then step_name_at n else
    if nat_eq (n / 10) 1 then frame_name_at n else
    if nat_eq (n / 10) 2 then state_name_at n else
    if nat_eq (n / 10) 3 then inner_name_at n else
    if nat_eq (n / 10) 4 then alloc_name_at n else
    if nat_eq (n / 10) 5 then begun_name_at n else
    if nat_eq (n / 10) 6 then session_name_at n else
    if nat_eq (n / 10) 7 then session_name_at n else
    if nat_eq (n / 10) 8 then link_name_at n else
    if nat_eq (n / 10) 9 then own_name_at n else
    if nat_eq (n / 10) 10 then opening_name_at n else
    sending_name_at n

abbrev pub closing_at : ℕ → Option ErrorCondition
closing_at n =
    if nat_eq n 4 then Some is.ResourceLimitExceeded else
    if nat_eq n 15 then Some is.ResourceLimitExceeded else
    if nat_eq n 37 then Some is.ResourceLimitExceeded else
    if nat_eq n 12 then Some is.DecodeError else
    if nat_eq n 13 then Some is.NotImplemented else
    if nat_eq n 33 then Some is.NotImplemented else
    if nat_eq n 21 then Some is.IllegalState else
    if nat_eq n 32 then Some is.IllegalState else
    if nat_eq n 34 then Some is.NotFound else
    None

abbrev pub ending_at : ℕ → Option ErrorCondition
ending_at n =
    if nat_eq n 51 then Some is.IllegalState else
    if nat_eq n 61 then Some is.UnattachedHandle else
    if nat_eq n 62 then Some is.NotFound else
    if nat_eq n 63 then Some is.HandleInUse else
    if nat_eq n 66 then Some is.NotAllowed else
    if nat_eq n 69 then Some is.UnknownTransaction else
    if nat_eq n 70 then Some is.ResourceLimitExceeded else
    None

abbrev pub answer_by : Option ErrorCondition → Option ErrorCondition → Option PeerAnswer
answer_by (Some close) end = Some (by.Close close)
answer_by None (Some end) = Some (by.End end)
answer_by None None = None

abbrev pub answer_at : ℕ → Option PeerAnswer
answer_at n = answer_by (closing_at n) (ending_at n)
