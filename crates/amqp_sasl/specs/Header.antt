-- Part: other calls; inner.
-- Protocol headers (AMQP 1.0 part 2, section 2.2).
use Rattle.std.specs.Prelude.{◌≡◌, ◌<◌, ◌≤◌, ℕ, List, [], ◌∷◌, ◌++◌, length, take, codes, Option, Some, None}
use Rattle.amqp_sasl.specs.declared.header.Protocol.{Protocol}
use Rattle.amqp_sasl.specs.declared.header.Protocol.TheVariants.{Amqp, Tls, Sasl}
use Rattle.amqp_sasl.specs.declared.header.ReceivedHeader.{ReceivedHeader}
use Rattle.amqp_sasl.specs.declared.header.ReceivedHeader.TheVariants.{Header, Other, Begun, NotAmqp}

-- the number that tells a protocol from the others
abbrev pub protocol_id : Protocol → ℕ
protocol_id Amqp = 0
protocol_id Tls = 2
protocol_id Sasl = 3

-- a header: the four letters, the protocol's number, and the version 1.0.0
abbrev pub header_text : Protocol → List ℕ
header_text p = codes "AMQP" ++ (protocol_id p ∷ 1 ∷ 0 ∷ 0 ∷ [])

-- the one protocol that has this header, or that none has
abbrev pub IsProtocolOf : List ℕ → Option Protocol → Type 0
IsProtocolOf header (Some p) = header ≡ header_text p
IsProtocolOf header None = (p : Protocol) → ¬ (header ≡ header_text p)

-- the bytes and the four letters are the same as far as both go
abbrev pub BeginsAsName : List ℕ → Type 0
BeginsAsName bytes = take 4 bytes ≡ take (length bytes) (codes "AMQP")

-- What stands at the front of the bytes where a header is expected.
abbrev pub ReadsHeader : List ℕ → ReceivedHeader → Type 0
ReadsHeader bytes (Header p) = (8 ≤ length bytes) × (take 8 bytes ≡ header_text p)
ReadsHeader bytes (Other came) = (8 ≤ length bytes) × (came ≡ take 8 bytes) × ((p : Protocol) → ¬ (came ≡ header_text p))
ReadsHeader bytes Begun = (length bytes < 8) × BeginsAsName bytes
ReadsHeader bytes NotAmqp = (length bytes < 8) × ¬ BeginsAsName bytes
