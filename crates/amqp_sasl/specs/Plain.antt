-- Part: other calls.
-- The responses of the mechanisms ANONYMOUS, PLAIN and EXTERNAL (RFC 4505, RFC 4616; RFC 4422, appendix A).
use Rattle.std.specs.Prelude.{◌≡◌, ◌≢◌, ◌<◌, ℕ, List, [], ◌∷◌, ◌++◌, length, codes, Option, Some, None, Result, Ok, Err}
use Rattle.amqp_memory.specs.Refusal.{SomeRefused}
use Rattle.amqp_sasl.specs.declared.plain.PlainParts.{PlainParts}
use Rattle.amqp_sasl.specs.declared.plain.LoginError.{LoginError}
use Rattle.amqp_sasl.specs.declared.plain.LoginError.TheVariants as no
use Rattle.amqp_sasl.specs.declared.opening.Login.{Login}
use Rattle.amqp_sasl.specs.SaslFrame.{part, IsWithin}

-- no byte is 0
abbrev pub NoNul : List ℕ → Type 0
NoNul [] = Unit {0}
NoNul (b ∷ bytes) = (b ≢ 0) × NoNul bytes

-- a 0 stands after the first text and after the second one
abbrev pub plain_text : List ℕ → List ℕ → List ℕ → List ℕ
plain_text authorization user password = authorization ++ 0 ∷ (user ++ 0 ∷ password)

-- a response of PLAIN: as whom the client wants to act, who it is, and its password; none of them has a 0 inside
pub record IsPlain (authorization user password bytes : List ℕ) : Type 0 where
  pub whole : bytes ≡ plain_text authorization user password
  pub in_authorization : NoNul authorization
  pub in_user : NoNul user
  pub in_password : NoNul password

-- the three texts, where they stand in a response; or that it is none
abbrev pub Splits : List ℕ → Option PlainParts → Type 0
Splits bytes (Some x) =
    IsPlain (part bytes x.authorization) (part bytes x.user) (part bytes x.password) bytes
    × IsWithin (length bytes) x.authorization × IsWithin (length bytes) x.user × IsWithin (length bytes) x.password
Splits bytes None = (authorization user password : List ℕ) → ¬ IsPlain authorization user password bytes

-- a login by this mechanism, with this initial response
abbrev pub IsLogin : List ℕ → List ℕ → Login → Type 0
IsLogin mechanism response login = (login.mechanism ≡ mechanism) × (login.response ≡ Some response)

-- A login of PLAIN, with no authorization identity; or a text has a 0 inside, the response would have more than 512 bytes, or memory was
-- refused.
abbrev pub MakesPlain : List ℕ → List ℕ → Result Login LoginError → Type 0
MakesPlain user password (Ok login) = IsLogin (codes "PLAIN") (plain_text [] user password) login × NoNul user × NoNul password
MakesPlain user password (Err no.HasNul) = ¬ (NoNul user × NoNul password)
MakesPlain user password (Err no.TooLarge) = 512 < length (plain_text [] user password)
MakesPlain user password (Err no.OutOfMemory) = SomeRefused
