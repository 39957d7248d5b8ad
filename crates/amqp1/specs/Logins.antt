-- Part: other calls.
-- Which side of SASL a stream is on, and with which logins: sizes, and the bytes that have them, one piece after the other.
use Rattle.std.specs.Prelude.{[], ◌∷◌, ℕ, List, Option, Some, None, length, take, drop, nat_eq, nat_lt, if◌then◌else◌}
use Rattle.std.specs.Str.{is_utf8}
use Rattle.amqp_values.specs.Reading.{◌>>=◌, is_empty}
use Rattle.amqp_values.specs.Text.{is_ascii}
use Rattle.amqp_sasl.specs.declared.opening.Login.{Login}
use Rattle.amqp_sasl.specs.declared.opening.Side.TheVariants as side
use Rattle.amqp_sasl.specs.Opening.{OpeningView, fresh}
use Rattle.amqp1.specs.declared.logins.LoginHead.{LoginHead}

-- the size of what is not there
abbrev pub no_size : ℕ
no_size = 4294967295

-- ---- pieces at the front of the bytes, and what follows

-- so many bytes
unfoldable pub front_in : ℕ → List ℕ → Option (List ℕ × List ℕ)
front_in size bytes = if nat_lt (length bytes) size then None else Some (take size bytes, drop size bytes)

-- a symbol of so many bytes
unfoldable pub symbol_in : ℕ → List ℕ → Option (List ℕ × List ℕ)
symbol_in size bytes = front_in size bytes >>= λ x. if is_ascii x.0 then Some x else None

-- so many bytes, or none are there
unfoldable pub part_in : ℕ → List ℕ → Option (Option (List ℕ) × List ℕ)
part_in size bytes = if nat_eq size no_size then Some (None, bytes) else (front_in size bytes >>= λ x. Some (Some x.0, x.1))

-- a text of so many bytes, or none is there
unfoldable pub text_in : ℕ → List ℕ → Option (Option (List ℕ) × List ℕ)
text_in size bytes =
    if nat_eq size no_size then Some (None, bytes) else (front_in size bytes >>= λ x. if is_utf8 x.0 then Some (Some x.0, x.1) else None)

-- a client's login: its mechanism, and its initial response, if any
unfoldable pub login_in : LoginHead → List ℕ → Option (Login × List ℕ)
login_in h bytes =
    symbol_in h.mechanism bytes >>= λ m. part_in h.response m.1 >>= λ r. Some (record { mechanism = m.0; response = r.0 }, r.1)

-- a mechanism that a server offers, which has no response
unfoldable pub name_in : LoginHead → List ℕ → Option (List ℕ × List ℕ)
name_in h bytes = if nat_eq h.response no_size then symbol_in h.mechanism bytes else None

-- one for each head, in their order; and no byte is left
unfoldable pub all_in : {X : Type 0} → (LoginHead → List ℕ → Option (X × List ℕ)) → List LoginHead → List ℕ → Option (List X)
all_in one [] bytes = if is_empty bytes then Some [] else None
all_in one (h ∷ heads) bytes = one h bytes >>= λ x. all_in one heads x.1 >>= λ others. Some (x.0 ∷ others)

-- ---- the opening, by the side

-- without SASL there is nothing to say
abbrev pub plain_in : ℕ → List LoginHead → List ℕ → Option OpeningView
plain_in host [] [] = if nat_eq host no_size then Some (fresh side.Plain [] None []) else None
plain_in host heads bytes = None

-- a client: the host that it asks for, if any, and its logins, in the order in which it prefers them
abbrev pub client_in : ℕ → List LoginHead → List ℕ → Option OpeningView
client_in host heads bytes =
    text_in host bytes >>= λ h. all_in login_in heads h.1 >>= λ logins. Some (fresh side.Client logins h.0 [])

-- a server offers one mechanism or more
abbrev pub offering : List (List ℕ) → Option OpeningView
offering [] = None
offering (name ∷ names) = Some (fresh side.Server [] None (name ∷ names))

abbrev pub server_in : ℕ → List LoginHead → List ℕ → Option OpeningView
server_in host heads bytes = if nat_eq host no_size then all_in name_in heads bytes >>= offering else None

-- the opening that these say: 0 without SASL, 1 a client of SASL, 2 a server of SASL; they may say none
abbrev pub opening_in : ℕ → ℕ → List LoginHead → List ℕ → Option OpeningView
opening_in side host heads bytes =
    if nat_eq side 0 then plain_in host heads bytes else
    if nat_eq side 1 then client_in host heads bytes else
    if nat_eq side 2 then server_in host heads bytes else
    None
