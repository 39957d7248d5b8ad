-- The canonical texts of definitions, and of optional fields, stand in their slots.
use Rattle.std.proofs.Common.{ℕ, Bool, true, false, List, Option, Some, None, refl, inl, inr}
use Rattle.std.specs.Prelude.{IfSome}
use Rattle.std.specs.Str.{IsUtf8}
use Rattle.amqp_types.specs.declared.definitions.Role.{Role}
use Rattle.amqp_types.specs.declared.definitions.SenderSettleMode.{SenderSettleMode}
use Rattle.amqp_types.specs.declared.definitions.SenderSettleMode.TheVariants.{Unsettled, Settled, Mixed}
use Rattle.amqp_types.specs.declared.definitions.ReceiverSettleMode.{ReceiverSettleMode}
use Rattle.amqp_types.specs.declared.definitions.ReceiverSettleMode.TheVariants.{First, Second}
use Rattle.amqp_values.specs.Number.{IsUshort, IsUint, IsUlong, IsBoolean, is_true}
use Rattle.amqp_values.specs.Text.{IsBinary, IsString}
use Rattle.amqp_values.specs.Symbols.{IsSymbols}
use Rattle.amqp_values.specs.Raw.{IsRaw, SpellsRaw, IsMap, SpellsMap}
use Rattle.amqp_values.specs.Inner.Held.{AreSymbols}
use Rattle.amqp_values.specs.Slots.{Optional, OrDefault}
use Rattle.amqp_values.specs.Writing.{optional_text, ushort_text, uint_text, ulong_text, boolean_text, binary_text, string_text, symbols_text}
use Rattle.amqp_values.proofs.SlotCanonicalLemmas.{IsCanonical, other_canonical, null_canonical, optional_canonical}
use Rattle.amqp_values.proofs.NumberCanonicalLemmas.{ubyte_canonical, ushort_canonical, uint_canonical, ulong_canonical, boolean_canonical}
use Rattle.amqp_values.proofs.TextCanonicalLemmas.{binary_canonical, string_canonical, raw_canonical, map_canonical}
use Rattle.amqp_values.proofs.SymbolCanonicalLemmas.{symbols_canonical}
use Rattle.amqp_values.proofs.Utf8Lemmas.{utf8_true}
use Rattle.amqp_types.specs.Definitions.{is_receiver, receiver_code, IsRole, IsSenderMode, IsReceiverMode, role_text, receiver_mode_text, sender_mode_or_mixed, receiver_mode_or_first, flag_text, value_text}
use Rattle.amqp_types.specs.Inner.Held.{IsShort, IsWord, IsLong}

pub text_canonical : (s : List ℕ) → IsUtf8 s → IsCanonical (IsString s) (string_text s)
text_canonical s h = string_canonical s (utf8_true s h)

pub role_canonical : (r : Role) → IsCanonical (IsRole r) (role_text r)
role_canonical r = boolean_canonical (is_receiver r)

pub receiver_mode_canonical : (m : ReceiverSettleMode) → IsCanonical (IsReceiverMode m) (receiver_mode_text m)
receiver_mode_canonical m = ubyte_canonical (receiver_code m)

-- ---- with a default, which is written as null

pub sender_mode_or_canonical : (m : SenderSettleMode) → IsCanonical (OrDefault Mixed IsSenderMode m) (sender_mode_or_mixed m)
sender_mode_or_canonical Unsettled = let c = ubyte_canonical 0 in record { fits = λ f. inr (c.fits f); null_is = c.null_is }
sender_mode_or_canonical Settled = let c = ubyte_canonical 1 in record { fits = λ f. inr (c.fits f); null_is = c.null_is }
sender_mode_or_canonical Mixed = null_canonical (OrDefault Mixed IsSenderMode Mixed) (inl (refl, refl))

pub receiver_mode_or_canonical : (m : ReceiverSettleMode) → IsCanonical (OrDefault First IsReceiverMode m) (receiver_mode_or_first m)
receiver_mode_or_canonical First = null_canonical (OrDefault First IsReceiverMode First) (inl (refl, refl))
receiver_mode_or_canonical Second = let c = ubyte_canonical 1 in record { fits = λ f. inr (c.fits f); null_is = c.null_is }

pub flag_canonical : (b : Bool) → IsCanonical (OrDefault false IsBoolean b) (flag_text b)
flag_canonical true = other_canonical _ _ refl (λ f. inr is_true)
flag_canonical false = null_canonical (OrDefault false IsBoolean false) (inl (refl, refl))

-- ---- fields that may be absent

pub optional_ushort : (o : Option ℕ) → IfSome o IsShort → IsCanonical (Optional IsUshort o) (optional_text ushort_text o)
optional_ushort = optional_canonical IsUshort ushort_text IsShort ushort_canonical

pub optional_uint : (o : Option ℕ) → IfSome o IsWord → IsCanonical (Optional IsUint o) (optional_text uint_text o)
optional_uint = optional_canonical IsUint uint_text IsWord uint_canonical

pub optional_ulong : (o : Option ℕ) → IfSome o IsLong → IsCanonical (Optional IsUlong o) (optional_text ulong_text o)
optional_ulong = optional_canonical IsUlong ulong_text IsLong ulong_canonical

pub optional_string : (o : Option (List ℕ)) → IfSome o IsUtf8 → IsCanonical (Optional IsString o) (optional_text string_text o)
optional_string = optional_canonical IsString string_text IsUtf8 text_canonical

pub optional_symbols : (o : Option (List (List ℕ))) → IfSome o AreSymbols → IsCanonical (Optional IsSymbols o) (optional_text symbols_text o)
optional_symbols = optional_canonical IsSymbols symbols_text AreSymbols symbols_canonical

pub optional_raw : (o : Option (List ℕ)) → IfSome o IsRaw → IsCanonical (Optional SpellsRaw o) (optional_text value_text o)
optional_raw = optional_canonical SpellsRaw value_text IsRaw raw_canonical

pub optional_map : (o : Option (List ℕ)) → IfSome o IsMap → IsCanonical (Optional SpellsMap o) (optional_text value_text o)
optional_map = optional_canonical SpellsMap value_text IsMap map_canonical

-- those of which every value can be spelled

any : {V : Type 0} (o : Option V) → IfSome o (λ v. Unit {0})
any None = tt
any (Some v) = tt

pub optional_binary : (o : Option (List ℕ)) → IsCanonical (Optional IsBinary o) (optional_text binary_text o)
optional_binary o = optional_canonical IsBinary binary_text (λ s. Unit {0}) (λ s h. binary_canonical s) o (any o)

pub optional_boolean : (o : Option Bool) → IsCanonical (Optional IsBoolean o) (optional_text boolean_text o)
optional_boolean o = optional_canonical IsBoolean boolean_text (λ b. Unit {0}) (λ b h. boolean_canonical b) o (any o)

pub optional_receiver_mode : (o : Option ReceiverSettleMode) → IsCanonical (Optional IsReceiverMode o) (optional_text receiver_mode_text o)
optional_receiver_mode o = optional_canonical IsReceiverMode receiver_mode_text (λ m. Unit {0}) (λ m h. receiver_mode_canonical m) o (any o)
