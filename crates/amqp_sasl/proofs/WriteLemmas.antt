-- A frame is written piece by piece, and what is written is a frame.
use Rattle.std.proofs.Common.{◌≡◌, ◌≢◌, ◌≤◌, ◌<◌, ◌+◌, ◌^◌, ℕ, List, [], ◌∷◌, ◌++◌, length, Option, Some, None, refl, sym, ap, ◌∙◌, true, arith, append_assoc}
use Rattle.std.specs.Prelude.{IfSome}
use Rattle.std.specs.Int.{w32, to_be_bytes}
use Rattle.std.specs.Str.{is_utf8}
use Rattle.std.proofs.lemmas.Nat.{from_be_bytes-to_be_bytes_4}
use Rattle.amqp_values.specs.Number.{ulong0, small_ulong, ulong}
use Rattle.amqp_values.specs.Text.{IsBinary, IsString}
use Rattle.amqp_values.specs.Slots.{Optional}
use Rattle.amqp_values.specs.Composite as values
use Rattle.amqp_values.specs.Writing.{binary_text, string_text, symbols_text, optional_text}
use Rattle.amqp_values.specs.Inner.Held.{AreSymbols}
use Rattle.amqp_values.proofs.SlotCanonicalLemmas.{IsCanonical, Trims, slot_canonical, end_canonical, optional_canonical}
use Rattle.amqp_values.proofs.NumberCanonicalLemmas.{ubyte_canonical}
use Rattle.amqp_values.proofs.TextCanonicalLemmas.{binary_canonical, string_canonical, symbol_canonical}
use Rattle.amqp_values.proofs.SymbolCanonicalLemmas.{symbols_canonical}
use Rattle.amqp_values.proofs.CompositeCanonicalLemmas.{described_canonical}
use Rattle.amqp_sasl.specs.SaslFrame.{Said, mechanisms_are, init_is, challenge_is, response_is, outcome_is, IsDescriptor, by_number, descriptor_of, code_number, IsNames, AreFields, IsBody, fields_of, body_text, framed, frame_text}
use Rattle.amqp_sasl.specs.FrameLaws.{AreSpelled, CanBeWritten, WrittenIsFrame}

pub framed_is : (old a b c d size body : List ℕ) → a ≡ old → b ≡ a ++ size → c ≡ b ++ (2 ∷ 1 ∷ 0 ∷ 0 ∷ []) → d ≡ c ++ body → size ≡ to_be_bytes w32 (8 + length body) → d ≡ old ++ framed body
framed_is old a b c d size body ea eb ec ed es =
    let first : c ≡ (old ++ size) ++ (2 ∷ 1 ∷ 0 ∷ 0 ∷ []) = ec ∙ ap (λ (x : List ℕ). x ++ (2 ∷ 1 ∷ 0 ∷ 0 ∷ [])) (eb ∙ ap (λ (x : List ℕ). x ++ size) ea) in
    ed ∙ ap (λ (x : List ℕ). x ++ body) first ∙ append_assoc (old ++ size) (2 ∷ 1 ∷ 0 ∷ 0 ∷ []) body ∙ append_assoc old size (2 ∷ 1 ∷ 0 ∷ 0 ∷ body) ∙ ap (λ (x : List ℕ). old ++ (x ++ (2 ∷ 1 ∷ 0 ∷ 0 ∷ body))) es

-- ---- what is written is a frame

-- a descriptor of the standard's other composites that is a number is one of these
descriptor_is : (n : ℕ) (text : List ℕ) → 0x20 ≤ n → values.IsDescriptor n text → IsDescriptor n text
descriptor_is _ _ l values.described0 = by_number 0 _ ulong0
descriptor_is _ _ l (values.described_small n) = by_number n _ (small_ulong n)
descriptor_is _ _ l (values.described_by_number bytes len) = by_number _ _ (ulong bytes len)
descriptor_is n _ l (values.described_by_name _ name text is h) = absurd (omega (arith, l, name_low n name is))
  where
    name_low : (n : ℕ) (name : List ℕ) → values.IsName n name → n < 0x20
    name_low _ _ values.open_name = omega arith
    name_low _ _ values.begin_name = omega arith
    name_low _ _ values.attach_name = omega arith
    name_low _ _ values.flow_name = omega arith
    name_low _ _ values.transfer_name = omega arith
    name_low _ _ values.disposition_name = omega arith
    name_low _ _ values.detach_name = omega arith
    name_low _ _ values.end_name = omega arith
    name_low _ _ values.close_name = omega arith
    name_low _ _ values.error_name = omega arith

high : (s : Said) → 0x20 ≤ descriptor_of s
high (mechanisms_are names) = omega arith
high (init_is mechanism response hostname) = omega arith
high (challenge_is challenge) = omega arith
high (response_is response) = omega arith
high (outcome_is code additional) = omega arith

few : (s : Said) → length (fields_of s) ≤ 16
few (mechanisms_are names) = omega arith
few (init_is mechanism response hostname) = omega arith
few (challenge_is challenge) = omega arith
few (response_is response) = omega arith
few (outcome_is code additional) = omega arith

binary_or_null : (o : Option (List ℕ)) → IsCanonical (Optional IsBinary o) (optional_text binary_text o)
binary_or_null o = optional_canonical IsBinary binary_text (λ s. Unit {0}) (λ v h. binary_canonical v) o (each o)
  where
    each : (o : Option (List ℕ)) → IfSome o (λ s. Unit {0})
    each None = tt
    each (Some v) = tt

are_symbols : (names : List (List ℕ)) → AreSpelled names → AreSymbols names
are_symbols [] h = tt
are_symbols (name ∷ names) h = (h.0, are_symbols names h.1)

names_canonical : (names : List (List ℕ)) → AreSymbols names → names ≢ [] → IsCanonical (IsNames names) (symbols_text names)
names_canonical names h some = let c = symbols_canonical names h in record { fits = λ f. (c.fits f, some); null_is = c.null_is }

trims : (s : Said) → CanBeWritten s → Trims (AreFields s) (fields_of s)
trims (mechanisms_are names) h = slot_canonical _ _ _ _ (names_canonical names (are_symbols names h.0) h.1) end_canonical
trims (init_is mechanism response hostname) h =
    slot_canonical _ _ _ _ (symbol_canonical mechanism h.0)
    (slot_canonical _ _ _ _ (binary_or_null response)
    (slot_canonical _ _ _ _ (optional_canonical IsString string_text (λ s. is_utf8 s ≡ true) string_canonical hostname h.1)
    end_canonical))
trims (challenge_is challenge) h = slot_canonical _ _ _ _ (binary_canonical challenge) end_canonical
trims (response_is response) h = slot_canonical _ _ _ _ (binary_canonical response) end_canonical
trims (outcome_is code additional) h = slot_canonical _ _ _ _ (ubyte_canonical (code_number code)) (slot_canonical _ _ _ _ (binary_or_null additional) end_canonical)

body_written : (s : Said) → CanBeWritten s → length (body_text s) < 2 ^ 32 → IsBody s (body_text s)
unfolding body_text
body_written s h short =
    let d = described_canonical (descriptor_of s) AreFields s (fields_of s) (few s) (trims s h) short in
    record { descriptor = d.descriptor; list = d.list; coded = descriptor_is (descriptor_of s) d.descriptor (high s) d.coded; fields = d.body; whole = d.whole }

pub written_is_frame : WrittenIsFrame
unfolding frame_text
written_is_frame s h short =
    let size : length (framed (body_text s)) ≡ 8 + length (body_text s) = omega arith in record {
      size = to_be_bytes w32 (8 + length (body_text s));
      offset = 2;
      ignored = 0 ∷ 0 ∷ [];
      extended = [];
      body = body_text s;
      four = refl;
      size_is = from_be_bytes-to_be_bytes_4 (8 + length (body_text s)) (omega arith) ∙ sym size;
      short = short;
      two = refl;
      offset_is = refl;
      whole = refl;
      says = body_written s h (omega arith);
    }
