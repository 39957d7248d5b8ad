-- Roles and settle modes are read exactly by their grammar.
use Rattle.std.proofs.Common.{◌≡◌, ℕ, Bool, true, false, eqb, List, ◌++◌, Option, Some, refl, sym, ap, subst, ◌∙◌, inl, inr}
use Rattle.std.proofs.lemmas.Bool.{eqb-true}
use Rattle.amqp_types.specs.declared.definitions.Role.{Role}
use Rattle.amqp_types.specs.declared.definitions.Role.TheVariants.{Sender, Receiver}
use Rattle.amqp_types.specs.declared.definitions.SenderSettleMode.{SenderSettleMode}
use Rattle.amqp_types.specs.declared.definitions.SenderSettleMode.TheVariants.{Unsettled, Settled, Mixed}
use Rattle.amqp_types.specs.declared.definitions.ReceiverSettleMode.{ReceiverSettleMode}
use Rattle.amqp_types.specs.declared.definitions.ReceiverSettleMode.TheVariants.{First, Second}
use Rattle.amqp_values.specs.Reading.{◌>>=◌}
use Rattle.amqp_values.specs.Number.{IsBoolean, boolean_at, IsUbyte, ubyte_at}
use Rattle.amqp_values.proofs.ReaderLemmas.{IsFormat, bind_some, pair_is, chosen, some_is}
use Rattle.amqp_values.proofs.NumberLemmas.{boolean_format, ubyte_format}
use Rattle.amqp_types.specs.Definitions.{is_receiver, sender_code, receiver_code, IsRole, IsSenderMode, IsReceiverMode, role_of, sender_mode_of, receiver_mode_of, role_at, sender_mode_at, receiver_mode_at}

-- a value that stands for another, where that is one that stands for it
pub coded_law : {V W : Type 0} (Is : V → List ℕ → Type 0) (at : List ℕ → Option (V × List ℕ)) (of : V → Option W) (code : W → V)
    → ((v : V) (w : W) → of v ≡ Some w → code w ≡ v) → ((w : W) → of (code w) ≡ Some w) → IsFormat Is at → IsFormat (λ w. Is (code w)) (λ bytes. at bytes >>= λ x. of x.0 >>= λ m. Some (m, x.1))
coded_law {V} {W} Is at of code back forth law = record {
  found = λ bytes w rest e.
      let x = bind_some (at bytes) (λ x. of x.0 >>= λ m. Some (m, x.1)) (w, rest) e in
      let m = bind_some (of x.0.0) (λ m. Some (m, x.0.1)) (w, rest) x.2 in
      let s = pair_is m.0 w x.0.1 rest m.2 in
      let f = law.found bytes x.0.0 x.0.1 x.1 in
      (f.0, subst (λ v. Is v f.0) (sym (back x.0.0 m.0 m.1) ∙ ap code s.0) f.1, f.2 ∙ ap (λ (r : List ℕ). f.0 ++ r) s.1);
  again = λ w text rest h. rw (law.again (code w) text rest h, forth w) refl;
  no_null = λ rest. rw (law.no_null rest) refl;
}

role_back : (b : Bool) → is_receiver (role_of b) ≡ b
role_back true = refl
role_back false = refl

role_forth : (r : Role) → role_of (is_receiver r) ≡ r
role_forth Sender = refl
role_forth Receiver = refl

pub role_format : IsFormat IsRole role_at
unfolding role_at
role_format = coded_law IsBoolean boolean_at (λ b. Some (role_of b)) is_receiver (λ b r e. ap is_receiver (sym (some_is _ _ e)) ∙ role_back b) (λ r. ap (λ x. Some x) (role_forth r)) boolean_format

sender_back : (n : ℕ) (m : SenderSettleMode) → sender_mode_of n ≡ Some m → sender_code m ≡ n
sender_back n m e = elim (chosen (eqb n 0) _ _ _ e) [
  | inl a ↦ ap sender_code (sym (some_is _ _ a.1)) ∙ sym (eqb-true n 0 a.0)
  | inr a ↦ elim (chosen (eqb n 1) _ _ _ a.1) [
    | inl b ↦ ap sender_code (sym (some_is _ _ b.1)) ∙ sym (eqb-true n 1 b.0)
    | inr b ↦ elim (chosen (eqb n 2) _ _ _ b.1) [
      | inl d ↦ ap sender_code (sym (some_is _ _ d.1)) ∙ sym (eqb-true n 2 d.0)
      | inr d ↦ absurd (let f = d.1 in cc)
    ]
  ]
]

sender_forth : (m : SenderSettleMode) → sender_mode_of (sender_code m) ≡ Some m
sender_forth Unsettled = refl
sender_forth Settled = refl
sender_forth Mixed = refl

pub sender_mode_format : IsFormat IsSenderMode sender_mode_at
unfolding sender_mode_at
sender_mode_format = coded_law IsUbyte ubyte_at sender_mode_of sender_code sender_back sender_forth ubyte_format

receiver_back : (n : ℕ) (m : ReceiverSettleMode) → receiver_mode_of n ≡ Some m → receiver_code m ≡ n
receiver_back n m e = elim (chosen (eqb n 0) _ _ _ e) [
  | inl a ↦ ap receiver_code (sym (some_is _ _ a.1)) ∙ sym (eqb-true n 0 a.0)
  | inr a ↦ elim (chosen (eqb n 1) _ _ _ a.1) [
    | inl b ↦ ap receiver_code (sym (some_is _ _ b.1)) ∙ sym (eqb-true n 1 b.0)
    | inr b ↦ absurd (let f = b.1 in cc)
  ]
]

receiver_forth : (m : ReceiverSettleMode) → receiver_mode_of (receiver_code m) ≡ Some m
receiver_forth First = refl
receiver_forth Second = refl

pub receiver_mode_format : IsFormat IsReceiverMode receiver_mode_at
unfolding receiver_mode_at
receiver_mode_format = coded_law IsUbyte ubyte_at receiver_mode_of receiver_code receiver_back receiver_forth ubyte_format
