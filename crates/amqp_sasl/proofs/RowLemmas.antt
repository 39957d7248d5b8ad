-- Each call is a row of the table of an opening: nothing comes of it, or it leads on, by messages that go out.
use Rattle.std.proofs.Common.{◌≡◌, ◌≢◌, ◌+◌, ℕ, List, [], ◌∷◌, ◌++◌, take, map, Option, Some, None, Bool, true, false, refl, sym, ap, subst, ◌∙◌, inl, inr}
use Rattle.std.specs.Prelude.{Result, Ok, Err}
use Rattle.std.specs.Option.{option_map}
use Rattle.std.proofs.lemmas.List.{append-nil, length-take-le}
use Rattle.amqp_values.proofs.ReaderLemmas.{pair_is, chosen}
use Rattle.amqp_values.specs.Reading.{joined}
use Rattle.amqp_sasl.specs.declared.place.Place.{Place}
use Rattle.amqp_sasl.specs.declared.body.SaslCode.{SaslCode}
use Rattle.amqp_sasl.specs.declared.body.SaslCode.TheVariants as code
use Rattle.amqp_sasl.specs.declared.body.Body.{Body}
use Rattle.amqp_sasl.specs.declared.body.Body.TheVariants as body
use Rattle.amqp_sasl.specs.declared.header.Protocol.{Protocol}
use Rattle.amqp_sasl.specs.declared.header.Protocol.TheVariants as protocol
use Rattle.amqp_sasl.specs.declared.header.ReceivedHeader.{ReceivedHeader}
use Rattle.amqp_sasl.specs.declared.header.ReceivedHeader.TheVariants as received
use Rattle.amqp_sasl.specs.declared.frame.FrameFault.{FrameFault}
use Rattle.amqp_sasl.specs.declared.frame.ReceivedFrame.{ReceivedFrame}
use Rattle.amqp_sasl.specs.declared.frame.ReceivedFrame.TheVariants as frame
use Rattle.amqp_sasl.specs.declared.opening.Login.{Login}
use Rattle.amqp_sasl.specs.declared.opening.Side.{Side}
use Rattle.amqp_sasl.specs.declared.opening.Side.TheVariants as side
use Rattle.amqp_sasl.specs.declared.opening.Phase.{Phase}
use Rattle.amqp_sasl.specs.declared.opening.Phase.TheVariants as phase
use Rattle.amqp_sasl.specs.declared.told.Taken.{Taken}
use Rattle.amqp_sasl.specs.declared.told.Told.{Told}
use Rattle.amqp_sasl.specs.declared.told.Told.TheVariants as told
use Rattle.amqp_sasl.specs.declared.told.OpeningError.{OpeningError}
use Rattle.amqp_sasl.specs.declared.told.OpeningError.TheVariants as refused
use Rattle.amqp_sasl.specs.Header.{header_text, ReadsHeader}
use Rattle.amqp_sasl.specs.SaslFrame.{mechanisms_are, init_is, challenge_is, response_is, outcome_is, frame_text, IsFrame, part, names_in, has_name, said_in}
use Rattle.amqp_sasl.specs.ReadFrame.{ReadsFrame, size_at}
use Rattle.amqp_sasl.specs.Opening.{OpeningView, Move, Does, Calls, begin_at, outcome_move, login_at, challenge_at, response_at, Act, silent, stays, ends, Acts, after_header, greeted, on_header, choose, next_login, on_mechanisms, on_outcome, on_init, on_body, on_frame, first_header, TakesAt}
use Rattle.amqp_sasl.specs.History.{Entry, begun, took, logged, challenged, responded, sent, IsCall, TookAmqp, TookOk, Asked, IsAsking, IsIdle, IsWaiting, LetIn, Among, Message, a_header, a_frame, message_text, after_outcome}

abbrev pub texts : List Message → List ℕ
texts ms = joined (map message_text ms)

-- What comes of a call: where it leads, and the messages that go out.
pub data Row (v : OpeningView) (e : Entry) : Phase → List Message → Type 0 where
  nothing : IsIdle e → Row v e v.phase []
  over : v.phase ≢ phase.Over → Row v e phase.Over []
  begins : v.phase ≡ phase.Fresh → Row v e phase.AwaitsHeader (a_header (first_header v.side) ∷ [])
  opens_plain : v.phase ≡ phase.AwaitsHeader → v.side ≡ side.Plain → TookAmqp e → Row v e phase.Open []
  greets_client : v.phase ≡ phase.AwaitsHeader → v.side ≡ side.Client → Row v e phase.AwaitsMechanisms []
  greets_server : v.phase ≡ phase.AwaitsHeader → v.side ≡ side.Server → Row v e phase.AwaitsInit (a_frame (mechanisms_are v.names) ∷ [])
  opens : v.phase ≡ phase.AwaitsAmqp → TookAmqp e → Row v e phase.Open []
  chooses : (login : Login) → v.phase ≡ phase.AwaitsMechanisms → Among (λ l. l ≡ login) v.logins
      → Row v e phase.AwaitsOutcome (a_frame (init_is login.mechanism login.response v.hostname) ∷ [])
  is_challenged : v.phase ≡ phase.AwaitsOutcome → Row v e phase.AsksResponse []
  responds : (response : List ℕ) → v.phase ≡ phase.AsksResponse → Row v e phase.AwaitsOutcome (a_frame (response_is response) ∷ [])
  is_let_in : v.phase ≡ phase.AwaitsOutcome → TookOk e → Row v e phase.AwaitsAmqp (a_header protocol.Amqp ∷ [])
  is_asked : v.phase ≡ phase.AwaitsInit → Asked e → Row v e phase.AsksLogin []
  is_answered : v.phase ≡ phase.AwaitsResponse → Asked e → Row v e phase.AsksLogin []
  refuses_choice : v.phase ≡ phase.AwaitsInit → Row v e phase.Over (a_frame (outcome_is code.Auth None) ∷ [])
  challenges : (challenge : List ℕ) → v.phase ≡ phase.AsksLogin → Row v e phase.AwaitsResponse (a_frame (challenge_is challenge) ∷ [])
  lets_in : (additional : Option (List ℕ)) → v.phase ≡ phase.AsksLogin → LetIn e
      → Row v e phase.AwaitsAmqp (a_frame (outcome_is code.Ok additional) ∷ a_header protocol.Amqp ∷ [])
  refuses : (c : SaslCode) (additional : Option (List ℕ)) → v.phase ≡ phase.AsksLogin → after_outcome c ≡ [] → Row v e phase.Over (a_frame (outcome_is c additional) ∷ [])

-- the row of a call, and what it leaves
pub record IsRow (v : OpeningView) (e : Entry) (w : OpeningView) : Type 0 where
  pub phase : Phase
  pub messages : List Message
  pub row : Row v e phase messages
  pub left : w ≡ record v { phase = phase }
  pub out : sent e ≡ texts messages

-- ---- bytes that were appended

cancel : (old a b : List ℕ) → old ++ a ≡ old ++ b → a ≡ b
cancel [] a b e = e
cancel (x ∷ xs) a b e = cancel xs a b (let t = e in cc)

appended : (old new out text : List ℕ) → new ≡ old ++ out → new ≡ old ++ text → out ≡ text
appended old new out text e f = cancel old out text (sym e ∙ f)

nothing_out : (old new out : List ℕ) → new ≡ old ++ out → new ≡ old → out ≡ []
nothing_out old new out e f = appended old new out [] e (f ∙ sym (append-nil old))

-- ---- one call

abbrev goes : List ℕ → List ℕ → Phase → Move
goes frame header p = record { frame = frame; header = header; phase = p }

-- a call that is refused leaves all as it was
wrong : (v w : OpeningView) (e : Entry) (old new : List ℕ) → IsIdle e → new ≡ old ++ sent e → new ≡ old → w ≡ v → IsRow v e w
wrong v w e old new idle o f left = record { phase = v.phase; messages = []; row = nothing idle; left = left; out = nothing_out old new (sent e) o f }

does : {X : Type 0} (m : Move) (v w : OpeningView) (ms : List Message) (event : Result X OpeningError → Entry) (r : Result X OpeningError) (old new : List ℕ) → new ≡ old ++ sent (event r)
    → m.frame ++ m.header ≡ texts ms → ((x : X) → r ≡ Ok x → Row v (event (Ok x)) m.phase ms) → ((x : OpeningError) → IsIdle (event (Err x))) → Does m v old r new w → IsRow v (event r) w
does m v w ms event (Ok x) old new o t row idle d =
    record { phase = m.phase; messages = ms; row = row x refl; left = d.1; out = appended old new (sent (event (Ok x))) (m.frame ++ m.header) o d.0.0 ∙ t }
does m v w ms event (Err refused.TooLarge) old new o t row idle d = wrong v w (event (Err refused.TooLarge)) old new (idle refused.TooLarge) o d.0.0 d.1
does m v w ms event (Err refused.OutOfMemory) old new o t row idle d = wrong v w (event (Err refused.OutOfMemory)) old new (idle refused.OutOfMemory) o d.0.0 d.1
does m v w ms event (Err refused.WrongTime) old new o t row idle d = absurd d.0

-- a call at another time
untimely : (v w : OpeningView) (event : Result (Unit {0}) OpeningError → Entry) (r : Result (Unit {0}) OpeningError) (old new : List ℕ) → new ≡ old ++ sent (event r)
    → ((x : OpeningError) → IsIdle (event (Err x))) → (r ≡ Err refused.WrongTime) × (new ≡ old) × (w ≡ v) → IsRow v (event r) w
untimely v w event r old new o idle d = wrong v w (event r) old new (subst (λ q. IsIdle (event q)) (sym d.0) (idle refused.WrongTime)) o d.1 d.2

abbrev pub at : Side → List Login → Option (List ℕ) → List (List ℕ) → Phase → OpeningView
at s logins hostname names p = record { side = s; logins = logins; hostname = hostname; names = names; phase = p }

begun_row : (s : Side) (l : List Login) (h : Option (List ℕ)) (ns : List (List ℕ)) (p : Phase) (w : OpeningView) (r : Result (Unit {0}) OpeningError) (out old new : List ℕ) → new ≡ old ++ out
    → Calls (begin_at s p) (at s l h ns p) old r new w → IsRow (at s l h ns p) (begun r out) w
begun_row s l h ns phase.Fresh w r out old new o d = does (goes [] (header_text (first_header s)) phase.AwaitsHeader) (at s l h ns phase.Fresh) w (a_header (first_header s) ∷ []) (λ q. begun q out) r old new o refl (λ x e. begins refl) (λ x. tt) d
begun_row s l h ns p w r out old new o d = untimely (at s l h ns p) w (λ q. begun q out) r old new o (λ x. tt) d

challenged_row : (s : Side) (l : List Login) (h : Option (List ℕ)) (ns : List (List ℕ)) (p : Phase) (w : OpeningView) (c : List ℕ) (r : Result (Unit {0}) OpeningError) (out old new : List ℕ) → new ≡ old ++ out
    → Calls (challenge_at c p) (at s l h ns p) old r new w → IsRow (at s l h ns p) (challenged c r out) w
challenged_row s l h ns phase.AsksLogin w c r out old new o d = does (goes (frame_text (challenge_is c)) [] phase.AwaitsResponse) (at s l h ns phase.AsksLogin) w (a_frame (challenge_is c) ∷ []) (λ q. challenged c q out) r old new o refl (λ x e. challenges c refl) (λ x. tt) d
challenged_row s l h ns p w c r out old new o d = untimely (at s l h ns p) w (λ q. challenged c q out) r old new o (λ x. tt) d

responded_row : (s : Side) (l : List Login) (h : Option (List ℕ)) (ns : List (List ℕ)) (p : Phase) (w : OpeningView) (c : List ℕ) (r : Result (Unit {0}) OpeningError) (out old new : List ℕ) → new ≡ old ++ out
    → Calls (response_at c p) (at s l h ns p) old r new w → IsRow (at s l h ns p) (responded c r out) w
responded_row s l h ns phase.AsksResponse w c r out old new o d = does (goes (frame_text (response_is c)) [] phase.AwaitsOutcome) (at s l h ns phase.AsksResponse) w (a_frame (response_is c) ∷ []) (λ q. responded c q out) r old new o refl (λ x e. responds c refl) (λ x. tt) d
responded_row s l h ns p w c r out old new o d = untimely (at s l h ns p) w (λ q. responded c q out) r old new o (λ x. tt) d

-- another outcome than `ok`
refused_row : (v w : OpeningView) (c : SaslCode) (additional : Option (List ℕ)) (r : Result (Unit {0}) OpeningError) (out old new : List ℕ) → new ≡ old ++ out → v.phase ≡ phase.AsksLogin → after_outcome c ≡ []
    → Does (record { frame = frame_text (outcome_is c additional); header = []; phase = phase.Over }) v old r new w → IsRow v (logged c additional r out) w
refused_row v w c additional r out old new o here last d = does (goes (frame_text (outcome_is c additional)) [] phase.Over) v w (a_frame (outcome_is c additional) ∷ []) (λ q. logged c additional q out) r old new o refl (λ x e. refuses c additional here last) (idle c) d
  where
    idle : (c : SaslCode) (x : OpeningError) → IsIdle (logged c additional (Err x) out)
    idle c x = tt

outcome_row : (s : Side) (l : List Login) (h : Option (List ℕ)) (ns : List (List ℕ)) (w : OpeningView) (c : SaslCode) (a : Option (List ℕ)) (r : Result (Unit {0}) OpeningError) (out old new : List ℕ) → new ≡ old ++ out
    → Does (outcome_move c a) (at s l h ns phase.AsksLogin) old r new w → IsRow (at s l h ns phase.AsksLogin) (logged c a r out) w
outcome_row s l h ns w code.Ok a r out old new o d =
    does (outcome_move code.Ok a) (at s l h ns phase.AsksLogin) w (a_frame (outcome_is code.Ok a) ∷ a_header protocol.Amqp ∷ []) (λ q. logged code.Ok a q out) r old new o refl (λ x e. lets_in a refl tt) (λ x. tt) d
outcome_row s l h ns w code.Auth a r out old new o d = refused_row (at s l h ns phase.AsksLogin) w code.Auth a r out old new o refl refl d
outcome_row s l h ns w code.Sys a r out old new o d = refused_row (at s l h ns phase.AsksLogin) w code.Sys a r out old new o refl refl d
outcome_row s l h ns w code.SysPerm a r out old new o d = refused_row (at s l h ns phase.AsksLogin) w code.SysPerm a r out old new o refl refl d
outcome_row s l h ns w code.SysTemp a r out old new o d = refused_row (at s l h ns phase.AsksLogin) w code.SysTemp a r out old new o refl refl d

logged_row : (s : Side) (l : List Login) (h : Option (List ℕ)) (ns : List (List ℕ)) (p : Phase) (w : OpeningView) (c : SaslCode) (a : Option (List ℕ)) (r : Result (Unit {0}) OpeningError) (out old new : List ℕ) → new ≡ old ++ out
    → Calls (login_at c a p) (at s l h ns p) old r new w → IsRow (at s l h ns p) (logged c a r out) w
logged_row s l h ns phase.AsksLogin w c a r out old new o d = outcome_row s l h ns w c a r out old new o d
logged_row s l h ns p w c a r out old new o d = untimely (at s l h ns p) w (λ q. logged c a q out) r old new o (λ x. tt) d

-- ---- what is taken

-- an answer that is known
acts : (a : Act) (v w : OpeningView) (ms : List Message) (input : List ℕ) (r : Result Taken OpeningError) (out old new : List ℕ) → new ≡ old ++ out → a.move.frame ++ a.move.header ≡ texts ms
    → ((t : Taken) → t ≡ record { len = a.len; told = a.told } → Row v (took input (Ok t) out) a.move.phase ms) → Acts a v old r new w → IsRow v (took input r out) w
acts a v w ms input (Ok t) out old new o text row d =
    record { phase = a.move.phase; messages = ms; row = row t d.1; left = d.0.1; out = appended old new out (a.move.frame ++ a.move.header) o d.0.0.0 ∙ text }
acts a v w ms input (Err x) out old new o text row d = does a.move v w ms (λ q. took input q out) (Err x) old new o text (λ y e. absurd cc) (λ x. tt) d.0

stays_row : (v w : OpeningView) (t : Told) (input : List ℕ) (r : Result Taken OpeningError) (out old new : List ℕ) → IsWaiting t → new ≡ old ++ out → Acts (stays v.phase t) v old r new w → IsRow v (took input r out) w
stays_row v w t input r out old new waits o d =
    acts (stays v.phase t) v w [] input r out old new o refl (λ x e. nothing (ap (λ (y : Taken). y.len) e, subst IsWaiting (sym (ap (λ (y : Taken). y.told) e)) waits)) d

ends_row : (v w : OpeningView) (n : ℕ) (t : Told) (input : List ℕ) (r : Result Taken OpeningError) (out old new : List ℕ) → v.phase ≢ phase.Over → new ≡ old ++ out → Acts (ends n t) v old r new w → IsRow v (took input r out) w
ends_row v w n t input r out old new live o d = acts (ends n t) v w [] input r out old new o refl (λ x e. over live) d

-- ---- headers

abbrev silently : ℕ → Told → Phase → Act
silently len t p = record { len = len; told = t; move = silent p }

greeted_row : (s : Side) (l : List Login) (h : Option (List ℕ)) (ns : List (List ℕ)) (q : Protocol) (w : OpeningView) (input : List ℕ) (r : Result Taken OpeningError) (out old new : List ℕ) → new ≡ old ++ out
    → take 8 input ≡ header_text q → Acts (greeted (at s l h ns phase.AwaitsHeader) q (after_header s phase.AwaitsHeader q)) (at s l h ns phase.AwaitsHeader) old r new w
    → IsRow (at s l h ns phase.AwaitsHeader) (took input r out) w
greeted_row side.Plain l h ns protocol.Amqp w input r out old new o front d =
    acts (silently 8 told.Opened phase.Open) (at side.Plain l h ns phase.AwaitsHeader) w [] input r out old new o refl (λ t e. opens_plain refl refl (ap (λ (y : Taken). y.told) e, front)) d
greeted_row side.Client l h ns protocol.Sasl w input r out old new o front d =
    acts (silently 8 told.Greeted phase.AwaitsMechanisms) (at side.Client l h ns phase.AwaitsHeader) w [] input r out old new o refl (λ t e. greets_client refl refl) d
greeted_row side.Server l h ns protocol.Sasl w input r out old new o front d =
    acts (record { len = 8; told = told.Greeted; move = goes (frame_text (mechanisms_are ns)) [] phase.AwaitsInit }) (at side.Server l h ns phase.AwaitsHeader) w (a_frame (mechanisms_are ns) ∷ []) input r out old new o refl (λ t e. greets_server refl refl) d
greeted_row s l h ns q w input r out old new o front d = ends_row (at s l h ns phase.AwaitsHeader) w 8 (told.OtherProtocol q) input r out old new (λ e. cc) o d

opened_row : (s : Side) (l : List Login) (h : Option (List ℕ)) (ns : List (List ℕ)) (q : Protocol) (w : OpeningView) (input : List ℕ) (r : Result Taken OpeningError) (out old new : List ℕ) → new ≡ old ++ out
    → take 8 input ≡ header_text q → Acts (greeted (at s l h ns phase.AwaitsAmqp) q (after_header s phase.AwaitsAmqp q)) (at s l h ns phase.AwaitsAmqp) old r new w
    → IsRow (at s l h ns phase.AwaitsAmqp) (took input r out) w
opened_row side.Plain l h ns protocol.Amqp w input r out old new o front d =
    acts (silently 8 told.Opened phase.Open) (at side.Plain l h ns phase.AwaitsAmqp) w [] input r out old new o refl (λ t e. opens refl (ap (λ (y : Taken). y.told) e, front)) d
opened_row side.Client l h ns protocol.Amqp w input r out old new o front d =
    acts (silently 8 told.Opened phase.Open) (at side.Client l h ns phase.AwaitsAmqp) w [] input r out old new o refl (λ t e. opens refl (ap (λ (y : Taken). y.told) e, front)) d
opened_row side.Server l h ns protocol.Amqp w input r out old new o front d =
    acts (silently 8 told.Opened phase.Open) (at side.Server l h ns phase.AwaitsAmqp) w [] input r out old new o refl (λ t e. opens refl (ap (λ (y : Taken). y.told) e, front)) d
opened_row s l h ns q w input r out old new o front d = ends_row (at s l h ns phase.AwaitsAmqp) w 8 (told.OtherProtocol q) input r out old new (λ e. cc) o d

-- a header, where the row of one of the three is known
header_row : (v w : OpeningView) (k : ReceivedHeader) (input : List ℕ) (r : Result Taken OpeningError) (out old new : List ℕ) → v.phase ≢ phase.Over → new ≡ old ++ out
    → ((q : Protocol) → take 8 input ≡ header_text q → Acts (greeted v q (after_header v.side v.phase q)) v old r new w → IsRow v (took input r out) w)
    → ReadsHeader input k → Acts (on_header v k) v old r new w → IsRow v (took input r out) w
header_row v w (received.Header q) input r out old new live o known front d = known q front.1 d
header_row v w (received.Other came) input r out old new live o known front d = ends_row v w 8 (told.OtherHeader came) input r out old new live o d
header_row v w received.Begun input r out old new live o known front d = stays_row v w (told.Wants 8) input r out old new tt o d
header_row v w received.NotAmqp input r out old new live o known front d = ends_row v w 0 told.NotAmqp input r out old new live o d

-- ---- frames

next_member : (found : Option (ℕ × Login)) (x : ℕ × Login) → next_login found ≡ Some x → (n : ℕ) × (found ≡ Some (n, x.1))
next_member (Some y) x e = let s = pair_is (y.0 + 1) x.0 y.1 x.1 e in (y.0, ap (λ (l : Login). Some (y.0, l)) s.1)
next_member None x e = absurd cc

-- what is chosen is one of the logins
member : (logins : List Login) (names : List (List ℕ)) (x : ℕ × Login) → choose logins names ≡ Some x → Among (λ l. l ≡ x.1) logins
member [] names x e = absurd cc
member (l ∷ ls) names x e =
    elim (chosen (has_name l.mechanism names) _ _ _ e) [
      | inl a ↦ inl (pair_is 0 x.0 l x.1 a.1).1
      | inr b ↦ let m = next_member (choose ls names) x b.1 in inr (member ls names (m.0, x.1) m.1)
    ]

choice_row : (v w : OpeningView) (n : ℕ) (p : Place) (names : List (List ℕ)) (x : Option (ℕ × Login)) (input : List ℕ) (r : Result Taken OpeningError) (out old new : List ℕ) → new ≡ old ++ out
    → v.phase ≡ phase.AwaitsMechanisms → choose v.logins names ≡ x → Acts (on_mechanisms v n p x) v old r new w → IsRow v (took input r out) w
choice_row v w n p names (Some x) input r out old new o here e d =
    acts (record { len = n; told = told.Chosen x.0 p; move = goes (frame_text (init_is x.1.mechanism x.1.response v.hostname)) [] phase.AwaitsOutcome }) v w (a_frame (init_is x.1.mechanism x.1.response v.hostname) ∷ []) input r out old new o refl
    (λ t f. chooses x.1 here (member v.logins names x e)) d
choice_row v w n p names None input r out old new o here e d = ends_row v w n (told.NoMechanism p) input r out old new (λ f. let t = sym here ∙ f in cc) o d

init_row : (v w : OpeningView) (n : ℕ) (b : Bool) (m : Place) (i h : Option Place) (input : List ℕ) (r : Result Taken OpeningError) (out old new : List ℕ) → new ≡ old ++ out
    → v.phase ≡ phase.AwaitsInit → Acts (on_init n b m i h) v old r new w → IsRow v (took input r out) w
init_row v w n true m i h input r out old new o here d =
    acts (silently n (told.LoginAsked m i h) phase.AsksLogin) v w [] input r out old new o refl (λ t e. is_asked here (subst IsAsking (sym (ap (λ (y : Taken). y.told) e)) tt)) d
init_row v w n false m i h input r out old new o here d =
    acts (record { len = n; told = told.NotOffered m; move = goes (frame_text (outcome_is code.Auth None)) [] phase.Over }) v w (a_frame (outcome_is code.Auth None) ∷ []) input r out old new o refl (λ t e. refuses_choice here) d

ended_row : (v w : OpeningView) (n : ℕ) (c : SaslCode) (a : Option Place) (input : List ℕ) (r : Result Taken OpeningError) (out old new : List ℕ) → new ≡ old ++ out
    → v.phase ≡ phase.AwaitsOutcome → (c ≡ code.Ok → (additional : Option (List ℕ)) × IsFrame (outcome_is code.Ok additional) (take n input)) → Acts (on_outcome n c a) v old r new w → IsRow v (took input r out) w
ended_row v w n code.Ok a input r out old new o here is d =
    acts (record { len = n; told = told.LoggedIn a; move = goes [] (header_text protocol.Amqp) phase.AwaitsAmqp }) v w (a_header protocol.Amqp ∷ []) input r out old new o refl
    (λ t e. is_let_in here (subst (λ m. (additional : Option (List ℕ)) × IsFrame (outcome_is code.Ok additional) (take m input)) (sym (ap (λ (y : Taken). y.len) e)) (is refl))) d
ended_row v w n code.Auth a input r out old new o here is d = ends_row v w n (told.Refused code.Auth a) input r out old new (λ f. let t = sym here ∙ f in cc) o d
ended_row v w n code.Sys a input r out old new o here is d = ends_row v w n (told.Refused code.Sys a) input r out old new (λ f. let t = sym here ∙ f in cc) o d
ended_row v w n code.SysPerm a input r out old new o here is d = ends_row v w n (told.Refused code.SysPerm a) input r out old new (λ f. let t = sym here ∙ f in cc) o d
ended_row v w n code.SysTemp a input r out old new o here is d = ends_row v w n (told.Refused code.SysTemp a) input r out old new (λ f. let t = sym here ∙ f in cc) o d

abbrev Says : Body → ℕ → List ℕ → Type 0
Says b n input = IsFrame (said_in (take n input) b) (take n input)

-- the frames of the four phases
mechanisms_row : (s : Side) (l : List Login) (h : Option (List ℕ)) (ns : List (List ℕ)) (b : Body) (n : ℕ) (w : OpeningView) (input : List ℕ) (r : Result Taken OpeningError) (out old new : List ℕ) → new ≡ old ++ out
    → Acts (on_body (at s l h ns phase.AwaitsMechanisms) (take n input) n phase.AwaitsMechanisms b) (at s l h ns phase.AwaitsMechanisms) old r new w → IsRow (at s l h ns phase.AwaitsMechanisms) (took input r out) w
mechanisms_row s l h ns (body.Mechanisms p) n w input r out old new o d =
    choice_row (at s l h ns phase.AwaitsMechanisms) w n p (names_in (part (take n input) p)) (choose l (names_in (part (take n input) p))) input r out old new o refl refl d
mechanisms_row s l h ns b n w input r out old new o d = ends_row (at s l h ns phase.AwaitsMechanisms) w n (told.Unexpected b) input r out old new (λ e. cc) o d

outcome_taken : (s : Side) (l : List Login) (h : Option (List ℕ)) (ns : List (List ℕ)) (b : Body) (n : ℕ) (w : OpeningView) (input : List ℕ) (r : Result Taken OpeningError) (out old new : List ℕ) → new ≡ old ++ out → Says b n input
    → Acts (on_body (at s l h ns phase.AwaitsOutcome) (take n input) n phase.AwaitsOutcome b) (at s l h ns phase.AwaitsOutcome) old r new w → IsRow (at s l h ns phase.AwaitsOutcome) (took input r out) w
outcome_taken s l h ns (body.Challenge p) n w input r out old new o is d =
    acts (silently n (told.Challenged p) phase.AsksResponse) (at s l h ns phase.AwaitsOutcome) w [] input r out old new o refl (λ t e. is_challenged refl) d
outcome_taken s l h ns (body.Outcome c a) n w input r out old new o is d =
    ended_row (at s l h ns phase.AwaitsOutcome) w n c a input r out old new o refl (λ e. (option_map (part (take n input)) a, subst (λ k. IsFrame (outcome_is k (option_map (part (take n input)) a)) (take n input)) e is)) d
outcome_taken s l h ns b n w input r out old new o is d = ends_row (at s l h ns phase.AwaitsOutcome) w n (told.Unexpected b) input r out old new (λ e. cc) o d

init_taken : (s : Side) (l : List Login) (h : Option (List ℕ)) (ns : List (List ℕ)) (b : Body) (n : ℕ) (w : OpeningView) (input : List ℕ) (r : Result Taken OpeningError) (out old new : List ℕ) → new ≡ old ++ out
    → Acts (on_body (at s l h ns phase.AwaitsInit) (take n input) n phase.AwaitsInit b) (at s l h ns phase.AwaitsInit) old r new w → IsRow (at s l h ns phase.AwaitsInit) (took input r out) w
init_taken s l h ns (body.Init m i k) n w input r out old new o d = init_row (at s l h ns phase.AwaitsInit) w n (has_name (part (take n input) m) ns) m i k input r out old new o refl d
init_taken s l h ns b n w input r out old new o d = ends_row (at s l h ns phase.AwaitsInit) w n (told.Unexpected b) input r out old new (λ e. cc) o d

response_taken : (s : Side) (l : List Login) (h : Option (List ℕ)) (ns : List (List ℕ)) (b : Body) (n : ℕ) (w : OpeningView) (input : List ℕ) (r : Result Taken OpeningError) (out old new : List ℕ) → new ≡ old ++ out
    → Acts (on_body (at s l h ns phase.AwaitsResponse) (take n input) n phase.AwaitsResponse b) (at s l h ns phase.AwaitsResponse) old r new w → IsRow (at s l h ns phase.AwaitsResponse) (took input r out) w
response_taken s l h ns (body.Response p) n w input r out old new o d =
    acts (silently n (told.Responded p) phase.AsksLogin) (at s l h ns phase.AwaitsResponse) w [] input r out old new o refl (λ t e. is_answered refl (subst IsAsking (sym (ap (λ (y : Taken). y.told) e)) tt)) d
response_taken s l h ns b n w input r out old new o d = ends_row (at s l h ns phase.AwaitsResponse) w n (told.Unexpected b) input r out old new (λ e. cc) o d

-- a frame, where the row of a whole one is known
frame_row : (v w : OpeningView) (f : Result ReceivedFrame FrameFault) (input : List ℕ) (r : Result Taken OpeningError) (out old new : List ℕ) → v.phase ≢ phase.Over → new ≡ old ++ out
    → ((n : ℕ) (b : Body) → Says b n input → Acts (on_body v (take n input) n v.phase b) v old r new w → IsRow v (took input r out) w)
    → ReadsFrame input f → Acts (on_frame v input f) v old r new w → IsRow v (took input r out) w
frame_row v w (Ok (frame.Wants n)) input r out old new live o known front d = stays_row v w (told.Wants n) input r out old new tt o d
frame_row v w (Ok (frame.Frame n b)) input r out old new live o known front d =
    let size : n ≡ size_at input = front.1.0 ∙ length-take-le (size_at input) input front.0.2 in
    known n b (subst (λ m. Says b m input) (sym size) front.1.2) d
frame_row v w (Err fault) input r out old new live o known front d = ends_row v w 0 (told.Malformed fault) input r out old new live o d

took_row : (s : Side) (l : List Login) (h : Option (List ℕ)) (ns : List (List ℕ)) (p : Phase) (w : OpeningView) (input : List ℕ) (r : Result Taken OpeningError) (out old new : List ℕ) → new ≡ old ++ out
    → TakesAt p (at s l h ns p) input old r new w → IsRow (at s l h ns p) (took input r out) w
took_row s l h ns phase.Fresh w input r out old new o d = wrong (at s l h ns phase.Fresh) w (took input r out) old new (subst (λ q. IsIdle (took input q out)) (sym d.0) tt) o d.1 d.2
took_row s l h ns phase.AwaitsHeader w input r out old new o d =
    header_row (at s l h ns phase.AwaitsHeader) w d.0 input r out old new (λ e. cc) o (λ q front k. greeted_row s l h ns q w input r out old new o front k) d.1 d.2
took_row s l h ns phase.AwaitsAmqp w input r out old new o d =
    header_row (at s l h ns phase.AwaitsAmqp) w d.0 input r out old new (λ e. cc) o (λ q front k. opened_row s l h ns q w input r out old new o front k) d.1 d.2
took_row s l h ns phase.AsksLogin w input r out old new o d = stays_row (at s l h ns phase.AsksLogin) w told.Waits input r out old new tt o d
took_row s l h ns phase.AsksResponse w input r out old new o d = stays_row (at s l h ns phase.AsksResponse) w told.Waits input r out old new tt o d
took_row s l h ns phase.Open w input r out old new o d = stays_row (at s l h ns phase.Open) w told.Ended input r out old new tt o d
took_row s l h ns phase.Over w input r out old new o d = stays_row (at s l h ns phase.Over) w told.Ended input r out old new tt o d
took_row s l h ns phase.AwaitsMechanisms w input r out old new o d =
    frame_row (at s l h ns phase.AwaitsMechanisms) w d.0 input r out old new (λ e. cc) o (λ n b is k. mechanisms_row s l h ns b n w input r out old new o k) d.1 d.2
took_row s l h ns phase.AwaitsOutcome w input r out old new o d =
    frame_row (at s l h ns phase.AwaitsOutcome) w d.0 input r out old new (λ e. cc) o (λ n b is k. outcome_taken s l h ns b n w input r out old new o is k) d.1 d.2
took_row s l h ns phase.AwaitsInit w input r out old new o d =
    frame_row (at s l h ns phase.AwaitsInit) w d.0 input r out old new (λ e. cc) o (λ n b is k. init_taken s l h ns b n w input r out old new o k) d.1 d.2
took_row s l h ns phase.AwaitsResponse w input r out old new o d =
    frame_row (at s l h ns phase.AwaitsResponse) w d.0 input r out old new (λ e. cc) o (λ n b is k. response_taken s l h ns b n w input r out old new o k) d.1 d.2

-- each call is a row
pub row_of : (v w : OpeningView) (e : Entry) → IsCall v e w → IsRow v e w
row_of v w (begun r out) c = begun_row v.side v.logins v.hostname v.names v.phase w r out c.0 c.1 c.2 c.3
row_of v w (took input r out) c = took_row v.side v.logins v.hostname v.names v.phase w input r out c.0 c.1 c.2 c.3
row_of v w (logged k a r out) c = logged_row v.side v.logins v.hostname v.names v.phase w k a r out c.0 c.1 c.2 c.3
row_of v w (challenged x r out) c = challenged_row v.side v.logins v.hostname v.names v.phase w x r out c.0 c.1 c.2 c.3
row_of v w (responded x r out) c = responded_row v.side v.logins v.hostname v.names v.phase w x r out c.0 c.1 c.2 c.3
