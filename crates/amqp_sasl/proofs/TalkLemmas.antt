-- What went out so far, by where an opening stands, and who was let in.
use Rattle.std.proofs.Common.{◌≡◌, ℕ, List, [], ◌∷◌, ◌++◌, map, None, refl, sym, ap, subst, ◌∙◌, inl, inr, append_assoc}
use Rattle.std.proofs.lemmas.List.{append-nil, map-append}
use Rattle.amqp_values.specs.Reading.{joined}
use Rattle.amqp_sasl.specs.declared.body.SaslCode.TheVariants as code
use Rattle.amqp_sasl.specs.declared.header.Protocol.TheVariants as protocol
use Rattle.amqp_sasl.specs.declared.opening.Login.{Login}
use Rattle.amqp_sasl.specs.declared.opening.Side.{Side}
use Rattle.amqp_sasl.specs.declared.opening.Side.TheVariants as side
use Rattle.amqp_sasl.specs.declared.opening.Phase.{Phase}
use Rattle.amqp_sasl.specs.declared.opening.Phase.TheVariants as phase
use Rattle.amqp_sasl.specs.SaslFrame.{mechanisms_are, init_is, challenge_is, response_is, outcome_is}
use Rattle.amqp_sasl.specs.Opening.{OpeningView, first_header, fresh}
use Rattle.amqp_sasl.specs.History.{Entry, sent, IsCall, Chain, TookAmqp, TookOk, Asked, IsIdle, LetIn, Among, Each, WasLetIn, LoggedIn, Message, a_header, a_frame, message_text, IsTalk, OpensByLogin, SaysInOrder, StaysOver, IsSilent}
use Rattle.amqp_sasl.proofs.RowLemmas.{texts, Row, nothing, over, begins, opens_plain, greets_client, greets_server, opens, chooses, is_challenged, responds, is_let_in, is_asked, is_answered, refuses_choice, challenges, lets_in, refuses, IsRow, row_of}

-- ---- what went out

response_messages : List (List ℕ) → List Message
response_messages rs = map (λ r. a_frame (response_is r)) rs

challenge_messages : List (List ℕ) → List Message
challenge_messages cs = map (λ c. a_frame (challenge_is c)) cs

-- a client has chosen, and maybe responded
record InClient (u : OpeningView) (ms : List Message) : Type 0 where
  side_is : u.side ≡ side.Client
  login : Login
  is_own : Among (λ l. l ≡ login) u.logins
  answers : List (List ℕ)
  said : ms ≡ a_header protocol.Sasl ∷ a_frame (init_is login.mechanism login.response u.hostname) ∷ map (λ r. a_frame (response_is r)) answers

-- a server has offered mechanisms, and maybe challenged
record InServer (u : OpeningView) (ms : List Message) : Type 0 where
  side_is : u.side ≡ side.Server
  asked : List (List ℕ)
  said : ms ≡ a_header protocol.Sasl ∷ a_frame (mechanisms_are u.names) ∷ map (λ c. a_frame (challenge_is c)) asked

SaidIn : Phase → OpeningView → List Message → Type 0
SaidIn phase.Fresh u ms = ms ≡ []
SaidIn phase.AwaitsHeader u ms = ms ≡ a_header (first_header u.side) ∷ []
SaidIn phase.AwaitsMechanisms u ms = (u.side ≡ side.Client) × (ms ≡ a_header protocol.Sasl ∷ [])
SaidIn phase.AwaitsOutcome u ms = InClient u ms
SaidIn phase.AsksResponse u ms = InClient u ms
SaidIn phase.AwaitsInit u ms = InServer u ms
SaidIn phase.AsksLogin u ms = InServer u ms
SaidIn phase.AwaitsResponse u ms = InServer u ms
SaidIn phase.AwaitsAmqp u ms = IsTalk u u.side ms
SaidIn phase.Open u ms = IsTalk u u.side ms
SaidIn phase.Over u ms = IsTalk u u.side ms

-- nothing, or the first header alone
none_talk : (u : OpeningView) (s : Side) → IsTalk u s []
none_talk u side.Plain = (a_header protocol.Amqp ∷ [], refl)
none_talk u side.Client = inl (a_header protocol.Sasl ∷ [], refl)
none_talk u side.Server = record { challenges = []; code = code.Auth; additional = None; front = (a_header protocol.Sasl ∷ a_frame (mechanisms_are u.names) ∷ a_frame (outcome_is code.Auth None) ∷ [], refl) }

first_talk : (u : OpeningView) (s : Side) → IsTalk u s (a_header (first_header s) ∷ [])
first_talk u side.Plain = ([], refl)
first_talk u side.Client = inl ([], refl)
first_talk u side.Server = record { challenges = []; code = code.Auth; additional = None; front = (a_frame (mechanisms_are u.names) ∷ a_frame (outcome_is code.Auth None) ∷ [], refl) }

client_talk : (u : OpeningView) (ms : List Message) → InClient u ms → IsTalk u u.side ms
client_talk u ms c =
    subst (λ s. IsTalk u s ms) (sym c.side_is) (inr (record {
      login = c.login;
      is_own = c.is_own;
      responses = c.answers;
      front = (a_header protocol.Amqp ∷ [], ap (λ (m : List Message). m ++ a_header protocol.Amqp ∷ []) (sym c.said));
    }))

server_talk : (u : OpeningView) (ms : List Message) → InServer u ms → IsTalk u u.side ms
server_talk u ms c =
    subst (λ s. IsTalk u s ms) (sym c.side_is) (record {
      challenges = c.asked;
      code = code.Auth;
      additional = None;
      front = (a_frame (outcome_is code.Auth None) ∷ [], ap (λ (m : List Message). m ++ a_frame (outcome_is code.Auth None) ∷ []) (sym c.said));
    })

-- wherever an opening stands, what went out is a front of what it may say
talk : (p : Phase) (u : OpeningView) (ms : List Message) → SaidIn p u ms → IsTalk u u.side ms
unfolding SaidIn
talk phase.Fresh u ms h = subst (IsTalk u u.side) (sym h) (none_talk u u.side)
talk phase.AwaitsHeader u ms h = subst (IsTalk u u.side) (sym h) (first_talk u u.side)
talk phase.AwaitsMechanisms u ms h = subst (λ s. IsTalk u s ms) (sym h.0) (subst (IsTalk u side.Client) (sym h.1) (first_talk u side.Client))
talk phase.AwaitsOutcome u ms h = client_talk u ms h
talk phase.AsksResponse u ms h = client_talk u ms h
talk phase.AwaitsInit u ms h = server_talk u ms h
talk phase.AsksLogin u ms h = server_talk u ms h
talk phase.AwaitsResponse u ms h = server_talk u ms h
talk phase.AwaitsAmqp u ms h = h
talk phase.Open u ms h = h
talk phase.Over u ms h = h

-- an opening that stands there
abbrev pub here : OpeningView → Phase → OpeningView
here u p = record u { phase = p }

at_end : (ms all : List Message) (m : Message) → ms ≡ all → all ++ m ∷ [] ≡ (ms ++ m ∷ []) ++ []
at_end ms all m e = sym (append-nil (ms ++ m ∷ []) ∙ ap (λ (x : List Message). x ++ m ∷ []) e)

said_step : (p q : Phase) (u : OpeningView) (e : Entry) (ms ns : List Message) → SaidIn p u ms → Row (here u p) e q ns → SaidIn q u (ms ++ ns)
unfolding SaidIn
said_step p _ u e ms _ h (nothing idle) = subst (SaidIn p u) (sym (append-nil ms)) h
said_step p _ u e ms _ h (over live) = subst (IsTalk u u.side) (sym (append-nil ms)) (talk p u ms h)
said_step p _ u e ms _ h (begins w) =
    let k : ms ≡ [] = subst (λ x. SaidIn x u ms) w h in ap (λ (m : List Message). m ++ a_header (first_header u.side) ∷ []) k
said_step p _ u e ms _ h (opens_plain w s a) =
    let k : ms ≡ a_header (first_header u.side) ∷ [] = subst (λ x. SaidIn x u ms) w h in subst (IsTalk u u.side) (sym (append-nil ms ∙ k)) (first_talk u u.side)
said_step p _ u e ms _ h (greets_client w s) =
    let k : ms ≡ a_header (first_header u.side) ∷ [] = subst (λ x. SaidIn x u ms) w h in (s, append-nil ms ∙ k ∙ ap (λ x. a_header (first_header x) ∷ []) s)
said_step p _ u e ms _ h (greets_server w s) =
    let k : ms ≡ a_header (first_header u.side) ∷ [] = subst (λ x. SaidIn x u ms) w h in
    record { side_is = s; asked = []; said = ap (λ (m : List Message). m ++ a_frame (mechanisms_are u.names) ∷ []) (k ∙ ap (λ x. a_header (first_header x) ∷ []) s) }
said_step p _ u e ms _ h (opens w a) = let k : IsTalk u u.side ms = subst (λ x. SaidIn x u ms) w h in subst (IsTalk u u.side) (sym (append-nil ms)) k
said_step p _ u e ms _ h (chooses login w own) =
    let k : (u.side ≡ side.Client) × (ms ≡ a_header protocol.Sasl ∷ []) = subst (λ x. SaidIn x u ms) w h in
    record { side_is = k.0; login = login; is_own = own; answers = []; said = ap (λ (m : List Message). m ++ a_frame (init_is login.mechanism login.response u.hostname) ∷ []) k.1 }
said_step p _ u e ms _ h (is_challenged w) = let k : InClient u ms = subst (λ x. SaidIn x u ms) w h in subst (InClient u) (sym (append-nil ms)) k
said_step p _ u e ms _ h (responds r w) =
    let k : InClient u ms = subst (λ x. SaidIn x u ms) w h in
    let first = a_header protocol.Sasl in
    let init = a_frame (init_is k.login.mechanism k.login.response u.hostname) in
    record {
      side_is = k.side_is;
      login = k.login;
      is_own = k.is_own;
      answers = k.answers ++ r ∷ [];
      said = ap (λ (m : List Message). m ++ a_frame (response_is r) ∷ []) k.said ∙ ap (λ (t : List Message). first ∷ init ∷ t) (sym (map-append (λ x. a_frame (response_is x)) k.answers (r ∷ [])));
    }
said_step p _ u e ms _ h (is_let_in w a) =
    let k : InClient u ms = subst (λ x. SaidIn x u ms) w h in
    subst (λ s. IsTalk u s (ms ++ a_header protocol.Amqp ∷ [])) (sym k.side_is)
    (inr (record { login = k.login; is_own = k.is_own; responses = k.answers; front = ([], at_end ms _ (a_header protocol.Amqp) k.said) }))
said_step p _ u e ms _ h (is_asked w a) = let k : InServer u ms = subst (λ x. SaidIn x u ms) w h in subst (InServer u) (sym (append-nil ms)) k
said_step p _ u e ms _ h (is_answered w a) = let k : InServer u ms = subst (λ x. SaidIn x u ms) w h in subst (InServer u) (sym (append-nil ms)) k
said_step p _ u e ms _ h (refuses_choice w) =
    let k : InServer u ms = subst (λ x. SaidIn x u ms) w h in
    subst (λ s. IsTalk u s (ms ++ a_frame (outcome_is code.Auth None) ∷ [])) (sym k.side_is)
    (record { challenges = k.asked; code = code.Auth; additional = None; front = ([], at_end ms _ (a_frame (outcome_is code.Auth None)) k.said) })
said_step p _ u e ms _ h (challenges c w) =
    let k : InServer u ms = subst (λ x. SaidIn x u ms) w h in
    let first = a_header protocol.Sasl in
    let offer = a_frame (mechanisms_are u.names) in
    record {
      side_is = k.side_is;
      asked = k.asked ++ c ∷ [];
      said = ap (λ (m : List Message). m ++ a_frame (challenge_is c) ∷ []) k.said ∙ ap (λ (t : List Message). first ∷ offer ∷ t) (sym (map-append (λ x. a_frame (challenge_is x)) k.asked (c ∷ [])));
    }
said_step p _ u e ms _ h (lets_in a w l) =
    let k : InServer u ms = subst (λ x. SaidIn x u ms) w h in
    let last = a_frame (outcome_is code.Ok a) ∷ a_header protocol.Amqp ∷ [] in
    subst (λ s. IsTalk u s (ms ++ a_frame (outcome_is code.Ok a) ∷ a_header protocol.Amqp ∷ [])) (sym k.side_is)
    (record { challenges = k.asked; code = code.Ok; additional = a; front = ([], sym (append-nil (ms ++ last) ∙ ap (λ (x : List Message). x ++ last) k.said)) })
said_step p _ u e ms _ h (refuses c a w last) =
    let k : InServer u ms = subst (λ x. SaidIn x u ms) w h in
    let end = at_end ms _ (a_frame (outcome_is c a)) k.said in
    let first = a_header protocol.Sasl in
    let offer = a_frame (mechanisms_are u.names) in
    let middle = map (λ x. a_frame (challenge_is x)) k.asked in
    subst (λ s. IsTalk u s (ms ++ a_frame (outcome_is c a) ∷ [])) (sym k.side_is)
    (record { challenges = k.asked; code = c; additional = a; front = ([], ap (λ (t : List Message). first ∷ offer ∷ (middle ++ a_frame (outcome_is c a) ∷ t)) last ∙ end) })

-- ---- who was let in

-- a client asked, and nothing came of the calls since
record AskedLast (history : List Entry) : Type 0 where
  before : List Entry
  asked : Entry
  since : List Entry
  whole : history ≡ before ++ asked ∷ since
  is_asked : Asked asked
  are_idle : Each IsIdle since

Facts : Phase → Side → List Entry → Type 0
Facts phase.AsksLogin s h = AskedLast h
Facts phase.AwaitsAmqp s h = LoggedIn s h
Facts phase.Open s h = Among TookAmqp h × LoggedIn s h
Facts p s h = Unit {0}

among_more : (P : Entry → Type 0) (es : List Entry) (e : Entry) → Among P es → Among P (es ++ e ∷ [])
among_more P [] e h = absurd h
among_more P (x ∷ xs) e (inl h) = inl h
among_more P (x ∷ xs) e (inr h) = inr (among_more P xs e h)

among_last : (P : Entry → Type 0) (es : List Entry) (e : Entry) → P e → Among P (es ++ e ∷ [])
among_last P [] e h = inl h
among_last P (x ∷ xs) e h = inr (among_last P xs e h)

each_more : (P : Entry → Type 0) (es : List Entry) (e : Entry) → Each P es → P e → Each P (es ++ e ∷ [])
each_more P [] e h p = (p, tt)
each_more P (x ∷ xs) e h p = (h.0, each_more P xs e h.1 p)

logged_more : (s : Side) (es : List Entry) (e : Entry) → LoggedIn s es → LoggedIn s (es ++ e ∷ [])
logged_more side.Plain es e h = tt
logged_more side.Client es e h = among_more TookOk es e h
logged_more side.Server es e h = record {
  before = h.before;
  asked = h.asked;
  between = h.between;
  login = h.login;
  after = h.after ++ e ∷ [];
  whole =
      ap (λ (x : List Entry). x ++ e ∷ []) h.whole ∙ append_assoc h.before (h.asked ∷ (h.between ++ h.login ∷ h.after)) (e ∷ [])
      ∙ ap (λ (x : List Entry). h.before ++ h.asked ∷ x) (append_assoc h.between (h.login ∷ h.after) (e ∷ []));
  is_asked = h.is_asked;
  are_idle = h.are_idle;
  is_login = h.is_login;
}

asked_more : (es : List Entry) (e : Entry) → IsIdle e → AskedLast es → AskedLast (es ++ e ∷ [])
asked_more es e idle h = record {
  before = h.before;
  asked = h.asked;
  since = h.since ++ e ∷ [];
  whole = ap (λ (x : List Entry). x ++ e ∷ []) h.whole ∙ append_assoc h.before (h.asked ∷ h.since) (e ∷ []);
  is_asked = h.is_asked;
  are_idle = each_more IsIdle h.since e h.are_idle idle;
}

was_let_in : (es : List Entry) (e : Entry) → AskedLast es → LetIn e → WasLetIn (es ++ e ∷ [])
was_let_in es e h l = record {
  before = h.before;
  asked = h.asked;
  between = h.since;
  login = e;
  after = [];
  whole = ap (λ (x : List Entry). x ++ e ∷ []) h.whole ∙ append_assoc h.before (h.asked ∷ h.since) (e ∷ []);
  is_asked = h.is_asked;
  are_idle = h.are_idle;
  is_login = l;
}

facts_more : (p : Phase) (s : Side) (es : List Entry) (e : Entry) → IsIdle e → Facts p s es → Facts p s (es ++ e ∷ [])
unfolding Facts
facts_more phase.AsksLogin s es e idle f = asked_more es e idle f
facts_more phase.AwaitsAmqp s es e idle f = logged_more s es e f
facts_more phase.Open s es e idle f = (among_more TookAmqp es e f.0, logged_more s es e f.1)
facts_more p s es e idle f = tt

facts_step : (p q : Phase) (u : OpeningView) (e : Entry) (ms ns : List Message) (es : List Entry) → SaidIn p u ms → Facts p u.side es → Row (here u p) e q ns → Facts q u.side (es ++ e ∷ [])
unfolding Facts SaidIn
facts_step p _ u e ms _ es h f (nothing idle) = facts_more p u.side es e idle f
facts_step p _ u e ms _ es h f (over live) = tt
facts_step p _ u e ms _ es h f (begins w) = tt
facts_step p _ u e ms _ es h f (opens_plain w s a) = (among_last TookAmqp es e a, subst (λ x. LoggedIn x (es ++ e ∷ [])) (sym s) tt)
facts_step p _ u e ms _ es h f (greets_client w s) = tt
facts_step p _ u e ms _ es h f (greets_server w s) = tt
facts_step p _ u e ms _ es h f (opens w a) = let k : LoggedIn u.side es = subst (λ x. Facts x u.side es) w f in (among_last TookAmqp es e a, logged_more u.side es e k)
facts_step p _ u e ms _ es h f (chooses login w own) = tt
facts_step p _ u e ms _ es h f (is_challenged w) = tt
facts_step p _ u e ms _ es h f (responds r w) = tt
facts_step p _ u e ms _ es h f (is_let_in w a) =
    let k : InClient u ms = subst (λ x. SaidIn x u ms) w h in subst (λ x. LoggedIn x (es ++ e ∷ [])) (sym k.side_is) (among_last TookOk es e a)
facts_step p _ u e ms _ es h f (is_asked w a) = record { before = es; asked = e; since = []; whole = refl; is_asked = a; are_idle = tt }
facts_step p _ u e ms _ es h f (is_answered w a) = record { before = es; asked = e; since = []; whole = refl; is_asked = a; are_idle = tt }
facts_step p _ u e ms _ es h f (refuses_choice w) = tt
facts_step p _ u e ms _ es h f (challenges c w) = tt
facts_step p _ u e ms _ es h f (lets_in a w l) =
    let k : InServer u ms = subst (λ x. SaidIn x u ms) w h in
    let last : AskedLast es = subst (λ x. Facts x u.side es) w f in
    subst (λ x. LoggedIn x (es ++ e ∷ [])) (sym k.side_is) (was_let_in es e last l)
facts_step p _ u e ms _ es h f (refuses c a w last) = tt

-- ---- chains

joined_append : (xs ys : List (List ℕ)) → joined (xs ++ ys) ≡ joined xs ++ joined ys
joined_append [] ys = refl
joined_append (x ∷ xs) ys = ap (λ (t : List ℕ). x ++ t) (joined_append xs ys) ∙ sym (append_assoc x (joined xs) (joined ys))

texts_append : (ms ns : List Message) → texts (ms ++ ns) ≡ texts ms ++ texts ns
texts_append ms ns = ap joined (map-append message_text ms ns) ∙ joined_append (map message_text ms) (map message_text ns)

sent_append : (es : List Entry) (e : Entry) → joined (map sent (es ++ e ∷ [])) ≡ joined (map sent es) ++ sent e
sent_append es e = ap joined (map-append sent es (e ∷ [])) ∙ joined_append (map sent es) (sent e ∷ []) ∙ ap (λ (t : List ℕ). joined (map sent es) ++ t) (append-nil (sent e))

-- where an opening stands after a chain of calls
record Stands (u : OpeningView) (p : Phase) (es : List Entry) : Type 0 where
  messages : List Message
  said : SaidIn p u messages
  out : joined (map sent es) ≡ texts messages
  facts : Facts p u.side es

stands_row : (u w : OpeningView) (p : Phase) (es : List Entry) (e : Entry) → Stands u p es → (r : IsRow (here u p) e w) → Stands u r.phase (es ++ e ∷ [])
stands_row u w p es e s r = record {
  messages = s.messages ++ r.messages;
  said = said_step p r.phase u e s.messages r.messages s.said r.row;
  out = sent_append es e ∙ ap (λ (t : List ℕ). t ++ sent e) s.out ∙ ap (λ (t : List ℕ). texts s.messages ++ t) r.out ∙ sym (texts_append s.messages r.messages);
  facts = facts_step p r.phase u e s.messages r.messages es s.said s.facts r.row;
}

stands_chain : (u v w : OpeningView) (p : Phase) (es more : List Entry) → v ≡ here u p → Stands u p es → Chain v more w → (q : Phase) × (w ≡ here u q) × Stands u q (es ++ more)
stands_chain u v w p es [] same s c = (p, c ∙ same, subst (Stands u p) (sym (append-nil es)) s)
stands_chain u v w p es (e ∷ more) same s c =
    let r = row_of (here u p) c.0 e (subst (λ (x : OpeningView). IsCall x e c.0) same c.1) in
    let rest = stands_chain u c.0 w r.phase (es ++ e ∷ []) more r.left (stands_row u c.0 p es e s r) c.2 in
    (rest.0, rest.1, subst (Stands u rest.0) (append_assoc es (e ∷ []) more) rest.2)

first_stands : (u : OpeningView) → Stands u phase.Fresh []
unfolding SaidIn Facts
first_stands u = record { messages = []; said = refl; out = refl; facts = tt }

pub opens_by_login : OpensByLogin
unfolding Facts
opens_by_login s logins hostname names es w c done =
    let u = fresh s logins hostname names in
    let k = stands_chain u u w phase.Fresh [] es refl (first_stands u) c in
    let q : k.0 ≡ phase.Open = sym (ap (λ (x : OpeningView). x.phase) k.1) ∙ done in
    subst (λ p. Facts p s es) q k.2.facts

pub says_in_order : SaysInOrder
says_in_order s logins hostname names es w c =
    let u = fresh s logins hostname names in
    let k = stands_chain u u w phase.Fresh [] es refl (first_stands u) c in
    (k.2.messages, talk k.0 u k.2.messages k.2.said, k.2.out)

-- ---- after the end

silent : (v w : OpeningView) (e : Entry) → v.phase ≡ phase.Over → (r : IsRow v e w) → (w ≡ v) × IsSilent e
silent v w e o r = quiet r.phase r.messages r.row r.left r.out
  where
    quiet : (q : Phase) (ms : List Message) → Row v e q ms → w ≡ record v { phase = q } → sent e ≡ texts ms → (w ≡ v) × IsSilent e
    quiet _ _ (nothing idle) left out = (left, (idle, out))
    quiet _ _ (over live) left out = absurd (live o)
    quiet _ _ (begins x) left out = absurd (let t = sym x ∙ o in cc)
    quiet _ _ (opens_plain x s a) left out = absurd (let t = sym x ∙ o in cc)
    quiet _ _ (greets_client x s) left out = absurd (let t = sym x ∙ o in cc)
    quiet _ _ (greets_server x s) left out = absurd (let t = sym x ∙ o in cc)
    quiet _ _ (opens x a) left out = absurd (let t = sym x ∙ o in cc)
    quiet _ _ (chooses login x own) left out = absurd (let t = sym x ∙ o in cc)
    quiet _ _ (is_challenged x) left out = absurd (let t = sym x ∙ o in cc)
    quiet _ _ (responds a x) left out = absurd (let t = sym x ∙ o in cc)
    quiet _ _ (is_let_in x a) left out = absurd (let t = sym x ∙ o in cc)
    quiet _ _ (is_asked x a) left out = absurd (let t = sym x ∙ o in cc)
    quiet _ _ (is_answered x a) left out = absurd (let t = sym x ∙ o in cc)
    quiet _ _ (refuses_choice x) left out = absurd (let t = sym x ∙ o in cc)
    quiet _ _ (challenges a x) left out = absurd (let t = sym x ∙ o in cc)
    quiet _ _ (lets_in a x l) left out = absurd (let t = sym x ∙ o in cc)
    quiet _ _ (refuses k a x l) left out = absurd (let t = sym x ∙ o in cc)

pub stays_over : StaysOver
stays_over v w [] o c = (c, tt)
stays_over v w (e ∷ es) o c =
    let s = silent v c.0 e o (row_of v c.0 e c.1) in
    let rest = stays_over c.0 w es (ap (λ (x : OpeningView). x.phase) s.0 ∙ o) c.2 in
    (rest.0 ∙ s.0, (s.1, rest.1))
