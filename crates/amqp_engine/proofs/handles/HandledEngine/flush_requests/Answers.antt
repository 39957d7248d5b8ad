use Rattle.std.proofs.Common.{◌≡◌, List, Some, None, ap, sym, subst, ◌∙◌}
use Rattle.std.specs.FinMap as map
use Rattle.amqp_engine.specs.declared.engine.answer.Answer.{Answer}
use Rattle.amqp_engine.specs.EngineView.{EngineView}
use Rattle.amqp_engine.specs.Inner.Places.{TakesEnd, has_entries}
use Rattle.amqp_engine.proofs.HandledRunLemmas.{HearingEnds, ends_start, ends_more, ends_flushed, close_flushed, no_more}
use Rattle.amqp_engine.proofs.handles.HandledEngine.flush_requests.Goals as goal

pub returns-in_err-put_out-clause-flushed : goal.returns-in_err-put_out-clause-flushed
returns-in_err-put_out-clause-flushed g c =
    let s = c.put_out.ensures.said in
    ends_flushed g.R.LinkRelay.gives c.args.self.now c.put_out.new.self c.args.answers.now.items c.put_out.new.answers.items
    (subst (λ (v : EngineView _). HearingEnds g.R.LinkRelay.gives v c.args.answers.now.items c.put_out.new.self c.put_out.new.answers.items) c.self.view_is
    (ends_start g.R.LinkRelay.gives _ _ _ _ s.0 c.put_out.ensures.taken s.1 s.2))

pub loop-self-init : goal.loop-self-init
loop-self-init g c =
    let s = c.put_out.ensures.said in (
      subst (λ (v : EngineView _). HearingEnds g.R.LinkRelay.gives v c.args.answers.now.items c.put_out.new.self c.put_out.new.answers.items) c.self.view_is
          (ends_start g.R.LinkRelay.gives _ _ _ _ s.0 c.put_out.ensures.taken s.1 s.2),
      c.in_ok-put_out.ensures.ok,
    )

pub returns-in_err-more_in_vector-clause-flushed : goal.returns-in_err-more_in_vector-clause-flushed
returns-in_err-more_in_vector-clause-flushed g c =
    let same : c.more_in_vector.new.vector.items ≡ c.loop-self.answers.items = c.more_in_vector.ensures.items in
    rw same (ends_flushed g.R.LinkRelay.gives _ _ _ _ c.loop-self.invariant.0)

pub loop-self-preserved : goal.loop-self-preserved
loop-self-preserved g c =
    let same : c.more_in_vector.new.vector.items ≡ c.loop-self.answers.items = c.more_in_vector.ensures.items in
    let before = subst (λ (xs : List Answer). HearingEnds g.R.LinkRelay.gives c.args.self.now c.args.answers.now.items c.loop-self.self xs) (sym same) c.loop-self.invariant.0 in
    let takes = subst (λ w. TakesEnd w (Some c.unwrap-wish.result) c.take_noted_end.new.self.wishes) (ap (λ (x : EngineView _). x.wishes) c.self-in-loop-self.view_is) (rw c.unwrap-wish.ensures at c.take_noted_end.ensures.taken) in
    let asked = rw c.into_error.ensures at c.ask.ensures.asked in
    let now = c.take_noted_end.ensures.same ∙ ap (λ (x : EngineView _). record x { wishes = c.take_noted_end.new.self.wishes }) c.self-in-loop-self.view_is in
    (ends_more g.R.LinkRelay.gives _ _ _ _ _ _ _ (c.unwrap-wish.result.0.0, c.unwrap-wish.result.1) before c.loop-self.invariant.1 takes now asked, c.in_ok-ask.ensures.ok)

pub returns-in_err-ask-clause-flushed : goal.returns-in_err-ask-clause-flushed
returns-in_err-ask-clause-flushed g c =
    let same : c.more_in_vector.new.vector.items ≡ c.loop-self.answers.items = c.more_in_vector.ensures.items in
    let before = subst (λ (xs : List Answer). HearingEnds g.R.LinkRelay.gives c.args.self.now c.args.answers.now.items c.loop-self.self xs) (sym same) c.loop-self.invariant.0 in
    let takes = subst (λ w. TakesEnd w (Some c.unwrap-wish.result) c.take_noted_end.new.self.wishes) (ap (λ (x : EngineView _). x.wishes) c.self-in-loop-self.view_is) (rw c.unwrap-wish.ensures at c.take_noted_end.ensures.taken) in
    let asked = rw c.into_error.ensures at c.ask.ensures.asked in
    let now = c.take_noted_end.ensures.same ∙ ap (λ (x : EngineView _). record x { wishes = c.take_noted_end.new.self.wishes }) c.self-in-loop-self.view_is in
    ends_flushed g.R.LinkRelay.gives _ _ _ _
    (ends_more g.R.LinkRelay.gives _ _ _ _ _ _ _ (c.unwrap-wish.result.0.0, c.unwrap-wish.result.1) before c.loop-self.invariant.1 takes now asked)

pub returns-in_err-more_in_vector-2-clause-flushed : goal.returns-in_err-more_in_vector-2-clause-flushed
returns-in_err-more_in_vector-2-clause-flushed g c =
    let same : c.more_in_vector-then-has_noted_close.new.vector.items ≡ c.loop-self.answers.items = c.more_in_vector-then-has_noted_close.ensures.items in
    rw same (ends_flushed g.R.LinkRelay.gives _ _ _ _ c.loop-self.invariant.0)

pub returns-in_err-ask-2-clause-flushed : goal.returns-in_err-ask-2-clause-flushed
returns-in_err-ask-2-clause-flushed g c =
    let same : c.more_in_vector-then-has_noted_close.new.vector.items ≡ c.loop-self.answers.items = c.more_in_vector-then-has_noted_close.ensures.items in
    let before = subst (λ (xs : List Answer). HearingEnds g.R.LinkRelay.gives c.args.self.now c.args.answers.now.items c.loop-self.self xs) (sym same) c.loop-self.invariant.0 in
    let none = no_more _ (ap (λ (x : EngineView _). has_entries (map.entries x.wishes.ends)) (sym c.self-in-loop-self.view_is) ∙ sym c.has_noted_end.ensures ∙ c.loop-self-test.false) in
    let noted = ap (λ (x : EngineView _). x.wishes.close) (sym c.self-2.view_is) ∙ sym c.take_noted_close.ensures.value ∙ c.unwrap-wish-then-has_noted_close.ensures in
    let asked = rw c.into_error-then-has_noted_close.ensures at c.ask-then-has_noted_close.ensures.asked in
    let now = c.take_noted_close.ensures.taken ∙ ap (λ (x : EngineView _). record x { wishes = record x.wishes { close = None } }) c.self-2.view_is in
    close_flushed g.R.LinkRelay.gives _ _ _ _ _ _ _ c.unwrap-wish-then-has_noted_close.result before c.loop-self.invariant.1 none noted now asked

pub returns-in_ok-ask-2-clause-flushed : goal.returns-in_ok-ask-2-clause-flushed
returns-in_ok-ask-2-clause-flushed g c =
    let same : c.more_in_vector-then-has_noted_close.new.vector.items ≡ c.loop-self.answers.items = c.more_in_vector-then-has_noted_close.ensures.items in
    let before = subst (λ (xs : List Answer). HearingEnds g.R.LinkRelay.gives c.args.self.now c.args.answers.now.items c.loop-self.self xs) (sym same) c.loop-self.invariant.0 in
    let none = no_more _ (ap (λ (x : EngineView _). has_entries (map.entries x.wishes.ends)) (sym c.self-in-loop-self.view_is) ∙ sym c.has_noted_end.ensures ∙ c.loop-self-test.false) in
    let noted = ap (λ (x : EngineView _). x.wishes.close) (sym c.self-2.view_is) ∙ sym c.take_noted_close.ensures.value ∙ c.unwrap-wish-then-has_noted_close.ensures in
    let asked = rw c.into_error-then-has_noted_close.ensures at c.ask-then-has_noted_close.ensures.asked in
    let now = c.take_noted_close.ensures.taken ∙ ap (λ (x : EngineView _). record x { wishes = record x.wishes { close = None } }) c.self-2.view_is in
    close_flushed g.R.LinkRelay.gives _ _ _ _ _ _ _ c.unwrap-wish-then-has_noted_close.result before c.loop-self.invariant.1 none noted now asked

pub returns-else-has_noted_close-clause-flushed : goal.returns-else-has_noted_close-clause-flushed
returns-else-has_noted_close-clause-flushed g c = ends_flushed g.R.LinkRelay.gives _ _ _ _ c.loop-self.invariant.0
