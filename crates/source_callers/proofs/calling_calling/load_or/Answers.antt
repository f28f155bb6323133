use Rattle.source_callers.proofs.Loading.{loaded, all_meant}
use Rattle.source_callers.proofs.calling_calling.load_or.Goals as goal

pub returns : goal.returns
returns g c =
    loaded (g.C.Call.answers c.args.load) c.args.instead _ _ _ _ _ c.first-loading.ensures.1
    (λ t h.
    all_meant (g.C.Call.answers c.args.load) c.args.instead _ c.calling.ensures.starts _ _ _ _ c.calling.ensures.gives c.retry.ensures.gives
    c.catch_with-pages.ensures.gives c.on_completion.ensures.gives t (c.in_ok-start.ensures.gives t (rw c.first-loading.ensures.0 at h)))
    c.poll.ensures.first
