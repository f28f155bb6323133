use Rattle.std.proofs.Common.{true, inl, inr, refl, ap, ◌∙◌, Some, [], ◌∷◌, ◌++◌}
use Rattle.std.proofs.lemmas.Result.{err_from_is_err_and}
use Rattle.script_engines.proofs.Parties.{too_many, both}
use Rattle.script_engines.proofs.subscriptions.SubscriptionsShared.subscribe.Goals as goal

pub returns-in_err-prelude : goal.returns-in_err-prelude
returns-in_err-prelude g c =
    let p = err_from_is_err_and c.from_residual.result c.from_residual.ensures.1 in
    rw (p.1, p.2) (inl (too_many _ c.in_err-prelude.ensures.fits.1, c.in_err-prelude.ensures.refused, refl))

pub returns-in_err-reserve : goal.returns-in_err-reserve
returns-in_err-reserve g c =
    let p = err_from_is_err_and c.from_residual-in_err-reserve.result c.from_residual-in_err-reserve.ensures.1 in
    rw p.1 (inr (c.in_ok-prelude.ensures.fits.0 (refl {a = true}), inl (p.2, refl), c.reserve.ensures.items))

pub returns-in_err-subscription : goal.returns-in_err-subscription
returns-in_err-subscription g c =
    let p = err_from_is_err_and c.from_residual-in_err-subscription.result c.from_residual-in_err-subscription.ensures.1 in
    rw (p.1, p.2) (inr (c.in_ok-prelude.ensures.fits.0 (refl {a = true}), c.in_err-subscription.ensures.kept, c.reserve.ensures.items))

pub returns : goal.returns
returns g c = (
  c.in_ok-prelude.ensures.fits.0 (refl {a = true}),
  c.id_at.ensures ∙ (c.len-place.ensures ∙ (c.reserve.ensures.len ∙ c.args.self.now.places.ok.0)),
  (
    c.in_ok-subscription.subscription,
    c.in_ok-subscription.ensures.prelude ∙ c.in_ok-prelude.ensures.held,
    c.in_ok-subscription.ensures.flow,
    c.in_ok-subscription.ensures.begins,
    both _ _ _ _ c.in_ok-subscription.ensures.round (c.push_reserved.ensures.items ∙ ap (λ places. places ++ (Some c.in_ok-subscription.subscription ∷ [])) c.reserve.ensures.items),
  ),
)
