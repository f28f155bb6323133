use Rattle.std.proofs.Common.{◌≢◌, Some, ap, sym, subst, ◌∙◌}
use Rattle.shared_rounds.specs.Names.{SharedSeen}
use Rattle.shared_rounds.specs.Sleeping.{NobodySleeps, OnlyThese}
use Rattle.shared_rounds.proofs.Staying.{still_out}
use Rattle.shared_rounds.proofs.Doing.{helped_on, still_tied}
use Rattle.shared_rounds.proofs.shared.Shared.help.Goals as goal

pub wake_emissions-requires : goal.wake_emissions-requires
wake_emissions-requires c =
    let old : SharedSeen = c.args.self.now in
    let tied : SharedSeen = c.tie_flag.new.self in
    let subs = ap (λ (s : SharedSeen). s.subscriptions) c.tie_flag.ensures.same in
    let same = c.tie_flag.ensures.same ∙ ap (λ (s : SharedSeen). record s { flag = tied.flag }) c.wake_subscriptions.ensures.same ∙ ap (λ l. record old { subscriptions = l; flag = tied.flag }) (sym subs) in
    still_out c.args.taken old tied (ap (λ (s : SharedSeen). s.emissions) same) (ap (λ (s : SharedSeen). s.sequencer) same) c.requires.out

pub returns-clause-helps : goal.returns-clause-helps
returns-clause-helps c =
    let woke = c.wake_subscriptions.ensures in
    let last = c.wake_emissions.ensures in
    let old : SharedSeen = c.args.self.now in
    let tied : SharedSeen = c.tie_flag.new.self in
    let subs = ap (λ (s : SharedSeen). s.subscriptions) c.tie_flag.ensures.same in
    let same = c.tie_flag.ensures.same ∙ ap (λ (s : SharedSeen). record s { flag = tied.flag }) woke.same ∙ ap (λ l. record old { subscriptions = l; flag = tied.flag }) (sym subs) in
    helped_on c.args.before c.args.ended old tied c.wake_emissions.new.self same
    (λ more. subst NobodySleeps (sym subs) (woke.accepted more))
    (λ few. subst (OnlyThese (λ n. c.args.ended ≢ Some n) old.subscriptions) (sym subs) (woke.none_accepted few))
    last.same.0 last.same.1 last.only last.subscriptions last.emissions (still_tied tied c.wake_emissions.new.self c.tie_flag.ensures.tied last.only last.flag.0) last.flag.1
