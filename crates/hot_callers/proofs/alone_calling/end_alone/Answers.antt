use Rattle.std.proofs.Common.{◌≡◌, ◌∙◌, ℕ, length, sym, ap, subst}
use Rattle.shared_rounds.specs.Names.{IsMadeWith}
use Rattle.shared_rounds.specs.Reach.{Party}
use Rattle.shared_flow.specs.Emitted.{emitted}
use Rattle.shared_flow.specs.Looks.{closed_reader}
use Rattle.shared_flow.specs.Parties.{Emitting, Subscribed, since_start, taking_of}
use Rattle.hot_callers.proofs.Whole.{all_settled, emits_alone, has_whole_lock, receives_its_own, takes_both}
use Rattle.hot_callers.proofs.alone_calling.end_alone.Goals as goal

pub returns : goal.returns
returns g c =
    let p = c.args.flow.now.party in
    let e = c.args.emitter in
    let s = c.args.subscription in
    let q = c.close.new.self.party in
    let r = c.meet.new.self.party in
    let t = c.meet.new.subscription in
    let m = c.cancel.new.self.party in
    let last = c.subscription_count.new.self.party in
    let closed = c.close.ensures.ended in
    let took_emitter : q ≡ taking_of e.party p = closed.4 ∙ ap (λ (x : Emitting). taking_of x.party p) (closed.3 c.requires.idle) in
    let meets = c.meet.ensures.meets in
    let end = c.cancel.ensures.last in
    let ended = end.1.0 in
    let left = end.0.last.party in
    let seen_all : length (since_start (closed_reader ended)) ≡ c.cancel.result.accepted =
    subst (λ (x : Subscribed ℕ). length (since_start x.reader) ≡ c.cancel.result.accepted) end.1.1 end.0.has_seen_all in
    let alone = emits_alone p q r m last e s t c.meet.result c.cancel.result left c.subscription_count.result c.requires.whole took_emitter meets ended end.2 c.subscription_count.ensures.made in
    record {
      has = λ config words n made grew.
          receives_its_own config words n q r e s t c.meet.result c.cancel.result left (subst (IsMadeWith config) (sym (ap (λ (x : Party). x.flow) took_emitter)) made) grew meets ended seen_all
          alone (c.an_emitter_alone.ensures e s t c.emissions_are_its_part.ensures (all_settled words n (emitted e) grew) alone) c.receives_all_but_dropped.ensures c.meet.ensures.has c.meet.ensures.prelude;
      taken = takes_both p q r m last e s t c.meet.result c.cancel.result left c.subscription_count.result c.requires.whole took_emitter meets ended end.2 c.subscription_count.ensures.made;
      whole = has_whole_lock p q r m last e s t c.meet.result c.cancel.result left c.subscription_count.result c.requires.whole took_emitter meets ended end.2 c.subscription_count.ensures.made;
    }
