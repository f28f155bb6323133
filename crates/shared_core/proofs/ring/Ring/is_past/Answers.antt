use Rattle.std.proofs.Common.{◌+◌, ◌<◌, ltb, length, ap, sym, ◌∙◌, arith}
use Rattle.std.specs.List.{list_all}
use Rattle.shared_core.specs.declared.place.Place.{Place}
use Rattle.shared_core.specs.Ringed.{Ringed}
use Rattle.shared_core.proofs.Standing.{past-shown, past-unkept}
use Rattle.shared_core.proofs.ring.Ring.is_past.Goals as goal

pub returns : goal.returns
returns g c =
    let ring = c.self.inside in
    c.each_past.ensures
    ∙ ap (list_all (λ (p : Place). ltb c.args.number p.position)) c.deref.ensures.value
    ∙ past-shown ring.next_number ring.values.items c.args.number ring.values.capacity ring.places.items (omega (arith, c.if-number-len.false, c.len.ensures.len)) c.self.invariant.within
    ∙ ap (λ (r : Ringed _). list_all (λ e. ltb (c.args.number + length e.1) r.next_number) r.live) c.self.view_is

pub returns-then-number-len : goal.returns-then-number-len
returns-then-number-len g c =
    let ring = c.self.inside in
    let gone : c.args.number + length ring.values.items < ring.next_number = omega (arith, c.if-number-len.true, c.len.ensures.len) in
    sym (ap (λ (r : Ringed _). list_all (λ e. ltb (c.args.number + length e.1) r.next_number) r.live) (sym c.self.view_is)
    ∙ past-unkept ring.next_number ring.values.items c.args.number ring.places.items gone)
