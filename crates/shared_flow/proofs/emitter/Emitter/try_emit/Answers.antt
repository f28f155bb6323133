use Rattle.std.proofs.Common.{◌≤◌, ◌++◌, ◌∷◌, [], sym, ap, subst, ◌∙◌, refl}
use Rattle.shared_lane.specs.Sequencers.{next}
use Rattle.shared_rounds.specs.declared.round.Emission.{Emission}
use Rattle.shared_rounds.specs.declared.round.Round.TheVariants as round
use Rattle.shared_rounds.specs.Names.{SharedSeen}
use Rattle.shared_rounds.specs.Entering.{IsCalled, Made}
use Rattle.shared_rounds.specs.Reach.{Party, Reach, party_of}
use Rattle.shared_rounds.specs.Rounds.{IsAfter, IsReceiptFor, numbers_tried}
use Rattle.shared_rounds.specs.Tries.{IfTried}
use Rattle.shared_rounds.proofs.Doing.{is_called}
use Rattle.shared_flow.specs.Emitters.{emission_by}
use Rattle.shared_flow.specs.Parties.{Emitting, IsItsReceipt, WasAnswered}
use Rattle.shared_flow.proofs.Rising.{after_try, try_rises}
use Rattle.shared_flow.proofs.Making.{made}
use Rattle.shared_flow.proofs.Waiting.{tried_receipt}
use Rattle.shared_flow.proofs.Emitted.{has_tried}
use Rattle.shared_flow.proofs.OwnPart.{own_grown}
use Rattle.shared_flow.proofs.emitter.Emitter.try_emit.Goals as goal

pub returns-clause-rises : goal.returns-clause-rises
returns-clause-rises g c =
    let answer = c.tried_with_receipt-tried.result in
    let found = c.enter-inside.result.shared.value in
    let later = subst (λ (s : SharedSeen). IfTried c.try_emit-answer.result (λ n. next s.sequencer ≤ n)) c.deref_mut.ensures.value c.try_emit-answer.ensures.later in
    subst (λ last. IfTried answer (λ r. IsAfter last r.number)) (ap (λ (e : Emitting). e.last) c.self.view_is)
    (try_rises answer c.self.inside.last (next found.sequencer) c.self.inside.access.rounds (subst (λ a. IfTried a (λ n. next found.sequencer ≤ n)) c.tried_with_receipt-tried.ensures.numbers later) c.enter-inside.ensures.below c.self.invariant.1)

pub invariant_of-self : goal.invariant_of-self
invariant_of-self g c =
    let rounds = c.self.inside.access.rounds in
    let answer = c.try_emit-answer.result in
    let emission : Emission = record { emitter = c.self.inside.id; word = c.to_word.result } in
    let grew = ap (λ (r : Reach). r.rounds) c.leave.ensures.left.after ∙ ap (λ (r : Reach). r.rounds ++ round.Try emission answer ∷ []) c.enter-inside.ensures.taken in
    let ends = after_try c.self.inside.last rounds emission answer c.self.invariant.1 in
    (ap (λ (r : Reach). r.held) c.leave.ensures.left.after, subst (WasAnswered c.last_tried-self-inside.result) (sym grew) (subst (λ l. WasAnswered l (rounds ++ round.Try emission answer ∷ [])) (sym c.last_tried-self-inside.ensures) ends), own_grown c.self.inside.id c.self.inside.access.rounds c.leave.new.self.rounds (round.Try emission answer) grew c.self.invariant.2 refl)

pub leave-requires : goal.leave-requires
leave-requires g c =
    let found : SharedSeen = c.enter-inside.result.shared.value in
    let emission : Emission = record { emitter = c.self.inside.id; word = c.to_word.result } in
    let answer = c.try_emit-answer.result in
    let called = is_called c.enter-inside.new.self found c.deref_mut.result.now c.try_emit-answer.new.self c.enter-inside.result.before (round.Try emission answer) (ap (λ (r : Reach). r.held) c.enter-inside.ensures.taken)
    c.enter-inside.ensures.before c.deref_mut.ensures.value c.try_emit-answer.ensures.does c.try_emit-answer.ensures.asleep in
    record { round = subst (IsCalled c.enter-inside.new.self c.enter-inside.result.before (round.Try emission answer)) (sym (c.tried_with_receipt-tried.ensures.same ∙ c.deref_mut-2.ensures.value)) called }

pub returns-clause-made : goal.returns-clause-made
returns-clause-made g c =
    let emission : Emission = record { emitter = c.self.inside.id; word = c.to_word.result } in
    let answer = c.tried_with_receipt-tried.result in
    let it = made (round.Try emission c.try_emit-answer.result) c.self.inside.access c.enter-inside.new.self c.leave.new.self c.enter-inside.result.shared.value c.enter-inside.ensures.taken c.enter-inside.ensures.found c.leave.ensures.left in
    let answered = subst (λ a. Made (round.Try emission a) (party_of c.self.inside.access) (party_of c.leave.new.self)) c.tried_with_receipt-tried.ensures.numbers it in
    let worded = subst (λ word. Made (round.Try (record { emitter = c.self.inside.id; word = word }) (numbers_tried answer)) (party_of c.self.inside.access) (party_of c.leave.new.self)) c.to_word.ensures.word answered in
    subst (λ (e : Emitting). Made (round.Try (emission_by e (g.T.Word.word c.args.value)) (numbers_tried answer)) e.party (party_of c.leave.new.self)) c.self.view_is worded

pub returns-clause-receipt : goal.returns-clause-receipt
returns-clause-receipt g c =
    let answer = c.tried_with_receipt-tried.result in
    let party : Party = party_of c.self.inside.access in
    let found = c.enter-inside.result.shared.value in
    let emission : Emission = record { emitter = c.self.inside.id; word = c.to_word.result } in
    let flow = ap (λ (s : SharedSeen). s.name) c.deref_mut-2.ensures.value ∙ c.try_emit-answer.ensures.does.0 ∙ ap (λ (s : SharedSeen). s.name) c.deref_mut.ensures.value in
    let of_lane = subst (λ name. IfTried answer (IsReceiptFor name.lane emission)) flow c.tried_with_receipt-tried.ensures.receipt in
    let its = tried_receipt answer party emission found.name c.enter-inside.ensures.named of_lane in
    let worded = subst (λ word. IfTried answer (IsItsReceipt party (record { emitter = c.self.inside.id; word = word }))) c.to_word.ensures.word its in
    subst (λ (e : Emitting). IfTried answer (IsItsReceipt e.party (emission_by e (g.T.Word.word c.args.value)))) c.self.view_is worded

pub returns-clause-has : goal.returns-clause-has
returns-clause-has g c =
    let emission : Emission = record { emitter = c.self.inside.id; word = c.to_word.result } in
    let grew = ap (λ (r : Reach). r.rounds) c.leave.ensures.left.after ∙ ap (λ (r : Reach). r.rounds ++ round.Try emission c.try_emit-answer.result ∷ []) c.enter-inside.ensures.taken in
    has_tried c.args.self.now c.self.inside.access.rounds c.leave.new.self.rounds emission (g.T.Word.word c.args.value) c.try_emit-answer.result c.tried_with_receipt-tried.result
    (ap (λ (e : Emitting). e.party.rounds) c.self.view_is) grew c.to_word.ensures.word c.tried_with_receipt-tried.ensures.numbers
