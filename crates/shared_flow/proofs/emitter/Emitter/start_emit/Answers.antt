use Rattle.std.proofs.Common.{rules, ◌≡◌, ◌⊎◌, IfErr, ◌≤◌, ◌++◌, ◌∷◌, [], sym, ap, subst, ◌∙◌, refl}
use Rattle.flow_terms.specs.declared.refusal.Refusal.TheVariants.{Spent, EmitsFull}
use Rattle.shared_lane.specs.Sequencers.{next}
use Rattle.shared_rounds.specs.declared.round.Emission.{Emission}
use Rattle.shared_rounds.specs.declared.round.Round.TheVariants as round
use Rattle.shared_rounds.specs.Names.{SharedSeen}
use Rattle.shared_rounds.specs.Entering.{IsCalled, Made}
use Rattle.shared_rounds.specs.Reach.{Party, Reach, party_of}
use Rattle.shared_rounds.specs.Rounds.{IsAfter, IsReceiptFor, numbers_begun}
use Rattle.shared_rounds.specs.Tries.{BegunUnder, IfBegun, ticket_of}
use Rattle.shared_rounds.proofs.Doing.{is_called}
use Rattle.shared_flow.specs.Emitters.{emission_by}
use Rattle.shared_flow.specs.Parties.{Emitting, IsItsReceipt, OfFlow, WasAnswered}
use Rattle.shared_flow.proofs.Rising.{after_start, start_refused, start_rises, start_under, ticket_by_number}
use Rattle.shared_flow.proofs.Waiting.{begun_policy, begun_receipt, untold_receipt, untold_refusal, untold_policy}
use Rattle.shared_flow.proofs.Making.{made}
use Rattle.shared_flow.proofs.Emitted.{has_begun}
use Rattle.shared_flow.proofs.OwnPart.{own_grown}
use Rattle.shared_flow.proofs.emitter.Emitter.start_emit.Goals as goal

pub returns : goal.returns
returns g c =
    let begins = c.begun_with_receipt-begun.ensures.begins.0 in
    let numbers = c.begun_with_receipt-begun.ensures.begins.1 in
    let told = sym c.begun_with_receipt-begun.ensures.begins.2 in
    let party : Party = party_of c.self.inside.access in
    let old : Emitting = c.args.self.now in
    let found = c.enter-inside.result.shared.value in
    let later = subst (λ (s : SharedSeen). IfBegun c.start_emit-answer.result (λ n. next s.sequencer ≤ n)) c.deref_mut.ensures.value c.start_emit-answer.ensures.later in
    let rises = subst (λ last. IfBegun begins (λ r. IsAfter last r.number)) (ap (λ (e : Emitting). e.last) c.self.view_is)
    (start_rises begins c.self.inside.last (next found.sequencer) c.self.inside.access.rounds (subst (λ a. IfBegun a (λ n. next found.sequencer ≤ n)) numbers later) c.enter-inside.ensures.below c.self.invariant.1) in
    let emission : Emission = record { emitter = c.self.inside.id; word = c.to_word.result } in
    let flow = ap (λ (s : SharedSeen). s.name) c.deref_mut-2.ensures.value ∙ c.start_emit-answer.ensures.does.0 ∙ ap (λ (s : SharedSeen). s.name) c.deref_mut.ensures.value in
    let of_lane = subst (λ name. IfBegun begins (IsReceiptFor name.lane emission)) flow c.begun_with_receipt-begun.ensures.begins.3 in
    let its = begun_receipt begins party emission found.name c.enter-inside.ensures.named of_lane in
    let worded = subst (λ word. IfBegun begins (IsItsReceipt party (record { emitter = c.self.inside.id; word = word }))) c.to_word.ensures.word its in
    let receipt = subst (λ (e : Emitting). IfBegun begins (IsItsReceipt e.party (emission_by e (g.T.Word.word c.args.value)))) c.self.view_is worded in
    let it = made (round.Start emission c.start_emit-answer.result) c.self.inside.access c.enter-inside.new.self c.leave.new.self found c.enter-inside.ensures.taken c.enter-inside.ensures.found c.leave.ensures.left in
    let answered = subst (λ a. Made (round.Start emission a) party (party_of c.leave.new.self)) numbers it in
    let of_value = subst (λ word. Made (round.Start (record { emitter = c.self.inside.id; word = word }) (numbers_begun begins)) party (party_of c.leave.new.self)) c.to_word.ensures.word answered in
    let did = subst (λ (e : Emitting). Made (round.Start (emission_by e (g.T.Word.word c.args.value)) (numbers_begun begins)) e.party (party_of c.leave.new.self)) c.self.view_is of_value in
    let under = start_under begins found.name.config.policy (subst (BegunUnder found.name.config.policy) numbers (subst (λ (s : SharedSeen). BegunUnder s.name.config.policy c.start_emit-answer.result) c.deref_mut.ensures.value c.start_emit-answer.ensures.policy)) in
    let policy = subst (λ (e : Emitting). OfFlow e.party (λ name. BegunUnder name.config.policy begins)) c.self.view_is (begun_policy begins party found.name c.enter-inside.ensures.named under) in
    let ticket = c.begun_ticket-self-inside.ensures ∙ ap ticket_of numbers ∙ ticket_by_number begins in
    let refused = start_refused begins (λ e. (e ≡ Spent) ⊎ (e ≡ EmitsFull)) (subst (λ a. IfErr a (λ e. (e ≡ Spent) ⊎ (e ≡ EmitsFull))) numbers c.start_emit-answer.ensures.refused) in
    let grew = ap (λ (r : Reach). r.rounds) c.leave.ensures.left.after ∙ ap (λ (r : Reach). r.rounds ++ round.Start emission c.start_emit-answer.result ∷ []) c.enter-inside.ensures.taken in record {
      has = has_begun old c.self.inside.access.rounds c.leave.new.self.rounds emission (g.T.Word.word c.args.value) c.start_emit-answer.result begins c.begun_with_receipt-begun.result
          (ap (λ (e : Emitting). e.party.rounds) c.self.view_is) grew c.to_word.ensures.word numbers c.begun_with_receipt-begun.ensures.begins.2;
      round = (begins, c.begun_with_receipt-begun.ensures.begins.2, search rules, did);
      receipt = subst (λ a. IfBegun a (IsItsReceipt old.party (emission_by old (g.T.Word.word c.args.value)))) told (untold_receipt begins _ receipt);
      rises = subst (λ a. IfBegun a (λ r. IsAfter old.last r.number)) told (untold_receipt begins _ rises);
      refused = subst (λ a. IfErr a (λ e. (e ≡ Spent) ⊎ (e ≡ EmitsFull))) told (untold_refusal begins _ refused);
      policy = λ name at. subst (BegunUnder name.config.policy) told (untold_policy begins name.config.policy (policy name at));
    }

pub invariant_of-self : goal.invariant_of-self
invariant_of-self g c =
    let rounds = c.self.inside.access.rounds in
    let answer = c.start_emit-answer.result in
    let emission : Emission = record { emitter = c.self.inside.id; word = c.to_word.result } in
    let grew = ap (λ (r : Reach). r.rounds) c.leave.ensures.left.after ∙ ap (λ (r : Reach). r.rounds ++ round.Start emission answer ∷ []) c.enter-inside.ensures.taken in
    let ends = after_start c.self.inside.last rounds emission answer c.self.invariant.1 in
    (ap (λ (r : Reach). r.held) c.leave.ensures.left.after, subst (WasAnswered c.last_begun-self-inside.result) (sym grew) (subst (λ l. WasAnswered l (rounds ++ round.Start emission answer ∷ [])) (sym c.last_begun-self-inside.ensures) ends), own_grown c.self.inside.id c.self.inside.access.rounds c.leave.new.self.rounds (round.Start emission answer) grew c.self.invariant.2 refl)

pub leave-requires : goal.leave-requires
leave-requires g c =
    let found : SharedSeen = c.enter-inside.result.shared.value in
    let emission : Emission = record { emitter = c.self.inside.id; word = c.to_word.result } in
    let answer = c.start_emit-answer.result in
    let called = is_called c.enter-inside.new.self found c.deref_mut.result.now c.start_emit-answer.new.self c.enter-inside.result.before (round.Start emission answer) (ap (λ (r : Reach). r.held) c.enter-inside.ensures.taken)
    c.enter-inside.ensures.before c.deref_mut.ensures.value c.start_emit-answer.ensures.does c.start_emit-answer.ensures.asleep in
    record { round = subst (IsCalled c.enter-inside.new.self c.enter-inside.result.before (round.Start emission answer)) (sym (c.begun_with_receipt-begun.ensures.same ∙ c.deref_mut-2.ensures.value)) called }
