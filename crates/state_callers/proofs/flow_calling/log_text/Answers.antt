use Rattle.std.proofs.Common.{◌≡◌, Global, String, [], ◌∷◌, ◌++◌, sym, ap, ◌∙◌, subst, inl}
use Rattle.std.specs.String.{string_bytes}
use Rattle.value_flows.specs.Waits.{Awaits}
use Rattle.state_callers.specs.Logs.{IsLogOf}
use Rattle.state_callers.proofs.Logging.{at_end, given, left_it, missed}
use Rattle.state_callers.proofs.flow_calling.log_text.Goals as goal

abbrev is_clone : String Global → String Global → Type 0
is_clone s t = string_bytes t ≡ string_bytes s

pub returns-in_err-text-clause-logged : goal.returns-in_err-text-clause-logged
returns-in_err-text-clause-logged g c =
    let before = c.args.texts.now in
    let after = c.next.new.self in
    let log = c.args.log.now.items in
    subst (λ l. IsLogOf is_clone before log → IsLogOf is_clone after l) (sym c.reserve.ensures.items) (left_it is_clone _ before after log c.in_err-text.ensures)

pub returns-in-Value-clause-logged : goal.returns-in-Value-clause-logged
returns-in-Value-clause-logged g c =
    let before = c.args.texts.now in
    let after = c.next.new.self in
    let log = c.args.log.now.items in
    let text = c.in-Value.text in
    let came = subst (λ r. Awaits is_clone before r after) c.in-Value.is c.in_ok-text.ensures in
    let joined = c.push_reserved.ensures.items ∙ ap (λ l. l ++ text ∷ []) c.reserve.ensures.items in
    subst (λ l. IsLogOf is_clone before log → IsLogOf is_clone after l) (sym joined) (given is_clone before after text log came)

pub returns-in-Value-clause-turns : goal.returns-in-Value-clause-turns
returns-in-Value-clause-turns g c =
    let came = subst (λ r. Awaits is_clone c.args.texts.now r c.next.new.self) c.in-Value.is c.in_ok-text.ensures in
    (came.0, came.1, inl (came.2.0, came.2.1))

pub returns-in-Missed-clause-logged : goal.returns-in-Missed-clause-logged
returns-in-Missed-clause-logged g c =
    let before = c.args.texts.now in
    let after = c.next.new.self in
    let log = c.args.log.now.items in
    let came = subst (λ r. Awaits is_clone before r after) c.in-Missed.is c.in_ok-text.ensures in
    subst (λ l. IsLogOf is_clone before log → IsLogOf is_clone after l) (sym c.reserve.ensures.items) (missed is_clone before after c.in-Missed.field-0 log came)

pub returns-in-Stopped-clause-logged : goal.returns-in-Stopped-clause-logged
returns-in-Stopped-clause-logged g c =
    let before = c.args.texts.now in
    let after = c.next.new.self in
    let log = c.args.log.now.items in
    let came = subst (λ r. Awaits is_clone before r after) c.in-Stopped.is c.in_ok-text.ensures in
    subst (λ l. IsLogOf is_clone before log → IsLogOf is_clone after l) (sym c.reserve.ensures.items) (at_end is_clone before after log came)
