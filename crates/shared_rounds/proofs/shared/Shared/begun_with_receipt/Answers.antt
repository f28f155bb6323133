use Rattle.std.proofs.Common.{rules, Ok, Err, ap, sym, refl, subst, ◌∙◌}
use Rattle.flow_terms.specs.declared.answers.Begun.TheVariants as begun
use Rattle.shared_rounds.specs.Rounds.{IsLastAccepted}
use Rattle.shared_rounds.specs.Tries.{IfBegun}
use Rattle.shared_rounds.proofs.Receipts.{for_last, is_accepted}
use Rattle.shared_rounds.proofs.shared.Shared.begun_with_receipt.Goals as goal

pub receipt-requires : goal.receipt-requires
receipt-requires c =
    let q = c.args.self.now.sequencer in
    is_accepted q c.args.emission c.in-Accepted.number (subst (λ a. IfBegun a (IsLastAccepted q c.args.emission)) (c.in_ok-number.was ∙ ap Ok c.in-Accepted.is) c.requires)

pub returns-in-Accepted-clause-begins : goal.returns-in-Accepted-clause-begins
returns-in-Accepted-clause-begins c =
    let s = c.args.self.now in
    let e = c.args.emission in
    let r = c.receipt.result in
    let last = subst (λ a. IfBegun a (IsLastAccepted s.sequencer e)) (c.in_ok-number.was ∙ ap Ok c.in-Accepted.is) c.requires in (
      Ok (begun.Accepted r),
      c.in_ok-number.was ∙ ap Ok (c.in-Accepted.is ∙ ap begun.Accepted (sym c.receipt.ensures.number)),
      refl,
      for_last s.name.lane s.sequencer r e c.in-Accepted.number last c.receipt.ensures.receipt c.receipt.ensures.seen c.receipt.ensures.number,
    )

pub returns-in-Dropped-clause-begins : goal.returns-in-Dropped-clause-begins
returns-in-Dropped-clause-begins c = (Ok begun.Dropped, c.in_ok-number.was ∙ ap Ok c.in-Dropped.is, refl, tt)

pub returns-in-Waiting-clause-begins : goal.returns-in-Waiting-clause-begins
returns-in-Waiting-clause-begins c = (Ok (begun.Waiting c.in-Waiting.field-0), c.in_ok-number.was ∙ ap Ok c.in-Waiting.is, refl, tt)

pub returns-in_err-number-clause-begins : goal.returns-in_err-number-clause-begins
returns-in_err-number-clause-begins c = (Err c.in_err-number.field-0.0, c.in_err-number.was, search rules, tt)
