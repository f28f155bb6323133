use Rattle.std.proofs.Common.{◌≡◌, ℕ, ◌+◌, ◌-◌, ◌<◌, ◌≤◌, length, replicate, false, ap, subst, ◌∙◌, arith, length-append}
use Rattle.std.proofs.lemmas.List.{length-replicate}
use Rattle.flow_terms.specs.Lists.{IsPrefix}
use Rattle.shared_lane.specs.Readers.{IsReaderOf, IsSameReader, at}
use Rattle.shared_lane.specs.Views.{LaneSeen, ReaderSeen, ReceiptSeen}
use Rattle.shared_lane.specs.declared.reader.Taken.TheVariants.{Nothing}
use Rattle.shared_rounds.specs.declared.round.Emission.{Emission}
use Rattle.shared_rounds.specs.Meeting.{Looked}
use Rattle.shared_flow.specs.Preludes.{TookFirst}
use Rattle.shared_rounds.specs.Rounds.{IsReceiptFor}
use Rattle.hot_callers.proofs.shared_calling.emitted_and_heard.Goals as goal

-- a reader that was told of an emission, and then finds nothing, is past it
is_past : (lane : LaneSeen) (e : Emission) (receipt : ReceiptSeen) (r m t : ReaderSeen) → IsReceiptFor lane e receipt → IsReaderOf lane r → IsSameReader r m
    → IsPrefix receipt.seen m.seen → Looked m Nothing t → receipt.number < at t
is_past lane e receipt r m t its of told begins look =
    let n : ℕ = look.1.0 in
    let far : at m ≤ n = look.1.1.0 in
    let end : n ≡ m.shape.first + length t.seen = look.1.2 in
    let story = ap length look.1.1.2 ∙ length-append m.story (replicate (n - at m) false) in
    let lost = length-replicate (n - at m) false in
    let start : t.start ≡ m.start = look.0.0 in
    let now = ap length look.0.3.1 ∙ length-append m.seen look.0.3.0 in
    let then = ap length begins.1 ∙ length-append receipt.seen begins.0 in
    let had = ap length its.2.1 ∙ length-append its.2.0 _ in
    let number = its.2.2 in
    let first : m.shape.first ≡ lane.shape.first = ap (λ z. z.first) (told.2 ∙ of.1) in
    omega (arith, far, end, story, lost, start, now, then, had, number, first)

pub returns-clause-past : goal.returns-clause-past
returns-clause-past g c =
    let name = c.requires.one_flow.0 in
    let receipt = c.in-Ok-Accepted.receipt in
    let before = c.args.subscription.now.reader in
    let after = c.told.new.self in
    let now = c.try_next.new.self in
    let emitted = c.in-Ok-Accepted.ensures in
    let round = (rw c.in-Ok-Accepted.field-0-is at emitted.round) in
    let its = (rw c.in-Ok-Accepted.field-0-is at emitted.receipt) in
    let told = c.told.ensures in
    λ nothing. (
      receipt.number,
      ap (λ e. e.last) round,
      is_past name.lane _ receipt before after.reader now.reader (its.1 name c.requires.one_flow.1) c.requires.one_flow.3 told.reader.0 told.told
          (subst (λ taken. TookFirst (λ word. word) after taken now) nothing c.try_next.ensures.taken).1,
    )
