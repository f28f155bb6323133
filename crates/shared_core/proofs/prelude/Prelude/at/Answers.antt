use Rattle.std.proofs.Common.{◌-◌, sym, ◌∙◌, arith}
use Rattle.flow_terms.specs.Few.{values_of}
use Rattle.shared_core.proofs.Handed.{length-prelude, past_left, in_left, in_right, some_within}
use Rattle.shared_core.proofs.prelude.Prelude.at.Goals as goal

pub returns-in-Some : goal.returns-in-Some
returns-in-Some g c = in_left (values_of c.args.self.now.first) _ c.args.index c.in-Some.value (sym c.in-Some.ensures)

pub overflow_sub-after_first : goal.overflow_sub-after_first
overflow_sub-after_first g c = omega (arith, c.few_len.ensures.count, past_left (values_of c.args.self.now.first) c.args.index (sym c.in_default.ensures))

pub returns-in-Some-few_at : goal.returns-in-Some-few_at
returns-in-Some-few_at g c =
    let prelude = c.args.self.now in
    let first = past_left (values_of prelude.first) c.args.index (sym c.in_default.ensures) in
    in_right (values_of prelude.first) _ c.few_len.result c.args.index c.few_len.ensures.count (omega (arith, c.few_len.ensures.count, first))
    ∙ in_left (values_of prelude.second) _ (c.args.index - c.few_len.result) c.in-Some-few_at.value (sym c.in-Some-few_at.ensures)

pub overflow_sub-after_second : goal.overflow_sub-after_second
overflow_sub-after_second g c =
    omega (arith, c.few_len-2.ensures.count, past_left (values_of c.args.self.now.second) (c.args.index - c.few_len.result) (sym c.in_default-few_at.ensures))

pub returns-in-Some-few_at-2 : goal.returns-in-Some-few_at-2
returns-in-Some-few_at-2 g c =
    let prelude = c.args.self.now in
    let after_first = c.args.index - c.few_len.result in
    let first = past_left (values_of prelude.first) c.args.index (sym c.in_default.ensures) in
    let second = past_left (values_of prelude.second) after_first (sym c.in_default-few_at.ensures) in
    in_right (values_of prelude.first) _ c.few_len.result c.args.index c.few_len.ensures.count (omega (arith, c.few_len.ensures.count, first))
    ∙ in_right (values_of prelude.second) _ c.few_len-2.result after_first c.few_len-2.ensures.count (omega (arith, c.few_len-2.ensures.count, second))
    ∙ in_left (values_of prelude.third) _ (after_first - c.few_len-2.result) c.in-Some-few_at-2.value (sym c.in-Some-few_at-2.ensures)

pub overflow_sub-after_second-2 : goal.overflow_sub-after_second-2
overflow_sub-after_second-2 g c =
    omega (arith, c.few_len-3.ensures.count, past_left (values_of c.args.self.now.third) ((c.args.index - c.few_len.result) - c.few_len-2.result) (sym c.in_default-few_at-2.ensures))

pub unwrap-requires : goal.unwrap-requires
unwrap-requires g c =
    let prelude = c.args.self.now in
    let after_second = (c.args.index - c.few_len.result) - c.few_len-2.result in
    some_within (values_of prelude.fourth) (after_second - c.few_len-3.result) c.few_at-4.result c.few_at-4.ensures
    (omega (
      arith,
      c.requires,
      length-prelude prelude,
      c.few_len.ensures.count,
      c.few_len-2.ensures.count,
      c.few_len-3.ensures.count,
      past_left (values_of prelude.first) c.args.index (sym c.in_default.ensures),
      past_left (values_of prelude.second) (c.args.index - c.few_len.result) (sym c.in_default-few_at.ensures),
      past_left (values_of prelude.third) after_second (sym c.in_default-few_at-2.ensures),
    ))

pub returns : goal.returns
returns g c =
    let prelude = c.args.self.now in
    let after_first = c.args.index - c.few_len.result in
    let after_second = after_first - c.few_len-2.result in
    let first = past_left (values_of prelude.first) c.args.index (sym c.in_default.ensures) in
    let second = past_left (values_of prelude.second) after_first (sym c.in_default-few_at.ensures) in
    let third = past_left (values_of prelude.third) after_second (sym c.in_default-few_at-2.ensures) in
    in_right (values_of prelude.first) _ c.few_len.result c.args.index c.few_len.ensures.count (omega (arith, c.few_len.ensures.count, first))
    ∙ in_right (values_of prelude.second) _ c.few_len-2.result after_first c.few_len-2.ensures.count (omega (arith, c.few_len-2.ensures.count, second))
    ∙ in_right (values_of prelude.third) (values_of prelude.fourth) c.few_len-3.result after_second c.few_len-3.ensures.count (omega (arith, c.few_len-3.ensures.count, third))
    ∙ sym c.few_at-4.ensures
    ∙ c.unwrap.ensures
