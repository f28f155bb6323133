use Rattle.std.proofs.Common.{◌++◌, take, drop, ap, ◌∙◌, arith}
use Rattle.flow_terms.specs.Few.{values_of}
use Rattle.shared_core.proofs.Handed.{in_fours}
use Rattle.shared_core.proofs.prelude.Prelude.of.Goals as goal

pub returns-clause-held : goal.returns-clause-held
returns-clause-held g c =
    let values = c.args.values.now in
    let third = c.few_from-3.result in
    let fourth = c.few_from-4.result in
    ap (λ vs. vs ++ (values_of c.few_from-2.result ++ (values_of third ++ values_of fourth))) c.few_from.ensures
    ∙ ap (λ vs. take 4 (drop 0 values) ++ (vs ++ (values_of third ++ values_of fourth))) c.few_from-2.ensures
    ∙ ap (λ vs. take 4 (drop 0 values) ++ (take 4 (drop 4 values) ++ (vs ++ values_of fourth))) c.few_from-3.ensures
    ∙ ap (λ vs. take 4 (drop 0 values) ++ (take 4 (drop 4 values) ++ (take 4 (drop 8 values) ++ vs))) c.few_from-4.ensures
    ∙ in_fours values (omega (arith, c.if-values-gt-LONGEST.false))
