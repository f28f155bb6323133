use Rattle.std.proofs.Common.{rules, ap, ap₂, map, string_bytes, codes, ◌≡◌, ◌∙◌, sym, Some, None}
use Rattle.clap.specs.Words.{app_of, fault_of, is_simple, is_simple_and_free, matches_of, new_rule, rule_of, with_rule}
use Rattle.clap.specs.declared.builder.action.ArgAction.TheVariants.{Append}
use Rattle.program_words.specs.Asked.{plain}
use Rattle.program_words.proofs.Parsing.{is_free, is_plain, refused, taken}
use Rattle.program_words.proofs.plain.plain_words.Goals as goal

-- src/plain.rt:34:19
pub returns-in_err-matches-clause-fault : goal.returns-in_err-matches-clause-fault
returns-in_err-matches-clause-fault c =
    let words = map string_bytes c.args.words.now in
    let rule_is : rule_of c.action-word.result ≡ record (new_rule (codes "word")) { action = Some Append } = search rules in
    let app_is : app_of c.in_ok-command.command ≡ plain = c.in_ok-command.ensures.shape (search rules) ∙ ap₂ with_rule c.new-2.ensures.app rule_is in
    refused (app_of c.in_ok-command.command) words c.in_err-matches.field-0.0 c.from_residual-in_err-matches.result app_is
    (c.in_err-matches.ensures.kinds (ap is_simple_and_free app_is ∙ is_free)) c.from_residual-in_err-matches.ensures.1

-- src/plain.rt:31:1
pub returns-in-Some-clause-faultless : goal.returns-in-Some-clause-faultless
returns-in-Some-clause-faultless c =
    let words = map string_bytes c.args.words.now in
    let rule_is : rule_of c.action-word.result ≡ record (new_rule (codes "word")) { action = Some Append } = search rules in
    let app_is : app_of c.in_ok-command.command ≡ plain = c.in_ok-command.ensures.shape (search rules) ∙ ap₂ with_rule c.new-2.ensures.app rule_is in
    ap (λ a. fault_of a words) (sym app_is) ∙ c.in_ok-matches.ensures.kinds (ap is_simple_and_free app_is ∙ is_free)

-- src/plain.rt:31:1
pub returns-in-Some-clause-words : goal.returns-in-Some-clause-words
returns-in-Some-clause-words c =
    let words = map string_bytes c.args.words.now in
    let rule_is : rule_of c.action-word.result ≡ record (new_rule (codes "word")) { action = Some Append } = search rules in
    let app_is : app_of c.in_ok-command.command ≡ plain = c.in_ok-command.ensures.shape (search rules) ∙ ap₂ with_rule c.new-2.ensures.app rule_is in
    let rows = (c.in_ok-matches.ensures.matches (ap is_simple app_is ∙ is_plain)).0 ∙ ap (λ a. matches_of a words) app_is in
    taken words c.in_ok-matches.matches c.in_ok-from_slice-in-Some.field-0.items (Some (map (λ s. s.now) c.in-Some.found.now)) rows
    c.in-Some.ensures (ap (map (λ s. s.now)) c.in_ok-from_slice-in-Some.ensures.items)

-- src/plain.rt:24:1
pub returns-clause-faultless : goal.returns-clause-faultless
returns-clause-faultless c =
    let words = map string_bytes c.args.words.now in
    let rule_is : rule_of c.action-word.result ≡ record (new_rule (codes "word")) { action = Some Append } = search rules in
    let app_is : app_of c.in_ok-command.command ≡ plain = c.in_ok-command.ensures.shape (search rules) ∙ ap₂ with_rule c.new-2.ensures.app rule_is in
    ap (λ a. fault_of a words) (sym app_is) ∙ c.in_ok-matches.ensures.kinds (ap is_simple_and_free app_is ∙ is_free)

-- src/plain.rt:24:1
pub returns-clause-words : goal.returns-clause-words
returns-clause-words c =
    let words = map string_bytes c.args.words.now in
    let rule_is : rule_of c.action-word.result ≡ record (new_rule (codes "word")) { action = Some Append } = search rules in
    let app_is : app_of c.in_ok-command.command ≡ plain = c.in_ok-command.ensures.shape (search rules) ∙ ap₂ with_rule c.new-2.ensures.app rule_is in
    let rows = (c.in_ok-matches.ensures.matches (ap is_simple app_is ∙ is_plain)).0 ∙ ap (λ a. matches_of a words) app_is in
    taken words c.in_ok-matches.matches c.new-in-None.result.items None rows c.in-None.ensures (ap (map (λ s. s.now)) c.new-in-None.ensures.items)
