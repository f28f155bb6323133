-- What the option parser's clauses say of a command line.
use Rattle.std.proofs.Common.{rules, refl, ap, inl, inr, map, codes, true, ℕ, ◌≡◌, ◌≢◌, ◌∙◌, Bor, List, [], ◌∷◌, Option, Result, Ok, Err, IfErr}
use Rattle.std.specs.Option.{option_map, unwrap_or}
use Rattle.std.specs.Result.{IsErrAnd}
use Rattle.clap.specs.Words.{App, HasKind, Kinds, all_of, fault_of, found_of, is_simple, is_simple_and_free, kind_of, matched_of, matches_of, raw_values, rows_of}
use Rattle.clap.specs.declared.error.Error.{Error}
use Rattle.clap.specs.declared.error.kind.ErrorKind.TheVariants.{OutOfMemory}
use Rattle.clap.specs.declared.parser.matches.ArgMatches.{ArgMatches}
use Rattle.clap.proofs.OnLiterals.{clap_on_literals}
use Rattle.clap.proofs.WalkLemmas.{raw_values-rows}
use Rattle.program_words.specs.declared.fault.WordsFault.{WordsFault}
use Rattle.program_words.specs.declared.fault.WordsFault.TheVariants.{Usage}
use Rattle.program_words.specs.Asked.{plain, plain_in}

pub is_plain : is_simple plain ≡ true
unfolding clap_on_literals
is_plain = refl

pub is_free : is_simple_and_free plain ≡ true
unfolding clap_on_literals
is_free = refl

-- the words that were found are those of the command line
pub taken : (words : List (List ℕ)) (m : ArgMatches) (items : List (Bor (List ℕ))) (found : Option (List (List ℕ)))
    → rows_of (found_of m) ≡ matches_of plain words
    → found ≡ option_map raw_values (matched_of (found_of m) (codes "word"))
    → map (λ s. s.now) items ≡ unwrap_or found [] → map (λ s. s.now) items ≡ plain_in words
taken words m items found rows is same =
    same ∙ ap (λ o. unwrap_or o []) (is ∙ raw_values-rows (found_of m) (codes "word") ∙ ap (all_of (codes "word")) rows)

-- an error that isn't want of memory comes of a fault
pub has_fault : (kinds : Kinds) (e : Error) → HasKind kinds e → kind_of e ≢ OutOfMemory → kinds ≢ []
has_fault [] e (inl h) other = absurd (other h)
has_fault [] e (inr h) other = absurd h
has_fault (kind ∷ kinds) e h other = λ is. search rules

-- so is the refusal that it becomes
pub refused : {T : Type 0} (a : App) (words : List (List ℕ)) (e : Error) (r : Result T WordsFault) → a ≡ plain → HasKind (fault_of a words) e
    → IsErrAnd r (λ fault. fault ≡ Usage → kind_of e ≢ OutOfMemory) → IfErr r (λ fault. fault ≡ Usage → fault_of plain words ≢ [])
refused a words e (Ok value) is has other = absurd other
refused a words e (Err fault) is has other =
    λ usage none. has_fault (fault_of a words) e has (other usage) (ap (λ b. fault_of b words) is ∙ none)
