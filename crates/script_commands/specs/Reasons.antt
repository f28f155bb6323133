-- Why a line is bad.
use Rattle.std.specs.Prelude.{ℕ, List, [], ◌∷◌, Bool, true, false, bytes_eq, codes, if◌then◌else◌}
use Rattle.script_commands.specs.declared.reason.Reason.{Reason}
use Rattle.script_commands.specs.declared.reason.Reason.TheVariants.{TooLong, NoCommand, Words, Unbound, Bound, OtherKind}
use Rattle.script_commands.specs.Commands.{Form, forms}

abbrev pub sentence_of : Reason → List ℕ
sentence_of TooLong = codes "it has more than 1,024 bytes"
sentence_of NoCommand = codes "its first word is no command"
sentence_of Words = codes "what stands after its first word isn't what that command takes"
sentence_of Unbound = codes "the name that it needs stands for nothing"
sentence_of Bound = codes "its new name stands for something already"
sentence_of OtherKind = codes "the name that it needs stands for something of another kind"

-- whether a line of the table begins with this word
abbrev pub has_keyword : List Form → List ℕ → Bool
has_keyword [] first = false
has_keyword (form ∷ rest) first = if bytes_eq first form.0 then true else has_keyword rest first

-- WHY NO COMMAND COMES of words of which this is the first, where none does
unfoldable pub against_words : List ℕ → Reason
against_words first = if has_keyword forms first then Words else NoCommand
