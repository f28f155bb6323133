-- The answers as bytes.
use Rattle.std.specs.Prelude.{ℕ, List, [], ◌∷◌, ◌++◌, codes, decimal, true, false, Some, None}
use Rattle.flow_terms.specs.Refusals.{number_of}
use Rattle.script_commands.specs.Listings.{listing}
use Rattle.script_commands.specs.declared.answer.Answer.{Answer}
use Rattle.script_commands.specs.declared.answer.Answer.TheVariants.{Ok, Refused, Accepted, Dropped, Full, Waiting, Done, Removed, Left, Gone}
use Rattle.script_commands.specs.declared.answer.Answer.TheVariants.{Value, Pending, Closed, Took, Overwrote, Ended, Finished, Failed, On, Off}
use Rattle.script_commands.specs.declared.answer.Answer.TheVariants.{Number, Truth, Values, Collected, TooMany, BadCommand}

-- the word that is the whole answer, or nothing where the answer says more
abbrev pub word_of : Answer → List ℕ
word_of Ok = codes "ok"
word_of Accepted = codes "accepted"
word_of Dropped = codes "dropped"
word_of Full = codes "full"
word_of Waiting = codes "waiting"
word_of Done = codes "done"
word_of Removed = codes "removed"
word_of Left = codes "left"
word_of Gone = codes "gone"
word_of Pending = codes "pending"
word_of Closed = codes "closed"
word_of Took = codes "took"
word_of Overwrote = codes "overwrote"
word_of Ended = codes "ended"
word_of Finished = codes "finished"
word_of On = codes "on"
word_of Off = codes "off"
word_of TooMany = codes "too many"
word_of _ = []

abbrev pub text_of : Answer → List ℕ
text_of (Refused refusal) = codes "refused " ++ decimal (number_of refusal)
text_of (Value value) = codes "value " ++ decimal value
text_of (Failed fault) = codes "failed " ++ decimal fault
text_of (Number number) = decimal number
text_of (Truth true) = codes "true"
text_of (Truth false) = codes "false"
text_of (Values values) = listing values
text_of (Collected values None) = listing values ++ codes " finished"
text_of (Collected values (Some fault)) = listing values ++ (codes " failed " ++ decimal fault)
text_of (BadCommand line reason) = codes "line " ++ (decimal line ++ codes ": bad command")
text_of answer = word_of answer

-- an answer and the newline after it
abbrev pub line_of : Answer → List ℕ
line_of answer = text_of answer ++ (10 ∷ [])
