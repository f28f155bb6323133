use Rattle.state_flow.proofs.Given.{given_none, given_still, given_more}
use Rattle.state_flow.proofs.laws.given_is_picked.Goals as goal

pub returns : goal.returns
returns g c = record {
  begins = given_none g.T.Word.word;
  stays = given_still g.T.Word.word;
  asks = given_more g.T.Word.word;
}
