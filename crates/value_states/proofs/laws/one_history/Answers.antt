use Rattle.round_lock.proofs.Readings.{reads}
use Rattle.value_states.specs.Does.{IsFirst, Does}
use Rattle.value_states.proofs.Histories.{left_last}
use Rattle.value_states.proofs.laws.one_history.Goals as goal

pub returns : goal.returns
returns g c = λ table law.
    let r = reads IsFirst Does law.items table.views law.history in (
      law.items,
      law.lies,
      record {
        made = r.made;
        calls = r.log;
        parts = r.parts;
        seen_by = r.seen_by;
        under = λ state is. left_last r.made r.log state (r.under state is);
        taken = λ pass v state at has. left_last r.made r.log state (r.taken pass v state at has).0;
      },
    )
