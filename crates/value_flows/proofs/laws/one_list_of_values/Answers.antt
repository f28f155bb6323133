use Rattle.round_lock.proofs.Readings.{reads}
use Rattle.value_flows.specs.Does.{IsFirst, Does}
use Rattle.value_flows.proofs.Histories.{left_latest}
use Rattle.value_flows.proofs.Places.{none_missed}
use Rattle.value_flows.proofs.laws.one_list_of_values.Goals as goal

pub returns : goal.returns
returns g c = λ table law.
    let r = reads IsFirst Does law.items table.views law.history in (
      law.items,
      law.lies,
      record {
        calls = r.log;
        parts = r.parts;
        seen_by = r.seen_by;
        under = λ ring is. left_latest r.made r.log ring (r.under ring is);
        taken = λ pass v ring at has. left_latest r.made r.log ring (r.taken pass v ring at has).0;
        none_missed = λ ring is keeps each. none_missed r.made r.log ring (r.under ring is) keeps each;
      },
    )
