use Rattle.std.proofs.Common.{◌≡◌, true, Ok, Err, Result}
use Rattle.std.specs.Result.{is_ok, OnOk}
use Rattle.script_run.proofs.names.Names.bind.Goals as goal

-- what holds of a result that is no error
held : {T E P : Type 0} (r : Result T E) → is_ok r ≡ true → OnOk r P → P
held (Ok x) ok p = p
held (Err e) ok p = cc

pub returns : goal.returns
returns c = λ other. (held c.insert.result (c.insert.ensures.succeeds c.requires) c.insert.ensures.updates).0 (record { ref_ptr = (0, 0); now = other })
