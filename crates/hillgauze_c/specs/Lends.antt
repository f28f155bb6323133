-- What a handle ends as, where a `&mut` to its object is returned.
use Rattle.std.specs.Prelude.{Option, Some}
use Rattle.std.specs.Borrow.{LendsIf, Fml, MutBor}
use Rattle.hillgauze_c.specs.declared.handle.Handle.{Handle}
use Rattle.hillgauze_c.specs.contracts.handle.Handle.{the_row}
use Rattle.hillgauze_c.specs.declared.object.Object.{Object}
use Rattle.hillgauze_c.specs.contracts.object.Object as object

-- the handle with another object
abbrev pub with_object : Handle → Object → Handle
with_object h x = record { ptr = h.ptr; alloc = h.alloc; object = Some x }

-- the handle ends with the object last written through r, or null, as it was
abbrev pub LendsObject : MutBor Handle → Option (MutBor Object) → Fml
LendsObject h r = LendsIf the_row object.the_row h r (with_object h.now) h.now
