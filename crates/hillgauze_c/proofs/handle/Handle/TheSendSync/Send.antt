use mir.Raw.{raw}
use base.Shift.{Keyless}
use denote.Memory.{lone}
use denote.RawPtr.{Ptr}
use denote.Struct.Struct.{exits_of}
use denote.Struct.Owning.{shape, fields, to}
use denote.Param.Send.{IsSend, AllSend, owning_send, struct_send, sendable}
use Rattle.std.specs.Prelude.{Option, None, Some}
use Rattle.std.proofs.Crossing as heap
use Rattle.std_alloc.proofs.SendSync.{quiet, lies}
use Rattle.std_heap.specs.declared.Global.{Global}
use Rattle.std_heap.proofs.Global.TheSendSync as handle
use Rattle.hillgauze_c.specs.declared.object.Object.{Object}
use Rattle.hillgauze_c.specs.contracts.object.Object as Home
use Rattle.hillgauze_c.proofs.object.Object.TheSendSync.{the_send as home}
use Rattle.hillgauze_c.specs.Ownership.{handle_owns}
use Rattle.hillgauze_c.specs.contracts.handle.Handle.{the_row, the_type}

-- what it owns beside its fields may go to another thread, as the object may
goes : (a : Global) (p : Ptr) (o : Option Object) → Keyless (handle_owns a p o)
goes a p None = λ _. tt
goes a p (Some x) = (lies Home.the_row home p x, heap.frees.frees a (raw (lone Home.the_row.mir)) p)

pub send : IsSend the_row
send =
    let all : AllSend (fields the_type) = (search sendable, (handle.the_field_send, tt)) in
    owning_send the_type all (λ d. goes d.alloc d.ptr d.object)
    (λ k. quiet (to the_type) (exits_of k (fields the_type)) ((struct_send (shape the_type) all).leaving k))
