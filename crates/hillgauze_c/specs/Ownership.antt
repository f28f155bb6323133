-- What a handle owns: nothing at null, else the object behind its pointer, and the right to free its block.
use Rattle.std.specs.Prelude.{◌≡◌, Option, None, Some}
use Rattle.std.specs.Box.Ownership.{box_owns}
use base.Fml.{Fml, ftrue, fex}
use denote.RawPtr.{Ptr, null_ptr}
use Rattle.std_heap.specs.declared.Global.{Global}
use Rattle.std_heap.specs.contracts.GlobalAllocator.TheImpl as heap
use Rattle.hillgauze_c.specs.declared.object.Object.{Object}
use Rattle.hillgauze_c.specs.contracts.object.Object as object

abbrev pub handle_owns : Global → Ptr → Option Object → Fml
handle_owns alloc ptr None = fex (ptr ≡ null_ptr) (λ _. ftrue)
handle_owns alloc ptr (Some x) = box_owns (heap.ghosts.dealloc_token alloc) object.the_row ptr x
