-- A handle with an object, and its parts, own what a box at the same types owns.
use mir.Syntax.{impl, tnil, dnil}
use mathlib.Core.List.{[]}
use denote.RattleType.{RattleType}
use denote.Signature.{Slot, plain}
use Rattle.std_alloc.proofs.BoxSteps.Form.{Bx}
use Rattle.std_heap.specs.contracts.Global as Heap
use Rattle.std_heap.specs.contracts.GlobalAllocator.TheImpl.{ghosts, dict}
use Rattle.std_heap.proofs.Global.TheLaws as heap
use Rattle.hillgauze_c.specs.contracts.object.Object as Home
use Rattle.hillgauze_c.proofs.object.Object.TheLaws as home
use Rattle.hillgauze_c.specs.contracts.handle.parts.Parts as Parts
use Rattle.hillgauze_c.specs.contracts.handle.Handle as Sealed

abbrev pub E : Bx
E = record { row = Home.the_row; laws = home.the_row_laws; al = record { row = Heap.the_row; laws = heap.the_row_laws; g = ghosts; d = dict; drops = impl [] tnil dnil } }

abbrev pub Apart : RattleType
Apart = Parts.the_row Home.the_row Heap.the_row ghosts

abbrev pub FromParts : Slot 0
FromParts = plain (λ _. Apart)

abbrev pub FromHandle : Slot 0
FromHandle = plain (λ _. Sealed.the_row)
