use Rattle.std.proofs.Common.{[], refl, sym}
use Rattle.std.proofs.lemmas.List.{append-nil}
use Rattle.shared_core.proofs.rest.Rest.give_into.Goals as goal

pub loop-self-init : goal.loop-self-init
loop-self-init g c = (refl, ([], sym (append-nil c.args.out.now.items), refl, refl, sym (append-nil c.args.self.now.given)))
