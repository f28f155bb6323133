use Rattle.std.proofs.Common.{⊎_elim, inl, inr}
use Rattle.shared_lane.proofs.promises.closed_cursors_stay.Goals as goal

pub returns : goal.returns
returns c key s law j v at quit = let gone = (law.each_seat j v at).quit quit in
    ⊎_elim (λ shut. inl ((law.each_place v.reading.place gone.1).shut shut)) (λ again. inr again) gone.2.1
