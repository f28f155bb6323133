use Rattle.flow_script.proofs.Either.{on_each, on_both}
use Rattle.marble_drawing.proofs.drawing.draw_script.Goals as goal

pub picture_of-requires : goal.picture_of-requires
picture_of-requires g c = on_both c.args.engine (λ given. given.0) (λ given. given.0) c.in_ok-answers.ensures

pub returns-in-Ok : goal.returns-in-Ok
returns-in-Ok g c =
    on_each c.args.engine (λ given. (given.0, (c.in_ok-answers.answers.items, given.1, c.in-Ok.ensures)))
    (λ given. (given.0, (c.in_ok-answers.answers.items, given.1, c.in-Ok.ensures))) c.in_ok-answers.ensures
