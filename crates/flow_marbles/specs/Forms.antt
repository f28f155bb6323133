-- What a script is drawn as.
use Rattle.std.specs.Prelude.{if◌then◌else◌}
use Rattle.marble_drawing.specs.declared.drawing.Form.{Form}
use Rattle.marble_drawing.specs.declared.drawing.Form.TheVariants.{Svg, Text}
use Rattle.program_words.specs.declared.wish.Wish.{Wish}

abbrev pub form_of : Wish → Form
form_of wish = if wish.is_text then Text else Svg
