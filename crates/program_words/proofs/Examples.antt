-- Command lines, and what they ask for.
use Rattle.std.proofs.Common.{refl, codes, ℕ, ◌≡◌, List, [], ◌∷◌, Some, None, true, false}
use Rattle.clap.specs.Words.{fault_of}
use Rattle.clap.proofs.OnLiterals.{clap_on_literals}
use Rattle.script_words.specs.declared.engine.Engine.TheVariants.{Core, Lane}
use Rattle.program_words.specs.Asked.{engine_by, plain, plain_in}
use Rattle.program_words.specs.Wishes.{wish, wish_by}

abbrev alone : List (List ℕ)
alone = codes "flow_runner" ∷ []

abbrev core : List (List ℕ)
core = codes "flow_runner" ∷ codes "core" ∷ []

abbrev lane : List (List ℕ)
lane = codes "flow_runner" ∷ codes "lane" ∷ []

abbrev other : List (List ℕ)
other = codes "flow_runner" ∷ codes "lanes" ∷ []

abbrev two : List (List ℕ)
two = codes "flow_runner" ∷ codes "core" ∷ codes "lane" ∷ []

alone_is_taken : fault_of plain alone ≡ []
unfolding clap_on_literals
alone_is_taken = refl

alone_names_core : engine_by (plain_in alone) ≡ Some Core
unfolding clap_on_literals
alone_names_core = refl

core_is_taken : fault_of plain core ≡ []
unfolding clap_on_literals
core_is_taken = refl

core_names_core : engine_by (plain_in core) ≡ Some Core
unfolding clap_on_literals
core_names_core = refl

lane_is_taken : fault_of plain lane ≡ []
unfolding clap_on_literals
lane_is_taken = refl

lane_names_lane : engine_by (plain_in lane) ≡ Some Lane
unfolding clap_on_literals
lane_names_lane = refl

other_names_none : engine_by (plain_in other) ≡ None
unfolding clap_on_literals
other_names_none = refl

two_name_none : engine_by (plain_in two) ≡ None
unfolding clap_on_literals
two_name_none = refl

abbrev drawn : List (List ℕ) → List (List ℕ)
drawn words = codes "flow_marbles" ∷ words

nothing : wish_by (drawn []) ≡ Some (wish Core false)
nothing = refl

an_engine : wish_by (drawn (codes "lane" ∷ [])) ≡ Some (wish Lane false)
an_engine = refl

text : wish_by (drawn (codes "--text" ∷ [])) ≡ Some (wish Core true)
text = refl

lane_and_text : wish_by (drawn (codes "lane" ∷ codes "--text" ∷ [])) ≡ Some (wish Lane true)
lane_and_text = refl

text_and_lane : wish_by (drawn (codes "--text" ∷ codes "lane" ∷ [])) ≡ Some (wish Lane true)
text_and_lane = refl

two_engines : wish_by (drawn (codes "core" ∷ codes "lane" ∷ [])) ≡ None
two_engines = refl

text_twice : wish_by (drawn (codes "--text" ∷ codes "--text" ∷ [])) ≡ None
text_twice = refl

another_word : wish_by (drawn (codes "lanes" ∷ [])) ≡ None
another_word = refl
