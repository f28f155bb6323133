-- Which world what a script has made stands for. The model of a flow isn't told by what the flow holds, so this is a relation.
use Rattle.std.proofs.Common.{◌≡◌, ℕ, zero, suc, List, [], ◌∷◌, ◌++◌, length, set, Option, Some, None, slice_get, refl, sym, ap, subst, ◌∙◌}
use Rattle.script_commands.specs.declared.answer.Answer.{Answer}
use Rattle.script_run.specs.declared.binding.Binding.{Binding}
use Rattle.script_run.specs.Names.{bound_over}
use Rattle.script_run.specs.Standings.{Standing, IsFresh, Binds, Stays}
use Rattle.script_model.specs.Things.{Thing}
use Rattle.script_model.specs.Worlds.{World, Outcome, Bound, empty_world, binding_of, bound}

bound_as : (names : List Bound) (name : List ℕ) (made : Option Binding) (asked : List ℕ) → bound_over name made (binding_of names asked) asked ≡ binding_of (bound name made names) asked
bound_as names name None asked = refl
bound_as names name (Some binding) asked = refl

module _ {O : Type 0} (Stands : O → Thing → Type 0) where
  -- each object stands for its thing
  abbrev pub StandEach : List O → List Thing → Type 0
  StandEach [] [] = Unit {0}
  StandEach [] (thing ∷ things) = ⊥
  StandEach (object ∷ objects) [] = ⊥
  StandEach (object ∷ objects) (thing ∷ things) = Stands object thing × StandEach objects things

  pub record Pictures (now : Standing O) (world : World) : Type 0 where
    pub names : (name : List ℕ) → now.bound name ≡ binding_of world.names name
    pub things : StandEach now.objects world.things

  -- the answer is the outcome's, and the world after it is pictured
  pub record Comes (outcome : Outcome) (new : Standing O) (answer : Option Answer) : Type 0 where
    pub answered : answer ≡ outcome.0
    pub pictured : Pictures new outcome.1

  -- what is found at an index
  abbrev pub AtEach : Option O → Option Thing → Type 0
  AtEach None None = Unit {0}
  AtEach None (Some thing) = ⊥
  AtEach (Some object) None = ⊥
  AtEach (Some object) (Some thing) = Stands object thing

  pub stand_at : (objects : List O) (things : List Thing) (index : ℕ) → StandEach objects things → AtEach (slice_get objects index) (slice_get things index)
  stand_at [] [] index stand = tt
  stand_at [] (thing ∷ things) index stand = absurd stand
  stand_at (object ∷ objects) [] index stand = absurd stand
  stand_at (object ∷ objects) (thing ∷ things) zero stand = stand.0
  stand_at (object ∷ objects) (thing ∷ things) (suc index) stand = stand_at objects things index stand.1

  pub as_many : (objects : List O) (things : List Thing) → StandEach objects things → length objects ≡ length things
  as_many [] [] stand = refl
  as_many [] (thing ∷ things) stand = absurd stand
  as_many (object ∷ objects) [] stand = absurd stand
  as_many (object ∷ objects) (thing ∷ things) stand = ap suc (as_many objects things stand.1)

  pub stand_set : (objects : List O) (things : List Thing) (index : ℕ) (object : O) (thing : Thing) → StandEach objects things → Stands object thing → StandEach (set objects index object) (set things index thing)
  stand_set [] [] index object thing stand one = tt
  stand_set [] (held ∷ things) index object thing stand one = absurd stand
  stand_set (first ∷ objects) [] index object thing stand one = absurd stand
  stand_set (first ∷ objects) (held ∷ things) zero object thing stand one = (one, stand.1)
  stand_set (first ∷ objects) (held ∷ things) (suc index) object thing stand one = (stand.0, stand_set objects things index object thing stand.1 one)

  pub stand_push : (objects : List O) (things : List Thing) (object : O) (thing : Thing) → StandEach objects things → Stands object thing → StandEach (objects ++ object ∷ []) (things ++ thing ∷ [])
  stand_push [] [] object thing stand one = (one, tt)
  stand_push [] (held ∷ things) object thing stand one = absurd stand
  stand_push (first ∷ objects) [] object thing stand one = absurd stand
  stand_push (first ∷ objects) (held ∷ things) object thing stand one = (stand.0, stand_push objects things object thing stand.1 one)

  -- nothing was made yet
  pub pictures_fresh : (start : Standing O) → IsFresh start → Pictures start empty_world
  pictures_fresh start fresh = record { names = fresh.0; things = subst (λ objects. StandEach objects []) (sym fresh.1) tt }

  -- nothing changed
  pub pictures_still : (old new : Standing O) (world : World) → Pictures old world → Stays old new → Pictures new world
  pictures_still old new world p stays = record {
    names = λ name. stays.0 name ∙ p.names name;
    things = subst (λ objects. StandEach objects world.things) (sym stays.1) p.things;
  }

  -- a name was bound, if anything was made
  pub names_more : (old new : Standing O) (world : World) (name : List ℕ) (made : Option Binding) → Pictures old world → Binds old new name made → (asked : List ℕ) → new.bound asked ≡ binding_of (bound name made world.names) asked
  names_more old new world name made p binds asked =
      binds asked ∙ ap (λ b. bound_over name made b asked) (p.names asked) ∙ bound_as world.names name made asked
