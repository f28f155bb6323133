-- What a reader takes by the block.
use Rattle.std.specs.Prelude.{◌≡◌, ℕ, suc, ◌+◌, ◌-◌, ◌<◌, ◌≤◌, min, List, [], ◌∷◌, ◌++◌, length, map, replicate, true}
use Rattle.std.specs.Vec.{vec_capacity}
use Rattle.std.specs.declared.vec.Vec.{Vec}
use Rattle.shared_lane.specs.declared.view.Shape.{Shape}
use Rattle.shared_lane.specs.declared.view.View.{View}
use Rattle.shared_lane.specs.Layout.{tail_word, cursor_word, cell_word}
use Rattle.shared_lane.specs.Law.{HasWords}
use Rattle.shared_lane.specs.Steps.{position}
use Rattle.shared_lane.specs.Views.{ReaderSeen}
use Rattle.shared_lane.specs.Readers.{at, IsKept, story_to, TookNext}
use Rattle.shared_lane.specs.declared.reader.Taken.{Taken}
use Rattle.shared_lane.specs.declared.reader.Taken.TheVariants.{Value, Nothing, Overtaken}

-- the loads of the cells of the numbers from n on, which found these
abbrev pub cell_loads : Shape → ℕ → List ℕ → List (ℕ × ℕ)
cell_loads key n [] = []
cell_loads key n (x ∷ xs) = (cell_word key n, x) ∷ cell_loads key (suc n) xs

-- these words were picked, from the position on
abbrev pub with_picked : Shape → List ℕ → View → View
with_picked key xs v = record v { loads = v.loads ++ cell_loads key (position v.reading) xs; reading = record v.reading { picked = xs } }

-- The exchange of this attempt failed. It was tried where the cursor had been loaded at m, below the tail, and the values from m on had been
-- loaded, as many as were there and found room; and after these loads, which are all, the position rose past m to n.
abbrev pub FailedToTakeAll : ReaderSeen → ℕ → ℕ → ReaderSeen → Type 0
FailedToTakeAll r room n t = (m : ℕ) × (tail : ℕ) × (xs : List ℕ) × (at r ≤ m) × (m < n) × (m < tail) × (length xs ≡ min room (tail - m)) × (tail ≡ r.shape.first + length t.seen)
    × (t.loads ≡ r.loads ++ (cursor_word r.place, m) ∷ (tail_word, tail) ∷ cell_loads r.shape m xs)

-- What an attempt to take all that is there did, with room for so many: these words were received, from the position on, as many as were there
-- by the tail that was loaded and found room.
abbrev pub TookAll : ReaderSeen → ℕ → Taken ℕ → List ℕ → ReaderSeen → Type 0
TookAll r room (Value k) xs t = (n : ℕ) × (at r ≤ n) × IsKept n r × (t.story ≡ story_to n r ++ replicate k true) × HasWords r.shape.first t.seen n xs
    × (length xs ≡ k) × (n < r.shape.first + length t.seen) × (k ≡ min room (r.shape.first + length t.seen - n))
TookAll r room Nothing xs t = (xs ≡ []) × TookNext r Nothing t
TookAll r room Overtaken xs t = (xs ≡ []) × ((n : ℕ) × (at r < n) × (r.shape.drops ≡ true) × (t.story ≡ story_to n r) × FailedToTakeAll r room n t)

-- the values of the words that it took stand behind those that were there, as many as there was room for
abbrev pub TookAllInto : {T Z : Type 0} → (ℕ → T) → Vec T Z → Vec T Z → ReaderSeen → Taken ℕ → ReaderSeen → Type 0
TookAllInto read_as out filled r taken t = (xs : List ℕ) × (filled.items ≡ out.items ++ map read_as xs)
    × TookAll r (vec_capacity out - length out.items) taken xs t
