-- What a feed knows after it put a value in.
use Rattle.std.proofs.Common.{◌≡◌, ◌≤◌, ℕ, ◌+◌, ◌-◌, arith, Bool, true, false, None, List, [], ◌∷◌, ◌++◌, refl, sym, ap, ◌∙◌, subst}
use Rattle.flow_terms.specs.declared.policy.Policy.TheVariants.{DropOldest, DropLatest}
use Rattle.flow_terms.specs.declared.fill.Fill.TheVariants.{Overwrote, Dropped}
use Rattle.cold_flow.specs.declared.event.Event.TheVariants.{Value}
use Rattle.flow_buffer.specs.declared.side.Level.{Level}
use Rattle.flow_buffer.specs.declared.side.Side.{Side}
use Rattle.flow_buffer.specs.History.{DropsOne}
use Rattle.flow_buffer.specs.Sides.{WasFull, Filled}
use Rattle.flow_buffer.specs.Channel.{less_one, feed_side, Sends, DropsOldest}

module _ {T E : Type 0} where
  -- a feed's side, before its end
  abbrev IsOpen : Bool → Side T E → Type 0
  IsOpen lossy s = s ≡ feed_side lossy None s.produced s.level

  pub open_still : (lossy : Bool) (v w : Side T E) → IsOpen lossy v → w ≡ v → IsOpen lossy w
  open_still lossy v w was same = subst (IsOpen lossy) (sym same) was

  pub open_own : (lossy : Bool) (v : Side T E) → IsOpen lossy v → IsOpen v.lossy v
  open_own lossy v was = was ∙ ap (λ l. feed_side l None v.produced v.level) (sym (ap (λ (s : Side T E). s.lossy) was))

  open_as : (lossy : Bool) (w : Side T E) (produced : List (Bool × T)) (level : Level) → w ≡ feed_side lossy None produced level → IsOpen lossy w
  open_as lossy w produced level is = is ∙ (ap (λ p. feed_side lossy None p level) (sym (ap (λ (s : Side T E). s.produced) is))
      ∙ ap (λ n. feed_side lossy None w.produced n) (sym (ap (λ (s : Side T E). s.level) is)))

  -- a value was sent
  pub open_sent : (lossy : Bool) (v w : Side T E) (x : T) → IsOpen lossy v → Sends v (Value x) w → IsOpen lossy w
  open_sent lossy v w x was is = open_as lossy w (v.produced ++ (false, x) ∷ []) w.level (is.0 ∙ ap (λ l. feed_side l None (v.produced ++ (false, x) ∷ []) w.level) (ap (λ (s : Side T E). s.lossy) was))

  pub joins : (v w : Side T E) (x : T) → Sends v (Value x) w → w.produced ≡ v.produced ++ (false, x) ∷ []
  joins v w x is = ap (λ (s : Side T E). s.produced) is.0

  -- the same, after the channel was found full
  pub joins_late : (v u w : Side T E) (x : T) → u ≡ v → Sends u (Value x) w → w.produced ≡ v.produced ++ (false, x) ∷ []
  joins_late v u w x same is = joins u w x is ∙ ap (λ (s : Side T E). s.produced ++ (false, x) ∷ []) same

  -- the oldest value was taken out, or there was none
  pub open_dropped : (dropped : Bool) (v w : Side T E) → IsOpen true v → DropsOldest v dropped w → IsOpen true w
  open_dropped true v w was is = open_as true w w.produced (less_one v.level) is.1
  open_dropped false v w was is = open_still true v w was is

  pub overwrote : (k : ℕ) (v u s w : Side T E) (x : T) → u ≡ v → WasFull k v.produced → DropsOldest u true s → Sends s (Value x) w
      → Filled k DropOldest v.produced x Overwrote w.produced
  overwrote k v u s w x same full drops is = (refl, full, (s.produced, subst (λ (t : Side T E). DropsOne t.produced s.produced) same drops.0, joins s w x is))

  pub joins_last : (v u s w : Side T E) (x : T) → u ≡ v → DropsOldest u false s → Sends s (Value x) w → w.produced ≡ v.produced ++ (false, x) ∷ []
  joins_last v u s w x same drops is = joins_late v s w x (drops ∙ same) is

  -- the new value was dropped
  pub open_missed : (u w : Side T E) (x : T) → w ≡ feed_side true None (u.produced ++ (true, x) ∷ []) u.level → IsOpen true w
  open_missed u w x is = open_as true w (u.produced ++ (true, x) ∷ []) u.level is

  pub missed : (k : ℕ) (v u w : Side T E) (x : T) → u ≡ v → WasFull k v.produced → w ≡ feed_side true None (u.produced ++ (true, x) ∷ []) u.level
      → Filled k DropLatest v.produced x Dropped w.produced
  missed k v u w x same full is = (refl, full, ap (λ (s : Side T E). s.produced) is ∙ ap (λ (s : Side T E). s.produced ++ (true, x) ∷ []) same)

  -- how many values the channel held when one was put in
  pub raised : (v u w : Side T E) (x : T) → u ≡ v → Sends u (Value x) w → w.level.held ≤ v.level.held + 1
  raised v u w x same is = subst (λ (s : Side T E). w.level.held ≤ s.level.held + 1) same is.2

  no_higher : (dropped : Bool) (v s : Side T E) → DropsOldest v dropped s → s.level.held ≤ v.level.held
  no_higher true v s is = let less : s.level.held ≡ v.level.held - 1 = ap (λ (t : Side T E). t.level.held) is.1 in omega arith
  no_higher false v s is = let same : s.level.held ≡ v.level.held = ap (λ (t : Side T E). t.level.held) is in omega arith

  pub raised_last : (dropped : Bool) (v u s w : Side T E) (x : T) → u ≡ v → DropsOldest u dropped s → Sends s (Value x) w → w.level.held ≤ v.level.held + 1
  raised_last dropped v u s w x same drops is =
      let before : u.level.held ≡ v.level.held = ap (λ (t : Side T E). t.level.held) same in
      let between : s.level.held ≤ u.level.held = no_higher dropped u s drops in
      let last : w.level.held ≤ s.level.held + 1 = is.2 in omega arith

  pub missed_level : (v u w : Side T E) (x : T) → u ≡ v → w ≡ feed_side true None (u.produced ++ (true, x) ∷ []) u.level → w.level.held ≡ v.level.held
  missed_level v u w x same is = ap (λ (s : Side T E). s.level.held) is ∙ ap (λ (s : Side T E). s.level.held) same
