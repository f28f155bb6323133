-- Seats, each beside those that it took in, are different seats as they are kept: so who has the whole lock with them made all calls.
use Rattle.std.proofs.Common.{◌≡◌, ◌≢◌, ◌⊎◌, ℕ, ◌+◌, Option, Some, None, List, [], ◌∷◌, length, sym, refl, ap, ◌∙◌, subst, ⊎_elim, inl, inr, arith}
use mathlib.Core.Option.{some}
use lib.ListN.{get_elem?}
use Rattle.round_lock.specs.declared.log.Log.{Log}
use Rattle.round_lock.specs.declared.log.TakenOwner.{TakenOwner}
use Rattle.round_lock.specs.History.{TakenIn, Apart, HasAll, Parts, MadeEach, halves, whole, share, shares_of, shares_taken, calls_of, calls_taken, Among, AmongAll, Seated, AreAll, own_of, spent, IsKept, AreKept, Stands, OneList, OneHistory}
use Rattle.round_lock.proofs.Shares.{bare_shares, bare_calls, all_callers, no_more}
use Rattle.round_lock.proofs.Standing.{AllStand, not_taken, taken_home}

module _ {S : Type 0} where
  pub share_owned : (h : ℕ) (m : Option S) (d e : ℕ) → m ≢ None → d ≡ e → share h m d ≡ halves h e
  share_owned h None d e owner is = absurd (owner refl)
  share_owned h (Some m) d e owner is = ap (halves h) is

module _ {S E : Type 0} where
  -- those that were taken in, as they are kept, and then others
  abbrev onto : (kept : List (Log S E)) (home : ℕ → ℕ) (pass : ℕ) (parts : List (TakenOwner E)) → AreKept kept home pass parts → List (ℕ × Log S E) → List (ℕ × Log S E)
  onto kept home pass [] are rest = rest
  onto kept home pass (p ∷ parts) are rest = (p.pass, are.0.view) ∷ onto kept home pass parts are.1 rest

  onto_among : (kept : List (Log S E)) (home : ℕ → ℕ) (pass : ℕ) (parts : List (TakenOwner E)) (are : AreKept kept home pass parts) (rest : List (ℕ × Log S E)) (n : ℕ) → Among (onto kept home pass parts are rest) n → TakenIn parts n ⊎ Among rest n
  onto_among kept home pass [] are rest n is = inr is
  onto_among kept home pass (p ∷ parts) are rest n is = ⊎_elim (λ here. inl (inl here)) (λ more. ⊎_elim (λ t. inl (inr t)) (λ t. inr t) (onto_among kept home pass parts are.1 rest n more)) is

  onto_seated : (kept : List (Log S E)) (home : ℕ → ℕ) (pass : ℕ) (parts : List (TakenOwner E)) (are : AreKept kept home pass parts) (rest : List (ℕ × Log S E)) → Apart pass parts → ((n : ℕ) → Among rest n → home n ≢ pass) → Seated kept rest
      → Seated kept (onto kept home pass parts are rest)
  onto_seated kept home pass [] are rest apart out seated = seated
  onto_seated kept home pass (p ∷ parts) are rest apart out seated = (
    are.0.there,
    (λ is. ⊎_elim (λ t. apart.1 t) (λ t. out p.pass t are.0.home_is) (onto_among kept home pass parts are.1 rest p.pass is)),
    onto_seated kept home pass parts are.1 rest apart.2 out seated,
  )

  onto_shares : (kept : List (Log S E)) (home : ℕ → ℕ) (pass : ℕ) (parts : List (TakenOwner E)) (are : AreKept kept home pass parts) (rest : List (ℕ × Log S E)) (h : ℕ) → bare_shares h (onto kept home pass parts are rest) ≡ shares_taken h parts + bare_shares h rest
  onto_shares kept home pass [] are rest h = omega arith
  onto_shares kept home pass (p ∷ parts) are rest h =
      let one : share h are.0.view.made are.0.view.halved ≡ halves h p.halved = share_owned h are.0.view.made are.0.view.halved p.halved are.0.owner are.0.halved_is in
      let more = onto_shares kept home pass parts are.1 rest h in
      omega (arith, one, more)

  onto_calls : (kept : List (Log S E)) (home : ℕ → ℕ) (pass : ℕ) (parts : List (TakenOwner E)) (are : AreKept kept home pass parts) (rest : List (ℕ × Log S E)) → bare_calls (onto kept home pass parts are rest) ≡ calls_taken parts + bare_calls rest
  onto_calls kept home pass [] are rest = omega arith
  onto_calls kept home pass (p ∷ parts) are rest =
      let one : length are.0.view.own ≡ length p.own = ap length are.0.own_is in
      let more = onto_calls kept home pass parts are.1 rest in
      omega (arith, one, more)

  -- seats with those that they took in, as they are kept
  pub record Spread (kept : List (Log S E)) (home : ℕ → ℕ) (seats : List (ℕ × Log S E)) : Type 0 where
    pub flat : List (ℕ × Log S E)
    pub seated : Seated kept flat
    pub share_is : (h : ℕ) → bare_shares h flat ≡ shares_of h seats
    pub calls_is : bare_calls flat ≡ calls_of seats
    pub among : (n : ℕ) → Among flat n → AmongAll seats n
    pub homes : (n : ℕ) → Among flat n → Among seats (home n)

  spread_none : (kept : List (Log S E)) (home : ℕ → ℕ) → Spread kept home []
  spread_none kept home = record { flat = []; seated = tt; share_is = λ h. refl; calls_is = refl; among = λ n is. is; homes = λ n is. is }

  spread_gone : (kept : List (Log S E)) (home : ℕ → ℕ) (t : ℕ × Log S E) (seats : List (ℕ × Log S E)) → t.1 ≡ spent → Spread kept home seats → Spread kept home (t ∷ seats)
  spread_gone kept home t seats gone s = record {
    flat = s.flat;
    seated = s.seated;
    share_is = λ h. s.share_is h ∙ sym (ap (λ (u : Log S E). share h u.made u.halved + shares_taken h u.taken + shares_of h seats) gone ∙ nothing_more (shares_of h seats));
    calls_is = s.calls_is ∙ sym (ap (λ (u : Log S E). length u.own + calls_taken u.taken + calls_of seats) gone ∙ nothing_more (calls_of seats));
    among = λ n is. inr (inr (s.among n is));
    homes = λ n is. inr (s.homes n is);
  }
    where
      nothing_more : (n : ℕ) → 0 + 0 + n ≡ n
      nothing_more n = omega arith

  spread_more : (kept : List (Log S E)) (home : ℕ → ℕ) (t : ℕ × Log S E) (seats : List (ℕ × Log S E)) → get_elem? kept t.0 ≡ some t.1 → home t.0 ≡ t.0 → AreKept kept home t.0 t.1.taken → Apart t.0 t.1.taken → ¬ Among seats t.0
      → Spread kept home seats → Spread kept home (t ∷ seats)
  spread_more kept home t seats here own are apart out s =
      let no_home : (n : ℕ) → Among s.flat n → home n ≢ t.0 = λ n is e. out (subst (Among seats) e (s.homes n is)) in
      record {
        flat = t ∷ onto kept home t.0 t.1.taken are s.flat;
        seated = (
          here,
          (λ is. ⊎_elim (λ of_mine. not_taken kept home t.0 t.0 t.1.taken own apart are of_mine) (λ more. no_home t.0 more own) (onto_among kept home t.0 t.1.taken are s.flat t.0 is)),
          onto_seated kept home t.0 t.1.taken are s.flat apart no_home s.seated,
        );
        share_is = λ h. let more = onto_shares kept home t.0 t.1.taken are s.flat h in let rest = s.share_is h in omega (arith, more, rest);
        calls_is = let more = onto_calls kept home t.0 t.1.taken are s.flat in let rest = s.calls_is in omega (arith, more, rest);
        among = λ n is. ⊎_elim (λ e. inl e) (λ more. ⊎_elim (λ of_mine. inr (inl of_mine)) (λ rest. inr (inr (s.among n rest))) (onto_among kept home t.0 t.1.taken are s.flat n more)) is;
        homes = λ n is. ⊎_elim
            (λ (e : t.0 ≡ n). inl (sym own ∙ ap home e))
            (λ more. ⊎_elim (λ of_mine. inl (sym (taken_home kept home t.0 n t.1.taken are of_mine))) (λ rest. inr (s.homes n rest)) (onto_among kept home t.0 t.1.taken are s.flat n more))
            is;
      }

  pub spread : (kept views : List (Log S E)) (home : ℕ → ℕ) (seats : List (ℕ × Log S E)) → AllStand kept home views → Seated views seats → Spread kept home seats
  spread kept views home [] stands seated = spread_none kept home
  spread kept views home (t ∷ seats) stands seated = let s = stands t.0 t.1 seated.0 in let rest = spread kept views home seats stands seated.2 in ⊎_elim
      (λ h. spread_more kept home t seats h.0 h.1 s.parts s.apart seated.1 rest)
      (λ gone. spread_gone kept home t seats gone rest)
      s.here

  -- the calls of those that were taken in are their part
  parts_kept : (kept : List (Log S E)) (home : ℕ → ℕ) (pass : ℕ) (log : List (ℕ × E × S)) (parts : List (TakenOwner E)) → ((j : ℕ) (u : Log S E) → get_elem? kept j ≡ some u → u.own ≡ own_of j log) → AreKept kept home pass parts → Parts log parts
  parts_kept kept home pass log [] each are = tt
  parts_kept kept home pass log (p ∷ parts) each are = (sym are.0.own_is ∙ each p.pass are.0.view are.0.there, parts_kept kept home pass log parts each are.1)

module _ {S E : Type 0} (first : S → Type 0) (step : S → E → S → Type 0) where
  pub parts_are : (items : List S) (views : List (Log S E)) (pass : ℕ) (v : Log S E) → (r : OneHistory first step items views) → get_elem? views pass ≡ some v → Parts r.list.log v.taken
  parts_are items views pass v r at = parts_kept r.kept r.home pass r.list.log v.taken (λ j u there. (r.list.each j u there).own_is) (r.stands pass v at).parts

  -- who has the whole lock knows who made each call, and how many there are
  pub callers_are : (items : List S) (views : List (Log S E)) (seats : List (ℕ × Log S E)) → (r : OneHistory first step items views) → AreAll views seats → (i : ℕ) (t : ℕ × E × S) → get_elem? r.list.log i ≡ some t → AmongAll seats t.0
  callers_are items views seats r all i t here =
      let s = spread r.kept views r.home seats r.stands all.seated in
      s.among t.0 (all_callers r.list.height all.height r.kept r.list.log s.flat r.list.deep r.list.sum (λ pass v at. (r.list.each pass v at).idle) (λ pass far. (r.list.beyond pass far).0) s.seated (s.share_is all.height ∙ all.sum) i t here)

  pub number_is : (items : List S) (views : List (Log S E)) (seats : List (ℕ × Log S E)) → (r : OneHistory first step items views) → AreAll views seats → length r.list.log ≡ calls_of seats
  number_is items views seats r all =
      let s = spread r.kept views r.home seats r.stands all.seated in
      no_more r.kept s.flat r.list.log s.seated (λ pass v at. (r.list.each pass v at).own_is)
      (all_callers r.list.height all.height r.kept r.list.log s.flat r.list.deep r.list.sum (λ pass v at. (r.list.each pass v at).idle) (λ pass far. (r.list.beyond pass far).0) s.seated (s.share_is all.height ∙ all.sum))
      ∙ s.calls_is

  -- an owner that has the whole lock, with those that it took in, is all that there are
  alone_all : (views : List (Log S E)) (pass : ℕ) (v : Log S E) (m : S) → v.made ≡ Some m → get_elem? views pass ≡ some v → HasAll v.halved v.taken → AreAll views ((pass, v) ∷ [])
  alone_all views pass v m begun at has = record {
    seated = (at, (λ no. no), tt);
    height = has.0;
    sum =
        let mine : share has.0 v.made v.halved ≡ halves has.0 v.halved = ap (λ o. share has.0 o v.halved) begun in
        let sum : halves has.0 v.halved + shares_taken has.0 v.taken ≡ whole has.0 = has.1 in
        omega (arith, mine, sum);
  }

  pub made_each : (items : List S) (views : List (Log S E)) (pass : ℕ) (v : Log S E) (m : S) → v.made ≡ Some m → (r : OneHistory first step items views) → get_elem? views pass ≡ some v → HasAll v.halved v.taken
      → MadeEach pass v.own v.taken r.list.log
  made_each items views pass v m begun r at has = let all = alone_all views pass v m begun at has in record {
    callers = λ i t here. ⊎_elim (λ is. inl is) (λ more. ⊎_elim (λ is. inr is) (λ no. absurd no) more) (callers_are items views ((pass, v) ∷ []) r all i t here);
    number = let count : length r.list.log ≡ length v.own + calls_taken v.taken + 0 = number_is items views ((pass, v) ∷ []) r all in omega (arith, count);
  }
