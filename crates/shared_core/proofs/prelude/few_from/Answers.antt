use Rattle.std.proofs.Common.{◌+◌, [], ◌∷◌, length, sym, refl, arith}
use Rattle.std.proofs.lemmas.Option.{slice_get_read}
use Rattle.shared_core.proofs.Handed.{taken_none, taken_some}
use Rattle.shared_core.proofs.prelude.few_from.Goals as goal

pub returns-in_default : goal.returns-in_default
returns-in_default g c = sym (taken_none 4 c.args.from c.args.values.now c.in_default.ensures.lookup.3)

pub returns-in_default-get : goal.returns-in_default-get
returns-in_default-get g c =
    let values = c.args.values.now in
    let from = c.args.from in
    let a = c.in-Some.first.now in
    let none = taken_none 3 (from + 1) values c.in_default-get.ensures.lookup.3 in
    let first = slice_get_read values (length values) from a refl c.in-Some.ensures.lookup.3.0 c.in-Some.ensures.lookup.1 in
    sym (taken_some 3 from (from + 1) values [] a first refl none)

pub returns-in_default-get-2 : goal.returns-in_default-get-2
returns-in_default-get-2 g c =
    let values = c.args.values.now in
    let from = c.args.from in
    let a = c.in-Some.first.now in
    let b = c.in-Some-get.second.now in
    let none = taken_none 2 (from + 2) values c.in_default-get-2.ensures.lookup.3 in
    let first = slice_get_read values (length values) from a refl c.in-Some.ensures.lookup.3.0 c.in-Some.ensures.lookup.1 in
    let second = slice_get_read values (length values) (from + 1) b refl c.in-Some-get.ensures.lookup.3.0 c.in-Some-get.ensures.lookup.1 in
    sym (taken_some 3 from (from + 1) values (b ∷ []) a first refl (taken_some 2 (from + 1) (from + 2) values [] b second (omega arith) none))

pub returns-in_default-get-3 : goal.returns-in_default-get-3
returns-in_default-get-3 g c =
    let values = c.args.values.now in
    let from = c.args.from in
    let a = c.in-Some.first.now in
    let b = c.in-Some-get.second.now in
    let d = c.in-Some-get-2.third.now in
    let none = taken_none 1 (from + 3) values c.in_default-get-3.ensures.lookup.3 in
    let first = slice_get_read values (length values) from a refl c.in-Some.ensures.lookup.3.0 c.in-Some.ensures.lookup.1 in
    let second = slice_get_read values (length values) (from + 1) b refl c.in-Some-get.ensures.lookup.3.0 c.in-Some-get.ensures.lookup.1 in
    let third = slice_get_read values (length values) (from + 2) d refl c.in-Some-get-2.ensures.lookup.3.0 c.in-Some-get-2.ensures.lookup.1 in
    sym
    (taken_some 3 from (from + 1) values (b ∷ d ∷ []) a first refl
    (taken_some 2 (from + 1) (from + 2) values (d ∷ []) b second (omega arith) (taken_some 1 (from + 2) (from + 3) values [] d third (omega arith) none)))

pub returns : goal.returns
returns g c =
    let values = c.args.values.now in
    let from = c.args.from in
    let a = c.in-Some.first.now in
    let b = c.in-Some-get.second.now in
    let d = c.in-Some-get-2.third.now in
    let e = c.in-Some-get-3.fourth.now in
    let first = slice_get_read values (length values) from a refl c.in-Some.ensures.lookup.3.0 c.in-Some.ensures.lookup.1 in
    let second = slice_get_read values (length values) (from + 1) b refl c.in-Some-get.ensures.lookup.3.0 c.in-Some-get.ensures.lookup.1 in
    let third = slice_get_read values (length values) (from + 2) d refl c.in-Some-get-2.ensures.lookup.3.0 c.in-Some-get-2.ensures.lookup.1 in
    let fourth = slice_get_read values (length values) (from + 3) e refl c.in-Some-get-3.ensures.lookup.3.0 c.in-Some-get-3.ensures.lookup.1 in
    sym
    (taken_some 3 from (from + 1) values (b ∷ d ∷ e ∷ []) a first refl
    (taken_some 2 (from + 1) (from + 2) values (d ∷ e ∷ []) b second (omega arith)
    (taken_some 1 (from + 2) (from + 3) values (e ∷ []) d third (omega arith) (taken_some 0 (from + 3) (from + 4) values [] e fourth (omega arith) refl))))
