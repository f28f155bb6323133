-- Each value is put before those behind it, which leaves room for all values before it.
use Rattle.std.proofs.Common.{◌≡◌, ℕ, ◌+◌, ◌-◌, ◌<◌, ◌≤◌, List, ◌∷◌, ◌++◌, length, drop, get_or, set, ap, sym, refl, ◌∙◌, arith, rules, lit≤, flat_map, decimal, Fits, w64}
use Rattle.std.proofs.lemmas.List.{drop-set, drop_more, drop_all}
use Rattle.std.proofs.lemmas.List.Concat.{flat_map-cons}
use Rattle.std.proofs.lemmas.Fmt.{length-decimal-le}
use Rattle.script_commands.specs.Listings.{next_item}
use Rattle.script_commands.proofs.decimals.put_items.Goals as goal

-- a comma before a value that stands before those behind it
put_one : (values bytes : List ℕ) (start left i j v : ℕ) → start ≡ i + 1 → left ≡ j + 1 → j < length values → i < length bytes → v ≡ get_or values j 0
    → drop start bytes ≡ decimal v ++ flat_map next_item (drop left values) → drop i (set bytes i 44) ≡ flat_map next_item (drop j values)
put_one values bytes start left i j v se le jb ib ve after =
    drop-set bytes i 44 ib
    ∙ ap (λ rest. 44 ∷ rest) (ap (λ n. drop n bytes) (sym se) ∙ after ∙ ap (λ n. decimal v ++ flat_map next_item (drop n values)) le)
    ∙ ap (λ n. next_item n ++ flat_map next_item (drop (j + 1) values)) ve
    ∙ sym (flat_map-cons next_item (get_or values j 0) (drop (j + 1) values))
    ∙ ap (flat_map next_item) (sym (drop_more values j 0 jb))

digits_le : (v : ℕ) → Fits w64 v → length (decimal v) ≤ 20
digits_le v fits = search (rules, length-decimal-le 20)

pub loop-left-init : goal.loop-left-init
loop-left-init c =
    let values = c.args.values.now in
    record {
      left = omega arith;
      room = omega (arith, c.requires);
      within = lit≤ tt;
      size = search rules;
      items = drop_all 1344 c.args.bytes.now (search rules) ∙ sym (ap (flat_map next_item) (drop_all (length values) values (omega arith)));
    }

pub write_digits-start-requires : goal.write_digits-start-requires
write_digits-start-requires c =
    let short = digits_le _ (c.type_inv.values (c.loop-left.left - 1)) in
    let inv = c.loop-left.invariant in (
      omega (arith, short, inv.room, c.loop-left-test.true),
      omega (arith, inv.within, inv.size),
    )

pub overflow_sub-start : goal.overflow_sub-start
overflow_sub-start c =
    let short = digits_le _ (c.type_inv.values (c.loop-left.left - 1)) in
    omega (arith, short, c.loop-left.invariant.room, c.loop-left-test.true, c.write_digits-start.ensures.start)

pub loop-left-preserved : goal.loop-left-preserved
loop-left-preserved c =
    let short = digits_le _ (c.type_inv.values (c.loop-left.left - 1)) in
    let inv = c.loop-left.invariant in
    let wrote = c.write_digits-start.ensures in
    let within : c.write_digits-start.result - 1 < length c.write_digits-start.new.buf =
    omega (arith, short, inv.room, inv.within, inv.size, c.loop-left-test.true, wrote.start, c.write_digits-start.auto.buf) in
    record {
      left = omega (arith, inv.left);
      room = omega (arith, short, inv.room, c.loop-left-test.true, wrote.start);
      within = omega (arith, inv.within, wrote.start);
      size = search rules;
      items = put_one c.args.values.now c.write_digits-start.new.buf c.write_digits-start.result c.loop-left.left (c.write_digits-start.result - 1) (c.loop-left.left - 1) (get_or c.args.values.now (c.loop-left.left - 1) 0)
          (omega (arith, short, inv.room, c.loop-left-test.true, wrote.start)) (omega (arith, c.loop-left-test.true)) (omega (arith, inv.left, c.loop-left-test.true)) within
          refl (wrote.written ∙ ap (λ rest. decimal (get_or c.args.values.now (c.loop-left.left - 1) 0) ++ rest) inv.items);
    }
