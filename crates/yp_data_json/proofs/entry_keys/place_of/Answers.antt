use Rattle.std.proofs.Common.{◌+◌, ◌-◌, ◌/◌, ◌<◌, ◌≤◌, sym, subst, arith}
use Rattle.yp_data_json.specs.declared.entry_keys.Key.{Key}
use Rattle.yp_data_json.proofs.Parts.{next_at}
use Rattle.yp_data_json.proofs.KeysAmong.{all_less, none_less}
use Rattle.yp_data_json.proofs.entry_keys.place_of.Goals as goal

pub loop-low-preserved-then-keys-middle : goal.loop-low-preserved-then-keys-middle
loop-low-preserved-then-keys-middle c =
    let l = c.loop-low in
    let middle = l.low + (l.high - l.low) / 2 in
    let key = c.index-keys-middle.result in
    let next = next_at c.args.keys.now middle key (omega (arith, c.loop-low-test.true, l.invariant.within)) c.index-keys-middle.is in record {
      order = omega (arith, c.loop-low-test.true);
      within = l.invariant.within;
      before = all_less c.args.leaf c.args.keys.now middle key c.requires next (subst (λ (k : Key). k.leaf < c.args.leaf) (sym c.index-keys-middle.is) c.if-keys-middle.true);
      after = l.invariant.after;
    }

pub loop-low-preserved : goal.loop-low-preserved
loop-low-preserved c =
    let l = c.loop-low in
    let middle = l.low + (l.high - l.low) / 2 in
    let key = c.index-keys-middle.result in
    let next = next_at c.args.keys.now middle key (omega (arith, c.loop-low-test.true, l.invariant.within)) c.index-keys-middle.is in record {
      order = omega (arith, c.loop-low-test.true);
      within = omega (arith, c.loop-low-test.true, l.invariant.within);
      before = l.invariant.before;
      after = none_less c.args.leaf c.args.keys.now middle key c.requires next (subst (λ (k : Key). c.args.leaf ≤ k.leaf) (sym c.index-keys-middle.is) c.if-keys-middle.false);
    }
