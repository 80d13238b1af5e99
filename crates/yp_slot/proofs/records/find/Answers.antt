use Rattle.std.proofs.Common.{◌≡◌, Bool, true, false, true≢false, length, refl, sym, ◌∙◌}
use Rattle.std.proofs.lemmas.Bool.{and_parts}
use Rattle.std.proofs.lemmas.Option.{slice_get_read}
use Rattle.std.proofs.Math.Bool.{beq}
use Rattle.yp_base.specs.declared.notice.Kinds.{Kinds}
use Rattle.yp_slot.proofs.records.find.Goals as goal

same : (a b : Bool) → beq a b ≡ true → a ≡ b
same true true e = refl
same true false e = absurd (true≢false (sym e))
same false true e = absurd (true≢false (sym e))
same false false e = refl

pub returns-then-same_roots : goal.returns-then-same_roots
returns-then-same_roots c =
    let one = c.index-told-place.result in
    let other : Kinds = c.args.excluded.now in
    let create = and_parts (beq one.excluded.create other.create) _ (sym c.eq.ensures ∙ c.if-eq.true) in
    let delete = and_parts (beq one.excluded.delete other.delete) _ create.1 in
    let insert = and_parts (beq one.excluded.insert other.insert) _ delete.1 in
    let moved = and_parts (beq one.excluded.moved other.moved) _ insert.1 in
    let kinds : one.excluded ≡ other = λ i. record {
      create = same one.excluded.create other.create create.0 i;
      delete = same one.excluded.delete other.delete delete.0 i;
      insert = same one.excluded.insert other.insert insert.0 i;
      moved = same one.excluded.moved other.moved moved.0 i;
      replace = same one.excluded.replace other.replace moved.1 i;
    } in
    (one, slice_get_read c.args.told.now (length c.args.told.now) c.loop-place.place one refl c.loop-place-test.true c.index-told-place.is, c.if-one-class.true, kinds, c.same_roots.ensures c.if-same_roots.true)
