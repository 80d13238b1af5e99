use Rattle.std.proofs.Common.{◌≡◌, ◌≤◌, false, List, length, ap, sym, subst, ◌∙◌, arith}
use mathlib.Core.List.{IsPrefix}
use Rattle.yp_published.specs.declared.history.Item.{Item}
use Rattle.yp_published.specs.Histories.{has_end}
use Rattle.yp_published.proofs.Adding.{adds_moves}
use Rattle.yp_published.proofs.Fronts.{prefix_length, prefix_whole}
use Rattle.yp_published.proofs.history.stepped.Goals as goal

pub compare_exchange-found-requires : goal.compare_exchange-found-requires
compare_exchange-found-requires g c =
    let head = c.args.history.now.head_is in
    let offer = c.plain-offer.ensures in
    let pen = c.no_pen-pen.ensures in
    let now = c.learn.new.self.log in
    let mine = c.args.mine.now.log in
    let begins : IsPrefix mine now = subst (λ (items : List Item). IsPrefix items now) (ap (λ s. s.log) c.again-seen.ensures) c.learn.ensures.2 in
    let more : c.args.count ≤ length now = omega (arith, c.requires.all, prefix_length mine now begins) in
    let goes_on : length now ≡ c.args.count → has_end now ≡ false =
    λ same. let whole = prefix_whole mine now begins (omega (arith, c.requires.all, same)) in ap has_end (sym whole) ∙ c.requires.goes_on in
    let book = c.learn.ensures.0 ∙ (ap (λ s. s.book) c.again-seen.ensures ∙ c.requires.books.0) in (
      ap (λ w. w.tracked) head,
      book ∙ sym (ap (λ w. w.book) head),
      pen.0 ∙ (book ∙ sym (ap (λ w. w.book) head)),
      offer.0,
      rw (ap (λ w. w.key) head, pen.1, offer.3 ∙ c.requires.fresh) (adds_moves now c.plain-offer.result.ask c.args.count more goes_on),
    )
