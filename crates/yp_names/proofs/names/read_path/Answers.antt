use Rattle.yp_names.proofs.Cuts.{no_text, rooted_path}
use Rattle.yp_names.proofs.names.read_path.Goals as goal

pub returns-in_ok-cut_at-in-Some : goal.returns-in_ok-cut_at-in-Some
returns-in_ok-cut_at-in-Some c =
    let parts = c.in-Some.ensures in
    let none = no_text c.in-Some.first.now c.is_empty.result c.is_empty.ensures c.if-is_empty.true in
    rooted_path c.args.text.now c.in-Some.first.now c.in-Some.rest.now c.in_ok-cut_at-in-Some.field-0 parts.0 parts.1 parts.2 none c.in_ok-cut_at-in-Some.ensures
