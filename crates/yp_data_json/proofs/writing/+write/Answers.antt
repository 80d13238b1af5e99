use Rattle.std.proofs.Common.{◌≡◌, ◌+◌, ◌<◌, ◌≤◌, true, false, [], ◌∷◌, ◌++◌, length, drop, map, Some, inl, inr, refl, sym, ap, subst, ◌∙◌, arith, rules, length-append, string_bytes}
use Rattle.std.specs.Prelude.{codes}
use Rattle.std.specs.List.{AllByRecursion}
use Rattle.std.proofs.Math.ListN.{drop_of_length-le}
use Rattle.serde_json.specs.Data.{array, object, member}
use Rattle.serde_json.specs.View.{items_of}
use Rattle.serde_json.specs.Written.{items_text, members_text}
use Rattle.yp_schema.specs.Nodes.{node_at}
use Rattle.yp_schema.specs.SchemaLaws.{segment_within, first_segment}
use Rattle.yp_json_text.specs.Strings.{name_text}
use Rattle.yp_json_text.specs.Parts.{both}
use Rattle.yp_data_json.specs.Forest.{forest_at, laid_all}
use Rattle.yp_data_json.specs.Writing.{Entry, leaf_data, item_data, gathered, members_in}
use Rattle.yp_data_json.specs.Runs.{longest, IsRest, AreBelow, goes_through, AllGoThrough, all_in_front, AreOneMember}
use Rattle.yp_data_json.specs.EntryKeys.{IsKeyBelow, AreAscending, among}
use Rattle.yp_data_json.proofs.Parts.{all_front, all_back, none_left}
use Rattle.yp_data_json.proofs.Below.{front_below, back_below, further}
use Rattle.yp_data_json.proofs.Steps.{longest_front, longest_back, deep_rows, deep_left, first_next, first_node, own_row_adds, has_plain, plain_below, container_member, presence_member, leaf_member, entry_some, entry_step, entries_member}
use Rattle.yp_data_json.proofs.Firsts.{run_first_member, run_has_rows}
use Rattle.yp_data_json.proofs.KeysAmong.{among_member, ascending_back, keys_below, cut_at, place_within}
use Rattle.yp_data_json.proofs.Told.{where_ok, member_told, entry_told, entries_told}
use Rattle.yp_data_json.proofs.writing.+write.Goals as goal

pub push_entries-push_item-requires : goal.push_entries-push_item-requires
push_entries-push_item-requires t c =
    let nodes = c.args.schema.now in
    let depth = c.args.depth in
    let seg = c.segment-seg.result.now in
    let left = c.loop-first.left.now in
    let entry = c.split_entry.result.0.now in
    let others = c.split_entry.result.1.now in
    let below = c.loop-first.invariant.below in
    let parts = c.split_entry.ensures.parts in
    let first = c.in-Some.ensures.cases.0 in
    let deep : depth < longest c.args.rows.now = deep_left depth c.args.node left c.in-Some.first.now _ c.args.rows.now first c.loop-first.invariant.through c.loop-first.invariant.long in
    let long : longest entry ≤ longest left = subst (λ rows. longest entry ≤ longest rows) (sym parts) (longest_front entry others) in
    let less : longest left ≤ longest c.args.rows.now = c.loop-first.invariant.long in
    let down = first_next nodes below.0 depth seg left c.in-Some.first.now _ first c.segment-seg.ensures.is below.1 in (
      search rules,
      (
        c.requires.schema,
        (
          first_segment nodes below.0 seg (drop (depth + 1) c.in-Some.first.now.path) down,
          further nodes below.0 depth seg entry c.split_entry.ensures.entry (front_below nodes below.0 depth entry others (subst (λ rows. AreBelow nodes below.0 depth rows) parts below.1)),
        ),
      ),
    )

pub push_entries-loop-first-preserved : goal.push_entries-loop-first-preserved
push_entries-loop-first-preserved t c =
    let nodes = c.args.schema.now in
    let depth = c.args.depth in
    let seg = c.segment-seg.result.now in
    let l = c.loop-first in
    let left = l.left.now in
    let entry = c.split_entry.result.0.now in
    let others = c.split_entry.result.1.now in
    let below = l.invariant.below in
    let es = l.invariant.so_far.0 in
    let parts = c.split_entry.ensures.parts in
    let first = c.in-Some.ensures.cases.0 in
    let through = all_back (λ row. goes_through depth c.args.node row ≡ true) entry others (subst (λ rows. AllGoThrough depth c.args.node rows) parts l.invariant.through) in
    let long : longest others ≤ longest left = subst (λ rows. longest others ≤ longest rows) (sym parts) (longest_back entry others) in
    let less : longest left ≤ longest c.args.rows.now = l.invariant.long in
    let some = entry_some depth seg left c.in-Some.first.now _ entry others first c.segment-seg.ensures.is parts c.split_entry.ensures.others in
    let same = first_node depth c.args.node seg left c.in-Some.first.now _ first c.segment-seg.ensures.is l.invariant.through in
    let e : Entry = record { keys = seg.keys; json = item_data nodes (node_at seg.node nodes).kind (node_at seg.node nodes) seg (members_in nodes (forest_at (depth + 1) entry)) } in
    let step = entry_step nodes depth c.args.node seg c.args.rows.now left entry others some.0 some.1.0 es e c.requires.kind same parts some.1.1 c.split_entry.ensures.entry through c.split_entry.ensures.others refl l.invariant.so_far.1.0 in record {
      below = (below.0, back_below nodes below.0 depth entry others (subst (λ rows. AreBelow nodes below.0 depth rows) parts below.1));
      through = through;
      long = omega arith;
      so_far = (
        es ++ e ∷ [],
        (
          step,
          entry_told l.later es e (string_bytes c.args.text.now) (string_bytes l.text) (string_bytes c.push_comma.new.text) (string_bytes c.push_item.new.text) c.in_ok-push_comma.ensures c.in_ok-push_item.ensures l.invariant.so_far.1.1,
        ),
      );
    }

pub push_entries-returns : goal.push_entries-returns
push_entries-returns t c =
    let l = c.loop-first in
    let nodes = c.args.schema.now in
    let none = none_left l.left.now c.in_default.ensures.cases in (
      l.invariant.so_far.0,
      (
        λ f before. l.invariant.so_far.1.0 f before ∙ ap (λ rows. all_in_front c.args.node l.invariant.so_far.0 (gathered nodes (laid_all c.args.depth rows f))) none,
        entries_told l.later l.invariant.so_far.0 (string_bytes c.args.text.now) (string_bytes l.text) (string_bytes c.push_str.new.self) c.in_ok-push_str.ensures.bytes l.invariant.so_far.1.1,
      ),
    )

pub push_members-loop-first-preserved-then-len-depth : goal.push_members-loop-first-preserved-then-len-depth
push_members-loop-first-preserved-then-len-depth t c =
    let nodes = c.args.schema.now in
    let depth = c.args.depth in
    let l = c.loop-first in
    let first = c.in-Some.first.now in
    let others = c.in-Some.others.now in
    let below = l.invariant.below in
    let is = c.in-Some.ensures.cases.0 in
    let short : length first.path ≤ depth = omega (arith, c.len.ensures, c.if-len-depth.true) in
    let none : drop depth first.path ≡ [] = drop_of_length-le first.path short in
    let back : longest others ≤ longest (first ∷ others) = longest_back (first ∷ []) others in
    let long : longest others ≤ longest l.left.now = subst (λ rows. longest others ≤ longest rows) (sym is) back in
    let less : longest l.left.now ≤ longest c.args.rows.now = l.invariant.long in record {
      below = (below.0, (back_below nodes below.0 depth (first ∷ []) others (subst (λ rows. AreBelow nodes below.0 depth rows) is below.1.0), below.1.1));
      ascending = l.invariant.ascending;
      within = l.invariant.within;
      long = omega arith;
      told = l.invariant.told
          ∙ ap (λ f. string_bytes l.text ++ members_text l.later (among nodes (drop l.next c.args.keys.now) (members_in nodes f))) (ap (forest_at depth) is ∙ own_row_adds depth first others none);
    }

pub push_members-push_keys-requires : goal.push_members-push_keys-requires
push_members-push_keys-requires t c =
    let nodes = c.args.schema.now in
    let l = c.loop-first in
    let below = l.invariant.below in
    let before = c.split_at-else-len-depth.result.0.now in
    let cut = cut_at c.args.keys.now l.next c.segment.result.now.node c.place_of-place.result c.split_at.result.1.now before c.split_at.ensures.back c.place_of-place.ensures c.split_at-else-len-depth.ensures.front in
    keys_below nodes below.0 before (all_front (IsKeyBelow nodes below.0) before _ (subst (AllByRecursion (IsKeyBelow nodes below.0)) cut.0 below.1.1))

pub push_members-push_node-requires : goal.push_members-push_node-requires
push_members-push_node-requires t c =
    let nodes = c.args.schema.now in
    let depth = c.args.depth in
    let seg = c.segment.result.now in
    let l = c.loop-first in
    let left = l.left.now in
    let first = c.in-Some.first.now in
    let run = c.split_run.result.0.now in
    let others = c.split_run.result.1.now in
    let below = l.invariant.below in
    let is = c.in-Some.ensures.cases.0 in
    let parts = c.split_run.ensures.parts in
    let some = run_has_rows depth seg left first _ run others is c.segment.ensures.is parts c.split_run.ensures.others in
    let long : longest run ≤ longest left = subst (λ rows. longest run ≤ longest rows) (sym parts) (longest_front run others) in
    let less : longest left ≤ longest c.args.rows.now = l.invariant.long in
    let down = first_next nodes below.0 depth seg left first _ is c.segment.ensures.is below.1.0 in (
      search rules,
      (
        c.requires.schema,
        (
          (below.0, front_below nodes below.0 depth run others (subst (λ rows. AreBelow nodes below.0 depth rows) parts below.1.0)),
          (c.split_run.ensures.run, (segment_within nodes seg (first_segment nodes below.0 seg (drop (depth + 1) first.path) down), (some, c.segment.ensures.room))),
        ),
      ),
    )

pub push_members-loop-first-smaller : goal.push_members-loop-first-smaller
push_members-loop-first-smaller t c =
    let left = c.loop-first.left.now in
    let run = c.split_run.result.0.now in
    let others = c.split_run.result.1.now in
    let parts = c.split_run.ensures.parts in
    let some : 0 < length run = run_has_rows c.args.depth c.segment.result.now left c.in-Some.first.now _ run others c.in-Some.ensures.cases.0 c.segment.ensures.is parts c.split_run.ensures.others in
    let sum : length left ≡ length run + length others = ap length parts ∙ length-append run others in
    let less : length others < length left = omega arith in
    less

pub push_members-loop-first-preserved : goal.push_members-loop-first-preserved
push_members-loop-first-preserved t c =
    let nodes = c.args.schema.now in
    let depth = c.args.depth in
    let seg = c.segment.result.now in
    let name = (node_at seg.node nodes).member in
    let l = c.loop-first in
    let left = l.left.now in
    let first = c.in-Some.first.now in
    let run = c.split_run.result.0.now in
    let others = c.split_run.result.1.now in
    let below = l.invariant.below in
    let is = c.in-Some.ensures.cases.0 in
    let parts = c.split_run.ensures.parts in
    let through = c.split_run.ensures.run in
    let place = c.place_of-place.result in
    let waiting = drop l.next c.args.keys.now in
    let rest = drop (l.next + place) c.args.keys.now in
    let before = c.split_at-else-len-depth.result.0.now in
    let cut = cut_at c.args.keys.now l.next seg.node place c.split_at.result.1.now before c.split_at.ensures.back c.place_of-place.ensures c.split_at-else-len-depth.ensures.front in
    let some = run_has_rows depth seg left first _ run others is c.segment.ensures.is parts c.split_run.ensures.others in
    let d = c.in_ok-push_node.ensures.0 in
    let later_members = members_in nodes (forest_at depth others) in
    let member_is = run_first_member nodes c.requires.schema below.0 depth seg.node left run others d parts below.1.0 through some c.split_run.ensures.others c.in_ok-push_node.ensures.1.0 in
    let goes_on = (subst (λ rows. AllByRecursion (IsRest nodes below.0 depth) rows) is below.1.0.each).0 in
    let among_is = among_member nodes c.requires.schema below.0 depth seg first waiting before rest d later_members cut.0 goes_on c.segment.ensures.is below.1.1 l.invariant.ascending cut.1.0 cut.1.1 in
    let text = string_bytes l.text in
    let text_of_keys = string_bytes c.push_keys.new.text in
    let back : longest others ≤ longest left = subst (λ rows. longest others ≤ longest rows) (sym parts) (longest_back run others) in
    let less : longest left ≤ longest c.args.rows.now = l.invariant.long in record {
      below = (
        below.0,
        (
          back_below nodes below.0 depth run others (subst (λ rows. AreBelow nodes below.0 depth rows) parts below.1.0),
          all_back (IsKeyBelow nodes below.0) before rest (subst (AllByRecursion (IsKeyBelow nodes below.0)) cut.0 below.1.1),
        ),
      );
      ascending = ascending_back before rest (subst AreAscending cut.0 l.invariant.ascending);
      within = place_within c.args.keys.now l.next place c.split_at.result.1.now c.split_at.ensures.back l.invariant.within c.place_of-place.ensures.within;
      long = omega arith;
      told = l.invariant.told
          ∙ ap (λ ms. text ++ members_text l.later (among nodes waiting ms)) member_is
          ∙ ap (λ ms. text ++ members_text l.later ms) among_is
          ∙ c.in_ok-later.ensures (member name d (among nodes rest later_members))
          ∙ member_told c.in_ok-later.later name d (among nodes rest later_members) text_of_keys (string_bytes c.push_name.new.text) (string_bytes c.push_node.new.text)
          (c.in_ok-push_name.ensures ∙ ap (λ n. text_of_keys ++ name_text c.in_ok-later.later n) c.member_text.ensures) c.in_ok-push_node.ensures.1.1;
    }

pub push_members-push_last_keys-requires-clause-below : goal.push_members-push_last_keys-requires-clause-below
push_members-push_last_keys-requires-clause-below t c = (c.loop-first.invariant.below.0, c.loop-first.invariant.below.1.1)

pub push_members-returns : goal.push_members-returns
push_members-returns t c =
    let nodes = c.args.schema.now in
    let l = c.loop-first in
    let none = none_left l.left.now c.in_default.ensures.cases in
    where_ok c.push_last_keys.result c.push_last_keys.ensures
    (λ told. sym (l.invariant.told ∙ ap (λ rows. string_bytes l.text ++ members_text l.later (among nodes (drop l.next c.args.keys.now) (members_in nodes (forest_at c.args.depth rows)))) none ∙ told))

pub push_node-push_members-requires : goal.push_node-push_members-requires
push_node-push_members-requires t c =
    let nodes = c.args.schema.now in
    let below = c.requires.below in
    let plain : has_plain (node_at c.args.node nodes).kind ≡ true = elim c.in-Container.is [
      | inl is ↦ ap has_plain (sym c.kind.ensures ∙ is)
      | inr is ↦ ap has_plain (sym c.kind.ensures ∙ is)
    ] in
    let deep : c.args.depth < longest c.args.rows.now = deep_rows c.args.depth c.args.node c.args.rows.now c.requires.of_node c.requires.some in
    (search rules, (c.requires.schema, ((Some c.args.node, (plain_below nodes below.0 c.args.depth c.args.node c.args.rows.now plain c.requires.of_node below.1, tt)), tt)))

pub push_node-returns-in_ok-push_str-in-Container : goal.push_node-returns-in_ok-push_str-in-Container
push_node-returns-in_ok-push_str-in-Container t c =
    let nodes = c.args.schema.now in
    let below = c.requires.below in
    let ms = members_in nodes (forest_at (c.args.depth + 1) c.args.rows.now) in
    let written : AreOneMember nodes c.args.depth c.args.node c.args.rows.now (object ms) = elim c.in-Container.is [
      | inl is ↦ container_member nodes below.0 c.args.depth c.args.node c.args.rows.now ms (sym c.kind.ensures ∙ is) c.requires.of_node below.1 c.requires.some refl
      | inr is ↦ presence_member nodes below.0 c.args.depth c.args.node c.args.rows.now ms (sym c.kind.ensures ∙ is) c.requires.of_node below.1 c.requires.some refl
    ] in
    where_ok c.push_members.result c.push_members.ensures
    (λ told. (object ms, (written, both (string_bytes c.args.text.now) (codes "{") (members_text false ms) (string_bytes c.push_str.new.self) _ c.in_ok-push_str-in-Container.ensures.bytes told)))

pub push_node-returns-in_ok-push_str-in-List : goal.push_node-returns-in_ok-push_str-in-List
push_node-returns-in_ok-push_str-in-List t c =
    let nodes = c.args.schema.now in
    where_ok c.push_entries.result c.push_entries.ensures
    (λ made.
    let ds = items_of (map (λ e. e.json) made.0) in (
      array ds,
      (
        entries_member nodes c.args.depth c.args.node c.args.rows.now made.0 c.requires.of_node c.requires.some made.1.0,
        both (string_bytes c.args.text.now) (codes "[") (items_text false ds) (string_bytes c.push_str-in-List.new.self) _ c.in_ok-push_str-in-List.ensures.bytes made.1.1,
      ),
    ))

pub push_node-returns-in-Some : goal.push_node-returns-in-Some
push_node-returns-in-Some t c =
    let nodes = c.args.schema.now in
    let below = c.requires.below in
    let row = c.in-Some.row.now in
    let d = leaf_data (node_at c.args.node nodes).ty (Some row.value) in
    where_ok c.push_leaf.result c.push_leaf.ensures
    (λ told. (d, (leaf_member nodes c.requires.schema below.0 c.args.depth c.args.node c.args.rows.now row _ d (sym c.kind.ensures ∙ c.in-Leaf.is) c.requires.of_node below.1 c.in-Some.ensures.cases.0 refl, told)))
