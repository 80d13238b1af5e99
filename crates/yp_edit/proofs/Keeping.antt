-- A patch leaves a datastore a datastore.
use Rattle.std.proofs.Common.{◌≡◌, ℕ, ◌+◌, List, [], ◌∷◌, ◌++◌, refl, sym, ap, subst, ◌∙◌, cond, Bool, true, false, true≢false, not, ◌||◌, Option, Some, None, inl, inr, ⊎_elim}
use Rattle.std.specs.Prelude.{◌⊎◌, is_some, Result, Ok, Err, IfOk, nat_lt, length}
use Rattle.std.specs.List.{list_all, AllByRecursion}
use Rattle.std.specs.Ordering.{eq_by_cmp}
use Rattle.std.proofs.lemmas.Bool.{and_parts, and_from, or_cases, and_right}
use Rattle.std.proofs.lemmas.List.Folds.{list_all-map}
use Rattle.yp_base.specs.declared.path.Seg.{Seg}
use Rattle.yp_base.specs.declared.row.Value.{Value}
use Rattle.yp_base.specs.declared.row.Row.{Row}
use Rattle.yp_base.specs.Order.{segment_cmp, is_within}
use Rattle.yp_base.specs.Rows.{value_at, put_rows, has_within, rows_without}
use Rattle.yp_base.specs.Exact.{segments_decide}
use Rattle.yp_base.specs.RowLaws.{all_puts, holds_at, value_at_without, puts_order, without_keeps_order}
use Rattle.yp_schema.specs.declared.schema.SchemaNode.{SchemaNode}
use Rattle.yp_schema.specs.Datastore.{is_path_of, is_place, ends_in_key, ends_in_entry, IsRowOf, has_row, IsDatastore, AreWhole}
use Rattle.yp_path.specs.declared.fault.PathFault.{PathFault}
use Rattle.yp_path.specs.Targets.{target_in}
use Rattle.yp_data_json.specs.declared.fault.DataFault.{DataFault}
use Rattle.yp_data_json.specs.AtPath.{rows_read}
use Rattle.serde_json.specs.Data.{Data}
use Rattle.yp_edit.specs.declared.fault.Tag.TheVariants.{DataMissing}
use Rattle.yp_edit.specs.declared.halt.Refusal.{Refusal}
use Rattle.yp_patch.specs.declared.patch.EditOp.{EditOp}
use Rattle.yp_patch.specs.declared.patch.EditOp.TheVariants.{Create, Delete, Insert, Merge, Move, Replace, Remove}
use Rattle.yp_patch.specs.declared.patch.Edit.{Edit}
use Rattle.yp_patch.specs.declared.patch.Patch.{Patch}
use Rattle.yp_base.specs.Results.{◌>>=◌}
use Rattle.yp_edit.specs.Patches.{RefusedEdit, refused, path_or, no_key, target_of, rows_or, value_rows, paths_above, has_its_row, stand_above, row_limit, within_limit, new_rows, performed, edited, of_edit, all_edited, applied}
use Rattle.yp_edit.proofs.Applied.{then_ok, choice_ok, numbered_ok}
use Rattle.yp_changes.specs.CommitLaws.{puts_stay}
use Rattle.yp_edit.proofs.Drafts.{there_first, there_of_puts}
use Rattle.yp_edit.proofs.Ends.{may_stand}
use Rattle.yp_base.specs.PathLaws.{within_longer}
use Rattle.yp_value.specs.TextLaws.{read_fits}
use Rattle.yp_path.specs.TargetLaws.{path_of_text}
use Rattle.yp_data_json.specs.ReadLaws.{ReadsWhole}

-- ---- paths

-- a path goes on from a front
abbrev StandsAbove : List Seg → List Seg → Type 0
StandsAbove front path = (seg : Seg) × (more : List Seg) × (path ≡ front ++ seg ∷ more)

-- of a path at or below another, a front is at or below the other too, or stands above it
front_of : (at front rest : List Seg) → is_within at (front ++ rest) ≡ true → (is_within at front ≡ true) ⊎ StandsAbove front at
front_of [] front rest h = inl refl
front_of (s ∷ at) [] rest h = inr (s, at, refl)
front_of (s ∷ at) (t ∷ front) rest h =
    let parts = and_parts (eq_by_cmp segment_cmp s t) (is_within at (front ++ rest)) h in
    ⊎_elim (λ within. inl (and_from (eq_by_cmp segment_cmp s t) (is_within at front) parts.0 within))
    (λ above. inr (above.0, above.1, (λ i. (segments_decide s t).0 parts.0 i ∷ above.2 i)))
    (front_of at front rest parts.1)

-- a path isn't at or below one that goes on from it
not_below : (front : List Seg) (seg : Seg) (more : List Seg) → is_within (front ++ seg ∷ more) front ≡ false
not_below [] seg more = refl
not_below (s ∷ front) seg more = and_right (eq_by_cmp segment_cmp s s) (is_within (front ++ seg ∷ more) front) (not_below front seg more)

-- where all paths above a path pass a test, one that stands above it does
passes_above : (t : List Seg → Bool) (front : List Seg) (seg : Seg) (more : List Seg) → list_all t (paths_above (front ++ seg ∷ more)) ≡ true → t front ≡ true
passes_above t [] seg more h = (and_parts (t []) _ h).0
passes_above t (s ∷ front) seg more h =
    passes_above (λ above. t (s ∷ above)) front seg more (sym (list_all-map t (λ (above : List Seg). s ∷ above) (paths_above (front ++ seg ∷ more))) ∙ (and_parts (t []) _ h).1)

-- ---- rows

all_without : (P : Row → Type 0) (target : List Seg) (rows : List Row) → AllByRecursion P rows → AllByRecursion P (rows_without target rows)
all_without P target [] all = tt
all_without P target (row ∷ rows) all =
    elim (not (is_within target row.path)) as (λ b. AllByRecursion P (cond b (row ∷ rows_without target rows) (rows_without target rows))) [
      | true ↦ (all.0, all_without P target rows all.1)
      | false ↦ all_without P target rows all.1
    ]

-- a row that isn't at or below a path is left without those that are
still_there : (target path : List Seg) (rows : List Row) → is_within target path ≡ false → has_row path rows ≡ true → has_row path (rows_without target rows) ≡ true
still_there target path rows apart there = ap is_some (value_at_without path target rows ∙ ap (λ b. cond b None (value_at path rows)) apart) ∙ there

-- and one that is left isn't at or below it
left_apart : (b : Bool) (value : Option Value) → is_some (cond b None value) ≡ true → (b ≡ false) × (is_some value ≡ true)
left_apart true value h = absurd (true≢false (sym h))
left_apart false value h = (refl, h)

-- ---- what an edit does

-- each list entry and presence container above a path is there
abbrev Supported : List SchemaNode → List Seg → List Row → Type 0
Supported nodes target rows = (above : List Seg) → StandsAbove above target → ends_in_entry nodes above ≡ true → has_row above rows ≡ true

there_if : (a b : Bool) → (not a || b) ≡ true → a ≡ true → b ≡ true
there_if true b h is = h
there_if false b h is = absurd (true≢false (sym is))

supported : (nodes : List SchemaNode) (target : List Seg) (rows : List Row) → stand_above nodes target rows ≡ true → Supported nodes target rows
supported nodes target rows h above is entry =
    there_if (ends_in_entry nodes above) (has_row above rows)
    (passes_above (has_its_row nodes rows) above is.0 is.1 (subst (λ (p : List Seg). stand_above nodes p rows ≡ true) is.2 h)) entry

module _ (nodes : List SchemaNode) (target : List Seg) (rows : List Row) (datastore : IsDatastore nodes rows) where
  apart_above : (above rest : List Seg) → is_within target (above ++ rest) ≡ false → is_within target above ≡ false
  apart_above above rest apart =
      elim (is_within target above) as (λ b. is_within target above ≡ b → b ≡ false) [
        | true ↦ λ e. absurd (true≢false (sym (within_longer target above rest e) ∙ apart))
        | false ↦ λ e. refl
      ] refl

  -- without the rows at or below a path it is a datastore
  pub without_datastore : IsDatastore nodes (rows_without target rows)
  without_datastore = record {
    in_order = without_keeps_order target rows datastore.in_order;
    of_schema = all_without (IsRowOf nodes) target rows datastore.of_schema;
    entries = λ above rest within entry there.
        let left = left_apart (is_within target (above ++ rest)) (value_at (above ++ rest) rows) (sym (ap is_some (value_at_without (above ++ rest) target rows)) ∙ there) in
        still_there target above rows (apart_above above rest left.0) (datastore.entries above rest refl entry left.1);
  }

  module _ (new : List Row) (whole : AreWhole nodes target new) where
    entry_put : (above rest : List Seg) → Supported nodes target rows → ends_in_entry nodes above ≡ true → has_row (above ++ rest) new ≡ true → has_row above (put_rows new rows) ≡ true
    entry_put above rest stands entry there =
        ⊎_elim (λ inside. sym (there_first above new rows true whole.writable.in_order (sym (whole.entries above rest inside entry there)) refl))
        (λ high. puts_stay above new rows (stands above high entry))
        (front_of target above rest (holds_at (λ path. is_within target path ≡ true) new (above ++ rest) whole.writable.within there))

    -- with whole rows at a path, where what must stand above it does, it is a datastore
    pub puts_datastore : Supported nodes target rows → IsDatastore nodes (put_rows new rows)
    puts_datastore stands = record {
      in_order = puts_order new rows datastore.in_order;
      of_schema = all_puts (IsRowOf nodes) new rows whole.writable.of_schema datastore.of_schema;
      entries = λ above rest within entry there.
          ⊎_elim (entry_put above rest stands entry) (λ before. puts_stay above new rows (datastore.entries above rest refl entry before))
          (or_cases (has_row (above ++ rest) new) (has_row (above ++ rest) rows) (sym (there_of_puts (above ++ rest) new rows whole.writable.in_order) ∙ there));
    }

    -- what must stand above a path stays without what is at or below it
    supported_without : Supported nodes target rows → Supported nodes target (rows_without target rows)
    supported_without stands above high entry =
        still_there target above rows (ap (λ (p : List Seg). is_within p above) high.2 ∙ not_below above high.0 high.1) (stands above high entry)

-- ---- edits

-- rows that an edit brings
abbrev Brought : List SchemaNode → List Seg → List Row → List Row → Type 0
Brought nodes target rows new = AreWhole nodes target new × Supported nodes target rows

-- a target is a path of the schema
place_at : (b : Bool) (nodes : List SchemaNode) (path : List Seg) (refusal : Refusal) → ends_in_key nodes path ≡ b → is_path_of nodes path ≡ true → IfOk (cond b (Err refusal) (Ok path)) (λ target. is_place nodes target ≡ true)
place_at true nodes path refusal ends is = tt
place_at false nodes path refusal ends is = may_stand nodes path false is (sym ends) refl

-- where data may stand
target_place : (nodes : List SchemaNode) (text : List ℕ) → IfOk (target_of nodes text) (λ target. is_place nodes target ≡ true)
target_place nodes text =
    elim (target_in nodes text) as (λ (r : Result (List Seg) PathFault). target_in nodes text ≡ r → IfOk (path_or r >>= no_key nodes) (λ target. is_place nodes target ≡ true)) [
      | Ok path ↦ λ e. place_at (ends_in_key nodes path) nodes path _ refl (path_of_text read_fits nodes text path e)
      | Err fault ↦ λ e. tt
    ] refl

module _ (read_whole : ReadsWhole) where
  value_whole : (nodes : List SchemaNode) (target : List Seg) (value : Option Data) → is_place nodes target ≡ true → IfOk (value_rows nodes target value) (AreWhole nodes target)
  value_whole nodes target None place = tt
  value_whole nodes target (Some d) place =
      elim (rows_read nodes target d) as (λ (r : Result (List Row) DataFault). rows_read nodes target d ≡ r → IfOk (rows_or r) (AreWhole nodes target)) [
        | Ok rows ↦ λ e. read_whole nodes target d rows place e
        | Err fault ↦ λ e. tt
      ] refl

  brought : (nodes : List SchemaNode) (target : List Seg) (value : Option Data) (rows : List Row) → is_place nodes target ≡ true → IfOk (new_rows nodes target value rows) (Brought nodes target rows)
  brought nodes target value rows place =
      then_ok (AreWhole nodes target) (Brought nodes target rows) (value_rows nodes target value) _ (value_whole nodes target value place) (λ new whole.
      elim (stand_above nodes target rows) as (λ b. stand_above nodes target rows ≡ b → IfOk (cond b (Ok new) (refused DataMissing)) (Brought nodes target rows)) [
        | true ↦ λ e. (whole, supported nodes target rows e)
        | false ↦ λ e. tt
      ] refl)

  by_keeps : (op : EditOp) (nodes : List SchemaNode) (target : List Seg) (value : Option Data) (rows : List Row) → is_place nodes target ≡ true → IsDatastore nodes rows → IfOk (performed op nodes target value rows) (IsDatastore nodes)
  by_keeps Create nodes target value rows place datastore =
      then_ok (Brought nodes target rows) (IsDatastore nodes) (new_rows nodes target value rows) _ (brought nodes target value rows place)
      (λ new given. choice_ok (IsDatastore nodes) (has_within target rows) _ _ tt (puts_datastore nodes target rows datastore new given.0 given.1))
  by_keeps Merge nodes target value rows place datastore =
      then_ok (Brought nodes target rows) (IsDatastore nodes) (new_rows nodes target value rows) _ (brought nodes target value rows place)
      (λ new given. puts_datastore nodes target rows datastore new given.0 given.1)
  by_keeps Replace nodes target value rows place datastore =
      then_ok (Brought nodes target rows) (IsDatastore nodes) (new_rows nodes target value rows) _ (brought nodes target value rows place)
      (λ new given. puts_datastore nodes target (rows_without target rows) (without_datastore nodes target rows datastore) new given.0 (supported_without nodes target rows datastore new given.0 given.1))
  by_keeps Delete nodes target value rows place datastore = choice_ok (IsDatastore nodes) (has_within target rows) _ _ (without_datastore nodes target rows datastore) tt
  by_keeps Remove nodes target value rows place datastore = without_datastore nodes target rows datastore
  by_keeps Insert nodes target value rows place datastore = tt
  by_keeps Move nodes target value rows place datastore = tt

  edit_keeps : (nodes : List SchemaNode) (rows : List Row) (edit : Edit) → IsDatastore nodes rows → IfOk (edited nodes rows edit) (IsDatastore nodes)
  edit_keeps nodes rows edit datastore =
      then_ok (λ target. is_place nodes target ≡ true) (IsDatastore nodes) (target_of nodes edit.target) _ (target_place nodes edit.target) (λ target place.
      then_ok (IsDatastore nodes) (IsDatastore nodes) (performed edit.op nodes target edit.value rows) within_limit (by_keeps edit.op nodes target edit.value rows place datastore)
      (λ x h. choice_ok (IsDatastore nodes) (nat_lt row_limit (length x)) _ _ tt h))

  -- ---- a patch

  all_keep : (nodes : List SchemaNode) (n : ℕ) (rows : List Row) (edits : List Edit) → IsDatastore nodes rows → IfOk (all_edited nodes n rows edits) (IsDatastore nodes)
  all_keep nodes n rows [] datastore = datastore
  all_keep nodes n rows (edit ∷ edits) datastore =
      then_ok (IsDatastore nodes) (IsDatastore nodes) (of_edit n (edited nodes rows edit)) _ (numbered_ok (IsDatastore nodes) n (edited nodes rows edit) (edit_keeps nodes rows edit datastore))
      (λ x h. all_keep nodes (n + 1) x edits h)

  -- a patch leaves a datastore a datastore
  pub patch_keeps : (nodes : List SchemaNode) (rows after : List Row) (patch : Patch) → IsDatastore nodes rows → applied nodes rows patch ≡ Ok after → IsDatastore nodes after
  patch_keeps nodes rows after patch datastore is = subst (λ (r : Result (List Row) RefusedEdit). IfOk r (IsDatastore nodes)) is (all_keep nodes 0 rows patch.edits datastore)
