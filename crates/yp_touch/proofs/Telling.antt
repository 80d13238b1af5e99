-- The edits of roots, one after another.
use Rattle.std.proofs.Common.{◌≡◌, List, [], ◌∷◌, ◌++◌, sym, ap, ◌∙◌, cond, Bool, true, false, not, append_assoc}
use Rattle.std.specs.Prelude.{Result, Ok, Err, IfOk}
use Rattle.yp_base.specs.declared.path.Seg.{Seg}
use Rattle.yp_base.specs.declared.row.Row.{Row}
use Rattle.yp_base.specs.declared.notice.Change.{Change}
use Rattle.yp_base.specs.declared.notice.Kinds.{Kinds}
use Rattle.yp_changes.specs.Records.{is_excluded}
use Rattle.yp_touch.specs.Absorbed.{flagged, recorded, root_change}

pub ok_on : {A E : Type 0} (r : Result A E) (P Q : A → Type 0) → ((x : A) → P x → Q x) → IfOk r P → IfOk r Q
ok_on (Ok x) P Q on h = on x h
ok_on (Err e) P Q on h = tt

module _ (excluded : Kinds) (new : List Row) (all_paths paths : List (List Seg)) (all_flags flags : List Bool) (path : List Seg) (flag : Bool) (first : all_paths ≡ path ∷ paths) (mark : all_flags ≡ flag ∷ flags)
    (change : Change) (is : change ≡ root_change new (record { path = path; was = flag })) (changes whole : List Change) (all : changes ++ recorded excluded (flagged all_paths all_flags) new ≡ whole) where
  -- the edits of the roots that are left
  abbrev rest : List Change
  rest = recorded excluded (flagged paths flags) new

  one_more : (b : Bool) → is_excluded excluded change.kind ≡ b → recorded excluded (flagged all_paths all_flags) new ≡ cond (not b) (change ∷ rest) rest
  one_more b told =
      (λ i. recorded excluded (flagged (first i) (mark i)) new)
      ∙ ap (λ (c : Change). cond (not (is_excluded excluded c.kind)) (c ∷ rest) rest) (sym is)
      ∙ ap (λ b. cond (not b) (change ∷ rest) rest) told

  -- one that is told
  pub edit_told : is_excluded excluded change.kind ≡ false → (pushed : List Change) → pushed ≡ changes ++ change ∷ [] → pushed ++ rest ≡ whole
  edit_told told pushed push =
      ap (λ (xs : List Change). xs ++ rest) push ∙ append_assoc changes (change ∷ []) rest ∙ ap (λ (xs : List Change). changes ++ xs) (sym (one_more false told)) ∙ all

  -- one of an excluded kind
  pub edit_left : is_excluded excluded change.kind ≡ true → changes ++ rest ≡ whole
  edit_left told = ap (λ (xs : List Change). changes ++ xs) (sym (one_more true told)) ∙ all
