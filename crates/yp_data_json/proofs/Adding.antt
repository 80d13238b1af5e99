-- Rows that come to others, as a set.
use Rattle.std.proofs.Common.{◌≡◌, ℕ, List, [], ◌∷◌, ◌++◌, true, true≢false, refl, sym, ap, subst, ◌∙◌, append_assoc, append-nil, inl, inr, ⊎_elim}
use Rattle.std.specs.Prelude.{◌⊎◌, Option, Some, None, is_some}
use Rattle.yp_base.specs.declared.atom.Atom.{Atom}
use Rattle.yp_base.specs.declared.path.Seg.{Seg}
use Rattle.yp_base.specs.declared.row.Value.{Value}
use Rattle.yp_base.specs.declared.row.Row.{Row}
use Rattle.yp_base.specs.Rows.{value_at, put_row}
use Rattle.yp_data_json.specs.Reading.{below, row_at}
use Rattle.yp_data_json.proofs.PutRows.{put_there, put_elsewhere, same_or_apart}

-- the value of a row's path is its own
abbrev pub Among : Row → List Row → Type 0
Among row rows = value_at row.path rows ≡ Some row.value

-- the rows after are those before, and the new ones
pub record Adds (new : Row → Type 0) (before after : List Row) : Type 0 where
  pub was : (row : Row) → Among row before → Among row after
  pub come : (row : Row) → new row → Among row after
  pub only : (row : Row) → Among row after → Among row before ⊎ new row

pub adds_none : (new : Row → Type 0) (rows : List Row) → ((row : Row) → new row → ⊥) → Adds new rows rows
adds_none new rows none = record { was = λ row h. h; come = λ row h. absurd (none row h); only = λ row h. inl h }

pub adds_on : (one two : Row → Type 0) (a b c : List Row) → Adds one a b → Adds two b c → Adds (λ row. one row ⊎ two row) a c
adds_on one two a b c first second = record {
  was = λ row h. second.was row (first.was row h);
  come = λ row h. ⊎_elim (λ k. second.was row (first.come row k)) (λ k. second.come row k) h;
  only = λ row h. ⊎_elim (λ k. ⊎_elim (λ l. inl l) (λ l. inr (inl l)) (first.only row k)) (λ k. inr (inr k)) (second.only row h);
}

pub adds_as : (one two : Row → Type 0) (before after : List Row) → ((row : Row) → one row → two row) → ((row : Row) → two row → one row) → Adds one before after → Adds two before after
adds_as one two before after there back adds = record {
  was = adds.was;
  come = λ row h. adds.come row (back row h);
  only = λ row h. ⊎_elim (λ k. inl k) (λ k. inr (there row k)) (adds.only row h);
}

pub some_value : (v w : Value) → Some v ≡ Some w → v ≡ w
some_value v w e = cc

pub none_some : {A : Type 0} (x : A) → None ≡ Some x → ⊥
none_some x e = true≢false (sym (ap is_some e))

-- one more row, of a path that had none
pub adds_put : (path : List Seg) (value : Value) (rows : List Row) → value_at path rows ≡ None → Adds (λ row. row ≡ row_at path value) rows (put_row (row_at path value) rows)
adds_put path value rows none = record {
  was = λ row h.
      same_or_apart row.path path
      (λ e. absurd (none_some row.value (sym none ∙ ap (λ (p : List Seg). value_at p rows) (sym e) ∙ h)))
      (λ e. put_elsewhere row.path path value rows e ∙ h);
  come = λ row h. subst (λ (r : Row). Among r (put_row (row_at path value) rows)) (sym h) (put_there path value rows);
  only = λ row h.
      same_or_apart row.path path
      (λ e.
      let here : Some row.value ≡ Some value = sym h ∙ ap (λ (p : List Seg). value_at p (put_row (row_at path value) rows)) e ∙ put_there path value rows in
      let same : row.value ≡ value = some_value row.value value here in
      inr (λ i. record { path = e i; value = same i }))
      (λ e. inl (sym (put_elsewhere row.path path value rows e) ∙ h));
}

-- ---- places without rows

-- no row at or below a path
abbrev pub FreeBelow : List Seg → List Row → Type 0
FreeBelow path rows = (rest : List Seg) → value_at (path ++ rest) rows ≡ None

-- none at or below a node, whatever its keys
abbrev pub Free : List Seg → ℕ → List Row → Type 0
Free path n rows = (keys : List Atom) → FreeBelow (below path n keys) rows

pub still_none : (new : Row → Type 0) (before after : List Row) (path : List Seg) → Adds new before after → value_at path before ≡ None → ((row : Row) → new row → row.path ≡ path → ⊥) → value_at path after ≡ None
still_none new before after path adds none apart =
    elim (value_at path after) as (λ o. value_at path after ≡ o → o ≡ None) [
      | None ↦ λ e. refl
      | Some v ↦ λ e. absurd (⊎_elim (λ k. none_some v (sym none ∙ k)) (λ k. apart (row_at path v) k refl) (adds.only (row_at path v) e))
    ] refl

pub still_free : (new : Row → Type 0) (before after : List Row) (path : List Seg) → Adds new before after → FreeBelow path before → ((row : Row) → new row → (rest : List Seg) → row.path ≡ path ++ rest → ⊥) → FreeBelow path after
still_free new before after path adds free apart = λ rest. still_none new before after (path ++ rest) adds (free rest) (λ row h e. apart row h rest e)

-- where rows come, what had no row before may have none
pub was_none : (new : Row → Type 0) (before after : List Row) (path : List Seg) → Adds new before after → value_at path after ≡ None → value_at path before ≡ None
was_none new before after path adds none =
    elim (value_at path before) as (λ o. value_at path before ≡ o → o ≡ None) [
      | None ↦ λ e. refl
      | Some v ↦ λ e. absurd (none_some v (sym none ∙ adds.was (row_at path v) e))
    ] refl

pub some_stays : (new : Row → Type 0) (before after : List Row) (path : List Seg) → Adds new before after → is_some (value_at path before) ≡ true → is_some (value_at path after) ≡ true
some_stays new before after path adds some =
    elim (value_at path before) as (λ o. value_at path before ≡ o → is_some o ≡ true → is_some (value_at path after) ≡ true) [
      | None ↦ λ e k. absurd (true≢false (sym k))
      | Some v ↦ λ e k. ap is_some (adds.was (row_at path v) e)
    ] refl some

pub some_none : {A : Type 0} (o : Option A) → is_some o ≡ true → o ≡ None → ⊥
some_none o some none = true≢false (sym some ∙ ap is_some none)

-- ---- paths

same_next : (path : List Seg) (s t : Seg) (rest more : List Seg) → path ++ s ∷ rest ≡ path ++ t ∷ more → s ≡ t
same_next [] s t rest more e = cc
same_next (x ∷ path) s t rest more e = let tails : path ++ s ∷ rest ≡ path ++ t ∷ more = cc in same_next path s t rest more tails

abbrev pub seg_of : ℕ → List Atom → Seg
seg_of n keys = record { node = n; keys = keys }

same_seg : (path : List Seg) (n m : ℕ) (keys other : List Atom) (rest more : List Seg) → below path n keys ++ rest ≡ below path m other ++ more → seg_of n keys ≡ seg_of m other
same_seg path n m keys other rest more e =
    same_next path (seg_of n keys) (seg_of m other) rest more (sym (append_assoc path (seg_of n keys ∷ []) rest) ∙ e ∙ append_assoc path (seg_of m other ∷ []) more)

pub same_node : (path : List Seg) (n m : ℕ) (keys other : List Atom) (rest more : List Seg) → below path n keys ++ rest ≡ below path m other ++ more → n ≡ m
same_node path n m keys other rest more e = ap (λ (s : Seg). s.node) (same_seg path n m keys other rest more e)

pub same_keys : (path : List Seg) (n m : ℕ) (keys other : List Atom) (rest more : List Seg) → below path n keys ++ rest ≡ below path m other ++ more → keys ≡ other
same_keys path n m keys other rest more e = ap (λ (s : Seg). s.keys) (same_seg path n m keys other rest more e)

-- a path isn't one below it
pub no_loop : (path : List Seg) (seg : Seg) (rest : List Seg) → path ++ seg ∷ rest ≡ path → ⊥
no_loop [] seg rest e = cc
no_loop (x ∷ path) seg rest e = let tails : path ++ seg ∷ rest ≡ path = cc in no_loop path seg rest tails

-- ---- one row at a free place

pub none_here : (path : List Seg) (rows : List Row) → FreeBelow path rows → value_at path rows ≡ None
none_here path rows free = sym (ap (λ (p : List Seg). value_at p rows) (append-nil path)) ∙ free []

pub free_inside : (path : List Seg) (n : ℕ) (keys : List Atom) (rows : List Row) → FreeBelow path rows → FreeBelow (below path n keys) rows
free_inside path n keys rows free = λ rest. ap (λ (p : List Seg). value_at p rows) (append_assoc path (seg_of n keys ∷ []) rest) ∙ free (seg_of n keys ∷ rest)

-- the row of a path leaves the places below it free
pub put_free : (path : List Seg) (value : Value) (rows : List Row) → FreeBelow path rows → (n : ℕ) → Free path n (put_row (row_at path value) rows)
put_free path value rows free n = λ keys.
    still_free (λ row. row ≡ row_at path value) rows (put_row (row_at path value) rows) (below path n keys) (adds_put path value rows (none_here path rows free)) (free_inside path n keys rows free)
    (λ row h rest e. no_loop path (seg_of n keys) rest (sym (append_assoc path (seg_of n keys ∷ []) rest) ∙ sym e ∙ ap (λ (r : Row). r.path) h))
