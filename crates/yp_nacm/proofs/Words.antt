-- What the first matching rule of two lists of rules says of a call.
use Rattle.std.proofs.Common.{◌≡◌, ℕ, suc, ◌+◌, ◌<◌, length, drop, get_or, arith, List, [], ◌∷◌, ◌++◌, Bool, true, false, Option, Some, None, refl, true≢false, sym, ap, ◌∙◌, filter}
use Rattle.std.specs.Prelude.{cond, option_map, is_some}
use Rattle.std.specs.List.{find}
use Rattle.std.proofs.Math.Seq.{drop-cons}
use Rattle.std.proofs.lemmas.List.{append-nil}
use Rattle.yp_nacm.specs.declared.execute.Operation.{Operation}
use Rattle.yp_nacm.specs.declared.policy.Rule.{Rule}
use Rattle.yp_nacm.specs.declared.policy.RuleList.{RuleList}
use Rattle.yp_nacm.specs.Decision.{matches_call, said_of_call}
use Rattle.yp_nacm.specs.Policies.{rules_in}

abbrev word : Option Rule → Option Bool
word found = option_map (λ rule. rule.permit) found

first : (b : Bool) (rule : Rule) (one two : Option Rule) (permit : Bool) → (word one ≡ Some permit → word two ≡ Some permit) → word (cond b (Some rule) one) ≡ Some permit → word (cond b (Some rule) two) ≡ Some permit
first true rule one two permit go h = h
first false rule one two permit go h = go h

-- where the first list says something, both together say it
said_first : (op : Operation) (rules more : List Rule) (permit : Bool) → said_of_call op rules ≡ Some permit → said_of_call op (rules ++ more) ≡ Some permit
said_first op [] more permit h = absurd (true≢false (sym (ap is_some h)))
said_first op (rule ∷ rules) more permit h = first (matches_call op rule) rule (find (matches_call op) rules) (find (matches_call op) (rules ++ more)) permit (said_first op rules more permit) h

next : (b : Bool) (rule : Rule) (one two : Option Rule) (rest : Option Bool) → (word one ≡ None → word two ≡ rest) → word (cond b (Some rule) one) ≡ None → word (cond b (Some rule) two) ≡ rest
next true rule one two rest go h = absurd (true≢false (ap is_some h))
next false rule one two rest go h = go h

-- where the first list says nothing, both together say what the second says
said_next : (op : Operation) (rules more : List Rule) → said_of_call op rules ≡ None → said_of_call op (rules ++ more) ≡ said_of_call op more
said_next op [] more h = refl
said_next op (rule ∷ rules) more h = next (matches_call op rule) rule (find (matches_call op) rules) (find (matches_call op) (rules ++ more)) (said_of_call op more) (said_next op rules more) h

one_list : (op : Operation) (b : Bool) (rules more : List Rule) (permit : Bool) → said_of_call op (cond b (rules ++ []) []) ≡ Some permit → said_of_call op (cond b (rules ++ more) more) ≡ Some permit
one_list op true rules more permit h = said_first op rules more permit (ap (said_of_call op) (sym (append-nil rules)) ∙ h)
one_list op false rules more permit h = absurd (true≢false (sym (ap is_some h)))

no_list : (op : Operation) (b : Bool) (rules more : List Rule) → said_of_call op (cond b (rules ++ []) []) ≡ None → said_of_call op (cond b (rules ++ more) more) ≡ said_of_call op more
no_list op true rules more h = said_next op rules more (ap (said_of_call op) (sym (append-nil rules)) ∙ h)
no_list op false rules more h = refl

onto : (b : Bool) (rules : List Rule) (list : RuleList) (lists : List RuleList) → list.rules ≡ rules → rules_in (cond b (list ∷ lists) lists) ≡ cond b (rules ++ rules_in lists) (rules_in lists)
onto true rules list lists e = ap (λ own. own ++ rules_in lists) e
onto false rules list lists e = refl

module _ (p : RuleList → Bool) (list : RuleList) where
  taken : (lists : List RuleList) → rules_in (filter p (list ∷ lists)) ≡ cond (p list) (list.rules ++ rules_in (filter p lists)) (rules_in (filter p lists))
  taken lists = onto (p list) list.rules list (filter p lists) refl

  first_list : (op : Operation) (lists : List RuleList) (permit : Bool) → said_of_call op (rules_in (filter p (list ∷ []))) ≡ Some permit → said_of_call op (rules_in (filter p (list ∷ lists))) ≡ Some permit
  first_list op lists permit h = ap (said_of_call op) (taken lists) ∙ one_list op (p list) list.rules _ permit (ap (said_of_call op) (sym (taken [])) ∙ h)

  next_lists : (op : Operation) (lists : List RuleList) → said_of_call op (rules_in (filter p (list ∷ []))) ≡ None → said_of_call op (rules_in (filter p (list ∷ lists))) ≡ said_of_call op (rules_in (filter p lists))
  next_lists op lists h = ap (said_of_call op) (taken lists) ∙ no_list op (p list) list.rules _ (ap (said_of_call op) (sym (taken [])) ∙ h)

module _ (p : RuleList → Bool) (op : Operation) (lists : List RuleList) (i : ℕ) (other : RuleList) where
  -- where the rule list at a place says something, all from there on say it
  pub lists_first : (permit : Bool) → i < length lists → said_of_call op (rules_in (filter p (get_or lists i other ∷ []))) ≡ Some permit → said_of_call op (rules_in (filter p (drop i lists))) ≡ Some permit
  lists_first permit lt h = ap (λ some. said_of_call op (rules_in (filter p some))) (drop-cons lists i other lt) ∙ first_list p (get_or lists i other) op (drop (suc i) lists) permit h

  -- where it says nothing, all from there on say what those behind it say
  pub lists_next : i < length lists → said_of_call op (rules_in (filter p (get_or lists i other ∷ []))) ≡ None
      → said_of_call op (rules_in (filter p (drop i lists))) ≡ said_of_call op (rules_in (filter p (drop (i + 1) lists)))
  lists_next lt h =
      let e : suc i ≡ i + 1 = omega arith in
      ap (λ some. said_of_call op (rules_in (filter p some))) (drop-cons lists i other lt)
      ∙ next_lists p (get_or lists i other) op (drop (suc i) lists) h
      ∙ ap (λ n. said_of_call op (rules_in (filter p (drop n lists)))) e
