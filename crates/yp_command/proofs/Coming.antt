-- Commands that may come in a journal.
use Rattle.std.proofs.Common.{◌≡◌, List, Option, Some, None, option_and_then, Ok, refl}
use Rattle.std.specs.Option.{ForSome}
use Rattle.serde_json.specs.Data.{Data}
use Rattle.yp_base.specs.declared.notice.Trigger.{Trigger}
use Rattle.yp_base.specs.declared.notice.Trigger.TheVariants.{Periodic, OnChange}
use Rattle.yp_schema.specs.declared.schema.SchemaNode.{SchemaNode}
use Rattle.yp_nacm.specs.declared.policy.Policy.{Policy}
use Rattle.yp_nacm.specs.Policies.{IsPolicyOf}
use Rattle.yp_nacm_text.specs.Policies.{policy_in}
use Rattle.yp_terms.specs.Amends.{HasGivenAnchor}
use Rattle.yp_terms.specs.Terms.{HasAnchor}
use Rattle.yp_time.specs.Ticks.{IsAnchor}
use Rattle.yp_journal.specs.declared.command.Command.TheVariants as commands
use Rattle.yp_command.specs.Commands.{CommandsMayCome, anchor_of}

-- a policy that is read is one of its schema
abbrev pub PathsKept : Type 0
PathsKept = (nodes : List SchemaNode) (json : Data) (policy : Policy) → policy_in nodes json ≡ Ok policy → IsPolicyOf nodes policy

has_anchor : (trigger : Trigger) → ForSome (anchor_of trigger) IsAnchor → HasAnchor trigger
has_anchor (Periodic period (Some anchor)) within = within anchor refl
has_anchor (Periodic period None) within = tt
has_anchor (OnChange dampening sync excluded) within = tt

has_given : (given : Option Trigger) → ForSome (option_and_then anchor_of given) IsAnchor → HasGivenAnchor given
has_given None within = tt
has_given (Some trigger) within = has_anchor trigger within

-- a command within its bounds may come
pub may_come : PathsKept → CommandsMayCome
may_come paths nodes receivers (commands.Tick tick) is few = is
may_come paths nodes receivers (commands.Edit patch) is few = record { json = is.0; read = is.1; few = few.0 }
may_come paths nodes receivers (commands.Rules policy) is few = paths nodes is.0 policy is.1
may_come paths nodes receivers (commands.Establish by ask) is few = (is, has_anchor ask.trigger few.1)
may_come paths nodes receivers (commands.Modify by id amend) is few = (is, has_given amend.trigger few.1)
may_come paths nodes receivers (commands.Delete by id) is few = is
may_come paths nodes receivers (commands.Kill by id) is few = is
may_come paths nodes receivers (commands.Resync by id) is few = is
may_come paths nodes receivers (commands.Configure id names ask) is few = (is, has_anchor ask.trigger few.1)
may_come paths nodes receivers (commands.Reconfigure id amend) is few = has_given amend.trigger few.1
may_come paths nodes receivers (commands.Unconfigure id) is few = tt
may_come paths nodes receivers (commands.Take receiver count) is few = is
