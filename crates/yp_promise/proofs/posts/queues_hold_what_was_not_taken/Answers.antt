use Rattle.yp_promise.proofs.Queues.{entered_posts, run_posts, settled_posts}
use Rattle.yp_promise.proofs.posts.queues_hold_what_was_not_taken.Goals as goal

pub returns-clause-run : goal.returns-clause-run
returns-clause-run c = run_posts

pub returns-clause-enters : goal.returns-clause-enters
returns-clause-enters c = entered_posts

pub returns-clause-settles : goal.returns-clause-settles
returns-clause-settles c = settled_posts
