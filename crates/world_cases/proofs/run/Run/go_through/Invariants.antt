use Rattle.world_cases.specs.Runs.{IsRunning}
use Rattle.world_cases.proofs.run.Run.go_through.Given as goal

abbrev pub invariant-loop-planned : goal.invariant-loop-planned
invariant-loop-planned l = IsRunning l.self
