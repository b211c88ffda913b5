-- A step goes on from what was found.
use Rattle.inference.proofs.Passes.{step_reached, step_fewer}
use Rattle.inference.proofs.reach.Reach.settle.Goals as goal

pub returns-in_ok-go-in-Some-clause-reached : goal.returns-in_ok-go-in-Some-clause-reached
returns-in_ok-go-in-Some-clause-reached c = λ rules among reached.
    step_reached c.args.sites.now.params.now c.args.sites.now.columns.now rules c.args.self.now c.go.new.self
    _ reached c.in_ok-go-in-Some.ensures.steps c.in_ok-go-in-Some.ensures.found among c.in-Some.ensures.carries c.in-Some.ensures.goes

pub returns-in_ok-go-in-Some-clause-fewer : goal.returns-in_ok-go-in-Some-clause-fewer
returns-in_ok-go-in-Some-clause-fewer c = λ e rules among reached.
    step_fewer c.args.sites.now.params.now c.args.sites.now.columns.now rules c.args.self.now c.go.new.self _
    reached c.in_ok-go-in-Some.ensures.steps c.in_ok-go-in-Some.ensures.found among c.in-Some.ensures.carries c.in-Some.ensures.goes
