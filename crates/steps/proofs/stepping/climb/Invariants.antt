use Rattle.sources.specs.Meant.{meant}
use Rattle.steps.proofs.StepsLeft.{Climbed}
use Rattle.steps.proofs.stepping.climb.Given as goal

abbrev pub invariant-loop : goal.invariant-loop
invariant-loop g l = Climbed g.S.Kind.Kind (meant g.S.Kind.Kind g.S.Source l.source) l.end l.initial.cells l.counter l.cells l.reached
