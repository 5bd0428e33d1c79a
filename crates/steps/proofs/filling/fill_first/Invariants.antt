use Rattle.std.proofs.Common.{◌≡◌, map, take}
use Rattle.sources.specs.Meant.{meant}
use Rattle.plans.specs.Steps.{tabled}
use Rattle.steps.proofs.filling.fill_first.Given as goal

abbrev pub invariant-loop-y : goal.invariant-loop-y
invariant-loop-y g l = let k = g.S.Kind.Kind in map k.means (take l.y l.cells) ≡ tabled ((meant k g.S.Source l.source).cost 0) 0 l.y
