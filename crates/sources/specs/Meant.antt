-- The scale that a source stands for.
use Rattle.costs.specs.declared.kind.Kind as kind
use Rattle.sources.specs.declared.source.Source as source
use Rattle.sources.specs.Scales.{Scale}

abbrev pub meant : {V S : Type 0} (k : kind.Ghosts V) → source.Ghosts S V → S → Scale k.costs
meant k m x = record { last = m.last x; cost = λ a b. k.means (m.reply x a b) }
