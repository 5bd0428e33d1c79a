-- What the answer of a checked opening tells of the scale: it decides Glebov's condition, for costs up to the largest size.
use Rattle.costs.specs.Costs.{Costs}
use Rattle.costs.specs.Limits.{largest}
use Rattle.sources.specs.Scales.{Scale, Sized, Glebov, Sound}
use Rattle.sources.specs.Squares.{FirstLarge, FirstBroken}
use Rattle.calls.specs.declared.refusal.Refusal.{Refusal}
use Rattle.calls.specs.declared.refusal.Refusal.TheVariants.{TooLarge, Broken}
use Rattle.calls.specs.Calls.{Answer, refused, accepted}

abbrev pub RefusalTells : (K : Costs) → Scale K → Refusal → Type 0
RefusalTells K s (TooLarge at) = FirstLarge K s at.0 at.1
RefusalTells K s (Broken at) = Sized K s largest × FirstBroken K s at.0 at.1 × (Glebov K s → ⊥)
RefusalTells K s _ = Unit {0}

-- where the opening is accepted, all sizes keep to the largest and the condition holds
abbrev pub Tells : (K : Costs) → Scale K → Answer K → Type 0
Tells K s accepted = Sound K s largest
Tells K s (refused why) = RefusalTells K s why
Tells K s _ = Unit {0}
