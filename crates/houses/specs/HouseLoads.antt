-- What loading house counts answers and leaves.
use Rattle.std.specs.Prelude.{◌≡◌, ℕ, List, Ok, Err, Result}
use Rattle.houses.specs.declared.house_fault.HouseFault.{HouseFault}
use Rattle.houses.specs.declared.house_fault.HouseFault.TheVariants.{Length, BadCount, Memory}
use Rattle.houses.specs.Houses.{LongEnough, Counts, FirstBad}

-- the number of each fault, and the index that it gives
abbrev pub fault_number : HouseFault → ℕ
fault_number Length = 11
fault_number (BadCount i) = 12
fault_number Memory = 99

abbrev pub fault_index : HouseFault → ℕ
fault_index Length = 0
fault_index (BadCount i) = i
fault_index Memory = 0

-- the list F loaded over the counts `old`: it takes their place, or they stay
abbrev pub Loads : List ℕ → List ℕ → List ℕ → Result (Unit {0}) HouseFault → Type 0
Loads F old new (Ok _) = Counts F × (new ≡ F)
Loads F old new (Err Length) = (LongEnough F → ⊥) × (new ≡ old)
Loads F old new (Err (BadCount i)) = LongEnough F × FirstBad F i × (new ≡ old)
Loads F old new (Err Memory) = Counts F × (new ≡ old)
