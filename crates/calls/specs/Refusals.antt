-- The number of each refusal, and the pair of places that it gives.
use Rattle.std.specs.Prelude.{ℕ, Some, None, Option}
use Rattle.calls.specs.declared.refusal.Refusal.{Refusal}
use Rattle.calls.specs.declared.refusal.Refusal.TheVariants.{TooLong, TooLarge, Broken, BoundTooLarge, AlreadyOpen, NotOpen, Full, NoCut, Beyond, TooFewCells}

abbrev pub refusal_number : Refusal → ℕ
refusal_number TooLong = 1
refusal_number (TooLarge at) = 2
refusal_number (Broken at) = 3
refusal_number BoundTooLarge = 4
refusal_number AlreadyOpen = 5
refusal_number NotOpen = 6
refusal_number Full = 7
refusal_number NoCut = 8
refusal_number Beyond = 9
refusal_number TooFewCells = 10

abbrev pub refusal_pair : Refusal → Option (ℕ × ℕ)
refusal_pair (TooLarge at) = Some at
refusal_pair (Broken at) = Some at
refusal_pair _ = None
