-- What a decoder answers.
use Rattle.std.specs.Prelude.{◌≡◌, ℕ, List, [], ◌∷◌, Ok, Err, vec_items, Result}
use Rattle.decoder.specs.declared.sheet.Sheet.{Sheet}
use Rattle.decoder.specs.declared.sheet.SheetFault.{SheetFault}
use Rattle.decoder.specs.declared.sheet.SheetFault.TheVariants.{Malformed, Memory}
use Rattle.decoder.specs.Sheets.{Meaning}

-- the number of a fault, and the values that go with it
abbrev pub coded : SheetFault → ℕ × List ℕ
coded (Malformed place) = (13, place ∷ [])
coded Memory = (99, [])

-- The answer to bytes of this meaning: the sheet; fault 13 with the place exactly where there is a fault; want of memory only where there is none.
abbrev pub Answers : Result Sheet SheetFault → Meaning → Type 0
Answers (Ok s) m = m ≡ Ok (vec_items s.counts, vec_items s.events)
Answers (Err f) (Err place) = coded f ≡ (13, place ∷ [])
Answers (Err f) (Ok s) = coded f ≡ (99, [])
