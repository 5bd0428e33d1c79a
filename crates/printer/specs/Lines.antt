-- The lines that are printed.
use Rattle.std.specs.Prelude.{ℕ, List, [], ◌∷◌, ◌++◌, map, length, Some, None, codes, decimal, Option}
use Rattle.std.specs.List.{flat_map}
use Rattle.std.specs.Fmt.{signed_decimal}
use Rattle.costs.specs.Numbers.{numbers}
use Rattle.calls.specs.Calls.{State, shut, opened, Answer, refused, accepted, counted, nothing, shown}
use Rattle.calls.specs.declared.refusal.Refusal.{Refusal}
use Rattle.calls.specs.Refusals.{refusal_number}
use Rattle.calls.specs.Runs.{Recorded}
use Rattle.decoder.specs.declared.sheet.Event.{Event}
use Rattle.decoder.specs.declared.sheet.Event.TheVariants.{Open, Add, Drop, Reach}

-- fields, each behind one space
abbrev pub spaced : List (List ℕ) → List ℕ
spaced fields = flat_map (λ f. 0x20 ∷ f) fields

-- a line: its first field, the others each behind one space, and 0A
abbrev pub line : List ℕ → List (List ℕ) → List ℕ
line first fields = first ++ spaced fields ++ 0x0A ∷ []

-- the mark of an event
abbrev pub mark : Event → List ℕ
mark Open = codes "OP"
mark Add = codes "AD"
mark Drop = codes "DR"
mark (Reach end) = codes "RE"

-- the number of reads, or a dash where none is given
abbrev pub reads_field : Option ℕ → List ℕ
reads_field (Some n) = decimal n
reads_field None = codes "-"

-- what is printed of an event that was refused
abbrev pub refusal_text : Event → Refusal → List ℕ
refusal_text event why = line (mark event) (decimal (refusal_number why) ∷ [])

-- what is printed of an event that was done, by the job right after it; nothing of a shut job
abbrev pub done : Event → Option ℕ → State numbers → List ℕ
done event reads shut = []
done event reads (opened o) =
    line (mark event) (codes "0" ∷ decimal o.end ∷ decimal (length o.cuts) ∷ signed_decimal o.total ∷ reads_field reads ∷ map decimal o.cuts)

-- what is printed of an event by the answer to its call; nothing of a look, which no event asks for
abbrev pub answered : Event → Answer numbers → State numbers → List ℕ
answered event (refused why) st = refusal_text event why
answered event accepted st = done event None st
answered event (counted reads) st = done event (Some reads) st
answered event nothing st = []
answered event (shown v) st = []

-- what is printed of an event by the record of its call
abbrev pub told : Event → Recorded numbers → List ℕ
told event r = answered event r.answer r.state

-- what is printed of a sheet that is turned down: a fault's number, and its place or index
abbrev pub faulted : ℕ → ℕ → List ℕ
faulted number place = line (codes "SHEET") (decimal number ∷ decimal place ∷ [])
