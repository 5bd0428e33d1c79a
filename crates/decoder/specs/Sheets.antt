-- What the bytes of a class sheet mean.
use Rattle.std.specs.Prelude.{◌≡◌, ℕ, zero, suc, ◌+◌, ◌-◌, ◌<◌, cond, List, [], ◌∷◌, ◌++◌, length, take, Some, None, Ok, Err, Result, nat_le}
use Rattle.decoder.specs.declared.sheet.Event.{Event}
use Rattle.decoder.specs.declared.record.Record.TheVariants.{Count, Event as Happens}
use Rattle.decoder.specs.Records.{front, width}

-- counts and events, or the place of the first fault
abbrev pub Meaning : Type 0
Meaning = Result (List ℕ × List Event) ℕ

-- The bytes from place p on, read behind the counts cs and the events es. The first `skip` of them belong to the record before.
-- A record is at fault where its mark is unknown, where it is cut, and where it is a count behind an event.
abbrev pub read : List ℕ → List Event → ℕ → ℕ → List ℕ → Meaning
read cs es p skip [] = Ok (cs, es)
read cs es p (suc skip) (b ∷ bs) = read cs es (p + 1) skip bs
read cs es p zero (b ∷ bs) = elim (front (b ∷ bs)) [
  | None ↦ Err p
  | Some (Count n) ↦ elim es [ [] ↦ read (cs ++ n ∷ []) [] (p + 1) (width (Count n) - 1) bs | _ ∷ _ ↦ Err p ]
  | Some (Happens e) ↦ read cs (es ++ e ∷ []) (p + 1) (width (Happens e) - 1) bs
]

-- how many bytes a sheet may have
abbrev pub limit : ℕ
limit = 32768

-- a longer file is at fault behind its first `limit` bytes, unless one of their records is
abbrev pub limited : ℕ → Meaning → Meaning
limited long (Err p) = Err p
limited long (Ok s) = cond (nat_le long limit) (Ok s) (Err limit)

-- what the bytes of a file mean
abbrev pub sheet : List ℕ → Meaning
sheet bs = limited (length bs) (read [] [] 0 0 (take limit bs))

-- there is no fault
abbrev pub Faultless : Meaning → Type 0
Faultless (Ok s) = Unit {0}
Faultless (Err p) = ⊥

-- n bytes of `long` stand before the first fault
abbrev pub BeforeFault : ℕ → ℕ → Meaning → Type 0
BeforeFault n long (Ok s) = n ≡ long
BeforeFault n long (Err p) = (n ≡ p) × (p < long)
