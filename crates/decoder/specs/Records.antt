-- The records of a sheet.
use Rattle.std.specs.Prelude.{ℕ, zero, suc, ◌+◌, ◌-◌, ◌*◌, Bool, true, false, cond, ◌&&◌, List, [], ◌∷◌, length, Some, None, Option, ◌==◌, nat_le, slice_index}
use Rattle.decoder.specs.declared.sheet.Event.{Event}
use Rattle.decoder.specs.declared.sheet.Event.TheVariants.{Open, Add, Drop, Reach}
use Rattle.decoder.specs.declared.record.Record.{Record}
use Rattle.decoder.specs.declared.record.Record.TheVariants.{Count, Event as Happens}

-- do the bytes begin with the mark x y and n bytes behind it
abbrev pub begins : ℕ → ℕ → ℕ → List ℕ → Bool
begins x y n bs = nat_le (2 + n) (length bs) && (slice_index bs 0 == x && slice_index bs 1 == y)

-- the number that stands in the two bytes from index i on, high byte first
abbrev pub pair : ℕ → List ℕ → ℕ
pair i bs = slice_index bs i * 256 + slice_index bs (i + 1)

-- the record that the bytes begin with; none where the mark is unknown or the record is cut
abbrev pub front : List ℕ → Option Record
front bs =
    cond (begins 0x43 0x54 4 bs) (Some (Count (pair 2 bs * 65536 + pair 4 bs)))
    (cond (begins 0x4F 0x50 0 bs) (Some (Happens Open))
    (cond (begins 0x41 0x44 0 bs) (Some (Happens Add))
    (cond (begins 0x44 0x52 0 bs) (Some (Happens Drop))
    (cond (begins 0x52 0x45 2 bs) (Some (Happens (Reach (pair 2 bs))))
    None))))

-- how many bytes a record takes
abbrev pub width : Record → ℕ
width (Count n) = 6
width (Happens Open) = 2
width (Happens Add) = 2
width (Happens Drop) = 2
width (Happens (Reach n)) = 4

-- is it a count
abbrev pub is_count : Record → Bool
is_count (Count n) = true
is_count (Happens e) = false

-- the count of a record that is one, and the event of a record that is one
abbrev pub count_of : Record → Option ℕ
count_of (Count n) = Some n
count_of (Happens e) = None

abbrev pub event_of : Record → Option Event
event_of (Count n) = None
event_of (Happens e) = Some e

-- the records that the bytes begin with, up to the first that is unknown or cut; the first `skip` bytes belong to the record before
abbrev pub records : ℕ → List ℕ → List Record
records skip [] = []
records (suc skip) (b ∷ bs) = records skip bs
records zero (b ∷ bs) = elim (front (b ∷ bs)) [ None ↦ [] | Some r ↦ r ∷ records (width r - 1) bs ]
