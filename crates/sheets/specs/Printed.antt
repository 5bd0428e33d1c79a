-- What is printed for the bytes of a file, in full.
use Rattle.std.specs.Prelude.{◌≡◌, ℕ, List, [], ◌∷◌, ◌++◌, map, replicate, ℤ, pos, Ok, Err}
use Rattle.costs.specs.Numbers.{numbers}
use Rattle.houses.specs.Houses.{LongEnough, Counts, FirstBad, house, house_bound}
use Rattle.calls.specs.declared.call.Call.{Call}
use Rattle.calls.specs.declared.call.Call.TheVariants as call
use Rattle.calls.specs.Calls.{shut}
use Rattle.calls.specs.Lives.{Law}
use Rattle.calls.specs.Runs.{Recorded, runs, Lived}
use Rattle.decoder.specs.declared.sheet.Event.{Event}
use Rattle.decoder.specs.declared.sheet.Event.TheVariants.{Open, Add, Drop, Reach}
use Rattle.printer.specs.Lines.{told, faulted}
use Rattle.decoder.specs.Sheets.{Meaning}

-- the call that performs an event
abbrev pub call_of : Event → Call
call_of Open = call.OpenVouched
call_of Add = call.Add
call_of Drop = call.Drop
call_of (Reach end) = call.Reach end

-- the cells that the calls are lent, as they are before the first call: enough for 255 cuts at the end 4,096
abbrev pub work_list : List ℤ
work_list = replicate 4351 (pos 0)

-- the records of the events, performed one after another by a new job over these house counts
abbrev pub records : List ℕ → List Event → List (Recorded numbers)
records counts events = (runs numbers (house counts) (house_bound counts) shut work_list (map call_of events)).records

-- the lines of events, by the record of each
abbrev pub lines : List Event → List (Recorded numbers) → List ℕ
lines [] rs = []
lines (e ∷ es) [] = []
lines (e ∷ es) (r ∷ rs) = told e r ++ lines es rs

-- the text of a sheet whose counts are house counts; its job lives as all jobs do, and the law holds in every life over the counts
pub record Performed (counts : List ℕ) (events : List Event) (text : List ℕ) : Type 0 where
  pub printed : text ≡ lines events (records counts events)
  pub lived : Lived numbers (house counts) (house_bound counts) (records counts events)
  pub law : Law numbers (house counts) (house_bound counts)

-- the text of a sheet: fault 11 where there are not 1 to 4,097 counts, else fault 12 at the first bad count, else the lines of its events
pub record Told (counts : List ℕ) (events : List Event) (text : List ℕ) : Type 0 where
  pub bad_length : (LongEnough counts → ⊥) → text ≡ faulted 11 0
  pub bad_count : (i : ℕ) → LongEnough counts → FirstBad counts i → text ≡ faulted 12 i
  pub good : Counts counts → Performed counts events text

-- the text for bytes of this meaning: fault 13 goes before the others
abbrev pub Prints : Meaning → List ℕ → Type 0
Prints (Err place) text = text ≡ faulted 13 place
Prints (Ok s) text = Told s.0 s.1 text
