-- Why the events of a file are not performed.
use Rattle.houses.specs.declared.house_fault.HouseFault.{HouseFault}
use Rattle.houses.specs.declared.house_fault.HouseFault.TheVariants as house
use Rattle.decoder.specs.declared.sheet.SheetFault.{SheetFault}
use Rattle.decoder.specs.declared.sheet.SheetFault.TheVariants as sheet
use Rattle.printer.specs.Lines.{faulted}
use Rattle.sheets.specs.declared.fault.Fault.{Fault}
use Rattle.sheets.specs.declared.fault.Fault.TheVariants.{TurnedDown, Memory}
use Rattle.sheets.specs.Printed.{Prints}
use Rattle.decoder.specs.Sheets.{Meaning}

-- the fault of a file that is no sheet
abbrev pub of_sheet : SheetFault → Fault
of_sheet (sheet.Malformed place) = TurnedDown 13 place
of_sheet sheet.Memory = Memory

-- the fault of a sheet whose counts are no house counts
abbrev pub of_counts : HouseFault → Fault
of_counts house.Length = TurnedDown 11 0
of_counts (house.BadCount index) = TurnedDown 12 index
of_counts house.Memory = Memory

-- bytes of this meaning have this fault; want of memory says nothing of them
abbrev pub Has : Meaning → Fault → Type 0
Has m (TurnedDown number place) = Prints m (faulted number place)
Has m Memory = Unit {0}
