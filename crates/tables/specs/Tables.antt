-- Tables: a scale of numbers whose costs are written out in a list.
use Rattle.std.specs.Prelude.{◌≡◌, ℕ, ◌+◌, ◌*◌, ◌/◌, Bool, true, false, ◌&&◌, List, length, ℤ, pos, ◌==◌, nat_le, slice_index_or}
use Rattle.costs.specs.Numbers.{numbers}
use Rattle.tables.specs.declared.table.TableFault.{TableFault}
use Rattle.tables.specs.declared.table.TableFault.TheVariants.{Length, Memory}
use Rattle.sources.specs.Scales.{Scale}

-- the last place that a table may have
abbrev pub longest_table : ℕ
longest_table = 65535

-- how many classes from x to y, 0 ≤ x ≤ y ≤ last, there are
abbrev pub classes : ℕ → ℕ
classes last = (last + 1) * (last + 2) / 2

-- where the cost from x to y stands: those to a smaller y before it, and then those from a smaller x
abbrev pub entry_index : ℕ → ℕ → ℕ
entry_index x y = y * (y + 1) / 2 + x

-- the scale of a table
abbrev pub table : ℕ → List ℤ → Scale numbers
table last entries = record { last = last; cost = λ x y. slice_index_or entries (entry_index x y) (pos 0) }

-- a table has a last place that is not too large, and an entry for each class
abbrev pub well_made : ℕ → List ℤ → Bool
well_made last entries = nat_le last longest_table && length entries == classes last

-- which lists each fault refuses
abbrev pub Refuses : TableFault → ℕ → List ℤ → Type 0
Refuses Length last entries = well_made last entries ≡ false
Refuses Memory last entries = well_made last entries ≡ true

-- the number of each fault
abbrev pub fault_number : TableFault → ℕ
fault_number Length = 11
fault_number Memory = 99
