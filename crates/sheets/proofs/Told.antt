-- The text for a file, case by case: each case rules the others out.
use Rattle.std.proofs.Common.{◌≡◌, ℕ, Bool, true, false, List, get_or, Ok, Err, refl, ap, inl, inr, arith}
use Rattle.std.proofs.lemmas.Bool.{cases_lt}
use Rattle.houses.specs.declared.house_fault.HouseFault.{HouseFault}
use Rattle.houses.specs.declared.house_fault.HouseFault.TheVariants.{Length, BadCount, Memory}
use Rattle.houses.specs.HouseLoads.{Loads}
use Rattle.houses.specs.Houses.{LongEnough, Good, FirstBad, bad}
use Rattle.decoder.specs.declared.sheet.Event.{Event}
use Rattle.decoder.specs.declared.sheet.SheetFault.{SheetFault}
use Rattle.decoder.specs.declared.sheet.SheetFault.TheVariants as sheet-fault
use Rattle.decoder.specs.Faults.{Answers}
use Rattle.printer.specs.Lines.{faulted}
use Rattle.sheets.specs.Faults.{of_sheet, of_counts, Has}
use Rattle.sheets.specs.Printed.{Told}
use Rattle.decoder.specs.Sheets.{Meaning}

opposed : (b : Bool) → b ≡ true → b ≡ false → ⊥
opposed b t f = cc

module _ (counts : List ℕ) (events : List Event) where
  -- a first bad count is not among good ones
  not_good : (i : ℕ) → FirstBad counts i → Good counts → ⊥
  not_good i f g = opposed (bad counts i) f.bad_there (g i f.within)

  -- there is one first bad count
  one_first : (i j : ℕ) → FirstBad counts i → FirstBad counts j → i ≡ j
  one_first i j f g =
      elim (cases_lt i j) [
        | inl h ↦ absurd (opposed (bad counts i) f.bad_there (g.good_before i h))
        | inr h ↦ elim (cases_lt j i) [ inl k ↦ absurd (opposed (bad counts j) g.bad_there (f.good_before j k)) | inr k ↦ omega arith ]
      ]

  told_length : (LongEnough counts → ⊥) → Told counts events (faulted 11 0)
  told_length n = record { bad_length = λ _. refl; bad_count = λ i l f. absurd (n l); good = λ g. absurd (n g.0) }

  told_count : (i : ℕ) → LongEnough counts → FirstBad counts i → Told counts events (faulted 12 i)
  told_count i l f = record { bad_length = λ n. absurd (n l); bad_count = λ j _ g. ap (faulted 12) (one_first i j f g); good = λ g. absurd (not_good i f g.1) }

  -- counts that were not loaded
  pub has_counts : (f : HouseFault) (old new : List ℕ) → Loads counts old new (Err f) → Has (Ok (counts, events)) (of_counts f)
  has_counts Length old new l = told_length l.0
  has_counts (BadCount i) old new l = told_count i l.0 l.1
  has_counts Memory old new l = tt

-- bytes that are no sheet
pub has_sheet : (m : Meaning) (f : SheetFault) → Answers (Err f) m → Has m (of_sheet f)
has_sheet (Err p) (sheet-fault.Malformed q) a = let same : q ≡ p = ap (λ (x : ℕ × List ℕ). get_or x.1 0 0) a in ap (faulted 13) same
has_sheet (Ok s) (sheet-fault.Malformed q) a = absurd (omega (arith, ap (λ (x : ℕ × List ℕ). x.0) a))
has_sheet m sheet-fault.Memory a = tt
