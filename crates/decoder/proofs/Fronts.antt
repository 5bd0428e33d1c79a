-- A reach at the front of the bytes.
use Rattle.std.proofs.Common.{◌≡◌, ℕ, ◌+◌, ◌-◌, ◌≤◌, List, length, get_or, take, drop, Some, arith}
use Rattle.std.proofs.lemmas.List.{take_rest, length-drop}
use Rattle.std.proofs.lemmas.Bool.Decides.{nat_tests}
use Rattle.decoder.specs.declared.record.Record.{Record}
use Rattle.decoder.specs.declared.record.Record.TheVariants.{Event as Happens}
use Rattle.decoder.specs.declared.sheet.Event.TheVariants.{Reach}
use Rattle.decoder.specs.Records.{front, pair, width}

-- the bytes begin with the record r, and the others stand behind it
abbrev pub Fronted : List ℕ → Record → Type 0
Fronted bs r =
    (front bs ≡ Some r) × (take (length bs - width r) (drop (width r) bs) ≡ drop (width r) bs)
    × (length (take (length bs - width r) (drop (width r) bs)) + width r ≡ length bs)

module _ (bs : List ℕ) where
  fronted : (r : Record) → width r ≤ length bs → front bs ≡ Some r → Fronted bs r
  fronted r h e = (e, take_rest bs (width r), rw (take_rest bs (width r), length-drop (width r) bs) (omega arith))

  pub front_reach : (n : ℕ) → 4 ≤ length bs → get_or bs 0 0 ≡ 0x52 → get_or bs 1 0 ≡ 0x45 → n ≡ pair 2 bs → Fronted bs (Happens (Reach n))
  front_reach n h x y e = let f : front bs ≡ Some (Happens (Reach (pair 2 bs))) = grind (arith, nat_tests) in fronted (Happens (Reach n)) h (rw e f)
