-- What some short files mean, computed from the definition.
use Rattle.std.proofs.Common.{◌≡◌, ℕ, List, [], ◌∷◌, ◌++◌, Ok, Err, refl}
use Rattle.std.specs.List.{concat}
use Rattle.decoder.specs.declared.sheet.Event.TheVariants.{Open, Add, Drop, Reach}
use Rattle.decoder.specs.Sheets.{sheet}

-- the bytes of a small count, and of each event
abbrev CT : ℕ → List ℕ
CT n = 0x43 ∷ 0x54 ∷ 0 ∷ 0 ∷ 0 ∷ n ∷ []

abbrev OP : List ℕ
OP = 0x4F ∷ 0x50 ∷ []

abbrev AD : List ℕ
AD = 0x41 ∷ 0x44 ∷ []

abbrev DR : List ℕ
DR = 0x44 ∷ 0x52 ∷ []

abbrev RE : ℕ → List ℕ
RE n = 0x52 ∷ 0x45 ∷ 0 ∷ n ∷ []

abbrev counts : List (List ℕ)
counts = CT 0 ∷ CT 3 ∷ CT 4 ∷ CT 4 ∷ CT 6 ∷ []

empty : sheet [] ≡ Ok ([], [])
empty = refl

whole : sheet (concat (counts ++ (OP ∷ AD ∷ AD ∷ AD ∷ DR ∷ RE 3 ∷ []))) ≡ Ok (0 ∷ 3 ∷ 4 ∷ 4 ∷ 6 ∷ [], Open ∷ Add ∷ Add ∷ Add ∷ Drop ∷ Reach 3 ∷ [])
whole = refl

high_byte_first : sheet (concat ((0x43 ∷ 0x54 ∷ 1 ∷ 2 ∷ 3 ∷ 4 ∷ []) ∷ (0x52 ∷ 0x45 ∷ 5 ∷ 6 ∷ []) ∷ [])) ≡ Ok (0x01020304 ∷ [], Reach 0x0506 ∷ [])
high_byte_first = refl

unknown : sheet (concat (counts ++ (OP ∷ (0x41 ∷ 0x45 ∷ []) ∷ AD ∷ []))) ≡ Err 32
unknown = refl

cut_count : sheet (concat (CT 0 ∷ (0x43 ∷ 0x54 ∷ 0 ∷ 0 ∷ 0 ∷ []) ∷ [])) ≡ Err 6
cut_count = refl

cut_end : sheet (concat (CT 0 ∷ OP ∷ (0x52 ∷ 0x45 ∷ 0 ∷ []) ∷ [])) ≡ Err 8
cut_end = refl

cut_mark : sheet (concat (CT 0 ∷ OP ∷ (0x41 ∷ []) ∷ [])) ≡ Err 8
cut_mark = refl

late_count : sheet (concat (CT 0 ∷ OP ∷ CT 3 ∷ AD ∷ [])) ≡ Err 8
late_count = refl

-- of two faults, the place of the first
late_then_unknown : sheet (concat (CT 0 ∷ OP ∷ CT 3 ∷ (0 ∷ 0 ∷ []) ∷ [])) ≡ Err 8
late_then_unknown = refl

unknown_then_late : sheet (concat (CT 0 ∷ OP ∷ (0 ∷ 0 ∷ []) ∷ CT 3 ∷ [])) ≡ Err 8
unknown_then_late = refl
