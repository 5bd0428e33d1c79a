-- Files up to the limit, and longer ones.
use Rattle.std.proofs.Common.{◌≡◌, ℕ, ◌<◌, ◌≤◌, min, true, List, [], length, take, Ok, Err, Result, MatchResult, refl, sym, ap, ◌∙◌, inl, inr, arith}
use Rattle.std.proofs.lemmas.List.{take_all, length-take}
use Rattle.std.proofs.lemmas.Bool.{le-leb, lt-leb, cases_lt}
use Rattle.std.specs.List.{filter_map, take_while}
use Rattle.std.specs.Result.{is_ok}
use Rattle.decoder.specs.declared.sheet.Sheet.{Sheet}
use Rattle.decoder.specs.declared.sheet.SheetFault.{SheetFault}
use Rattle.decoder.specs.declared.sheet.SheetFault.TheVariants.{Memory}
use Rattle.decoder.specs.Faults.{Answers}
use Rattle.decoder.specs.Records.{is_count, count_of, event_of, records}
use Rattle.decoder.specs.Sheets.{Meaning, read, limit, limited, sheet, BeforeFault, Faultless}
use Rattle.decoder.proofs.Orders.{meaning_holds, meaning_leads}

-- ---- what was found of the first bytes, as many as a sheet may have

limited_place : (long n : ℕ) (m : Meaning) → BeforeFault n (min long limit) m → n < long → limited long m ≡ Err n
limited_place long n (Ok s) e h = let over : limit < long = omega arith in rw (lt-leb long limit over) (ap Err (omega arith))
limited_place long n (Err p) e h = ap Err (omega arith)

limited_good : (long n : ℕ) (m : Meaning) → BeforeFault n (min long limit) m → long ≤ n → (long ≤ limit) × Faultless m
limited_good long n (Ok s) e h = (omega arith, tt)
limited_good long n (Err p) e h = absurd (omega arith)

short : (long : ℕ) (m : Meaning) → long ≤ limit → limited long m ≡ m
short long (Ok s) h = rw (le-leb long limit h) refl
short long (Err p) h = refl

module _ (bs : List ℕ) (cut n : ℕ) (at : cut ≡ min (length bs) limit) where
  front : take cut bs ≡ take limit bs
  front = elim (cases_lt limit (length bs)) [
    | inl h ↦ let e : cut ≡ limit = omega arith in ap (λ k. take k bs) e
    | inr h ↦ take_all cut bs (omega arith) ∙ sym (take_all limit bs h)
  ]

  at_front : BeforeFault n (length (take cut bs)) (read [] [] 0 0 (take cut bs)) → BeforeFault n (min (length bs) limit) (read [] [] 0 0 (take limit bs))
  at_front s = let e : length (take cut bs) ≡ min (length bs) limit = simp length-take (omega arith) in rw (← e, ← front) s

  pub sheet_place : BeforeFault n (length (take cut bs)) (read [] [] 0 0 (take cut bs)) → n < length bs → sheet bs ≡ Err n
  sheet_place s h = limited_place (length bs) n (read [] [] 0 0 (take limit bs)) (at_front s) h

  pub sheet_good : BeforeFault n (length (take cut bs)) (read [] [] 0 0 (take cut bs)) → length bs ≤ n → Faultless (sheet bs)
  sheet_good s h = let g = limited_good (length bs) n (read [] [] 0 0 (take limit bs)) (at_front s) h in rw (short (length bs) (read [] [] 0 0 (take limit bs)) g.0) g.1

-- ---- what is answered

never : (long : ℕ) (m : Meaning) → limit < long → Faultless (limited long m) → ⊥
never long (Ok s) h f = rw (lt-leb long limit h) at f
never long (Err p) h f = f

module _ (bs : List ℕ) (good : Faultless (sheet bs)) where
  whole : sheet bs ≡ read [] [] 0 0 bs
  whole = elim (cases_lt limit (length bs)) [
    | inl h ↦ absurd (never (length bs) (read [] [] 0 0 (take limit bs)) h good)
    | inr h ↦ ap (λ l. limited (length bs) (read [] [] 0 0 l)) (take_all limit bs h) ∙ short (length bs) (read [] [] 0 0 bs) h
  ]

  pub sheet_holds : sheet bs ≡ Ok (filter_map count_of (records 0 bs), filter_map event_of (records 0 bs))
  sheet_holds = whole ∙ meaning_holds bs (rw whole at good)

  -- all counts stand at the front
  pub sheet_leads : sheet bs ≡ Ok (filter_map count_of (take_while is_count (records 0 bs)), filter_map event_of (records 0 bs))
  sheet_leads = whole ∙ meaning_leads bs (rw whole at good)

pub passed : {P : Type 0} (Q : ℕ → Type 0) (r : Result Unit ℕ) → true ≡ is_ok r → MatchResult r (λ _. P) Q → P
passed Q (Ok u) e h = h
passed Q (Err p) e h = cc

pub wants_memory : (r : Result Sheet SheetFault) (m : Meaning) → r ≡ Err Memory → Faultless m → Answers r m
wants_memory r (Ok s) e f = rw e refl
wants_memory r (Err p) e f = absurd f
