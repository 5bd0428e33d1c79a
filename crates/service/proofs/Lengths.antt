-- What a file means is seen in its first bytes, where these are more than a sheet may have.
use Rattle.std.proofs.Common.{◌≡◌, ℕ, ◌<◌, List, [], length, take, Ok, Err, refl, ap, ◌∙◌, inl, inr, arith}
use Rattle.std.proofs.lemmas.List.{take_all, take-take, length-take-le}
use Rattle.std.proofs.lemmas.Bool.{lt-leb, cases_lt}
use Rattle.decoder.specs.Sheets.{Meaning, read, limit, limited, sheet}

-- over the limit all lengths are alike
alike : (m n : ℕ) (s : Meaning) → limit < m → limit < n → limited m s ≡ limited n s
alike m n (Ok s) h k = rw (lt-leb m limit h, lt-leb n limit k) refl
alike m n (Err p) h k = refl

module _ (most : ℕ) (bs : List ℕ) (over : limit < most) where
  cut : most < length bs → sheet (take most bs) ≡ sheet bs
  cut h =
      let long : length (take most bs) ≡ most = length-take-le most bs (omega arith) in
      ap (λ front. limited (length (take most bs)) (read [] [] 0 0 front)) (take-take limit most bs (omega arith))
      ∙ alike (length (take most bs)) (length bs) (read [] [] 0 0 (take limit bs)) (omega arith) (omega arith)

  pub sheet_front : sheet (take most bs) ≡ sheet bs
  sheet_front = elim (cases_lt most (length bs)) [ inl h ↦ cut h | inr h ↦ ap sheet (take_all most bs h) ]
