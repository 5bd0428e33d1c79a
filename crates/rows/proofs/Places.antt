-- The places kept for the numbers of a row.
use Rattle.std.proofs.Common.{◌≡◌, ℕ, ◌+◌, ◌-◌, ◌<◌, List, length, get_or, set, sym, ap, ◌∙◌, ⊎_elim, arith}
use Rattle.std.proofs.lemmas.List.{get_or-set_same, get_or-set_other, get_or_past}
use Rattle.std.proofs.lemmas.Bool.{cond-true, cond-false, eq-eqb, ne_eqb, cases_lt}
use Rattle.rows.specs.Filled.{kept_for}

module _ (a b : ℕ) where
  pub kept_zero : (ps : List ℕ) (m : ℕ) → m ≡ 0 → kept_for a b ps m ≡ a
  kept_zero ps m e = cond-true _ _ _ (eq-eqb m 0 e)

  kept_at : (ps : List ℕ) (m : ℕ) → 0 < m → kept_for a b ps m ≡ get_or ps (m - 1) b
  kept_at ps m h = cond-false _ a _ (ne_eqb m 0 (omega arith))

  pub kept_absent : (ps : List ℕ) (m : ℕ) → length ps < m → kept_for a b ps m ≡ b
  kept_absent ps m h = kept_at ps m (omega arith) ∙ get_or_past ps (m - 1) b (omega arith)

  -- where the place v is kept for the number i + 1
  pub kept_set_same : (ps : List ℕ) (i m v : ℕ) → i + 1 ≡ m → i < length ps → kept_for a b (set ps i v) m ≡ v
  kept_set_same ps i m v e h =
      let f : m - 1 ≡ i = omega arith in
      kept_at (set ps i v) m (omega arith) ∙ ap (λ z. get_or (set ps i v) z b) f ∙ get_or-set_same ps i v b h

  pub kept_set_other : (ps : List ℕ) (i m v : ℕ) → (m ≡ i + 1 → ⊥) → kept_for a b (set ps i v) m ≡ kept_for a b ps m
  kept_set_other ps i m v ne =
      ⊎_elim
      (λ z. kept_zero _ m (omega arith) ∙ sym (kept_zero ps m (omega arith)))
      (λ p. kept_at _ m p ∙ get_or-set_other ps i (m - 1) v b (omega arith) ∙ sym (kept_at ps m p))
      (cases_lt m 1)
