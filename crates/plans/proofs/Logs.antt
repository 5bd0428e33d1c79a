-- The number of levels: the largest power of two not above a number.
use Rattle.std.proofs.Common.{◌≡◌, ℕ, zero, suc, ◌^◌, ◌<◌, ◌≤◌, leb, sym, ◌∙◌, ⊎_elim, arith, pow_mono}
use Rattle.std.proofs.lemmas.Bool.{cond-true, cond-false, cond_both, leb-true, leb-false, le-leb, lt-leb, cases_lt}
use Rattle.plans.specs.Steps.{log2}

pub log2_low : (f q : ℕ) → 0 < q → 2 ^ log2 f q ≤ q
log2_low zero q h = h
log2_low (suc f) q h = cond_both (leb (2 ^ suc f) q) (suc f) (log2 f q) (λ j. 2 ^ j ≤ q) (leb-true (2 ^ suc f) q) (λ _. log2_low f q h)

pub log2_high : (f q : ℕ) → q < 2 ^ suc f → q < 2 ^ suc (log2 f q)
log2_high zero q h = h
log2_high (suc f) q h = cond_both (leb (2 ^ suc f) q) (suc f) (log2 f q) (λ j. q < 2 ^ suc j) (λ _. h) (λ e. log2_high f q (leb-false (2 ^ suc f) q e))

pub log2_most : (f q : ℕ) → log2 f q ≤ f
log2_most zero q = omega arith
log2_most (suc f) q = cond_both (leb (2 ^ suc f) q) (suc f) (log2 f q) (λ j. j ≤ suc f) (λ _. omega arith) (λ _. omega (arith, log2_most f q))

-- a power that is at most a number below another power is the smaller one
pub powers_order : (i j q : ℕ) → 2 ^ i ≤ q → q < 2 ^ suc j → i ≤ j
powers_order i j q lo hi =
    ⊎_elim (λ l. absurd (let m : 2 ^ suc j ≤ 2 ^ i = pow_mono l in omega arith)) (λ l. l) (cases_lt j i)

-- it is known by its two bounds
pub log2_is : (f q j : ℕ) → j ≤ f → 2 ^ j ≤ q → q < 2 ^ suc j → log2 f q ≡ j
log2_is zero q j l lo hi = omega arith
log2_is (suc f) q j l lo hi =
    ⊎_elim
    (λ h. let m : 2 ^ suc j ≤ 2 ^ suc f = pow_mono (omega arith) in cond-false _ (suc f) _ (lt-leb (2 ^ suc f) q (omega arith)) ∙ log2_is f q j (omega arith) lo hi)
    (λ h. let e : j ≡ suc f = omega arith in let lo' = rw e at lo in cond-true _ _ _ (le-leb (2 ^ suc f) q lo') ∙ sym e)
    (cases_lt j (suc f))
