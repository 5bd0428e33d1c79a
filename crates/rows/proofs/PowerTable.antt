-- The table of the powers of two, and how many of them are not above a number.
use Rattle.std.proofs.Common.{◌≡◌, ℕ, zero, suc, ◌+◌, ◌*◌, ◌^◌, ◌<◌, ◌≤◌, List, map, get_or, zero-add, arith}
use native.Mathlib.Nat.{pow-succ'}
use Rattle.std.specs.List.{range_with_len}
use Rattle.std.proofs.lemmas.List.FromFn.{get_or-map-range_with_len}
use Rattle.plans.specs.Steps.{log2}
use Rattle.plans.proofs.Logs.{log2_is, powers_order}

-- the first n powers
abbrev pub powers : ℕ → List ℕ
powers n = map (λ j. 2 ^ j) (range_with_len 0 n)

pub power_at : (n i : ℕ) → i < n → get_or (powers n) i 0 ≡ 2 ^ i
power_at n i h = get_or-map-range_with_len (λ j. 2 ^ j) 0 n i i 0 h (zero-add i)

-- the largest power not above q has the logarithm as its exponent
pub count_is : (f q r : ℕ) → 2 ^ r ≤ q → q < 2 * 2 ^ r → q < 2 ^ suc f → r + 1 ≡ suc (log2 f q)
count_is f q r low high within =
    let above : q < 2 ^ suc r = omega (arith, pow-succ' 2 r) in
    omega (arith, log2_is f q r (powers_order r f q low within) low above)

-- none of the first n powers is above q
abbrev pub Passed : ℕ → ℕ → Type 0
Passed n q = (i : ℕ) → i < n → 2 ^ i ≤ q

-- where the next one is, n is how many are not
pub count_passed : (f q n : ℕ) → 0 < q → Passed n q → q < 2 ^ n → q < 2 ^ suc f → n ≡ suc (log2 f q)
count_passed f q zero some passed above within = absurd (omega (arith, above))
count_passed f q (suc r) some passed above within = omega (arith, count_is f q r (passed r (omega arith)) (omega (arith, pow-succ' 2 r)) within)
