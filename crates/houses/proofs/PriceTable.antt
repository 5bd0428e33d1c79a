-- The price table: its rule and its order, by one test that the checker computes entry by entry.
use Rattle.std.proofs.Common.{◌≡◌, ℕ, zero, suc, ◌+◌, ◌<◌, ◌≤◌, Bool, true, Some, None, Option, ◌&&◌, eqb, leb, List, [], ◌∷◌, map, length, get_or, refl, ap, ◌∙◌, zero-add, arith}
use Rattle.std.proofs.lemmas.Bool.{and_parts, eqb-true, leb-true}
use Rattle.std.proofs.lemmas.List.FromFn.{length-map-range_with_len}
use Rattle.std.specs.Borrow.{Bor}
use Rattle.std.specs.List.{range_with_len}
use Rattle.std.specs.Option.{MatchOption, option_copied}
use Rattle.std.specs.Slice.{IsItemAt}
use Rattle.houses.specs.Houses.{price}

-- each entry has the price of its length, the first of the list that of y, and none is below the one before
abbrev passes : ℕ → ℕ → List ℕ → Bool
passes before y [] = true
passes before y (p ∷ ps) = (eqb p (price y) && leb before p) && passes p (suc y) ps

record Priced (before y : ℕ) (ps : List ℕ) : Type 0 where
  rule : (k : ℕ) → k < length ps → get_or ps k 0 ≡ price (y + k)
  above : (k : ℕ) → k < length ps → before ≤ get_or ps k 0
  rises : (j k : ℕ) → j ≤ k → k < length ps → get_or ps j 0 ≤ get_or ps k 0

-- one entry more in front
priced_more : (before y p : ℕ) (ps : List ℕ) → p ≡ price y → before ≤ p → Priced p (suc y) ps → Priced before y (p ∷ ps)
priced_more before y p ps e l rest = record { rule = rule; above = above; rises = rises }
  where
    rule : (k : ℕ) → k < length (p ∷ ps) → get_or (p ∷ ps) k 0 ≡ price (y + k)
    rule zero h = e ∙ ap price (omega arith)
    rule (suc k) h = rest.rule k (omega arith) ∙ ap price (omega arith)

    above : (k : ℕ) → k < length (p ∷ ps) → before ≤ get_or (p ∷ ps) k 0
    above zero h = l
    above (suc k) h = omega (arith, rest.above k (omega arith))

    rises : (j k : ℕ) → j ≤ k → k < length (p ∷ ps) → get_or (p ∷ ps) j 0 ≤ get_or (p ∷ ps) k 0
    rises zero zero i h = omega arith
    rises zero (suc k) i h = rest.above k (omega arith)
    rises (suc j) zero i h = omega arith
    rises (suc j) (suc k) i h = rest.rises j k (omega arith) (omega arith)

priced : (before y : ℕ) (ps : List ℕ) → passes before y ps ≡ true → Priced before y ps
priced before y [] t = record { rule = λ k h. omega arith; above = λ k h. omega arith; rises = λ j k l h. omega arith }
priced before y (p ∷ ps) t =
    let u = and_parts _ _ t in
    let v = and_parts _ _ u.0 in
    priced_more before y p ps (eqb-true p (price y) v.0) (leb-true before p v.1) (priced p (suc y) ps u.1)

-- the table as the rule has it: the checker compares it with the one in the code
abbrev pub table : List ℕ
table = map price (range_with_len 0 4097)

in_table : Priced 0 0 table
in_table = priced 0 0 table refl

pub price_at : (y : ℕ) → y ≤ 4096 → get_or table y 0 ≡ price y
price_at y h = let i : y < 4097 = omega arith in in_table.rule y i ∙ ap price (zero-add y)

-- no shorter extent has a higher price
pub price_rises : (x y : ℕ) → x ≤ y → y ≤ 4096 → price x ≤ price y
price_rises x y l h = let i : y < 4097 = omega arith in omega (arith, in_table.rises x y l i, price_at x (omega arith), price_at y h)

length-table : length table ≡ 4097
length-table = length-map-range_with_len price 0 4097

-- what is found at a length: its price, or nothing where it is too long
pub price_found : (y : ℕ) (r : Option (Bor ℕ)) → IsItemAt table y r → MatchOption (option_copied r) (4096 < y) (λ p. (y ≤ 4096) × (p ≡ price y))
price_found y None h = omega (arith, h.3, length-table)
price_found y (Some p) h = let l : y ≤ 4096 = omega (arith, h.3.0, length-table) in (l, h.4 (omega arith) 0 ∙ price_at y l)
