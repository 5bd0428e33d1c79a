-- House counts rise and stay small, so their costs fit and they keep what they vouch for.
use Rattle.std.proofs.Common.{◌≡◌, ℕ, zero, suc, pred, ◌+◌, ◌-◌, ◌*◌, ◌<◌, ◌≤◌, true, false, Some, None, Option, List, length, get_or, slice_range, get_or-take, get_or-drop, refl, ap, add-zero, mul-le-mul_right, mul-le-mul, mul-add, arith, le→leb}
use Rattle.std.specs.Option.{MatchOption}
use Rattle.std.proofs.lemmas.List.{get_or_read}
use Rattle.std.proofs.lemmas.Bool.{or_parts, ltb-false}
use Rattle.costs.specs.Numbers.{numbers}
use Rattle.sources.specs.Scales.{Sound}
use Rattle.houses.specs.Houses.{bad, Good, Counts, FirstBad, price, tape, house, house_bound}
use Rattle.houses.proofs.PriceTable.{price_rises}

-- two products, with what is taken from them exchanged
exchanged : (p q a b c d : ℕ) → p ≤ q → a ≤ b → b ≤ c → b ≤ d → p * (c - a) + q * (d - b) ≤ p * (c - b) + q * (d - a)
exchanged p q a b c d h i j k =
    let e : c - a ≡ (c - b) + (b - a) = omega arith in
    let f : d - a ≡ (d - b) + (b - a) = omega arith in
    rw (e, f) (omega (arith, mul-add p (c - b) (b - a), mul-add q (d - b) (b - a), mul-le-mul_right (b - a) h))

-- a search of the indices finds the first bad count
pub first_found : (F : List ℕ) (r : Option ℕ)
    → MatchOption r ((k : ℕ) → 0 ≤ k → k < length F → bad F k ≡ false) (λ i. (0 ≤ i) × (i < length F) × (bad F i ≡ true) × ((k : ℕ) → 0 ≤ k → k < i → bad F k ≡ false))
    → MatchOption r (Good F) (λ i. FirstBad F i)
first_found F None h = λ k l. h k (omega arith) l
first_found F (Some i) h = record { within = h.1; bad_there = h.2; good_before = λ k l. h.3 k (omega arith) l }

module _ (F : List ℕ) (valid : Counts F) where
  pub small : (k : ℕ) → k < length F → get_or F k 0 ≤ 200000
  small k h = ltb-false 200000 (get_or F k 0) (or_parts _ _ (valid.1 k h)).1

  climbs : (j n : ℕ) → j + n < length F → get_or F j 0 ≤ get_or F (j + n) 0
  climbs j zero h = let e : j + 0 ≡ j = omega arith in rw e (omega arith)
  climbs j (suc n) h =
      let e : j + suc n ≡ suc (j + n) = omega arith in
      let step = ltb-false (get_or F (suc (j + n)) 0) (get_or F (j + n) 0) (or_parts _ _ (valid.1 (suc (j + n)) (omega arith))).0 in
      rw e (omega (arith, climbs j n (omega arith)))

  pub rises : (j k : ℕ) → j ≤ k → k < length F → get_or F j 0 ≤ get_or F k 0
  rises j k l h = let e : j + (k - j) ≡ k = omega arith in rw e at (climbs j (k - j) (omega arith))

  -- a class that lies within another takes no more tape
  pub tape_within : (x y x' y' : ℕ) → x' ≤ x → x ≤ y → y ≤ y' → y' < length F → tape F x y ≤ tape F x' y'
  tape_within x y x' y' i j k h = mul-le-mul (price_rises y y' k (omega (arith, valid.0))) (omega (arith, rises x' x i (omega arith), rises x y j (omega arith), rises y y' k h))

  -- the whole table of prices and counts stays below the largest cost
  pub tape_small : (x y : ℕ) → x ≤ y → y < length F → tape F x y ≤ 921600000
  tape_small x y i h =
      let p : price y ≤ 4608 = omega (arith, valid.0) in
      let s : get_or F y 0 - get_or F x 0 ≤ 200000 = omega (arith, small y h) in
      let m : tape F x y ≤ 4608 * 200000 = mul-le-mul p s in
      m

  -- the same of counts that were read
  pub read_rises : (x y a b : ℕ) → x ≤ y → y < length F → a ≡ get_or F x a → b ≡ get_or F y b → a ≤ b
  read_rises x y a b i h e f = omega (arith, rises x y i h, get_or_read F x a (omega arith) e 0, get_or_read F y b h f 0)

  pub read_tape : (x y a b p : ℕ) → x ≤ y → y < length F → a ≡ get_or F x a → b ≡ get_or F y b → p ≡ price y → p * (b - a) ≡ tape F x y
  read_tape x y a b p i h e f q = let e' = get_or_read F x a (omega arith) e 0 in let f' = get_or_read F y b h f 0 in cc

  module _ (x y : ℕ) (class : List ℕ) (h : y < length F) (part : class ≡ slice_range F x (y + 1)) (long : length class + x ≡ y + 1) (some : 0 < length class) where
    first_is : get_or class 0 0 ≡ get_or F x 0
    first_is = let l : 0 < y + 1 - x = omega arith in rw (part, get_or-take, get_or-drop, add-zero) refl

    last_is : get_or class (length class - 1) 0 ≡ get_or F y 0
    last_is =
        let e : length class - 1 ≡ y - x = omega arith in
        let l : y - x < y + 1 - x = omega arith in
        rw (e, part, get_or-take, get_or-drop) (ap (λ k. get_or F k 0) (omega arith))

    -- the counts of a class that was read rise, and its tape fits
    pub class_read : (get_or class 0 0 ≤ get_or class (length class - 1) 0) × (price y * (get_or class (length class - 1) 0 - get_or class 0 0) ≤ 921600000)
    class_read = rw (first_is, last_is) (rises x y (omega arith) h, tape_small x y (omega arith) h)

  -- two classes that overlap take no more tape than with their ends exchanged
  crossing : (x1 y1 y2 x2 : ℕ) → x1 < y1 → y1 ≤ y2 → y2 ≤ x2 → x2 < length F → tape F x1 y2 + tape F y1 x2 ≤ tape F y1 y2 + tape F x1 x2
  crossing x1 y1 y2 x2 i j k h =
      exchanged (price y2) (price x2) (get_or F x1 0) (get_or F y1 0) (get_or F y2 0) (get_or F x2 0)
      (price_rises y2 x2 k (omega (arith, valid.0))) (rises x1 y1 (omega arith) (omega arith)) (rises y1 y2 j (omega arith)) (rises y1 x2 (omega arith) h)

  pub house_sound : Sound numbers (house F) (house_bound F)
  house_sound = record { sizes = λ x y i j. tape_within x y 0 (pred (length F)) (omega arith) i j (omega (arith, valid.0)); glebov = λ x1 y1 y2 x2 i j k h. le→leb _ _ (let l : x2 ≤ pred (length F) = h in omega (arith, crossing x1 y1 y2 x2 i j k (omega (arith, valid.0)))) }
