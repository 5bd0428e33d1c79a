-- The laws of numbers: within the room for sums no sum reaches an end of the range.
use Rattle.std.specs.Prelude.{◌≡◌, ◌+◌, ◌≤◌, T, ◌⊎◌, ℤ, pos, negsuc, ◌+ℤ◌, ◌≤ℤ◌, int_le, unsigned_abs, refl}
use Rattle.std.proofs.Common.{sym, ◌∙◌, ap, arith}
use Rattle.std.proofs.Math.IntN.{+ℤ_comm, +ℤ_assoc, +ℤ_idr}
use Rattle.std.specs.Int.Signed.{le_z_yes, ≤ℤ_refl}
use Rattle.std.proofs.lemmas.Int.{ints}
use Rattle.std.specs.Int.{saturate_to_bits}
use Rattle.costs.specs.Costs.{Laws}
use Rattle.costs.specs.Limits.{room}
use Rattle.costs.specs.Numbers.{numbers, held_sum}

-- a number of such a size stays where it is
inside : (z : ℤ) → unsigned_abs z ≤ room → saturate_to_bits 63 z ≡ z
inside (pos n) h = ap pos (omega arith)
inside (negsuc n) h = ap negsuc (omega arith)

size_sum : (a b : ℤ) → unsigned_abs (a +ℤ b) ≤ unsigned_abs a + unsigned_abs b
size_sum a b = omega (arith, ints)

-- a sum in the room is the plain sum
pub plain : (a b : ℤ) → unsigned_abs a + unsigned_abs b ≤ room → held_sum a b ≡ a +ℤ b
plain a b h = inside (a +ℤ b) (omega (arith, size_sum a b))

-- the same, of three numbers, added either way
plain_left : (a b c : ℤ) → unsigned_abs a + unsigned_abs b + unsigned_abs c ≤ room → held_sum (held_sum a b) c ≡ a +ℤ b +ℤ c
plain_left a b c h = ap (λ z. held_sum z c) (plain a b (omega arith)) ∙ plain (a +ℤ b) c (omega (arith, size_sum a b))

plain_right : (a b c : ℤ) → unsigned_abs a + unsigned_abs b + unsigned_abs c ≤ room → held_sum a (held_sum b c) ≡ a +ℤ (b +ℤ c)
plain_right a b c h = ap (held_sum a) (plain b c (omega arith)) ∙ plain a (b +ℤ c) (omega (arith, size_sum b c))

shifted : (a b c : ℤ) → int_le (a +ℤ c) (b +ℤ c) ≡ int_le a b
shifted a b c = grind (arith, ints)

total : (a b : ℤ) → T (int_le a b) ⊎ T (int_le b a)
total a b = grind (arith, ints)

pub laws : Laws numbers
laws = record {
  le_refl = λ a. (≤ℤ_refl a).le;
  le_trans = λ a b c l m. let p = le_z_yes {a = a} {b = b} l in let q = le_z_yes {a = b} {b = c} m in let r : a ≤ℤ c = omega (arith, ints) in r.le;
  le_total = total;
  le_anti = λ a b l m. let p = le_z_yes {a = a} {b = b} l in let q = le_z_yes {a = b} {b = a} m in omega (arith, ints);
  size_nil = refl;
  size_add = λ a b h. rw (plain a b h) (size_sum a b);
  add_comm = λ a b h. ap (saturate_to_bits 63) (+ℤ_comm a b);
  add_assoc = λ a b c h. plain_left a b c h ∙ +ℤ_assoc a b c ∙ sym (plain_right a b c h);
  add_nil = λ a h. plain a (pos 0) (omega arith) ∙ +ℤ_idr a;
  add_le = λ a b c h. rw (plain a c (omega arith), plain b c (omega arith)) (shifted a b c);
}
