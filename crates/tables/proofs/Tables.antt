-- The entries of a table: one for each class.
use Rattle.std.proofs.Common.{◌≡◌, ℕ, ◌+◌, ◌*◌, ◌<◌, ◌≤◌, mul_comm, mul-add, arith}
use Rattle.std.proofs.lemmas.Nat.{mul-le}
use Rattle.tables.specs.Tables.{classes, entry_index}

-- the class from x to y has an entry
pub index_within : (x y last : ℕ) → x ≤ y → y ≤ last → entry_index x y < classes last
index_within x y last h l =
    let more : (y + 1) * (y + 2) ≤ (last + 1) * (last + 2) = mul-le (y + 1) (y + 2) (last + 1) (last + 2) (omega arith) (omega arith) in
    let next : (y + 1) * (y + 2) ≡ (y + 1) * y + (y + 1) * 2 = mul-add (y + 1) y 2 in
    let turn : (y + 1) * y ≡ y * (y + 1) = mul_comm (y + 1) y in
    omega arith
