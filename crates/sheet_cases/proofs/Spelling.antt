-- A line of which a part is read: what the bytes so far spell, and the rest.
use Rattle.std.proofs.Common.{◌≡◌, ℕ, ◌/◌, ◌%◌, ◌<◌, List, [], ◌∷◌, ◌++◌, length, get_or, refl, ap, sym, ◌∙◌, append-nil, length-append, arith}
use Rattle.sheet_cases.specs.Spelled.{digit, spelled}

-- the digits of a further byte stand behind those of the bytes before it
further : (bytes : List ℕ) (byte : ℕ) (rest : List ℕ) → spelled (bytes ++ byte ∷ []) ++ rest ≡ spelled bytes ++ digit (byte / 16) ∷ digit (byte % 16) ∷ rest
further [] byte rest = refl
further (b ∷ bytes) byte rest = ap (λ ds. digit (b / 16) ∷ digit (b % 16) ∷ ds) (further bytes byte rest)

two_first : (pair rest : List ℕ) → length pair ≡ 2 → get_or pair 0 0 ∷ get_or pair 1 0 ∷ rest ≡ pair ++ rest
two_first [] rest h = absurd (omega arith)
two_first (x ∷ []) rest h = absurd (omega arith)
two_first (x ∷ y ∷ []) rest h = refl
two_first (x ∷ y ∷ z ∷ more) rest h = absurd (omega arith)

pub reads_pair : (bytes : List ℕ) (byte : ℕ) (pair rest : List ℕ) → length pair ≡ 2 → digit (byte / 16) ≡ get_or pair 0 0 → digit (byte % 16) ≡ get_or pair 1 0 → spelled (bytes ++ byte ∷ []) ++ rest ≡ spelled bytes ++ (pair ++ rest)
reads_pair bytes byte pair rest two high low = rw (further bytes byte rest, high, low, two_first pair rest two) refl

even : (bytes : List ℕ) → length (spelled bytes) % 2 ≡ 0
even [] = refl
even (b ∷ bytes) = omega (arith, even bytes)

pub read_all : (line bytes rest : List ℕ) → spelled bytes ++ rest ≡ line → length rest < 2 → length line % 2 ≡ 0 → spelled bytes ≡ line
read_all line bytes [] before short whole = sym (append-nil (spelled bytes)) ∙ before
read_all line bytes (d ∷ rest) before short whole = absurd (omega (arith, even bytes, ap length before, length-append (spelled bytes) (d ∷ rest)))
