-- The first bad number and the first bad pair: when there is one, and what none says.
use Rattle.std.proofs.Common.{◌≡◌, ℕ, zero, suc, ◌+◌, ◌<◌, ◌≤◌, Bool, true, false, Some, None, Option, sym, refl, ap, ◌∙◌, ⊎_elim, arith}
use Rattle.std.proofs.lemmas.Bool.{cases_eq, cases_Bool, cond-true, cond-false}
use Rattle.sources.specs.Squares.{FindsFirst, FindsFirstPair, first_in, or_later, first_pair, FirstBadPair}

module _ (bad : ℕ → Bool) where
  none_from : (k x : ℕ) → ((i : ℕ) → x ≤ i → i < x + k → bad i ≡ false) → first_in bad k x ≡ None
  none_from zero x good = refl
  none_from (suc k) x good = cond-false (bad x) _ _ (good x (omega arith) (omega arith)) ∙ none_from k (suc x) (λ i h l. good i (omega arith) (omega arith))

  some_from : (k x i : ℕ) → x ≤ i → i < x + k → bad i ≡ true → ((j : ℕ) → x ≤ j → j < i → bad j ≡ false) → first_in bad k x ≡ Some i
  some_from zero x i h l b good = absurd (omega arith)
  some_from (suc k) x i h l b good =
      ⊎_elim
      (λ e. cond-true (bad x) _ _ (ap bad e ∙ b) ∙ ap Some e)
      (λ ne. let far : x < i = omega arith in cond-false (bad x) _ _ (good x (omega arith) far) ∙ some_from k (suc x) i far (omega arith) b (λ j m n. good j (omega arith) n))
      (cases_eq x i)

  clean_from : (k x : ℕ) → first_in bad k x ≡ None → (i : ℕ) → x ≤ i → i < x + k → bad i ≡ false
  clean_from zero x e i h l = absurd (omega arith)
  clean_from (suc k) x e i h l =
      ⊎_elim
      (λ t. let f : Some x ≡ None = cc (cond-true (bad x) (Some x) (first_in bad k (suc x)) t) in let z : ◌≡◌ {A = ℕ} 0 1 = cc in absurd (omega arith))
      (λ t. let f : first_in bad k (suc x) ≡ None = cc (cond-false (bad x) (Some x) (first_in bad k (suc x)) t) in
      ⊎_elim (λ same. ap bad same ∙ t) (λ ne. clean_from k (suc x) f i (omega arith) (omega arith)) (cases_eq i x))
      (cases_Bool (bad x))

  -- the first bad number from x on is bad, and none before it
  first_from : (k x i : ℕ) → first_in bad k x ≡ Some i → (x ≤ i) × (i < x + k) × (bad i ≡ true) × ((j : ℕ) → x ≤ j → j < i → bad j ≡ false)
  first_from zero x i e = let z : ◌≡◌ {A = ℕ} 0 1 = cc in absurd (omega arith)
  first_from (suc k) x i e =
      ⊎_elim
      (λ t. let same : x ≡ i = cc (cond-true (bad x) (Some x) (first_in bad k (suc x)) t) in (omega arith, omega arith, ap bad (sym same) ∙ t, λ j h l. absurd (omega arith)))
      (λ t. let f : first_in bad k (suc x) ≡ Some i = cc (cond-false (bad x) (Some x) (first_in bad k (suc x)) t) in
      let r = first_from k (suc x) i f in
      (omega (arith, r.0), omega (arith, r.1), r.2, λ j h l. ⊎_elim (λ same. ap bad same ∙ t) (λ ne. r.3 j (omega arith) l) (cases_eq j x)))
      (cases_Bool (bad x))

  -- none of the first k numbers is bad
  pub none : (k : ℕ) → ((i : ℕ) → i < k → bad i ≡ false) → first_in bad k 0 ≡ None
  none k good = none_from k 0 (λ i h l. good i (omega arith))

  -- i is bad, and none before it
  pub some : (k i : ℕ) → i < k → bad i ≡ true → ((j : ℕ) → j < i → bad j ≡ false) → first_in bad k 0 ≡ Some i
  some k i l b good = some_from k 0 i (omega arith) (omega arith) b (λ j h n. good j n)

  pub clean : (k : ℕ) → first_in bad k 0 ≡ None → (i : ℕ) → i < k → bad i ≡ false
  clean k e i l = clean_from k 0 e i (omega arith) (omega arith)

later_none : (o : Option ℕ) (y : ℕ) (later : Option (ℕ × ℕ)) → or_later o y later ≡ None → (o ≡ None) × (later ≡ None)
later_none (Some x) y later e = let z : ◌≡◌ {A = ℕ} 0 1 = cc in absurd (omega arith)
later_none None y later e = (refl, e)

module _ (bad : ℕ → ℕ → Bool) (width : ℕ → ℕ) where
  -- the first bad number of a row
  abbrev pub in_row : ℕ → Option ℕ
  in_row y = first_in (λ x. bad x y) (width y) 0

  rows_none : (k y : ℕ) → ((z : ℕ) → y ≤ z → z < y + k → in_row z ≡ None) → first_pair bad width k y ≡ None
  rows_none zero y good = refl
  rows_none (suc k) y good =
      ap (λ o. or_later o y (first_pair bad width k (suc y))) (good y (omega arith) (omega arith)) ∙ rows_none k (suc y) (λ z h l. good z (omega arith) (omega arith))

  rows_some : (k y z x : ℕ) → y ≤ z → z < y + k → in_row z ≡ Some x → ((w : ℕ) → y ≤ w → w < z → in_row w ≡ None) → first_pair bad width k y ≡ Some (x, z)
  rows_some zero y z x h l e good = absurd (omega arith)
  rows_some (suc k) y z x h l e good =
      let later = first_pair bad width k (suc y) in
      ⊎_elim
      (λ same. ap (λ o. or_later o y later) (ap in_row same ∙ e) ∙ ap (λ v. Some (x, v)) same)
      (λ ne. ap (λ o. or_later o y later) (good y (omega arith) (omega arith)) ∙ rows_some k (suc y) z x (omega arith) (omega arith) e (λ w m n. good w (omega arith) n))
      (cases_eq y z)

  rows_clean : (k y : ℕ) → first_pair bad width k y ≡ None → (z : ℕ) → y ≤ z → z < y + k → in_row z ≡ None
  rows_clean zero y e z h l = absurd (omega arith)
  rows_clean (suc k) y e z h l =
      let p = later_none (in_row y) y (first_pair bad width k (suc y)) e in
      ⊎_elim (λ same. ap in_row same ∙ p.0) (λ ne. rows_clean k (suc y) p.1 z (omega arith) (omega arith)) (cases_eq z y)

  -- row z is the first from row y on with a bad number, and x is its first
  abbrev FirstRow : ℕ → ℕ → ℕ → ℕ → Type 0
  FirstRow k y x z = (y ≤ z) × (z < y + k) × (in_row z ≡ Some x) × ((w : ℕ) → y ≤ w → w < z → in_row w ≡ None)

  row_by : (k y x z : ℕ) (o : Option ℕ) → in_row y ≡ o → or_later o y (first_pair bad width k (suc y)) ≡ Some (x, z) → (first_pair bad width k (suc y) ≡ Some (x, z) → FirstRow k (suc y) x z) → FirstRow (suc k) y x z
  row_by k y x z (Some v) f e later =
      let same : ◌≡◌ {A = ℕ × ℕ} (v, y) (x, z) = cc in
      let xs : v ≡ x = ap (λ p. p.0) same in
      let ys : y ≡ z = ap (λ p. p.1) same in
      (omega arith, omega arith, ap in_row (sym ys) ∙ f ∙ ap Some xs, λ w h l. absurd (omega arith))
  row_by k y x z None f e later =
      let r = later e in
      (omega (arith, r.0), omega (arith, r.1), r.2, λ w h l. ⊎_elim (λ same. ap in_row same ∙ f) (λ ne. r.3 w (omega arith) l) (cases_eq w y))

  first_row_from : (k y x z : ℕ) → first_pair bad width k y ≡ Some (x, z) → FirstRow k y x z
  first_row_from zero y x z e = let q : ◌≡◌ {A = ℕ} 0 1 = cc in absurd (omega arith)
  first_row_from (suc k) y x z e = row_by k y x z (in_row y) refl e (first_row_from k (suc y) x z)

  -- the first bad pair is just that
  pub first_is : (k x y : ℕ) → first_pair bad width k 0 ≡ Some (x, y) → FirstBadPair bad width k x y
  first_is k x y e =
      let r = first_row_from k 0 x y e in
      let q = first_from (λ v. bad v y) (width y) 0 x r.2 in
      record {
        row = omega (arith, r.1);
        place = omega (arith, q.1);
        there = q.2;
        rows_before = λ v w h l. clean (λ u. bad u w) (width w) (r.3 w (omega arith) h) v l;
        places_before = λ v h. q.3 v (omega arith) h;
      }

  -- no row below k has a bad number
  pub no_pair : (k : ℕ) → ((z : ℕ) → z < k → in_row z ≡ None) → first_pair bad width k 0 ≡ None
  no_pair k good = rows_none k 0 (λ z h l. good z (omega arith))

  -- row z has one, and no row before it
  pub pair : (k z x : ℕ) → z < k → in_row z ≡ Some x → ((w : ℕ) → w < z → in_row w ≡ None) → first_pair bad width k 0 ≡ Some (x, z)
  pair k z x l e good = rows_some k 0 z x (omega arith) (omega arith) e (λ w h n. good w n)

  -- where there is no pair, nothing is bad
  pub clean_pairs : (k : ℕ) → first_pair bad width k 0 ≡ None → (x y : ℕ) → y < k → x < width y → bad x y ≡ false
  clean_pairs k e x y h l = clean (λ v. bad v y) (width y) (rows_clean k 0 e y (omega arith) (omega arith)) x l

-- a search whose test passes at the bad pairs, and at no others, answers the first
pub found : (bad : ℕ → ℕ → Bool) (width : ℕ → ℕ) (k last : ℕ) (Test : ℕ → ℕ → Bool → Type 0) (o : Option (ℕ × ℕ)) → FindsFirstPair Test last o
    → ((y : ℕ) → y < k → y ≤ last)
    → ((x y : ℕ) → y < k → x < width y → x ≤ y)
    → ((x y : ℕ) → x ≤ y → y ≤ last → Test x y true → (y < k) × (x < width y) × (bad x y ≡ true))
    → ((x y : ℕ) → y < k → x < width y → Test x y false → bad x y ≡ false)
    → o ≡ first_pair bad width k 0
found bad width k last Test o f rows inside passes fails = by o refl
  where
    good_row : (y : ℕ) → y < k → FindsFirst (λ x. Test x y) y None → in_row bad width y ≡ None
    good_row y h g = none (λ x. bad x y) (width y) (λ x m. fails x y h m (g x (inside x y h m)))

    by : (r : Option (ℕ × ℕ)) → o ≡ r → o ≡ first_pair bad width k 0
    by None e = e ∙ sym (no_pair bad width k (λ y h. good_row y h (f.none e y (rows y h))))
    by (Some (x, y)) e =
        let g = f.some x y e in
        let p = passes x y g.1.0 g.0 g.1.1 in
        e ∙ sym (pair bad width k y x p.0
        (some (λ v. bad v y) (width y) x p.1 p.2 (λ v h. fails v y p.0 (omega arith) (g.1.2 v h)))
        (λ w h. good_row w (omega arith) (g.2 w h)))
