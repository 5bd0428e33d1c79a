-- Reading the bytes of a sheet, told by the list of its records.
use Rattle.std.proofs.Common.{◌≡◌, ℕ, zero, suc, ◌+◌, ◌-◌, ◌*◌, ◌≤◌, Bool, true, not, List, [], ◌∷◌, ◌++◌, length, drop, IfOk, Some, None, Ok, Err, Option, sym, refl, ap, ◌∙◌, subst, append_assoc, append-nil, one-add, arith}
use Rattle.std.proofs.lemmas.Bool.Decides.{nat_tests}
use Rattle.std.proofs.Math.Seq.{drop-nil}
use Rattle.std.proofs.lemmas.List.Sums.{sum_by-cons, sum_by-append, sum_by-take-le}
use Rattle.std.specs.List.{filter_map, prefix_len, sum_by, take_while}
use Rattle.decoder.specs.declared.record.Record.{Record}
use Rattle.decoder.specs.declared.record.Record.TheVariants.{Count, Event as Happens}
use Rattle.decoder.specs.declared.sheet.Event.{Event}
use Rattle.decoder.specs.declared.sheet.Event.TheVariants.{Open, Add, Drop, Reach}
use Rattle.decoder.specs.Records.{front, width, is_count, count_of, event_of, records}
use Rattle.decoder.specs.Sheets.{Meaning, read, BeforeFault, Faultless}

-- ---- the records that are in order

abbrev pub is_event : Record → Bool
is_event r = not (is_count r)

-- the records from the first event on
abbrev later : List Record → List Record
later rs = drop (prefix_len is_count rs) rs

-- the counts at the front, and the events right behind them
abbrev pub in_order : List Record → List Record
in_order rs = take_while is_count rs ++ take_while is_event (later rs)

module _ (p : Record → Bool) (r : Record) (rs : List Record) (e : p r ≡ true) where
  taken : take_while p (r ∷ rs) ≡ r ∷ take_while p rs
  taken = rw (e, one-add) refl

  dropped : drop (prefix_len p (r ∷ rs)) (r ∷ rs) ≡ drop (prefix_len p rs) rs
  dropped = rw (e, one-add) refl

-- ---- counts and events

-- the counts that are in order behind the events es
abbrev pub counts_behind : List Event → List Record → List ℕ
counts_behind [] rs = filter_map count_of (take_while is_count rs)
counts_behind (x ∷ es) rs = []

counts_end : (es : List Event) → counts_behind es [] ≡ []
counts_end [] = refl
counts_end (x ∷ es) = refl

counts_event : (es : List Event) (e : Event) (rs : List Record) → counts_behind (es ++ e ∷ []) rs ≡ counts_behind es (Happens e ∷ rs)
counts_event [] e rs = refl
counts_event (x ∷ es) e rs = refl

counts_count : (n : ℕ) (rs : List Record) → counts_behind [] (Count n ∷ rs) ≡ n ∷ counts_behind [] rs
counts_count n rs = ap (λ l. filter_map count_of l) (taken is_count (Count n) rs refl)

-- what is read, where `counts` tells the counts among the records behind some events
module _ (counts : List Event → List Record → List ℕ) (at_end : (es : List Event) → counts es [] ≡ [])
    (at_event : (es : List Event) (e : Event) (rs : List Record) → counts (es ++ e ∷ []) rs ≡ counts es (Happens e ∷ rs)) (at_count : (n : ℕ) (rs : List Record) → counts [] (Count n ∷ rs) ≡ n ∷ counts [] rs) where
  abbrev Holds : List ℕ → List Event → List Record → List ℕ × List Event → Type 0
  Holds cs es rs s = s ≡ (cs ++ counts es rs, es ++ filter_map event_of rs)

  one_count : (cs : List ℕ) (n : ℕ) (rs : List Record) (m : Meaning) → IfOk m (Holds (cs ++ n ∷ []) [] rs) → IfOk m (Holds cs [] (Count n ∷ rs))
  one_count cs n rs (Ok s) h = h ∙ ap (λ l. (l, filter_map event_of rs)) (append_assoc cs (n ∷ []) (counts [] rs) ∙ ap (λ l. cs ++ l) (sym (at_count n rs)))
  one_count cs n rs (Err p) h = tt

  one_event : (cs : List ℕ) (es : List Event) (e : Event) (rs : List Record) (m : Meaning) → IfOk m (Holds cs (es ++ e ∷ []) rs) → IfOk m (Holds cs es (Happens e ∷ rs))
  one_event cs es e rs (Ok s) h = h ∙ (λ i. (cs ++ at_event es e rs i, append_assoc es (e ∷ []) (filter_map event_of rs) i))
  one_event cs es e rs (Err p) h = tt

  holds_front : (cs : List ℕ) (es : List Event) (p b : ℕ) (bs : List ℕ) (o : Option Record) → front (b ∷ bs) ≡ o
      → ((cs : List ℕ) (es : List Event) (skip : ℕ) → IfOk (read cs es (p + 1) skip bs) (Holds cs es (records skip bs))) → IfOk (read cs es p 0 (b ∷ bs)) (Holds cs es (records 0 (b ∷ bs)))
  holds_front cs es p b bs None e onward = rw (e, read) tt
  holds_front cs [] p b bs (Some (Count n)) e onward = rw (e, read, records) (one_count cs n (records 5 bs) (read (cs ++ n ∷ []) [] (p + 1) 5 bs) (onward (cs ++ n ∷ []) [] 5))
  holds_front cs (x ∷ es) p b bs (Some (Count n)) e onward = rw (e, read) tt
  holds_front cs es p b bs (Some (Happens a)) e onward =
      let skip = width (Happens a) - 1 in
      rw (e, read, records) (one_event cs es a (records skip bs) (read cs (es ++ a ∷ []) (p + 1) skip bs) (onward cs (es ++ a ∷ []) skip))

  read_holds : (cs : List ℕ) (es : List Event) (p skip : ℕ) (bs : List ℕ) → IfOk (read cs es p skip bs) (Holds cs es (records skip bs))
  read_holds cs es p skip [] = λ i. ((sym (append-nil cs) ∙ ap (λ l. cs ++ l) (sym (at_end es))) i, sym (append-nil es) i)
  read_holds cs es p (suc skip) (b ∷ bs) = read_holds cs es (p + 1) skip bs
  read_holds cs es p zero (b ∷ bs) = holds_front cs es p b bs (front (b ∷ bs)) refl (λ cs es skip. read_holds cs es (p + 1) skip bs)

holds : (m : Meaning) (t : List ℕ × List Event) → Faultless m → IfOk m (λ s. s ≡ t) → m ≡ Ok t
holds (Ok s) t f e = ap Ok e
holds (Err p) t f e = absurd f

-- ---- how many bytes the records take

width_some : (r : Record) → 1 ≤ width r
width_some (Count n) = omega arith
width_some (Happens Open) = omega arith
width_some (Happens Add) = omega arith
width_some (Happens Drop) = omega arith
width_some (Happens (Reach n)) = omega arith

width_within : (r : Record) (b : ℕ) (bs : List ℕ) → front (b ∷ bs) ≡ Some r → width r - 1 ≤ length bs
width_within r b bs e = grind (arith, nat_tests)

front_within : (b : ℕ) (bs : List ℕ) (o : Option Record) → front (b ∷ bs) ≡ o
    → ((skip : ℕ) → skip ≤ length bs → skip + sum_by width (records skip bs) ≤ length bs) → sum_by width (records 0 (b ∷ bs)) ≤ length (b ∷ bs)
front_within b bs None e onward = rw (e, records) (omega arith)
front_within b bs (Some r) e onward =
    let skip = width r - 1 in
    rw (e, records) (omega (arith, sum_by-cons width r (records skip bs), width_some r, onward skip (width_within r b bs e)))

records_within : (skip : ℕ) (bs : List ℕ) → skip ≤ length bs → skip + sum_by width (records skip bs) ≤ length bs
records_within skip [] h = omega arith
records_within (suc skip) (b ∷ bs) h = omega (arith, records_within skip bs (omega arith))
records_within zero (b ∷ bs) h = omega (arith, front_within b bs (front (b ∷ bs)) refl (λ skip k. records_within skip bs k))

pub taken_within : (p : Record → Bool) (bs : List ℕ) → sum_by width (take_while p (records 0 bs)) ≤ length bs
taken_within p bs = omega (arith, sum_by-take-le width (records 0 bs) (prefix_len p (records 0 bs)), records_within 0 bs (omega arith))

-- how many bytes the records take that are in order behind the events es
abbrev extent : List Event → List Record → ℕ
extent [] rs = sum_by width (in_order rs)
extent (x ∷ es) rs = sum_by width (take_while is_event rs)

in_order_count : (n : ℕ) (rs : List Record) → in_order (Count n ∷ rs) ≡ Count n ∷ in_order rs
in_order_count n rs =
    (λ i. taken is_count (Count n) rs refl i ++ (let later = dropped is_count (Count n) rs refl i in take_while is_event later))

extent_count : (n : ℕ) (rs : List Record) → extent [] (Count n ∷ rs) ≡ 6 + extent [] rs
extent_count n rs = ap (λ l. sum_by width l) (in_order_count n rs) ∙ sum_by-cons width (Count n) (in_order rs)

extent_event : (es : List Event) (e : Event) (rs : List Record) → extent es (Happens e ∷ rs) ≡ width (Happens e) + extent (es ++ e ∷ []) rs
extent_event [] e rs = ap (λ l. sum_by width l) (taken is_event (Happens e) rs refl) ∙ sum_by-cons width (Happens e) (take_while is_event rs)
extent_event (x ∷ es) e rs = ap (λ l. sum_by width l) (taken is_event (Happens e) rs refl) ∙ sum_by-cons width (Happens e) (take_while is_event rs)

extent_late : (x : Event) (es : List Event) (n : ℕ) (rs : List Record) → extent (x ∷ es) (Count n ∷ rs) ≡ 0
extent_late x es n rs = refl

extent_none : (es : List Event) → extent es [] ≡ 0
extent_none [] = refl
extent_none (x ∷ es) = refl

within : (n long : ℕ) (m : Meaning) → BeforeFault n long m → n ≤ long
within n long (Ok s) h = omega arith
within n long (Err p) h = omega arith

at_before_fault : (m n k l : ℕ) (r : Meaning) → m ≡ k → n ≡ l → BeforeFault m n r → BeforeFault k l r
at_before_fault m n k l r e f h = subst (λ x. BeforeFault x l r) e (subst (λ x. BeforeFault m x r) f h)

front_before_fault : (cs : List ℕ) (es : List Event) (p b : ℕ) (bs : List ℕ) (o : Option Record) → front (b ∷ bs) ≡ o
    → ((cs : List ℕ) (es : List Event) (skip : ℕ) → skip ≤ length bs → BeforeFault (p + 1 + skip + extent es (records skip bs)) (p + 1 + length bs) (read cs es (p + 1) skip bs))
    → BeforeFault (p + 0 + extent es (records 0 (b ∷ bs))) (p + length (b ∷ bs)) (read cs es p 0 (b ∷ bs))
front_before_fault cs es p b bs None e onward = rw (e, read, records) (omega (arith, extent_none es), omega arith)
front_before_fault cs [] p b bs (Some (Count n)) e onward =
    rw (e, read, records) (at_before_fault _ _ _ _ _ (omega (arith, extent_count n (records 5 bs))) (omega arith) (onward (cs ++ n ∷ []) [] 5 (width_within (Count n) b bs e)))
front_before_fault cs (x ∷ es) p b bs (Some (Count n)) e onward = rw (e, read, records) (omega arith, omega arith)
front_before_fault cs es p b bs (Some (Happens a)) e onward =
    let skip = width (Happens a) - 1 in
    rw (e, read, records) (at_before_fault _ _ _ _ _ (omega (arith, extent_event es a (records skip bs), width_some (Happens a))) (omega arith) (onward cs (es ++ a ∷ []) skip (width_within (Happens a) b bs e)))

read_before_fault : (cs : List ℕ) (es : List Event) (p skip : ℕ) (bs : List ℕ) → skip ≤ length bs → BeforeFault (p + skip + extent es (records skip bs)) (p + length bs) (read cs es p skip bs)
read_before_fault cs es p skip [] h = omega (arith, extent_none es)
read_before_fault cs es p (suc skip) (b ∷ bs) h = at_before_fault _ _ _ _ _ (omega arith) (omega arith) (read_before_fault cs es (p + 1) skip bs (omega arith))
read_before_fault cs es p zero (b ∷ bs) h = front_before_fault cs es p b bs (front (b ∷ bs)) refl (λ cs es skip k. read_before_fault cs es (p + 1) skip bs k)

-- ---- the events stand behind the bytes of the counts

counts_len : (rs : List Record) → length (filter_map count_of (take_while is_count rs)) * 6 ≡ sum_by width (take_while is_count rs)
counts_len [] = refl
counts_len (Count n ∷ rs) = rw (taken is_count (Count n) rs refl) (omega (arith, counts_len rs, sum_by-cons width (Count n) (take_while is_count rs)))
counts_len (Happens e ∷ rs) = refl

events_later : (rs : List Record) → filter_map event_of (later rs) ≡ filter_map event_of rs
events_later [] = refl
events_later (Count n ∷ rs) = ap (λ l. filter_map event_of l) (dropped is_count (Count n) rs refl) ∙ events_later rs
events_later (Happens e ∷ rs) = refl

front_later : (b : ℕ) (bs : List ℕ) (o : Option Record) → front (b ∷ bs) ≡ o
    → ((skip : ℕ) → records 0 (drop (skip + sum_by width (take_while is_count (records skip bs))) bs) ≡ later (records skip bs))
    → records 0 (drop (0 + sum_by width (take_while is_count (records 0 (b ∷ bs)))) (b ∷ bs)) ≡ later (records 0 (b ∷ bs))
front_later b bs None e onward = rw (e, records) (rw (e, records) refl)
front_later b bs (Some (Count n)) e onward =
    let rs = records 5 bs in
    let six : 0 + sum_by width (take_while is_count (Count n ∷ rs)) ≡ suc (5 + sum_by width (take_while is_count rs)) =
    omega (arith, ap (λ l. sum_by width l) (taken is_count (Count n) rs refl), sum_by-cons width (Count n) (take_while is_count rs)) in
    rw (e, records) (ap (λ k. records 0 (drop k (b ∷ bs))) six ∙ onward 5 ∙ sym (dropped is_count (Count n) rs refl))
front_later b bs (Some (Happens a)) e onward = rw (e, records) (rw (e, records) refl)

records_later : (skip : ℕ) (bs : List ℕ) → records 0 (drop (skip + sum_by width (take_while is_count (records skip bs))) bs) ≡ later (records skip bs)
records_later skip [] = ap (λ l. records 0 l) (drop-nil (skip + 0))
records_later (suc skip) (b ∷ bs) =
    let e : suc skip + sum_by width (take_while is_count (records skip bs)) ≡ suc (skip + sum_by width (take_while is_count (records skip bs))) = omega arith in
    ap (λ k. records 0 (drop k (b ∷ bs))) e ∙ records_later skip bs
records_later zero (b ∷ bs) = front_later b bs (front (b ∷ bs)) refl (λ skip. records_later skip bs)

module _ (bs : List ℕ) where
  behind_counts : (k : ℕ) → k ≡ sum_by width (take_while is_count (records 0 bs)) → records 0 (drop k bs) ≡ later (records 0 bs)
  behind_counts k e = let at : k ≡ 0 + sum_by width (take_while is_count (records 0 bs)) = omega arith in ap (λ k. records 0 (drop k bs)) at ∙ records_later 0 bs

  pub all_before_fault : (n : ℕ) → n ≡ sum_by width (in_order (records 0 bs)) → BeforeFault n (length bs) (read [] [] 0 0 bs)
  all_before_fault n e = at_before_fault _ _ _ _ _ (omega arith) (omega arith) (read_before_fault [] [] 0 0 bs (omega arith))

  pub before_fault_within : sum_by width (in_order (records 0 bs)) ≤ length bs
  before_fault_within = within _ _ _ (all_before_fault _ refl)

  -- the same by halves: the counts, and the events behind them
  pub halves_before_fault : (c e : ℕ) → c ≡ sum_by width (take_while is_count (records 0 bs)) → e ≡ sum_by width (take_while is_event (records 0 (drop c bs))) → BeforeFault (c + e) (length bs) (read [] [] 0 0 bs)
  halves_before_fault c e f g =
      let rs = records 0 bs in
      let events = g ∙ ap (λ l. sum_by width (take_while is_event l)) (behind_counts c f) in
      all_before_fault (c + e) (omega (arith, f, events, sum_by-append width (take_while is_count rs) (take_while is_event (later rs))))

  module _ (cs : List ℕ) (leading : cs ≡ filter_map count_of (take_while is_count (records 0 bs))) where
    counts_reach : length cs * 6 ≡ sum_by width (take_while is_count (records 0 bs))
    counts_reach = ap (λ l. length l * 6) leading ∙ counts_len (records 0 bs)

    pub counts_within : length cs * 6 ≤ length bs
    counts_within = omega (arith, counts_reach, taken_within is_count bs)

    pub events_behind : filter_map event_of (records 0 (drop (length cs * 6) bs)) ≡ filter_map event_of (records 0 bs)
    events_behind = ap (λ l. filter_map event_of l) (behind_counts (length cs * 6) counts_reach) ∙ events_later (records 0 bs)

  pub meaning_holds : Faultless (read [] [] 0 0 bs) → read [] [] 0 0 bs ≡ Ok (filter_map count_of (records 0 bs), filter_map event_of (records 0 bs))
  meaning_holds f = holds _ _ f (read_holds (λ es rs. filter_map count_of rs) (λ es. refl) (λ es e rs. refl) (λ n rs. refl) [] [] 0 0 bs)

  -- all counts stand at the front
  pub meaning_leads : Faultless (read [] [] 0 0 bs) → read [] [] 0 0 bs ≡ Ok (filter_map count_of (take_while is_count (records 0 bs)), filter_map event_of (records 0 bs))
  meaning_leads f = holds _ _ f (read_holds counts_behind counts_end counts_event counts_count [] [] 0 0 bs)
