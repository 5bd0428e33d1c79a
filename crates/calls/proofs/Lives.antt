-- The law of lives: in every life an open job holds the earliest best plan of its end and number of cuts.
use Rattle.std.proofs.Common.{◌≡◌, ℕ, suc, ◌+◌, ◌-◌, ◌*◌, ◌^◌, ◌<◌, ◌≤◌, min, T, ltb, leb, List, [], length, Some, None, Option, sym, refl, ap, ◌∙◌, subst, ⊎_elim, add-one, arith}
use Rattle.std.proofs.lemmas.Bool.{cond_both, leb-true, ltb-true, le-leb, lt-leb, cases_lt}
use Rattle.costs.specs.Costs.{Costs, Laws}
use Rattle.costs.specs.Limits.{largest}
use Rattle.sources.specs.Scales.{Scale, Sound}
use Rattle.sources.specs.Squares.{first_large, first_broken}
use Rattle.sources.proofs.Quadrangles.{sized_at_none, glebov_at_none}
use Rattle.plans.specs.Limits.{longest, most_cuts}
use Rattle.plans.specs.Plans.{total, EarliestBest, BestPlan}
use Rattle.plans.specs.Steps.{Stepped, step, climb}
use Rattle.plans.proofs.Best.{one_best, plans_interlace_lem, totals_are_convex_lem, further_ends_lem}
use Rattle.plans.proofs.Bounds.{steps_read_little_lem}
use Rattle.plans.proofs.Climbs.{a_step_leads_on_lem, climbing_leads_there_lem}
use Rattle.plans.proofs.Shapes.{step_length}
use Rattle.calls.specs.declared.call.Call.{Call}
use Rattle.calls.specs.declared.call.Call.TheVariants.{OpenChecked, OpenVouched, Add, Drop, Reach}
use Rattle.calls.specs.declared.refusal.Refusal.{Refusal}
use Rattle.calls.specs.declared.refusal.Refusal.TheVariants.{Full, Beyond, TooFewCells}
use Rattle.plans.specs.Steps.{stepped}
use Rattle.calls.specs.Calls.{Opened, State, shut, opened, counted, Outcome, refuse, planned, does}
use Rattle.calls.specs.Lives.{Life, made, then, Moment, Compared, LawOfLives}

-- ---- the ways of a call that plans

-- job and cells after t, at the end e
abbrev moved : {K : Costs} → ℕ → Stepped K → Outcome K
moved e t = record { state = opened (record { end = e; cuts = t.cuts; total = t.total }); cells = t.cells; answer = counted t.reads }

-- what holds of each refusal, and of what t defines at an end that is near enough, holds of the outcome
planned_goes : (K : Costs) (s : Scale K) (o : Opened K) (e n : ℕ) (cells : List K.Cost) (t : Stepped K) (P : Outcome K → Type 0)
    → ((why : Refusal) → P (refuse K s (opened o) cells why)) → (e ≤ s.last → e ≤ longest → P (moved e t)) → P (planned K s o e n cells t)
planned_goes K s o e n cells t P refuses done =
    cond_both (leb e (min s.last longest)) _ _ P
    (λ p.
    let near = leb-true e (min s.last longest) p in
    cond_both (leb (e + n) (length cells)) _ _ P (λ _. done (omega arith) (omega arith)) (λ _. refuses TooFewCells))
    (λ _. refuses Beyond)

-- ---- what holds of an open job in every life

-- the earliest best plan at the end e with its total
abbrev BestAt : (K : Costs) → Scale K → Opened K → ℕ → Type 0
BestAt K s o e = EarliestBest K s e o.cuts × (o.total ≡ total K s 0 o.cuts e)

-- The costs are such that steps lead to best plans, the end is near enough, and the cuts are few enough and the earliest best.
record Good {K : Costs} (s : Scale K) (o : Opened K) : Type 0 where
  sound : Sound K s largest
  within : o.end ≤ s.last
  short : o.end ≤ longest
  few : length o.cuts ≤ most_cuts
  best : BestAt K s o o.end

-- a shut job is good
abbrev AllGood : {K : Costs} → Scale K → State K → Type 0
AllGood s shut = Unit {0}
AllGood s (opened o) = Good s o

-- the outcome leaves a good job
abbrev LeftGood : {K : Costs} → Scale K → Outcome K → Type 0
LeftGood s out = AllGood s out.state

-- ---- every call keeps it

module _ (K : Costs) (L : Laws K) (s : Scale K) where
  good_plan : (n e : ℕ) (cuts : List ℕ) (cost : K.Cost) → Sound K s largest → e ≤ s.last → e ≤ longest → n ≤ most_cuts → BestPlan K s n e cuts cost
      → Good s (record { end = e; cuts = cuts; total = cost })
  good_plan n e cuts cost sound h i j b = record { sound = sound; within = h; short = i; few = omega (arith, b.number); best = (b.best, b.cost_is) }

  good_opening : Sound K s largest → s.last ≤ longest → Good s (record { end = s.last; cuts = []; total = s.cost 0 s.last })
  good_opening sound h =
      good_plan 0 s.last [] (s.cost 0 s.last) sound (omega arith) h (omega arith)
      (climbing_leads_there_lem K L s sound 0 s.last [] (omega arith) (omega arith) h)

  good_step : (o : Opened K) (n : ℕ) (cells : List K.Cost) → length o.cuts < most_cuts → Good s o
      → LeftGood s (planned K s o o.end n cells (stepped K s o.cuts o.end cells))
  good_step o n cells room g =
      planned_goes K s o o.end n cells _ (LeftGood s) (λ _. g)
      (λ h i. good_plan (suc (length o.cuts)) o.end _ _ g.sound h i (omega arith) (a_step_leads_on_lem K L s g.sound o.cuts o.end room h i g.best.0))

  good_climb : (o : Opened K) (e n : ℕ) (cells : List K.Cost) → n ≤ length o.cuts → Good s o
      → LeftGood s (planned K s o e n cells (climb K s e n cells))
  good_climb o e n cells fewer g =
      let few : n ≤ most_cuts = omega (arith, g.few) in
      planned_goes K s o e n cells _ (LeftGood s) (λ _. g) (λ h i. good_plan n e _ _ g.sound h i few (climbing_leads_there_lem K L s g.sound n e cells few h i))

module _ (K : Costs) (L : Laws K) (s : Scale K) (bound : ℕ) (word : bound ≤ largest → Sound K s bound) where
  vouched_sound : bound ≤ largest → Sound K s largest
  vouched_sound h = let w = word h in record { sizes = λ x y i j. omega (arith, w.sizes x y i j); glebov = w.glebov }

  checked_sound : first_large K s ≡ None → first_broken K s ≡ None → Sound K s largest
  checked_sound e f = let sized = sized_at_none K s e in record { sizes = sized; glebov = glebov_at_none K s L f sized }

  -- a checked opening of a scale that is short enough, by what it found
  good_checked : (cells : List K.Cost) (large broken : Option (ℕ × ℕ)) → first_large K s ≡ large → first_broken K s ≡ broken → s.last ≤ longest
      → LeftGood s (does K s bound shut OpenChecked cells)
  good_checked cells None None e f h = let short = le-leb s.last longest h in rw (short, e, f) (good_opening K L s (checked_sound e f) h)
  good_checked cells None (Some at) e f h = let short = le-leb s.last longest h in rw (short, e, f) tt
  good_checked cells (Some at) broken e f h = let short = le-leb s.last longest h in rw (short, e) tt

  good_after : (st : State K) (call : Call) (cells : List K.Cost) → AllGood s st → LeftGood s (does K s bound st call cells)
  good_after shut OpenChecked cells g =
      ⊎_elim (λ h. let long = lt-leb s.last longest h in rw long tt) (good_checked cells (first_large K s) (first_broken K s) refl refl) (cases_lt longest s.last)
  good_after shut OpenVouched cells g =
      cond_both (leb s.last longest) _ _ (LeftGood s)
      (λ p. cond_both (leb bound largest) _ _ (LeftGood s) (λ q. good_opening K L s (vouched_sound (leb-true _ _ q)) (leb-true _ _ p)) (λ _. tt))
      (λ _. tt)
  good_after shut _ cells g = tt
  good_after (opened o) Add cells g =
      let n = length o.cuts in
      cond_both (ltb n most_cuts) _ _ (LeftGood s) (λ p. good_step K L s o (n + 1) cells (ltb-true _ _ p) g) (λ _. g)
  good_after (opened o) Drop cells g =
      let n = length o.cuts in
      cond_both (ltb 0 n) _ _ (LeftGood s) (λ _. good_climb K L s o o.end (n - 1) cells (omega arith) g) (λ _. g)
  good_after (opened o) (Reach e) cells g = good_climb K L s o e (length o.cuts) cells (omega arith) g
  good_after (opened o) _ cells g = g

  good_life : {st : State K} → Life K s bound st → AllGood s st
  good_life made = tt
  good_life (then {st} life call cells) = good_after st call cells (good_life life)

-- ---- how moments compare

module _ (K : Costs) (L : Laws K) (s : Scale K) where
  at_end : (o : Opened K) (e : ℕ) → o.end ≡ e → Good s o → BestAt K s o e
  at_end o e q g = subst (BestAt K s o) q g.best

  compared : (bound : ℕ) (o p : Opened K) → Good s o → Good s p → Compared K s bound o p
  compared bound o p g h = record {
    same = λ e q.
        let b = at_end o p.end e g in
        let cuts = one_best K s L p.end o.cuts p.cuts q b.0 h.best.0 in
        (cuts, b.1 ∙ ap (λ xs. total K s 0 xs p.end) cuts ∙ sym h.best.1);
    interlaced = λ e q. plans_interlace_lem K L s h.sound o.cuts p.cuts p.end q h.few h.within (at_end o p.end e g).0 h.best.0;
    further = λ e q. further_ends_lem K L s h.sound o.cuts p.cuts o.end p.end q h.few e h.within g.best.0 h.best.0;
  }

  convex : (o p q : Opened K) → Good s o → Good s p → Good s q
      → o.end ≡ p.end → p.end ≡ q.end → suc (length o.cuts) ≡ length p.cuts → suc (length p.cuts) ≡ length q.cuts
      → T (K.le (K.add p.total p.total) (K.add o.total q.total))
  convex o p q g h i e f a c =
      let x = at_end o q.end (e ∙ f) g in
      let y = at_end p q.end f h in
      let z = i.best in
      rw (x.1, y.1, z.1) (totals_are_convex_lem K L s i.sound o.cuts p.cuts q.cuts q.end a c i.few i.within x.0 y.0 z.0)

-- ---- the reads of an add

module _ (K : Costs) (s : Scale K) (bound : ℕ) (o p : Opened K) (reads : ℕ) where
  -- a step from o came to p by these reads
  abbrev CameBy : Type 0
  CameBy = (p.end ≡ o.end) × (p.cuts ≡ (step K s o.cuts o.end).cuts) × (reads ≡ (step K s o.cuts o.end).reads)

  -- an outcome with this count and this state came so
  abbrev Came : Outcome K → Type 0
  Came out = out.answer ≡ counted reads → out.state ≡ opened p → CameBy

  refused_came : (cells : List K.Cost) (why : Refusal) → Came (refuse K s (opened o) cells why)
  refused_came cells why a q = let z : ◌≡◌ {A = ℕ} 0 1 = cc in absurd (omega arith)

  stepped_came : (cells : List K.Cost) → Came (moved o.end (stepped K s o.cuts o.end cells))
  stepped_came cells a q =
      let e : p ≡ record { end = o.end; cuts = (step K s o.cuts o.end).cuts; total = (step K s o.cuts o.end).total } = cc in
      (ap (λ (v : Opened K). v.end) e, ap (λ (v : Opened K). v.cuts) e, cc)

  came : (cells : List K.Cost) → Came (does K s bound (opened o) Add cells)
  came cells =
      let n = length o.cuts in
      cond_both (ltb n most_cuts) _ _ Came (λ _. planned_goes K s o o.end (n + 1) cells _ Came (refused_came cells) (λ _ _. stepped_came cells)) (λ _. refused_came cells Full)

  few_reads : (L : ℕ) → Good s o → CameBy
      → 2 ^ L ≤ p.end + 1 → p.end + 1 < 2 ^ (L + 1) → reads ≤ 2 * (p.end + length p.cuts) + p.end * (1 + L)
  few_reads L g c low high =
      rw (c.0, c.1)
      (omega (
        arith,
        c.2,
        step_length K s o.cuts o.end,
        steps_read_little_lem K s o.cuts o.end L g.best.0.plan g.short (omega (arith, c.0)) (subst (λ j. o.end + 1 < 2 ^ j) (add-one L) (omega (arith, c.0))),
      ))

-- ---- the law

pub law_of_lives_lem : (K : Costs) → Laws K → LawOfLives K
law_of_lives_lem K L s bound word =
    let good : (o : Opened K) → Moment K s bound o → Good s o = λ o m. good_life K L s bound word m in
    record {
      within = λ o m. let g = good o m in (g.within, g.short, g.few);
      best = λ o m. (good o m).best;
      compare = λ o p m n. compared K L s bound o p (good o m) (good p n);
      convex = λ o p q l m n. convex K L s o p q (good o l) (good p m) (good q n);
      reads = λ o p cells r k m a q. few_reads K s bound o p r k (good o m) (came K s bound o p r cells a q);
    }
