-- Whole steps: their reads are few, their cells lie over those that were lent, and one follows another.
use Rattle.std.proofs.Common.{◌≡◌, ℕ, suc, ◌+◌, ◌*◌, ◌<◌, ◌≤◌, cond, eqb, List, [], ◌++◌, map, length, take, drop, sym, refl, ap, ◌∙◌, subst, mul-le-mul_left, arith}
use Rattle.std.proofs.lemmas.List.{take-append-drop, map-append, drop-map}
use Rattle.std.proofs.lemmas.Bool.{cond_both, cond-false, ne_eqb}
use Rattle.costs.specs.Costs.{Costs}
use Rattle.costs.specs.declared.kind.Kind as kind
use Rattle.sources.specs.Scales.{Scale}
use Rattle.plans.specs.Limits.{longest, most_cuts}
use Rattle.plans.specs.Plans.{Plan}
use Rattle.plans.specs.Steps.{log2, step, over, climb}
use Rattle.plans.proofs.Bounds.{steps_read_little_lem}
use Rattle.plans.proofs.Climbs.{climb_length, climb_plan}
use Rattle.plans.proofs.Logs.{log2_low, log2_high, log2_most}
use Rattle.steps.specs.declared.stepping.Stepped.{Stepped}
use Rattle.steps.specs.Left.{StepLeft, ClimbLeft}
use Rattle.steps.proofs.Laid.{agree_behind}

-- a step reads few costs, whatever they are
pub step_few : (K : Costs) (s : Scale K) (held : List ℕ) (e : ℕ) → Plan 0 held e → e ≤ longest → length held < most_cuts → (step K s held e).reads ≤ 62000
step_few K s held e p short few =
    let L = log2 12 (e + 1) in
    let levels : e * (1 + L) ≤ e * 13 = mul-le-mul_left e (omega (arith, log2_most 12 (e + 1))) in
    omega (arith, steps_read_little_lem K s held e L p short (log2_low 12 (e + 1) (omega arith)) (log2_high 12 (e + 1) (omega arith)))

-- values that begin with the costs of a step, and are as before behind them
pub over_is : {V C : Type 0} (means : V → C) (cells : List C) (n : ℕ) (old new : List V) → length cells ≡ n → map means (take n new) ≡ cells → drop n new ≡ drop n old → map means new ≡ over cells (map means old)
over_is means cells n old new long first behind =
    ap (map means) (sym (take-append-drop n new)) ∙ map-append means (take n new) (drop n new) ∙ ap (λ zs. zs ++ map means (drop n new)) first
    ∙ ap (λ zs. cells ++ map means zs) behind ∙ ap (λ zs. cells ++ zs) (sym (drop-map means n old)) ∙ ap (λ m. cells ++ drop m (map means old)) (sym long)

-- ---- stepping up

module _ {V : Type 0} (k : kind.Ghosts V) (s : Scale k.costs) (end : ℕ) (old : List V) where
  pub record Climbed (n : ℕ) (vs : List V) (r : Stepped V) : Type 0 where
    pub left : ClimbLeft k s end n old vs r
    pub few : r.reads ≤ 1 + n * 62000

  pub climbed_first : (r : Stepped V) → r.cuts ≡ [] → k.means r.total ≡ s.cost 0 end → r.reads ≡ 1 → Climbed 0 old r
  climbed_first r none total reads = record {
    left = record { cuts = none; number = ap length none; total = total; reads = reads; cells = refl; kept = refl };
    few = omega arith;
  }

module _ {V : Type 0} {k : kind.Ghosts V} {s : Scale k.costs} {end : ℕ} {old : List V} {n : ℕ} {vs : List V} {r : Stepped V} (before : Climbed k s end old n vs r) where
  pub climbed_plan : Plan 0 r.cuts end
  climbed_plan = subst (λ xs. Plan 0 xs end) (sym before.left.cuts) (climb_plan k.costs s end (map k.means old) n)

  left_more : {vs' : List V} {t : Stepped V} → StepLeft k s r.cuts end vs vs' t → ClimbLeft k s end (suc n) old vs' (record { cuts = t.cuts; total = t.total; reads = r.reads + t.reads })
  left_more {vs'} {t} did =
      let K = k.costs in
      let was = climb K s end n (map k.means old) in
      let cuts = before.left.cuts in
      let number = before.left.number in
      let N = end + length r.cuts + 1 in
      let filled : cond (eqb n 0) 0 (end + n) ≤ N = cond_both (eqb n 0) 0 (end + n) (λ z. z ≤ N) (λ _. omega arith) (λ _. omega arith) in
      let N-is : N ≡ cond (eqb (suc n) 0) 0 (end + suc n) = (let e : N ≡ end + suc n = omega arith in e) ∙ sym (cond-false (eqb (suc n) 0) 0 (end + suc n) (ne_eqb (suc n) 0 (omega arith))) in
      record {
        cuts = did.cuts ∙ ap (λ xs. (step K s xs end).cuts) cuts;
        number = omega (arith, did.number, number);
        total = did.total ∙ ap (λ xs. (step K s xs end).total) cuts;
        reads = omega (arith, did.reads, before.left.reads, ap (λ xs. (step K s xs end).reads) cuts);
        cells = did.cells ∙ ap (λ xs. over (step K s xs end).cells (map k.means vs)) cuts ∙ ap (over (step K s was.cuts end).cells) before.left.cells;
        kept = subst (λ z. drop z vs' ≡ drop z old) N-is (did.kept ∙ agree_behind (cond (eqb n 0) 0 (end + n)) N vs old filled before.left.kept);
      }

  pub climbed_reads : {vs' : List V} {t : Stepped V} → end ≤ longest → n < most_cuts → StepLeft k s r.cuts end vs vs' t → r.reads + t.reads ≤ 1 + suc n * 62000
  climbed_reads short less did =
      let held : length r.cuts ≡ n = ap length before.left.cuts ∙ climb_length k.costs s end (map k.means old) n in
      omega (arith, did.reads, before.few, step_few k.costs s r.cuts end climbed_plan short (omega arith))

  pub climbed_more : {vs' : List V} {t : Stepped V} → end ≤ longest → n < most_cuts → StepLeft k s r.cuts end vs vs' t → Climbed k s end old (n + 1) vs' (record { cuts = t.cuts; total = t.total; reads = r.reads + t.reads })
  climbed_more {vs'} {t} short less did =
      let one : suc n ≡ n + 1 = omega arith in
      subst (λ z. Climbed k s end old z vs' (record { cuts = t.cuts; total = t.total; reads = r.reads + t.reads })) one
      (record { left = left_more did; few = climbed_reads short less did })
