-- A list of calls, made one after another: what holds after the first i of them.
use Rattle.std.proofs.Common.{◌≡◌, ℕ, ◌+◌, ◌-◌, ◌≤◌, max, List, [], ◌∷◌, ◌++◌, map, length, drop, sym, refl, ap, ◌∙◌, subst, arith}
use Rattle.std.proofs.lemmas.List.{append-nil, append_assoc, drop-drop, drop_all, map_push}
use Rattle.costs.specs.Costs.{Costs}
use Rattle.costs.specs.declared.kind.Kind as kind
use Rattle.sources.specs.declared.source.Source as source
use Rattle.sources.specs.Meant.{meant}
use Rattle.sources.specs.Scales.{Scale}
use Rattle.calls.specs.declared.call.Call.{Call}
use Rattle.jobs.specs.declared.job.Job.{Job}
use Rattle.jobs.specs.declared.record.Record.{Record}
use Rattle.calls.specs.Calls.{State, Answer, Outcome, does, filled}
use Rattle.jobs.specs.Jobs.{state_of, recorded_of, Did, Ran}
use Rattle.calls.specs.Lives.{Life, then, Law}
use Rattle.calls.specs.Runs.{Recorded, Run, runs, Lived, furthest}

-- ---- records and runs

-- records before those of a run
abbrev after : {K : Costs} → List (Recorded K) → Run K → Run K
after rs r = record { records = rs ++ r.records; state = r.state; cells = r.cells }

furthest_push : {K : Costs} (rs : List (Recorded K)) (r : Recorded K) → furthest (rs ++ r ∷ []) ≡ max (furthest rs) (filled r.state r.answer)
furthest_push [] r = omega arith
furthest_push (q ∷ rs) r = omega (arith, furthest_push rs r)

lived_push : {K : Costs} {s : Scale K} {bound : ℕ} (rs : List (Recorded K)) (r : Recorded K) → Lived K s bound rs → Life K s bound r.state → Lived K s bound (rs ++ r ∷ [])
lived_push [] r ls l = (l, tt)
lived_push (q ∷ rs) r ls l = (ls.0, lived_push rs r ls.1 l)

-- lists that agree from a on agree from every later place on
agree_on : {X : Type 0} (a n : ℕ) (xs ys : List X) → a ≤ n → drop a xs ≡ drop a ys → drop n xs ≡ drop n ys
agree_on a n xs ys h e =
    let f : a + (n - a) ≡ n = omega arith in
    ap (λ m. drop m xs) (sym f) ∙ sym (drop-drop (n - a) a xs) ∙ ap (drop (n - a)) e ∙ drop-drop (n - a) a ys ∙ ap (λ m. drop m ys) f

-- ---- the state of a run

pub record Running {V S : Type 0} (k : kind.Ghosts V) (m : source.Ghosts S V) (bound : ℕ) (calls : List Call) (before at : Job S V m k) (old cells : List V) (records : List (Record V)) (i : ℕ) : Type 0 where
  pub source : at.source ≡ before.source
  pub going : after (map (recorded_of k) records) (runs k.costs (meant k m before.source) bound (state_of k at) (map k.means cells) (drop i calls)) ≡ runs k.costs (meant k m before.source) bound (state_of k before) (map k.means old) calls
  pub kept : drop (furthest (map (recorded_of k) records)) cells ≡ drop (furthest (map (recorded_of k) records)) old
  pub life : Life k.costs (meant k m before.source) bound (state_of k before) → Lived k.costs (meant k m before.source) bound (map (recorded_of k) records) × Life k.costs (meant k m before.source) bound (state_of k at)

module _ {V S : Type 0} (k : kind.Ghosts V) (m : source.Ghosts S V) (bound : ℕ) (calls : List Call) (before : Job S V m k) (old : List V) where
  abbrev s : Scale k.costs
  s = meant k m before.source

  -- one call more from a state and cells, where it came to this outcome
  one_more : (rs : List (Recorded k.costs)) (call : Call) (answer : Answer k.costs) (next : State k.costs) (new : List k.costs.Cost) (at : State k.costs) (cells : List k.costs.Cost) (rest : List Call)
      → record { state = next; cells = new; answer = answer } ≡ does k.costs s bound at call cells
      → after (rs ++ record { call = call; answer = answer; state = next } ∷ []) (runs k.costs s bound next new rest) ≡ after rs (runs k.costs s bound at cells (call ∷ rest))
  one_more rs call answer next new at cells rest out =
      let later = runs k.costs s bound next new rest in
      ap (λ x. record { records = x; state = later.state; cells = later.cells }) (append_assoc rs (record { call = call; answer = answer; state = next } ∷ []) later.records)
      ∙ ap (λ o. let t = runs k.costs s bound o.state o.cells rest in after rs (record { records = record { call = call; answer = o.answer; state = o.state } ∷ t.records; state = t.state; cells = t.cells })) out

  pub running_first : Running k m bound calls before before old old [] 0
  running_first = record { source = refl; going = refl; kept = refl; life = λ l. (tt, l) }

  pub running_more : {at next : Job S V m k} {cells new : List V} {records : List (Record V)} {i : ℕ} (call : Call) (rest : List Call) (r : Record V) (answer : Answer k.costs)
      → Running k m bound calls before at old cells records i → drop i calls ≡ call ∷ rest → drop (i + 1) calls ≡ rest
      → Did k m bound call at next cells new answer → recorded_of k r ≡ record { call = call; answer = answer; state = state_of k next }
      → Running k m bound calls before next old new (records ++ r ∷ []) (i + 1)
  running_more {at} {next} {cells} {new} {records} {i} call rest r answer run here later did is =
      let rs : List (Recorded k.costs) = map (recorded_of k) records in
      let q : Recorded k.costs = record { call = call; answer = answer; state = state_of k next } in
      let O : Outcome k.costs = record { state = state_of k next; cells = map k.means new; answer = answer } in
      let out : O ≡ does k.costs s bound (state_of k at) call (map k.means cells) = subst (λ x. O ≡ does k.costs (meant k m x) bound (state_of k at) call (map k.means cells)) run.source did.outcome in
      let pushed : map (recorded_of k) (records ++ r ∷ []) ≡ rs ++ q ∷ [] = map_push (recorded_of k) records r ∙ ap (λ x. rs ++ x ∷ []) is in
      record {
        source = did.source ∙ run.source;
        going = rw (pushed, later) (one_more rs call answer (state_of k next) (map k.means new) (state_of k at) (map k.means cells) rest out ∙ ap (λ cs. after rs (runs k.costs s bound (state_of k at) (map k.means cells) cs)) (sym here) ∙ run.going);
        kept = rw (pushed, furthest_push rs q)
            (agree_on (filled q.state answer) (max (furthest rs) (filled q.state answer)) new cells (omega arith) did.kept
            ∙ agree_on (furthest rs) (max (furthest rs) (filled q.state answer)) cells old (omega arith) run.kept);
        life = λ l.
            let now = subst (Life k.costs s bound) (ap (λ o. o.state) (sym out)) (then (run.life l).1 call (map k.means cells)) in
            (rw pushed (lived_push rs q (run.life l).0 now), now);
      }

  pub running_last : {at : Job S V m k} {cells : List V} {records : List (Record V)} {i : ℕ} → Running k m bound calls before at old cells records i → length calls ≤ i → Law k.costs s bound → Ran k m bound calls before at old cells records
  running_last {at} {cells} {records} {i} run h law =
      let rs : List (Recorded k.costs) = map (recorded_of k) records in
      let end : drop i calls ≡ [] = drop_all i calls h in
      record {
        source = run.source;
        run = ap (λ x. record { records = x; state = state_of k at; cells = map k.means cells }) (sym (append-nil rs)) ∙ ap (λ cs. after rs (runs k.costs s bound (state_of k at) (map k.means cells) cs)) (sym end) ∙ run.going;
        kept = run.kept;
        life = λ l. (run.life l).0;
        law = law;
      }
